-- What is written for a record is read in one way (this project's profile).
use Rattle.std.specs.Prelude.{◌≡◌, ℕ, ◌≤◌, true, List, length, Some, IsSome}
use Rattle.std.specs.List.{AllByRecursion}
use Rattle.wire_base.specs.declared.address.Link.{Link}
use Rattle.wire_base.specs.declared.address.Side.TheVariants.{Inward, Outward}
use Rattle.wire_base.specs.Ipv4 as ip
use Rattle.wire_base.specs.Tcp as tcp
use Rattle.wire_base.specs.Options.{are_well_formed}
use Rattle.wire_base.specs.Frames.{packet_in}
use Rattle.wire_base.specs.Plain.{Plain, IsPlainHeader}
use Rattle.pcap_file.specs.Records.{Packet}
use Rattle.norm_settings.specs.SettingValues.{PlainSettings}
use Rattle.era_agreement.specs.AgreementLaws.{IsEmittedEra}
use Rattle.tcp_norm.specs.Calls.{is_written}
use Rattle.norm_engine.specs.Items.{Item}
use Rattle.norm_engine.specs.Trace.{item_of}
use Rattle.norm_engine.specs.CleanRecords.{HasOctets, HaveOctets}
use Rattle.norm_engine.specs.Agreement.{sent_in}
use Rattle.norm_engine.specs.TraceLaws.{IsSound}

-- the packet is a TCP segment with complete headers, legal flags and well-formed options
pub record IsWholeSegment (p : List ℕ) : Type 0 where
  pub header : IsPlainHeader p
  pub protocol : ip.protocol p ≡ 6
  pub least : 20 ≤ tcp.header_length (ip.payload p)
  pub inside : tcp.header_length (ip.payload p) ≤ length (ip.payload p)
  pub legal : tcp.are_legal (tcp.flags (ip.payload p)) ≡ true
  pub formed : are_well_formed (tcp.options (ip.payload p)) ≡ true

-- Each packet written inwards is plain; each packet of an era is a segment; an item of an era has a
-- side; and each outward item of an era was written.
pub record IsCertain (hops : ℕ) (link : Link) (item : Item) : Type 0 where
  pub plain : item.entry.side ≡ Some Inward → AllByRecursion (λ frame. Plain hops (packet_in link frame)) item.frames
  pub segments : IsSome item.entry.era → AllByRecursion (λ frame. IsWholeSegment (packet_in link frame)) item.frames
  pub sided : IsSome item.entry.era → IsSome item.entry.side
  pub written : item.entry.side ≡ Some Outward → IsSome item.entry.era → is_written item.entry.verdict ≡ true

-- this holds for each item of a record of octets, after others of octets, with at most 254 routers
-- behind the bridge
abbrev pub ItemsAreCertain : Type 0
ItemsAreCertain =
    (settings : PlainSettings) (link : Link) (history : List Item) (r : Packet) → settings.hops ≤ 254 → HaveOctets history → HasOctets r
    → IsCertain settings.hops link (item_of settings link history r)

-- In each era of a lawful trace the segments written are emitted, each after those before it,
-- packets sent inwards are plain, and those other than its segments (probes) have no octet, SYN or
-- FIN.
abbrev pub LawfulIsEmitted : Type 0
LawfulIsEmitted =
    (settings : PlainSettings) (link : Link) (trace : List Item) → IsSound settings link trace → (era : ℕ) → IsEmittedEra settings.hops era (sent_in link trace)
