-- The frames written for a record, and the number of rules in its entry (RFC 791 section 3.1, RFC
-- 826, and this project's profile).
use Rattle.std.specs.Prelude.{◌≡◌, ℕ, ◌≤◌, ◌⊎◌, List, length, drop, Some, None}
use Rattle.std.specs.List.{AllByRecursion}
use Rattle.wire_base.specs.declared.address.Link.{Link}
use Rattle.wire_base.specs.declared.frame.FrameKind.TheVariants.{Ip, Arp}
use Rattle.wire_base.specs.Frames.{kind_of, packet_in}
use Rattle.wire_base.specs.Ipv4 as ip
use Rattle.wire_base.specs.Plain.{IsPlainHeader}
use Rattle.pcap_file.specs.Records.{Packet}
use Rattle.tcp_codec.specs.declared.header.SumRule.TheVariants.{Skip}
use Rattle.tcp_codec.specs.HeaderFields.{fault_of}
use Rattle.norm_settings.specs.SettingValues.{PlainSettings}
use Rattle.norm_engine.specs.Items.{Item}
use Rattle.norm_engine.specs.Trace.{item_of}
use Rattle.norm_engine.specs.CleanRecords.{HasOctets, HaveOctets}
use Rattle.rule_book.specs.declared.entry.TheConstants.{MAX_NAMED}

-- an unfragmented packet with a header of 20 octets, and a segment without a fault, if it carries
-- TCP; its checksum is not checked
pub record IsWholePacket (packet : List ℕ) : Type 0 where
  pub header : IsPlainHeader packet
  pub segment : ip.protocol packet ≡ 6 → fault_of Skip 0 (ip.payload packet) ≡ None

-- the frame carries such a packet
abbrev pub CarriesWhole : Link → (frame : List ℕ) → Type 0
CarriesWhole link frame = (at : ℕ) × (kind_of link frame ≡ Ip at) × IsWholePacket (packet_in link frame)

-- the frame carries ARP, or such a packet
abbrev pub GoesOut : Link → (frame : List ℕ) → Type 0
GoesOut link frame = (kind_of link frame ≡ Arp) ⊎ CarriesWhole link frame

-- Each frame of the item satisfies this, and each of an era carries a packet. Each after the first
-- has a packet of 40 octets, as a probe has. The entry names at most 14 rules.
pub record IsOutgoing (link : Link) (item : Item) : Type 0 where
  pub each : AllByRecursion (GoesOut link) item.frames
  pub of_era : (era : ℕ) → item.entry.era ≡ Some era → AllByRecursion (CarriesWhole link) item.frames
  pub behind : AllByRecursion (λ frame. length (packet_in link frame) ≡ 40) (drop 1 item.frames)
  pub few : length item.entry.rules ≤ MAX_NAMED

-- this holds for each item of a record of octets, after others
abbrev pub ItemsGoOut : Type 0
ItemsGoOut =
    (settings : PlainSettings) (link : Link) (history : List Item) (r : Packet) → settings.hops ≤ 254 → HaveOctets history → HasOctets r
    → IsOutgoing link (item_of settings link history r)
