-- Clean records, whose payload is written as it was read (this project's profile).
use Rattle.std.specs.Prelude.{◌≡◌, ℕ, ◌<◌, ◌==◌, ◌&&◌, not, Bool, true, List, [], ◌∷◌, drop, slice_index, is_none, if◌then◌else◌}
use Rattle.std.specs.List.{list_any}
use Rattle.wire_base.specs.declared.address.Link.{Link}
use Rattle.wire_base.specs.Ipv4 as ip
use Rattle.wire_base.specs.Tcp as tcp
use Rattle.wire_base.specs.Frames.{packet_in}
use Rattle.pcap_file.specs.Records.{Packet}
use Rattle.rule_book.specs.declared.entry.Verdict.TheVariants as verdicts
use Rattle.rule_book.specs.Rules.{touches_payload}
use Rattle.norm_settings.specs.SettingValues.{PlainSettings}
use Rattle.ip_rules.specs.RuleRows.{carries_ip}
use Rattle.norm_engine.specs.Items.{Item}
use Rattle.norm_engine.specs.Trace.{dropped_by, named_rows, read_after}

-- no rule drops the record, and none that touches a payload holds
abbrev pub is_clean : PlainSettings → Link → (history : List Item) → Packet → Bool
is_clean settings link history r =
    let read = read_after settings link history r in
    is_none (dropped_by settings link read r) && not (list_any touches_payload (named_rows settings link read r))

-- the payload of a packet: the octets after the TCP or the UDP header, or the entire message of
-- another protocol
abbrev pub payload_of : (packet : List ℕ) → List ℕ
payload_of p =
    if ip.protocol p == 6 then tcp.payload (ip.payload p) else if ip.protocol p == 17 then drop 8 (ip.payload p) else ip.payload p

-- the payload of a frame: that of its packet, or the entire frame if it carries no IPv4
abbrev pub payload_in : Link → (frame : List ℕ) → List ℕ
payload_in link frame = if carries_ip link frame then payload_of (packet_in link frame) else frame

-- the item has exactly one frame, with its record's payload, and identical to its record if the
-- verdict is pass
pub record KeepsPayload (link : Link) (item : Item) : Type 0 where
  pub frame : List ℕ
  pub only : item.frames ≡ frame ∷ []
  pub same : payload_in link frame ≡ payload_in link item.packet.octets
  pub whole : item.entry.verdict ≡ verdicts.Pass → frame ≡ item.packet.octets

-- each clean record of the trace keeps its payload
abbrev pub CleanIsKept : PlainSettings → Link → List Item → Type 0
CleanIsKept settings link [] = Unit {0}
CleanIsKept settings link (item ∷ older) =
    CleanIsKept settings link older × (is_clean settings link older item.packet ≡ true → KeepsPayload link item)

-- each octet of the record is a number below 256
abbrev pub HasOctets : Packet → Type 0
HasOctets r = (at : ℕ) → slice_index r.octets at < 256

-- each octet of each record of the trace is a number below 256
abbrev pub HaveOctets : List Item → Type 0
HaveOctets [] = Unit {0}
HaveOctets (item ∷ older) = HaveOctets older × HasOctets item.packet
