-- Inbound packets as they were recorded, and what receivers of them read where norm changed none of
-- them (RFC 791 section 3.1, and this project's profile).
use Rattle.std.specs.Prelude.{◌≡◌, ◌≢◌, ℕ, ◌==◌, ◌&&◌, ◌||◌, not, Bool, true, List, [], ◌∷◌, ◌++◌, map, Some, if◌then◌else◌}
use Rattle.std.specs.List.{AllByRecursion}
use Rattle.wire_base.specs.declared.address.Link.{Link}
use Rattle.wire_base.specs.declared.address.Side.TheVariants.{Outward}
use Rattle.wire_base.specs.Frames.{packet_in}
use Rattle.wire_base.specs.Ipv4 as ip
use Rattle.pcap_file.specs.Records.{Packet}
use Rattle.rule_book.specs.declared.entry.Verdict.TheVariants as verdicts
use Rattle.norm_settings.specs.SettingValues.{PlainSettings}
use Rattle.receiver_model.specs.Monitors.{EraMissesNothing}
use Rattle.receiver_model.specs.StreamParts.{EachReadsPart}
use Rattle.era_state.specs.Quantities.{base_of, end_of, first}
use Rattle.era_agreement.specs.Agreement.{EraIsSound}
use Rattle.era_agreement.specs.SentPackets.{Sent, inward_packets, inward_places, written_in}
use Rattle.ip_rules.specs.RuleRows.{carries_ip, is_inward}
use Rattle.tcp_norm.specs.Calls.{is_written}
use Rattle.norm_engine.specs.Items.{Item, packets}
use Rattle.norm_engine.specs.RuleRows.{side_of_record}
use Rattle.norm_engine.specs.Agreement.{AtEachHistory, sent_in}
use Rattle.norm_engine.specs.TraceLaws.{IsSound}

-- the addresses of packets that go inwards between two hosts: the source, which is outside, and the
-- destination, which is inside
pub record AddressPair : Type 0 where
  pub outside : ℕ
  pub inside : ℕ

-- the packet of the frame has this source and this destination
abbrev pub has_addresses : Link → AddressPair → (frame : List ℕ) → Bool
has_addresses link pair frame = (ip.source (packet_in link frame) == pair.outside) && (ip.destination (packet_in link frame) == pair.inside)

-- the frame carries IPv4, with these addresses
abbrev pub has_pair : Link → AddressPair → (frame : List ℕ) → Bool
has_pair link pair frame = carries_ip link frame && has_addresses link pair frame

-- the addresses of the packet can be read: it has version 4 and at least 20 octets
abbrev pub is_readable : Link → (frame : List ℕ) → Bool
is_readable link frame = not (ip.is_short (packet_in link frame)) && not (ip.has_other_version (packet_in link frame))

-- The record may be of this pair: its frame carries IPv4, by the EtherType on Ethernet, and its
-- addresses cannot be read or are these. A frame of another EtherType is of no pair, even if hosts
-- read an IPv4 packet in it, as after a VLAN tag.
abbrev pub may_have_pair : Link → AddressPair → Packet → Bool
may_have_pair link pair r = carries_ip link r.octets && (not (is_readable link r.octets) || has_addresses link pair r.octets)

-- every record
abbrev pub any_record : Packet → Bool
any_record r = true

-- each of these records whose line is inbound or has no side has the verdict pass
abbrev pub PassInwards : (concerns : Packet → Bool) → List Item → Type 0
PassInwards concerns trace = AllByRecursion (λ item. concerns item.packet ≡ true → item.entry.side ≢ Some Outward → item.entry.verdict ≡ verdicts.Pass) trace

-- the record goes inwards, by its capture or its addresses
abbrev pub goes_inwards : PlainSettings → Link → Packet → Bool
goes_inwards settings link r = is_inward (side_of_record settings link r)

-- the frames of these records that go inwards, as they were recorded, in order
abbrev pub recorded_inwards : PlainSettings → Link → (concerns : Packet → Bool) → List Packet → List (List ℕ)
recorded_inwards settings link concerns [] = []
recorded_inwards settings link concerns (r ∷ older) =
    recorded_inwards settings link concerns older ++ (if concerns r && goes_inwards settings link r then r.octets ∷ [] else [])

-- the frames that were written inwards for these records, in order
abbrev pub written_inwards : (concerns : Packet → Bool) → List Item → List (List ℕ)
written_inwards concerns [] = []
written_inwards concerns (item ∷ older) = written_inwards concerns older ++ (if concerns item.packet && is_inward item.entry.side then item.frames else [])

-- the side in the entry is that of the record itself, and exactly the recorded frame was written
pub record IsWrittenAsRecorded (settings : PlainSettings) (link : Link) (item : Item) : Type 0 where
  pub side : item.entry.side ≡ side_of_record settings link item.packet
  pub frame : item.frames ≡ item.packet.octets ∷ []

-- Each of these records that does not go outwards was written as it was recorded. So the recorded
-- frames that go inwards are those that were written inwards, frame for frame and in the same
-- order.
pub record AreWrittenAsRecorded (settings : PlainSettings) (link : Link) (concerns : Packet → Bool) (trace : List Item) : Type 0 where
  pub each :
      AllByRecursion
      (λ item. concerns item.packet ≡ true → side_of_record settings link item.packet ≢ Some Outward → IsWrittenAsRecorded settings link item)
      trace
  pub frames : recorded_inwards settings link concerns (packets trace) ≡ written_inwards concerns trace

-- the packet of a record as it was recorded, and the era in its entry
abbrev pub recorded_for : PlainSettings → Link → Item → Sent
recorded_for settings link item =
    record {
      inward = goes_inwards settings link item.packet;
      era = item.entry.era;
      written = is_written item.entry.verdict;
      packets = packet_in link item.packet.octets ∷ [];
    }

-- the packets of a trace as they were recorded
abbrev pub recorded_in : PlainSettings → Link → List Item → List Sent
recorded_in settings link trace = map (recorded_for settings link) trace

-- The recorded packets of the era that go inwards are those that were written inwards in it, in the
-- same order. So a host that had the recorded packets read what receivers of the written ones read:
-- any two agree, each reads a part of the era's stream, and a monitor of them misses nothing.
-- Whether the base is fixed, the base, the offsets and the stream are those of the trace.
pub record WasReadSo (settings : PlainSettings) (link : Link) (era : ℕ) (trace : List Item) : Type 0 where
  pub packets : inward_packets era (recorded_in settings link trace) ≡ inward_packets era (sent_in link trace)
  pub agree :
      EraIsSound settings.hops (base_of (written_in era (sent_in link trace))) (λ base. inward_places era base (sent_in link trace))
      (inward_packets era (recorded_in settings link trace))
  pub reads :
      (base : ℕ) → let ws = written_in era (sent_in link trace) in
      base_of ws ≡ Some base
      → EachReadsPart settings.hops base (inward_places era base (sent_in link trace)) (inward_packets era (recorded_in settings link trace)) (first base ws)
      (end_of base ws)
  pub monitor :
      (base : ℕ) → base_of (written_in era (sent_in link trace)) ≡ Some base
      → EraMissesNothing settings.hops base (inward_places era base (sent_in link trace)) (inward_packets era (recorded_in settings link trace))

-- each record of the era whose line is not outbound has this pair
abbrev pub IsOfPair : Link → AddressPair → (era : ℕ) → List Item → Type 0
IsOfPair link pair era trace =
    AllByRecursion (λ item. item.entry.era ≡ Some era → item.entry.side ≢ Some Outward → has_pair link pair item.packet.octets ≡ true) trace

-- Before the first record and after each, if each line so far that is inbound or has no side has
-- the verdict pass, the inward packets as recorded so far are those written inwards. This holds in
-- all and in each era, and they were read so. If that is the verdict of each such line of a record
-- that may be of a pair of addresses, the same holds for these records and for the eras of that
-- pair. Each era is of a pair.
pub record UnchangedWasReadSo (settings : PlainSettings) (link : Link) (trace : List Item) : Type 0 where
  pub all_written : AtEachHistory (λ history. PassInwards any_record history → AreWrittenAsRecorded settings link any_record history) trace
  pub all_read : AtEachHistory (λ history. PassInwards any_record history → (era : ℕ) → WasReadSo settings link era history) trace
  pub pair_written :
      (pair : AddressPair)
      → AtEachHistory (λ history. PassInwards (may_have_pair link pair) history → AreWrittenAsRecorded settings link (may_have_pair link pair) history) trace
  pub pair_read :
      (pair : AddressPair)
      → AtEachHistory
      (λ history. PassInwards (may_have_pair link pair) history → (era : ℕ) → IsOfPair link pair era history → WasReadSo settings link era history)
      trace
  pub pair_of : (era : ℕ) → (pair : AddressPair) × IsOfPair link pair era trace

-- this holds for each lawful trace of records of octets with at most 254 routers
abbrev pub LawfulWasReadSo : Type 0
LawfulWasReadSo = (settings : PlainSettings) (link : Link) (trace : List Item) → IsSound settings link trace → UnchangedWasReadSo settings link trace
