-- Laws of lawful traces.
use Rattle.std.specs.Prelude.{◌≡◌, ◌≢◌, ℕ, ◌*◌, ◌≤◌, List, [], ◌∷◌, length, Some}
use Rattle.std.specs.List.{AllByRecursion}
use Rattle.wire_base.specs.declared.address.Link.{Link}
use Rattle.pcap_file.specs.Records.{Packet}
use Rattle.rule_book.specs.declared.rule.Rule.TheVariants as rules
use Rattle.rule_book.specs.Entries.{IsOfVersion}
use Rattle.norm_settings.specs.SettingValues.{PlainSettings}
use Rattle.era_state.specs.Quantities.{base_of, end_of, first}
use Rattle.receiver_model.specs.Monitors.{StayNearAcks}
use Rattle.receiver_model.specs.StreamParts.{AreOfStream}
use Rattle.era_agreement.specs.SentPackets.{inward_packets, inward_places, inward_acks, written_in}
use Rattle.era_agreement.specs.AgreementLaws.{TellsItsStream}
use Rattle.tcp_norm.specs.Calls.{eras}
use Rattle.tcp_norm.specs.SegmentPackets.{AreOfSegments, IsBounded}
use Rattle.reassembly.specs.CallLaws as fragments
use Rattle.norm_engine.specs.Items.{Item, packets}
use Rattle.norm_engine.specs.Fragments.{piece_calls}
use Rattle.norm_engine.specs.Calls.{flow_calls}
use Rattle.norm_engine.specs.Trace.{Lawful, item_of}
use Rattle.norm_engine.specs.CleanRecords.{HaveOctets, CleanIsKept}
use Rattle.norm_engine.specs.Agreement.{Agree, AtEachHistory, MissesNothing, ReadsOneStream, sent_in}

-- a trace of records of octets that is lawful for settings of at most 254 routers
pub record IsSound (settings : PlainSettings) (link : Link) (trace : List Item) : Type 0 where
  pub hops : settings.hops ≤ 254
  pub octets : HaveOctets trace
  pub lawful : Lawful settings link trace

-- an entry counts the frames of its item, of which there are at most two, and reports each era that
-- ended with its octets
pub record IsCounted (item : Item) : Type 0 where
  pub packets : item.entry.packets ≡ length item.frames
  pub few : length item.frames ≤ 2
  pub octets : IsOfVersion 2 item.entry

-- this holds for each item
abbrev pub ItemsAreCounted : Type 0
ItemsAreCounted = (settings : PlainSettings) (link : Link) (history : List Item) (r : Packet) → IsCounted (item_of settings link history r)

-- In every lawful trace each clean record has exactly one frame, with its payload, and identical to
-- the record if the verdict is pass.
abbrev pub LawfulKeepsClean : Type 0
LawfulKeepsClean = (settings : PlainSettings) (link : Link) (trace : List Item) → IsSound settings link trace → CleanIsKept settings link trace

-- Records have at most one lawful trace, whatever the seed of the tables' hashes.
abbrev pub LawfulIsOne : Type 0
LawfulIsOne =
    (settings : PlainSettings) (seed : ℕ) (link : Link) (trace other : List Item)
    → Lawful settings link trace → Lawful (record settings { seed = seed }) link other → packets trace ≡ packets other → trace ≡ other

-- The calls of a lawful trace are those that the rules make of its segments.
abbrev pub LawfulCallsAreMade : Type 0
LawfulCallsAreMade =
    (settings : PlainSettings) (link : Link) (trace : List Item) → IsSound settings link trace → AreOfSegments settings (flow_calls settings link trace)

-- After a history the numbers of live eras, of blocks with octets of streams, of held datagrams and
-- of blocks with octets of fragments do not exceed the settings.
pub record IsWithin (settings : PlainSettings) (link : Link) (history : List Item) : Type 0 where
  pub flows : length (eras (flow_calls settings link history)) ≤ settings.flows
  pub held : IsBounded settings (flow_calls settings link history)
  pub fragments : fragments.IsWithin settings (piece_calls settings link history)

-- this holds at each history of a trace: before its first record and after each
abbrev pub IsAlwaysWithin : PlainSettings → Link → List Item → Type 0
IsAlwaysWithin settings link [] = IsWithin settings link []
IsAlwaysWithin settings link (item ∷ older) = IsAlwaysWithin settings link older × IsWithin settings link (item ∷ older)

abbrev pub LawfulIsWithin : Type 0
LawfulIsWithin = (settings : PlainSettings) (link : Link) (trace : List Item) → IsSound settings link trace → IsAlwaysWithin settings link trace

-- If a quota is set and the cells suffice for the quota of each era, no entry names T_ROOM.
abbrev pub LawfulLeavesRoom : Type 0
LawfulLeavesRoom =
    (settings : PlainSettings) (link : Link) (history : List Item) (r : Packet) (most : ℕ) → IsSound settings link history
    → settings.quota ≡ Some most → settings.flows * most ≤ settings.cells
    → AllByRecursion (λ rule. rule ≢ rules.TRoom) (item_of settings link history r).entry.rules

-- In each era of every lawful trace all receivers agree.
abbrev pub LawfulAgrees : Type 0
LawfulAgrees = (settings : PlainSettings) (link : Link) (trace : List Item) → IsSound settings link trace → Agree settings.hops link trace

-- In each era of every lawful trace all receivers read parts of one stream.
abbrev pub LawfulReadsOneStream : Type 0
LawfulReadsOneStream = (settings : PlainSettings) (link : Link) (trace : List Item) → IsSound settings link trace → ReadsOneStream settings.hops link trace

-- The frames written inwards in an era whose base is fixed are of this stream: their octets and
-- FINs are those written first, and no octet is at or past its end.
abbrev pub LawfulIsOfOneStream : Type 0
LawfulIsOfOneStream =
    (settings : PlainSettings) (link : Link) (trace : List Item) → IsSound settings link trace
    → (era base : ℕ) → let sent = sent_in link trace in let ws = written_in era sent in
    base_of ws ≡ Some base → AreOfStream (first base ws) (end_of base ws) (inward_places era base sent) (inward_packets era sent)

-- At each history of every lawful trace, a monitor misses nothing of what was written inwards in an
-- era so far.
abbrev pub LawfulMissesNothing : Type 0
LawfulMissesNothing =
    (settings : PlainSettings) (link : Link) (trace : List Item) → IsSound settings link trace → AtEachHistory (MissesNothing settings.hops link) trace

-- In each era of a lawful trace whose base is fixed, the frames written inwards describe one
-- stream, each at the offset of its number. Each of their octets is the first at its offset, and
-- each FIN is at the offset of the first one.
abbrev pub LawfulTellsStreams : Type 0
LawfulTellsStreams =
    (settings : PlainSettings) (link : Link) (trace : List Item) → IsSound settings link trace
    → (era base : ℕ) → base_of (written_in era (sent_in link trace)) ≡ Some base → TellsItsStream settings.hops era base (sent_in link trace)

-- They stay near what was acknowledged before the record of each.
abbrev pub LawfulStaysNearAcks : Type 0
LawfulStaysNearAcks =
    (settings : PlainSettings) (link : Link) (trace : List Item) → IsSound settings link trace
    → (era base : ℕ) → let sent = sent_in link trace in
    base_of (written_in era sent) ≡ Some base → StayNearAcks (inward_acks era base sent) (inward_places era base sent) (inward_packets era sent)
