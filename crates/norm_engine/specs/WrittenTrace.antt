-- What is written with an MTU of the next link: the lawful trace, with each frame replaced by the
-- frames written instead, and with its entries changed accordingly (this project's profile).
-- Without an MTU it is the lawful trace itself.
use Rattle.std.specs.Prelude.{◌≡◌, ◌↔◌, ℕ, ℤ, Bool, true, false, List, [], ◌∷◌, ◌++◌, length, map, All, Option, Some, None, if◌then◌else◌}
use Rattle.std.specs.List.{AllByRecursion, flat_map, list_any}
use Rattle.wire_base.specs.declared.address.Link.{Link}
use Rattle.rule_book.specs.declared.rule.Rule.{Rule}
use Rattle.rule_book.specs.declared.rule.Rule.TheVariants as rules
use Rattle.rule_book.specs.declared.entry.Verdict.{Verdict}
use Rattle.rule_book.specs.declared.entry.Verdict.TheVariants as verdicts
use Rattle.rule_book.specs.Entries.{PlainEntry}
use Rattle.norm_settings.specs.SettingValues.{AreInRange, PlainSettings}
use Rattle.receiver_model.specs.Monitors.{EraMissesNothing}
use Rattle.receiver_model.specs.StreamParts.{EachReadsPart}
use Rattle.era_state.specs.Quantities.{base_of, end_of, first}
use Rattle.era_agreement.specs.SentPackets.{inward_packets, inward_places, written_in}
use Rattle.era_agreement.specs.Agreement.{EraIsSound}
use Rattle.norm_engine.specs.Items.{Item}
use Rattle.norm_engine.specs.CleanRecords.{KeepsPayload, is_clean, payload_in}
use Rattle.norm_engine.specs.Agreement as norm_engine
use Rattle.norm_engine.specs.Agreement.{Agree, AtEachHistory, sent_in}
use Rattle.norm_engine.specs.TraceLaws.{IsAlwaysWithin, IsSound}
use Rattle.norm_engine.specs.BroughtOctets.{Contradicts, names_clash}
use Rattle.norm_engine.specs.GivenOctets.{ReadsItsRecords}
use Rattle.norm_engine.specs.HeldFragments.{ContradictsHeld, names_fragment_clash}
use Rattle.norm_engine.specs.SentFrames.{ArePlainInwards, HasShortFrames}
use Rattle.emit_mtu.specs.FrameParts.{AreOctets}
use Rattle.emit_mtu.specs.CutLaws as cuts
use Rattle.emit_mtu.specs.LongFrames.{e_cut, e_mtu, is_long}
use Rattle.emit_mtu.specs.CutStreams.{frames_for, places_for}

-- the frames that are written for these frames
abbrev pub frames_written : (mtu : Option ℕ) → Link → (frames : List (List ℕ)) → List (List ℕ)
frames_written None link frames = frames
frames_written (Some mtu) link frames = flat_map (frames_for link mtu) frames

-- E_CUT: one of the frames is cut
abbrev pub cuts_some : (mtu : Option ℕ) → Link → (frames : List (List ℕ)) → Bool
cuts_some None link frames = false
cuts_some (Some mtu) link frames = list_any (e_cut link mtu) frames

-- E_MTU: one of the frames is dropped
abbrev pub keeps_some_back : (mtu : Option ℕ) → Link → (frames : List (List ℕ)) → Bool
keeps_some_back None link frames = false
keeps_some_back (Some mtu) link frames = list_any (e_mtu link mtu) frames

-- the rules named for this, after all others
abbrev pub rules_cut : (cut kept_back : Bool) → List Rule
rules_cut cut kept_back = (if cut then rules.ECut ∷ [] else []) ++ (if kept_back then rules.EMtu ∷ [] else [])

-- the verdict is drop if a frame is dropped, otherwise fix if one is cut
abbrev pub verdict_cut : (cut kept_back : Bool) → Verdict → Verdict
verdict_cut cut kept_back verdict = if kept_back then verdicts.Drop else if cut then verdicts.Fix else verdict

-- the entry of an item with frames that are cut or dropped; `packets` are written
abbrev pub entry_cut : (cut kept_back : Bool) → (packets : ℕ) → PlainEntry → PlainEntry
entry_cut cut kept_back packets entry =
    record entry { verdict = verdict_cut cut kept_back entry.verdict; packets = packets; rules = entry.rules ++ rules_cut cut kept_back }

abbrev pub entry_written : (mtu : Option ℕ) → Link → (frames : List (List ℕ)) → PlainEntry → PlainEntry
entry_written None link frames entry = entry
entry_written (Some mtu) link frames entry =
    entry_cut (cuts_some (Some mtu) link frames) (keeps_some_back (Some mtu) link frames) (length (frames_written (Some mtu) link frames)) entry

-- the item as it is written
abbrev pub item_written : (mtu : Option ℕ) → Link → Item → Item
item_written mtu link item =
    record { packet = item.packet; entry = entry_written mtu link item.frames item.entry; frames = frames_written mtu link item.frames }

-- the trace as it is written
abbrev pub written : PlainSettings → Link → List Item → List Item
written settings link trace = map (item_written settings.mtu link) trace

-- without an MTU that is the trace itself
abbrev pub WrittenWhole : Type 0
WrittenWhole = (settings : PlainSettings) (link : Link) (trace : List Item) → settings.mtu ≡ None → written settings link trace ≡ trace

-- the rule is one of the two
abbrev pub is_of_cuts : Rule → Bool
is_of_cuts rules.ECut = true
is_of_cuts rules.EMtu = true
is_of_cuts _ = false

-- If the written entry names neither rule, exactly one frame is written, with the record's payload,
-- and octet for octet if the verdict is pass. If a frame is cut, its segments carry the record's
-- payload after their headers, in order and once.
pub record WritesPayload (mtu : Option ℕ) (link : Link) (item : Item) : Type 0 where
  pub kept : list_any is_of_cuts (item_written mtu link item).entry.rules ≡ false → KeepsPayload link (item_written mtu link item)
  pub cut : cuts_some mtu link item.frames ≡ true → flat_map (cuts.payload_in link) (item_written mtu link item).frames ≡ payload_in link item.packet.octets

-- this holds for each clean record of the trace
abbrev pub CleanIsWritten : PlainSettings → Link → List Item → Type 0
CleanIsWritten settings link [] = Unit {0}
CleanIsWritten settings link (item ∷ older) =
    CleanIsWritten settings link older × (is_clean settings link older item.packet ≡ true → WritesPayload settings.mtu link item)

-- the offsets of the packets that are written for these
abbrev pub places_written : (mtu : Option ℕ) → (places : List ℤ) → (packets : List (List ℕ)) → List ℤ
places_written None places packets = places
places_written (Some mtu) places packets = places_for mtu places packets

-- In each era whose base is fixed, the packets that are written inwards are plain, and their SYNs
-- have the number before the base. Any two receivers of the family behind at most `hops` routers
-- that start at the same offset agree: one stream is a prefix of the other, and one that has ended
-- is not the shorter. It does not matter which packets reach them in time, how often and in which
-- order. An era without a base has no octet, no SYN and no FIN inwards. The base, whether it is
-- fixed, and the offsets are those of the lawful trace.
abbrev pub AgreeAsWritten : PlainSettings → Link → List Item → Type 0
AgreeAsWritten settings link trace =
    (era : ℕ) → let sent = sent_in link trace in
    EraIsSound settings.hops (base_of (written_in era sent)) (λ base. places_written settings.mtu (inward_places era base sent) (inward_packets era sent))
    (inward_packets era (sent_in link (written settings link trace)))

-- In each era whose base is fixed, any receiver, from whichever offset it starts, reads a part of
-- one stream of the packets that are written inwards. The base, the offsets, the octets and the end
-- of that stream are those of the lawful trace.
abbrev pub ReadsOneStreamAsWritten : PlainSettings → Link → List Item → Type 0
ReadsOneStreamAsWritten settings link trace =
    (era base : ℕ) → let sent = sent_in link trace in let ws = written_in era sent in
    base_of ws ≡ Some base →
    EachReadsPart settings.hops base (places_written settings.mtu (inward_places era base sent) (inward_packets era sent))
    (inward_packets era (sent_in link (written settings link trace))) (first base ws) (end_of base ws)

-- In each era whose base is fixed, a monitor misses nothing of the packets that are written
-- inwards. The base and the offsets are those of the lawful trace.
abbrev pub MissesNothingAsWritten : PlainSettings → Link → List Item → Type 0
MissesNothingAsWritten settings link trace =
    (era base : ℕ) → let sent = sent_in link trace in
    base_of (written_in era sent) ≡ Some base →
    EraMissesNothing settings.hops base (places_written settings.mtu (inward_places era base sent) (inward_packets era sent))
    (inward_packets era (sent_in link (written settings link trace)))

-- without an MTU that is agreement on the trace itself
abbrev pub AgreesWhole : Type 0
AgreesWhole = (settings : PlainSettings) (link : Link) (trace : List Item) → settings.mtu ≡ None
    → (AgreeAsWritten settings link trace → Agree settings.hops link trace) × (Agree settings.hops link trace → AgreeAsWritten settings link trace)

-- receivers read parts of one stream of what is written exactly if they do of the trace
abbrev pub ReadsWhole : Type 0
ReadsWhole = (settings : PlainSettings) (link : Link) (trace : List Item) → settings.mtu ≡ None
    → (ReadsOneStreamAsWritten settings link trace → norm_engine.ReadsOneStream settings.hops link trace)
    × (norm_engine.ReadsOneStream settings.hops link trace → ReadsOneStreamAsWritten settings link trace)

-- and a monitor misses nothing of what is written exactly if it misses nothing of the trace
abbrev pub MissesNothingWhole : Type 0
MissesNothingWhole = (settings : PlainSettings) (link : Link) (trace : List Item) → settings.mtu ≡ None
    → (MissesNothingAsWritten settings link trace → norm_engine.MissesNothing settings.hops link trace)
    × (norm_engine.MissesNothing settings.hops link trace → MissesNothingAsWritten settings link trace)

-- no IPv4 packet of a frame has a total length above the MTU, if there is one
abbrev pub NoneIsLong : (mtu : Option ℕ) → Link → List Item → Type 0
NoneIsLong None link trace = Unit {0}
NoneIsLong (Some mtu) link trace = AllByRecursion (λ item. All (λ frame. is_long link mtu frame ≡ false) item.frames) trace

-- What is written of a trace. Each clean record has one frame with the record's payload, or the
-- segments that carry it, unless a frame of the record is too long and dropped. Receivers agree on
-- what is written, and read parts of one stream. Before the first record and after each a monitor
-- has missed nothing. No frame of it is too long, by the MTU or for a capture. Each frame written
-- inwards is plain, except ARP. After no record more is held than the settings allow.
pub record IsWrittenSoundly (settings : PlainSettings) (link : Link) (trace : List Item) : Type 0 where
  pub clean_kept : CleanIsWritten settings link trace
  pub within : IsAlwaysWithin settings link trace
  pub agree : AgreeAsWritten settings link trace
  pub reads : ReadsOneStreamAsWritten settings link trace
  pub monitor : AtEachHistory (MissesNothingAsWritten settings link) trace
  pub none_long : NoneIsLong settings.mtu link (written settings link trace)
  pub plain : ArePlainInwards settings.hops link (written settings link trace)
  pub short : AllByRecursion HasShortFrames (written settings link trace)

-- each octet of frames that may be cut is a number below 256
abbrev pub FramesHaveOctets : (mtu : Option ℕ) → (frames : List (List ℕ)) → Type 0
FramesHaveOctets None frames = Unit {0}
FramesHaveOctets (Some mtu) frames = All AreOctets frames

-- this holds for each item of the trace
abbrev pub HaveFrameOctets : (mtu : Option ℕ) → List Item → Type 0
HaveFrameOctets mtu trace = AllByRecursion (λ item. FramesHaveOctets mtu item.frames) trace

-- This holds for each sound trace under settings in their ranges, whose frames that may be cut are
-- octets.
abbrev pub LawfulIsWrittenSoundly : Type 0
LawfulIsWrittenSoundly =
    (settings : PlainSettings) (link : Link) (trace : List Item) → AreInRange settings → IsSound settings link trace → HaveFrameOctets settings.mtu trace
    → IsWrittenSoundly settings link trace

-- T_CLASH is exact in the lines that are written: each names it exactly if its record contradicts
-- the stream of an era.
abbrev pub NamesEachClashAsWritten : PlainSettings → Link → List Item → Type 0
NamesEachClashAsWritten settings link [] = Unit {0}
NamesEachClashAsWritten settings link (item ∷ older) =
    NamesEachClashAsWritten settings link older
    × ((names_clash (item_written settings.mtu link item).entry.rules ≡ true) ↔ Contradicts settings link item older)

-- F_CLASH is exact in the lines that are written: each names it exactly if its record carries a
-- fragment that contradicts a held one.
abbrev pub NamesEachFragmentClashAsWritten : PlainSettings → Link → List Item → Type 0
NamesEachFragmentClashAsWritten settings link [] = Unit {0}
NamesEachFragmentClashAsWritten settings link (item ∷ older) =
    NamesEachFragmentClashAsWritten settings link older
    × ((names_fragment_clash (item_written settings.mtu link item).entry.rules ≡ true) ↔ ContradictsHeld settings link item older)

-- both are so of each sound trace
abbrev pub WrittenClashesAreReal : Type 0
WrittenClashesAreReal = (settings : PlainSettings) (link : Link) (trace : List Item) → IsSound settings link trace → NamesEachClashAsWritten settings link trace

abbrev pub WrittenFragmentClashesAreReal : Type 0
WrittenFragmentClashesAreReal =
    (settings : PlainSettings) (link : Link) (trace : List Item) → IsSound settings link trace → NamesEachFragmentClashAsWritten settings link trace

-- Receivers of the packets that are written of a trace, cut for the MTU if there is one, read only
-- what its records brought. If no record of an era differs from an earlier one at an offset at or
-- past Acked, they read what the sender gave, and no line of the era names T_CLASH.
abbrev pub ReadsRecordsAsWritten : PlainSettings → Link → List Item → Type 0
ReadsRecordsAsWritten settings link trace =
    let sent = sent_in link trace in
    let lines = written settings link trace in
    ReadsItsRecords settings link trace lines (λ era base. places_written settings.mtu (inward_places era base sent) (inward_packets era sent))
    (λ era. inward_packets era (sent_in link lines))

-- This holds for each sound trace under settings in their ranges, whose frames that may be cut are
-- octets.
abbrev pub WrittenReadsRecords : Type 0
WrittenReadsRecords =
    (settings : PlainSettings) (link : Link) (trace : List Item) → AreInRange settings → IsSound settings link trace → HaveFrameOctets settings.mtu trace
    → ReadsRecordsAsWritten settings link trace
