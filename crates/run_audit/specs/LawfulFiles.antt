-- The frames and the entries of a lawful trace have no fault (this project's profile). A trace is a
-- list, the newest item first.
use Rattle.std.specs.Prelude.{◌≡◌, ℕ, ◌+◌, ◌^◌, ◌<◌, ◌≤◌, ◌&&◌, not, Bool, false, List, [], ◌∷◌, ◌++◌, length, map, reverse, Some, None}
use Rattle.std.specs.List.{AllByRecursion, flat_map, list_any}
use Rattle.wire_base.specs.declared.address.Link.{Link}
use Rattle.wire_base.specs.Tcp as tcp
use Rattle.wire_base.specs.Segments.{Written}
use Rattle.pcap_file.specs.declared.head.Head.{Head}
use Rattle.pcap_file.specs.declared.record.Order.{Order}
use Rattle.pcap_file.specs.FileHead.{head_octets}
use Rattle.pcap_file.specs.Records.{Packet, record_octets}
use Rattle.pcap_file.specs.Capture.{IsCapture}
use Rattle.rule_book.specs.declared.last.Last.{Last}
use Rattle.rule_book.specs.declared.last.Last.TheVariants.{End}
use Rattle.rule_book.specs.Entries.{PlainEntry}
use Rattle.rule_book.specs.ReportReading.{EntryFits}
use Rattle.rule_book.specs.Text.{report_text}
use Rattle.norm_settings.specs.SettingValues.{PlainSettings}
use Rattle.era_agreement.specs.SentPackets.{written_in}
use Rattle.norm_engine.specs.Agreement.{sent_in}
use Rattle.norm_engine.specs.Items.{Item, entries}
use Rattle.norm_engine.specs.TraceLaws.{IsSound}
use Rattle.run_audit.specs.AnswerMeanings.{IsYes}
use Rattle.run_audit.specs.CaptureFindings.{frames_of}
use Rattle.run_audit.specs.FirstFault.{NoFault}
use Rattle.run_audit.specs.NamedEras.{eras_named}
use Rattle.run_audit.specs.ReportFindings.{IsFinished, is_most}
use Rattle.wire_base.specs.declared.limits.TheConstants.{MAX_CAPTURED}

-- the frames of a trace, newest first
abbrev pub frames_written : List Item → List (List ℕ)
frames_written [] = []
frames_written (item ∷ older) = reverse item.frames ++ frames_written older

-- the entries of a trace, in the order of their lines
abbrev pub entries_written : List Item → List PlainEntry
entries_written trace = reverse (entries trace)

-- the segment is an outbound RST
abbrev pub is_outbound_reset : Written → Bool
is_outbound_reset w = not w.inward && tcp.has_rst w.flags

-- no segment follows an outbound RST
abbrev pub NoneBehindReset : List Written → Type 0
NoneBehindReset ws = (before : List Written) (w : Written) (later : List Written) → ws ≡ before ++ (w ∷ later) → list_any is_outbound_reset before ≡ false

-- In each era of a lawful trace nothing is written after an outbound RST.
abbrev pub ResetsAreLast : Type 0
ResetsAreLast =
    (settings : PlainSettings) (link : Link) (trace : List Item) → IsSound settings link trace → (era : ℕ) → NoneBehindReset (written_in era (sent_in link trace))

-- The frames of a lawful trace are those of its entries, and none of them has a fault.
abbrev pub LawfulHasNoFault : Type 0
LawfulHasNoFault =
    (settings : PlainSettings) (link : Link) (trace : List Item) → IsSound settings link trace → NoFault settings.hops link (entries_written trace) (frames_written trace)

-- The answer `yes` applies to a capture of these frames and a finished report of these entries,
-- with the number of eras that the report names and that of the frames.
abbrev pub LawfulIsYes : Type 0
LawfulIsYes =
    (settings : PlainSettings) (head : Head) (trace : List Item) (packets : List Packet) (report capture : List ℕ)
    → IsSound settings head.link trace → IsCapture capture head packets → frames_of packets ≡ frames_written trace → IsFinished report (entries_written trace)
    → IsYes settings.hops (Some report) (Some capture) (length (eras_named (entries_written trace))) (length packets)

-- the written record of a frame, with the time of the record that the frame was written for
abbrev pub record_with : Packet → List ℕ → Packet
record_with r frame = record { seconds = r.seconds; fraction = r.fraction; original = length frame; side = None; octets = frame }

-- the records of the frames of a trace, newest first
abbrev pub records_written : List Item → List Packet
records_written [] = []
records_written (item ∷ older) = reverse (map (record_with item.packet) item.frames) ++ records_written older

-- the octets of records; the newest is first in the list and last in the octets
abbrev pub records_octets : Order → List Packet → List ℕ
records_octets order [] = []
records_octets order (w ∷ older) = records_octets order older ++ record_octets order w.seconds w.fraction w.octets

-- One more item appends the records of its frames, in order, to the octets, and adds the number of
-- its frames to the number of records.
pub record IsWrittenBehind (order : Order) (item : Item) (older : List Item) : Type 0 where
  pub octets : records_octets order (records_written (item ∷ older))
      ≡ records_octets order (records_written older) ++ flat_map (λ frame. record_octets order item.packet.seconds item.packet.fraction frame) item.frames
  pub count : length (records_written (item ∷ older)) ≡ length (records_written older) + length item.frames

-- this holds for each item after others, in either byte order
abbrev pub ItemsAreWrittenInOrder : Type 0
ItemsAreWrittenInOrder = (order : Order) (item : Item) (older : List Item) → IsWrittenBehind order item older

-- the written capture of a trace
abbrev pub capture_written : Head → List Item → List ℕ
capture_written head trace = head_octets head ++ records_octets head.order (records_written trace)

-- the last line of the report of a finished run
abbrev pub last_written : List Item → Last
last_written trace = End (length trace) (length (records_written trace))

-- the report of a finished run
abbrev pub report_written : List Item → List ℕ
report_written trace = report_text 2 (entries trace) (last_written trace)

-- the record's time has 32 bits for seconds and 32 for the fraction, and it has at most 262,144
-- octets
pub record RecordFits (w : Packet) : Type 0 where
  pub seconds : w.seconds < 2 ^ 32
  pub fraction : w.fraction < 2 ^ 32
  pub octets : length w.octets ≤ MAX_CAPTURED

-- The trace fits the formats of its two files: there are at most 2^32 - 1 records, each of which
-- fits, and fewer than 2^32 entries, in a report of at most 67,108,864 octets.
pub record FitsFiles (trace : List Item) : Type 0 where
  pub records : AllByRecursion RecordFits (records_written trace)
  pub few : length (records_written trace) ≤ 4294967295
  pub lines : length trace < 2 ^ 32
  pub small : length (report_written trace) ≤ is_most

-- The numbers of the entries of a lawful trace are in the ranges of their types, if fewer than 2^32
-- frames are written for fewer than 2^32 records.
abbrev pub EntriesFit : Type 0
EntriesFit =
    (settings : PlainSettings) (link : Link) (trace : List Item) → IsSound settings link trace → length (frames_written trace) < 2 ^ 32 → length trace < 2 ^ 32
    → AllByRecursion EntryFits (entries trace)

-- The answer `yes` applies to the two files written for a lawful trace, if the trace fits their
-- formats, with the number of eras that the report names and that of the frames.
abbrev pub WrittenIsYes : Type 0
WrittenIsYes =
    (settings : PlainSettings) (head : Head) (trace : List Item) → IsSound settings head.link trace → FitsFiles trace
    → IsYes settings.hops (Some (report_written trace)) (Some (capture_written head trace)) (length (eras_named (entries_written trace))) (length (records_written trace))
