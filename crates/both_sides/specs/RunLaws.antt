-- Laws of the traces of runs, and of the outputs for them.
use Rattle.std.specs.Prelude.{◌≡◌, false, List, [], ◌∷◌, None}
use Rattle.std.specs.List.{AllByRecursion}
use Rattle.wire_base.specs.declared.address.Link.{Link}
use Rattle.pcap_file.specs.declared.record.Order.{Order}
use Rattle.pcap_file.specs.Records.{Packet}
use Rattle.rule_book.specs.declared.last.Last.{Last}
use Rattle.rule_book.specs.Text.{report_text}
use Rattle.norm_settings.specs.SettingValues.{AreInRange, GoTogether, PlainSettings}
use Rattle.norm_engine.specs.Items.{Item, entries, frame_count}
use Rattle.norm_engine.specs.Agreement.{Agree, AtEachHistory, MissesNothing, ReadsOneStream}
use Rattle.norm_engine.specs.CleanRecords.{CleanIsKept}
use Rattle.norm_engine.specs.TraceLaws.{IsAlwaysWithin}
use Rattle.norm_engine.specs.SentFrames.{ArePlainInwards, HasShortFrames}
use Rattle.both_sides.specs.EngineLaws.{InwardGoesThrough}
use Rattle.both_sides.specs.Traces.{mirrored, AreLawful}
use Rattle.norm_engine.specs.WrittenTrace.{IsWrittenSoundly, written}
use Rattle.both_sides.specs.Frames.{frames_octets}
use Rattle.both_sides.specs.RecordOutputs.{count_put, next_put, octets_put, puts, report_of}
use Rattle.both_sides.specs.RunTraces.{LawfulRun, RunHasNoSide, RunHasOctets, RunTrace, empty_run, next_run, one, packets_of, two}

-- The run has no records, so that all octets are below 256 and none has its own side; it is lawful,
-- and has no output.
pub record Begins (settings : PlainSettings) (link : Link) (run : RunTrace) : Type 0 where
  pub lawful : LawfulRun settings link run
  pub taken : packets_of run ≡ []
  pub put : puts settings link run ≡ []
  pub octets : RunHasOctets settings run
  pub sideless : RunHasNoSide run

-- A run begins in this state, with one engine or with two.
abbrev pub RunsBegin : Type 0
RunsBegin = (settings : PlainSettings) (link : Link) → Begins settings link (empty_run settings.both)

-- A run with one record more has that record, is lawful if the run was, and adds the output for the
-- record. If both sides are protected, and neither a record of the run nor this one has its own
-- side, no record of the new run has one.
pub record GoesOn (settings : PlainSettings) (link : Link) (run : RunTrace) (r : Packet) : Type 0 where
  pub lawful : LawfulRun settings link run → LawfulRun settings link (next_run settings link run r)
  pub taken : packets_of (next_run settings link run r) ≡ r ∷ packets_of run
  pub put : puts settings link (next_run settings link run r) ≡ next_put settings link run r ∷ puts settings link run
  pub sideless : RunHasNoSide run → r.side ≡ None → RunHasNoSide (next_run settings link run r)

abbrev pub RunsGoOn : Type 0
RunsGoOn = (settings : PlainSettings) (link : Link) (run : RunTrace) (r : Packet) → GoesOn settings link run r

-- The output of one engine is its trace as it is written: the frames, their number, and the report.
pub record PutsItsTrace (settings : PlainSettings) (link : Link) (trace : List Item) : Type 0 where
  pub octets : (order : Order) → octets_put order (puts settings link (one trace)) ≡ frames_octets order (written settings link trace)
  pub count : count_put (puts settings link (one trace)) ≡ frame_count (written settings link trace)
  pub report : (last : Last) → report_of false (puts settings link (one trace)) last ≡ report_text 2 (entries (written settings link trace)) last

abbrev pub OnePutsItsTrace : Type 0
OnePutsItsTrace = (settings : PlainSettings) (link : Link) (trace : List Item) → PutsItsTrace settings link trace

-- The output of two engines with such traces is the trace of the second: its frames, each with the
-- time of its record, and their number.
pub record PutsItsMirror (settings : PlainSettings) (link : Link) (trace mirror : List Item) : Type 0 where
  pub octets : (order : Order) → octets_put order (puts settings link (two trace mirror)) ≡ frames_octets order mirror
  pub count : count_put (puts settings link (two trace mirror)) ≡ frame_count mirror

abbrev pub TwoPutTheirMirror : Type 0
TwoPutTheirMirror =
    (settings : PlainSettings) (link : Link) (trace mirror : List Item) → AreLawful settings link trace mirror → PutsItsMirror settings link trace mirror

-- Under given settings, and on a given link, records have at most one lawful run.
abbrev pub LawfulRunsAreOne : Type 0
LawfulRunsAreOne =
    (settings : PlainSettings) (link : Link) (run other : RunTrace) → LawfulRun settings link run → LawfulRun settings link other → packets_of run ≡ packets_of other
    → run ≡ other

-- What two engines write. The clean records of each keep their payload, and after none more is held
-- than the settings allow. Receivers agree on either side and read parts of one stream, and a
-- monitor there misses nothing. Frames written inwards pass the second engine octet for octet, so
-- that all three hold for what was written. Each frame written inwards by an engine is plain,
-- except ARP. No frame is too long for a capture.
pub record AreWrittenSoundly (settings : PlainSettings) (link : Link) (trace mirror : List Item) : Type 0 where
  pub clean_kept : CleanIsKept settings link trace
  pub clean_kept_behind : CleanIsKept (mirrored settings) link mirror
  pub within : IsAlwaysWithin settings link trace
  pub within_behind : IsAlwaysWithin (mirrored settings) link mirror
  pub agree : Agree settings.hops link trace
  pub agree_behind : Agree settings.hops link mirror
  pub reads : ReadsOneStream settings.hops link trace
  pub reads_behind : ReadsOneStream settings.hops link mirror
  pub monitor : AtEachHistory (MissesNothing settings.hops link) trace
  pub monitor_behind : AtEachHistory (MissesNothing settings.hops link) mirror
  pub through : InwardGoesThrough trace mirror
  pub plain : ArePlainInwards settings.hops link trace
  pub plain_behind : ArePlainInwards settings.hops link mirror
  pub short : AllByRecursion HasShortFrames mirror

-- what is written of a run, by one engine or by two
abbrev pub RunIsWrittenSoundly : PlainSettings → Link → RunTrace → Type 0
RunIsWrittenSoundly settings link (one trace) = IsWrittenSoundly settings link trace
RunIsWrittenSoundly settings link (two trace mirror) = AreWrittenSoundly settings link trace mirror

-- This holds for each lawful run under compatible settings in their ranges, whose records and
-- frames are octets, and whose records do not have their own side if both sides are protected.
abbrev pub RunsAreWrittenSoundly : Type 0
RunsAreWrittenSoundly =
    (settings : PlainSettings) (link : Link) (run : RunTrace) → AreInRange settings → GoTogether settings → LawfulRun settings link run → RunHasOctets settings run
    → RunHasNoSide run → RunIsWrittenSoundly settings link run
