-- The state when a run has stopped: what was taken from the source, and what was given to the
-- sinks, by the lawful run over the records that were judged (this project's profile). Nothing is
-- claimed of octets that are not known. A run stops at a moment (`Stands`), and then reports why
-- (`StoppedShort`): up to `Stands`, `now` is that moment.
use Rattle.std.specs.Prelude.{◌≡◌, ℕ, ◌-◌, ◌^◌, ◌⊎◌, true, List, [], ◌∷◌, length, Option, Err}
use Rattle.pcap_file.specs.declared.head.Head.{Head}
use Rattle.pcap_file.specs.Records.{Packet}
use Rattle.capture_input.specs.declared.fault.InputFault.{InputFault}
use Rattle.capture_input.specs.declared.fault.InputFault.TheVariants as faults
use Rattle.capture_input.specs.Inputs.{Walk, packets_in, place_behind, newest_place, EndsAtNewest, Took, TakenWhole}
use Rattle.capture_input.specs.RecordReading.{StopsInHead, StopsAt}
use Rattle.rule_book.specs.declared.last.StopKind.TheVariants as kinds
use Rattle.norm_settings.specs.declared.fault.WordFault.{WordFault}
use Rattle.norm_settings.specs.SettingValues.{PlainSettings}
use Rattle.norm_settings.specs.RefusalNumbers.{number_of}
use Rattle.norm_settings.specs.AskedCommand.{asked}
use Rattle.both_sides.specs.Outputs.{Given}
use Rattle.both_sides.specs.RecordOutputs.{count_put, next_put, put_outputs, puts}
use Rattle.both_sides.specs.RunTraces.{LawfulRun, RunTrace, next_run, packets_of}
use Rattle.bridge_run.specs.declared.stop.Stop.{Stop}
use Rattle.bridge_run.specs.declared.stop.Stop.TheVariants as stops
use Rattle.bridge_run.specs.RunMoments.{Moment, NoneRose}
use Rattle.bridge_run.specs.Outputs.{BreaksOff, first_outputs, head_outputs, outputs_of, hand_outputs, end_outputs}
use Rattle.bridge_run.specs.RunContract.{AsksRun, IsFew}
use Rattle.bridge_run.specs.Theorem.{Normalized}
use Rattle.bridge_run.specs.StopReasons.{FirstFault, Kept, Told, status_of, stop_line, words_line, memory_line}
use Rattle.bridge_run.specs.Summary.{LoadLeaves, AsksLoad}

-- The head could not be read: this is its fault, and what was taken of it. The report has only its
-- first line.
pub record StopsAtHead (settings : PlainSettings) (fault : InputFault) (offset : ℕ) (before now : Moment) : Type 0 where
  pub found : StopsInHead settings.inside before.source.octets now.source.octets fault offset
  pub given : Given (first_outputs settings.both) before.sinks now.sinks

-- The record or block after those of a lawful run could not be read: this is its fault, and what
-- was taken of it. If both sides are protected, the run has fewer than 2^31 records. The head and
-- all records or blocks before it were taken, and all outputs for the run's packets were given.
pub record StopsAtRecord (settings : PlainSettings) (fault : InputFault) (offset : ℕ) (before now : Moment) : Type 0 where
  pub head : Head
  pub run : RunTrace
  pub lawful : LawfulRun settings head.link run
  pub few : IsFew settings run
  pub walk : Walk
  pub packets_are : packets_in walk ≡ packets_of run
  pub left : Option (List ℕ)
  pub took : Took settings.inside before.source.octets left head walk
  pub found : StopsAt settings.inside head walk left now.source.octets fault
  pub place : offset ≡ place_behind walk
  pub given : Given (outputs_of settings.both head (puts settings head.link run)) before.sinks now.sinks

-- This fault is the first, and at most the octets of its head, record or block were taken, or 12 of
-- a shorter block; if the source failed there, not all of them.
abbrev pub Faulty : PlainSettings → InputFault → (offset : ℕ) → (before now : Moment) → Type 0
Faulty settings fault offset before now = StopsAtHead settings fault offset before now ⊎ StopsAtRecord settings fault offset before now

-- Both sides are protected, and there is one record more than allowed, which is not judged. The
-- head and all up to the end of its record or block were taken, and all outputs for the packets
-- before it were given.
pub record StopsAtTooMany (settings : PlainSettings) (offset : ℕ) (before now : Moment) : Type 0 where
  pub both : settings.both ≡ true
  pub head : Head
  pub run : RunTrace
  pub lawful : LawfulRun settings head.link run
  pub full : length (packets_of run) ≡ 2 ^ 31 - 1
  pub packet : Packet
  pub walk : Walk
  pub packets_are : packets_in walk ≡ packet ∷ packets_of run
  pub ends : EndsAtNewest walk
  pub took : Took settings.inside before.source.octets now.source.octets head walk
  pub place : offset ≡ newest_place walk
  pub given : Given (outputs_of settings.both head (puts settings head.link run)) before.sinks now.sinks

-- The first line failed, and nothing was taken.
pub record StopsAtFirstLine (settings : PlainSettings) (stop : Stop) (before now : Moment) : Type 0 where
  pub untaken : now.source.octets ≡ before.source.octets
  pub broke : BreaksOff [] (first_outputs settings.both) 0 stop before.sinks now.sinks

-- The written head failed, and the head was taken, and nothing after it.
pub record StopsAtWrittenHead (settings : PlainSettings) (stop : Stop) (before now : Moment) : Type 0 where
  pub head : Head
  pub walk : Walk
  pub silent : packets_in walk ≡ []
  pub ends : EndsAtNewest walk
  pub took : Took settings.inside before.source.octets now.source.octets head walk
  pub broke : BreaksOff (first_outputs settings.both) (head_outputs head) 0 stop before.sinks now.sinks

-- An output for the newest packet failed. If both sides are protected, there were fewer than 2^31
-- records. The head and the run's packets were taken, nothing after the record or block of the
-- newest one, and all outputs for the older ones were given.
pub record StopsAtPacket (settings : PlainSettings) (stop : Stop) (before now : Moment) : Type 0 where
  pub head : Head
  pub packet : Packet
  pub older : RunTrace
  pub lawful : LawfulRun settings head.link (next_run settings head.link older packet)
  pub few : IsFew settings (next_run settings head.link older packet)
  pub walk : Walk
  pub packets_are : packets_in walk ≡ packet ∷ packets_of older
  pub ends : EndsAtNewest walk
  pub took : Took settings.inside before.source.octets now.source.octets head walk
  pub broke : BreaksOff (outputs_of settings.both head (puts settings head.link older)) (put_outputs head.order (next_put settings head.link older packet)) (newest_place walk) stop before.sinks now.sinks

-- A sink could not be flushed between records. If both sides are protected, there were fewer than
-- 2^31 records. The head and the run's packets were taken, nothing after the record or block of the
-- newest one, and all outputs for them were given.
pub record StopsBetween (settings : PlainSettings) (stop : Stop) (before now : Moment) : Type 0 where
  pub head : Head
  pub run : RunTrace
  pub lawful : LawfulRun settings head.link run
  pub few : IsFew settings run
  pub walk : Walk
  pub packets_are : packets_in walk ≡ packets_of run
  pub ends : EndsAtNewest walk
  pub took : Took settings.inside before.source.octets now.source.octets head walk
  pub broke : BreaksOff (outputs_of settings.both head (puts settings head.link run)) hand_outputs (place_behind walk) stop before.sinks now.sinks

-- An output at the end failed. All was taken (fewer than 2^31 records if both sides are protected),
-- and all outputs for the packets were given.
pub record StopsAtEnd (settings : PlainSettings) (stop : Stop) (before now : Moment) : Type 0 where
  pub head : Head
  pub run : RunTrace
  pub lawful : LawfulRun settings head.link run
  pub few : IsFew settings run
  pub walk : Walk
  pub packets_are : packets_in walk ≡ packets_of run
  pub took : Took settings.inside before.source.octets now.source.octets head walk
  pub taken : TakenWhole before.source.octets now.source.octets
  pub broke : BreaksOff (outputs_of settings.both head (puts settings head.link run)) (end_outputs (length (packets_of run)) (count_put (puts settings head.link run))) (place_behind walk) stop before.sinks now.sinks

-- A sink failed, at an output, whose prefix it was given, or at a flush.
abbrev pub Unwritten : PlainSettings → Stop → (before now : Moment) → Type 0
Unwritten settings stop before now =
    StopsAtFirstLine settings stop before now ⊎ (StopsAtWrittenHead settings stop before now ⊎ (StopsAtPacket settings stop before now ⊎ (StopsBetween settings stop before now
    ⊎ StopsAtEnd settings stop before now)))

-- the state at a stop, before a line reports why
abbrev pub Stands : PlainSettings → Stop → (before now : Moment) → Type 0
Stands settings (stops.At kinds.Magic offset) before now = Faulty settings faults.Magic offset before now
Stands settings (stops.At kinds.Version offset) before now = Faulty settings faults.Version offset before now
Stands settings (stops.At kinds.Link offset) before now = Faulty settings faults.Link offset before now
Stands settings (stops.At kinds.Block offset) before now = Faulty settings faults.Block offset before now
Stands settings (stops.At kinds.Long offset) before now = Faulty settings faults.Long offset before now
Stands settings (stops.At kinds.Many offset) before now = Faulty settings faults.Many offset before now ⊎ StopsAtTooMany settings offset before now
Stands settings (stops.At kinds.Cut offset) before now = Faulty settings faults.Cut offset before now
Stands settings (stops.At kinds.ReadFault offset) before now = Faulty settings faults.ReadFault offset before now
Stands settings (stops.At kinds.Capture offset) before now = Unwritten settings (stops.At kinds.Capture offset) before now
Stands settings (stops.At kinds.Memory offset) before now = ⊥
Stands settings stops.Report before now = Unwritten settings stops.Report before now

-- A run that stopped before its end. The state at the stop, and the first fault, determine the
-- status. Then the line that reports why was given, and nothing else: a fault in giving it changes
-- no status.
pub record StoppedShort (settings : PlainSettings) (status : ℕ) (before now : Moment) : Type 0 where
  pub stop : Stop
  pub answered : status ≡ status_of stop
  pub at : Moment
  pub stands : Stands settings stop before at
  pub first : FirstFault stop before at
  pub source_stays : now.source ≡ at.source
  pub capture_stays : Kept at.sinks.capture now.sinks.capture
  pub told : Told at.sinks.report.octets now.sinks.report.octets at.sinks.report.faults now.sinks.report.faults (stop_line stop)

-- Nothing was read or written except this line of the report, the only one.
pub record SaysOnly (line : List ℕ) (before now : Moment) : Type 0 where
  pub source_stays : now.source ≡ before.source
  pub capture_stays : now.sinks.capture ≡ before.sinks.capture
  pub told : Told before.sinks.report.octets now.sinks.report.octets before.sinks.report.faults now.sinks.report.faults line

-- The capture was normalized, and nothing failed.
pub record Finishes (settings : PlainSettings) (before now : Moment) : Type 0 where
  pub normalized : Normalized settings before.source.octets now.source.octets before.sinks.capture.octets now.sinks.capture.octets before.sinks.report.octets now.sinks.report.octets
  pub none_rose : NoneRose before now

-- the state at each status under given settings: 0 at the end, 8 at opening, and otherwise at a
-- stop between them
abbrev pub StoppedUnder : PlainSettings → (status : ℕ) → (before now : Moment) → Type 0
StoppedUnder settings status before now =
    ((status ≡ 0) × Finishes settings before now) ⊎ (((status ≡ 8) × SaysOnly memory_line before now) ⊎ StoppedShort settings status before now)

-- A load touches neither the source nor the capture; what it leaves in the report depends on its
-- status.
pub record LoadStopped (seed count status : ℕ) (before now : Moment) : Type 0 where
  pub source_stays : now.source ≡ before.source
  pub capture_stays : now.sinks.capture ≡ before.sinks.capture
  pub leaves : LoadLeaves seed count status before.sinks.report now.sinks.report

-- the same of words: 2 if they are invalid, 8 if memory could not be allocated for them, and
-- otherwise by the settings or the load that they request
abbrev pub Stopped : (words : List (List ℕ)) → (status : ℕ) → (before now : Moment) → Type 0
Stopped words status before now =
    ((fault : WordFault) × (status ≡ 2) × (asked words ≡ Err fault) × SaysOnly (words_line (number_of fault)) before now)
    ⊎ (((status ≡ 8) × SaysOnly memory_line before now)
    ⊎ (((settings : PlainSettings) × AsksRun words settings × StoppedUnder settings status before now)
    ⊎ ((seed : ℕ) × (count : ℕ) × AsksLoad words seed count × LoadStopped seed count status before now)))
