-- The meaning of each status (this project's profile): what the two sinks were given, and what was
-- taken from the source. Each definition follows from the state at which a run has stopped, by a
-- law. Nothing is claimed of octets that are not known.
use Rattle.std.specs.Prelude.{◌≡◌, ℕ, ◌-◌, ◌^◌, ◌<◌, ◌⊎◌, Bool, true, List, [], ◌∷◌, ◌++◌, length, take, Option, None, Err}
use Rattle.std.specs.Io.KnownBytes.{Appends}
use Rattle.edge_io.specs.FaultCounts.{Rose}
use Rattle.pcap_file.specs.declared.head.Head.{Head}
use Rattle.pcap_file.specs.FileHead.{head_octets}
use Rattle.pcap_file.specs.Records.{Packet}
use Rattle.capture_input.specs.declared.fault.InputFault.{InputFault}
use Rattle.capture_input.specs.declared.fault.InputFault.TheVariants as faults
use Rattle.capture_input.specs.Inputs.{Walk, packets_in, place_behind, newest_place, EndsAtNewest, Took, TakenWhole}
use Rattle.capture_input.specs.RecordReading.{StopsInHead, StopsAt}
use Rattle.rule_book.specs.declared.last.Last.TheVariants as last
use Rattle.rule_book.specs.declared.last.StopKind.{StopKind}
use Rattle.rule_book.specs.declared.last.StopKind.TheVariants as kinds
use Rattle.rule_book.specs.Text.{last_text}
use Rattle.norm_settings.specs.declared.fault.WordFault.{WordFault}
use Rattle.norm_settings.specs.SettingValues.{PlainSettings}
use Rattle.norm_settings.specs.RefusalNumbers.{number_of}
use Rattle.norm_settings.specs.AskedCommand.{asked}
use Rattle.both_sides.specs.Outputs.{heading}
use Rattle.both_sides.specs.RecordOutputs.{Put, count_put, next_put, octets_put, put_octets, puts, text_put}
use Rattle.both_sides.specs.RunTraces.{LawfulRun, RunTrace, next_run, packets_of}
use Rattle.edge_io.specs.SeenEnds.{Seen}
use Rattle.bridge_run.specs.RunMoments.{Moment}
use Rattle.bridge_run.specs.RunContract.{AsksRun, IsFew}
use Rattle.bridge_run.specs.StopReasons.{fault_kind, is_faulty, words_line}
use Rattle.bridge_run.specs.StoppedRun.{Stopped, SaysOnly}
use Rattle.bridge_run.specs.Summary.{Summed, SummedInPart, AsksLoad}

-- the octets of a head and of the outputs for records in the capture
abbrev pub capture_octets : Head → List Put → List ℕ
capture_octets head puts = head_octets head ++ octets_put head.order puts

-- their octets in the report: the first line, and the lines of each
abbrev pub report_octets : (both : Bool) → List Put → List ℕ
report_octets both puts = heading both ++ text_put puts

-- The first octets were given completely, and then a prefix of the next ones, which may be all of
-- them.
pub record GivenUpTo (first next : List ℕ) (old new : Option (List ℕ)) : Type 0 where
  pub count : ℕ
  pub given : Appends old new (first ++ take count next)

-- The first octets were given, and then this line: completely, unless the fault count rose in this
-- call.
abbrev pub Says : (first line : List ℕ) → (before now : Seen) → Type 0
Says first line before now =
    Appends before.octets now.octets (first ++ line) ⊎ (Rose before.faults now.faults × GivenUpTo first line before.octets now.octets)

abbrev pub stop_of : StopKind → (offset : ℕ) → List ℕ
stop_of kind offset = last_text (last.Stop kind offset)

-- Statuses 3 to 5, at the head: the capture was given nothing, and the report its first line and
-- the stop, at the offset of the head or of the block that has the fault.
pub record EndsAtHead (settings : PlainSettings) (fault : InputFault) (before now : Moment) : Type 0 where
  pub offset : ℕ
  pub taken : StopsInHead settings.inside before.source.octets now.source.octets fault offset
  pub capture : Appends before.sinks.capture.octets now.sinks.capture.octets []
  pub report : Says (heading settings.both) (stop_of (fault_kind fault) offset) before.sinks.report now.sinks.report

-- Statuses 3 to 5, at the record or block after those of a lawful run: these were taken, and what
-- is left begins with the one at which the run stopped. The capture was given the head and the
-- frames of these packets, the report their lines and the stop, at the offset after them.
pub record EndsAtRecord (settings : PlainSettings) (fault : InputFault) (before now : Moment) : Type 0 where
  pub head : Head
  pub run : RunTrace
  pub lawful : LawfulRun settings head.link run
  pub few : IsFew settings run
  pub walk : Walk
  pub packets_are : packets_in walk ≡ packets_of run
  pub left : Option (List ℕ)
  pub took : Took settings.inside before.source.octets left head walk
  pub taken : StopsAt settings.inside head walk left now.source.octets fault
  pub capture : Appends before.sinks.capture.octets now.sinks.capture.octets (capture_octets head (puts settings head.link run))
  pub report : Says (report_octets settings.both (puts settings head.link run)) (stop_of (fault_kind fault) (place_behind walk)) before.sinks.report now.sinks.report

-- A fault of the input: at most the octets of the head, record or block that has it were taken.
abbrev pub EndsAtFault : PlainSettings → InputFault → (before now : Moment) → Type 0
EndsAtFault settings fault before now = EndsAtHead settings fault before now ⊎ EndsAtRecord settings fault before now

-- Status 3, by a fault of the octets that is not a cut.
pub record EndsByFault (settings : PlainSettings) (before now : Moment) : Type 0 where
  pub fault : InputFault
  pub other : is_faulty fault ≡ true
  pub ends : EndsAtFault settings fault before now

-- Status 3, by one record more than allowed if both sides are protected: exactly the octets up to
-- the end of its record or block were taken. The capture was given the head and the frames of the
-- packets before it, the report their lines and the stop, at its offset.
pub record EndsByTooMany (settings : PlainSettings) (before now : Moment) : Type 0 where
  pub both : settings.both ≡ true
  pub head : Head
  pub run : RunTrace
  pub lawful : LawfulRun settings head.link run
  pub full : length (packets_of run) ≡ 2 ^ 31 - 1
  pub packet : Packet
  pub walk : Walk
  pub packets_are : packets_in walk ≡ packet ∷ packets_of run
  pub ends : EndsAtNewest walk
  pub took : Took settings.inside before.source.octets now.source.octets head walk
  pub capture : Appends before.sinks.capture.octets now.sinks.capture.octets (capture_octets head (puts settings head.link run))
  pub report : Says (report_octets settings.both (puts settings head.link run)) (stop_of kinds.Many (newest_place walk)) before.sinks.report now.sinks.report

abbrev pub EndsFaulty : PlainSettings → (before now : Moment) → Type 0
EndsFaulty settings before now = EndsByFault settings before now ⊎ EndsByTooMany settings before now

-- Status 4: a cut.
abbrev pub EndsCut : PlainSettings → (before now : Moment) → Type 0
EndsCut settings before now = EndsAtFault settings faults.Cut before now

-- Status 5: the source failed after fewer octets than the head, the record or the block has.
abbrev pub EndsUnread : PlainSettings → (before now : Moment) → Type 0
EndsUnread settings before now = EndsAtFault settings faults.ReadFault before now

-- Status 6, at the head: exactly the head was taken, and the capture was given a prefix of the
-- written head.
pub record CaptureEndsInHead (settings : PlainSettings) (before now : Moment) : Type 0 where
  pub head : Head
  pub walk : Walk
  pub silent : packets_in walk ≡ []
  pub ends : EndsAtNewest walk
  pub took : Took settings.inside before.source.octets now.source.octets head walk
  pub capture : GivenUpTo [] (head_octets head) before.sinks.capture.octets now.sinks.capture.octets
  pub report : Says (heading settings.both) (stop_of kinds.Capture 0) before.sinks.report now.sinks.report

-- Status 6, at the newest packet: exactly the octets up to the end of its record or block were
-- taken. The capture was given all octets before its frames, and a prefix of these; the report the
-- lines of the older packets, and the stop at the offset of that record or block.
pub record CaptureEndsInPacket (settings : PlainSettings) (before now : Moment) : Type 0 where
  pub head : Head
  pub packet : Packet
  pub older : RunTrace
  pub lawful : LawfulRun settings head.link (next_run settings head.link older packet)
  pub few : IsFew settings (next_run settings head.link older packet)
  pub walk : Walk
  pub packets_are : packets_in walk ≡ packet ∷ packets_of older
  pub ends : EndsAtNewest walk
  pub took : Took settings.inside before.source.octets now.source.octets head walk
  pub has_frame : 0 < length (next_put settings head.link older packet).frames
  pub capture : GivenUpTo (capture_octets head (puts settings head.link older)) (put_octets head.order (next_put settings head.link older packet)) before.sinks.capture.octets now.sinks.capture.octets
  pub report : Says (report_octets settings.both (puts settings head.link older)) (stop_of kinds.Capture (newest_place walk)) before.sinks.report now.sinks.report

-- Status 6, between records: a capture that buffers, so that its octets are not known, could not be
-- flushed. Exactly the octets up to the end of the newest record or block (of the head, if there is
-- no record) were taken. The report was given all lines of records, and the stop at the offset
-- after it.
pub record CaptureEndsBetween (settings : PlainSettings) (before now : Moment) : Type 0 where
  pub head : Head
  pub run : RunTrace
  pub lawful : LawfulRun settings head.link run
  pub few : IsFew settings run
  pub walk : Walk
  pub packets_are : packets_in walk ≡ packets_of run
  pub ends : EndsAtNewest walk
  pub took : Took settings.inside before.source.octets now.source.octets head walk
  pub untold : before.sinks.capture.octets ≡ None
  pub report : Says (report_octets settings.both (puts settings head.link run)) (stop_of kinds.Capture (place_behind walk)) before.sinks.report now.sinks.report

-- Status 6, at the end: a capture that buffers, so that its octets are not known, could not be
-- flushed. All was taken, and the report was given all lines of records, and the stop at the offset
-- of the end.
pub record CaptureEndsBehind (settings : PlainSettings) (before now : Moment) : Type 0 where
  pub head : Head
  pub run : RunTrace
  pub lawful : LawfulRun settings head.link run
  pub few : IsFew settings run
  pub walk : Walk
  pub packets_are : packets_in walk ≡ packets_of run
  pub took : Took settings.inside before.source.octets now.source.octets head walk
  pub taken : TakenWhole before.source.octets now.source.octets
  pub untold : before.sinks.capture.octets ≡ None
  pub report : Says (report_octets settings.both (puts settings head.link run)) (stop_of kinds.Capture (place_behind walk)) before.sinks.report now.sinks.report

abbrev pub EndsUnwritten : PlainSettings → (before now : Moment) → Type 0
EndsUnwritten settings before now = CaptureEndsInHead settings before now ⊎ (CaptureEndsInPacket settings before now ⊎ (CaptureEndsBetween settings before now ⊎ CaptureEndsBehind settings before now))

-- Status 7, at the first line: nothing was taken, the capture was given nothing, and the report a
-- prefix of that line.
pub record ReportEndsInFirst (settings : PlainSettings) (before now : Moment) : Type 0 where
  pub untaken : now.source.octets ≡ before.source.octets
  pub capture : Appends before.sinks.capture.octets now.sinks.capture.octets []
  pub report : GivenUpTo [] (heading settings.both) before.sinks.report.octets now.sinks.report.octets

-- Status 7, at the line of the newest packet: exactly the octets up to the end of its record or
-- block were taken. The capture was given the frames of all packets, the report the lines of the
-- older ones and a prefix of that line.
pub record ReportEndsInLine (settings : PlainSettings) (before now : Moment) : Type 0 where
  pub head : Head
  pub packet : Packet
  pub older : RunTrace
  pub lawful : LawfulRun settings head.link (next_run settings head.link older packet)
  pub few : IsFew settings (next_run settings head.link older packet)
  pub walk : Walk
  pub packets_are : packets_in walk ≡ packet ∷ packets_of older
  pub ends : EndsAtNewest walk
  pub took : Took settings.inside before.source.octets now.source.octets head walk
  pub capture : Appends before.sinks.capture.octets now.sinks.capture.octets (capture_octets head (next_put settings head.link older packet ∷ puts settings head.link older))
  pub report : GivenUpTo (report_octets settings.both (puts settings head.link older)) (next_put settings head.link older packet).text before.sinks.report.octets now.sinks.report.octets

-- Status 7, between records: a report that buffers, so that its octets are not known, could not be
-- flushed. Exactly the octets up to the end of the newest record or block (of the head, if there is
-- no record) were taken. The capture was given the frames of all packets.
pub record ReportEndsBetween (settings : PlainSettings) (before now : Moment) : Type 0 where
  pub head : Head
  pub run : RunTrace
  pub lawful : LawfulRun settings head.link run
  pub few : IsFew settings run
  pub walk : Walk
  pub packets_are : packets_in walk ≡ packets_of run
  pub ends : EndsAtNewest walk
  pub took : Took settings.inside before.source.octets now.source.octets head walk
  pub capture : Appends before.sinks.capture.octets now.sinks.capture.octets (capture_octets head (puts settings head.link run))
  pub untold : before.sinks.report.octets ≡ None

-- Status 7, at the last line: all was taken, the capture was given all, the report all lines of
-- records and a prefix of the last line.
pub record ReportEndsInLast (settings : PlainSettings) (before now : Moment) : Type 0 where
  pub head : Head
  pub run : RunTrace
  pub lawful : LawfulRun settings head.link run
  pub few : IsFew settings run
  pub walk : Walk
  pub packets_are : packets_in walk ≡ packets_of run
  pub took : Took settings.inside before.source.octets now.source.octets head walk
  pub taken : TakenWhole before.source.octets now.source.octets
  pub capture : Appends before.sinks.capture.octets now.sinks.capture.octets (capture_octets head (puts settings head.link run))
  pub report : GivenUpTo (report_octets settings.both (puts settings head.link run)) (last_text (last.End (length (packets_of run)) (count_put (puts settings head.link run)))) before.sinks.report.octets now.sinks.report.octets

abbrev pub EndsUntold : PlainSettings → (before now : Moment) → Type 0
EndsUntold settings before now = ReportEndsInFirst settings before now ⊎ (ReportEndsInLine settings before now ⊎ (ReportEndsBetween settings before now ⊎ ReportEndsInLast settings before now))

-- The words request a run, and this holds under its settings.
abbrev pub UnderWords : List (List ℕ) → (PlainSettings → Type 0) → Type 0
UnderWords words Row = (settings : PlainSettings) × AsksRun words settings × Row settings

-- The words request a load, and this holds for its seed and its number of records.
abbrev pub UnderLoad : List (List ℕ) → (ℕ → ℕ → Type 0) → Type 0
UnderLoad words Row = (seed : ℕ) × (count : ℕ) × AsksLoad words seed count × Row seed count

-- Neither the source nor the capture was touched.
pub record TouchesReport (before now : Moment) : Type 0 where
  pub source_stays : now.source ≡ before.source
  pub capture_stays : now.sinks.capture ≡ before.sinks.capture

-- Status 0 of a load: the report was given its summary, nothing failed, and nothing else was
-- touched.
pub record EndsSummed (seed count : ℕ) (before now : Moment) : Type 0 where
  pub touches : TouchesReport before now
  pub summed : Summed seed count before.sinks.report.octets now.sinks.report.octets
  pub none_rose : now.sinks.report.faults ≡ before.sinks.report.faults

-- Status 7 of a load: the report was given a prefix of its summary, and nothing else was touched.
pub record EndsSummedInPart (seed count : ℕ) (before now : Moment) : Type 0 where
  pub touches : TouchesReport before now
  pub summed : SummedInPart seed count before.sinks.report.octets now.sinks.report.octets

-- Status 2: the report was given the line on invalid arguments, and nothing else happened.
pub record EndsRefused (words : List (List ℕ)) (before now : Moment) : Type 0 where
  pub fault : WordFault
  pub refused : asked words ≡ Err fault
  pub says : SaysOnly (words_line (number_of fault)) before now

-- A run over any words that returns this status satisfies `Row`.
abbrev pub Leaves : (status : ℕ) → (Row : List (List ℕ) → (before now : Moment) → Type 0) → Type 0
Leaves status Row = (words : List (List ℕ)) (before now : Moment) → Stopped words status before now → Row words before now
