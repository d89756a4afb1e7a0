-- The outputs of a run over a capture besides those for its records, as one list in the order in
-- which they are written (this project's profile). Lists of outputs for records have the newest at
-- the head. The flushes before records are in no such list, since they give a sink nothing:
-- `hand_outputs` names them.
use Rattle.std.specs.Prelude.{◌≡◌, ℕ, Bool, List, [], ◌∷◌, ◌++◌}
use Rattle.pcap_file.specs.declared.head.Head.{Head}
use Rattle.pcap_file.specs.FileHead.{head_octets}
use Rattle.rule_book.specs.declared.last.Last.TheVariants.{End}
use Rattle.rule_book.specs.declared.last.StopKind.TheVariants as kinds
use Rattle.rule_book.specs.Text.{last_text}
use Rattle.both_sides.specs.declared.fault.RelayFault.{RelayFault}
use Rattle.both_sides.specs.declared.fault.RelayFault.TheVariants as faults
use Rattle.both_sides.specs.Outputs.{Output, to_capture, to_report, capture_hands_on, report_hands_on, heading}
use Rattle.both_sides.specs.Outputs as relayed
use Rattle.both_sides.specs.RecordOutputs.{Put, put_outputs}
use Rattle.both_sides.specs.Sinks.{Sinks}
use Rattle.bridge_run.specs.declared.stop.Stop.{Stop}
use Rattle.bridge_run.specs.declared.stop.Stop.TheVariants as stops

-- the first line of the report
abbrev pub first_outputs : (both : Bool) → List Output
first_outputs both = to_report (heading both) ∷ []

-- the head of the capture
abbrev pub head_outputs : Head → List Output
head_outputs head = to_capture (head_octets head) ∷ []

-- the outputs up to those for the newest record
abbrev pub outputs_of : (both : Bool) → Head → List Put → List Output
outputs_of both head [] = first_outputs both ++ head_outputs head
outputs_of both head (put ∷ older) = outputs_of both head older ++ put_outputs head.order put

-- the end of a run: the last line, after the capture and before the report is flushed
abbrev pub end_outputs : (records frames : ℕ) → List Output
end_outputs records frames = capture_hands_on ∷ to_report (last_text (End records frames)) ∷ report_hands_on ∷ []

-- The flushes of both sinks before a record. They are made if and only if the source may wait. This
-- is tested; no definition states it.
abbrev pub hand_outputs : List Output
hand_outputs = capture_hands_on ∷ report_hands_on ∷ []

-- the stop of a run if this sink failed, at this offset
abbrev pub stop_by : RelayFault → (offset : ℕ) → Stop
stop_by faults.Capture offset = stops.At kinds.Capture offset
stop_by faults.Report offset = stops.Report

-- Of the next outputs, the first ones were given completely, and then a prefix of the one that
-- failed. So the run stops, at this offset.
pub record BreaksOff (behind next : List Output) (offset : ℕ) (stop : Stop) (before now : Sinks) : Type 0 where
  pub fault : RelayFault
  pub broke : relayed.BreaksOff behind next fault before now
  pub answered : stop ≡ stop_by fault offset
