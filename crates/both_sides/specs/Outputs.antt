-- The outputs of a run, as one list in the order in which they are written (this project's
-- profile).
use Rattle.std.specs.Prelude.{◌≡◌, ℕ, ◌<◌, Bool, true, false, List, [], ◌∷◌, ◌++◌, length, take, None, codes}
use Rattle.std.specs.Io.KnownBytes.{Appends}
use Rattle.rule_book.specs.Text.{first_line}
use Rattle.both_sides.specs.declared.fault.RelayFault.{RelayFault}
use Rattle.both_sides.specs.declared.fault.RelayFault.TheVariants as faults
use Rattle.both_sides.specs.Sinks.{Sinks}

-- octets for one of the two sinks, or a request to flush its buffer, which gives it no octets
pub data Output : Type 0 where
  to_capture : List ℕ → Output
  to_report : List ℕ → Output
  capture_hands_on : Output
  report_hands_on : Output

-- the octets for the capture
abbrev pub capture_part : List Output → List ℕ
capture_part [] = []
capture_part (to_capture octets ∷ outputs) = octets ++ capture_part outputs
capture_part (_ ∷ outputs) = capture_part outputs

-- the octets for the report
abbrev pub report_part : List Output → List ℕ
report_part [] = []
report_part (to_report octets ∷ outputs) = octets ++ report_part outputs
report_part (_ ∷ outputs) = report_part outputs

-- the first octets of an output, up to all of them
abbrev pub cut : ℕ → Output → Output
cut count (to_capture octets) = to_capture (take count octets)
cut count (to_report octets) = to_report (take count octets)
cut count capture_hands_on = capture_hands_on
cut count report_hands_on = report_hands_on

-- Exactly these outputs were given to the sinks, as far as their octets are known.
pub record Given (outputs : List Output) (before now : Sinks) : Type 0 where
  pub capture : Appends before.capture.octets now.capture.octets (capture_part outputs)
  pub report : Appends before.report.octets now.report.octets (report_part outputs)

-- the first line of the report, version 2; it contains `both` if both sides are protected
abbrev pub heading : (both : Bool) → List ℕ
heading false = first_line 2
heading true = codes "norm 2 both" ++ 10 ∷ []

-- the sink that fails at this output
abbrev pub fault_at : Output → RelayFault
fault_at (to_capture octets) = faults.Capture
fault_at (to_report octets) = faults.Report
fault_at capture_hands_on = faults.Capture
fault_at report_hands_on = faults.Report

-- The output can fail, given the known octets of the sinks. The capture is given some octets, or
-- the report is given a line, or a sink whose octets are not known, since it buffers, is flushed.
abbrev pub CanFail : Output → (now : Sinks) → Type 0
CanFail (to_capture octets) now = 0 < length octets
CanFail (to_report octets) now = Unit {0}
CanFail capture_hands_on now = now.capture.octets ≡ None
CanFail report_hands_on now = now.report.octets ≡ None

-- Of the next outputs, the first ones were given completely, and then a prefix of the one that
-- failed, which may be all of it.
pub record BreaksOff (behind next : List Output) (fault : RelayFault) (before now : Sinks) : Type 0 where
  pub whole : List Output
  pub failed : Output
  pub others : List Output
  pub are : next ≡ whole ++ failed ∷ others
  pub can_fail : CanFail failed now
  pub answered : fault ≡ fault_at failed
  pub count : ℕ
  pub given : Given (behind ++ (whole ++ cut count failed ∷ [])) before now
