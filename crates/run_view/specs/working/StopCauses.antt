-- Why a view stops (this project's profile).
use Rattle.std.specs.Prelude.{◌≢◌, ℕ, List, ◌++◌, if◌then◌else◌}
use Rattle.edge_io.specs.FaultCounts.{Rose}
use Rattle.capture_input.specs.Faults.{is_read_fault}
use Rattle.capture_input.specs.declared.fault.InputFault.{InputFault}
use Rattle.run_view.specs.Forms.{heading}
use Rattle.run_view.specs.working.RestOfRun.{AreNoRest}
use Rattle.run_view.specs.RunFiles.{AreNoRun, FaultCounts, IsNoCapture, IsNoInput, IsNoOutput, SourceRose, Sources}
use Rattle.run_view.specs.declared.form.Form.{Form}
use Rattle.run_view.specs.declared.stop.Stop.{Stop}
use Rattle.run_view.specs.declared.stop.Stop.TheVariants as stops
use Rattle.run_view.specs.StopMeanings.{Says}

-- the stop at a fault of the input, or of the output; a failure of a source is no fault of its
-- octets
abbrev pub input_stop : InputFault → (offset : ℕ) → Stop
input_stop fault offset = if is_read_fault fault then stops.Unread else stops.Input fault offset

abbrev pub output_stop : InputFault → (offset : ℕ) → Stop
output_stop fault offset = if is_read_fault fault then stops.Unread else stops.Output fault offset

-- why a view stops whose words were accepted
abbrev pub FilesStop : (s : Sources) (before now : FaultCounts) → Stop → Type 0
FilesStop s before now = Says ⊥ (AreNoRun s) (IsNoInput s.input) (IsNoOutput s) (SourceRose before now) (Rose before.out now.out)

-- why one stops after the first line of the report, which is read so
abbrev pub RestStop : Form → (s : Sources) (before now : FaultCounts) → Stop → Type 0
RestStop form s before now = Says ⊥ (AreNoRest form s) (IsNoInput s.input) (IsNoCapture s.output) (SourceRose before now) (Rose before.out now.out)

-- why the output was not written
abbrev pub OutStop : (before now : ℕ) → Stop → Type 0
OutStop before now = Says ⊥ ⊥ ⊥ ⊥ ⊥ (Rose before now)

-- the octets do not begin with the first line of a report of one of the forms
abbrev pub IsNoFirst : (octets : List ℕ) → Type 0
IsNoFirst octets = (form : Form) → (rest : List ℕ) → octets ≢ heading form ++ rest
