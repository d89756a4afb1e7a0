-- The visible state of the two sinks of a run (this project's profile).
use Rattle.std.specs.Prelude.{◌≡◌, ℕ, List, Option}
use Rattle.edge_io.specs.FaultCounts.{Rose}
use Rattle.edge_io.specs.SeenEnds.{Seen}
use Rattle.both_sides.specs.declared.fault.RelayFault.{RelayFault}
use Rattle.both_sides.specs.declared.fault.RelayFault.TheVariants as faults

-- the capture sink and the report sink
pub record Sinks : Type 0 where
  pub capture : Seen
  pub report : Seen

abbrev pub sinks_of : (capture : Option (List ℕ)) (capture_faults : ℕ) (report : Option (List ℕ)) (report_faults : ℕ) → Sinks
sinks_of capture capture_faults report report_faults =
    record { capture = record { octets = capture; faults = capture_faults }; report = record { octets = report; faults = report_faults } }

-- no fault count of the sinks rose
pub record NoSinkRose (before now : Sinks) : Type 0 where
  pub capture : now.capture.faults ≡ before.capture.faults
  pub report : now.report.faults ≡ before.report.faults

-- the fault count of the sink that failed rose, and that of the other is unchanged
abbrev pub OnlyRose : RelayFault → (before now : Sinks) → Type 0
OnlyRose faults.Capture before now = Rose before.capture.faults now.capture.faults × (now.report.faults ≡ before.report.faults)
OnlyRose faults.Report before now = (now.capture.faults ≡ before.capture.faults) × Rose before.report.faults now.report.faults
