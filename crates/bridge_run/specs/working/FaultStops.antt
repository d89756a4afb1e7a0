-- The stop for a fault of the input (this project's profile).
use Rattle.std.specs.Prelude.{ℕ}
use Rattle.capture_input.specs.declared.fault.InputFault.{InputFault}
use Rattle.bridge_run.specs.declared.stop.Stop.{Stop}
use Rattle.bridge_run.specs.declared.stop.Stop.TheVariants as stops
use Rattle.bridge_run.specs.StopReasons.{fault_kind}

-- the stop at the head, record or block with this fault, which begins at this offset
abbrev pub stop_at_fault : InputFault → (offset : ℕ) → Stop
stop_at_fault fault offset = stops.At (fault_kind fault) offset
