-- Whether a call failed because its source failed.
use Rattle.std.specs.Prelude.{Bool, true, false, Result, Ok, Err}
use Rattle.pcapng_file.specs.declared.fault.NgFault.{NgFault}
use Rattle.pcapng_file.specs.declared.fault.NgFault.TheVariants as faults

-- whether the source itself failed
abbrev pub is_read_fault : {T : Type 0} → Result T NgFault → Bool
is_read_fault (Ok value) = false
is_read_fault (Err faults.ReadFault) = true
is_read_fault (Err _) = false
