-- Why a run is not viewed to its end: the statuses, and what a stop says (this project's profile).
use Rattle.std.specs.Prelude.{◌≡◌, ℕ, false}
use Rattle.capture_input.specs.Faults.{is_read_fault}
use Rattle.capture_input.specs.declared.fault.InputFault.{InputFault}
use Rattle.capture_input.specs.declared.fault.InputFault.TheVariants as faults
use Rattle.run_view.specs.declared.stop.Stop.{Stop}
use Rattle.run_view.specs.declared.stop.Stop.TheVariants as stops

-- a capture that ends inside its head, a record or a block has a status that differs from that of
-- any other fault
abbrev pub fault_status : InputFault → ℕ
fault_status faults.Cut = 4
fault_status faults.Magic = 3
fault_status faults.Version = 3
fault_status faults.Link = 3
fault_status faults.Block = 3
fault_status faults.Long = 3
fault_status faults.Many = 3
fault_status faults.ReadFault = 5

-- the status of a stop
abbrev pub status_of : Stop → ℕ
status_of stops.Words = 2
status_of (stops.Record number) = 1
status_of (stops.Frame number) = 1
status_of (stops.Input fault offset) = fault_status fault
status_of (stops.Output fault offset) = fault_status fault
status_of stops.Unread = 5
status_of stops.Unwritten = 7
status_of stops.Memory = 8
status_of (stops.Report line) = 9

-- what a stop says: invalid arguments, the files are those of no run, the input or the output is no
-- capture, a source or the output failed; nothing is claimed of memory
abbrev pub Meaning : (refused no_run no_input no_output unread unwritten : Type 0) → Stop → Type 0
Meaning refused no_run no_input no_output unread unwritten stops.Words = refused
Meaning refused no_run no_input no_output unread unwritten (stops.Record number) = no_run
Meaning refused no_run no_input no_output unread unwritten (stops.Frame number) = no_run
Meaning refused no_run no_input no_output unread unwritten (stops.Report line) = no_run
Meaning refused no_run no_input no_output unread unwritten (stops.Input fault offset) = (is_read_fault fault ≡ false) × no_input
Meaning refused no_run no_input no_output unread unwritten (stops.Output fault offset) = (is_read_fault fault ≡ false) × no_output
Meaning refused no_run no_input no_output unread unwritten stops.Unread = unread
Meaning refused no_run no_input no_output unread unwritten stops.Unwritten = unwritten
Meaning refused no_run no_input no_output unread unwritten stops.Memory = Unit {0}

pub record Says (refused no_run no_input no_output unread unwritten : Type 0) (stop : Stop) : Type 0 where
  pub is : Meaning refused no_run no_input no_output unread unwritten stop
