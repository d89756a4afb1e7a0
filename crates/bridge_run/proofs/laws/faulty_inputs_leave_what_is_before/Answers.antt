use Rattle.std.proofs.Common.{arith}
use Rattle.bridge_run.proofs.Stops.{stopped_row}
use Rattle.bridge_run.proofs.laws.faulty_inputs_leave_what_is_before.Goals as goal

pub returns : goal.returns
returns c = stopped_row 3 (λ e. omega (arith, e)) (λ e. omega (arith, e)) (λ e. omega (arith, e)) (λ e. omega (arith, e))
