use Rattle.std.proofs.Common.{arith}
use Rattle.bridge_run.proofs.Stops.{stopped_row}
use Rattle.bridge_run.proofs.laws.failed_outputs_leave_a_prefix.Goals as goal

pub returns : goal.returns
returns c = stopped_row 6 (λ e. omega (arith, e)) (λ e. omega (arith, e)) (λ e. omega (arith, e)) (λ e. omega (arith, e))
