use Rattle.both_sides.proofs.Runs.{puts_trace}
use Rattle.both_sides.proofs.laws.one_puts_its_trace.Goals as goal

pub returns : goal.returns
returns c = puts_trace
