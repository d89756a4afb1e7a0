use Rattle.tcp_norm.proofs.Clashes.{clashes_are_real}
use Rattle.tcp_norm.proofs.laws.clashes_are_real.Goals as goal

pub returns : goal.returns
returns c = clashes_are_real c.intervals_fit.ensures c.calls_are_emitted.ensures
