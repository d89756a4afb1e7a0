use Rattle.tcp_norm.proofs.EraCounts.{flows_are_bounded}
use Rattle.tcp_norm.proofs.laws.flows_are_bounded.Goals as goal

pub returns : goal.returns
returns c = flows_are_bounded
