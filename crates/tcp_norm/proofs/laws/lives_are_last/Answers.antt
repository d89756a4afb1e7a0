use Rattle.tcp_norm.proofs.EraCounts.{lives_are_last}
use Rattle.tcp_norm.proofs.laws.lives_are_last.Goals as goal

pub returns : goal.returns
returns c = lives_are_last
