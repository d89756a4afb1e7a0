use Rattle.reassembly.proofs.Limits.{answered_is_within}
use Rattle.reassembly.proofs.laws.answered_is_within.Goals as goal

pub returns : goal.returns
returns c = answered_is_within
