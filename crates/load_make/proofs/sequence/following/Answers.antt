use Rattle.std.proofs.Common.{arith}
use Rattle.load_make.specs.NumberSequence.{following}
use Rattle.load_make.proofs.sequence.following.Goals as goal

pub returns : goal.returns
unfolding following
returns c = omega arith
