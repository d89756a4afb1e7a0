use Rattle.both_sides.proofs.Runs.{puts_mirror}
use Rattle.both_sides.proofs.laws.two_put_their_mirror.Goals as goal

pub returns : goal.returns
returns c = puts_mirror
