use Rattle.std.proofs.Common.{arith}
use Rattle.tcp_codec.proofs.Walks.{option_some, option_inside}
use Rattle.tcp_codec.proofs.header.size_at.Goals as goal

pub returns-clause-some : goal.returns-clause-some
returns-clause-some c = omega (arith, option_some c.args.area.now c.args.at c.requires.formed c.requires.begins c.requires.sized)

pub returns-clause-inside : goal.returns-clause-inside
returns-clause-inside c = omega (arith, option_inside c.args.area.now c.args.at c.requires.formed c.requires.begins c.requires.sized)
