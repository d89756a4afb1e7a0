use Rattle.std.proofs.Common.{◌-◌, ◌*◌, arith}
use Rattle.cell_pool.proofs.Runs.{ones_apart}
use Rattle.cell_pool.proofs.octets.ones_between.Goals as goal

pub returns : goal.returns
returns c = ones_apart (c.args.at - 64 * c.args.word) (c.args.end - 64 * c.args.word) _ _ (omega arith) c.ones_below.ensures c.ones_below-2.ensures
