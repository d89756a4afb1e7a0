use Rattle.std.proofs.Common.{arith}
use Rattle.cell_pool.specs.ChainLists.{with_run}
use Rattle.cell_pool.proofs.Pools.{overwrite}
use Rattle.cell_pool.proofs.Chains.{shown, held_inside}
use Rattle.cell_pool.proofs.pool.Pool.set_run.Goals as goal

pub index_mut-cell-requires : goal.index_mut-cell-requires
index_mut-cell-requires c = omega (arith, held_inside (shown c.self.invariant c.self.view_is) c.requires.held)

pub invariant_of-self : goal.invariant_of-self
invariant_of-self c = (overwrite (shown c.self.invariant c.self.view_is) (with_run c.args.at c.args.octets.now)
    c.index_mut-cell.ensures.value c.set_run.ensures c.requires.held.stands).sound

pub returns : goal.returns
returns c chain before x after stands = (overwrite (shown c.self.invariant c.self.view_is) (with_run c.args.at c.args.octets.now)
    c.index_mut-cell.ensures.value c.set_run.ensures stands).is
