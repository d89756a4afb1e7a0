use Rattle.std.proofs.Common.{Some, set, arith}
use Rattle.cell_pool.proofs.Pools.{overwrite}
use Rattle.cell_pool.proofs.Chains.{shown, held_inside}
use Rattle.cell_pool.proofs.pool.Pool.set.Goals as goal

pub index_mut-cell-requires : goal.index_mut-cell-requires
index_mut-cell-requires c = omega (arith, held_inside (shown c.self.invariant c.self.view_is) c.requires)

pub invariant_of-self : goal.invariant_of-self
invariant_of-self c = (overwrite (shown c.self.invariant c.self.view_is)
    (λ octets. set octets c.args.at (Some c.args.octet))
    c.index_mut-cell.ensures.value c.set.ensures c.requires.stands).sound

pub returns : goal.returns
returns c chain before x after stands = (overwrite (shown c.self.invariant c.self.view_is)
    (λ octets. set octets c.args.at (Some c.args.octet)) c.index_mut-cell.ensures.value c.set.ensures stands).is
