use Rattle.std.proofs.Common.{◌∙◌, ap, arith}
use Rattle.cell_pool.specs.declared.cells.Cell.{Cell}
use Rattle.cell_pool.proofs.Owners.{stands_once}
use Rattle.cell_pool.proofs.Chains.{first_is, shown, held_inside, cell_read, stands_at}
use Rattle.cell_pool.proofs.pool.Pool.next_of.Goals as goal

pub index-requires : goal.index-requires
index-requires c = omega (arith, held_inside (shown c.self.invariant c.self.view_is) c.requires)

pub returns-clause-value : goal.returns-clause-value
returns-clause-value c chain before x after stands =
    let shows = shown c.self.invariant c.self.view_is in
    ap (λ (k : Cell). k.next) (cell_read shows c.requires c.index.ensures)
    ∙ first_is _ _ _ after (stands_at shows stands).leads

pub returns-clause-once : goal.returns-clause-once
returns-clause-once c = stands_once (shown c.self.invariant c.self.view_is) c.args.cell
