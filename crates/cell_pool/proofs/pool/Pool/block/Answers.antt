use Rattle.std.proofs.Common.{◌∙◌, ap, arith}
use Rattle.cell_pool.specs.declared.cells.Cell.{Cell}
use Rattle.cell_pool.specs.ChainLists.{Held}
use Rattle.cell_pool.proofs.Chains.{shown, held_inside, cell_read, stands_is}
use Rattle.cell_pool.proofs.pool.Pool.block.Goals as goal

pub index-requires : goal.index-requires
index-requires c = omega (arith, held_inside (shown c.self.invariant c.self.view_is) c.requires)

pub returns : goal.returns
returns c chain before x after stands =
    let shows = shown c.self.invariant c.self.view_is in
    ap (λ (k : Cell). k.block) (cell_read shows c.requires c.index.ensures)
    ∙ ap (λ (k : Held). k.block) (stands_is shows stands)
