use Rattle.std.proofs.Common.{◌≡◌, ◌∙◌, ap, arith}
use Rattle.cell_pool.specs.declared.cells.Cell.{Cell}
use Rattle.cell_pool.specs.ChainLists.{Held}
use Rattle.cell_pool.proofs.Chains.{shown, held_inside, cell_read, stands_is}
use Rattle.cell_pool.proofs.pool.Pool.get.Goals as goal

pub index-requires : goal.index-requires
index-requires c = omega (arith, held_inside (shown c.self.invariant c.self.view_is) c.requires)

pub returns-clause-value : goal.returns-clause-value
returns-clause-value c chain before x after stands =
    let shows = shown c.self.invariant c.self.view_is in
    let same : c.index.result.now.octets ≡ x.octets = ap (λ (k : Cell). k.octets)
    (cell_read shows c.requires c.index.ensures) ∙ ap (λ (k : Held). k.octets) (stands_is shows stands) in
    rw (← same) c.get.ensures.value

pub returns-clause-size : goal.returns-clause-size
returns-clause-size c chain before x after stands =
    let shows = shown c.self.invariant c.self.view_is in
    let same : c.index.result.now.octets ≡ x.octets = ap (λ (k : Cell). k.octets)
    (cell_read shows c.requires c.index.ensures) ∙ ap (λ (k : Held). k.octets) (stands_is shows stands) in
    rw (← same) c.get.ensures.size
