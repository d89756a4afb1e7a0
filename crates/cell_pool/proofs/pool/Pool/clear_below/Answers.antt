use Rattle.std.proofs.Common.{◌↔◌, ℕ, List, Option, IsNone, IsTrue, ◌∙◌, ap, subst, arith, All}
use Rattle.cell_pool.specs.declared.cells.Cell.{Cell}
use Rattle.cell_pool.specs.ChainLists.{Held, without_below}
use Rattle.cell_pool.proofs.Pools.{overwrite}
use Rattle.cell_pool.proofs.Chains.{shown, held_inside, cell_read, stands_is}
use Rattle.cell_pool.proofs.pool.Pool.clear_below.Goals as goal

pub index_mut-cell-requires : goal.index_mut-cell-requires
index_mut-cell-requires c = omega (arith, held_inside (shown c.self.invariant c.self.view_is) c.requires)

pub invariant_of-self : goal.invariant_of-self
invariant_of-self c = (overwrite (shown c.self.invariant c.self.view_is) (without_below c.args.at)
    c.index_mut-cell.ensures.value c.clear_below.ensures.forgotten c.requires.stands).sound

pub returns-clause-forgotten : goal.returns-clause-forgotten
returns-clause-forgotten c chain before x after stands =
    (overwrite (shown c.self.invariant c.self.view_is) (without_below c.args.at)
    c.index_mut-cell.ensures.value c.clear_below.ensures.forgotten stands).is

pub returns-clause-none_left : goal.returns-clause-none_left
returns-clause-none_left c chain before x after stands =
    let shows = shown c.self.invariant c.self.view_is in
    let same = ap (λ (k : Cell). k.octets) (cell_read shows c.requires c.index_mut-cell.ensures.value)
    ∙ ap (λ (k : Held). k.octets) (stands_is shows stands) in
    subst (λ (l : List (Option ℕ)). IsTrue c.clear_below.result ↔ All (λ o. IsNone o) l)
    (c.clear_below.ensures.forgotten ∙ ap (without_below c.args.at) same) c.clear_below.ensures.none_left
