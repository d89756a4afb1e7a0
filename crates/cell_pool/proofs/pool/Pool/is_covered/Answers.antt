use Rattle.std.proofs.Common.{◌↔◌, ℕ, List, Option, IsTrue, ◌∙◌, ap, subst, arith}
use Rattle.cell_pool.specs.declared.cells.Cell.{Cell}
use Rattle.cell_pool.specs.ChainLists.{Held, IsCovered}
use Rattle.cell_pool.proofs.Chains.{shown, held_inside, cell_read, stands_is}
use Rattle.cell_pool.proofs.pool.Pool.is_covered.Goals as goal

pub index-requires : goal.index-requires
index-requires c = omega (arith, held_inside (shown c.self.invariant c.self.view_is) c.requires.held)

pub returns : goal.returns
returns c chain before x after stands =
    let shows = shown c.self.invariant c.self.view_is in
    let same = ap (λ (k : Cell). k.octets) (cell_read shows c.requires.held c.index.ensures) ∙ ap (λ (k : Held). k.octets) (stands_is shows stands) in
    subst (λ (l : List (Option ℕ)). IsTrue c.is_covered.result ↔ IsCovered c.args.at c.args.len l) same c.is_covered.ensures
