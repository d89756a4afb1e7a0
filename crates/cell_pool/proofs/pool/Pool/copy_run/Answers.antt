use Rattle.std.proofs.Common.{ℕ, List, Option, length, ◌∙◌, ap, sym, subst, arith}
use Rattle.cell_pool.specs.declared.cells.Cell.{Cell}
use Rattle.cell_pool.specs.ChainLists.{Held, IsCovered, StandsFrom}
use Rattle.cell_pool.proofs.Chains.{shown, held_inside, cell_read, just_held, stands_is}
use Rattle.cell_pool.proofs.pool.Pool.copy_run.Goals as goal

pub index-requires : goal.index-requires
index-requires c = omega (arith, held_inside (shown c.self.invariant c.self.view_is) (just_held c.requires.covered))

pub copy_run-requires-clause-covered : goal.copy_run-requires-clause-covered
copy_run-requires-clause-covered c =
    let shows = shown c.self.invariant c.self.view_is in
    let same = ap (λ (k : Cell). k.octets) (cell_read shows (just_held c.requires.covered) c.index.ensures) ∙ ap (λ (k : Held). k.octets) (stands_is shows c.requires.covered.stands) in
    subst (λ (l : List (Option ℕ)). IsCovered c.args.at (length c.args.out.now) l) (sym same) c.requires.covered.holds

pub returns : goal.returns
returns c chain before x after stands =
    let shows = shown c.self.invariant c.self.view_is in
    let same = ap (λ (k : Cell). k.octets) (cell_read shows (just_held c.requires.covered) c.index.ensures) ∙ ap (λ (k : Held). k.octets) (stands_is shows stands) in
    subst (λ (l : List (Option ℕ)). StandsFrom c.args.at c.copy_run.new.out l) same c.copy_run.ensures
