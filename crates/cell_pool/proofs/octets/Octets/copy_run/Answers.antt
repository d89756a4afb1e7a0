use Rattle.std.proofs.Common.{ℕ, List, Option, length, sym, subst₂, arith}
use Rattle.cell_pool.specs.ChainLists.{IsCovered, StandsFrom}
use Rattle.cell_pool.proofs.Runs.{copied}
use Rattle.cell_pool.proofs.octets.Octets.copy_run.Goals as goal

pub returns : goal.returns
returns c =
    let size = length c.args.out.now in
    let covered = subst₂ (λ (i : ℕ) (l : List (Option ℕ)). IsCovered i size l) (sym c.from-first.ensures) (sym c.self.view_is) c.requires.covered in
    subst₂ (λ (i : ℕ) (l : List (Option ℕ)). StandsFrom i c.copy_from_slice.new.self l) c.from-first.ensures c.self.view_is
    (copied c.self.inside.values c.self.inside.known c.from-first.result size (omega arith) c.self.told.0 covered c.copy_from_slice.new.self
    c.copy_from_slice.ensures.len c.copy_from_slice.ensures.after)
