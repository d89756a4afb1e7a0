use Rattle.std.proofs.Common.{ℕ, List, Option, IsTrue, ◌↔◌, length, sym, subst₂, arith, refl}
use Rattle.std.proofs.lemmas.Bool.Decides.{Decides-eqb}
use Rattle.std.proofs.lemmas.Slice.Eq.{slice_eq-Decides}
use Rattle.cell_pool.specs.ChainLists.{IsCovered, StandsFrom}
use Rattle.cell_pool.proofs.Runs.{compared}
use Rattle.cell_pool.proofs.octets.Octets.has_run.Goals as goal

pub returns : goal.returns
returns c =
    let run = c.args.octets.now in
    let covered = subst₂ (λ (i : ℕ) (l : List (Option ℕ)). IsCovered i (length run) l) (sym c.from-first.ensures) (sym c.self.view_is) c.requires.covered in
    subst₂ (λ (i : ℕ) (l : List (Option ℕ)). IsTrue c.eq.result ↔ StandsFrom i run l) c.from-first.ensures c.self.view_is
    (compared c.self.inside.values c.self.inside.known c.from-first.result (length run) (omega arith) c.self.told.0 covered run c.eq.result refl
    (slice_eq-Decides Decides-eqb _ _ _ c.eq.ensures))
