use Rattle.std.proofs.Common.{◌≡◌, ℕ, ◌+◌, ◌-◌, ◌≤◌, List, Option, length, refl, ap₂, ◌∙◌, arith}
use borrow.Rule.Slice.PartMut.{put_mid}
use Rattle.cell_pool.specs.working.PackedOctets.{octets_of}
use Rattle.cell_pool.specs.ChainLists.{with_run}
use Rattle.cell_pool.proofs.Runs.{run_set, words}
use Rattle.cell_pool.proofs.octets.Octets.set_run.Goals as goal

pub returns : goal.returns
returns c =
    let run = c.args.octets.now in
    let first = c.from-first.result in
    let size : first + length run - first ≡ length run = omega arith in
    let made = c.mask-places.ensures in
    let fits : first + length run ≤ 256 = omega (arith, c.requires, c.from-first.ensures) in
    ap₂ (λ k ys. octets_of (put_mid first k c.self.inside.values ys)
    (words c.self.inside.values c.self.inside.known c.mask-places.result run first (length run) refl fits made c.self.told.0))
    size c.copy_from_slice.ensures.after
    ∙ (run_set c.self.inside.values c.self.inside.known c.mask-places.result run first fits made c.self.told.0
    ∙ ap₂ (λ (i : ℕ) (l : List (Option ℕ)). with_run i run l) c.from-first.ensures c.self.view_is)
