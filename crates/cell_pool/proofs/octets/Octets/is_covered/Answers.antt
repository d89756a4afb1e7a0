use Rattle.std.proofs.Common.{ℕ, List, Option, IsTrue, ◌↔◌, subst₂, arith}
use Rattle.cell_pool.specs.ChainLists.{IsCovered}
use Rattle.cell_pool.proofs.Runs.{covered_told}
use Rattle.cell_pool.proofs.octets.Octets.is_covered.Goals as goal

pub returns : goal.returns
returns c = subst₂ (λ (i : ℕ) (l : List (Option ℕ)). IsTrue c.eq.result ↔ IsCovered i c.args.len l) c.from-first.ensures c.self.view_is
    (covered_told c.self.inside.values c.self.inside.known c.mask-places.result c.from-first.result c.args.len (omega arith)
    c.mask-places.ensures c.eq.result c.eq.ensures)
