use Rattle.std.proofs.Common.{ℕ, List, Option, IsTrue, ◌↔◌, subst₂, arith, sym, ap, length, ◌∙◌}
use Rattle.cell_pool.specs.ChainLists.{IsBlank}
use Rattle.cell_pool.proofs.Bits.{length-octets_of}
use Rattle.cell_pool.proofs.Runs.{blank_told}
use Rattle.cell_pool.proofs.octets.Octets.is_blank.Goals as goal

pub returns-clause-value : goal.returns-clause-value
returns-clause-value c = subst₂ (λ (i : ℕ) (l : List (Option ℕ)). IsTrue c.eq.result ↔ IsBlank i c.args.len l) c.from-first.ensures c.self.view_is
    (blank_told c.self.inside.values c.self.inside.known c.mask-places.result c.from-first.result c.args.len (omega arith)
    c.mask-places.ensures c.eq.result c.eq.ensures)

pub returns-clause-size : goal.returns-clause-size
returns-clause-size c = ap length (sym c.self.view_is) ∙ length-octets_of c.self.inside.values c.self.inside.known
