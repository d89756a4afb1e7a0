use Rattle.std.proofs.Common.{List, ℕ, Bool, not, subst, sym}
use Rattle.std.specs.Io.KnownBytes.{Keeps, prepend_known}
use Rattle.run_view.specs.working.LinesAhead.{GoesOn, left_in}
use Rattle.run_view.proofs.Lining.{goes_by}
use Rattle.run_view.proofs.line.Lines.goes_on.Goals as goal

pub returns-clause-more : goal.returns-clause-more
returns-clause-more g c =
    let now = c.fill.new.self in
    let before = left_in c.args.self.now (g.R.Source.left c.args.source.now) in
    let B : Bool → Type 0 = λ b. GoesOn (not b) before in
    let K : List ℕ → Type 0 = λ l. Keeps before (prepend_known l (g.R.Source.left c.fill.new.source)) in
    subst B (sym c.is_empty.ensures)
    (goes_by c.ahead.result.now now.start now.filled before _ c.ahead.ensures.len (subst K (sym c.ahead.ensures.value) c.in_ok-fill.ensures.kept) c.in_ok-fill.ensures.enough)
