use Rattle.std.proofs.Common.{List, ℕ, ◌≡◌, ◌≤◌, length, take, sym, ap, subst, ◌∙◌, rules}
use Rattle.run_view.specs.working.FrontLine.{front_line}
use Rattle.run_view.proofs.Lining.{line_taken}
use Rattle.run_view.proofs.line.Lines.next.Goals as goal

pub returns-clause-line : goal.returns-clause-line
returns-clause-line g c =
    let now = c.fill.new.self in
    let F : List ℕ → Type 0 = λ l. take c.line_length-len.result l ≡ front_line 400 l in
    let W : List ℕ → Type 0 = λ l. c.line_length-len.result ≤ length l in
    line_taken now.buffer.value now.start now.filled c.line_length-len.result _ _ (search rules)
    (ap length (sym c.ahead.ensures.value) ∙ c.ahead.ensures.len) c.in_ok-fill.ensures.kept c.in_ok-fill.ensures.enough
    (subst F c.ahead.ensures.value c.line_length-len.ensures.line) (subst W c.ahead.ensures.value c.line_length-len.ensures.within)
