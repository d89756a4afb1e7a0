use Rattle.std.proofs.Common.{sym, ◌∙◌, ap, arith}
use Rattle.rule_book.specs.Text.{last_text}
use Rattle.rule_book.specs.declared.last.Last.TheVariants.{End}
use Rattle.rule_book.proofs.Unique.{last_one}
use Rattle.run_view.proofs.turn.is_last.Goals as goal

pub returns-in-Some : goal.returns-in-Some
returns-in-Some c = (
  λ is. record { first = c.if-turn.false; is = c.in-Some.ensures.1 ∙ ap last_text (c.is_end.ensures.0 is) },
  λ ends. c.is_end.ensures.1
      (last_one c.in-Some.last (End c.args.turn.done c.args.turn.frames) c.in-Some.ensures.0 (c.requires.few, omega arith) (sym c.in-Some.ensures.1 ∙ ends.is)),
)

pub returns-in-None : goal.returns-in-None
returns-in-None c =
    (λ is. let e = is in cc, λ ends. absurd (c.in-None.ensures (End c.args.turn.done c.args.turn.frames) (c.requires.few, omega arith) ends.is))
