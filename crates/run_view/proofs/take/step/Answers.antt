use Rattle.std.proofs.Common.{inl, inr, sym, ◌∙◌, arith, rules}
use Rattle.std.proofs.lemmas.Result.{err_from_is_err_and}
use Rattle.rule_book.specs.Entries.{plain}
use Rattle.run_view.specs.working.LinesAhead.{line_in}
use Rattle.run_view.specs.Forms.{version_of}
use Rattle.run_view.specs.working.ViewerProgress.{turn_in}
use Rattle.run_view.proofs.Fronts.{amiss_so, few_turn, none_told, other_number, part_told, told_so}
use Rattle.run_view.proofs.NextLine.{going_ahead, going_at, going_on, next_line_of, next_other}
use Rattle.run_view.proofs.Stopping.{says_more}
use Rattle.run_view.proofs.take.step.Goals as goal

pub returns-in_default-clause-stops : goal.returns-in_default-clause-stops
returns-in_default-clause-stops g c head before told going = record { is = inr (inr c.in_default.ensures.cause.failed) }

pub returns-then-from-turn-clause-stops : goal.returns-then-from-turn-clause-stops
returns-then-from-turn-clause-stops g c head before told going =
    let viewer = c.args.viewer.now in
    record {
      is = next_other viewer head before _ told _ going
          (amiss_so c.version_of.result (version_of viewer.form) c.turn-turn.result (turn_in viewer) c.line-text.result.now (line_in c.next.new.self) _
          c.version_of.ensures c.turn-turn.ensures c.line-text.ensures
          (few_turn viewer c.turn-turn.result c.turn-turn.ensures c.requires.may) (omega arith) c.in-Ok.ensures.line.is
          (other_number _ _ _ (plain c.in-Some.entry) (few_turn viewer c.turn-turn.result c.turn-turn.ensures c.requires.may) (omega arith)
          (part_told _ _ _ _ (plain c.in-Some.entry) c.entry_part.ensures (rw c.in-Some.is at c.read_entry-told.ensures))
          (λ is. c.if-from-turn.true (c.from.ensures ∙ is))));
    }

pub returns-in_err-take-in-Some-clause-stops : goal.returns-in_err-take-in-Some-clause-stops
returns-in_err-take-in-Some-clause-stops g c =
    let p = err_from_is_err_and c.from_residual.result c.from_residual.ensures.1 in rw (p.1, p.2)
    (λ head before told going.
    let viewer = c.args.viewer.now in
    let next = told_so c.version_of.result (version_of viewer.form) c.turn-turn.result (turn_in viewer) c.line-text.result.now
    (line_in c.next.new.self) _ _ (plain c.in-Some.entry) c.version_of.ensures c.turn-turn.ensures c.line-text.ensures
    c.in-Ok.ensures.line.taken (part_told _ _ _ _ (plain c.in-Some.entry) c.entry_part.ensures (rw c.in-Some.is at c.read_entry-told.ensures))
    (search rules) in
    let old = record viewer { lines = c.next.new.self } in
    let ahead = going_ahead viewer c.next.new.self head before _ told _ going in
    says_more (λ x. x) (λ x. x) (λ x. x) (λ x. x) (λ rose. elim rose [ inl input ↦ inl input | inr output ↦ inr (inl output) ]) (λ none. absurd none) _
    (c.in_err-take-in-Some.ensures.stops head before _ told _ ahead
    (next_line_of old head before _ ahead.items _ _ (plain c.in-Some.entry) ahead.so_far next)))

pub returns-in_err-show_due-in-Some-clause-stops : goal.returns-in_err-show_due-in-Some-clause-stops
returns-in_err-show_due-in-Some-clause-stops g c =
    let p = err_from_is_err_and c.from_residual-in_err-show_due-in-Some.result c.from_residual-in_err-show_due-in-Some.ensures.1 in rw (p.1, p.2)
    (λ head before told going.
    says_more (λ x. x) (λ none. absurd none) (λ none. absurd none) (λ none. absurd none) (λ none. absurd none) (λ x. x) _
    c.in_err-show_due-in-Some.ensures.stops)

pub returns-in_ok-show_due-in-Some-clause-going : goal.returns-in_ok-show_due-in-Some-clause-going
returns-in_ok-show_due-in-Some-clause-going g c head before told going =
    let viewer = c.args.viewer.now in
    let next = told_so c.version_of.result (version_of viewer.form) c.turn-turn.result (turn_in viewer) c.line-text.result.now
    (line_in c.next.new.self) _ _ (plain c.in-Some.entry) c.version_of.ensures c.turn-turn.ensures c.line-text.ensures
    c.in-Ok.ensures.line.taken (part_told _ _ _ _ (plain c.in-Some.entry) c.entry_part.ensures (rw c.in-Some.is at c.read_entry-told.ensures))
    (search rules) in
    going_at _ head before _ told _ _ _ (sym c.in_ok-take-in-Some.ensures.went.lines)
    (going_on (record viewer { lines = c.next.new.self }) c.take.new.viewer head before _ (g.I.Source.left c.take.new.input)
    (g.O.Source.left c.take.new.output) _ told _ _ (plain c.in-Some.entry) _
    (λ before shown items now fits number. c.in_ok-take-in-Some.ensures.taken head before shown items now fits number)
    c.in_ok-show_due-in-Some.ensures.shows c.in_ok-show_due-in-Some.ensures.rest next (going_ahead viewer c.next.new.self head before _ told _ going))

pub returns-in-None-2-clause-stops : goal.returns-in-None-2-clause-stops
returns-in-None-2-clause-stops g c head before told going =
    let viewer = c.args.viewer.now in
    record {
      is = next_other viewer head before _ told _ going
          (amiss_so c.version_of.result (version_of viewer.form) c.turn-turn.result (turn_in viewer) c.line-text.result.now (line_in c.next.new.self) _
          c.version_of.ensures c.turn-turn.ensures c.line-text.ensures
          (few_turn viewer c.turn-turn.result c.turn-turn.ensures c.requires.may) (omega arith) c.in-Ok.ensures.line.is
          (none_told _ _ _ _ c.entry_part.ensures (rw c.in-None.is at c.read_entry-told.ensures)
          (λ last. let e = sym c.if-is_last.false ∙ c.is_last.ensures.1 last in cc)));
    }
