use Rattle.std.proofs.Common.{length, refl, ◌∙◌}
use Rattle.rule_book.proofs.Entries.{awaits_at, awaits_done, awaits_next, is_full, is_none}
use Rattle.rule_book.proofs.Lines.{none_is_some}
use Rattle.rule_book.specs.Entries.{plain}
use Rattle.rule_book.proofs.found.add_marks.Goals as goal

pub returns-in_err-add_mark-clause-adds : goal.returns-in_err-add_mark-clause-adds
returns-in_err-add_mark-clause-adds c whole fits awaits =
    let some = is_full (length c.loop-rest.rest.now) c.is_empty.result c.is_empty.ensures c.loop-rest-test.true in
    let next = awaits_next (plain c.loop-rest.entry) c.loop-rest.rest.now whole fits (c.loop-rest.invariant.awaits whole fits awaits) some in
    absurd (none_is_some c.in_err-add_mark.was (c.add_mark.ensures.adds next.mark next.fits next.room (c.cut.ensures.front ∙ next.word)).0)

pub loop-rest-preserved : goal.loop-rest-preserved
loop-rest-preserved c = record {
  awaits = λ whole fits awaits.
      (let some = is_full (length c.loop-rest.rest.now) c.is_empty.result c.is_empty.ensures c.loop-rest-test.true in
      let next = awaits_next (plain c.loop-rest.entry) c.loop-rest.rest.now whole fits (c.loop-rest.invariant.awaits whole fits awaits) some in
      awaits_at (c.add_mark.ensures.adds next.mark next.fits next.room (c.cut.ensures.front ∙ next.word)).1 c.cut.ensures.behind next.awaits);
  fits = λ fits. c.add_mark.ensures.fits (c.loop-rest.invariant.fits fits);
}

pub returns-clause-adds : goal.returns-clause-adds
returns-clause-adds c whole fits awaits =
    (refl, awaits_done (plain c.loop-rest.entry) c.loop-rest.rest.now whole (c.loop-rest.invariant.awaits whole fits awaits) (is_none (length c.loop-rest.rest.now) c.is_empty.result c.is_empty.ensures c.loop-rest-test.false))
