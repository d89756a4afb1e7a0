use Rattle.std.proofs.Common.{◌∙◌, arith}
use Rattle.std.proofs.lemmas.Result.{err_from_is_err_and}
use Rattle.run_view.specs.RunFiles.{counts_of}
use Rattle.run_view.proofs.Shown.{whole_at, whole_now}
use Rattle.run_view.proofs.Stopping.{both_ok, if_err, if_ok, rest_more, rose_within, says_more, to_its_end}
use Rattle.run_view.proofs.viewer.view_entries.Goals as goal

pub returns-in_err-step-clause-stops : goal.returns-in_err-step-clause-stops
returns-in_err-step-clause-stops g c =
    let p = err_from_is_err_and c.from_residual.result c.from_residual.ensures.1 in rw (p.1, p.2)
    (λ head before so_far.
    rest_more c.entries.viewer.form _ _ _ _ _ _ c.entries.invariant.form
    (λ i. counts_of (c.entries.invariant.input_kept i) (c.entries.invariant.output_kept i) (c.entries.invariant.report_kept i)
    (c.entries.invariant.out_kept i))
    (c.in_err-step.ensures.stops head before _ (c.entries.invariant.going head before so_far)))

pub returns-in_err-check_ends-clause-stops : goal.returns-in_err-check_ends-clause-stops
returns-in_err-check_ends-clause-stops g c =
    let p = err_from_is_err_and c.from_residual-in_err-check_ends.result c.from_residual-in_err-check_ends.ensures.1 in rw (p.1, p.2)
    (λ head before so_far.
    let same = c.in_ok-step.ensures.same in
    let ended = rw c.if-branch.false at (c.in_ok-step.ensures.going head before _ (c.entries.invariant.going head before so_far)) in
    rest_more c.step.new.viewer.form _ _ _ _ _ _ (same.form ∙ c.entries.invariant.form)
    (λ i. counts_of ((c.in_ok-step.ensures.input_faults.kept ∙ c.entries.invariant.input_kept) i)
    ((c.in_ok-step.ensures.output_faults.kept ∙ c.entries.invariant.output_kept) i)
    ((c.in_ok-step.ensures.report_faults.kept ∙ c.entries.invariant.report_kept) i)
    ((c.in_ok-step.ensures.out_faults.kept ∙ c.entries.invariant.out_kept) i))
    (says_more (λ x. x) (λ x. x) (λ x. x) (λ x. x) (λ x. x) (λ none. absurd none) _
    (c.in_err-check_ends.ensures.stops (g.E.Events.fault_count c.step.new.out) head before _ _ _ ended)))

pub returns-clause-stops : goal.returns-clause-stops
returns-clause-stops g c =
    if_err c.close.result c.close.ensures.stops
    (λ stop why head before so_far.
    says_more (λ x. x) (λ none. absurd none) (λ none. absurd none) (λ none. absurd none) (λ none. absurd none)
    (λ rose. rose_within _ _ _ _ (omega arith) (omega arith) rose) stop why)

pub returns-clause-viewed : goal.returns-clause-viewed
returns-clause-viewed g c =
    if_ok c.close.result (both_ok _ _ c.close.result c.close.ensures.shows c.close.ensures.answers)
    (λ status closed head before so_far.
    let same = c.in_ok-step.ensures.same in
    let ended = rw c.if-branch.false at (c.in_ok-step.ensures.going head before _ (c.entries.invariant.going head before so_far)) in
    whole_at (same.asked ∙ c.entries.invariant.asked) (same.form ∙ c.entries.invariant.form) (same.head ∙ c.entries.invariant.head)
    (whole_now c.step.new.viewer c.check_ends.new.viewer head before _ _ _ _ status c.in_ok-check_ends.ensures.same closed.1 closed.0 ended.going
    (c.in_ok-check_ends.ensures.over head before _ _ _ ended)))

pub returns-clause-answers : goal.returns-clause-answers
returns-clause-answers g c = if_ok c.close.result c.close.ensures.answers (λ status is. to_its_end _ _ status is)
