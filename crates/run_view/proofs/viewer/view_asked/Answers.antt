use Rattle.std.proofs.Common.{ap, inl, inr, ◌∙◌}
use Rattle.pcap_file.specs.declared.head.Head.{Head}
use Rattle.std.proofs.lemmas.Result.{err_from_is_err_and}
use Rattle.run_view.specs.RunFiles.{counts_of, sources_of}
use Rattle.run_view.specs.working.ViewerProgress.{ends_of}
use Rattle.run_view.proofs.Finished.{files_more, no_first}
use Rattle.run_view.proofs.Stopping.{if_err, if_ok, says_more}
use Rattle.run_view.proofs.Shown.{first_at, first_taken, fresh_so_far, two_links, viewed_fresh}
use Rattle.run_view.proofs.viewer.view_asked.Goals as goal

pub returns-clause-viewed : goal.returns-clause-viewed
returns-clause-viewed g c =
    if_ok c.view_entries.result c.view_entries.ensures.viewed
    (λ status viewed.
    viewed_fresh c.in_ok-viewer.viewer c.args.asked c.in_ok-form.form c.read_form.new.lines c.in_ok-reader.reader c.in_ok-frames.frames _ _ _ _ _ _
    status c.in_ok-viewer.ensures
    (c.in_ok-frames.ensures.same ∙ ap (λ (h : Head). h.link) c.head.ensures)
    (first_taken c.in_ok-lines.lines c.read_form.new.lines c.in_ok-viewer.viewer.lines _ _ _ (c.in_ok-lines.ensures _)
    c.in_ok-viewer.ensures.lines_are c.in_ok-form.ensures.first)
    (viewed _ (ends_of (g.I.Source.left c.args.input.now) (g.O.Source.left c.args.output.now) (g.E.Events.shown c.args.out.now))
    (fresh_so_far c.in_ok-viewer.viewer c.args.asked c.in_ok-form.form c.read_form.new.lines c.in_ok-reader.reader c.in_ok-frames.frames _ _ _ _ _ _
    c.in_ok-viewer.ensures c.in_ok-reader.ensures.opened
    c.in_ok-frames.ensures.opened c.print_opening.ensures.same)))

pub returns-clause-stops : goal.returns-clause-stops
returns-clause-stops g c =
    if_err c.view_entries.result c.view_entries.ensures.stops
    (λ stop why.
    files_more _ c.in_ok-viewer.viewer.form c.in_ok-form.form _ _ _ _ stop c.in_ok-viewer.ensures.form_is
    (first_taken c.in_ok-lines.lines c.read_form.new.lines c.in_ok-viewer.viewer.lines _ _ _ (c.in_ok-lines.ensures _)
    c.in_ok-viewer.ensures.lines_are c.in_ok-form.ensures.first)
    (λ i. counts_of (c.in_ok-reader.ensures.faults.kept i) (c.in_ok-frames.ensures.faults.kept i) (c.in_ok-form.ensures.faults.kept i)
    (c.in_ok-print_opening.ensures.faults.kept i))
    (why _ (ends_of (g.I.Source.left c.args.input.now) (g.O.Source.left c.args.output.now) (g.E.Events.shown c.args.out.now))
    (fresh_so_far c.in_ok-viewer.viewer c.args.asked c.in_ok-form.form c.read_form.new.lines c.in_ok-reader.reader c.in_ok-frames.frames _ _ _ _ _ _
    c.in_ok-viewer.ensures c.in_ok-reader.ensures.opened
    c.in_ok-frames.ensures.opened c.print_opening.ensures.same)))

pub returns-in_err-reader-clause-stops : goal.returns-in_err-reader-clause-stops
returns-in_err-reader-clause-stops g c =
    let p = err_from_is_err_and c.from_residual.result c.from_residual.ensures.1 in
    rw (p.1, p.2)
    (says_more (λ x. x) (λ none. absurd none) (λ x. x) (λ none. absurd none) (λ rose. inl rose) (λ none. absurd none) _ c.in_err-reader.ensures.stops)

pub returns-in_err-frames-clause-stops : goal.returns-in_err-frames-clause-stops
returns-in_err-frames-clause-stops g c =
    let p = err_from_is_err_and c.from_residual-in_err-frames.result c.from_residual-in_err-frames.ensures.1 in rw (p.1, p.2)
    (says_more (λ x. x) (λ none. absurd none) (λ none. absurd none)
    (λ none. elim none [
      | inl flawed ↦ inl flawed
      | inr other ↦
          inr (two_links c.in_ok-reader.reader _ _ _ _ (ap (λ (h : Head). h.link) c.head.ensures) c.in_ok-reader.ensures.opened other)
    ]) (λ rose. inr (inl rose)) (λ none. absurd none) _ c.in_err-frames.ensures.stops)

pub returns-in_err-form-clause-stops : goal.returns-in_err-form-clause-stops
returns-in_err-form-clause-stops g c =
    let p = err_from_is_err_and c.from_residual-in_err-form.result c.from_residual-in_err-form.ensures.1 in rw (p.1, p.2)
    (says_more (λ x. x)
    (λ none. no_first
    (sources_of (g.I.Source.left c.args.input.now) (g.O.Source.left c.args.output.now) (g.R.Source.left c.args.report.now))
    (first_at c.in_ok-lines.lines _ (c.in_ok-lines.ensures _) none))
    (λ none. absurd none) (λ none. absurd none) (λ rose. inr (inr rose)) (λ none. absurd none) _ c.in_err-form.ensures.stops)

pub returns-in_err-print_opening-clause-stops : goal.returns-in_err-print_opening-clause-stops
returns-in_err-print_opening-clause-stops g c =
    let p = err_from_is_err_and c.from_residual-in_err-print_opening.result c.from_residual-in_err-print_opening.ensures.1 in rw (p.1, p.2)
    (says_more (λ x. x) (λ none. absurd none) (λ none. absurd none) (λ none. absurd none) (λ none. absurd none) (λ x. x) _
    c.in_err-print_opening.ensures.stops)

pub returns-in_err-print_opening-clause-input_faults : goal.returns-in_err-print_opening-clause-input_faults
returns-in_err-print_opening-clause-input_faults g c =
    let p = err_from_is_err_and c.from_residual-in_err-print_opening.result c.from_residual-in_err-print_opening.ensures.1 in
    rw p.1 (record { later = c.in_ok-reader.ensures.faults.later; kept = tt })

pub returns-in_err-print_opening-clause-output_faults : goal.returns-in_err-print_opening-clause-output_faults
returns-in_err-print_opening-clause-output_faults g c =
    let p = err_from_is_err_and c.from_residual-in_err-print_opening.result c.from_residual-in_err-print_opening.ensures.1 in
    rw p.1 (record { later = c.in_ok-frames.ensures.faults.later; kept = tt })

pub returns-in_err-print_opening-clause-out_faults : goal.returns-in_err-print_opening-clause-out_faults
returns-in_err-print_opening-clause-out_faults g c =
    let p = err_from_is_err_and c.from_residual-in_err-print_opening.result c.from_residual-in_err-print_opening.ensures.1 in
    rw p.1 (record { later = c.print_opening.ensures.faults.later; kept = tt })
