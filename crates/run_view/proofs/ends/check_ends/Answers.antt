use Rattle.std.proofs.Common.{Bool, subst, inl, inr}
use Rattle.std.proofs.lemmas.Result.{err_from_is_err_and}
use Rattle.pcap_file.specs.RecordReading.{shown as packet_of}
use Rattle.run_view.specs.working.LinesAhead.{GoesOn, left_in}
use Rattle.run_view.specs.Items.{frames_of, packets_of}
use Rattle.run_view.specs.RunFiles.{sources_of}
use Rattle.run_view.proofs.Shown.{is_over, took_last}
use Rattle.run_view.proofs.Finished.{one_frame, one_line, one_record}
use Rattle.run_view.proofs.NextLine.{told_of}
use Rattle.run_view.proofs.Records.{begins_at, frames_at}
use Rattle.run_view.proofs.Stopping.{says_more}
use Rattle.run_view.proofs.ends.check_ends.Goals as goal

pub returns-in_default-clause-stops : goal.returns-in_default-clause-stops
returns-in_default-clause-stops g c out head before shown report left ended =
    record { is = inr (inr c.in_default.ensures.cause.failed) }

pub returns-then-more-clause-stops : goal.returns-then-more-clause-stops
returns-then-more-clause-stops g c out head before shown report left ended =
    let viewer = c.args.viewer.now in
    let M : Bool → Type 0 = λ b. GoesOn b (left_in viewer.lines (g.R.Source.left c.args.report.now)) in
    record {
      is = one_line (sources_of before.read before.written report) viewer.form ended.going.items left (told_of viewer head before _ report left ended.going) _
          (took_last viewer head before _ report left _ ended) (subst M c.if-more.true c.in-Ok.ensures.more);
    }

pub returns-in_err-next_record-clause-stops : goal.returns-in_err-next_record-clause-stops
returns-in_err-next_record-clause-stops g c =
    let p = err_from_is_err_and c.from_residual.result c.from_residual.ensures.1 in rw (p.1, p.2)
    (λ out head before shown report left ended.
    says_more (λ x. x) (λ none. absurd none) (λ x. x) (λ none. absurd none) (λ rose. inl rose) (λ x. x) _
    (c.in_err-next_record.ensures.stops c.args.viewer.now.files.head before.read (packets_of ended.going.items) ended.going.so_far.input))

pub returns-in-Some-clause-stops : goal.returns-in-Some-clause-stops
returns-in-Some-clause-stops g c out head before shown report left ended =
    let viewer = c.args.viewer.now in
    let M : Bool → Type 0 = λ b. GoesOn b (left_in viewer.lines (g.R.Source.left c.args.report.now)) in
    let over = is_over viewer head before _ report left _ ended (subst M c.if-more.false c.in-Ok.ensures.more) in
    let items = ended.going.items in
    record {
      is = one_record (sources_of before.read before.written report) viewer.form items left (told_of viewer head before _ report left ended.going)
          viewer.files.head (packet_of c.in-Some.field-0) over
          (begins_at _ _ _ _ _
          (rw c.in-Some.is at (c.in_ok-next_record.ensures.reads viewer.files.head before.read (packets_of items) ended.going.so_far.input)));
    }

pub returns-in_err-next_frame-clause-stops : goal.returns-in_err-next_frame-clause-stops
returns-in_err-next_frame-clause-stops g c =
    let p = err_from_is_err_and c.from_residual-in_err-next_frame.result c.from_residual-in_err-next_frame.ensures.1 in rw (p.1, p.2)
    (λ out head before shown report left ended.
    says_more (λ x. x) (λ none. absurd none) (λ none. absurd none) (λ x. x) (λ rose. inr (inl rose)) (λ x. x) _
    (c.in_err-next_frame.ensures.stops head before.written (frames_of ended.going.items) ended.going.so_far.output))

pub returns-in-Some-2-clause-stops : goal.returns-in-Some-2-clause-stops
returns-in-Some-2-clause-stops g c out head before shown report left ended =
    let viewer = c.args.viewer.now in
    let M : Bool → Type 0 = λ b. GoesOn b (left_in viewer.lines (g.R.Source.left c.args.report.now)) in
    let over = is_over viewer head before _ report left _ ended (subst M c.if-more.false c.in-Ok.ensures.more) in
    let items = ended.going.items in
    record {
      is = one_frame (sources_of before.read before.written report) viewer.form items left (told_of viewer head before _ report left ended.going)
          head (packet_of c.in-Some-2.field-0) over
          (frames_at _ _ _ _ _ (rw c.in-Some-2.is at (c.in_ok-next_frame.ensures.reads head before.written (frames_of items) ended.going.so_far.output)));
    }

pub returns-clause-over : goal.returns-clause-over
returns-clause-over g c head before shown report left ended =
    let viewer = c.args.viewer.now in
    let M : Bool → Type 0 = λ b. GoesOn b (left_in viewer.lines (g.R.Source.left c.args.report.now)) in
    let over = is_over viewer head before _ report left _ ended (subst M c.if-more.false c.in-Ok.ensures.more) in
    let items = ended.going.items in
    record {
      report = over;
      records = rw c.in_default-2.is at (c.in_ok-next_record.ensures.reads viewer.files.head before.read (packets_of items) ended.going.so_far.input);
      frames = rw c.in_default-3.is at (c.in_ok-next_frame.ensures.reads head before.written (frames_of items) ended.going.so_far.output);
    }
