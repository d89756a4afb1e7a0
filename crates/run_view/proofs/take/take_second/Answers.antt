use Rattle.std.proofs.Common.{refl, sym, ap, arith, ◌∙◌}
use Rattle.std.proofs.lemmas.Result.{err_from_is_err_and}
use Rattle.rule_book.specs.Entries.{plain}
use Rattle.run_view.specs.Items.{frames_of}
use Rattle.run_view.specs.working.LinePositions.{waits}
use Rattle.run_view.proofs.Shown.{some_waits}
use Rattle.run_view.proofs.LineTaken.{held_stop, taken_second}
use Rattle.run_view.proofs.take.take_second.Goals as goal

pub returns-in_err-gather-clause-stops : goal.returns-in_err-gather-clause-stops
returns-in_err-gather-clause-stops g c =
    let p = err_from_is_err_and c.from_residual.result c.from_residual.ensures.1 in rw (p.1, p.2)
    (λ read head before shown report left going line.
    let viewer = c.args.viewer.now in
    let waiting = ap waits (sym going.so_far.owed) ∙ some_waits viewer.owed (λ none. omega (arith, none)) in
    held_stop viewer head before _ report left going (plain c.args.entry.now) _ _ _ _ _ waiting
    (record { octets_are = c.as_slice-octets.ensures.value; seconds_is = refl; fraction_is = refl }) c.is_passed_second.ensures line
    (c.in_err-gather.ensures.stops before.written head (frames_of going.items) going.so_far.output) refl)

pub returns-clause-taken : goal.returns-clause-taken
returns-clause-taken g c read head before shown items so_far fits number =
    taken_second c.args.viewer.now c.gather.new.frames _ _ _ c.note_second.new.self
    c.note_line.new.printing _ head before _ _ items c.gather.new.gathered
    (omega arith) refl c.in_ok-gather.ensures.count
    (λ i. record {
      link = c.args.viewer.now.files.head.link;
      kinds = c.second_kinds.ensures i;
      passed = c.is_passed_second.ensures i;
      seconds = c.args.viewer.now.held.seconds;
      fraction = c.args.viewer.now.held.fraction;
      octets = c.as_slice-octets.ensures.value i;
    }) refl refl refl c.time_of-time.ensures refl c.as_slice-octets.ensures.value refl
    so_far fits number (c.in_ok-gather.ensures.read before.written head (frames_of items) so_far.output) c.in_ok-note_line.ensures
