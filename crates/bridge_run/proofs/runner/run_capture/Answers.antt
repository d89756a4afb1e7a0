use Rattle.std.proofs.Common.{refl, ◌∙◌, sym, inr, arith}
use Rattle.bridge_run.proofs.Statuses as statuses
use Rattle.bridge_run.proofs.runner.run_capture.Goals as goal

pub returns-in_default-ended-clause-faulty_exactly : goal.returns-in_default-ended-clause-faulty_exactly
returns-in_default-ended-clause-faulty_exactly g c = λ f. absurd (statuses.finished_or_faulty c.fault_excludes_end.ensures c.nothing_is_left.ensures.input _ _ _ _ _ _ _ (rw c.in_default-ended.is at c.in-Ok.ensures.ends.finished).normalized f)

pub returns-in_default-ended-clause-cut_exactly : goal.returns-in_default-ended-clause-cut_exactly
returns-in_default-ended-clause-cut_exactly g c = λ f. absurd (statuses.finished_or_cut c.fault_excludes_end.ensures _ _ _ _ _ _ _ (rw c.in_default-ended.is at c.in-Ok.ensures.ends.finished).normalized f)

pub returns-clause-finished : goal.returns-clause-finished
returns-clause-finished g c = λ e. absurd (let least = (statuses.known_of _ c.in-Err.stop _ _ (rw c.in-Err.is at c.in-Ok.ensures.ends.stopped).stands).0 in omega (arith, least, c.status.ensures, e))

pub returns-clause-no_fault : goal.returns-clause-no_fault
returns-clause-no_fault g c = λ e. absurd (let least = (statuses.known_of _ c.in-Err.stop _ _ (rw c.in-Err.is at c.in-Ok.ensures.ends.stopped).stands).0 in omega (arith, least, c.status.ensures, e))

pub returns-clause-stopped : goal.returns-clause-stopped
returns-clause-stopped g c = inr (inr (record {
  stop = c.in-Err.stop;
  answered = c.status.ensures;
  at = _;
  stands = (rw c.in-Err.is at c.in-Ok.ensures.ends.stopped).stands;
  first = (rw c.in-Err.is at c.in-Ok.ensures.ends.stopped).first;
  source_stays = refl;
  capture_stays = c.tell_stop.ensures.kept;
  told = c.tell_stop.ensures.told;
}))

pub returns-clause-faulty : goal.returns-clause-faulty
returns-clause-faulty g c = λ e. statuses.faulty_of c.head_stops_are_faults.ensures c.stops_are_faults.ensures _ c.in-Err.stop _ _ (rw c.in-Err.is at c.in-Ok.ensures.ends.stopped).stands (sym c.status.ensures ∙ e)

pub returns-clause-cut : goal.returns-clause-cut
returns-clause-cut g c = λ e. statuses.cut_of c.head_stops_are_faults.ensures c.stops_are_faults.ensures _
    (record { input = c.nothing_is_left.ensures.input; head = c.nothing_is_left.ensures.head; stops = c.nothing_is_left.ensures.stops }) c.in-Err.stop _ _ (rw c.in-Err.is at c.in-Ok.ensures.ends.stopped).stands (sym c.status.ensures ∙ e)

pub returns-clause-read : goal.returns-clause-read
returns-clause-read g c = λ e. statuses.read_of c.in-Err.stop _ _ (rw c.in-Err.is at c.in-Ok.ensures.ends.stopped).first (sym c.status.ensures ∙ e)

pub returns-clause-capture : goal.returns-clause-capture
returns-clause-capture g c = λ e. omega (arith, statuses.capture_of c.in-Err.stop _ _ (rw c.in-Err.is at c.in-Ok.ensures.ends.stopped).first (sym c.status.ensures ∙ e), c.tell_stop.ensures.capture_later)

pub returns-clause-report : goal.returns-clause-report
returns-clause-report g c = λ e. omega (arith, statuses.report_of c.in-Err.stop _ _ (rw c.in-Err.is at c.in-Ok.ensures.ends.stopped).first (sym c.status.ensures ∙ e), c.tell_stop.ensures.report_later)

pub returns-clause-faulty_exactly : goal.returns-clause-faulty_exactly
returns-clause-faulty_exactly g c = λ f. rw c.status.ensures (statuses.faulty_is_3 c.head_stops_are_faults.ensures c.stops_are_faults.ensures _ c.fault_is_one.ensures
    (record { input = c.nothing_is_left.ensures.input; head = c.nothing_is_left.ensures.head; stops = c.nothing_is_left.ensures.stops }) c.in-Err.stop _ _ (rw c.in-Err.is at c.in-Ok.ensures.ends.stopped).stands f)

pub returns-clause-cut_exactly : goal.returns-clause-cut_exactly
returns-clause-cut_exactly g c = λ f. rw c.status.ensures (statuses.cut_is_4 c.head_stops_are_faults.ensures c.stops_are_faults.ensures _ c.fault_is_one.ensures c.in-Err.stop _ _ (rw c.in-Err.is at c.in-Ok.ensures.ends.stopped).stands f)

pub returns-clause-complete : goal.returns-clause-complete
returns-clause-complete g c = λ f. inr (rw c.status.ensures (statuses.whole_goes_on c.head_stops_are_faults.ensures c.stops_are_faults.ensures _ c.fault_excludes_end.ensures c.in-Err.stop _ _ (rw c.in-Err.is at c.in-Ok.ensures.ends.stopped).stands f))

pub returns-clause-known : goal.returns-clause-known
returns-clause-known g c = let known = statuses.known_of _ c.in-Err.stop _ _ (rw c.in-Err.is at c.in-Ok.ensures.ends.stopped).stands in inr (omega (arith, known.0, c.status.ensures), omega (arith, known.1, c.status.ensures))

pub returns-clause-memory : goal.returns-clause-memory
returns-clause-memory g c = λ e. absurd (let most = (statuses.known_of _ c.in-Err.stop _ _ (rw c.in-Err.is at c.in-Ok.ensures.ends.stopped).stands).1 in omega (arith, most, c.status.ensures, e))

pub returns-clause-source_untouched : goal.returns-clause-source_untouched
returns-clause-source_untouched g c = λ e. absurd (let most = (statuses.known_of _ c.in-Err.stop _ _ (rw c.in-Err.is at c.in-Ok.ensures.ends.stopped).stands).1 in omega (arith, most, c.status.ensures, e))

pub returns-clause-capture_untouched : goal.returns-clause-capture_untouched
returns-clause-capture_untouched g c = λ e. absurd (let most = (statuses.known_of _ c.in-Err.stop _ _ (rw c.in-Err.is at c.in-Ok.ensures.ends.stopped).stands).1 in omega (arith, most, c.status.ensures, e))
