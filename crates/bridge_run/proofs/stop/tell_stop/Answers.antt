use Rattle.bridge_run.proofs.Statuses.{told_behind, told_after, kept_by}
use Rattle.bridge_run.proofs.stop.tell_stop.Goals as goal

pub returns-in-At-clause-told : goal.returns-in-At-clause-told
returns-in-At-clause-told g c = rw c.in-At.is (told_behind c.flush-2.result _ _ _ _ _ _ _ c.flush-2.ensures.octets c.flush-2.ensures.cause.later c.tell_kind.ensures.told)

pub returns-in-Report-clause-told : goal.returns-in-Report-clause-told
returns-in-Report-clause-told g c = rw c.in-Report.is (told_after c.flush-2.result _ _ _ _ c.flush-2.ensures.octets)

pub returns-in-At-clause-kept : goal.returns-in-At-clause-kept
returns-in-At-clause-kept g c = kept_by c.flush.result _ _ c.flush.ensures.octets c.flush.ensures.cause

pub returns-in-Report-clause-kept : goal.returns-in-Report-clause-kept
returns-in-Report-clause-kept g c = kept_by c.flush.result _ _ c.flush.ensures.octets c.flush.ensures.cause
