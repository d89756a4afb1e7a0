use Rattle.run_laws.proofs.Meeting.{run_meets}
use Rattle.run_laws.proofs.laws.receivers_of_runs_meet.Goals as goal

pub returns : goal.returns
returns c settings source source' capture capture' report report' done = run_meets c.parts_meet.ensures settings done.head.link done.run done.reads
