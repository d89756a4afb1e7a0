use Rattle.bridge_run.proofs.Stops.{finished_row}
use Rattle.bridge_run.proofs.laws.finished_runs_leave_all.Goals as goal

pub returns : goal.returns
returns c = finished_row
