use Rattle.bridge_run.proofs.Stops.{failed_row}
use Rattle.bridge_run.proofs.laws.failed_reports_leave_a_prefix.Goals as goal

pub returns : goal.returns
returns c = failed_row
