use Rattle.receiver_model.proofs.Monitors.{are_in_time}
use Rattle.receiver_model.proofs.laws.monitors_are_in_time.Goals as goal

pub returns : goal.returns
returns c = are_in_time
