use Rattle.capture_input.proofs.Stops.{head_stops}
use Rattle.capture_input.proofs.laws.head_stops_are_faults.Goals as goal

pub returns : goal.returns
returns c = head_stops
