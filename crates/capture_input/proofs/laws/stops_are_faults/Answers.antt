use Rattle.capture_input.proofs.Stops.{stops}
use Rattle.capture_input.proofs.laws.stops_are_faults.Goals as goal

pub returns : goal.returns
returns c = stops
