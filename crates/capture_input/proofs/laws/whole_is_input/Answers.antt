use Rattle.capture_input.proofs.Stops.{whole}
use Rattle.capture_input.proofs.laws.whole_is_input.Goals as goal

pub returns : goal.returns
returns c = whole
