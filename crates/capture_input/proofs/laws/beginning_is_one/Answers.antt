use Rattle.capture_input.proofs.Inputs.{beginning_one}
use Rattle.capture_input.proofs.laws.beginning_is_one.Goals as goal

pub returns : goal.returns
returns c = beginning_one
