use Rattle.capture_input.proofs.Inputs.{input_one}
use Rattle.capture_input.proofs.laws.input_is_one.Goals as goal

pub returns : goal.returns
returns c = input_one
