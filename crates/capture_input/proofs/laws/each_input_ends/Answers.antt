use Rattle.capture_input.proofs.Inputs.{each_ends}
use Rattle.capture_input.proofs.laws.each_input_ends.Goals as goal

pub returns : goal.returns
returns c = each_ends
