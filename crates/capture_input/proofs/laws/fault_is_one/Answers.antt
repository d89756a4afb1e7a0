use Rattle.capture_input.proofs.Inputs.{fault_one}
use Rattle.capture_input.proofs.laws.fault_is_one.Goals as goal

pub returns : goal.returns
returns c = fault_one
