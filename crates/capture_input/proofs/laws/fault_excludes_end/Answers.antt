use Rattle.capture_input.proofs.Inputs.{fault_no_end}
use Rattle.capture_input.proofs.laws.fault_excludes_end.Goals as goal

pub returns : goal.returns
returns c = fault_no_end
