use Rattle.reassembly.proofs.Rules.{worked}
use Rattle.reassembly.proofs.laws.worked_rows.Goals as goal

pub returns : goal.returns
returns c = worked
