use Rattle.reassembly.proofs.Rules.{first_row_drops}
use Rattle.reassembly.proofs.laws.first_row_drops.Goals as goal

pub returns : goal.returns
returns c = first_row_drops
