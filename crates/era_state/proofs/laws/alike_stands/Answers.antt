use Rattle.era_state.proofs.SameNumbers.{alike_stands}
use Rattle.era_state.proofs.laws.alike_stands.Goals as goal

pub returns : goal.returns
returns c = alike_stands
