use Rattle.era_state.proofs.SameNumbers.{alike_changes_alike}
use Rattle.era_state.proofs.laws.alike_changes_alike.Goals as goal

pub returns : goal.returns
returns c = alike_changes_alike
