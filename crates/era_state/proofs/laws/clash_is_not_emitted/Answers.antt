use Rattle.era_state.proofs.Worked.{clash_is_not_emitted}
use Rattle.era_state.proofs.laws.clash_is_not_emitted.Goals as goal

pub returns : goal.returns
returns c = clash_is_not_emitted
