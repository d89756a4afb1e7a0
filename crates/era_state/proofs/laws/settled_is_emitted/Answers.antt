use Rattle.era_state.proofs.Worked.{settled_is_emitted}
use Rattle.era_state.proofs.laws.settled_is_emitted.Goals as goal

pub returns : goal.returns
returns c = settled_is_emitted
