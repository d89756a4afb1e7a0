use Rattle.era_state.proofs.Worked.{turned_is_emitted}
use Rattle.era_state.proofs.laws.turned_is_emitted.Goals as goal

pub returns : goal.returns
returns c = turned_is_emitted
