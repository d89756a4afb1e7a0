use Rattle.era_state.proofs.SameNumbers.{silence_stands}
use Rattle.era_state.proofs.laws.silence_stands.Goals as goal

pub returns : goal.returns
returns c = silence_stands
