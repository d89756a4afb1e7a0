use Rattle.era_state.proofs.SameNumbers.{silence_changes_nothing}
use Rattle.era_state.proofs.laws.silence_changes_nothing.Goals as goal

pub returns : goal.returns
returns c = silence_changes_nothing
