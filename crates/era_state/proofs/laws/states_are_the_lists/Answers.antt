use Rattle.era_state.proofs.SameNumbers.{states_are_the_lists}
use Rattle.era_state.proofs.laws.states_are_the_lists.Goals as goal

pub returns : goal.returns
returns c = states_are_the_lists
