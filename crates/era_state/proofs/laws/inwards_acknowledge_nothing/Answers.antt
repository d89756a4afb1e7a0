use Rattle.era_state.proofs.SameNumbers.{acked_same}
use Rattle.era_state.proofs.laws.inwards_acknowledge_nothing.Goals as goal

pub returns : goal.returns
returns c = acked_same
