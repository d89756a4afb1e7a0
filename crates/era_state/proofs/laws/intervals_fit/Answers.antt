use Rattle.era_state.proofs.Offsets.{intervals_fit}
use Rattle.era_state.proofs.laws.intervals_fit.Goals as goal

pub returns : goal.returns
returns c = intervals_fit
