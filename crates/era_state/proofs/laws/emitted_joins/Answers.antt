use Rattle.era_state.proofs.EmittedSegments.{emitted_joins}
use Rattle.era_state.proofs.laws.emitted_joins.Goals as goal

pub returns : goal.returns
returns c = emitted_joins
