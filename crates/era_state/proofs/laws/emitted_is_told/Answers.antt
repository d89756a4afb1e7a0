use Rattle.era_state.proofs.EmittedSegments.{emitted_is_told}
use Rattle.era_state.proofs.laws.emitted_is_told.Goals as goal

pub returns : goal.returns
returns c = emitted_is_told
