use Rattle.era_state.proofs.EmittedSegments.{emitted_is_near}
use Rattle.era_state.proofs.laws.emitted_is_near.Goals as goal

pub returns : goal.returns
returns c = emitted_is_near
