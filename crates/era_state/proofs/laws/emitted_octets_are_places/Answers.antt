use Rattle.era_state.proofs.EmittedSegments.{octets_are_places}
use Rattle.era_state.proofs.laws.emitted_octets_are_places.Goals as goal

pub returns : goal.returns
returns c = octets_are_places
