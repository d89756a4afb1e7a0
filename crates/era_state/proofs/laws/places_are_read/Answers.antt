use Rattle.era_state.proofs.Offsets.{places_are_read}
use Rattle.era_state.proofs.laws.places_are_read.Goals as goal

pub returns : goal.returns
returns c = places_are_read
