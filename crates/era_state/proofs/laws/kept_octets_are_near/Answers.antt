use Rattle.era_state.proofs.Frames.{kept_octets_are_near}
use Rattle.era_state.proofs.laws.kept_octets_are_near.Goals as goal

pub returns : goal.returns
returns c = kept_octets_are_near
