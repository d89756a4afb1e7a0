use Rattle.era_state.proofs.EmittedSegments.{unbased_has_no_octet}
use Rattle.era_state.proofs.laws.unbased_has_no_octet.Goals as goal

pub returns : goal.returns
returns c = unbased_has_no_octet
