use Rattle.era_state.proofs.SameNumbers.{unacknowledged_has_no_octet}
use Rattle.era_state.proofs.laws.unacknowledged_has_no_octet.Goals as goal

pub returns : goal.returns
returns c = unacknowledged_has_no_octet
