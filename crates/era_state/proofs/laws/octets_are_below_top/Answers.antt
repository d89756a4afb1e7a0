use Rattle.era_state.proofs.Quantities.{octets_are_below_top}
use Rattle.era_state.proofs.laws.octets_are_below_top.Goals as goal

pub returns : goal.returns
returns c = octets_are_below_top
