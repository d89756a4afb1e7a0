use Rattle.era_agreement.proofs.Acks.{are_behind}
use Rattle.era_agreement.proofs.laws.acknowledgments_are_behind.Goals as goal

pub returns : goal.returns
returns c = are_behind
