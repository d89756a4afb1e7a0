use Rattle.norm_gate.proofs.Histories.{none_forged}
use Rattle.norm_gate.proofs.laws.lawful_is_not_forged.Goals as goal

pub returns : goal.returns
returns c = none_forged
