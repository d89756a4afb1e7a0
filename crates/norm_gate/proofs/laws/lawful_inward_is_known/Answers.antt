use Rattle.norm_gate.proofs.Histories.{inward_known}
use Rattle.norm_gate.proofs.laws.lawful_inward_is_known.Goals as goal

pub returns : goal.returns
returns c = inward_known
