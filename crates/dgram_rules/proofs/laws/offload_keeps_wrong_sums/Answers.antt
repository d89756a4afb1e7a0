use Rattle.dgram_rules.proofs.Telling.{offload_keeps}
use Rattle.dgram_rules.proofs.laws.offload_keeps_wrong_sums.Goals as goal

pub returns : goal.returns
returns c = offload_keeps
