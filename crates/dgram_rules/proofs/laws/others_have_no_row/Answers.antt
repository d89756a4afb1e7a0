use Rattle.dgram_rules.proofs.Telling.{others_have_none}
use Rattle.dgram_rules.proofs.laws.others_have_no_row.Goals as goal

pub returns : goal.returns
returns c = others_have_none
