use Rattle.dgram_rules.proofs.Telling.{datagrams_tell}
use Rattle.dgram_rules.proofs.laws.datagrams_tell_the_rows.Goals as goal

pub returns : goal.returns
returns c = datagrams_tell
