use Rattle.ip_rules.proofs.Datagrams.{datagrams_are_known}
use Rattle.ip_rules.proofs.laws.datagrams_are_known.Goals as goal

pub returns : goal.returns
returns c = datagrams_are_known
