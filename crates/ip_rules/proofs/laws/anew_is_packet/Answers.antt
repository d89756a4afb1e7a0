use Rattle.ip_rules.proofs.Datagrams.{anew_is_packet}
use Rattle.ip_rules.proofs.laws.anew_is_packet.Goals as goal

pub returns : goal.returns
returns c = anew_is_packet
