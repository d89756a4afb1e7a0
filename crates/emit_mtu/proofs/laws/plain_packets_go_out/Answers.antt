use Rattle.emit_mtu.proofs.PlainPackets.{packets_go_out_alike, plain_headers_are_whole, plain_is_sent}
use Rattle.emit_mtu.proofs.laws.plain_packets_go_out.Goals as goal

pub returns-clause-whole : goal.returns-clause-whole
returns-clause-whole c = plain_headers_are_whole

pub returns-clause-sent : goal.returns-clause-sent
returns-clause-sent c = plain_is_sent

pub returns-clause-alike : goal.returns-clause-alike
returns-clause-alike c = packets_go_out_alike
