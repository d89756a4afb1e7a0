use Rattle.tcp_norm.proofs.Connections.{none_came}
use Rattle.tcp_norm.proofs.state.TcpNorm.offer.Goals as goal

pub returns : goal.returns
returns c settings calls d flow o st was e = c.reopen.ensures settings calls d (_) flow e.octets o st was e.key_is e.stands (none_came e.first) e.does
