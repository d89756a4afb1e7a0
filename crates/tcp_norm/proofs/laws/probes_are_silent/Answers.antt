use Rattle.tcp_norm.proofs.Packets.{probes_silent}
use Rattle.tcp_norm.proofs.laws.probes_are_silent.Goals as goal

pub returns : goal.returns
returns c = probes_silent
