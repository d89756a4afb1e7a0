use Rattle.reset_probe.proofs.Packets.{probes_are_plain}
use Rattle.reset_probe.proofs.laws.probes_are_plain.Goals as goal

pub returns : goal.returns
returns c = probes_are_plain
