use Rattle.emit_mtu.proofs.Segments.{are_sent}
use Rattle.emit_mtu.proofs.laws.segments_are_sent.Goals as goal

pub returns : goal.returns
returns c = are_sent
