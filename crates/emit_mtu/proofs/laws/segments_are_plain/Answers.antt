use Rattle.emit_mtu.proofs.Segments.{are_plain}
use Rattle.emit_mtu.proofs.laws.segments_are_plain.Goals as goal

pub returns : goal.returns
returns c = are_plain
