use Rattle.emit_mtu.proofs.Segments.{are_read_as_pieces}
use Rattle.emit_mtu.proofs.laws.segments_are_read_as_pieces.Goals as goal

pub returns : goal.returns
returns c = are_read_as_pieces
