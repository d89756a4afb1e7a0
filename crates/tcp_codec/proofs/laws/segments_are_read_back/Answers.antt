use Rattle.tcp_codec.proofs.Segments.{read_back}
use Rattle.tcp_codec.proofs.laws.segments_are_read_back.Goals as goal

pub returns : goal.returns
returns c = read_back
