use Rattle.emit_mtu.proofs.Streams.{cut_is_of_stream}
use Rattle.emit_mtu.proofs.laws.cut_packets_are_of_the_stream.Goals as goal

pub returns : goal.returns
returns c = cut_is_of_stream
