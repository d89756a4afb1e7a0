use Rattle.emit_mtu.proofs.Streams.{cut_tells_one_stream}
use Rattle.emit_mtu.proofs.Acks.{cut_stays_near_acks}
use Rattle.emit_mtu.proofs.laws.cut_packets_tell_one_stream.Goals as goal

pub returns-clause-stream : goal.returns-clause-stream
returns-clause-stream c = cut_tells_one_stream

pub returns-clause-acks : goal.returns-clause-acks
returns-clause-acks c = cut_stays_near_acks
