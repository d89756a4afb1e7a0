use Rattle.receiver_model.proofs.PlainPackets.{are_read}
use Rattle.receiver_model.proofs.laws.written_packets_are_read.Goals as goal

pub returns : goal.returns
returns c = are_read
