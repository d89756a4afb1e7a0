use Rattle.receiver_model.proofs.Members.{read_alike}
use Rattle.receiver_model.proofs.laws.plain_packets_are_read_alike.Goals as goal

pub returns : goal.returns
returns c = read_alike
