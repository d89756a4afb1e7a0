use Rattle.norm_engine.proofs.ItemFrames.{read_alike}
use Rattle.norm_engine.proofs.laws.messages_are_read_alike.Goals as goal

pub returns : goal.returns
returns c = read_alike c.plain_packets_are_read_alike.ensures
