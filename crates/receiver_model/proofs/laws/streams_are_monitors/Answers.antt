use Rattle.receiver_model.proofs.Streams.{are_monitors}
use Rattle.receiver_model.proofs.laws.streams_are_monitors.Goals as goal

pub returns : goal.returns
returns c = are_monitors
