use Rattle.std.proofs.Common.{pos}
use Rattle.receiver_model.proofs.Streams.{waiting_after-push}
use Rattle.receiver_model.proofs.stream.waiting_with.Goals as goal

pub returns : goal.returns
returns c = cc (waiting_after-push c.args.policy c.args.base (pos c.args.offset) c.args.pieces.now c.args.new.now)
