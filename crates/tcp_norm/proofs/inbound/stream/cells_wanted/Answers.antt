use Rattle.std.proofs.Common.{sym}
use Rattle.tcp_norm.proofs.inbound.stream.cells_wanted.Goals as goal

pub returns-then-piece : goal.returns-then-piece
returns-then-piece c = sym (c.args.piece.now.whole c.if-piece.true).none_missing
