use Rattle.std.proofs.Common.{sym}
use Rattle.tcp_norm.proofs.state.TcpNorm.emit_own.Goals as goal

pub emit_rewritten-requires-clause-some : goal.emit_rewritten-requires-clause-some
emit_rewritten-requires-clause-some c = sym c.if-not-is_empty.ensures

pub returns-clause-frames : goal.returns-clause-frames
returns-clause-frames c settings d ws opened is anews =
    c.emit_read.ensures.frames settings d ws c.args.passage.now.rows.items opened is (sym c.if-not-is_empty.ensures)
