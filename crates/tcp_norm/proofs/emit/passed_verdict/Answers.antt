use Rattle.std.proofs.Common.{sym}
use Rattle.tcp_norm.proofs.InboundSegments.{fix_is}
use Rattle.tcp_norm.proofs.emit.passed_verdict.Goals as goal

pub returns-then-not-is_empty : goal.returns-then-not-is_empty
returns-then-not-is_empty c = fix_is c.args.fixes.now.items c.args.rows.now.items (sym c.if-not-is_empty.ensures)
