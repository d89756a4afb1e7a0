use Rattle.std.proofs.Common.{sym, ◌∙◌}
use Rattle.norm_engine.proofs.WrittenItems.{tells_cut, tells_drop}
use Rattle.live_norm.proofs.Pieces.{tells_whole}
use Rattle.live_norm.proofs.cut.emitted_for.Goals as goal

pub returns-in-Fits : goal.returns-in-Fits
returns-in-Fits c = tells_whole c.args.mtu c.args.link c.args.frame.now c.whole.result c.whole.ensures (sym c.long_kind.ensures ∙ c.in-Fits.is)

pub returns-in-Drop : goal.returns-in-Drop
returns-in-Drop c = tells_drop c.args.mtu c.args.link c.args.frame.now (sym c.long_kind.ensures ∙ c.in-Drop.is)
