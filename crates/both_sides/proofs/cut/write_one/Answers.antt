use Rattle.std.proofs.Common.{sym, ◌∙◌}
use Rattle.norm_engine.proofs.WrittenItems.{tells_cut, tells_drop}
use Rattle.both_sides.proofs.cut.write_one.Goals as goal

pub returns-in_ok-packets-in-Cut-clause-tells : goal.returns-in_ok-packets-in-Cut-clause-tells
returns-in_ok-packets-in-Cut-clause-tells g c = tells_cut c.args.mtu c.args.head.now.link c.args.frame.now c.in_ok-packets-in-Cut.packets (sym c.long_kind.ensures ∙ c.in-Cut.is) c.in_ok-packets-in-Cut.ensures.count

pub returns-in-Drop-clause-tells : goal.returns-in-Drop-clause-tells
returns-in-Drop-clause-tells g c = tells_drop c.args.mtu c.args.head.now.link c.args.frame.now (sym c.long_kind.ensures ∙ c.in-Drop.is)
