use Rattle.std.proofs.Common.{sym}
use Rattle.emit_mtu.specs.FrameParts.{IsSent}
use Rattle.live_norm.proofs.Pieces.{given_has}
use Rattle.live_norm.proofs.cut.cut_item.Goals as goal

pub fits-requires : goal.fits-requires
fits-requires c = given_has (IsSent c.args.link) c.args.as_read c.args.frame.now c.args.out.now (sym c.if-as_read.true) c.requires.ready.sent
