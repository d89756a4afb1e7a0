use Rattle.emit_mtu.proofs.Frames.{is_cut}
use Rattle.emit_mtu.proofs.cutter.Cutter.new.Goals as goal

pub parts_of-parts-requires-clause-tcp : goal.parts_of-parts-requires-clause-tcp
parts_of-parts-requires-clause-tcp c = (is_cut c.args.link c.args.mtu c.args.frame.now c.requires.cut).protocol
