use Rattle.emit_mtu.specs.FrameParts.{AreOctets}
use Rattle.norm_engine.proofs.WrittenItems.{all_more}
use Rattle.norm_engine.proofs.written.frames_have_octets.Goals as goal

pub loop-index-preserved : goal.loop-index-preserved
loop-index-preserved c = all_more AreOctets c.args.out.now c.loop-index.index c.frame.result.now c.frame.ensures.octets c.loop-index.invariant c.have_octets.ensures
