use Rattle.norm_engine.proofs.WrittenItems.{sum_few, tells_more}
use Rattle.live_norm.proofs.cut.emitted_of.Goals as goal

pub joined-emitted-requires : goal.joined-emitted-requires
joined-emitted-requires c =
    sum_few c.args.mtu c.args.link c.args.out.now c.loop-index.index c.frame.result.now 256 c.loop-index.emitted.packets c.emitted_for-one.result.packets
    c.frame.ensures.octets c.requires.few c.loop-index.invariant.packets c.emitted_for-one.ensures.packets

pub loop-index-preserved : goal.loop-index-preserved
loop-index-preserved c =
    tells_more c.args.mtu c.args.link c.args.out.now c.loop-index.index c.frame.result.now c.loop-index.emitted c.emitted_for-one.result c.joined-emitted.result
    c.frame.ensures.octets c.loop-index.invariant c.emitted_for-one.ensures c.joined-emitted.ensures.packets c.joined-emitted.ensures.cut c.joined-emitted.ensures.kept_back
