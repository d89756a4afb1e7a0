use Rattle.std.proofs.Common.{rules}
use Rattle.std.proofs.lemmas.Result.{err_from_is_err_and}
use Rattle.pcap_file.specs.RecordReading.{shown}
use Rattle.norm_engine.proofs.WrittenItems.{some_written, sum_few, tells_more}
use Rattle.both_sides.proofs.Outputs.{octets_more, octets_part}
use Rattle.both_sides.proofs.cut.write_cut.Goals as goal

pub returns-in_err-one-clause-octets : goal.returns-in_err-one-clause-octets
returns-in_err-one-clause-octets g c =
    let p = err_from_is_err_and c.from_residual.result c.from_residual.ensures.1 in
    rw p.1 (octets_part c.args.mtu c.args.head.now.link c.args.head.now.order (shown c.args.input.now) c.args.out.now c.loop-index.index c.frame-frame.result.now _ _ _
    c.frame-frame.ensures.octets c.loop-index.invariant.written c.in_err-one.ensures.octets)

pub returns-in_err-one-clause-some : goal.returns-in_err-one-clause-some
returns-in_err-one-clause-some g c =
    let p = err_from_is_err_and c.from_residual.result c.from_residual.ensures.1 in
    rw p.1 (some_written c.args.mtu c.args.head.now.link c.args.out.now c.loop-index.index c.frame-frame.result.now c.frame-frame.ensures.octets c.in_err-one.ensures.some)

pub joined-emitted-requires : goal.joined-emitted-requires
joined-emitted-requires g c =
    sum_few c.args.mtu c.args.head.now.link c.args.out.now c.loop-index.index c.frame-frame.result.now 256 c.loop-index.emitted.packets c.in_ok-one.one.packets
    c.frame-frame.ensures.octets c.requires.few c.loop-index.invariant.tells.packets c.in_ok-one.ensures.tells.packets

pub loop-index-preserved : goal.loop-index-preserved
loop-index-preserved g c = record {
  written =
      octets_more c.args.mtu c.args.head.now.link c.args.head.now.order (shown c.args.input.now) c.args.out.now c.loop-index.index c.frame-frame.result.now _ _ _
      c.frame-frame.ensures.octets c.loop-index.invariant.written c.in_ok-one.ensures.octets;
  tells =
      tells_more c.args.mtu c.args.head.now.link c.args.out.now c.loop-index.index c.frame-frame.result.now c.loop-index.emitted c.in_ok-one.one c.joined-emitted.result
      c.frame-frame.ensures.octets c.loop-index.invariant.tells c.in_ok-one.ensures.tells c.joined-emitted.ensures.packets c.joined-emitted.ensures.cut c.joined-emitted.ensures.kept_back;
  counted = search rules;
}
