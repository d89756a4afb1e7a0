use Rattle.std.proofs.Common.{rules, [], None, refl, sym, arith}
use Rattle.std.proofs.KnownBytes.{Appends-nil}
use Rattle.std.proofs.lemmas.Result.{err_from_is_err_and}
use Rattle.both_sides.proofs.Outputs.{segment_counted, segment_more, segment_part}
use Rattle.both_sides.proofs.cut.write_segments.Goals as goal

pub loop-size-init : goal.loop-size-init
loop-size-init g c = record { so_far = record { done = []; are = sym c.new-cutter.ensures; counted = refl; octets = Appends-nil _ }; faults = refl }

pub returns-in_err-write_record-clause-octets : goal.returns-in_err-write_record-clause-octets
returns-in_err-write_record-clause-octets g c =
    let p = err_from_is_err_and c.from_residual.result c.from_residual.ensures.1 in
    rw p.1 (segment_part _ _ _ c.next.new.self c.loop-size.count _ _ _ _ c.loop-size.cutter c.loop-size.invariant.so_far c.in-Some.ensures.next
    c.in_err-write_record.ensures.octets)

pub overflow_add-count : goal.overflow_add-count
overflow_add-count g c =
    let most = c.ranges.mtu.fits in
    let few = c.segments_fit.ensures.few c.args.head.now.link c.args.mtu c.args.frame.now (record { sent = c.requires.sent; octets = c.have_octets.ensures; cut = c.requires.cut; least = c.requires.least; most = omega (arith, most) }) in
    let under = segment_counted _ _ _ c.next.new.self c.loop-size.count _ _ _ None c.loop-size.cutter c.loop-size.invariant.so_far c.in-Some.ensures.next in
    omega (arith, few, under)

pub loop-size-preserved : goal.loop-size-preserved
loop-size-preserved g c = record {
  so_far =
      segment_more _ _ _ c.next.new.self c.loop-size.count _ _ _ _ c.loop-size.cutter c.loop-size.invariant.so_far c.in-Some.ensures.next
      c.in_ok-write_record.ensures.octets;
  faults = search rules;
}
