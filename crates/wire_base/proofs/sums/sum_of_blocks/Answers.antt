use Rattle.std.proofs.Common.{◌≡◌, ◌+◌, ◌*◌, arith}
use Rattle.wire_base.proofs.Octets.{CountsAs-trans}
use Rattle.wire_base.proofs.sums.sum_of_blocks.Goals as goal

pub loop-i-preserved : goal.loop-i-preserved
loop-i-preserved c =
    let next : 64 * (c.loop-i.i + 1) ≡ 64 * c.loop-i.i + 32 + 32 = omega arith in
    record {
      alike = rw next (CountsAs-trans _ _ _ c.with_half-sum.ensures.alike (CountsAs-trans _ _ _ c.with_half-half.ensures.alike c.loop-i.invariant.alike));
      small = omega arith;
    }
