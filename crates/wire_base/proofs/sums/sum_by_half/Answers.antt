use Rattle.std.proofs.Common.{◌≡◌, ◌+◌, ◌*◌, ◌/◌, length, arith}
use Rattle.wire_base.proofs.Octets.{CountsAs-trans}
use Rattle.wire_base.proofs.sums.sum_by_half.Goals as goal

pub returns-else-bytes-lt32-clause-alike : goal.returns-else-bytes-lt32-clause-alike
returns-else-bytes-lt32-clause-alike c =
    let next : 32 * (length c.args.bytes.now / 32) ≡ 64 * (length c.args.bytes.now / 64) + 32 = omega arith in
    rw next (CountsAs-trans _ _ _ c.with_half.ensures.alike c.sum_of_blocks-sum.ensures.alike)
