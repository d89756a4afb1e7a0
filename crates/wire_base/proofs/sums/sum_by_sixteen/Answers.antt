use Rattle.std.proofs.Common.{◌+◌, ◌*◌, ◌/◌, length, refl, arith}
use Rattle.wire_base.proofs.Octets.{CountsAs-eight}
use Rattle.wire_base.proofs.sums.sum_by_sixteen.Goals as goal

pub returns-else-bytes-lt16-clause-alike : goal.returns-else-bytes-lt16-clause-alike
returns-else-bytes-lt16-clause-alike c =
    let octets = c.args.bytes.now in
    let at = 32 * (length octets / 32) in
    let first = CountsAs-eight octets _ _ at (at + 8) refl c.sum_by_half-sum.ensures.alike in
    rw (c.from.ensures, c.eight_at.ensures, c.from-else-bytes-lt16.ensures, c.eight_at-else-bytes-lt16.ensures) (CountsAs-eight octets _ _ (at + 8) _ (omega arith) first)
