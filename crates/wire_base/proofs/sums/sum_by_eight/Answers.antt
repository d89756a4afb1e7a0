use Rattle.std.proofs.Common.{◌*◌, ◌/◌, length, arith}
use Rattle.wire_base.proofs.Octets.{CountsAs-eight}
use Rattle.wire_base.proofs.sums.sum_by_eight.Goals as goal

pub returns-else-bytes-lt8-clause-alike : goal.returns-else-bytes-lt8-clause-alike
returns-else-bytes-lt8-clause-alike c = rw (c.from.ensures, c.eight_at.ensures) (CountsAs-eight c.args.bytes.now _ _ (16 * (length c.args.bytes.now / 16)) _ (omega arith) c.sum_by_sixteen-sum.ensures.alike)
