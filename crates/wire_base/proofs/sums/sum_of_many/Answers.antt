use Rattle.std.proofs.Common.{◌*◌, ◌/◌, length, arith}
use Rattle.wire_base.proofs.Octets.{CountsAs-last, CountsAs-none, CountsAs-trans}
use Rattle.wire_base.proofs.sums.sum_of_many.Goals as goal

pub returns-then-at-bytes-clause-alike : goal.returns-then-at-bytes-clause-alike
returns-then-at-bytes-clause-alike c = CountsAs-trans _ _ _ c.folded.ensures.alike (CountsAs-none c.args.bytes.now _ _ (8 * (length c.args.bytes.now / 8)) (omega arith) c.sum_by_eight-sum.ensures.alike)

pub returns-else-at-bytes-clause-alike : goal.returns-else-at-bytes-clause-alike
returns-else-at-bytes-clause-alike c = CountsAs-trans _ _ _ c.folded-else-at-bytes.ensures.alike (rw (c.from.ensures, c.last_at.ensures) (CountsAs-last c.args.bytes.now _ _ (8 * (length c.args.bytes.now / 8)) (omega arith) c.sum_by_eight-sum.ensures.alike))
