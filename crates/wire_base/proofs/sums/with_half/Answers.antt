use Rattle.wire_base.proofs.Octets.{CountsAs-half}
use Rattle.wire_base.proofs.sums.with_half.Goals as goal

pub returns-clause-alike : goal.returns-clause-alike
returns-clause-alike c = rw (
  c.from.ensures,
  c.eight_at.ensures,
  c.from-2.ensures,
  c.eight_at-2.ensures,
  c.from-3.ensures,
  c.eight_at-3.ensures,
  c.from-4.ensures,
  c.eight_at-4.ensures,
) (CountsAs-half c.args.bytes.now c.args.sum c.args.at)
