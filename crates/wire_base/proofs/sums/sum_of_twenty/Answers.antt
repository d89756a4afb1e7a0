use Rattle.wire_base.proofs.Octets.{CountsAs-twenty}
use Rattle.wire_base.proofs.sums.sum_of_twenty.Goals as goal

pub returns-clause-alike : goal.returns-clause-alike
returns-clause-alike c = rw (
  c.from.ensures,
  c.lowest_first_at.ensures,
  c.from-2.ensures,
  c.lowest_first_at-2.ensures,
  c.from-3.ensures,
  c.lowest_first_at-3.ensures,
  c.from-4.ensures,
  c.lowest_first_at-4.ensures,
  c.from-5.ensures,
  c.lowest_first_at-5.ensures,
) (CountsAs-twenty c.args.header.now c.requires)
