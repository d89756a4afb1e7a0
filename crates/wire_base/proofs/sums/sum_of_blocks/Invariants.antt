use Rattle.std.proofs.Common.{◌*◌, ◌≤◌}
use Rattle.wire_base.specs.working.SumCounting as sums
use Rattle.wire_base.proofs.sums.sum_of_blocks.Given as goal

abbrev pub invariant-loop-i : goal.invariant-loop-i
invariant-loop-i l = record {
  alike : sums.CountsUpTo (64 * l.i) l.sum l.bytes;
  small : l.sum ≤ 18446744073709551615 * (8 * l.i);
}
