use Rattle.std.proofs.Common.{◌≤◌}
use Rattle.run_tests.proofs.tests.loads.made_of.Given as goal

-- the counts are at most the number of records so far
abbrev pub invariant-loop-place : goal.invariant-loop-place
invariant-loop-place l = record {
  calls : l.made.calls ≤ l._place;
  changed : l.made.changed ≤ l._place;
}
