use Rattle.std.proofs.Common.{◌≡◌}
use Rattle.run_view.proofs.print.print_table.Given as goal

abbrev pub invariant-loop-place : goal.invariant-loop-place
invariant-loop-place g l = record {
  same : g.E.Events.shown l.out ≡ g.E.Events.shown l.fn.out;
  kept : g.E.Events.fault_count l.out ≡ g.E.Events.fault_count l.fn.out;
}
