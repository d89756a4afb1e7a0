use Rattle.std.proofs.Common.{◌≡◌, ◌≤◌, ◌+◌, ◌-◌, ◌==◌, nat_le, length, drop, Some, if◌then◌else◌}
use Rattle.std.specs.List.{slice_split}
use Rattle.run_view.specs.ViewWords.{listed, with_names_of}
use Rattle.run_view.proofs.values.listed.Given as goal

abbrev pub invariant-items : goal.invariant-items
invariant-items l = record {
  within : l.start ≤ length l.value + 1;
  so_far : listed l.choice l.value
      ≡ (if nat_le l.start (length l.value) then with_names_of l.choice l.names (slice_split (λ octet. octet == 44) (drop l.start l.value)) else Some l.names);
}

abbrev pub decreases-items : goal.decreases-items
decreases-items l = length l.value + 1 - l.start
