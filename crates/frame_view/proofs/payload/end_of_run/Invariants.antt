use Rattle.std.proofs.Common.{◌≡◌, ◌+◌, ◌-◌, ◌≤◌, drop}
use Rattle.frame_view.specs.Changes as changes
use Rattle.frame_view.proofs.payload.end_of_run.Given as goal

-- the octets so far differ
abbrev pub invariant-octets : goal.invariant-octets
invariant-octets l = record {
  counted : l.at + changes.differing (drop l.at l.from) (drop l.at l.to) ≡ l.past + changes.differing (drop l.past l.from) (drop l.past l.to);
  inside : l.past ≤ l.end;
}

abbrev pub decreases-octets : goal.decreases-octets
decreases-octets l = l.end - l.past
