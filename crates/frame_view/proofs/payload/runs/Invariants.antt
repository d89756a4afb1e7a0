use Rattle.std.proofs.Common.{◌≡◌, ◌+◌, ◌-◌, ◌≤◌, ◌++◌, false, drop, map}
use Rattle.frame_view.specs.Changes as changes
use Rattle.frame_view.specs.Changes.{plain_replaced}
use Rattle.frame_view.proofs.payload.runs.Given as goal

-- the runs so far, with those after them, are all
abbrev pub invariant-octets : goal.invariant-octets
invariant-octets l = record {
  all : map plain_replaced l.runs.items ++ changes.runs false (l.at + l.next) (drop l.next l.from) (drop l.next l.to)
      ≡ changes.runs false l.at l.from l.to;
  inside : l.next ≤ l.end;
}

abbrev pub decreases-octets : goal.decreases-octets
decreases-octets l = l.end - l.next
