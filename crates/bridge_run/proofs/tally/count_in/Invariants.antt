use Rattle.std.proofs.Common.{◌≡◌, ◌<◌, ◌+◌, ◌^◌, All, ◌++◌, map, take, drop}
use Rattle.std.specs.List.{list_any}
use Rattle.bridge_run.specs.Summary.{is_same}
use Rattle.bridge_run.specs.working.RuleCounts.{counted_once}
use Rattle.bridge_run.proofs.tally.count_in.Given as goal

-- the counts so far are updated, and the others are unchanged
abbrev pub invariant-loop-row : goal.invariant-loop-row
invariant-loop-row l = record {
  rows : l.rows ≡ map (counted_once l.rule) (take l.row-index l.initial.rows) ++ drop l.row-index l.initial.rows;
  found : l.is_found ≡ list_any (λ row. is_same row.rule l.rule) (take l.row-index l.initial.rows);
  room : All (λ row. row.count + 1 < 2 ^ 64) l.initial.rows;
}
