use Rattle.std.proofs.Common.{◌≡◌, ◌-◌, ◌≤◌}
use Rattle.pcapng_file.specs.working.PartReading.{TakesCount}
use Rattle.pcapng_file.proofs.take.pass.Given as goal

-- the octets that are no longer left to skip were taken
abbrev pub invariant-loop-left : goal.invariant-loop-left
invariant-loop-left g l = record {
  within : l.left ≤ l.fn.count;
  taken : TakesCount (g.S.Source.left l.fn.source) (g.S.Source.left l.source) (l.fn.count - l.left);
  counted : g.S.Source.fault_count l.source ≡ g.S.Source.fault_count l.fn.source;
}

abbrev pub decreases-loop-left : goal.decreases-loop-left
decreases-loop-left g l = l.left
