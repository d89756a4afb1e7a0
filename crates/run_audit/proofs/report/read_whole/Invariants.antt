use Rattle.std.proofs.Common.{◌≤◌, ◌-◌, vec_len}
use Rattle.std.specs.Io.KnownBytes.{Consumes}
use Rattle.run_audit.proofs.report.read_whole.Given as goal

abbrev pub invariant-pieces : goal.invariant-pieces
invariant-pieces g l = record {
  taken : Consumes (g.R.Source.left l.fn.source) (g.R.Source.left l.source) l.octets.items;
  small : vec_len l.octets ≤ 67108864;
  later : g.R.Source.fault_count l.fn.source ≤ g.R.Source.fault_count l.source;
}

abbrev pub decreases-pieces : goal.decreases-pieces
decreases-pieces g l = 67108864 - vec_len l.octets
