use Rattle.std.proofs.Common.{◌≤◌, ◌-◌, length}
use Rattle.bridge_run.proofs.Loads.{Going}
use Rattle.bridge_run.proofs.load.tally_of.Given as goal

abbrev pub invariant-loop-record : goal.invariant-loop-record
invariant-loop-record l = record {
  room : 552 ≤ length l.buf;
  going : Going l.seed l.count l.load l.engine l.tally;
}

abbrev pub decreases-loop-record : goal.decreases-loop-record
decreases-loop-record l = l.count - l.load.made
