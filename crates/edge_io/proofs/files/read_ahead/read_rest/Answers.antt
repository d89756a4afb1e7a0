use Rattle.std.proofs.Common.{rules}
use Rattle.edge_io.proofs.Moves.{filled}
use Rattle.edge_io.proofs.files.read_ahead.read_rest.Goals as goal

pub loop-done-preserved : goal.loop-done-preserved
loop-done-preserved g c = record {
  within = search rules;
  taken = filled _ _ _ _ _ _ _ _ c.loop-done.invariant.within c.in_ok-count.ensures.octets.0 c.loop-done.invariant.taken c.in_ok-count.ensures.octets.1;
  counted = search rules;
}
