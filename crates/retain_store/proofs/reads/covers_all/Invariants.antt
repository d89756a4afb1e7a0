use Rattle.std.proofs.Common.{◌≤◌, ◌-◌}
use Rattle.cell_pool.specs.ChainLists.{chain_at}
use Rattle.retain_store.specs.Maps.{Covers}
use Rattle.retain_store.specs.working.BlockCells.{blocks_in, IsNear}
use Rattle.retain_store.proofs.reads.covers_all.Given as goal

abbrev pub invariant-loop-done : goal.invariant-loop-done
invariant-loop-done l = record {
  within : l.done ≤ l.fn.len;
  near : IsNear (chain_at l.pool l.fn.chain.0) l.near;
  covered : Covers (blocks_in l.pool l.fn.chain.0) l.fn.from l.done;
}

abbrev pub decreases-loop-done : goal.decreases-loop-done
decreases-loop-done l = l.fn.len - l.done
