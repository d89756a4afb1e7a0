use Rattle.std.proofs.Common.{◌≡◌, ◌+◌, ◌<◌, ◌≤◌, ◌-◌, ℕ, Some, get_or, length}
use Rattle.cell_pool.specs.ChainLists.{chain_at}
use Rattle.retain_store.specs.Maps.{octet_at}
use Rattle.retain_store.specs.working.BlockCells.{blocks_in, IsNear}
use Rattle.retain_store.proofs.reads.copy.Given as goal

abbrev pub invariant-loop-done : goal.invariant-loop-done
invariant-loop-done l = record {
  within : l.done ≤ length l.fn.out;
  size : length l.out ≡ length l.fn.out;
  near : IsNear (chain_at l.pool l.fn.chain.0) l.near;
  copied : (i : ℕ) → i < l.done → octet_at (blocks_in l.pool l.fn.chain.0) (l.fn.from + i) ≡ Some (get_or l.out i 0);
}

abbrev pub decreases-loop-done : goal.decreases-loop-done
decreases-loop-done l = length l.fn.out - l.done
