use Rattle.std.proofs.Common.{◌≡◌, ◌+◌, ◌<◌, ◌≤◌, ◌-◌, ◌↔◌, ℕ, false, get_or, length, unwrap_or}
use Rattle.cell_pool.specs.ChainLists.{chain_at}
use Rattle.retain_store.specs.Maps.{octet_at}
use Rattle.retain_store.specs.working.BlockCells.{blocks_in, IsNear}
use Rattle.retain_store.proofs.reads.settle_all.Given as goal

abbrev pub invariant-loop-done : goal.invariant-loop-done
invariant-loop-done l = record {
  within : l.done ≤ length l.fn.bytes;
  size : length l.bytes ≡ length l.fn.bytes;
  near : IsNear (chain_at l.pool l.fn.chain.0) l.near;
  settled : (i : ℕ) → i < l.done →
      get_or l.bytes i 0 ≡ unwrap_or (octet_at (blocks_in l.pool l.fn.chain.0) (l.fn.from + i)) (get_or l.fn.bytes i 0);
  left : (i : ℕ) → l.done ≤ i → get_or l.bytes i 0 ≡ get_or l.fn.bytes i 0;
  same : (l.changed ≡ false) ↔ (l.bytes ≡ l.fn.bytes);
}

abbrev pub decreases-loop-done : goal.decreases-loop-done
decreases-loop-done l = length l.fn.bytes - l.done
