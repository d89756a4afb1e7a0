use Rattle.std.proofs.Common.{◌≡◌, ◌+◌, ◌<◌, ◌≤◌, ◌↔◌, ℕ, false, get_or, unwrap_or}
use Rattle.cell_pool.specs.ChainLists.{chain_at}
use Rattle.retain_store.specs.Maps.{octet_at}
use Rattle.retain_store.specs.working.BlockCells.{blocks_in, IsNear}
use Rattle.retain_store.proofs.each.settle_each.Given as goal

abbrev pub invariant-loop-index : goal.invariant-loop-index
invariant-loop-index l = record {
  near : IsNear (chain_at l.pool l.fn.chain.0) l.near;
  settled : (i : ℕ) → i < l.index →
      get_or l.bytes i 0 ≡ unwrap_or (octet_at (blocks_in l.pool l.fn.chain.0) (l.fn.from + i)) (get_or l.initial.bytes i 0);
  left : (i : ℕ) → l.index ≤ i → get_or l.bytes i 0 ≡ get_or l.initial.bytes i 0;
  same : (l.changed ≡ false) ↔ (l.bytes ≡ l.initial.bytes);
}
