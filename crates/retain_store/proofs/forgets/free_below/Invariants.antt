use Rattle.std.proofs.Common.{◌≡◌, ◌≤◌, ℕ, length}
use Rattle.cell_pool.specs.ChainLists.{chain_at}
use Rattle.retain_store.specs.Maps.{block_at}
use Rattle.retain_store.specs.working.BlockCells.{blocks_in, IsKept}
use Rattle.retain_store.specs.working.PoolChanges.{IsChanged, KeepsAbove}
use Rattle.retain_store.proofs.forgets.free_below.Given as goal

abbrev pub invariant-loop-chain : goal.invariant-loop-chain
invariant-loop-chain l = record {
  kept : IsKept (chain_at l.pool l.fn.chain.0);
  changed : IsChanged l.fn.pool l.pool l.fn.chain.0;
  near : KeepsAbove (chain_at l.fn.pool l.fn.chain.0) (chain_at l.pool l.fn.chain.0) l.fn.block;
  left : (n : ℕ) → l.fn.block ≤ n → block_at (blocks_in l.pool l.fn.chain.0) n ≡ block_at (blocks_in l.fn.pool l.fn.chain.0) n;
}

abbrev pub decreases-loop-chain : goal.decreases-loop-chain
decreases-loop-chain l = length (chain_at l.pool l.fn.chain.0)
