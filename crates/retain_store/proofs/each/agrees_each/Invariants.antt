use Rattle.std.proofs.Common.{◌≡◌, ◌+◌, ◌<◌, ℕ, get_or, unwrap_or}
use Rattle.cell_pool.specs.ChainLists.{chain_at}
use Rattle.retain_store.specs.Maps.{octet_at}
use Rattle.retain_store.specs.working.BlockCells.{blocks_in, IsNear}
use Rattle.retain_store.proofs.each.agrees_each.Given as goal

abbrev pub invariant-loop-index : goal.invariant-loop-index
invariant-loop-index l = record {
  near : IsNear (chain_at l.pool l.fn.chain.0) l.near;
  agreed : (i : ℕ) → i < l.index →
      unwrap_or (octet_at (blocks_in l.pool l.fn.chain.0) (l.fn.from + i)) (get_or l.fn.bytes i 0) ≡ get_or l.fn.bytes i 0;
}
