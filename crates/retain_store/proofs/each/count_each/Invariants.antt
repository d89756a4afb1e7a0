use Rattle.std.proofs.Common.{◌≡◌, is_none}
use Rattle.std.specs.List.{count_by, range_with_len}
use Rattle.cell_pool.specs.ChainLists.{chain_at}
use Rattle.retain_store.specs.Maps.{octet_at}
use Rattle.retain_store.specs.working.BlockCells.{blocks_in, IsNear}
use Rattle.retain_store.proofs.each.count_each.Given as goal

abbrev pub invariant-loop-index : goal.invariant-loop-index
invariant-loop-index l = record {
  near : IsNear (chain_at l.pool l.fn.chain.0) l.near;
  counted : l.count ≡ count_by (λ offset. is_none (octet_at (blocks_in l.pool l.fn.chain.0) offset)) (range_with_len l.fn.from l.index);
}
