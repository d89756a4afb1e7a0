use Rattle.std.proofs.Common.{◌≡◌, ◌+◌, ◌-◌, ◌≤◌, length, take}
use Rattle.cell_pool.specs.ChainLists.{chain_at}
use Rattle.retain_store.specs.Maps.{fresh, missing, Places}
use Rattle.retain_store.specs.working.BlockCells.{blocks_in, IsKept, IsNear}
use Rattle.retain_store.specs.working.PoolChanges.{IsChanged}
use Rattle.retain_store.proofs.writes.place_all.Given as goal

abbrev pub invariant-loop-done : goal.invariant-loop-done
invariant-loop-done l = record {
  within : l.done ≤ length l.fn.bytes;
  near : IsNear (chain_at l.pool l.fn.chain.0) l.near;
  kept : IsKept (chain_at l.pool l.fn.chain.0);
  changed : IsChanged l.fn.pool l.pool l.fn.chain.0;
  spent : l.pool.free + missing (blocks_in l.fn.pool l.fn.chain.0) l.fn.from (length l.fn.bytes)
      ≡ l.fn.pool.free + missing (blocks_in l.pool l.fn.chain.0) (l.fn.from + l.done) (length l.fn.bytes - l.done);
  octets : Places (blocks_in l.fn.pool l.fn.chain.0) (blocks_in l.pool l.fn.chain.0) l.fn.from (take l.done l.fn.bytes);
  counted : l.count ≡ fresh (blocks_in l.fn.pool l.fn.chain.0) l.fn.from l.done;
}

abbrev pub decreases-loop-done : goal.decreases-loop-done
decreases-loop-done l = length l.fn.bytes - l.done
