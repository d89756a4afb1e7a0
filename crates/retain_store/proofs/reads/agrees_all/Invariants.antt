use Rattle.std.proofs.Common.{◌≤◌, ◌-◌, length}
use Rattle.cell_pool.specs.ChainLists.{chain_at}
use Rattle.retain_store.specs.working.BlockCells.{blocks_in, IsNear}
use Rattle.retain_store.proofs.Parts.{AgreesTo}
use Rattle.retain_store.proofs.reads.agrees_all.Given as goal

abbrev pub invariant-loop-done : goal.invariant-loop-done
invariant-loop-done l = record {
  within : l.done ≤ length l.fn.bytes;
  near : IsNear (chain_at l.pool l.fn.chain.0) l.near;
  agreed : AgreesTo (blocks_in l.pool l.fn.chain.0) l.fn.from l.fn.bytes l.done;
}

abbrev pub decreases-loop-done : goal.decreases-loop-done
decreases-loop-done l = length l.fn.bytes - l.done
