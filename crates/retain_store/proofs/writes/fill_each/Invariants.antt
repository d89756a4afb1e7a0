use Rattle.std.proofs.Common.{take}
use Rattle.cell_pool.specs.ChainLists.{IsHeld, Writes}
use Rattle.retain_store.specs.working.PoolChanges.{with_octets}
use Rattle.retain_store.proofs.writes.fill_each.Given as goal

abbrev pub invariant-loop-index : goal.invariant-loop-index
invariant-loop-index l = record {
  held : IsHeld l.pool l.fn.cell;
  written : Writes l.fn.pool l.pool l.fn.cell (λ octets. with_octets octets l.fn.at (take l.index l.fn.piece));
}
