use Rattle.cell_pool.specs.ChainLists.{chain_at}
use Rattle.retain_store.specs.working.BlockCells.{IsWalk}
use Rattle.retain_store.proofs.seat.walk.Given as goal

abbrev pub invariant-loop : goal.invariant-loop
invariant-loop l = IsWalk (chain_at l.pool l.fn.chain.0) l.fn.block l.after l.next l.counter
