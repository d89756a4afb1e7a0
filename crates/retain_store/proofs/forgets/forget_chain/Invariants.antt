use Rattle.std.proofs.Common.{length}
use Rattle.cell_pool.specs.ChainLists.{chain_at}
use Rattle.retain_store.specs.working.PoolChanges.{IsChanged}
use Rattle.retain_store.proofs.forgets.forget_chain.Given as goal

abbrev pub invariant-loop-pool : goal.invariant-loop-pool
invariant-loop-pool l = IsChanged l.fn.pool l.pool l.fn.chain.0

abbrev pub decreases-loop-pool : goal.decreases-loop-pool
decreases-loop-pool l = length (chain_at l.pool l.fn.chain.0)
