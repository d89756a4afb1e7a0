use Rattle.std.proofs.Common.{subst}
use Rattle.cell_pool.specs.ChainLists.{HasPlaceFor, chain_at}
use Rattle.cell_pool.proofs.FreeCells.{front_order, takes_at_front}
use Rattle.cell_pool.proofs.pool.Pool.take_after.Goals as goal

pub take_behind-requires-clause-place : goal.take_behind-requires-clause-place
take_behind-requires-clause-place c = subst (λ k. HasPlaceFor (chain_at c.args.self.now c.args.chain.0)
    k c.args.block) c.in-Some.is c.requires.place

pub take_front-requires-clause-order : goal.take_front-requires-clause-order
take_front-requires-clause-order c = front_order _ _ _ c.in-None.is c.requires.place

pub returns-in-None-clause-taken : goal.returns-in-None-clause-taken
returns-in-None-clause-taken c = takes_at_front _ _ _ _ _ _ c.in-None.is c.take_front.ensures.taken
