use Rattle.std.proofs.Common.{◌-◌, refl, ap}
use Rattle.cell_pool.proofs.Pools.{ready_shows, update_sound, update_seen}
use Rattle.cell_pool.proofs.FreeCells.{take_front}
use Rattle.cell_pool.proofs.Chains.{shown, free_is, chain_rises}
use Rattle.cell_pool.proofs.pool.Pool.take_front.Goals as goal

pub invariant_of-self-2 : goal.invariant_of-self-2
invariant_of-self-2 c =
    let shows = ready_shows _ (shown c.self.invariant c.self.view_is) (rw c.in_ok-taken.was at c.ready.ensures.ready) c.ready.ensures.room in
    update_sound shows c.requires.chain_in_range (take_front shows c.requires.chain_in_range refl
    c.index_mut-cell.ensures.value c.index-head.ensures c.begin.ensures)
    (c.requires.order, chain_rises shows c.requires.chain_in_range)

pub returns-clause-taken : goal.returns-clause-taken
returns-clause-taken c =
    let shows = ready_shows _ (shown c.self.invariant c.self.view_is) (rw c.in_ok-taken.was at c.ready.ensures.ready) c.ready.ensures.room in
    update_seen shows c.requires.chain_in_range (take_front shows c.requires.chain_in_range refl
    c.index_mut-cell.ensures.value c.index-head.ensures c.begin.ensures) (ap (λ n. n - 1) (free_is shows))
