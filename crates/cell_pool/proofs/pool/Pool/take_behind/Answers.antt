use Rattle.std.proofs.Common.{◌-◌, refl, ap, arith}
use Rattle.cell_pool.specs.ChainLists.{empty_cell}
use Rattle.cell_pool.proofs.Pools.{ready_shows, update_sound, update_seen}
use Rattle.cell_pool.proofs.FreeCells.{take_behind, take_rises}
use Rattle.cell_pool.proofs.Chains.{shown, free_is, place_last}
use Rattle.cell_pool.proofs.pool.Pool.take_behind.Goals as goal

pub index-link-requires : goal.index-link-requires
index-link-requires c = omega (
  arith,
  (place_last (ready_shows _ (shown c.self.invariant c.self.view_is) (rw c.in_ok-taken.was at c.ready.ensures.ready) c.ready.ensures.room)
      c.requires.chain_in_range c.requires.place.place).inside,
)

pub set_next-requires : goal.set_next-requires
set_next-requires c = (place_last (ready_shows _ (shown c.self.invariant c.self.view_is) (rw c.in_ok-taken.was at c.ready.ensures.ready) c.ready.ensures.room)
    c.requires.chain_in_range c.requires.place.place).inside

pub invariant_of-self-2 : goal.invariant_of-self-2
invariant_of-self-2 c =
    let shows = ready_shows _ (shown c.self.invariant c.self.view_is) (rw c.in_ok-taken.was at c.ready.ensures.ready) c.ready.ensures.room in
    rw c.set_next.ensures.room (update_sound shows c.requires.chain_in_range (take_behind shows c.requires.chain_in_range refl c.index.ensures
    c.index-link.ensures c.set_next.ensures.items c.begin.ensures c.index_mut-head.ensures.value c.requires.place.place)
    (take_rises shows c.requires.chain_in_range (empty_cell c.in_ok-taken.taken c.args.block) c.requires.place))

pub returns-clause-taken : goal.returns-clause-taken
returns-clause-taken c before rest place =
    let shows = ready_shows _ (shown c.self.invariant c.self.view_is) (rw c.in_ok-taken.was at c.ready.ensures.ready) c.ready.ensures.room in
    rw c.set_next.ensures.room (update_seen shows c.requires.chain_in_range (take_behind shows c.requires.chain_in_range refl c.index.ensures
    c.index-link.ensures c.set_next.ensures.items c.begin.ensures c.index_mut-head.ensures.value place)
    (ap (λ n. n - 1) (free_is shows)))
