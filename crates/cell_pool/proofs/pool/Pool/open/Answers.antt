use Rattle.cell_pool.proofs.Pools.{opened_sound, opened_view}
use Rattle.cell_pool.proofs.pool.Pool.open.Goals as goal

pub invariant_of-result : goal.invariant_of-result
invariant_of-result c = opened_sound _ _ _ _ _ c.in_ok-heads.ensures c.in_ok-room.ensures.items c.in_ok-room.ensures.exact c.requires

pub returns : goal.returns
returns c = opened_view _ _ _ _ _ c.in_ok-heads.ensures c.in_ok-room.ensures.exact
