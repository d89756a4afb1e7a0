use Rattle.std.proofs.Common.{◌<◌, ◌∙◌, sym, arith}
use Rattle.cell_pool.specs.ChainLists.{chain_at}
use Rattle.retain_store.specs.working.BlockCells.{IsAmong}
use Rattle.retain_store.proofs.Cells.{stands, from_cell, walk_ends}
use Rattle.retain_store.proofs.seat.seek.Goals as goal

pub returns-in_default-next_of : goal.returns-in_default-next_of
returns-in_default-next_of c =
    let among : IsAmong (chain_at c.args.pool.now c.args.chain.0) c.in-Some.cell = rw c.in-Some.is at c.requires.near_in_chain in
    let at = stands c.requires.chain_in_range among.at in
    let block = c.block-reached.ensures _ _ _ _ at in
    let below : among.cell.block < c.args.block = omega (arith, block) in
    walk_ends (from_cell among below (c.next_of.ensures.value _ _ _ _ at)) c.in_default-next_of.is

pub walk-requires-clause-begun : goal.walk-requires-clause-begun
walk-requires-clause-begun c =
    let among : IsAmong (chain_at c.args.pool.now c.args.chain.0) c.in-Some.cell = rw c.in-Some.is at c.requires.near_in_chain in
    let at = stands c.requires.chain_in_range among.at in
    let block = c.block-reached.ensures _ _ _ _ at in
    let below : among.cell.block < c.args.block = omega (arith, block) in
    from_cell among below (sym c.in-Some-next_of.is ∙ c.next_of.ensures.value _ _ _ _ at)

pub seek_behind-requires-clause-begun : goal.seek_behind-requires-clause-begun
seek_behind-requires-clause-begun c =
    let among : IsAmong (chain_at c.args.pool.now c.args.chain.0) c.in-Some.cell = rw c.in-Some.is at c.requires.near_in_chain in
    let at = stands c.requires.chain_in_range among.at in
    let block = c.block-reached.ensures _ _ _ _ at in
    let below : among.cell.block < c.args.block = omega (arith, block) in
    from_cell among below (sym c.in-Some-next_of.is ∙ c.next_of.ensures.value _ _ _ _ at)
