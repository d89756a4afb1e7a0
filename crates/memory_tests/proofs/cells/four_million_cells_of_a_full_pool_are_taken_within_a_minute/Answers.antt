use Rattle.std.proofs.Common.{◌≡◌, ◌+◌, ◌-◌, suc, [], None, refl, arith}
use Rattle.cell_pool.proofs.KnownChains.{opened, in_range, takes, cell_after, gives, has_first, fill_begins, fill_place, fill_step}
use Rattle.memory_tests.proofs.cells.four_million_cells_of_a_full_pool_are_taken_within_a_minute.Goals as goal

pub loop-block-init : goal.loop-block-init
loop-block-init g c = fill_begins (opened c.in_ok-pool.ensures)

pub take_after-last-requires-clause-chain_in_range : goal.take_after-last-requires-clause-chain_in_range
take_after-last-requires-clause-chain_in_range g c = in_range 0 c.loop-block.invariant.has (omega arith)

pub take_after-last-requires-clause-place : goal.take_after-last-requires-clause-place
take_after-last-requires-clause-place g c = fill_place c.loop-block.invariant

pub loop-block-preserved : goal.loop-block-preserved
loop-block-preserved g c =
    let some : 262144 - c.loop-block.block ≡ suc (262144 - (c.loop-block.block + 1)) = omega arith in
    fill_step c.loop-block.invariant some c.take_after-last.ensures.full.0 c.take_after-last.ensures.taken

pub first-requires-in-loop : goal.first-requires-in-loop
first-requires-in-loop g c =
    let one = takes 1 None [] [] c.loop.invariant refl refl 7 refl c.take_after-taken.ensures.full.0
    c.take_after-taken.ensures.taken in
    in_range 1 one.has (omega arith)

pub give_back_after-requires-clause-place : goal.give_back_after-requires-clause-place
give_back_after-requires-clause-place g c =
    let one = takes 1 None [] [] c.loop.invariant refl refl 7 refl c.take_after-taken.ensures.full.0
    c.take_after-taken.ensures.taken in
    cell_after 1 None [] _ [] one.has refl refl

pub loop-preserved : goal.loop-preserved
loop-preserved g c =
    let one = takes 1 None [] [] c.loop.invariant refl refl 7 refl c.take_after-taken.ensures.full.0
    c.take_after-taken.ensures.taken in
    has_first (gives 1 None [] _ [] one.has refl refl c.give_back_after.ensures)
