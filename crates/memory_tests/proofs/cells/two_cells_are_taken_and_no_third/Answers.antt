use Rattle.std.proofs.Common.{[], None, refl, arith}
use Rattle.cell_pool.proofs.KnownChains.{opened, in_range, place_for, takes}
use Rattle.memory_tests.proofs.cells.two_cells_are_taken_and_no_third.Goals as goal

pub take_after-second-requires-clause-chain_in_range : goal.take_after-second-requires-clause-chain_in_range
take_after-second-requires-clause-chain_in_range g c =
    let first = takes 0 None [] [] (opened c.in_ok-pool.ensures)
    refl refl 8 refl c.take_after-first.ensures.full.0 c.take_after-first.ensures.taken in
    in_range 0 first.has (omega arith)

pub take_after-second-requires-clause-place : goal.take_after-second-requires-clause-place
take_after-second-requires-clause-place g c =
    let first = takes 0 None [] [] (opened c.in_ok-pool.ensures)
    refl refl 8 refl c.take_after-first.ensures.full.0 c.take_after-first.ensures.taken in
    place_for 0 None [] _ first.has refl refl 7 tt (omega arith)

pub take_after-third-requires-clause-chain_in_range : goal.take_after-third-requires-clause-chain_in_range
take_after-third-requires-clause-chain_in_range g c =
    let first = takes 0 None [] [] (opened c.in_ok-pool.ensures)
    refl refl 8 refl c.take_after-first.ensures.full.0 c.take_after-first.ensures.taken in
    let second = takes 0 None [] _ first.has refl refl 7 refl c.take_after-second.ensures.full.0
    c.take_after-second.ensures.taken in
    in_range 0 second.has (omega arith)

pub take_after-third-requires-clause-place : goal.take_after-third-requires-clause-place
take_after-third-requires-clause-place g c =
    let first = takes 0 None [] [] (opened c.in_ok-pool.ensures)
    refl refl 8 refl c.take_after-first.ensures.full.0 c.take_after-first.ensures.taken in
    let second = takes 0 None [] _ first.has refl refl 7 refl c.take_after-second.ensures.full.0
    c.take_after-second.ensures.taken in
    place_for 0 None [] _ second.has refl refl 6 tt (omega arith)
