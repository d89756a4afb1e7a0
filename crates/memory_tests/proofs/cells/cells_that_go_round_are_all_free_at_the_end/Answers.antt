use Rattle.std.proofs.Common.{[], ◌∷◌, None, refl, sym, arith}
use Rattle.cell_pool.specs.ChainLists.{empty_cell}
use Rattle.cell_pool.proofs.KnownChains.{opened, in_range, place_for, takes, cell_after, gives}
use Rattle.memory_tests.proofs.cells.cells_that_go_round_are_all_free_at_the_end.Goals as goal

pub loop-init : goal.loop-init
loop-init g c = opened c.in_ok-pool.ensures

pub take_after-front-requires-clause-chain_in_range : goal.take_after-front-requires-clause-chain_in_range
take_after-front-requires-clause-chain_in_range g c =
    in_range 0 c.loop.invariant (omega arith)

pub take_after-front-requires-clause-place : goal.take_after-front-requires-clause-place
take_after-front-requires-clause-place g c =
    place_for 0 None [] [] c.loop.invariant refl refl 5 tt tt

pub take_after-requires-clause-chain_in_range : goal.take_after-requires-clause-chain_in_range
take_after-requires-clause-chain_in_range g c =
    let a = takes 0 None [] [] c.loop.invariant refl refl 5 refl c.take_after-front.ensures.full.0
    c.take_after-front.ensures.taken in
    in_range 1 a.has (omega arith)

pub take_after-requires-clause-place : goal.take_after-requires-clause-place
take_after-requires-clause-place g c =
    let a = takes 0 None [] [] c.loop.invariant refl refl 5 refl c.take_after-front.ensures.full.0
    c.take_after-front.ensures.taken in
    place_for 1 None [] [] a.has refl refl 5 tt tt

pub take_after-requires-in-loop-clause-chain_in_range : goal.take_after-requires-in-loop-clause-chain_in_range
take_after-requires-in-loop-clause-chain_in_range g c =
    let a = takes 0 None [] [] c.loop.invariant refl refl 5 refl c.take_after-front.ensures.full.0
    c.take_after-front.ensures.taken in
    let b = takes 1 None [] [] a.has refl refl 5 refl c.take_after.ensures.full.0 c.take_after.ensures.taken in
    in_range 0 b.has (omega arith)

pub take_after-requires-in-loop-clause-place : goal.take_after-requires-in-loop-clause-place
take_after-requires-in-loop-clause-place g c =
    let a = takes 0 None [] [] c.loop.invariant refl refl 5 refl c.take_after-front.ensures.full.0
    c.take_after-front.ensures.taken in
    let b = takes 1 None [] [] a.has refl refl 5 refl c.take_after.ensures.full.0 c.take_after.ensures.taken in
    place_for 0 _ (empty_cell a.cell 5 ∷ []) [] b.has refl (sym a.is) 6 (omega arith) tt

pub give_back_after-requires-clause-chain_in_range : goal.give_back_after-requires-clause-chain_in_range
give_back_after-requires-clause-chain_in_range g c =
    let a = takes 0 None [] [] c.loop.invariant refl refl 5 refl c.take_after-front.ensures.full.0
    c.take_after-front.ensures.taken in
    let b = takes 1 None [] [] a.has refl refl 5 refl c.take_after.ensures.full.0 c.take_after.ensures.taken in
    let d = takes 0 _ (empty_cell a.cell 5 ∷ []) [] b.has refl (sym a.is)
    6 refl c.take_after-in-loop.ensures.full.0 c.take_after-in-loop.ensures.taken in
    in_range 0 d.has (omega arith)

pub give_back_after-requires-clause-place : goal.give_back_after-requires-clause-place
give_back_after-requires-clause-place g c =
    let a = takes 0 None [] [] c.loop.invariant refl refl 5 refl c.take_after-front.ensures.full.0
    c.take_after-front.ensures.taken in
    let b = takes 1 None [] [] a.has refl refl 5 refl c.take_after.ensures.full.0 c.take_after.ensures.taken in
    let d = takes 0 _ (empty_cell a.cell 5 ∷ []) [] b.has refl (sym a.is)
    6 refl c.take_after-in-loop.ensures.full.0 c.take_after-in-loop.ensures.taken in
    cell_after 0 _ (empty_cell a.cell 5 ∷ []) _ [] d.has refl (sym a.is)

pub give_back_after-requires-in-loop-clause-chain_in_range : goal.give_back_after-requires-in-loop-clause-chain_in_range
give_back_after-requires-in-loop-clause-chain_in_range g c =
    let a = takes 0 None [] [] c.loop.invariant refl refl 5 refl c.take_after-front.ensures.full.0
    c.take_after-front.ensures.taken in
    let b = takes 1 None [] [] a.has refl refl 5 refl c.take_after.ensures.full.0 c.take_after.ensures.taken in
    let d = takes 0 _ (empty_cell a.cell 5 ∷ []) [] b.has refl (sym a.is)
    6 refl c.take_after-in-loop.ensures.full.0 c.take_after-in-loop.ensures.taken in
    let e = gives 0 _ (empty_cell a.cell 5 ∷ []) _ [] d.has refl (sym a.is) c.give_back_after.ensures in
    in_range 0 e (omega arith)

pub give_back_after-requires-in-loop-clause-place : goal.give_back_after-requires-in-loop-clause-place
give_back_after-requires-in-loop-clause-place g c =
    let a = takes 0 None [] [] c.loop.invariant refl refl 5 refl c.take_after-front.ensures.full.0
    c.take_after-front.ensures.taken in
    let b = takes 1 None [] [] a.has refl refl 5 refl c.take_after.ensures.full.0 c.take_after.ensures.taken in
    let d = takes 0 _ (empty_cell a.cell 5 ∷ []) [] b.has refl (sym a.is)
    6 refl c.take_after-in-loop.ensures.full.0 c.take_after-in-loop.ensures.taken in
    let e = gives 0 _ (empty_cell a.cell 5 ∷ []) _ [] d.has refl (sym a.is) c.give_back_after.ensures in
    cell_after 0 None [] _ [] e refl refl

pub give_back_after-requires-in-loop-2-clause-chain_in_range : goal.give_back_after-requires-in-loop-2-clause-chain_in_range
give_back_after-requires-in-loop-2-clause-chain_in_range g c =
    let a = takes 0 None [] [] c.loop.invariant refl refl 5 refl c.take_after-front.ensures.full.0
    c.take_after-front.ensures.taken in
    let b = takes 1 None [] [] a.has refl refl 5 refl c.take_after.ensures.full.0 c.take_after.ensures.taken in
    let d = takes 0 _ (empty_cell a.cell 5 ∷ []) [] b.has refl (sym a.is)
    6 refl c.take_after-in-loop.ensures.full.0 c.take_after-in-loop.ensures.taken in
    let e = gives 0 _ (empty_cell a.cell 5 ∷ []) _ [] d.has refl (sym a.is) c.give_back_after.ensures in
    let f = gives 0 None [] _ [] e refl refl c.give_back_after-in-loop.ensures in
    in_range 1 f (omega arith)

pub give_back_after-requires-in-loop-2-clause-place : goal.give_back_after-requires-in-loop-2-clause-place
give_back_after-requires-in-loop-2-clause-place g c =
    let a = takes 0 None [] [] c.loop.invariant refl refl 5 refl c.take_after-front.ensures.full.0
    c.take_after-front.ensures.taken in
    let b = takes 1 None [] [] a.has refl refl 5 refl c.take_after.ensures.full.0 c.take_after.ensures.taken in
    let d = takes 0 _ (empty_cell a.cell 5 ∷ []) [] b.has refl (sym a.is)
    6 refl c.take_after-in-loop.ensures.full.0 c.take_after-in-loop.ensures.taken in
    let e = gives 0 _ (empty_cell a.cell 5 ∷ []) _ [] d.has refl (sym a.is) c.give_back_after.ensures in
    let f = gives 0 None [] _ [] e refl refl c.give_back_after-in-loop.ensures in
    cell_after 1 None [] _ [] f refl refl

pub loop-preserved : goal.loop-preserved
loop-preserved g c =
    let a = takes 0 None [] [] c.loop.invariant refl refl 5 refl c.take_after-front.ensures.full.0
    c.take_after-front.ensures.taken in
    let b = takes 1 None [] [] a.has refl refl 5 refl c.take_after.ensures.full.0 c.take_after.ensures.taken in
    let d = takes 0 _ (empty_cell a.cell 5 ∷ []) [] b.has refl (sym a.is)
    6 refl c.take_after-in-loop.ensures.full.0 c.take_after-in-loop.ensures.taken in
    let e = gives 0 _ (empty_cell a.cell 5 ∷ []) _ [] d.has refl (sym a.is) c.give_back_after.ensures in
    let f = gives 0 None [] _ [] e refl refl c.give_back_after-in-loop.ensures in
    gives 1 None [] _ [] f refl refl c.give_back_after-in-loop-2.ensures
