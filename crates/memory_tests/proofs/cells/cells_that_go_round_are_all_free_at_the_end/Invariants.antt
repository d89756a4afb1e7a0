use Rattle.std.proofs.Common.{[], ◌∷◌}
use Rattle.cell_pool.proofs.KnownChains.{Has}
use Rattle.memory_tests.proofs.cells.cells_that_go_round_are_all_free_at_the_end.Given as goal

abbrev pub invariant-loop : goal.invariant-loop
invariant-loop g l = Has l.pool ([] ∷ [] ∷ []) 4
