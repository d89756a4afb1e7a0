use Rattle.std.proofs.Common.{◌-◌}
use Rattle.cell_pool.proofs.KnownChains.{HasFirst, IsFilled}
use Rattle.memory_tests.proofs.cells.four_million_cells_of_a_full_pool_are_taken_within_a_minute.Given as goal

abbrev pub invariant-loop-block : goal.invariant-loop-block
invariant-loop-block g l = IsFilled l.pool (262144 - l.block) l.block l.last

abbrev pub invariant-loop : goal.invariant-loop
invariant-loop g l = HasFirst l.pool 1
