use Rattle.std.proofs.Common.{◌≡◌, replicate}
use Rattle.cell_pool.specs.working.SoundLinks.{blank_head}
use Rattle.cell_pool.proofs.cells.empty_heads.Given as goal

abbrev pub invariant-loop : goal.invariant-loop
invariant-loop l = l.heads.items ≡ replicate l.counter blank_head
