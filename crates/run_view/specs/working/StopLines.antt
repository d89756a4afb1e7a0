-- What a stop prints and returns (this project's profile).
use Rattle.std.specs.Prelude.{◌≡◌, ◌⊎◌, ℕ}
use Rattle.edge_io.specs.FaultCounts.{Rose}
use Rattle.run_view.specs.declared.stop.Stop as own
use Rattle.run_view.specs.StopMeanings.{status_of}

-- the line of a stop was printed, and its status is returned; or the output failed; or memory could
-- not be allocated
abbrev pub Tells : own.Stop → (before now status : ℕ) → Type 0
Tells stop before now status = (status ≡ status_of stop) ⊎ (((status ≡ 7) × Rose before now) ⊎ (status ≡ 8))
