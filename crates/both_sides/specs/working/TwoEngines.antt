-- What two engines in sequence keep between records.
use Rattle.std.specs.Prelude.{◌+◌, ◌*◌, ◌^◌, ◌<◌, ◌≤◌, List, length}
use Rattle.norm_engine.specs.Items.{Item}
use Rattle.both_sides.specs.TwoEngines.{Joined, StandsFor}

-- the engines represent some pair of traces
pub record StandsForSome (both : Joined) : Type 0 where
  pub trace : List Item
  pub mirror : List Item
  pub stands : StandsFor both trace mirror

-- bounds on the number of records: the second engine reads at most two for each of the first, whose
-- number has room for twice as many
pub record IsWithin (both : Joined) : Type 0 where
  pub records : both.first.records < 2 ^ 31
  pub frames : both.second.records + length both.pending ≤ 2 * both.first.records
