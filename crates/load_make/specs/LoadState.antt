-- The state of the generation of a load (this project's profile).
use Rattle.std.specs.Prelude.{ℕ}

-- The seed, the number of records of the load, and the number of records made.
pub record Making : Type 0 where
  pub seed : ℕ
  pub count : ℕ
  pub made : ℕ
