-- How a call changes the count of faults of a source or a sink (this project's profile).
use Rattle.std.specs.Prelude.{◌≡◌, ℕ, ◌≤◌, Result, OnOk}

-- The count never falls, and a call that succeeds leaves it unchanged.
pub record RisesOnlyAtErr {T E : Type 0} (before now : ℕ) (result : Result T E) : Type 0 where
  pub later : before ≤ now
  pub kept : OnOk result (now ≡ before)
