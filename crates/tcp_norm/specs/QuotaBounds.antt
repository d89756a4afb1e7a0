-- Numbers that the quota bounds.
use Rattle.std.specs.Prelude.{◌≡◌, ℕ, ◌≤◌, Option, Some}

-- the number is at most the quota, where one is set
abbrev pub IsAtMost : (quota : Option ℕ) → (number : ℕ) → Type 0
IsAtMost quota number = (most : ℕ) → quota ≡ Some most → number ≤ most
