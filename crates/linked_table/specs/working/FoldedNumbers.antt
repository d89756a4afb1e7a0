-- Numbers modulo the prime of the hash (this project's profile).
use Rattle.std.specs.Prelude.{ℕ, ◌+◌, ◌/◌, ◌%◌, ◌^◌}

-- The bits from 61 on, added to those below: the number is the same modulo the prime.
abbrev pub folded : ℕ → ℕ
folded number = number % 2 ^ 61 + number / 2 ^ 61
