-- How the words of a checksum are counted (RFC 1071 section 2): as numbers with the least
-- significant octet first, eight octets at a time.
use Rattle.std.specs.Prelude.{◌≡◌, ℕ, ◌+◌, ◌*◌, List, drop, slice_index}
use Rattle.wire_base.specs.Checksums.{word_sum}

-- the 32-bit number at the offset `at`, least significant octet first
abbrev pub lowest_first_at : List ℕ → ℕ → ℕ
lowest_first_at octets at =
    slice_index octets at + 256 * slice_index octets (at + 1) + 65536 * slice_index octets (at + 2) + 16777216 * slice_index octets (at + 3)

-- the 64-bit number at the offset `at`, least significant octet first; octets past the end read as
-- 0
abbrev pub eight_at : List ℕ → ℕ → ℕ
eight_at octets at = lowest_first_at octets at + 4294967296 * lowest_first_at octets (at + 4)

-- two totals that count as the same sum: they differ by a multiple of 65,535, and one is 0 exactly
-- if the other is
pub record CountsAs (a b : ℕ) : Type 0 where
  pub up : ℕ
  pub down : ℕ
  pub same : a + 65535 * up ≡ b + 65535 * down
  pub zero : a ≡ 0 → b ≡ 0
  pub back : b ≡ 0 → a ≡ 0

-- 256 times `sum`, the octets before the offset `at` added as numbers with the least significant
-- octet first, and the words from there on count as all words
abbrev pub CountsUpTo : ℕ → ℕ → List ℕ → Type 0
CountsUpTo at sum octets = CountsAs (256 * sum + word_sum (drop at octets)) (word_sum octets)
