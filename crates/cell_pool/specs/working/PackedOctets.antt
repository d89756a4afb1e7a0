-- How 256 offsets, each with an octet or nothing, are packed (this project's profile). They are 256
-- values, and four 64-bit words with one bit for each offset.
use Rattle.std.specs.Prelude.{◌≡◌, ℕ, ◌<◌, ◌≤◌, nat_lt, ◌^◌, ◌/◌, ◌%◌, List, map, Option, Some, None, slice_index, ◌==◌, if◌then◌else◌}
use Rattle.std.specs.Int.{bit_at}
use Rattle.std.specs.List.{range_with_len}

-- The octet at an offset: its value where its bit is 1, else nothing.
abbrev pub octet_at : List ℕ → List ℕ → ℕ → Option ℕ
octet_at values known i =
    if bit_at (slice_index known (i / 64)) (i % 64) == 1 then Some (slice_index values i) else None

-- The octets at all 256 offsets.
unfoldable pub octets_of : List ℕ → List ℕ → List (Option ℕ)
octets_of values known = map (octet_at values known) (range_with_len 0 256)

-- The bits of `new` below `place` are 0; from `place` on they are those of `old`.
abbrev pub HasBitsFrom : ℕ → ℕ → ℕ → Type 0
HasBitsFrom place old new = (i : ℕ) → i < 64 → bit_at new i ≡ (if nat_lt i place then 0 else bit_at old i)

-- The word has 1 exactly at the bits from `at` up to `end`.
pub record HasOnesBetween (at end word : ℕ) : Type 0 where
  pub inside : (i : ℕ) → i < 64 → at ≤ i → i < end → bit_at word i ≡ 1
  pub before : (i : ℕ) → i < 64 → i < at → bit_at word i ≡ 0
  pub behind : (i : ℕ) → i < 64 → end ≤ i → bit_at word i ≡ 0

-- The bit of this offset in a list of 64-bit words.
abbrev pub bit_of : List ℕ → ℕ → ℕ
bit_of words i = bit_at (slice_index words (i / 64)) (i % 64)

-- These four 64-bit words have 1 exactly at the offsets from `at` up to `end`.
pub record IsMask (at end : ℕ) (words : List ℕ) : Type 0 where
  pub small : (j : ℕ) → j < 4 → slice_index words j < 2 ^ 64
  pub inside : (i : ℕ) → i < 256 → at ≤ i → i < end → bit_of words i ≡ 1
  pub before : (i : ℕ) → i < 256 → i < at → bit_of words i ≡ 0
  pub behind : (i : ℕ) → i < 256 → end ≤ i → bit_of words i ≡ 0
