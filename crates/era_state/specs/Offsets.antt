-- Sequence numbers as signed offsets of a stream (RFC 9293 section 3.4: numbers are modulo 2^32;
-- which multiple of 2^32 is meant is this project's profile).
use Rattle.std.specs.Prelude.{◌≡◌, ◌↔◌, ℕ, ◌+◌, ◌-◌, ◌%◌, ◌^◌, ◌<◌, ◌≤◌, ℤ, pos, negsuc, ◌+ℤ◌, ◌-ℤ◌, ◌*ℤ◌, ◌≤ℤ◌, ◌<ℤ◌, Option, Some, None, nat_lt, if◌then◌else◌}

-- how far a number is past another, modulo 2^32
abbrev pub turn_past : ℕ → ℕ → ℕ
turn_past from number = (number + 2 ^ 32 - from % 2 ^ 32) % 2 ^ 32

-- the number before a number, modulo 2^32
abbrev pub number_before : ℕ → ℕ
number_before number = (number + (2 ^ 32 - 1)) % 2 ^ 32

-- Off: the offset from the base that a number represents: of those that differ by 2^32 the one from
-- `at` - 2^31 to below `at` + 2^31, where `at` is Acked
abbrev pub off : (base at number : ℕ) → ℤ
off base at number =
    if nat_lt (turn_past (base + at) number) (2 ^ 31)
    then pos at +ℤ pos (turn_past (base + at) number)
    else (pos at +ℤ pos (turn_past (base + at) number)) -ℤ pos (2 ^ 32)

-- an offset, if it is not below 0
abbrev pub natural : ℤ → Option ℕ
natural (pos n) = Some n
natural (negsuc n) = None

-- an offset, or 0 if it is below 0
abbrev pub nat_of : ℤ → ℕ
nat_of (pos n) = n
nat_of (negsuc n) = 0

-- an optional natural offset as a signed one
abbrev pub whole : Option ℕ → Option ℤ
whole None = None
whole (Some n) = Some (pos n)

-- an optional number, or 0 if there is none
abbrev pub number_in : Option ℕ → ℕ
number_in None = 0
number_in (Some n) = n

-- an offset equal to `number` - `base` modulo 2^32, from `at` - 2^31 to below `at` + 2^31
pub record IsOff (base at number : ℕ) (offset : ℤ) : Type 0 where
  pub turns : ℤ
  pub place : offset ≡ (pos number -ℤ pos base) +ℤ (turns *ℤ pos (2 ^ 32))
  pub behind : pos at ≤ℤ (offset +ℤ pos (2 ^ 31))
  pub ahead : offset <ℤ pos (at + 2 ^ 31)

-- there is exactly one such offset, and it is `off`
abbrev pub OffsetsAreRead : Type 0
OffsetsAreRead = (base at number : ℕ) (offset : ℤ) → IsOff base at number offset ↔ (offset ≡ off base at number)

-- a stream offset from `at` - 2^31 to below `at` + 2^31 is read from its number
abbrev pub PlacesAreRead : Type 0
PlacesAreRead = (base at place : ℕ) → at ≤ place + 2 ^ 31 → place < at + 2 ^ 31 → off base at ((base + place) % 2 ^ 32) ≡ pos place
