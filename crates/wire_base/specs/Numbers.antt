-- Numbers in octets, most significant octet first (RFC 791, appendix B). Octets past the end read
-- as 0.
use Rattle.std.specs.Prelude.{ℕ, ◌+◌, ◌*◌, List, ◌++◌, take, drop, slice_index}
use Rattle.std.specs.Int.{w16, w32, to_be_bytes}

-- the 16-bit number at the offset `at`
abbrev pub u16_at : List ℕ → ℕ → ℕ
u16_at octets at = 256 * slice_index octets at + slice_index octets (at + 1)

-- the 32-bit number at the offset `at`
abbrev pub u32_at : List ℕ → ℕ → ℕ
u32_at octets at = 65536 * u16_at octets at + u16_at octets (at + 2)

-- the two octets of a number below 2^16
abbrev pub u16_octets : ℕ → List ℕ
u16_octets n = to_be_bytes w16 n

-- the four octets of a number below 2^32
abbrev pub u32_octets : ℕ → List ℕ
u32_octets n = to_be_bytes w32 n

-- the octets with a 16-bit number at the offset `at`, all others unchanged
abbrev pub with_u16 : List ℕ → ℕ → ℕ → List ℕ
with_u16 octets at n = take at octets ++ u16_octets n ++ drop (at + 2) octets

-- the octets with a 32-bit number at the offset `at`, all others unchanged
abbrev pub with_u32 : List ℕ → ℕ → ℕ → List ℕ
with_u32 octets at n = take at octets ++ u32_octets n ++ drop (at + 4) octets
