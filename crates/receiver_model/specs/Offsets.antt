-- Offsets in a stream, and what a segment has at an offset (RFC 9293 section 3.4: sequence numbers
-- are counted modulo 2^32). Which multiple of 2^32 is meant is this project's profile. `next` is
-- the offset at which the stream continues.
use Rattle.std.specs.Prelude.{◌≡◌, ℕ, ◌+◌, ◌-◌, ◌%◌, ◌^◌, IsTrue, length, ℤ, pos, ◌+ℤ◌, ◌-ℤ◌, ◌*ℤ◌, ◌≤ℤ◌, ◌<ℤ◌, Option, Some, None, slice_get}
use Rattle.wire_base.specs.Segments.{Segment}
use Rattle.wire_base.specs.Tcp as tcp

-- the offset is the sequence number less the base, plus a multiple of 2^32
pub record IsPlace (base number : ℕ) (offset : ℤ) : Type 0 where
  pub turns : ℤ
  pub is : offset ≡ (pos number -ℤ pos base) +ℤ (turns *ℤ pos (2 ^ 32))

-- the offset is at least `next` - 2^31 and below `next` + 2^31
pub record IsNear (next : ℕ) (offset : ℤ) : Type 0 where
  pub behind : pos next ≤ℤ (offset +ℤ pos (2 ^ 31))
  pub ahead : offset <ℤ pos (next + 2 ^ 31)

-- the sequence number represents this offset
pub record Names (base next number : ℕ) (offset : ℤ) : Type 0 where
  pub place : IsPlace base number offset
  pub near : IsNear next offset

-- that offset, plus 2^31
abbrev pub raised_of : (base next number : ℕ) → ℕ
raised_of base next number = next + (number + 2 ^ 33 + 2 ^ 31 - base % 2 ^ 32 - next % 2 ^ 32) % 2 ^ 32

-- an offset from such a number
abbrev pub offset_in : ℕ → ℤ
offset_in raised = pos raised -ℤ pos (2 ^ 31)

-- the segment has this octet at this offset: octet `i` has the sequence number of the segment plus
-- `i`
abbrev pub Carries : (base next : ℕ) → Option Segment → ℤ → ℕ → Type 0
Carries base next None offset octet = ⊥
Carries base next (Some s) offset octet = (i : ℕ) × (slice_get s.octets i ≡ Some octet) × Names base next (s.sequence + i) offset

-- the segment has a FIN at this offset, the one after its last octet
abbrev pub Ends : (base next : ℕ) → Option Segment → ℤ → Type 0
Ends base next None offset = ⊥
Ends base next (Some s) offset = IsTrue (tcp.has_fin s.flags) × Names base next (s.sequence + length s.octets) offset
