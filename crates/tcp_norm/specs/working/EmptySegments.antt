-- Segments that bring no octet of the stream.
use Rattle.std.specs.Prelude.{◌≡◌, ℕ, pos, None}
use Rattle.era_state.specs.SegmentMarks.{octet_at}
use Rattle.wire_base.specs.Segments.{Written}

-- the segment has no octet of the stream, wherever that begins
abbrev pub BringsNone : Written → Type 0
BringsNone w = (base at offset : ℕ) → octet_at base at (pos offset) w ≡ None
