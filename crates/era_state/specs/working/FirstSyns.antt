-- The first outbound SYN of an era after one more segment (this project's profile).
use Rattle.std.specs.Prelude.{ℕ, Option, Some, None, if◌then◌else◌}
use Rattle.std.specs.Option.{option_or}
use Rattle.wire_base.specs.Segments.{Written}
use Rattle.era_state.specs.SegmentMarks.{is_outbound_syn}

-- the number of the first outbound SYN after this segment
abbrev pub iss_after : Option ℕ → Written → Option ℕ
iss_after old w = option_or old (if is_outbound_syn w then Some w.seq else None)
