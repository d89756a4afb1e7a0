-- How one more segment changes the window scales of the SYNs of an era (RFC 7323 section 2).
use Rattle.std.specs.Prelude.{◌≡◌, ℕ, ◌&&◌, ◌||◌, max, min, Bool, Option, is_some, if◌then◌else◌}
use Rattle.wire_base.specs.Segments.{Written}
use Rattle.era_state.specs.declared.syns.Syns.{Syns}
use Rattle.era_state.specs.Offsets.{number_in}
use Rattle.era_state.specs.SegmentMarks.{is_outbound_syn, is_inbound_syn}
use Rattle.era_state.specs.Quantities.{shift_with}
use Rattle.wire_base.specs.declared.limits.TheConstants.{MAX_SHIFT}

-- the new scales are the old ones and those of one more segment: whether it is an outbound or an
-- inbound SYN, and its window scale
pub record SynsWith (outbound inbound : Bool) (scale : Option ℕ) (old new : Syns) : Type 0 where
  pub out_seen_is : new.out_seen ≡ (old.out_seen || outbound)
  pub in_seen_is : new.in_seen ≡ (old.in_seen || inbound)
  pub out_scaled_is : is_some new.out_scale ≡ (is_some old.out_scale || (outbound && is_some scale))
  pub in_scaled_is : new.in_scale ≡ (old.in_scale || (inbound && is_some scale))
  pub out_scale_is : number_in new.out_scale ≡ max (number_in old.out_scale) (min MAX_SHIFT (if outbound then number_in scale else 0))

-- the same of a written segment
abbrev pub SynsAfter : Written → Syns → Syns → Type 0
SynsAfter w old new = SynsWith (is_outbound_syn w) (is_inbound_syn w) w.scale old new

-- the shift of the windows that follows from them
abbrev pub shift_of : Syns → ℕ
shift_of s = shift_with s.out_seen s.in_seen (is_some s.out_scale) s.in_scale (number_in s.out_scale)
