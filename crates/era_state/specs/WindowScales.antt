-- The window scales of the SYNs of an era (RFC 7323 section 2).
use Rattle.std.specs.Prelude.{◌≡◌, List, is_some}
use Rattle.wire_base.specs.Segments.{Written}
use Rattle.era_state.specs.declared.syns.Syns.{Syns}
use Rattle.era_state.specs.Offsets.{number_in}
use Rattle.era_state.specs.Quantities.{out_seen, in_seen, in_scaled, out_scaled, out_scale}

-- the scales are those of these segments
pub record SynsFor (s : Syns) (ws : List Written) : Type 0 where
  pub out_seen_is : s.out_seen ≡ out_seen ws
  pub in_seen_is : s.in_seen ≡ in_seen ws
  pub out_scaled_is : is_some s.out_scale ≡ out_scaled ws
  pub in_scaled_is : s.in_scale ≡ in_scaled ws
  pub out_scale_is : number_in s.out_scale ≡ out_scale ws
