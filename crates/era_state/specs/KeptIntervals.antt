-- The interval of an inbound segment with neither SYN nor RST (this project's profile).
use Rattle.std.specs.Prelude.{◌≡◌, ℕ, Bool, List, length, ℤ}
use Rattle.wire_base.specs.Tcp as tcp
use Rattle.wire_base.specs.Segments.{Written}
use Rattle.era_state.specs.declared.offset.Interval.{Interval}
use Rattle.era_state.specs.ForwardedOctets.{Bounds, bounds_of, offset_of, low, high, keeps_fin, begins_below, passes_window, passes_end}
use Rattle.era_state.specs.Rules.{t_old, t_window, t_end}

-- which octets are forwarded, and whether the FIN is, of a segment at this offset, of this length,
-- with or without FIN
pub record Spans (b : Bounds) (at : ℤ) (len : ℕ) (fin : Bool) (i : Interval) : Type 0 where
  pub lo_is : i.lo ≡ low b at
  pub hi_is : i.hi ≡ high b at len
  pub fin_is : i.fin ≡ keeps_fin b at len fin

-- these, and whether the three rules apply to the segment
pub record Keeps (b : Bounds) (at : ℤ) (len : ℕ) (fin : Bool) (i : Interval) : Type 0 where
  pub spans : Spans b at len fin i
  pub below_is : i.below ≡ begins_below b at len
  pub window_is : i.window ≡ passes_window b at len
  pub end_is : i.end ≡ passes_end b at len fin

-- the same of segment `w`, after the segments written so far
pub record KeptOf (ws : List Written) (w : Written) (i : Interval) : Type 0 where
  pub spans : Spans (bounds_of ws) (offset_of ws w.seq) (length w.octets) (tcp.has_fin w.flags) i
  pub below_is : i.below ≡ t_old ws w
  pub window_is : i.window ≡ t_window ws w
  pub end_is : i.end ≡ t_end ws w
