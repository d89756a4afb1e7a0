-- The frame written for an inbound segment with neither SYN nor RST (this project's profile).
use Rattle.std.specs.Prelude.{◌≡◌, ℕ, ◌+◌, Bool, true, false, List, length}
use Rattle.wire_base.specs.Tcp as tcp
use Rattle.wire_base.specs.Segments.{Written}
use Rattle.era_state.specs.declared.offset.Interval.{Interval}
use Rattle.era_state.specs.declared.warm.Warm.{Warm}
use Rattle.era_state.specs.Offsets.{off}
use Rattle.era_state.specs.ForwardedOctets.{frame_sequence_of}
use Rattle.era_state.specs.KeptIntervals.{Keeps}
use Rattle.era_state.specs.EraFields.{bounds_in}

-- the interval is one that the era computes in this state for a segment of some sequence number and
-- length, with or without FIN
pub record IsGiven (e : Warm) (i : Interval) : Type 0 where
  pub sequence : ℕ
  pub len : ℕ
  pub fin : Bool
  pub keeps : Keeps (bounds_in e) (off e.base e.acked sequence) len fin i

-- the frame of segment `w` after the segments written so far: as many octets as the interval, its
-- FIN, and the sequence number of these
pub record IsFrame (ws : List Written) (w : Written) (i : Interval) (frame : Written) : Type 0 where
  pub inward : frame.inward ≡ true
  pub no_syn : tcp.has_syn frame.flags ≡ false
  pub fin_is : tcp.has_fin frame.flags ≡ i.fin
  pub long : i.lo + length frame.octets ≡ i.hi
  pub sequence_is : frame.seq ≡ frame_sequence_of ws w
