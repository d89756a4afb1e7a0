-- Which segments may be written in an era, each after those before it (this project's profile).
-- `ws` are the segments of the era that were written so far.
use Rattle.std.specs.Prelude.{◌≡◌, ℕ, ◌+◌, ◌%◌, ◌^◌, ◌<◌, ◌⊎◌, true, false, List, [], ◌∷◌, ◌++◌, pos, Some, slice_get}
use Rattle.wire_base.specs.Segments.{Written}
use Rattle.wire_base.specs.Tcp as tcp
use Rattle.era_state.specs.declared.offset.Interval.{Interval}
use Rattle.era_state.specs.Quantities.{base_of, first}
use Rattle.era_state.specs.KeptIntervals.{KeptOf}
use Rattle.era_state.specs.WrittenFrames.{IsFrame}

-- an outbound segment, whose window has 16 bits
pub record IsOutward (w : Written) : Type 0 where
  pub outward : w.inward ≡ false
  pub window : w.window < 2 ^ 16

-- an inward segment without octets and FIN; a SYN has the sequence number before the base of the
-- list with it
pub record IsBare (ws : List Written) (w : Written) : Type 0 where
  pub inward : w.inward ≡ true
  pub no_fin : tcp.has_fin w.flags ≡ false
  pub no_octets : w.octets ≡ []
  pub syn : tcp.has_syn w.flags ≡ true → base_of (ws ++ w ∷ []) ≡ Some ((w.seq + 1) % 2 ^ 32)

-- The frame of an inbound segment `came` after a base is fixed. It has the offset, length and FIN
-- of the kept interval, and each of its octets equals the first octet at its offset, if there is
-- one.
pub record IsKeptFrame (ws : List Written) (w : Written) : Type 0 where
  pub base : ℕ
  pub based : base_of ws ≡ Some base
  pub came : Written
  pub interval : Interval
  pub kept : KeptOf ws came interval
  pub framed : IsFrame ws came interval w
  pub stays : (index octet other : ℕ) → slice_get w.octets index ≡ Some octet → first base ws (pos (interval.lo + index)) ≡ Some other → octet ≡ other

-- an inward segment that the bridge may write
abbrev pub IsEmitted : List Written → Written → Type 0
IsEmitted ws w = IsBare ws w ⊎ IsKeptFrame ws w

-- each of these segments, written in order after `before`, is outbound or emitted
abbrev pub AreEmitted : (before : List Written) → List Written → Type 0
AreEmitted before [] = Unit {0}
AreEmitted before (w ∷ ws) = (IsOutward w ⊎ IsEmitted before w) × AreEmitted (before ++ w ∷ []) ws
