-- How one more segment changes the quantities of an era, and two of them also as maxima over the
-- moments of the list.
use Rattle.std.specs.Prelude.{◌≡◌, ℕ, ◌+◌, ◌-◌, ◌^◌, ◌≤◌, ◌<◌, ◌++◌, ◌∷◌, [], ◌&&◌, true, List, length, ℤ, pos, ◌+ℤ◌, ◌≤ℤ◌, Some, None, int_le, int_lt, slice_get, if◌then◌else◌}
use Rattle.std.specs.Option.{option_or}
use Rattle.wire_base.specs.Segments.{Written}
use Rattle.era_state.specs.declared.offset.Interval.{Interval}
use Rattle.era_state.specs.declared.warm.Warm.{Warm}
use Rattle.era_state.specs.ListElements.{greatest, Moment, moments}
use Rattle.era_state.specs.Offsets.{nat_of, number_in}
use Rattle.era_state.specs.SegmentMarks.{ack_of, edge_place, octet_at, fin_place}
use Rattle.era_state.specs.Quantities.{base_at, acked, edge, shift, top, first, end_of, octet_count}
use Rattle.era_state.specs.ForwardedOctets.{offset_of}
use Rattle.era_state.specs.KeptIntervals.{KeptOf}
use Rattle.era_state.specs.WrittenFrames.{IsFrame}
use Rattle.era_state.specs.EraFields.{WarmFor}

-- Acked never falls
abbrev pub AckedNeverFalls : Type 0
AckedNeverFalls = (base : ℕ) (ws : List Written) (w : Written) → acked base ws ≤ acked base (ws ++ w ∷ [])

-- Acked grows by less than 2^31 in one segment
abbrev pub AckedGrowsNear : Type 0
AckedGrowsNear = (base : ℕ) (ws : List Written) (w : Written) → acked base (ws ++ w ∷ []) < acked base ws + 2 ^ 31

-- the first octet at an offset stays; if there is none, the next segment's octet is the first
abbrev pub FirstStays : Type 0
FirstStays = (base : ℕ) (ws : List Written) (w : Written) (offset : ℤ) → first base (ws ++ w ∷ []) offset ≡ option_or (first base ws offset) (octet_at base (acked base ws) offset w)

-- no octet is at or past Top, so there are at most Top octets
pub record OctetsLieBelowTop (base : ℕ) (ws : List Written) : Type 0 where
  pub none_past : (place : ℕ) → top base ws ≤ place → first base ws (pos place) ≡ None
  pub most : octet_count base ws ≤ top base ws

-- this holds for every list
abbrev pub OctetsAreBelowTop : Type 0
OctetsAreBelowTop = (base : ℕ) (ws : List Written) → OctetsLieBelowTop base ws

-- an interval is at or above Acked, and inside its segment, the window plus one, and the end
pub record Fits (ws : List Written) (w : Written) (i : Interval) : Type 0 where
  pub order : i.lo ≤ i.hi
  pub above : acked (base_at ws) ws ≤ i.lo
  pub begins : i.lo < i.hi → offset_of ws w.seq ≤ℤ pos i.lo
  pub ends : i.lo < i.hi → pos i.hi ≤ℤ (offset_of ws w.seq +ℤ pos (length w.octets))
  pub window : i.lo < i.hi → i.hi ≤ edge (base_at ws) ws + 1
  pub end : (place : ℕ) → end_of (base_at ws) ws ≡ Some (pos place) → i.lo < i.hi → i.hi ≤ place

-- this holds for every kept interval
abbrev pub IntervalsFit : Type 0
IntervalsFit = (ws : List Written) (w : Written) (i : Interval) → KeptOf ws w i → Fits ws w i

-- kept octets are at offsets from Acked to below Acked + 2^30 + 1 (no window extends further), so
-- their numbers are read as these offsets
abbrev pub KeptOctetsAreNear : Type 0
KeptOctetsAreNear = (e : Warm) (ws : List Written) (w : Written) (i : Interval) → WarmFor e ws → KeptOf ws w i → i.lo < i.hi → (acked (base_at ws) ws ≤ i.lo) × (i.hi ≤ acked (base_at ws) ws + 2 ^ 30 + 1)

-- a frame has octets from `lo` to below `hi`, and nowhere else
abbrev pub FrameOctets : Type 0
FrameOctets = (e : Warm) (ws : List Written) (w : Written) (i : Interval) (frame : Written) → WarmFor e ws → KeptOf ws w i → IsFrame ws w i frame → (offset : ℤ) →
    octet_at (base_at ws) (acked (base_at ws) ws) offset frame ≡ (if int_le (pos i.lo) offset && int_lt offset (pos i.hi) then slice_get frame.octets (nat_of offset - i.lo) else None)

-- a frame's FIN is at the end of the list with the frame
abbrev pub FinStandsAtEnd : Type 0
FinStandsAtEnd = (e : Warm) (ws : List Written) (w : Written) (i : Interval) (frame : Written) → WarmFor e ws → KeptOf ws w i → IsFrame ws w i frame → i.fin ≡ true →
    end_of (base_at ws) (ws ++ frame ∷ []) ≡ fin_place (base_at ws) (acked (base_at ws) ws) frame

-- Acked is the greatest acknowledged offset, each read relative to Acked before it
abbrev pub AckedIsGreatest : Type 0
AckedIsGreatest = (base : ℕ) (ws : List Written) → acked base ws ≡ greatest (λ (m : Moment Written). number_in (ack_of base (acked base m.before) m.now)) (moments ws)

-- the shift before a segment and the shift with it give the same Edge
abbrev pub ShiftIsOfTheMoment : Type 0
ShiftIsOfTheMoment = (base : ℕ) (ws : List Written) → edge base ws ≡ greatest (λ (m : Moment Written). edge_place (ack_of base (acked base m.before) m.now) (shift (m.before ++ m.now ∷ [])) m.now) (moments ws)
