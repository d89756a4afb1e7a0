-- What later segments preserve of written ones, and what holds for emitted ones.
use Rattle.std.specs.Prelude.{◌≡◌, ◌↔◌, ℕ, ◌+◌, ◌%◌, ◌^◌, ◌<◌, ◌<ℤ◌, ◌≤ℤ◌, ◌++◌, ◌∷◌, [], true, false, List, length, ℤ, pos, ◌+ℤ◌, Some, None, slice_get}
use Rattle.wire_base.specs.Tcp as tcp
use Rattle.wire_base.specs.Segments.{Written}
use Rattle.era_state.specs.declared.era.Era.{Era}
use Rattle.era_state.specs.Offsets.{off}
use Rattle.era_state.specs.Quantities.{base_of, base_at, acked, top, first, end_of}
use Rattle.era_state.specs.States.{is_acknowledged}
use Rattle.era_state.specs.Eras.{StandsFor, state_in}
use Rattle.era_state.specs.Emission.{IsEmitted, AreEmitted}

-- a fixed base, the first octet at an offset and a known end are preserved, whatever is written
-- later
pub record Remains (base : ℕ) (ws later : List Written) : Type 0 where
  pub base_is : (number : ℕ) → base_of ws ≡ Some number → base_of (ws ++ later) ≡ Some number
  pub octet_is : (offset : ℤ) (octet : ℕ) → first base ws offset ≡ Some octet → first base (ws ++ later) offset ≡ Some octet
  pub end_is : (place : ℤ) → end_of base ws ≡ Some place → end_of base (ws ++ later) ≡ Some place

-- this holds for all lists
abbrev pub WrittenRemains : Type 0
WrittenRemains = (base : ℕ) (ws later : List Written) → Remains base ws later

-- an inward segment acknowledges nothing
abbrev pub InwardsAcknowledgeNothing : Type 0
InwardsAcknowledgeNothing = (base : ℕ) (ws : List Written) (w : Written) → w.inward ≡ true → acked base (ws ++ w ∷ []) ≡ acked base ws

-- before an offset is acknowledged, no offset has an octet
abbrev pub UnacknowledgedHasNoOctet : Type 0
UnacknowledgedHasNoOctet = (e : Era) (ws : List Written) → StandsFor e ws → is_acknowledged (state_in e) ≡ false → (place : ℕ) → first (base_at ws) ws (pos place) ≡ None

-- a list is emitted exactly if its first part is, and its second part is after the first
abbrev pub EmittedJoins : Type 0
EmittedJoins = (before xs ys : List Written) → AreEmitted before (xs ++ ys) ↔ (AreEmitted before xs × AreEmitted (before ++ xs) ys)

-- the base is this one, if one is fixed
abbrev pub HasNoOtherBase : ℕ → List Written → Type 0
HasNoOtherBase base ws = (number : ℕ) → base_of ws ≡ Some number → number ≡ base

-- with the segment at the offset of its sequence number, each of its octets is the first at its
-- offset, its FIN is the end, and its SYN has the number before the base
pub record IsTold (base : ℕ) (ws : List Written) (w : Written) : Type 0 where
  pub octets : (index octet : ℕ) → slice_get w.octets index ≡ Some octet → first base (ws ++ w ∷ []) (off base (acked base ws) w.seq +ℤ pos index) ≡ Some octet
  pub fin : tcp.has_fin w.flags ≡ true → end_of base (ws ++ w ∷ []) ≡ Some (off base (acked base ws) w.seq +ℤ pos (length w.octets))
  pub syn : tcp.has_syn w.flags ≡ true → (w.seq + 1) % 2 ^ 32 ≡ base

-- this holds for each inward segment that is emitted after emitted ones
abbrev pub EmittedIsTold : Type 0
EmittedIsTold = (base : ℕ) (ws : List Written) (w : Written) → HasNoOtherBase base (ws ++ w ∷ []) → AreEmitted [] ws → IsEmitted ws w → IsTold base ws w

-- an octet of emitted segments is at an offset from 0 to below Top, and below the end if it is
-- known
pub record OctetsArePlaces (base : ℕ) (ws : List Written) : Type 0 where
  pub below_top : (offset : ℤ) (octet : ℕ) → first base ws offset ≡ Some octet → (place : ℕ) × (offset ≡ pos place) × (place < top base ws)
  pub below_end : (offset end : ℤ) (octet : ℕ) → first base ws offset ≡ Some octet → end_of base ws ≡ Some end → offset <ℤ end

-- this holds for all emitted segments after a base is fixed
abbrev pub EmittedOctetsArePlaces : Type 0
EmittedOctetsArePlaces = (base : ℕ) (ws : List Written) → base_of ws ≡ Some base → AreEmitted [] ws → OctetsArePlaces base ws

-- before a base is fixed, there is no octet
abbrev pub UnbasedHasNoOctet : Type 0
UnbasedHasNoOctet = (base : ℕ) (ws : List Written) → base_of ws ≡ None → AreEmitted [] ws → (offset : ℤ) → first base ws offset ≡ None

-- An octet of the segment is at Acked or up to 2^30 past it. Its FIN is at an offset of the stream,
-- at most 2^30 past Acked; a FIN that is written again may be below Acked.
pub record IsNearAcked (base : ℕ) (ws : List Written) (w : Written) : Type 0 where
  pub octets :
      (index : ℕ) → index < length w.octets →
      (pos (acked base ws) ≤ℤ (off base (acked base ws) w.seq +ℤ pos index)) × ((off base (acked base ws) w.seq +ℤ pos index) ≤ℤ pos (acked base ws + 2 ^ 30))
  pub fin :
      tcp.has_fin w.flags ≡ true →
      (pos 0 ≤ℤ (off base (acked base ws) w.seq +ℤ pos (length w.octets))) × ((off base (acked base ws) w.seq +ℤ pos (length w.octets)) ≤ℤ pos (acked base ws + 2 ^ 30))

-- this holds for each inward segment that is emitted after emitted ones
abbrev pub EmittedIsNear : Type 0
EmittedIsNear = (base : ℕ) (ws : List Written) (w : Written) → HasNoOtherBase base (ws ++ w ∷ []) → AreEmitted [] ws → IsEmitted ws w → IsNearAcked base ws w
