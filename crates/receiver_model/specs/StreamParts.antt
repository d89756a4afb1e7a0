-- The parts that members read of one stream, each from its own offset (this project's profile).
-- `first` has the octets of the stream by offset, `end` the offset of its end, if that is known.
use Rattle.std.specs.Prelude.{◌≡◌, ℕ, ◌+◌, ◌<◌, ◌≤◌, ◌^◌, Bool, true, List, length, ℤ, pos, ◌<ℤ◌, Option, Some, slice_get}
use Rattle.receiver_model.specs.declared.member.Member.{Member}
use Rattle.receiver_model.specs.Delivery.{DeliversInTime, Receiver, beginning}
use Rattle.receiver_model.specs.FamilyAgreement.{Agree, FinAt, IsMember, OctetAt, TellOneStream}
use Rattle.receiver_model.specs.Monitors.{IsNeverFarBehind, MonitorsInTime, StayNearAcks, TakesInOrder}
use Rattle.receiver_model.specs.Streams.{places_from}

-- What was read from the offset `start` on is a part of the stream. Each octet is the stream's at
-- its offset, none is at or past the end, and a reader that has ended has read up to the end.
pub record ReadsPart (first : ℤ → Option ℕ) (end : Option ℤ) (start : ℕ) (stream : List ℕ) (ended : Bool) : Type 0 where
  pub octets : (i octet : ℕ) → slice_get stream i ≡ Some octet → first (pos (start + i)) ≡ Some octet
  pub before : (i : ℕ) (offset : ℤ) → i < length stream → end ≡ Some offset → pos (start + i) <ℤ offset
  pub ends : ended ≡ true → end ≡ Some (pos (start + length stream))

-- this holds for whatever a member delivers, from whichever offset it starts, whichever of the
-- frames reach it in time, how often and in which order, and whichever octets it keeps
abbrev pub EachReadsPart : (hops base : ℕ) (places : List ℤ) (frames : List (List ℕ)) (first : ℤ → Option ℕ) (end : Option ℤ) → Type 0
EachReadsPart hops base places frames first end =
    (member : Member) (start : ℕ) (schedule stream : List ℕ) (ended : Bool) →
    IsMember hops member →
    DeliversInTime places member.distance base start frames schedule stream ended →
    ReadsPart first end start stream ended

-- the octets and FINs of the frames are those of the stream, which has no octet at or past its end
pub record AreOfStream (first : ℤ → Option ℕ) (end : Option ℤ) (places : List ℤ) (frames : List (List ℕ)) : Type 0 where
  pub octets : (offset : ℤ) (octet : ℕ) → OctetAt places frames offset octet → first offset ≡ Some octet
  pub fins : (offset : ℤ) → FinAt places frames offset → end ≡ Some offset
  pub none_past : (offset : ℤ) (octet : ℕ) (last : ℤ) → first offset ≡ Some octet → end ≡ Some last → offset <ℤ last

-- Every member reads a part of the stream that these frames describe.
abbrev pub MembersReadParts : Type 0
MembersReadParts =
    (hops base : ℕ) (places : List ℤ) (frames : List (List ℕ)) (first : ℤ → Option ℕ) (end : Option ℤ) →
    TellOneStream hops base places frames →
    AreOfStream first end places frames →
    EachReadsPart hops base places frames first end

-- two readers have the same octet wherever both have read; none has an octet at or past the offset
-- at which the other has ended; two that have ended did so at one offset
pub record Meet (a_start : ℕ) (a : List ℕ) (a_ended : Bool) (b_start : ℕ) (b : List ℕ) (b_ended : Bool) : Type 0 where
  pub octets : (i j x y : ℕ) → a_start + i ≡ b_start + j → slice_get a i ≡ Some x → slice_get b j ≡ Some y → x ≡ y
  pub first : a_ended ≡ true → (j : ℕ) → j < length b → b_start + j < a_start + length a
  pub second : b_ended ≡ true → (i : ℕ) → i < length a → a_start + i < b_start + length b
  pub both : a_ended ≡ true → b_ended ≡ true → a_start + length a ≡ b_start + length b

-- Any two parts of one stream meet in this way; if both have one start, one is a prefix of the
-- other.
pub record PartsMeet : Type 0 where
  pub meet :
      (first : ℤ → Option ℕ) (end : Option ℤ) (a_start b_start : ℕ) (a b : List ℕ) (a_ended b_ended : Bool) →
      ReadsPart first end a_start a a_ended →
      ReadsPart first end b_start b b_ended →
      Meet a_start a a_ended b_start b b_ended
  pub agree : (start : ℕ) (a b : List ℕ) (a_ended b_ended : Bool) → Meet start a a_ended start b b_ended → Agree a a_ended b b_ended

-- what was read from `start` on is within what a monitor has read from `from` on; if it has ended,
-- so has the monitor, at the same offset
pub record CoversPart (from : ℕ) (seen : List ℕ) (seen_ended : Bool) (start : ℕ) (stream : List ℕ) (ended : Bool) : Type 0 where
  pub within : start + length stream ≤ from + length seen
  pub octets : (i j octet : ℕ) → start + i ≡ from + j → slice_get stream i ≡ Some octet → slice_get seen j ≡ Some octet
  pub whole : ended ≡ true → start + length stream ≡ from + length seen
  pub end : ended ≡ true → seen_ended ≡ true

-- A monitor that hears in time the frames of one stream has read all that any member has read which
-- starts within what the monitor has read.
abbrev pub MonitorsCoverParts : Type 0
MonitorsCoverParts =
    (hops base : ℕ) (places : List ℤ) (frames : List (List ℕ)) →
    TellOneStream hops base places frames →
    (monitor other : Member) (from start : ℕ) (all schedule seen stream : List ℕ) (seen_ended ended : Bool) →
    IsMember hops monitor →
    IsMember hops other →
    MonitorsInTime places monitor.distance base from frames all seen seen_ended →
    DeliversInTime places other.distance base start frames schedule stream ended →
    from ≤ start →
    start ≤ from + length seen →
    CoversPart from seen seen_ended start stream ended

-- Such is a monitor that takes the frames in order, from an offset of at most 2^31 on, and is never
-- far behind what was acknowledged.
abbrev pub InOrderIsInTime : Type 0
InOrderIsInTime =
    (hops base : ℕ) (acks : List ℕ) (places : List ℤ) (frames : List (List ℕ)) (monitor : Member) (start : ℕ) (last : Receiver) →
    TellOneStream hops base places frames →
    StayNearAcks acks places frames →
    start ≤ 2 ^ 31 →
    IsMember hops monitor →
    (takes : TakesInOrder monitor.distance base start frames beginning last) →
    IsNeverFarBehind acks monitor.distance base start frames beginning last takes →
    MonitorsInTime places monitor.distance base start frames (places_from 0 frames) last.stream last.ended
