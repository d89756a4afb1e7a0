-- The receiver family (this project's profile): every receiver that puts octets at their offsets,
-- whatever it keeps, drops or waits for. The family has no window, policy or buffer, so that each
-- real receiver is a special case.
use Rattle.std.specs.Prelude.{◌≡◌, ℕ, ◌+◌, ◌<◌, ◌⊎◌, Bool, true, false, IsTrue, List, [], ◌∷◌, ◌++◌, length, ℤ, pos, ◌+ℤ◌, Option, Some, None, slice_get}
use Rattle.wire_base.specs.Plain.{Plain}
use Rattle.wire_base.specs.Segments.{Segment, segment_of}
use Rattle.wire_base.specs.Tcp as tcp
use Rattle.receiver_model.specs.Offsets.{IsNear, Carries, Ends}

-- A host behind `distance` routers reads a packet that is plain there by its fields: as a segment,
-- or as none if it is not TCP. It may read any other packet as any segment, or as none.
abbrev pub Reads : (distance : ℕ) → List ℕ → Option Segment → Type 0
Reads distance p s = Plain distance p → s ≡ segment_of p

-- the octets given to the reader, the waiting octets by offset, the offset of a FIN if one is kept,
-- and whether the stream has ended
pub record Receiver : Type 0 where
  pub stream : List ℕ
  pub waiting : ℤ → Option ℕ
  pub fin : Option ℤ
  pub ended : Bool

-- nothing given, waiting or kept
abbrev pub beginning : Receiver
beginning = record { stream = []; waiting = λ _. None; fin = None; ended = false }

-- these octets wait one after another, from this offset on
abbrev pub WaitFrom : (ℤ → Option ℕ) → ℕ → List ℕ → Type 0
WaitFrom waiting offset [] = Unit {0}
WaitFrom waiting offset (x ∷ octets) = (waiting (pos offset) ≡ Some x) × WaitFrom waiting (offset + 1) octets

-- a stream whose first octet is at the offset `start` is extended by waiting octets, each at the
-- offset after the last one
pub record Extends (waiting : ℤ → Option ℕ) (start : ℕ) (before after : List ℕ) : Type 0 where
  pub more : List ℕ
  pub joined : after ≡ before ++ more
  pub waited : WaitFrom waiting (start + length before) more

-- a step of some receiver with a segment, or with none; numbers represent the offsets within 2^31
-- of the next offset of the stream
pub record Step (base start : ℕ) (s : Option Segment) (before after : Receiver) : Type 0 where
  -- at each offset independently, the waiting octet is unchanged or becomes the segment's octet
  pub octets :
      (offset : ℤ) →
      (after.waiting offset ≡ before.waiting offset)
      ⊎ ((octet : ℕ) × Carries base (start + length before.stream) s offset octet × (after.waiting offset ≡ Some octet))
  -- the kept offset of a FIN is unchanged, or becomes the offset of the segment's FIN
  pub fin : (after.fin ≡ before.fin) ⊎ ((offset : ℤ) × Ends base (start + length before.stream) s offset × (after.fin ≡ Some offset))
  -- then the stream may be extended
  pub stream : Extends after.waiting start before.stream after.stream
  -- then it may end, if the kept offset of a FIN is the next one
  pub ended : (after.ended ≡ before.ended) ⊎ ((after.ended ≡ true) × (after.fin ≡ Some (pos (start + length after.stream))))

-- a host at this distance reads the frame with this index, or drops it
pub record Hears (distance base start : ℕ) (frames : List (List ℕ)) (place : ℕ) (before after : Receiver) : Type 0 where
  pub frame : List ℕ
  pub stands : slice_get frames place ≡ Some frame
  pub segment : Option Segment
  pub reads : (segment ≡ None) ⊎ Reads distance frame segment
  pub step : Step base start segment before after

-- a host hears the frames of a schedule one after another; a schedule has indices into `frames`, in
-- any order, with repeats and omissions
abbrev pub Run : (distance base start : ℕ) → List (List ℕ) → Receiver → List ℕ → Receiver → Type 0
Run distance base start frames before [] after = after ≡ before
Run distance base start frames before (place ∷ schedule) after =
    (mid : Receiver) × Hears distance base start frames place before mid × Run distance base start frames mid schedule after

-- a host at this distance may deliver this stream from the frames of the schedule, and `ended` says
-- whether it has ended
pub record Delivers (distance base start : ℕ) (frames : List (List ℕ)) (schedule stream : List ℕ) (ended : Bool) : Type 0 where
  pub last : Receiver
  pub run : Run distance base start frames beginning schedule last
  pub stream_is : last.stream ≡ stream
  pub ended_is : last.ended ≡ ended

-- a segment whose first octet is at the offset `place`: its octets and its FIN are within 2^31 of
-- the next offset
pub record InTime (next : ℕ) (place : ℤ) (s : Segment) : Type 0 where
  pub octets : (i : ℕ) → i < length s.octets → IsNear next (place +ℤ pos i)
  pub fin : IsTrue (tcp.has_fin s.flags) → IsNear next (place +ℤ pos (length s.octets))

-- each frame of a run arrives in time; `places` has for each frame the offset of its first octet
abbrev pub IsTimely : (places : List ℤ) (distance base start : ℕ) (frames : List (List ℕ)) (before : Receiver) (schedule : List ℕ) (after : Receiver) → Run distance base start frames before schedule after → Type 0
IsTimely places distance base start frames before [] after run = Unit {0}
IsTimely places distance base start frames before (number ∷ schedule) after run =
    ((frame : List ℕ) (s : Segment) (place : ℤ) → slice_get frames number ≡ Some frame → segment_of frame ≡ Some s → slice_get places number ≡ Some place → InTime (start + length before.stream) place s)
    × IsTimely places distance base start frames run.0 schedule after run.2

-- a delivery that is timely for these places
pub record DeliversInTime (places : List ℤ) (distance base start : ℕ) (frames : List (List ℕ)) (schedule stream : List ℕ) (ended : Bool) : Type 0 where
  pub delivery : Delivers distance base start frames schedule stream ended
  pub timely : IsTimely places distance base start frames beginning schedule delivery.last delivery.run
