-- A stream as one receiver of the family.
use Rattle.std.specs.Prelude.{◌≡◌, ℕ, ◌+◌, ◌++◌, Bool, true, false, List, [], ◌∷◌, length, ℤ, pos, Option, Some, None, option_map}
use Rattle.wire_base.specs.Segments.{Segment}
use Rattle.receiver_model.specs.declared.policy.Policy.{Policy}
use Rattle.receiver_model.specs.declared.policy.Waiting.{Waiting}
use Rattle.receiver_model.specs.Offsets.{offset_in, Carries, Ends}
use Rattle.receiver_model.specs.Delivery.{Receiver, Step, Delivers}
use Rattle.receiver_model.specs.Policies.{Taken, chosen, waiting_of, waiting_after, octet_after}

-- the state of a stream: `taken` are the segments that it took, in order, and they determine which
-- octets wait; `fin` is the offset of a FIN plus 2^31
pub record StreamState : Type 0 where
  pub policy : Policy
  pub base : ℕ
  pub start : ℕ
  pub taken : List Taken
  pub octets : List ℕ
  pub fin : Option ℕ
  pub ended : Bool

-- a stream that has taken no segment
abbrev pub fresh : Policy → (base start : ℕ) → StreamState
fresh policy base start =
    record { policy = policy; base = base; start = start; taken = []; octets = []; fin = None; ended = false }

-- the waiting octet at an offset, with the ends of the segment that brought it
abbrev pub waiting_at : StreamState → ℤ → Option Waiting
waiting_at stream offset = waiting_after stream.policy stream.base stream.taken offset

-- the offset at which the stream continues
abbrev pub next_of : StreamState → ℕ
next_of stream = stream.start + length stream.octets

-- the offset of a FIN, if one is kept
abbrev pub place_of : Option ℕ → Option ℤ
place_of fin = option_map offset_in fin

-- the stream as a receiver
abbrev pub receiver_of : StreamState → Receiver
receiver_of stream =
    record {
      stream = stream.octets;
      waiting = octet_after stream.policy stream.base stream.taken;
      fin = place_of stream.fin;
      ended = stream.ended;
    }

-- a segment as it is taken when this is the next offset
abbrev pub taken_of : (next : ℕ) → Segment → Taken
taken_of next s = record { next = next; sequence = s.sequence; octets = s.octets }

-- the stream takes a step of the family with this segment, or with none
abbrev pub StepsWith : Option Segment → (before after : StreamState) → Type 0
StepsWith s before after = Step before.base before.start s (receiver_of before) (receiver_of after)

-- a kept offset of a FIN stays, and a new one is kept if there is none
abbrev pub first_fin : Option ℤ → ℤ → ℤ
first_fin None new = new
first_fin (Some old) new = old

-- of the steps that a receiver may take with a segment, the one that the stream's policy selects
pub record Chooses (s : Segment) (before after : StreamState) : Type 0 where
  -- an octet that arrives for an offset is set there, or the waiting one stays
  pub carried :
      (offset : ℤ) (octet : ℕ) →
      Carries before.base (next_of before) (Some s) offset octet →
      waiting_at after offset ≡ chosen before.policy (waiting_at before offset) (Some (waiting_of before.base (taken_of (next_of before) s) octet))
  -- octets that wait elsewhere stay
  pub others :
      (offset : ℤ) →
      ((octet : ℕ) → ¬ Carries before.base (next_of before) (Some s) offset octet) →
      waiting_at after offset ≡ waiting_at before offset
  -- the offset of the first FIN is kept
  pub fin :
      (offset : ℤ) →
      Ends before.base (next_of before) (Some s) offset →
      place_of after.fin ≡ Some (first_fin (place_of before.fin) offset)
  -- the stream is extended as far as octets wait
  pub far : waiting_at after (pos (before.start + length after.octets)) ≡ None
  -- it ends as soon as it may
  pub soon : place_of after.fin ≡ Some (pos (before.start + length after.octets)) → after.ended ≡ true

-- the policy, base and start of the stream are unchanged
pub record IsSameStream (before after : StreamState) : Type 0 where
  pub policy : after.policy ≡ before.policy
  pub base : after.base ≡ before.base
  pub start : after.start ≡ before.start

-- the indices of these frames, each once and in order, from a first number on
abbrev pub places_from : ℕ → List (List ℕ) → List ℕ
places_from place [] = []
places_from place (frame ∷ frames) = place ∷ places_from (place + 1) frames

-- the stream is what a host at this distance makes of these frames, each delivered once and in
-- order
pub record StandsFor (distance : ℕ) (stream : StreamState) (frames : List (List ℕ)) : Type 0 where
  pub delivery : Delivers distance stream.base stream.start frames (places_from 0 frames) stream.octets stream.ended
  pub last_is : delivery.last ≡ receiver_of stream

-- whatever frames the stream represented, it now represents these followed by one more
abbrev pub AddsFrame : List ℕ → (before after : StreamState) → Type 0
AddsFrame frame before after =
    (distance : ℕ) (frames : List (List ℕ)) → StandsFor distance before frames → StandsFor distance after (frames ++ frame ∷ [])
