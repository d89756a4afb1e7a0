-- Four streams of one connection side by side, one for each policy (this project's profile).
use Rattle.std.specs.Prelude.{◌≡◌, ℕ, ◌++◌, List, ◌∷◌, [], ℤ}
use Rattle.wire_base.specs.Segments.{segment_of, fields_of}
use Rattle.receiver_model.specs.declared.policy.Policy.{Policy}
use Rattle.receiver_model.specs.declared.policy.Policy.TheVariants.{First, Newest, Left, Right}
use Rattle.receiver_model.specs.FamilyAgreement.{Agree}
use Rattle.receiver_model.specs.Delivery.{DeliversInTime}
use Rattle.receiver_model.specs.Streams.{StreamState, Chooses, IsSameStream, StandsFor, StepsWith, fresh, next_of, places_from, taken_of}

-- the states of the four streams
pub record FamilyState : Type 0 where
  pub first : StreamState
  pub newest : StreamState
  pub left : StreamState
  pub right : StreamState

-- the stream of a policy
abbrev pub stream_of : FamilyState → Policy → StreamState
stream_of family First = family.first
stream_of family Newest = family.newest
stream_of family Left = family.left
stream_of family Right = family.right

-- four streams that have taken no segment
abbrev pub fresh_family : (base start : ℕ) → FamilyState
fresh_family base start =
    record { first = fresh First base start; newest = fresh Newest base start; left = fresh Left base start; right = fresh Right base start }

-- a stream takes the frame by a step of the family, and by the choice of its policy
pub record TakesFrame (frame : List ℕ) (before after : StreamState) : Type 0 where
  pub same : IsSameStream before after
  pub step : StepsWith (segment_of frame) before after
  pub choice : Chooses (fields_of frame) before after
  pub taken : after.taken ≡ before.taken ++ taken_of (next_of before) (fields_of frame) ∷ []

-- each of the four does so
pub record EachTakes (frame : List ℕ) (before after : FamilyState) : Type 0 where
  pub first : TakesFrame frame before.first after.first
  pub newest : TakesFrame frame before.newest after.newest
  pub left : TakesFrame frame before.left after.left
  pub right : TakesFrame frame before.right after.right

-- the stream with this policy, base and start is what a host at this distance makes of these
-- frames, each delivered once and in order
pub record StandsAs (policy : Policy) (distance base start : ℕ) (stream : StreamState) (frames : List (List ℕ)) : Type 0 where
  pub has_policy : stream.policy ≡ policy
  pub has_base : stream.base ≡ base
  pub has_start : stream.start ≡ start
  pub stands : StandsFor distance stream frames

-- this holds for each of the four
pub record AllStandFor (distance base start : ℕ) (family : FamilyState) (frames : List (List ℕ)) : Type 0 where
  pub first : StandsAs First distance base start family.first frames
  pub newest : StandsAs Newest distance base start family.newest frames
  pub left : StandsAs Left distance base start family.left frames
  pub right : StandsAs Right distance base start family.right frames

-- the frames arrive at a stream in order, and each in time if its first octet is at its place
abbrev pub ComeInTime : (places : List ℤ) (distance base start : ℕ) (frames : List (List ℕ)) → StreamState → Type 0
ComeInTime places distance base start frames stream = DeliversInTime places distance base start frames (places_from 0 frames) stream.octets stream.ended

-- they arrive so at each of the four
pub record AllInTime (places : List ℤ) (distance base start : ℕ) (frames : List (List ℕ)) (family : FamilyState) : Type 0 where
  pub first : ComeInTime places distance base start frames family.first
  pub newest : ComeInTime places distance base start frames family.newest
  pub left : ComeInTime places distance base start frames family.left
  pub right : ComeInTime places distance base start frames family.right

-- two streams agree in their octets and their ends
abbrev pub StreamsAgree : StreamState → StreamState → Type 0
StreamsAgree a b = Agree a.octets a.ended b.octets b.ended

-- each two of the four agree
pub record EachTwoAgree (family : FamilyState) : Type 0 where
  pub first_newest : StreamsAgree family.first family.newest
  pub first_left : StreamsAgree family.first family.left
  pub first_right : StreamsAgree family.first family.right
  pub newest_left : StreamsAgree family.newest family.left
  pub newest_right : StreamsAgree family.newest family.right
  pub left_right : StreamsAgree family.left family.right
