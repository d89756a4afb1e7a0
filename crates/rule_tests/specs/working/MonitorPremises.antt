-- What becomes of a monitor that takes the frames in order if one premise is left out.
use Rattle.std.specs.Prelude.{◌≡◌, ℕ, ◌≤◌, ◌^◌, Bool, List, [], ◌∷◌, ℤ, Option, All, Contains}
use Rattle.wire_base.specs.Segments.{Segment}
use Rattle.receiver_model.specs.declared.member.Member.{Member}
use Rattle.receiver_model.specs.Delivery.{Receiver, Reads, Step, Delivers, beginning}
use Rattle.receiver_model.specs.FamilyAgreement.{IsMember, TellOneStream}
use Rattle.receiver_model.specs.Monitors.{Keeps, HasDeliveredAll, MonitorsInOrder, Covers, CoversEach, StayNearAcks}

-- this holds for all frames that describe one stream and whose octets and FINs are near what was
-- acknowledged before them
abbrev pub OfOneStream : ((hops base : ℕ) (places : List ℤ) (frames : List (List ℕ)) → Type 0) → Type 0
OfOneStream Holds =
    (hops base : ℕ) (acks : List ℕ) (places : List ℤ) (frames : List (List ℕ)) →
    TellOneStream hops base places frames →
    StayNearAcks acks places frames →
    Holds hops base places frames

-- a host takes these frames one after another, each in this way
abbrev pub TakesBy :
    (way : (frame : List ℕ) (segment : Option Segment) (before after : Receiver) → Type 0) (base start : ℕ) →
    List (List ℕ) →
    (before after : Receiver) →
    Type 0
TakesBy way base start [] before after = after ≡ before
TakesBy way base start (frame ∷ frames) before after =
    (mid : Receiver)
    × (segment : Option Segment)
    × Step base start segment before mid
    × way frame segment before mid
    × TakesBy way base start frames mid after

-- a monitor takes some of the frames
abbrev pub MissesNothingUnheard : (hops base : ℕ) (places : List ℤ) (frames : List (List ℕ)) → Type 0
MissesNothingUnheard hops base places frames =
    (monitor : Member) (start : ℕ) (some : List (List ℕ)) (seen : List ℕ) (ended : Bool) →
    start ≤ 2 ^ 31 →
    IsMember hops monitor →
    All (Contains frames) some →
    MonitorsInOrder monitor.distance base start some seen ended →
    CoversEach hops base places frames start seen ended

-- it takes each, and gives all that it can, but need not keep what is new
abbrev pub MissesNothingUnkept : (hops base : ℕ) (places : List ℤ) (frames : List (List ℕ)) → Type 0
MissesNothingUnkept hops base places frames =
    (monitor : Member) (start : ℕ) (last : Receiver) →
    start ≤ 2 ^ 31 →
    IsMember hops monitor →
    TakesBy (λ frame segment before after. Reads monitor.distance frame segment × HasDeliveredAll start after) base start frames beginning last →
    CoversEach hops base places frames start last.stream last.ended

-- it takes each, and keeps what is new, but need not give all that it can
abbrev pub MissesNothingUngiven : (hops base : ℕ) (places : List ℤ) (frames : List (List ℕ)) → Type 0
MissesNothingUngiven hops base places frames =
    (monitor : Member) (start : ℕ) (last : Receiver) →
    start ≤ 2 ^ 31 →
    IsMember hops monitor →
    TakesBy (λ frame segment before after. Keeps monitor.distance base start frame segment before after) base start frames beginning last →
    CoversEach hops base places frames start last.stream last.ended

-- others start at another offset
abbrev pub MissesNothingElsewhere : (hops base : ℕ) (places : List ℤ) (frames : List (List ℕ)) → Type 0
MissesNothingElsewhere hops base places frames =
    (monitor : Member) (start other : ℕ) (seen : List ℕ) (ended : Bool) →
    start ≤ 2 ^ 31 →
    other ≤ 2 ^ 31 →
    IsMember hops monitor →
    MonitorsInOrder monitor.distance base start frames seen ended →
    CoversEach hops base places frames other seen ended

-- frames reach the others at any time
abbrev pub MissesNothingLate : (hops base : ℕ) (places : List ℤ) (frames : List (List ℕ)) → Type 0
MissesNothingLate hops base places frames =
    (monitor other : Member) (start : ℕ) (schedule seen stream : List ℕ) (seen_ended ended : Bool) →
    start ≤ 2 ^ 31 →
    IsMember hops monitor →
    IsMember hops other →
    MonitorsInOrder monitor.distance base start frames seen seen_ended →
    Delivers other.distance base start frames schedule stream ended →
    Covers seen seen_ended stream ended

-- Each premise is needed: without it some member reads what a monitor does not.
pub record EachPremiseIsNeeded : Type 0 where
  pub hears : ¬ OfOneStream MissesNothingUnheard
  pub keeps : ¬ OfOneStream MissesNothingUnkept
  pub gives : ¬ OfOneStream MissesNothingUngiven
  pub starts : ¬ OfOneStream MissesNothingElsewhere
  pub in_time : ¬ OfOneStream MissesNothingLate
