-- What an era represents, and the transitions of segments.
use Rattle.std.specs.Prelude.{◌≡◌, ℕ, ◌+◌, ◌^◌, ◌<◌, ◌++◌, ◌∷◌, [], length, Bool, true, false, List, Option, Some, None}
use Rattle.wire_base.specs.Tcp as tcp
use Rattle.wire_base.specs.Segments.{Written}
use Rattle.era_state.specs.declared.segment.Seg.{Seg}
use Rattle.era_state.specs.declared.era.Era.{Era}
use Rattle.era_state.specs.declared.era.Era.TheVariants.{Called, Offered, Warm, Closed}
use Rattle.era_state.specs.declared.era.Moved.{Moved}
use Rattle.era_state.specs.declared.era.Moved.TheVariants.{Next, Reopen, Reset}
use Rattle.era_state.specs.Quantities.{base_of, next, iss}
use Rattle.era_state.specs.States.{State, called, offered, warm, closed, state_of}
use Rattle.era_state.specs.Rules.{reopens_outward}
use Rattle.era_state.specs.SilentSegments.{IsSilent}
use Rattle.era_state.specs.SegmentFields.{sent}
use Rattle.era_state.specs.EraFields.{CalledFor, OfferedFor, WarmFor, is_over_in}
use Rattle.era_state.specs.declared.offset.Interval.{Interval}
use Rattle.era_state.specs.declared.warm.Warm as fields
use Rattle.era_state.specs.WrittenFrames.{IsGiven}
use Rattle.era_state.specs.FrameChanges.{WarmWith}

-- every field is the quantity of the list, and the state is the list's
abbrev pub StandsFor : Era → List Written → Type 0
StandsFor (Called e) ws = CalledFor e ws
StandsFor (Offered e) ws = OfferedFor e ws
StandsFor (Warm e) ws = WarmFor e ws × (is_over_in e ≡ false)
StandsFor (Closed e) ws = WarmFor e.last ws

-- an era in the variant Warm does not satisfy the condition of Closed
abbrev pub IsSettled : Era → Type 0
IsSettled (Called e) = Unit {0}
IsSettled (Offered e) = Unit {0}
IsSettled (Warm e) = is_over_in e ≡ false
IsSettled (Closed e) = Unit {0}

-- the state of an era
abbrev pub state_in : Era → State
state_in (Called e) = called
state_in (Offered e) = offered
state_in (Warm e) = warm
state_in (Closed e) = closed

-- its base, or none in a Called era
abbrev pub base_in : Era → Option ℕ
base_in (Called e) = None
base_in (Offered e) = Some e.base
base_in (Warm e) = Some e.base
base_in (Closed e) = Some e.last.base

-- the number of its first outbound SYN
abbrev pub iss_in : Era → Option ℕ
iss_in (Called e) = Some e.iss
iss_in (Offered e) = e.iss
iss_in (Warm e) = e.iss
iss_in (Closed e) = e.last.iss

-- Acked, or 0 before an offset is acknowledged
abbrev pub acked_in : Era → ℕ
acked_in (Called e) = 0
acked_in (Offered e) = 0
acked_in (Warm e) = e.acked
acked_in (Closed e) = e.last.acked

-- the number of offsets with an octet, or 0 before an offset is acknowledged
abbrev pub octets_in : Era → ℕ
octets_in (Called e) = 0
octets_in (Offered e) = 0
octets_in (Warm e) = e.octets
octets_in (Closed e) = e.last.octets

-- the quantities of an era in which an offset is acknowledged
abbrev pub last_in : Era → Option fields.Warm
last_in (Called e) = None
last_in (Offered e) = None
last_in (Warm e) = Some e
last_in (Closed e) = Some e.last

-- an offset is acknowledged, and the era gives this interval to a segment
abbrev pub GivesTo : Era → Interval → Type 0
GivesTo (Called e) i = ⊥
GivesTo (Offered e) i = ⊥
GivesTo (Warm e) i = IsGiven e i
GivesTo (Closed e) i = IsGiven e.last i

-- the quantities of both eras, between which this frame was written
pub record ForwardsIn (i : Interval) (fresh : ℕ) (old new : Era) : Type 0 where
  pub was : fields.Warm
  pub is : fields.Warm
  pub was_last : last_in old ≡ Some was
  pub is_last : last_in new ≡ Some is
  pub with : WarmWith i fresh was is

-- The transition of an outbound segment from an era that represents these segments. RST ends it,
-- and a SYN of another connection reopens it. Otherwise the next era represents the list with the
-- segment, whatever its octets.
abbrev pub MovesTo : List Written → Seg → Moved → Type 0
MovesTo ws s Reset = tcp.has_rst s.flags.0 ≡ true
MovesTo ws s Reopen = (tcp.has_rst s.flags.0 ≡ false) × (reopens_outward ws (sent s []) ≡ true)
MovesTo ws s (Next new) =
    (tcp.has_rst s.flags.0 ≡ false)
    × (reopens_outward ws (sent s []) ≡ false)
    × ((octets : List ℕ) → length octets ≡ s.len → StandsFor new (ws ++ sent s octets ∷ []))

-- the era ends without another
abbrev pub is_reset : Moved → Bool
is_reset Reset = true
is_reset Reopen = false
is_reset (Next new) = false

-- Acked grows by less than 2^31
abbrev pub MovesNear : Era → Moved → Type 0
MovesNear e Reset = Unit {0}
MovesNear e Reopen = Unit {0}
MovesNear e (Next new) = acked_in new < acked_in e + 2 ^ 31

-- the next era, if there is one, does not satisfy the condition of Closed in the variant Warm
abbrev pub MovesSettled : Moved → Type 0
MovesSettled Reset = Unit {0}
MovesSettled Reopen = Unit {0}
MovesSettled (Next new) = IsSettled new

-- the number of offsets with an octet is unchanged
abbrev pub MovesSame : Era → Moved → Type 0
MovesSame e Reset = Unit {0}
MovesSame e Reopen = Unit {0}
MovesSame e (Next new) = octets_in new ≡ octets_in e

-- the next offset of the stream, or none before a base is fixed
abbrev pub NextIs : Option ℕ → List Written → Type 0
NextIs None ws = base_of ws ≡ None
NextIs (Some place) ws = (base : ℕ) × (base_of ws ≡ Some base) × (place ≡ next base ws)

-- the values that the rules read of an era are those of its list
pub record IsOfList (e : Era) (ws : List Written) : Type 0 where
  pub state_is : state_in e ≡ state_of ws
  pub base_is : base_in e ≡ base_of ws
  pub iss_is : iss_in e ≡ iss ws

-- this holds for every era and its list
abbrev pub StatesAreTheLists : Type 0
StatesAreTheLists = (e : Era) (ws : List Written) → StandsFor e ws → IsOfList e ws

-- an era also represents its list with a silent inward segment
abbrev pub SilenceStands : Type 0
SilenceStands = (e : Era) (ws : List Written) (w : Written) → IsSilent w → StandsFor e ws → StandsFor e (ws ++ w ∷ [])
