-- The states of all eras of a report (this project's profile).
use Rattle.std.specs.Prelude.{◌≡◌, ℕ, ◌≢◌, List, [], ◌∷◌, ◌++◌, ◌^◌, ◌<◌, length, Option, Some, None, IsSome, nat_eq}
use Rattle.std.specs.declared.hash.FoldHasher.{FoldHasher}
use Rattle.std.specs.declared.hash.BuildHasherDefault.{BuildHasherDefault}
use Rattle.indexmap.specs.IndexMap.{IndexMap, get}
use Rattle.wire_base.specs.Segments.{Written}
use Rattle.era_agreement.specs.SentPackets.{Sent, written_in}
use Rattle.run_audit.specs.declared.answer.Reason.{Reason}
use Rattle.run_audit.specs.declared.ledger.Ledger.{Ledger}
use Rattle.run_audit.specs.OwnedFrames.{Frame, sent}
use Rattle.run_audit.specs.FrameFaults.{IsFaultless, IsFirstReason}
use Rattle.run_audit.specs.working.EraLedgers.{StandsFor, stream_reason}

-- the state of each era, by its number
abbrev pub Eras : Type 0
Eras = IndexMap ℕ Ledger (BuildHasherDefault FoldHasher)

-- the state of an era represents these segments; if there is no state, there are no segments
abbrev pub EraStands : Option Ledger → List Written → Type 0
EraStands None ws = ws ≡ []
EraStands (Some l) ws = StandsFor l ws

-- the state of each era represents the segments written in it
abbrev pub AllStandFor : Eras → List Sent → Type 0
AllStandFor eras sent = (era : ℕ) → EraStands (get nat_eq eras era) (written_in era sent)

-- the acknowledged offset of an era leaves room for one more segment
abbrev pub EraHasRoom : Option Ledger → Type 0
EraHasRoom None = Unit {0}
EraHasRoom (Some l) = l.acked < 2 ^ 63

-- one era has a state, which represents these segments; the states of the others are unchanged
pub record Takes (old new : Eras) (era : ℕ) (ws : List Written) : Type 0 where
  pub stands : EraStands (get nat_eq new era) ws
  pub there : IsSome (get nat_eq new era)
  pub others : (other : ℕ) → other ≢ era → get nat_eq new other ≡ get nat_eq old other

-- this is the fault of the segment; if it has none, it was added to its era
abbrev pub IsTaken : (old new : Eras) → (era : ℕ) → List Written → Written → Option Reason → Type 0
IsTaken old new era ws w None = (stream_reason ws w ≡ None) × Takes old new era (ws ++ w ∷ [])
IsTaken old new era ws w (Some reason) = stream_reason ws w ≡ Some reason

-- every era that had a state has one
abbrev pub AreThere : (old new : Eras) → Type 0
AreThere old new = (era : ℕ) → IsSome (get nat_eq old era) → IsSome (get nat_eq new era)

-- the frame has no fault after these, and the states of the eras represent the frames with it
pub record IsNoted (hops : ℕ) (frames : List Frame) (f : Frame) (old new : Eras) : Type 0 where
  pub faultless : IsFaultless hops (sent frames) f
  pub stand : AllStandFor new (sent (f ∷ frames))
  pub there : AreThere old new

-- this is the fault of a frame after others; if it has none, it was added to its era
abbrev pub IsJudged : (hops : ℕ) → List Frame → Frame → (old new : Eras) → Option Reason → Type 0
IsJudged hops frames f old new None = IsNoted hops frames f old new
IsJudged hops frames f old new (Some reason) = IsFirstReason hops (sent frames) f reason

-- the states of the eras represent fewer than 2^32 frames
pub record StandsForFew (eras : Eras) : Type 0 where
  pub frames : List Frame
  pub stand : AllStandFor eras (sent frames)
  pub few : length frames < 2 ^ 32
