-- A capture and a report without a fault make receivers agree, whoever wrote them; and by which
-- base their segments are read.
use Rattle.std.specs.Prelude.{◌≡◌, ℕ, true, List, [], ◌∷◌, map, None}
use Rattle.wire_base.specs.Segments.{Written}
use Rattle.era_state.specs.Quantities.{base_of, acked}
use Rattle.era_agreement.specs.SentPackets.{written_in}
use Rattle.era_agreement.specs.Agreement.{Agree, MissesNothingInTime, ReadsOneStream}
use Rattle.run_audit.specs.OwnedFrames.{Frame, is_inward, sent}
use Rattle.run_audit.specs.FirstFault.{AreFaultless}

-- In each era any two receivers of the family behind at most `hops` routers agree on the frames
-- that went inwards, each at its offset.
abbrev pub FaultlessAgrees : Type 0
FaultlessAgrees = (hops : ℕ) (frames : List Frame) → AreFaultless hops frames → Agree hops (sent frames)

-- In each era whose base is fixed every receiver reads a part of one stream of these frames, from
-- whichever offset it starts.
abbrev pub FaultlessReadsOneStream : Type 0
FaultlessReadsOneStream = (hops : ℕ) (frames : List Frame) → AreFaultless hops frames → ReadsOneStream hops (sent frames)

-- Before the first of these frames and after each, a monitor that heard those so far in time misses
-- nothing.
abbrev pub AlwaysMissesNothing : (hops : ℕ) → List Frame → Type 0
AlwaysMissesNothing hops [] = MissesNothingInTime hops (sent [])
AlwaysMissesNothing hops (f ∷ older) = AlwaysMissesNothing hops older × MissesNothingInTime hops (sent (f ∷ older))

-- this holds for frames without a fault
abbrev pub FaultlessMissesNothing : Type 0
FaultlessMissesNothing = (hops : ℕ) (frames : List Frame) → AreFaultless hops frames → AlwaysMissesNothing hops frames

-- the segments of all frames of an era, counted or not
abbrev pub all_written : (era : ℕ) → List Frame → List Written
all_written era frames = written_in era (map (λ (f : Frame). record { inward = is_inward f.side; era = f.era; written = true; packets = f.packet ∷ [] }) frames)

-- the counted segments have the base of all; and if no base is fixed, they acknowledge nothing
pub record IsReadFromBase (counted all : List Written) : Type 0 where
  pub base_is : base_of counted ≡ base_of all
  pub unbased : base_of counted ≡ None → (base : ℕ) → acked base counted ≡ 0

-- this holds in each era
abbrev pub EachIsReadFromBase : Type 0
EachIsReadFromBase = (era : ℕ) (frames : List Frame) → IsReadFromBase (written_in era (sent frames)) (all_written era frames)
