-- Frames whose segments are emitted have no fault (this project's profile). Frames are a list,
-- newest first.
use Rattle.std.specs.Prelude.{◌≡◌, ℕ, Bool, false, List, [], ◌∷◌, ◌++◌, map, Some, None, IsSome}
use Rattle.std.specs.List.{AllByRecursion, list_any}
use Rattle.wire_base.specs.declared.address.Side.TheVariants.{Inward, Outward}
use Rattle.wire_base.specs.Segments.{Written}
use Rattle.era_state.specs.Emission.{AreEmitted}
use Rattle.era_state.specs.SegmentMarks.{acknowledges}
use Rattle.era_state.specs.Quantities.{base_of}
use Rattle.era_agreement.specs.SentPackets.{Sent, written_in}
use Rattle.era_agreement.specs.Agreement.{IsSilentPacket}
use Rattle.run_audit.specs.FrameFaults.{IsWellRead}
use Rattle.run_audit.specs.FirstFault.{AreFaultless}
use Rattle.run_audit.specs.OwnedFrames.{Frame, is_inward}

-- a frame, and whether it is a written segment of the era that its entry names; a probe, for
-- example, is none
pub record Marked : Type 0 where
  pub frame : Frame
  pub written : Bool

-- the frames alone
abbrev pub frames_in : List Marked → List Frame
frames_in marked = map (λ (m : Marked). m.frame) marked

-- what was sent by the frame
abbrev pub sent_as : Marked → Sent
sent_as m = record { inward = is_inward m.frame.side; era = m.frame.era; written = m.written; packets = m.frame.packet ∷ [] }

-- The frame is well read; if it is no written segment of its era, it goes inwards and has no SYN,
-- no FIN and no octets.
pub record IsCertain (hops : ℕ) (m : Marked) : Type 0 where
  pub read : IsWellRead hops m.frame
  pub silent : m.written ≡ false → m.frame.side ≡ Some Inward → IsSome m.frame.era → IsSilentPacket m.frame.packet
  pub outward : m.written ≡ false → m.frame.side ≡ Some Outward → IsSome m.frame.era → ⊥

-- no segment follows one that acknowledges before a base is fixed: a RST that does so is the last
-- of its era
abbrev pub NoneAcksUnbased : List Written → Type 0
NoneAcksUnbased ws =
    (before : List Written) (w : Written) (later : List Written) → ws ≡ before ++ (w ∷ later) → base_of before ≡ None → list_any acknowledges before ≡ false

-- The frames are of this kind, and in each era the written segments are emitted, each after those
-- before it, and none but the last acknowledges before the base is fixed.
pub record AreWritten (hops : ℕ) (marked : List Marked) : Type 0 where
  pub certain : AllByRecursion (IsCertain hops) marked
  pub emitted : (era : ℕ) → AreEmitted [] (written_in era (map sent_as marked))
  pub acks : (era : ℕ) → NoneAcksUnbased (written_in era (map sent_as marked))

-- no such frame has a fault
abbrev pub EmittedHasNoFault : Type 0
EmittedHasNoFault = (hops : ℕ) (marked : List Marked) → AreWritten hops marked → AreFaultless hops (frames_in marked)
