-- The first fault of a written capture and its report (this project's profile). Frames are a list,
-- newest first.
use Rattle.std.specs.Prelude.{◌≡◌, ℕ, ◌+◌, ◌≤◌, List, [], ◌∷◌, length, Option, Some, None, slice_get}
use Rattle.wire_base.specs.declared.address.Link.{Link}
use Rattle.rule_book.specs.Entries.{PlainEntry}
use Rattle.era_agreement.specs.SentPackets.{Sent}
use Rattle.run_audit.specs.declared.answer.Reason.{Reason}
use Rattle.run_audit.specs.declared.answer.Reason.TheVariants.{Count}
use Rattle.run_audit.specs.OwnedFrames.{Frame, frame_of, owners, owned, sent}
use Rattle.run_audit.specs.FrameFaults.{IsFirstReason, IsFaultless}

-- no frame has a fault, each after those before it
abbrev pub AreFaultless : (hops : ℕ) → List Frame → Type 0
AreFaultless hops [] = Unit {0}
AreFaultless hops (f ∷ older) = AreFaultless hops older × IsFaultless hops (sent older) f

-- The next fault, after what was sent: a frame is in the capture or in the report alone, or this is
-- the first reason that applies to it.
abbrev pub FailsNext : (hops : ℕ) → Link → List Sent → (octets : Option (List ℕ)) → (owner : Option PlainEntry) → Reason → Type 0
FailsNext hops link older None None reason = ⊥
FailsNext hops link older None (Some entry) reason = reason ≡ Count
FailsNext hops link older (Some octets) None reason = reason ≡ Count
FailsNext hops link older (Some octets) (Some entry) reason = IsFirstReason hops older (frame_of link octets entry) reason

-- These frames have no fault, and this is the fault of the next one; `next` are its octets, or
-- nothing if the capture ends. Frames are numbered from 1.
pub record FirstFault (hops : ℕ) (link : Link) (entries : List PlainEntry) (frames : List (List ℕ)) (next : Option (List ℕ)) (number : ℕ) (reason : Reason) : Type 0 where
  pub each_owned : length frames ≤ length (owners entries)
  pub faultless : AreFaultless hops (owned link (owners entries) frames)
  pub number_is : number ≡ length frames + 1
  pub fails : FailsNext hops link (sent (owned link (owners entries) frames)) next (slice_get (owners entries) (length frames)) reason

-- These frames are those of the report, and none of them has a fault.
pub record NoFault (hops : ℕ) (link : Link) (entries : List PlainEntry) (frames : List (List ℕ)) : Type 0 where
  pub as_many : length frames ≡ length (owners entries)
  pub faultless : AreFaultless hops (owned link (owners entries) frames)
