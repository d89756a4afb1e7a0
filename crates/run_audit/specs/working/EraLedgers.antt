-- The state of an era: the quantities of `era_state` of the segments that were written in it.
use Rattle.std.specs.Prelude.{◌≡◌, ℕ, ◌^◌, ◌==◌, ◌&&◌, ◌||◌, not, max, Bool, false, true, List, [], ◌∷◌, ◌++◌, Option, Some, None, is_none, is_some, nat_le, nat_lt, if◌then◌else◌}
use Rattle.wire_base.specs.Segments.{Written}
use Rattle.receiver_model.specs.Offsets as receiver
use Rattle.era_state.specs.Offsets.{off, natural, number_in}
use Rattle.era_state.specs.Quantities.{base_of, acked, first, end_of}
use Rattle.era_state.specs.EmissionLaws.{HasNoOtherBase}
use Rattle.run_audit.specs.declared.answer.Reason.{Reason}
use Rattle.run_audit.specs.declared.answer.Reason.TheVariants as reasons
use Rattle.run_audit.specs.declared.ledger.Inward.{Inward}
use Rattle.run_audit.specs.declared.ledger.Ledger.{Ledger}
use Rattle.run_audit.specs.declared.offset.Offset.{Offset}
use Rattle.run_audit.specs.FrameFaults.{lacks_base, has_other_syn, has_other_octet, has_other_fin}
use Rattle.run_audit.specs.working.KeptOctets.{kept_at}
use Rattle.run_audit.specs.working.StoredOffsets.{some_offset}
use Rattle.run_audit.specs.EraTops.{last_end}

-- the greatest acknowledged offset, with one more acknowledgment number, read by this base
abbrev pub acked_with : (base acked number : ℕ) → ℕ
acked_with base acked number = max acked (number_in (natural (off base acked number)))

-- read by this base, Acked, the first octets, the offset after the last octet, and End are those of
-- these segments
pub record Tells (base : ℕ) (l : Ledger) (ws : List Written) : Type 0 where
  pub acked_is : l.acked ≡ acked base ws
  pub top_is : some_offset l.top ≡ last_end base ws
  pub end_is : some_offset l.end ≡ end_of base ws
  pub octets_are : (raised : ℕ) → kept_at l.octets raised ≡ first base ws (receiver.offset_in raised)

-- Every field is the quantity of the segments, read by their base; before a base is fixed, read by
-- any base.
pub record StandsFor (l : Ledger) (ws : List Written) : Type 0 where
  pub base_is : l.base ≡ base_of ws
  pub tells : (base : ℕ) → HasNoOtherBase base ws → Tells base l ws

-- a segment that went inwards has these fields and octets
pub record IsInward (s : Inward) (w : Written) : Type 0 where
  pub inward_is : w.inward ≡ true
  pub seq_is : w.seq ≡ s.seq
  pub flags_are : w.flags ≡ s.flags.0
  pub octets_are : w.octets ≡ s.octets.now

-- a segment that went outwards has these flags and this acknowledgment number
pub record IsOutward (flags number : ℕ) (w : Written) : Type 0 where
  pub inward_is : w.inward ≡ false
  pub flags_are : w.flags ≡ flags
  pub number_is : w.ack ≡ number

-- the segments with an outward one, which is counted if a base is fixed before it or by it
abbrev pub counted : List Written → Written → List Written
counted ws w = if is_some (base_of (ws ++ w ∷ [])) then ws ++ w ∷ [] else ws

-- the state in which a SYN has fixed the base at the number after it, if none was fixed
abbrev pub settled : Ledger → (syn : Bool) → (behind : ℕ) → Ledger
settled l syn behind = if syn && is_none l.base then record l { base = Some behind } else l

-- the offset after all octets, with octets that end at `behind`
abbrev pub raised_to : (top : Option Offset) → (behind : Offset) → Offset
raised_to None behind = behind
raised_to (Some top) behind = record { raised = max top.raised behind.raised }

-- the same with `octets` octets, which may be none
abbrev pub top_with : (top : Option Offset) → (octets : ℕ) → (behind : Offset) → Option Offset
top_with top octets behind = if nat_lt 0 octets then Some (raised_to top behind) else top

-- a FIN may be at this offset: at the end, if there is one; else not below the offset after all
-- octets, or not below 0 if there are none
abbrev pub fin_fits : (end top : Option Offset) → (place : Offset) → Bool
fin_fits None None place = nat_le (2 ^ 31) place.raised
fin_fits None (Some top) place = nat_le top.raised place.raised
fin_fits (Some end) top place = place.raised == end.raised

-- there is no FIN, or it may be at this offset
abbrev pub may_end : (fin : Bool) → (end top : Option Offset) → (place : Offset) → Bool
may_end fin end top place = not fin || fin_fits end top place

-- the end, with an optional FIN at this offset: the first FIN sets it
abbrev pub end_with : (fin : Bool) → Option Offset → Offset → Option Offset
end_with fin (Some end) place = Some end
end_with fin None place = if fin then Some place else None

-- the first fault of the octets and the FIN of a segment that went inwards after these
abbrev pub octets_reason : List Written → Written → Option Reason
octets_reason ws w = if has_other_octet ws w then Some reasons.Octet else if has_other_fin ws w then Some reasons.Fin else None

-- the first fault of a segment that went inwards after these
abbrev pub stream_reason : List Written → Written → Option Reason
stream_reason ws w =
    if lacks_base ws w then Some reasons.Base
    else if has_other_syn ws w then Some reasons.Syn
    else octets_reason ws w

-- this is the first fault of the segment; if it has none, the state represents the segments with it
abbrev pub IsVerdict : (new : Ledger) → List Written → Written → Option Reason → Type 0
IsVerdict new ws w None = (stream_reason ws w ≡ None) × StandsFor new (ws ++ w ∷ [])
IsVerdict new ws w (Some reason) = stream_reason ws w ≡ Some reason

-- this is the first fault of the octets and the FIN alone; if they have none, the state, read by
-- this base, is that of the segments with it
abbrev pub IsRightAt : (base : ℕ) → (new : Ledger) → List Written → Written → Option Reason → Type 0
IsRightAt base new ws w None = (octets_reason ws w ≡ None) × Tells base new (ws ++ w ∷ [])
IsRightAt base new ws w (Some reason) = octets_reason ws w ≡ Some reason

-- the same, if the old state is that of the segments before it, and with the segment this base is
-- fixed
abbrev pub IsVerdictAt : (base : ℕ) → (old new : Ledger) → List Written → Written → Option Reason → Type 0
IsVerdictAt base old new ws w verdict = Tells base old ws → base_of (ws ++ w ∷ []) ≡ Some base → IsRightAt base new ws w verdict
