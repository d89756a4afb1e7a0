-- A ledger with one more inbound segment: its base, octets and FIN, and the first reason that
-- applies to the segment.
use Rattle.std.proofs.Common.{◌≡◌, ℕ, ◌+◌, ◌%◌, ◌^◌, ◌==◌, ◌&&◌, ◌||◌, not, List, [], ◌∷◌, ◌++◌, length, Option, Some, None, Bool, true, false, refl, sym, ap, ap₂, ◌∙◌, subst, arith, if◌then◌else◌, nat_lt, is_none, nat_le, ◌-◌, slice_get, int_eq, pos, ◌+ℤ◌, IfOk, Result, Ok, Err, int_le, int_lt, ℤ, negsuc, ◌-ℤ◌}
use Rattle.std.specs.Option.{option_or}
use Rattle.std.proofs.lemmas.Bool.{or_parts, leb-true, leb-false}
use Rattle.std.proofs.lemmas.Int.{ints, int_max_is}
use Rattle.std.proofs.lemmas.Bool.Decides.{nat_tests}
use Rattle.std.specs.Int.{int_max}
use Rattle.tcp_norm.proofs.BareSegments.{empty}
use Rattle.edge_io.specs.declared.faults.NoMemory.{NoMemory}
use Rattle.wire_base.specs.Tcp as tcp
use Rattle.wire_base.specs.Segments.{Written}
use Rattle.era_state.specs.Offsets.{off, natural, number_in}
use Rattle.era_state.specs.SegmentMarks.{has_octets, fixes, get_at, octet_at}
use Rattle.era_state.specs.Quantities.{base_of, base_at, acked, first, end_of}
use Rattle.era_state.specs.Rules.{precedes}
use Rattle.era_state.specs.SilentSegments.{IsSilent, Same}
use Rattle.era_state.proofs.Quantities.{base_push, octet_push, end_push}
use Rattle.era_state.proofs.SameNumbers.{silence_changes_nothing, acked_same}
use Rattle.receiver_model.specs.Offsets.{offset_in as model_offset}
use Rattle.receiver_model.specs.Offsets as receiver
use Rattle.run_audit.specs.declared.answer.Reason.{Reason}
use Rattle.run_audit.specs.declared.answer.Reason.TheVariants as reasons
use Rattle.run_audit.specs.declared.ledger.Inward.{Inward}
use Rattle.run_audit.specs.declared.ledger.Ledger.{Ledger}
use Rattle.run_audit.specs.FrameFaults.{lacks_base, has_other_syn, has_other_octet, has_other_fin, some_strays, fin_strays, is_other, is_past}
use Rattle.run_audit.specs.working.EraLedgers.{IsInward, Tells, StandsFor, IsRightAt, IsVerdict, IsVerdictAt, octets_reason, stream_reason, settled, raised_to, top_with, fin_fits, may_end, end_with}
use Rattle.run_audit.specs.EraTops.{top, greater, last_end, place_in}
use Rattle.run_audit.specs.declared.octets.Octets.{Octets}
use Rattle.run_audit.specs.declared.offset.Offset.{Offset}
use Rattle.run_audit.specs.working.KeptOctets.{AreKeptWith, kept_at, is_at_end, some_stray, brought}
use Rattle.run_audit.specs.working.StoredOffsets.{offset_in, some_offset}
use Rattle.run_audit.proofs.Ledgers.{other_before, one_base}
use Rattle.run_audit.proofs.KeptOctets.{last_same, bare_end, last_push}

-- A ledger with one more segment that went inwards.

fixes_in : (s : Inward) (w : Written) → IsInward s w → fixes w ≡ (if tcp.has_syn s.flags.0 then Some ((s.seq + 1) % 2 ^ 32) else None)
fixes_in s w is =
    ap (λ (i : Bool). if i then (if tcp.has_syn w.flags then Some ((w.seq + 1) % 2 ^ 32) else None) else (if tcp.has_ack w.flags && not (tcp.has_rst w.flags) then Some w.ack else None)) is.inward_is
    ∙ ap₂ (λ f n. if tcp.has_syn f then Some ((n + 1) % 2 ^ 32) else None) is.flags_are is.seq_is

-- the base, with the segment
base_settled : (l : Ledger) (o : Option ℕ) (syn : Bool) (behind : ℕ) → l.base ≡ o → (settled l syn behind).base ≡ option_or o (if syn then Some behind else None)
base_settled l None true behind e = ap (λ (q : Option ℕ). (if true && is_none q then record l { base = Some behind } else l).base) e
base_settled l None false behind e = e
base_settled l (Some x) true behind e = ap (λ (q : Option ℕ). (if true && is_none q then record l { base = Some behind } else l).base) e ∙ e
base_settled l (Some x) false behind e = e

pub base_with : (l : Ledger) (s : Inward) (ws : List Written) (w : Written) → StandsFor l ws → IsInward s w → (settled l (tcp.has_syn s.flags.0) ((s.seq + 1) % 2 ^ 32)).base ≡ base_of (ws ++ w ∷ [])
base_with l s ws w st is =
    base_settled l (base_of ws) (tcp.has_syn s.flags.0) ((s.seq + 1) % 2 ^ 32) st.base_is
    ∙ ap (option_or (base_of ws)) (sym (fixes_in s w is))
    ∙ sym (base_push ws w)

-- the other fields are unchanged
pub tells_settled : (base : ℕ) (l : Ledger) (ws : List Written) (syn : Bool) (behind : ℕ) → Tells base l ws → Tells base (settled l syn behind) ws
tells_settled base l ws syn behind t = by (syn && is_none l.base)
  where
    by : (b : Bool) → Tells base (if b then record l { base = Some behind } else l) ws
    by true = record { acked_is = t.acked_is; top_is = t.top_is; end_is = t.end_is; octets_are = t.octets_are }
    by false = t

-- the tests of the code give the reasons of the definitions, one after the other
pub base_is_missing : (s : Inward) (ws : List Written) (w : Written) → IsInward s w → base_of (ws ++ w ∷ []) ≡ None → (nat_lt 0 (length s.octets.now) || tcp.has_fin s.flags.0) ≡ true → stream_reason ws w ≡ Some reasons.Base
base_is_missing s ws w is none brings = ap (λ (b : Bool). if b then Some reasons.Base else if has_other_syn ws w then Some reasons.Syn else octets_reason ws w) lacks
  where
    lacks : lacks_base ws w ≡ true
    lacks =
        ap (λ (o : Option ℕ). is_none o && (has_octets w || tcp.has_fin w.flags)) none
        ∙ ap₂ (λ (os : List ℕ) f. nat_lt 0 (length os) || tcp.has_fin f) is.octets_are is.flags_are
        ∙ brings

based_lacks_none : (ws : List Written) (w : Written) (base : ℕ) → base_of (ws ++ w ∷ []) ≡ Some base → lacks_base ws w ≡ false
based_lacks_none ws w base based = ap (λ (o : Option ℕ). is_none o && (has_octets w || tcp.has_fin w.flags)) based

other_syn : (s : Inward) (ws : List Written) (w : Written) (base : ℕ) → IsInward s w → base_of (ws ++ w ∷ []) ≡ Some base → has_other_syn ws w ≡ (tcp.has_syn s.flags.0 && not (((s.seq + 1) % 2 ^ 32) == base))
other_syn s ws w base is based =
    ap (λ o. tcp.has_syn w.flags && not (precedes o w.seq)) based
    ∙ ap₂ (λ f n. tcp.has_syn f && not (((n + 1) % 2 ^ 32) == base)) is.flags_are is.seq_is

pub syn_is_other : (s : Inward) (ws : List Written) (w : Written) (base : ℕ) → IsInward s w → base_of (ws ++ w ∷ []) ≡ Some base → (tcp.has_syn s.flags.0 && not (((s.seq + 1) % 2 ^ 32) == base)) ≡ true → stream_reason ws w ≡ Some reasons.Syn
syn_is_other s ws w base is based other =
    ap₂ (λ (a b : Bool). if a then Some reasons.Base else if b then Some reasons.Syn else octets_reason ws w) (based_lacks_none ws w base based) (other_syn s ws w base is based ∙ other)

octets_left : (s : Inward) (ws : List Written) (w : Written) (base : ℕ) → IsInward s w → base_of (ws ++ w ∷ []) ≡ Some base → (tcp.has_syn s.flags.0 && not (((s.seq + 1) % 2 ^ 32) == base)) ≡ false → stream_reason ws w ≡ octets_reason ws w
octets_left s ws w base is based other =
    ap₂ (λ (a b : Bool). if a then Some reasons.Base else if b then Some reasons.Syn else octets_reason ws w) (based_lacks_none ws w base based) (other_syn s ws w base is based ∙ other)

-- a ledger that is read by the base represents the segments with the new one
stands_by : (new : Ledger) (ws : List Written) (w : Written) (base : ℕ) → base_of (ws ++ w ∷ []) ≡ Some base → Tells base new (ws ++ w ∷ []) → new.base ≡ Some base → StandsFor new (ws ++ w ∷ [])
stands_by new ws w base based read new_base = record {
  base_is = new_base ∙ sym based;
  tells = λ other only. let same : base ≡ other = only base based in subst (λ b. Tells b new (ws ++ w ∷ [])) same read;
}

-- the verdict on the octets and the FIN is the verdict on the segment, if the segment has no fault
-- before
pub whole_verdict : (l mid new : Ledger) (s : Inward) (ws : List Written) (w : Written) (base : ℕ) (verdict : Option Reason) → StandsFor l ws → IsInward s w → mid ≡ settled l (tcp.has_syn s.flags.0) ((s.seq + 1) % 2 ^ 32) → mid.base ≡ Some base → (tcp.has_syn s.flags.0 && not (((s.seq + 1) % 2 ^ 32) == base)) ≡ false → IsVerdictAt base mid new ws w verdict → new.base ≡ mid.base → IsVerdict new ws w verdict
whole_verdict l mid new s ws w base verdict st is mid_is mid_base other at same_base = by verdict (at read based)
  where
    based : base_of (ws ++ w ∷ []) ≡ Some base
    based = sym (base_with l s ws w st is) ∙ sym (ap (λ (k : Ledger). k.base) mid_is) ∙ mid_base

    read : Tells base mid ws
    read =
        let P : Ledger → Type 0 = λ k. Tells base k ws in
        subst P (sym mid_is) (tells_settled base l ws (tcp.has_syn s.flags.0) ((s.seq + 1) % 2 ^ 32) (st.tells base (other_before base ws w (λ number f. one_base number base (ws ++ w ∷ []) f based))))

    left : stream_reason ws w ≡ octets_reason ws w
    left = octets_left s ws w base is based other

    by : (v : Option Reason) → IsRightAt base new ws w v → IsVerdict new ws w v
    by None r = (left ∙ r.0, stands_by new ws w base based r.1 (same_base ∙ mid_base))
    by (Some reason) r = left ∙ r

-- the segment has no octets and no FIN, and no base is fixed
none_both : (o p : Option ℕ) → option_or o p ≡ None → (o ≡ None) × (p ≡ None)
none_both None p e = (refl, e)
none_both (Some x) p e = absurd (cc e)

none_fixed : (syn : Bool) (behind : ℕ) → (if syn then Some behind else None) ≡ None → syn ≡ false
none_fixed true behind e = absurd (cc e)
none_fixed false behind e = refl

pub silent_verdict : (l mid : Ledger) (s : Inward) (ws : List Written) (w : Written) → StandsFor l ws → IsInward s w → mid ≡ settled l (tcp.has_syn s.flags.0) ((s.seq + 1) % 2 ^ 32) → mid.base ≡ None → (nat_lt 0 (length s.octets.now) || tcp.has_fin s.flags.0) ≡ false → IsVerdict mid ws w None
silent_verdict l mid s ws w st is mid_is mid_base brings = (right, subst P (sym same_mid) stands)
  where
    none : base_of (ws ++ w ∷ []) ≡ None
    none = sym (base_with l s ws w st is) ∙ sym (ap (λ (k : Ledger). k.base) mid_is) ∙ mid_base

    parts : (base_of ws ≡ None) × (fixes w ≡ None)
    parts = none_both (base_of ws) (fixes w) (sym (base_push ws w) ∙ none)

    syn_off : tcp.has_syn s.flags.0 ≡ false
    syn_off = none_fixed (tcp.has_syn s.flags.0) ((s.seq + 1) % 2 ^ 32) (sym (fixes_in s w is) ∙ parts.1)

    same_mid : mid ≡ l
    same_mid = mid_is ∙ ap (λ c. settled l c ((s.seq + 1) % 2 ^ 32)) syn_off

    P : Ledger → Type 0
    P k = StandsFor k (ws ++ w ∷ [])

    brought : (nat_lt 0 (length s.octets.now) ≡ false) × (tcp.has_fin s.flags.0 ≡ false)
    brought = or_parts (nat_lt 0 (length s.octets.now)) (tcp.has_fin s.flags.0) brings

    silent : IsSilent w
    silent = record {
      inward = is.inward_is;
      no_syn = ap tcp.has_syn is.flags_are ∙ syn_off;
      no_fin = ap tcp.has_fin is.flags_are ∙ brought.1;
      no_octets = is.octets_are ∙ empty s.octets.now brought.0;
    }

    same : Same ws (ws ++ w ∷ [])
    same = silence_changes_nothing ws w silent

    stands : StandsFor l (ws ++ w ∷ [])
    stands = record {
      base_is = st.base_is ∙ sym same.numbers.base_is;
      tells = λ base only.
          let t = st.tells base (other_before base ws w only) in
          record {
            acked_is = t.acked_is ∙ sym (same.numbers.acked_is base);
            top_is = t.top_is ∙ sym (last_same base ws w (bare_end base (acked base ws) w silent.no_octets));
            end_is = t.end_is ∙ sym (same.end_is base);
            octets_are = λ raised. t.octets_are raised ∙ sym (same.first_is base _);
          };
    }

    lacks : lacks_base ws w ≡ false
    lacks =
        ap (λ (o : Option ℕ). is_none o && (has_octets w || tcp.has_fin w.flags)) none
        ∙ ap₂ (λ (os : List ℕ) f. nat_lt 0 (length os) || tcp.has_fin f) is.octets_are is.flags_are
        ∙ brings

    syn : has_other_syn ws w ≡ false
    syn = ap (λ (b : Bool). b && not (precedes (base_of (ws ++ w ∷ [])) w.seq)) silent.no_syn

    octet : has_other_octet ws w ≡ false
    octet = let b = base_at (ws ++ w ∷ []) in ap (some_strays (first b ws) (end_of b ws) (off b (acked b ws) w.seq)) silent.no_octets

    fin : has_other_fin ws w ≡ false
    fin = let b = base_at (ws ++ w ∷ []) in ap (λ (f : Bool). f && fin_strays (end_of b ws) (top b (ws ++ w ∷ [])) (off b (acked b ws) w.seq +ℤ pos (length w.octets))) silent.no_fin

    right : stream_reason ws w ≡ None
    right =
        ap₂ (λ (a b : Bool). if a then Some reasons.Base else if b then Some reasons.Syn else octets_reason ws w) lacks syn
        ∙ ap₂ (λ (a b : Bool). if a then Some reasons.Octet else if b then Some reasons.Fin else None) octet fin

-- the result for the octets and the FIN is the result for the segment
pub whole_result : (r : Result (Option Reason) NoMemory) (l mid new : Ledger) (s : Inward) (base : ℕ) → mid ≡ settled l (tcp.has_syn s.flags.0) ((s.seq + 1) % 2 ^ 32) → mid.base ≡ Some base → (tcp.has_syn s.flags.0 && not (((s.seq + 1) % 2 ^ 32) == base)) ≡ false
    → IfOk r (λ _. new.base ≡ mid.base) → IfOk r (λ verdict. (ws : List Written) (w : Written) → IsInward s w → IsVerdictAt base mid new ws w verdict)
    → IfOk r (λ verdict. (ws : List Written) (w : Written) → StandsFor l ws → IsInward s w → IsVerdict new ws w verdict)
whole_result (Ok verdict) l mid new s base mid_is mid_base other same_base at = λ ws w st is. whole_verdict l mid new s ws w base verdict st is mid_is mid_base other (at ws w is) same_base
whole_result (Err e) l mid new s base mid_is mid_base other same_base at = tt

-- Raised offsets, which are offsets plus 2^31, are compared as the offsets are.

pub int_le-raised : (a b : ℕ) → int_le (model_offset a) (model_offset b) ≡ nat_le a b
int_le-raised a b = grind (arith, nat_tests, ints)

pub int_lt-raised : (a b : ℕ) → int_lt (model_offset a) (model_offset b) ≡ not (nat_le b a)
int_lt-raised a b = grind (arith, nat_tests, ints)

pub int_eq-raised : (a b : ℕ) → int_eq (model_offset a) (model_offset b) ≡ (a == b)
int_eq-raised a b = grind (arith, nat_tests, ints)

pub raised_on : (a n : ℕ) → model_offset (a + n) ≡ model_offset a +ℤ pos n
raised_on a n = omega (arith, ints)

-- The verdict of the fields of a ledger on a segment that went inwards.

past : (end : Option Offset) (place : ℕ) → is_past (some_offset end) (receiver.offset_in place) ≡ is_at_end end place
past None place = refl
past (Some end) place = int_le-raised end.raised place

strays : (f : ℕ → Option ℕ) (g : ℤ → Option ℕ) (end : Option Offset) (place : ℕ) (z : ℤ) (octets : List ℕ) → ((raised : ℕ) → f raised ≡ g (receiver.offset_in raised)) → z ≡ receiver.offset_in place → some_strays g (some_offset end) z octets ≡ some_stray f end place octets
strays f g end place z [] same is = refl
strays f g end place z (octet ∷ octets) same is =
    ap₂ (λ (a b : Bool). a || b)
    (ap₂ (λ (a b : Bool). a || b)
    (ap (λ o. is_other o octet) (ap g is ∙ sym (same place)))
    (ap (is_past (some_offset end)) is ∙ past end place))
    (strays f g end (place + 1) (z +ℤ pos 1) octets same (ap (λ n. n +ℤ pos 1) is ∙ sym (raised_on place 1)))

-- a segment that went inwards, with the offset of its first octet and the offset after its last one
pub record Came (base : ℕ) (l : Ledger) (s : Inward) (w : Written) (place behind : Offset) : Type 0 where
  pub is : IsInward s w
  pub placed : receiver.offset_in place.raised ≡ off base l.acked s.seq
  pub behind_is : behind.raised ≡ place.raised + length s.octets.now

place_is : (base : ℕ) (l : Ledger) (s : Inward) (ws : List Written) (w : Written) (place behind : Offset) → Came base l s w place behind → Tells base l ws → off base (acked base ws) w.seq ≡ offset_in place
place_is base l s ws w place behind came read = ap₂ (λ (a n : ℕ). off base a n) (sym read.acked_is) came.is.seq_is ∙ sym came.placed

behind_place : (base : ℕ) (l : Ledger) (s : Inward) (ws : List Written) (w : Written) (place behind : Offset) → Came base l s w place behind → Tells base l ws → (off base (acked base ws) w.seq +ℤ pos (length w.octets)) ≡ offset_in behind
behind_place base l s ws w place behind came read =
    ap₂ (λ z n. z +ℤ pos n) (place_is base l s ws w place behind came read) (ap length came.is.octets_are)
    ∙ sym (ap receiver.offset_in came.behind_is ∙ raised_on place.raised (length s.octets.now))

-- an octet strays in the definitions exactly if one strays in the code
pub octets_judged : (base : ℕ) (l : Ledger) (s : Inward) (ws : List Written) (w : Written) (place behind : Offset) → Came base l s w place behind → Tells base l ws → base_of (ws ++ w ∷ []) ≡ Some base → has_other_octet ws w ≡ some_stray (kept_at l.octets) l.end place.raised s.octets.now
octets_judged base l s ws w place behind came read based =
    ap (λ b. some_strays (first b ws) (end_of b ws) (off b (acked b ws) w.seq) w.octets) (ap number_in based)
    ∙ ap (λ e. some_strays (first base ws) e (off base (acked base ws) w.seq) w.octets) (sym read.end_is)
    ∙ ap (some_strays (first base ws) (some_offset l.end) (off base (acked base ws) w.seq)) came.is.octets_are
    ∙ strays (kept_at l.octets) (first base ws) l.end place.raised (off base (acked base ws) w.seq) s.octets.now read.octets_are (place_is base l s ws w place behind came read)

-- the octets that are kept, with those of the segment, are the first ones
natural-raised : (a b : ℕ) → natural (receiver.offset_in b -ℤ receiver.offset_in a) ≡ (if nat_le a b then Some (b - a) else None)
natural-raised a b = by (nat_le a b) refl
  where
    by : (t : Bool) → nat_le a b ≡ t → natural (receiver.offset_in b -ℤ receiver.offset_in a) ≡ (if t then Some (b - a) else None)
    by true e =
        let h = leb-true a b e in
        let is : (receiver.offset_in b -ℤ receiver.offset_in a) ≡ pos (b - a) = omega (arith, ints) in ap natural is
    by false e =
        let h = leb-false a b e in
        let is : (receiver.offset_in b -ℤ receiver.offset_in a) ≡ negsuc (a - b - 1) = omega (arith, ints) in ap natural is

get_brought : (octets : List ℕ) (a b : ℕ) (t : Bool) → get_at octets (if t then Some (b - a) else None) ≡ (if t then slice_get octets (b - a) else None)
get_brought octets a b true = refl
get_brought octets a b false = refl

octet_brought : (base : ℕ) (l : Ledger) (s : Inward) (ws : List Written) (w : Written) (place behind : Offset) → Came base l s w place behind → Tells base l ws → (raised : ℕ) → octet_at base (acked base ws) (receiver.offset_in raised) w ≡ brought place.raised s.octets.now raised
octet_brought base l s ws w place behind came read raised =
    ap (λ (i : Bool). if i then get_at w.octets (natural (receiver.offset_in raised -ℤ off base (acked base ws) w.seq)) else None) came.is.inward_is
    ∙ ap (λ z. get_at w.octets (natural (receiver.offset_in raised -ℤ z))) (place_is base l s ws w place behind came read)
    ∙ ap (get_at w.octets) (natural-raised place.raised raised)
    ∙ get_brought w.octets place.raised raised (nat_le place.raised raised)
    ∙ ap (λ os. brought place.raised os raised) came.is.octets_are

pub octets_kept : (base : ℕ) (l : Ledger) (new : Octets) (s : Inward) (ws : List Written) (w : Written) (place behind : Offset) → Came base l s w place behind → Tells base l ws → AreKeptWith l.octets new place.raised s.octets.now → (raised : ℕ) → kept_at new raised ≡ first base (ws ++ w ∷ []) (receiver.offset_in raised)
octets_kept base l new s ws w place behind came read kept raised =
    kept raised
    ∙ ap₂ option_or (read.octets_are raised) (sym (octet_brought base l s ws w place behind came read raised))
    ∙ sym (octet_push base ws w (receiver.offset_in raised))

-- the offset after the last octet
top_moved : (t : Option Offset) (n : ℕ) (behind : Offset) (z : ℤ) → z ≡ offset_in behind → some_offset (top_with t n behind) ≡ greater (some_offset t) (if nat_lt 0 n then Some z else None)
top_moved t n behind z at = by (nat_lt 0 n) t
  where
    by : (b : Bool) (t : Option Offset) → some_offset (if b then Some (raised_to t behind) else t) ≡ greater (some_offset t) (if b then Some z else None)
    by true None = ap (λ y. Some y) (sym at)
    by true (Some top) = let e : offset_in (raised_to (Some top) behind) ≡ int_max (offset_in top) z = omega (arith, ints, at, int_max_is (offset_in top) z) in ap (λ y. Some y) e
    by false None = refl
    by false (Some top) = refl

pub top_kept : (base : ℕ) (l : Ledger) (s : Inward) (ws : List Written) (w : Written) (place behind : Offset) → Came base l s w place behind → Tells base l ws → some_offset (top_with l.top (length s.octets.now) behind) ≡ last_end base (ws ++ w ∷ [])
top_kept base l s ws w place behind came read =
    top_moved l.top (length s.octets.now) behind (off base (acked base ws) w.seq +ℤ pos (length w.octets)) (behind_place base l s ws w place behind came read)
    ∙ ap₂ greater read.top_is
    (ap (λ (os : List ℕ). if nat_lt 0 (length os) then Some (off base (acked base ws) w.seq +ℤ pos (length w.octets)) else None) (sym came.is.octets_are)
    ∙ ap (λ (i : Bool). if i && has_octets w then Some (off base (acked base ws) w.seq +ℤ pos (length w.octets)) else None) (sym came.is.inward_is))
    ∙ sym (last_push base ws w)

-- the FIN strays in the definitions exactly if it does not fit in the code
fits : (end t : Option Offset) (behind : Offset) → fin_strays (some_offset end) (place_in (some_offset t)) (offset_in behind) ≡ not (fin_fits end t behind)
fits None None behind = int_lt-raised behind.raised (2 ^ 31)
fits None (Some top) behind = int_lt-raised behind.raised top.raised
fits (Some end) t behind = ap not (int_eq-raised behind.raised end.raised)

both : (f x : Bool) → (f && not x) ≡ not (not f || x)
both true x = refl
both false x = refl

pub fin_judged : (base : ℕ) (l : Ledger) (s : Inward) (ws : List Written) (w : Written) (place behind : Offset) → Came base l s w place behind → Tells base l ws → base_of (ws ++ w ∷ []) ≡ Some base → has_other_fin ws w ≡ not (may_end (tcp.has_fin s.flags.0) l.end (top_with l.top (length s.octets.now) behind) behind)
fin_judged base l s ws w place behind came read based =
    ap (λ b. tcp.has_fin w.flags && fin_strays (end_of b ws) (top b (ws ++ w ∷ [])) (off b (acked b ws) w.seq +ℤ pos (length w.octets))) (ap number_in based)
    ∙ ap (λ f. tcp.has_fin f && fin_strays (end_of base ws) (top base (ws ++ w ∷ [])) (off base (acked base ws) w.seq +ℤ pos (length w.octets))) came.is.flags_are
    ∙ ap₂ (λ e z. tcp.has_fin s.flags.0 && fin_strays e (top base (ws ++ w ∷ [])) z) (sym read.end_is) (behind_place base l s ws w place behind came read)
    ∙ ap (λ t. tcp.has_fin s.flags.0 && fin_strays (some_offset l.end) (place_in t) (offset_in behind)) (sym (top_kept base l s ws w place behind came read))
    ∙ ap (λ b. tcp.has_fin s.flags.0 && b) (fits l.end (top_with l.top (length s.octets.now) behind) behind)
    ∙ both (tcp.has_fin s.flags.0) (fin_fits l.end (top_with l.top (length s.octets.now) behind) behind)

ended : (f : Bool) (end : Option Offset) (behind : Offset) → some_offset (end_with f end behind) ≡ option_or (some_offset end) (if f then Some (offset_in behind) else None)
ended f (Some end) behind = refl
ended true None behind = refl
ended false None behind = refl

pub end_kept : (base : ℕ) (l : Ledger) (s : Inward) (ws : List Written) (w : Written) (place behind : Offset) → Came base l s w place behind → Tells base l ws → some_offset (end_with (tcp.has_fin s.flags.0) l.end behind) ≡ end_of base (ws ++ w ∷ [])
end_kept base l s ws w place behind came read =
    ended (tcp.has_fin s.flags.0) l.end behind
    ∙ ap₂ (λ e z. option_or e (if tcp.has_fin s.flags.0 then Some z else None)) read.end_is (sym (behind_place base l s ws w place behind came read))
    ∙ ap (λ f. option_or (end_of base ws) (if tcp.has_fin f then Some (off base (acked base ws) w.seq +ℤ pos (length w.octets)) else None)) (sym came.is.flags_are)
    ∙ ap (λ (i : Bool). option_or (end_of base ws) (if i && tcp.has_fin w.flags then Some (off base (acked base ws) w.seq +ℤ pos (length w.octets)) else None)) (sym came.is.inward_is)
    ∙ sym (end_push base ws w)

-- the reasons of the verdicts
pub octet_strays : (ws : List Written) (w : Written) → has_other_octet ws w ≡ true → octets_reason ws w ≡ Some reasons.Octet
octet_strays ws w e = ap (λ (b : Bool). if b then Some reasons.Octet else if has_other_fin ws w then Some reasons.Fin else None) e

pub fin_is_other : (ws : List Written) (w : Written) → has_other_octet ws w ≡ false → has_other_fin ws w ≡ true → octets_reason ws w ≡ Some reasons.Fin
fin_is_other ws w e f = ap₂ (λ (a b : Bool). if a then Some reasons.Octet else if b then Some reasons.Fin else None) e f

pub nothing_strays : (ws : List Written) (w : Written) → has_other_octet ws w ≡ false → has_other_fin ws w ≡ false → octets_reason ws w ≡ None
nothing_strays ws w e f = ap₂ (λ (a b : Bool). if a then Some reasons.Octet else if b then Some reasons.Fin else None) e f

-- the fields are those of the segments with the new one
pub read_on : (base : ℕ) (l new : Ledger) (s : Inward) (ws : List Written) (w : Written) (place behind : Offset) → Came base l s w place behind → Tells base l ws → AreKeptWith l.octets new.octets place.raised s.octets.now → new.acked ≡ l.acked → new.top ≡ top_with l.top (length s.octets.now) behind → new.end ≡ end_with (tcp.has_fin s.flags.0) l.end behind → Tells base new (ws ++ w ∷ [])
read_on base l new s ws w place behind came read kept acked_is top_is end_is = record {
  acked_is = acked_is ∙ read.acked_is ∙ sym (acked_same base ws w came.is.inward_is);
  top_is = ap some_offset top_is ∙ top_kept base l s ws w place behind came read;
  end_is = ap some_offset end_is ∙ end_kept base l s ws w place behind came read;
  octets_are = octets_kept base l new.octets s ws w place behind came read kept;
}
