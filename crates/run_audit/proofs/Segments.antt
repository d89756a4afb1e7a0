-- A segment without a fault agrees with its era, and one that is emitted in its era has no fault.
use Rattle.std.proofs.Common.{◌≡◌, ℕ, ◌+◌, ◌%◌, ◌^◌, ◌==◌, ◌&&◌, ◌||◌, not, List, ◌∷◌, ◌++◌, length, Option, Some, None, true, false, refl, sym, ap, ap₂, ◌∙◌, subst, arith, if◌then◌else◌, nat_lt, is_none, ⊎_elim, zero, suc, ◌≤◌, nat_eq, Bool, eq-eqb, int_eq, ℤ, pos, ◌+ℤ◌, ◌-ℤ◌, ◌<ℤ◌, int_le, int_lt, slice_get, ◌≤ℤ◌, max, []}
use Rattle.std.specs.Option.{option_or}
use Rattle.std.proofs.lemmas.Int.{ints}
use Rattle.std.proofs.lemmas.Bool.{or_parts, eqb-true, not-false, ltb-false, and_right, not_from_true}
use Rattle.std.proofs.Math.Nat.{max-zero}
use Rattle.std.specs.Prelude.{negsuc}
use Rattle.wire_base.specs.Tcp as tcp
use Rattle.wire_base.specs.Segments.{Segment, Written, written_of}
use Rattle.era_state.specs.Offsets.{off, natural, number_in}
use Rattle.era_state.specs.SegmentMarks.{has_octets, get_at, octet_at, fin_place, fixes, acknowledges, ack_of}
use Rattle.era_state.specs.Quantities.{base_of, acked, first, end_of, edge}
use Rattle.era_state.specs.Rules.{precedes}
use Rattle.era_state.specs.EmissionLaws.{HasNoOtherBase, EmittedOctetsArePlaces, IsTold as IsToldIn}
use Rattle.era_state.specs.SilentSegments.{IsSilent, SilenceChangesNothing}
use Rattle.era_state.proofs.Quantities.{base_push, octet_push, end_push, or_none, acked_push}
use Rattle.era_agreement.proofs.Streams.{EraLaws, IsTold, silent_is_told, is_place}
use Rattle.era_state.specs.Quantities as era
use Rattle.era_state.specs.Emission.{IsBare, IsKeptFrame, IsEmitted, AreEmitted, IsOutward}
use Rattle.era_state.proofs.Frames.{EndLies}
use Rattle.era_state.proofs.EmittedSegments.{bounded}
use Rattle.run_audit.specs.FrameFaults.{is_other, is_past, some_strays, fin_strays, lacks_base, has_other_syn, has_other_octet, has_other_fin}
use Rattle.run_audit.specs.EraTops.{top, octets_end, greater, last_end, place_in}
use Rattle.run_audit.proofs.KeptOctets.{below_top, last_push, last_same, outward_end, bare_end, top_most}

-- A segment without a fault agrees with its era.

-- no reason applies to the segment
pub record IsRight (ws : List Written) (w : Written) : Type 0 where
  pub base : lacks_base ws w ≡ false
  pub syn : has_other_syn ws w ≡ false
  pub octet : has_other_octet ws w ≡ false
  pub fin : has_other_fin ws w ≡ false

-- each octet equals the first one at its offset, if there was one, and is before the end
none_strays : (f : ℤ → Option ℕ) (end : Option ℤ) (z : ℤ) (octets : List ℕ) (i x : ℕ) → some_strays f end z octets ≡ false → slice_get octets i ≡ Some x → (is_other (f (z +ℤ pos i)) x ≡ false) × (is_past end (z +ℤ pos i) ≡ false)
none_strays f end z [] i x h e = absurd (cc e)
none_strays f end z (y ∷ octets) zero x h e =
    let here = or_parts (is_other (f z) y || is_past end z) (some_strays f end (z +ℤ pos 1) octets) h in
    let both = or_parts (is_other (f z) y) (is_past end z) here.0 in
    let at : (z +ℤ pos 0) ≡ z = omega (arith, ints) in
    let is : y ≡ x = cc e in
    (ap₂ (λ n m. is_other (f n) m) at (sym is) ∙ both.0, ap (is_past end) at ∙ both.1)
none_strays f end z (y ∷ octets) (suc i) x h e =
    let here = or_parts (is_other (f z) y || is_past end z) (some_strays f end (z +ℤ pos 1) octets) h in
    let go = none_strays f end (z +ℤ pos 1) octets i x here.1 e in
    let at : (z +ℤ pos (suc i)) ≡ ((z +ℤ pos 1) +ℤ pos i) = omega (arith, ints) in
    (ap (λ n. is_other (f n) x) at ∙ go.0, ap (is_past end) at ∙ go.1)

-- an octet that does not differ from the first one is it or becomes it
same_first : (o : Option ℕ) (x : ℕ) → is_other o x ≡ false → option_or o (Some x) ≡ Some x
same_first None x h = refl
same_first (Some y) x h = ap (λ n. Some n) (eqb-true y x (not-false (y == x) h))

octet_there : (base a : ℕ) (w : Written) (i x : ℕ) → w.inward ≡ true → slice_get w.octets i ≡ Some x → octet_at base a (off base a w.seq +ℤ pos i) w ≡ Some x
octet_there base a w i x inward e =
    let at : ((off base a w.seq +ℤ pos i) -ℤ off base a w.seq) ≡ pos i = omega (arith, ints) in
    ap (λ (t : Bool). if t then get_at w.octets (natural ((off base a w.seq +ℤ pos i) -ℤ off base a w.seq)) else None) inward
    ∙ ap (λ z. get_at w.octets (natural z)) at
    ∙ e

fin_there : (base a : ℕ) (w : Written) → w.inward ≡ true → tcp.has_fin w.flags ≡ true → fin_place base a w ≡ Some (off base a w.seq +ℤ pos (length w.octets))
fin_there base a w inward fin = ap₂ (λ (i f : Bool). if i && f then Some (off base a w.seq +ℤ pos (length w.octets)) else None) inward fin

same_end : (o : Option ℤ) (t z : ℤ) → fin_strays o t z ≡ false → option_or o (Some z) ≡ Some z
same_end None t z h = refl
same_end (Some e) t z h = let is = not-false (int_eq z e) h in ap (λ n. Some n) (let same : e ≡ z = grind (arith, ints, is) in same)

-- if a base is fixed before the segment or by it, its octets and its FIN are those of the era
told_based : EraLaws → (base : ℕ) (ws : List Written) (s : Segment) → base_of (ws ++ written_of true s ∷ []) ≡ Some base → IsRight ws (written_of true s) → IsTold base (ws ++ written_of true s ∷ []) (off base (acked base ws) s.sequence) s
told_based laws base ws s based right = record {
  placed = is_place laws base (acked base ws) s.sequence;
  octets = λ index octet has.
      let none = none_strays (first base ws) (end_of base ws) place s.octets index octet strays has in
      octet_push base ws w (place +ℤ pos index)
      ∙ ap (option_or (first base ws (place +ℤ pos index))) (octet_there base (acked base ws) w index octet refl has)
      ∙ same_first (first base ws (place +ℤ pos index)) octet none.0;
  fin = λ has.
      end_push base ws w
      ∙ ap (option_or (end_of base ws)) (fin_there base (acked base ws) w refl has)
      ∙ same_end (end_of base ws) (top base (ws ++ w ∷ [])) (place +ℤ pos (length s.octets)) (ap (λ (f : Bool). f && fin_strays (end_of base ws) (top base (ws ++ w ∷ [])) (place +ℤ pos (length s.octets))) (sym has) ∙ fin);
  syn = λ has.
      let is : (s.sequence + 1) % 2 ^ 32 ≡ base = eqb-true ((s.sequence + 1) % 2 ^ 32) base (not-false (((s.sequence + 1) % 2 ^ 32) == base) (ap (λ (f : Bool). f && not (((s.sequence + 1) % 2 ^ 32) == base)) (sym has) ∙ syn)) in
      omega (arith, is);
}
  where
    w : Written
    w = written_of true s

    place : ℤ
    place = off base (acked base ws) s.sequence

    strays : some_strays (first base ws) (end_of base ws) place s.octets ≡ false
    strays = ap (λ b. some_strays (first b ws) (end_of b ws) (off b (acked b ws) s.sequence) s.octets) (sym (ap number_in based)) ∙ right.octet

    fin : (tcp.has_fin s.flags && fin_strays (end_of base ws) (top base (ws ++ w ∷ [])) (place +ℤ pos (length s.octets))) ≡ false
    fin = ap (λ b. tcp.has_fin s.flags && fin_strays (end_of b ws) (top b (ws ++ w ∷ [])) (off b (acked b ws) s.sequence +ℤ pos (length s.octets))) (sym (ap number_in based)) ∙ right.fin

    syn : (tcp.has_syn s.flags && not (((s.sequence + 1) % 2 ^ 32) == base)) ≡ false
    syn = ap (λ o. tcp.has_syn s.flags && not (precedes o s.sequence)) (sym based) ∙ right.syn

-- if no base is fixed, the segment has no SYN, no FIN and no octets
pub silent_unbased : (ws : List Written) (s : Segment) → base_of (ws ++ written_of true s ∷ []) ≡ None → IsRight ws (written_of true s) → IsSilent (written_of true s)
silent_unbased ws s none right = record { inward = refl; no_syn = mute (tcp.has_syn s.flags) refl; no_fin = parts.1; no_octets = empty s.octets parts.0 }
  where
    w : Written
    w = written_of true s

    parts : (nat_lt 0 (length s.octets) ≡ false) × (tcp.has_fin s.flags ≡ false)
    parts = or_parts (nat_lt 0 (length s.octets)) (tcp.has_fin s.flags) (ap (λ (o : Option ℕ). is_none o && (has_octets w || tcp.has_fin w.flags)) (sym none) ∙ right.base)

    empty : (octets : List ℕ) → nat_lt 0 (length octets) ≡ false → octets ≡ []
    empty [] e = refl
    empty (x ∷ xs) e = let h = ltb-false 0 (length (x ∷ xs)) e in absurd (omega (arith, h))

    some : (o : Option ℕ) (n : ℕ) → option_or o (Some n) ≡ None → ⊥
    some None n e = absurd (cc e)
    some (Some m) n e = absurd (cc e)

    mute : (c : Bool) → tcp.has_syn s.flags ≡ c → c ≡ false
    mute false is = refl
    mute true is =
        let fixed : fixes w ≡ Some ((s.sequence + 1) % 2 ^ 32) = ap (λ (c : Bool). if c then Some ((s.sequence + 1) % 2 ^ 32) else None) is in
        absurd (some (base_of ws) ((s.sequence + 1) % 2 ^ 32) (ap (option_or (base_of ws)) (sym fixed) ∙ sym (base_push ws w) ∙ none))

pub told : EraLaws → (base : ℕ) (ws : List Written) (s : Segment) → HasNoOtherBase base (ws ++ written_of true s ∷ []) → IsRight ws (written_of true s) → IsTold base (ws ++ written_of true s ∷ []) (off base (acked base ws) s.sequence) s
told laws base ws s only right = by (base_of (ws ++ written_of true s ∷ [])) refl
  where
    by : (o : Option ℕ) → base_of (ws ++ written_of true s ∷ []) ≡ o → IsTold base (ws ++ written_of true s ∷ []) (off base (acked base ws) s.sequence) s
    by None e = let q = silent_unbased ws s e right in silent_is_told laws base (acked base ws) (ws ++ written_of true s ∷ []) s q.no_octets q.no_syn q.no_fin
    by (Some b) e = told_based laws base ws s (e ∙ ap (λ n. Some n) (only b e)) right

-- no octet is at or past the end
abbrev pub EndsBehind : (base : ℕ) → List Written → Type 0
EndsBehind base ws = (o : ℤ) (x : ℕ) (end : ℤ) → first base ws o ≡ Some x → end_of base ws ≡ Some end → o <ℤ end

-- an octet at an offset has an index in the segment
indexed : (octets : List ℕ) (z o : ℤ) (x : ℕ) → get_at octets (natural (o -ℤ z)) ≡ Some x → (i : ℕ) × (slice_get octets i ≡ Some x) × (o ≡ (z +ℤ pos i))
indexed octets z o x e = by (o -ℤ z) refl e
  where
    by : (d : ℤ) → (o -ℤ z) ≡ d → get_at octets (natural d) ≡ Some x → (i : ℕ) × (slice_get octets i ≡ Some x) × (o ≡ (z +ℤ pos i))
    by (pos i) is there = (i, there, omega (arith, ints, is))
    by (negsuc i) is there = absurd (cc there)

-- with an inward segment without a fault no octet is at or past the end
pub ends_on : (base : ℕ) (ws : List Written) (s : Segment) → base_of (ws ++ written_of true s ∷ []) ≡ Some base → IsRight ws (written_of true s) → EndsBehind base ws → EndsBehind base (ws ++ written_of true s ∷ [])
ends_on base ws s based right before o x end ex ee = by (end_of base ws) refl (sym (end_push base ws w) ∙ ee)
  where
    w : Written
    w = written_of true s

    place : ℤ
    place = off base (acked base ws) s.sequence

    strays : some_strays (first base ws) (end_of base ws) place s.octets ≡ false
    strays = ap (λ b. some_strays (first b ws) (end_of b ws) (off b (acked b ws) s.sequence) s.octets) (sym (ap number_in based)) ∙ right.octet

    fin : (tcp.has_fin s.flags && fin_strays (end_of base ws) (top base (ws ++ w ∷ [])) (place +ℤ pos (length s.octets))) ≡ false
    fin = ap (λ b. tcp.has_fin s.flags && fin_strays (end_of b ws) (top b (ws ++ w ∷ [])) (off b (acked b ws) s.sequence +ℤ pos (length s.octets))) (sym (ap number_in based)) ∙ right.fin

    -- there is an end before the segment: its octets are below it
    pinned : (e : ℤ) → end_of base ws ≡ Some e → (p : Option ℕ) → first base ws o ≡ p → option_or p (octet_at base (acked base ws) o w) ≡ Some x → o <ℤ e
    pinned e is (Some y) f h = before o y e f is
    pinned e is None f h =
        let at = indexed s.octets place o x h in
        let none = none_strays (first base ws) (end_of base ws) place s.octets at.0 x strays at.1 in
        let past : int_le e (place +ℤ pos at.0) ≡ false = ap (λ q. is_past q (place +ℤ pos at.0)) (sym is) ∙ none.1 in
        let there = at.2 in
        grind (arith, ints, past, there)

    -- the segment has the first FIN: it is after all octets
    opened : (f : Bool) → tcp.has_fin s.flags ≡ f → end_of base ws ≡ None → (if f then Some (place +ℤ pos (length s.octets)) else None) ≡ Some end → o <ℤ end
    opened false is none h = absurd (cc h)
    opened true is none h =
        let at : (place +ℤ pos (length s.octets)) ≡ end = cc h in
        let high = below_top base (ws ++ w ∷ []) o x ex in
        let low : int_lt (place +ℤ pos (length s.octets)) (top base (ws ++ w ∷ [])) ≡ false =
        ap₂ (λ (g : Bool) q. g && fin_strays q (top base (ws ++ w ∷ [])) (place +ℤ pos (length s.octets))) (sym is) (sym none) ∙ fin in
        grind (arith, ints, at, high, low)

    by : (q : Option ℤ) → end_of base ws ≡ q → option_or (end_of base ws) (fin_place base (acked base ws) w) ≡ Some end → o <ℤ end
    by (Some e) is h =
        let same : e ≡ end = cc (ap (λ p. option_or p (fin_place base (acked base ws) w)) (sym is) ∙ h) in
        subst (λ n. o <ℤ n) same (pinned e is (first base ws o) refl (sym (octet_push base ws w o) ∙ ex))
    by None is h = opened (tcp.has_fin s.flags) refl is (ap (λ p. option_or p (fin_place base (acked base ws) w)) (sym is) ∙ h)

pub ends_silent : SilenceChangesNothing → (base : ℕ) (ws : List Written) (w : Written) → IsSilent w → EndsBehind base ws → EndsBehind base (ws ++ w ∷ [])
ends_silent silence base ws w silent before o x end ex ee =
    let same = silence ws w silent in
    before o x end (sym (same.first_is base o) ∙ ex) (sym (same.end_is base) ∙ ee)

pub ends_outward : (base : ℕ) (ws : List Written) (w : Written) → w.inward ≡ false → EndsBehind base ws → EndsBehind base (ws ++ w ∷ [])
ends_outward base ws w out before o x end ex ee = before o x end (sym same_first_octet ∙ ex) (sym same_fin ∙ ee)
  where
    same_first_octet : first base (ws ++ w ∷ []) o ≡ first base ws o
    same_first_octet = octet_push base ws w o ∙ ap (option_or (first base ws o)) (ap (λ (i : Bool). if i then get_at w.octets (natural (o -ℤ off base (acked base ws) w.seq)) else None) out) ∙ or_none (first base ws o)

    same_fin : end_of base (ws ++ w ∷ []) ≡ end_of base ws
    same_fin = end_push base ws w ∙ ap (option_or (end_of base ws)) (ap (λ (i : Bool). if i && tcp.has_fin w.flags then Some (off base (acked base ws) w.seq +ℤ pos (length w.octets)) else None) out) ∙ or_none (end_of base ws)

-- A segment that is emitted in an era has no fault, even if silent segments are between those
-- before it.

-- two lists have the same quantities for the tests of faults
pub record Alike (ws vs : List Written) : Type 0 where
  pub base_is : base_of vs ≡ base_of ws
  pub acked_is : (base : ℕ) → acked base vs ≡ acked base ws
  pub last_is : (base : ℕ) → last_end base vs ≡ last_end base ws
  pub end_is : (base : ℕ) → end_of base vs ≡ end_of base ws
  pub first_is : (base : ℕ) (offset : ℤ) → first base vs offset ≡ first base ws offset

pub alike_none : Alike [] []
alike_none = record { base_is = refl; acked_is = λ base. refl; last_is = λ base. refl; end_is = λ base. refl; first_is = λ base offset. refl }

-- the same segment is added to both lists
pub alike_on : (ws vs : List Written) (w : Written) → Alike ws vs → Alike (ws ++ w ∷ []) (vs ++ w ∷ [])
alike_on ws vs w a = record {
  base_is = base_push vs w ∙ ap (λ o. option_or o (fixes w)) a.base_is ∙ sym (base_push ws w);
  acked_is = λ base. acked_push base vs w ∙ ap (λ n. max n (number_in (ack_of base n w))) (a.acked_is base) ∙ sym (acked_push base ws w);
  last_is = λ base. last_push base vs w ∙ ap₂ (λ t n. greater t (octets_end base n w)) (a.last_is base) (a.acked_is base) ∙ sym (last_push base ws w);
  end_is = λ base. end_push base vs w ∙ ap₂ (λ o n. option_or o (fin_place base n w)) (a.end_is base) (a.acked_is base) ∙ sym (end_push base ws w);
  first_is = λ base offset. octet_push base vs w offset ∙ ap₂ (λ o n. option_or o (octet_at base n offset w)) (a.first_is base offset) (a.acked_is base) ∙ sym (octet_push base ws w offset);
}

-- a silent segment is added to the second list
pub alike_silent : SilenceChangesNothing → (ws vs : List Written) (w : Written) → IsSilent w → Alike ws vs → Alike ws (vs ++ w ∷ [])
alike_silent silence ws vs w silent a =
    let same = silence vs w silent in
    record {
      base_is = same.numbers.base_is ∙ a.base_is;
      acked_is = λ base. same.numbers.acked_is base ∙ a.acked_is base;
      last_is = λ base. last_same base vs w (bare_end base (acked base vs) w silent.no_octets) ∙ a.last_is base;
      end_is = λ base. same.end_is base ∙ a.end_is base;
      first_is = λ base offset. same.first_is base offset ∙ a.first_is base offset;
    }

-- an outward segment that does not acknowledge is added to the first list
pub alike_idle : (ws vs : List Written) (w : Written) → w.inward ≡ false → acknowledges w ≡ false → Alike ws vs → Alike (ws ++ w ∷ []) vs
alike_idle ws vs w out idle a = record {
  base_is = a.base_is ∙ sym (base_push ws w ∙ ap (option_or (base_of ws)) no_base ∙ or_none (base_of ws));
  acked_is = λ base. a.acked_is base ∙ sym (acked_push base ws w ∙ ap (λ (b : Bool). max (acked base ws) (number_in (if b then natural (off base (acked base ws) w.ack) else None))) idle ∙ max-zero (acked base ws));
  last_is = λ base. a.last_is base ∙ sym (last_same base ws w (outward_end base (acked base ws) w out));
  end_is = λ base. a.end_is base ∙ sym (end_push base ws w ∙ ap (option_or (end_of base ws)) (no_fin base) ∙ or_none (end_of base ws));
  first_is = λ base offset. a.first_is base offset ∙ sym (octet_push base ws w offset ∙ ap (option_or (first base ws offset)) (no_octet base offset) ∙ or_none (first base ws offset));
}
  where
    no_ack : tcp.has_ack w.flags ≡ false
    no_ack = ap (λ (i : Bool). not i && tcp.has_ack w.flags) (sym out) ∙ idle

    no_base : fixes w ≡ None
    no_base =
        ap (λ (i : Bool). if i then (if tcp.has_syn w.flags then Some ((w.seq + 1) % 2 ^ 32) else None) else (if tcp.has_ack w.flags && not (tcp.has_rst w.flags) then Some w.ack else None)) out
        ∙ ap (λ (b : Bool). if b && not (tcp.has_rst w.flags) then Some w.ack else None) no_ack

    no_fin : (base : ℕ) → fin_place base (acked base ws) w ≡ None
    no_fin base = ap (λ (i : Bool). if i && tcp.has_fin w.flags then Some (off base (acked base ws) w.seq +ℤ pos (length w.octets)) else None) out

    no_octet : (base : ℕ) (o : ℤ) → octet_at base (acked base ws) o w ≡ None
    no_octet base o = ap (λ (i : Bool). if i then get_at w.octets (natural (o -ℤ off base (acked base ws) w.seq)) else None) out

-- a segment without a fault after one list has none after the other
pub right_alike : (ws vs : List Written) (w : Written) → Alike ws vs → IsRight ws w → IsRight vs w
right_alike ws vs w a right = record {
  base = ap (λ o. is_none o && (has_octets w || tcp.has_fin w.flags)) on.base_is ∙ right.base;
  syn = ap (λ o. tcp.has_syn w.flags && not (precedes o w.seq)) on.base_is ∙ right.syn;
  octet =
      ap (λ b. some_strays (first b vs) (end_of b vs) (off b (acked b vs) w.seq) w.octets) (ap number_in on.base_is)
      ∙ (λ i. some_strays (λ offset. a.first_is base offset i) (a.end_is base i) (off base (a.acked_is base i) w.seq) w.octets)
      ∙ right.octet;
  fin =
      ap (λ b. tcp.has_fin w.flags && fin_strays (end_of b vs) (top b (vs ++ w ∷ [])) (off b (acked b vs) w.seq +ℤ pos (length w.octets))) (ap number_in on.base_is)
      ∙ (λ i. tcp.has_fin w.flags && fin_strays (a.end_is base i) (place_in (on.last_is base i)) (off base (a.acked_is base i) w.seq +ℤ pos (length w.octets)))
      ∙ right.fin;
}
  where
    on : Alike (ws ++ w ∷ []) (vs ++ w ∷ [])
    on = alike_on ws vs w a

    base : ℕ
    base = number_in (base_of (ws ++ w ∷ []))

-- a silent segment has no fault
pub right_silent : (ws : List Written) (w : Written) → IsSilent w → IsRight ws w
right_silent ws w s = record {
  base = and_right (is_none (base_of (ws ++ w ∷ []))) (has_octets w || tcp.has_fin w.flags) (ap₂ (λ (os : List ℕ) (f : Bool). nat_lt 0 (length os) || f) s.no_octets s.no_fin);
  syn = ap (λ f. f && not (precedes (base_of (ws ++ w ∷ [])) w.seq)) s.no_syn;
  octet = ap (some_strays (first base ws) (end_of base ws) (off base (acked base ws) w.seq)) s.no_octets;
  fin = ap (λ f. f && fin_strays (end_of base ws) (top base (ws ++ w ∷ [])) (off base (acked base ws) w.seq +ℤ pos (length w.octets))) s.no_fin;
}
  where
    base : ℕ
    base = number_in (base_of (ws ++ w ∷ []))

-- octets do not stray if each equals the first one at its offset, if there is one, and is before
-- the end
none_stray : (f : ℤ → Option ℕ) (end : Option ℤ) (z : ℤ) (octets : List ℕ)
    → ((i x : ℕ) → slice_get octets i ≡ Some x → (is_other (f (z +ℤ pos i)) x ≡ false) × (is_past end (z +ℤ pos i) ≡ false)) → some_strays f end z octets ≡ false
none_stray f end z [] h = refl
none_stray f end z (y ∷ octets) h =
    let here = h zero y refl in
    let at : z ≡ (z +ℤ pos 0) = omega (arith, ints) in
    ap₂ (λ (a b : Bool). a || b)
    (ap₂ (λ (a b : Bool). a || b) (ap (λ n. is_other (f n) y) at ∙ here.0) (ap (is_past end) at ∙ here.1))
    (none_stray f end (z +ℤ pos 1) octets next)
  where
    next : (i x : ℕ) → slice_get octets i ≡ Some x → (is_other (f ((z +ℤ pos 1) +ℤ pos i)) x ≡ false) × (is_past end ((z +ℤ pos 1) +ℤ pos i) ≡ false)
    next i x has =
        let there = h (suc i) x has in
        let at : ((z +ℤ pos 1) +ℤ pos i) ≡ (z +ℤ pos (suc i)) = omega (arith, ints) in
        (ap (λ n. is_other (f n) x) at ∙ there.0, ap (is_past end) at ∙ there.1)

-- a segment that agrees with its era has no fault, if this base is fixed before it or by it
right_based : EraLaws → EmittedOctetsArePlaces → (b : ℕ) (ws : List Written) (w : Written) → base_of (ws ++ w ∷ []) ≡ Some b → AreEmitted [] (ws ++ w ∷ []) → IsToldIn b ws w → IsRight ws w
right_based laws places b ws w based all told = record {
  base = ap (λ o. is_none o && (has_octets w || tcp.has_fin w.flags)) based;
  syn = ap (λ o. tcp.has_syn w.flags && not (precedes o w.seq)) based ∙ syn (tcp.has_syn w.flags) refl;
  octet =
      ap (λ n. some_strays (first n ws) (end_of n ws) (off n (acked n ws) w.seq) w.octets) (ap number_in based)
      ∙ none_stray (first b ws) (end_of b ws) place w.octets
      (λ i x has. (same (place +ℤ pos i) x (first b ws (place +ℤ pos i)) refl (told.octets i x has), before (place +ℤ pos i) x (end_of b ws) refl (told.octets i x has)));
  fin =
      ap (λ n. tcp.has_fin w.flags && fin_strays (end_of n ws) (top n (ws ++ w ∷ [])) (off n (acked n ws) w.seq +ℤ pos (length w.octets))) (ap number_in based)
      ∙ fin (tcp.has_fin w.flags) refl;
}
  where
    place : ℤ
    place = off b (acked b ws) w.seq

    behind : ℤ
    behind = place +ℤ pos (length w.octets)

    only : HasNoOtherBase b (ws ++ w ∷ [])
    only number f = cc (based, f)

    syn : (c : Bool) → tcp.has_syn w.flags ≡ c → (c && not (nat_eq ((w.seq + 1) % 2 ^ 32) b)) ≡ false
    syn false is = refl
    syn true is = let e = told.syn is in not_from_true (nat_eq ((w.seq + 1) % 2 ^ 32) b) (eq-eqb ((w.seq + 1) % 2 ^ 32) b e)

    same : (o : ℤ) (x : ℕ) (p : Option ℕ) → first b ws o ≡ p → first b (ws ++ w ∷ []) o ≡ Some x → is_other p x ≡ false
    same o x None is has = refl
    same o x (Some y) is has =
        let stays = (laws.remains b ws (w ∷ [])).octet_is o y is in
        let e : y ≡ x = cc (stays, has) in
        not_from_true (nat_eq y x) (eq-eqb y x e)

    before : (o : ℤ) (x : ℕ) (p : Option ℤ) → end_of b ws ≡ p → first b (ws ++ w ∷ []) o ≡ Some x → is_past p o ≡ false
    before o x None is has = refl
    before o x (Some end) is has =
        let less : o <ℤ end = (places b (ws ++ w ∷ []) based all).below_end o end x has ((laws.remains b ws (w ∷ [])).end_is end is) in
        grind (arith, ints, less)

    lies : end_of b (ws ++ w ∷ []) ≡ Some behind → EndLies (Some behind) (era.top b (ws ++ w ∷ [])) (edge b (ws ++ w ∷ []))
    lies is = subst (λ o. EndLies o (era.top b (ws ++ w ∷ [])) (edge b (ws ++ w ∷ []))) is (bounded b (ws ++ w ∷ []) only all).end_lies

    high : (z t : ℤ) (most far : ℕ) → t ≤ℤ pos most → EndLies (Some z) most far → int_lt z t ≡ false
    high (pos p) t most far low h = let above : most ≤ p = h.0 in grind (arith, ints, low, above)
    high (negsuc n) t most far low h = absurd h

    fin : (c : Bool) → tcp.has_fin w.flags ≡ c → (c && fin_strays (end_of b ws) (top b (ws ++ w ∷ [])) behind) ≡ false
    fin false is = refl
    fin true is = at (end_of b ws) refl
      where
        at : (o : Option ℤ) → end_of b ws ≡ o → fin_strays o (top b (ws ++ w ∷ [])) behind ≡ false
        at None none = high behind (top b (ws ++ w ∷ [])) (era.top b (ws ++ w ∷ [])) (edge b (ws ++ w ∷ [])) (top_most b (ws ++ w ∷ [])) (lies (told.fin is))
        at (Some end) pinned =
            let stays = (laws.remains b ws (w ∷ [])).end_is end pinned in
            let has = told.fin is in
            let e : behind ≡ end = cc (stays, has) in
            grind (arith, ints, e)

-- an inward segment that is emitted has no fault
pub emitted_right : EraLaws → EmittedOctetsArePlaces → (ws : List Written) (w : Written) → w.inward ≡ true → AreEmitted [] (ws ++ w ∷ []) → IsRight ws w
emitted_right laws places ws w inward all = ⊎_elim (λ (o : IsOutward w). absurd (cc (inward, o.outward))) emitted parts.1.0
  where
    parts : AreEmitted [] ws × AreEmitted ws (w ∷ [])
    parts = (laws.joins [] ws (w ∷ [])).0 all

    emitted : IsEmitted ws w → IsRight ws w
    emitted e = by (base_of (ws ++ w ∷ [])) refl
      where
        bare : base_of (ws ++ w ∷ []) ≡ None → IsBare ws w → IsRight ws w
        bare none b = right_silent ws w (record { inward = inward; no_syn = mute (tcp.has_syn w.flags) refl; no_fin = b.no_fin; no_octets = b.no_octets })
          where
            mute : (c : Bool) → tcp.has_syn w.flags ≡ c → c ≡ false
            mute false is = refl
            mute true is = let fixed = b.syn is in absurd (cc (none, fixed))

        kept : base_of (ws ++ w ∷ []) ≡ None → IsKeptFrame ws w → IsRight ws w
        kept none k = let stays = (laws.remains k.base ws (w ∷ [])).base_is k.base k.based in absurd (cc (none, stays))

        by : (o : Option ℕ) → base_of (ws ++ w ∷ []) ≡ o → IsRight ws w
        by None none = ⊎_elim (bare none) (kept none) e
        by (Some b) based = right_based laws places b ws w based all (laws.told b ws w (λ number f. cc (based, f)) parts.0 e)
