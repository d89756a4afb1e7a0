-- A ledger with one more outbound segment: the base that it fixes, and what it acknowledges; no
-- number of it overflows.
use Rattle.std.proofs.Common.{◌≡◌, ℕ, ◌+◌, ◌%◌, ◌^◌, ◌&&◌, not, List, [], ◌∷◌, ◌++◌, length, Option, Some, None, is_some, Bool, true, false, refl, sym, ap, ap₂, ◌∙◌, subst, if◌then◌else◌, ◌||◌, append-nil, ◌*◌, ◌<◌, ◌≤◌, length-append, arith, nat_eq, ℤ, pos, ◌+ℤ◌, ◌-ℤ◌, max}
use Rattle.std.specs.Option.{option_or}
use Rattle.std.proofs.Math.Nat.{max-zero}
use Rattle.wire_base.specs.Tcp as tcp
use Rattle.wire_base.specs.Segments.{Written, Segment, segment_of, written_of}
use Rattle.era_state.specs.Offsets.{off, natural, number_in}
use Rattle.era_state.specs.SegmentMarks.{get_at, octet_at, fin_place, fixes, ack_of}
use Rattle.era_state.specs.Quantities.{base_of, acked, first, end_of, base_at}
use Rattle.era_state.specs.EmissionLaws.{HasNoOtherBase}
use Rattle.era_state.proofs.Quantities.{or_none, or_kept, base_push, acked_push, octet_push, end_push}
use Rattle.era_state.proofs.SameNumbers.{acked_same, pushed}
use Rattle.era_agreement.specs.SentPackets.{is_era, written_as, segments_in, written_in}
use Rattle.indexmap.specs.IndexMap.{get}
use Rattle.era_state.specs.QuantityLaws.{AckedGrowsNear}
use Rattle.run_audit.specs.declared.ledger.Ledger.{Ledger}
use Rattle.run_audit.specs.working.EraLedgers.{IsOutward, Tells, StandsFor, acked_with, counted}
use Rattle.run_audit.specs.OwnedFrames.{Frame, is_based, is_inward, sent}
use Rattle.run_audit.specs.SoundFiles.{IsReadFromBase, EachIsReadFromBase, all_written}
use Rattle.run_audit.specs.working.EraTable.{Eras, EraHasRoom, EraStands, StandsForFew}
use Rattle.run_audit.proofs.KeptOctets.{last_same, outward_end}
use Rattle.run_audit.proofs.Receivers.{named_is}
use Rattle.run_audit.proofs.Frames.{none_of}

-- A ledger with one more segment that went outwards.

-- the base that an outward segment fixes, if it fixes one
fixes_out : (f n : ℕ) (w : Written) → IsOutward f n w → fixes w ≡ (if tcp.has_ack f && not (tcp.has_rst f) then Some n else None)
fixes_out f n w is =
    ap (λ (i : Bool). if i then (if tcp.has_syn w.flags then Some ((w.seq + 1) % 2 ^ 32) else None) else (if tcp.has_ack w.flags && not (tcp.has_rst w.flags) then Some w.ack else None)) is.inward_is
    ∙ ap₂ (λ g a. if tcp.has_ack g && not (tcp.has_rst g) then Some a else None) is.flags_are is.number_is

ack_out : (base a f n : ℕ) (w : Written) → IsOutward f n w → ack_of base a w ≡ (if tcp.has_ack f then natural (off base a n) else None)
ack_out base a f n w is =
    ap (λ (i : Bool). if not i && tcp.has_ack w.flags then natural (off base a w.ack) else None) is.inward_is
    ∙ ap₂ (λ g m. if tcp.has_ack g then natural (off base a m) else None) is.flags_are is.number_is

-- the fields with an outward segment, if `a` is the acknowledged offset with it
tells_outward : (base a : ℕ) (o : Option ℕ) (l : Ledger) (ws : List Written) (w : Written) → w.inward ≡ false → a ≡ acked base (ws ++ w ∷ []) → Tells base l ws → Tells base (record l { base = o; acked = a }) (ws ++ w ∷ [])
tells_outward base a o l ws w out acked_is t = record {
  acked_is = acked_is;
  top_is = t.top_is ∙ sym (last_same base ws w (outward_end base (acked base ws) w out));
  end_is = t.end_is ∙ sym (end_push base ws w ∙ ap (option_or (end_of base ws)) no_fin ∙ or_none (end_of base ws));
  octets_are = λ raised. t.octets_are raised ∙ sym (octet_push base ws w _ ∙ ap (option_or (first base ws _)) (no_octet _) ∙ or_none _);
}
  where
    no_fin : fin_place base (acked base ws) w ≡ None
    no_fin = ap (λ (i : Bool). if i && tcp.has_fin w.flags then Some (off base (acked base ws) w.seq +ℤ pos (length w.octets)) else None) out

    no_octet : (o : ℤ) → octet_at base (acked base ws) o w ≡ None
    no_octet o = ap (λ (i : Bool). if i then get_at w.octets (natural (o -ℤ off base (acked base ws) w.seq)) else None) out

pub other_before : (base : ℕ) (ws : List Written) (w : Written) → HasNoOtherBase base (ws ++ w ∷ []) → HasNoOtherBase base ws
other_before base ws w only number e = only number (base_push ws w ∙ or_kept (base_of ws) (fixes w) number e)

-- an outward segment is counted exactly if a base is fixed before it or by it
abbrev CountedAs : Ledger → List Written → Written → Option ℕ → Type 0
CountedAs l ws w o = StandsFor l (if is_some o then ws ++ w ∷ [] else ws)

-- the segment does not acknowledge
pub unacknowledging : (l : Ledger) (f n : ℕ) (ws : List Written) (w : Written) → StandsFor l ws → IsOutward f n w → tcp.has_ack f ≡ false → StandsFor l (counted ws w)
unacknowledging l f n ws w st is idle = subst (CountedAs l ws w) (sym base_same) (by (base_of ws))
  where
    base_same : base_of (ws ++ w ∷ []) ≡ base_of ws
    base_same = base_push ws w ∙ ap (option_or (base_of ws)) (fixes_out f n w is ∙ ap (λ (a : Bool). if a && not (tcp.has_rst f) then Some n else None) idle) ∙ or_none (base_of ws)

    same : (base : ℕ) → acked base (ws ++ w ∷ []) ≡ acked base ws
    same base = acked_push base ws w ∙ ap (λ o. max (acked base ws) (number_in o)) (ack_out base (acked base ws) f n w is ∙ ap (λ (a : Bool). if a then natural (off base (acked base ws) n) else None) idle) ∙ max-zero (acked base ws)

    by : (o : Option ℕ) → CountedAs l ws w o
    by None = st
    by (Some b) = record {
      base_is = st.base_is ∙ sym base_same;
      tells = λ base only.
          let t = st.tells base (other_before base ws w only) in
          let with_it = tells_outward base l.acked l.base l ws w is.inward_is (t.acked_is ∙ sym (same base)) t in
          record { acked_is = with_it.acked_is; top_is = with_it.top_is; end_is = with_it.end_is; octets_are = with_it.octets_are };
    }

-- the acknowledged offset with the segment
acked_on : (base f n : ℕ) (ws : List Written) (w : Written) → IsOutward f n w → tcp.has_ack f ≡ true → acked base (ws ++ w ∷ []) ≡ acked_with base (acked base ws) n
acked_on base f n ws w is acks = acked_push base ws w ∙ ap (λ o. max (acked base ws) (number_in o)) (ack_out base (acked base ws) f n w is ∙ ap (λ (a : Bool). if a then natural (off base (acked base ws) n) else None) acks)

pub one_base : (base other : ℕ) (ws : List Written) → base_of ws ≡ Some base → base_of ws ≡ Some other → base ≡ other
one_base base other ws e f = cc (e, f)

-- the segment acknowledges, and the base fixed before it or by it is this one
reached : (l : Ledger) (b f n : ℕ) (ws : List Written) (w : Written) → StandsFor l ws → IsOutward f n w → tcp.has_ack f ≡ true → base_of (ws ++ w ∷ []) ≡ Some b → StandsFor (record l { base = Some b; acked = acked_with b l.acked n }) (counted ws w)
reached l b f n ws w st is acks based = subst (CountedAs (record l { base = Some b; acked = acked_with b l.acked n }) ws w) (sym based) (record {
  base_is = sym based;
  tells = λ base only.
      let t = st.tells base (other_before base ws w only) in
      let same : b ≡ base = only b based in
      tells_outward base (acked_with b l.acked n) (Some b) l ws w is.inward_is ((λ i. acked_with (same i) (t.acked_is i) n) ∙ sym (acked_on base f n ws w is acks)) t;
})

none_or : {A : Type 0} (o p : Option A) → o ≡ None → option_or o p ≡ p
none_or o p e = ap (λ q. option_or q p) e

-- a base was fixed before
pub reached_on : (l : Ledger) (b f n : ℕ) (ws : List Written) (w : Written) → StandsFor l ws → IsOutward f n w → tcp.has_ack f ≡ true → l.base ≡ Some b → StandsFor (record l { acked = acked_with b l.acked n }) (counted ws w)
reached_on l b f n ws w st is acks based =
    let P : Option ℕ → Type 0 = λ o. StandsFor (record l { base = o; acked = acked_with b l.acked n }) (counted ws w) in
    subst P (sym based) (reached l b f n ws w st is acks (base_push ws w ∙ or_kept (base_of ws) (fixes w) b (sym st.base_is ∙ based)))

-- no base was fixed before, and the segment fixes none
pub reset : (l : Ledger) (f n : ℕ) (ws : List Written) (w : Written) → StandsFor l ws → IsOutward f n w → tcp.has_ack f ≡ true → tcp.has_rst f ≡ true → l.base ≡ None → StandsFor l (counted ws w)
reset l f n ws w st is acks rst unbased = subst (CountedAs l ws w) (sym after) st
  where
    after : base_of (ws ++ w ∷ []) ≡ None
    after = base_push ws w ∙ none_or (base_of ws) (fixes w) (sym st.base_is ∙ unbased) ∙ fixes_out f n w is ∙ ap₂ (λ (a r : Bool). if a && not r then Some n else None) acks rst

-- no base was fixed before, and the segment fixes one
pub opened : (l : Ledger) (f n : ℕ) (ws : List Written) (w : Written) → StandsFor l ws → IsOutward f n w → tcp.has_ack f ≡ true → tcp.has_rst f ≡ false → l.base ≡ None → StandsFor (record l { base = Some n; acked = acked_with n l.acked n }) (counted ws w)
opened l f n ws w st is acks rst unbased =
    reached l n f n ws w st is acks (base_push ws w ∙ none_or (base_of ws) (fixes w) (sym st.base_is ∙ unbased) ∙ fixes_out f n w is ∙ ap₂ (λ (a r : Bool). if a && not r then Some n else None) acks rst)

-- The segments that are not counted fix no base, and nothing is acknowledged before one is fixed.

or_assoc : (a b c : Option ℕ) → option_or a (option_or b c) ≡ option_or (option_or a b) c
or_assoc None b c = refl
or_assoc (Some x) b c = refl

base_append : (xs ys : List Written) → base_of (xs ++ ys) ≡ option_or (base_of xs) (base_of ys)
base_append [] ys = refl
base_append (x ∷ xs) ys = ap (option_or (fixes x)) (base_append xs ys) ∙ or_assoc (fixes x) (base_of xs) (base_of ys)

left_none : (o p : Option ℕ) → option_or o p ≡ None → o ≡ None
left_none None p e = refl
left_none (Some x) p e = absurd (cc e)

-- if segments fix no base, those at their front fix none
unbased_before : (xs ys : List Written) → base_of (xs ++ ys) ≡ None → base_of xs ≡ None
unbased_before xs ys e = left_none (base_of xs) (base_of ys) (sym (base_append xs ys) ∙ e)

inward_same : (base : ℕ) (ws : List Written) (o : Option Segment) → acked base (ws ++ (written_as true o ++ [])) ≡ acked base ws
inward_same base ws None = ap (acked base) (append-nil ws)
inward_same base ws (Some s) = acked_same base ws (written_of true s) refl

pub read_from_base : EachIsReadFromBase
read_from_base era [] = record { base_is = refl; unbased = λ none base. refl }
read_from_base era (f ∷ older) = by (read_from_base era older) (is_era era f.era) refl (is_inward f.side) (is_based (sent older) f.era f.packet) refl
  where
    ws : List Written
    ws = written_in era (sent older)

    vs : List Written
    vs = all_written era older

    segs : Bool → List Written
    segs inw = segments_in inw (f.packet ∷ [])

    -- the same segments are added to both lists
    with_same : (zs : List Written) → base_of ws ≡ base_of vs → base_of (ws ++ zs) ≡ base_of (vs ++ zs)
    with_same zs e = base_append ws zs ∙ ap (λ o. option_or o (base_of zs)) e ∙ sym (base_append vs zs)

    -- nothing is added to one list, and segments that fix no base to the other
    with_none : base_of ws ≡ base_of vs → base_of (ws ++ segs false) ≡ None → base_of (ws ++ []) ≡ base_of (vs ++ segs false)
    with_none e none = ap base_of (append-nil ws) ∙ unbased_before ws (segs false) none ∙ sym none ∙ with_same (segs false) e

    counted : is_era era f.era ≡ true → (based : Bool) → is_based (sent older) f.era f.packet ≡ based → is_some (base_of (ws ++ segs false)) ≡ based
    counted named based is = sym (ap (λ o. is_based (sent older) o f.packet) (named_is era f.era named)) ∙ is

    by : IsReadFromBase ws vs → (named : Bool) → is_era era f.era ≡ named → (inw based : Bool) → is_based (sent older) f.era f.packet ≡ based
        → IsReadFromBase (ws ++ (if named && (inw || based) then segs inw else [])) (vs ++ (if named && true then segs inw else []))
    by go false e inw based is = record { base_is = with_same [] go.base_is; unbased = λ none base. ap (acked base) (append-nil ws) ∙ go.unbased (unbased_before ws [] none) base }
    by go true e true based is = record { base_is = with_same (segs true) go.base_is; unbased = λ none base. inward_same base ws (segment_of f.packet) ∙ go.unbased (unbased_before ws (segs true) none) base }
    by go true e false true is = record { base_is = with_same (segs false) go.base_is; unbased = λ none base. let never : true ≡ false = sym (counted e true is) ∙ ap is_some none in absurd (cc never) }
    by go true e false false is = record {
      base_is = with_none go.base_is (none_of (base_of (ws ++ segs false)) (counted e false is));
      unbased = λ none base. ap (acked base) (append-nil ws) ∙ go.unbased (unbased_before ws [] none) base;
    }

-- The numbers of each era do not overflow, since there are fewer than 2^32 frames.

acked_from : AckedGrowsNear → (base : ℕ) (before ws : List Written) → acked base (before ++ ws) ≤ acked base before + length ws * 2 ^ 31
acked_from near base before [] = let e = ap (acked base) (append-nil before) in omega (arith, e)
acked_from near base before (w ∷ ws) =
    let e = ap (acked base) (pushed before w ws) in
    let h = acked_from near base (before ++ w ∷ []) ws in
    let k = near base before w in
    omega (arith, e, h, k)

-- the acknowledged offset grows by less than 2^31 with each segment
pub acked_small : AckedGrowsNear → (base : ℕ) (ws : List Written) → acked base ws ≤ length ws * 2 ^ 31
acked_small near base ws = let h = acked_from near base [] ws in omega (arith, h)

one_at_most : (inward : Bool) (o : Option Segment) → length (written_as inward o ++ []) ≤ 1
one_at_most inward None = omega arith
one_at_most inward (Some s) = omega arith

-- an era has at most as many segments as there are frames
written_few : (era : ℕ) (frames : List Frame) → length (written_in era (sent frames)) ≤ length frames
written_few era [] = omega arith
written_few era (f ∷ older) =
    let h = written_few era older in
    let counts : Bool = is_era era f.era && (is_inward f.side || is_based (sent older) f.era f.packet) in
    let e = length-append (written_in era (sent older)) (if counts then segments_in (is_inward f.side) (f.packet ∷ []) else []) in
    let k = by counts in
    omega (arith, h, e, k)
  where
    by : (b : Bool) → length (if b then segments_in (is_inward f.side) (f.packet ∷ []) else []) ≤ 1
    by true = one_at_most (is_inward f.side) (segment_of f.packet)
    by false = omega arith

ledger_has_room : AckedGrowsNear → (l : Ledger) (ws : List Written) → StandsFor l ws → length ws < 2 ^ 32 → l.acked < 2 ^ 63
ledger_has_room near l ws st few =
    let a = (st.tells (base_at ws) (λ number e. sym (ap number_in e))).acked_is in
    let b = acked_small near (base_at ws) ws in
    omega (arith, a, b, few)

pub era_has_room : AckedGrowsNear → (eras : Eras) (era : ℕ) → StandsForFew eras → EraHasRoom (get nat_eq eras era)
era_has_room near eras era s = by (get nat_eq eras era) (s.stand era)
  where
    by : (o : Option Ledger) → EraStands o (written_in era (sent s.frames)) → EraHasRoom o
    by None h = tt
    by (Some l) h = ledger_has_room near l (written_in era (sent s.frames)) h (let k = written_few era s.frames in let f = s.few in omega (arith, k, f))
