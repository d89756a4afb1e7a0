-- Emitted segments: how far they are from Acked and from the windows, and that each octet is the
-- first at its offset.
use Rattle.std.proofs.Common.{◌≡◌, ℕ, ◌+◌, ◌*◌, ◌^◌, ◌<◌, ◌≤◌, List, [], ◌∷◌, ◌++◌, length, Option, Some, None, Bool, true, false, ◌&&◌, refl, sym, ◌∙◌, ap, arith, subst, ◌⊎◌, inl, inr, ⊎_elim, ◌%◌, append-nil, max, ℤ, pos, negsuc, ◌+ℤ◌, ◌-ℤ◌, if◌then◌else◌, ◌<ℤ◌, slice_get, nat_lt, ◌≤ℤ◌}
use Rattle.std.specs.Option.{option_or}
use Rattle.std.proofs.Math.Nat.{max-zero}
use Rattle.std.proofs.lemmas.Int.{ints}
use Rattle.std.proofs.lemmas.Bool.{cases_lt}
use Rattle.std.proofs.lemmas.Bool.Decides.{nat_tests}
use Rattle.std.proofs.lemmas.Option.{slice_get_within, slice_get_past}
use Rattle.wire_base.specs.Tcp as tcp
use Rattle.wire_base.specs.Segments.{Written}
use Rattle.era_state.specs.Offsets.{off, natural, nat_of, number_in}
use Rattle.era_state.specs.SegmentMarks.{has_octets, get_at, ack_of, edge_place, octet_at}
use Rattle.era_state.specs.Quantities.{acked, edge, top, first, end_of, shift, shift_with, out_seen, in_seen, in_scaled, out_scaled, out_scale, base_of}
use Rattle.era_state.specs.ForwardedOctets.{bounds}
use Rattle.era_state.specs.Emission.{IsOutward, IsBare, IsKeptFrame, IsEmitted, AreEmitted}
use Rattle.era_state.specs.declared.offset.Interval.{Interval}
use Rattle.era_state.specs.EmissionLaws.{EmittedJoins, HasNoOtherBase, IsTold, EmittedIsTold, EmittedOctetsArePlaces, UnbasedHasNoOctet, IsNearAcked, EmittedIsNear}
use Rattle.era_state.proofs.Quantities.{or_none, acked_push, edge_push, top_push, octet_push, end_push, first_past}
use Rattle.era_state.proofs.SameNumbers.{no_octet, no_top, no_end, acked_same, edge_same, pushed, written_remains}
use Rattle.era_state.proofs.Offsets.{scaled_small, Lies}
use Rattle.era_state.proofs.Frames.{EndLies, BoundsLie, FrameIn, Stands, frame_in, lies_in, octets_begin, stands, fin_stands, fin_place_is, top_place_is, octets_in}

-- The relation of what was written of an era to its windows.

pub record Bounded (base : ℕ) (ws : List Written) : Type 0 where
  pub reached : acked base ws ≤ edge base ws
  pub small : edge base ws ≤ acked base ws + 65535 * 2 ^ 14
  pub top_in_window : top base ws ≤ edge base ws + 1
  pub end_lies : EndLies (end_of base ws) (top base ws) (edge base ws)
  pub none_below : (n : ℕ) → first base ws (negsuc n) ≡ None

pub lie : (base : ℕ) (ws : List Written) → Bounded base ws → BoundsLie (bounds base ws)
lie base ws h = record { small = h.small; end_lies = h.end_lies }

pub bounded_none : (base : ℕ) → Bounded base []
bounded_none base = record { reached = omega arith; small = omega arith; top_in_window = omega arith; end_lies = tt; none_below = λ n. refl }

pub end_further : (o : Option ℤ) (top edge further : ℕ) → edge ≤ further → EndLies o top edge → EndLies o top further
end_further None top edge further more h = tt
end_further (Some (pos place)) top edge further more h = let below = h.1 in (h.0, omega (arith, below, more))
end_further (Some (negsuc n)) top edge further more h = h

shift_with_small : (a b c d : Bool) (n : ℕ) → n ≤ 14 → shift_with a b c d n ≤ 14
shift_with_small true true true true n h = h
shift_with_small true true true false n h = omega arith
shift_with_small true true false d n h = omega arith
shift_with_small true false c d n h = omega arith
shift_with_small false b c d n h = omega arith

shift_small : (ws : List Written) → shift ws ≤ 14
shift_small ws = shift_with_small (out_seen ws) (in_seen ws) (out_scaled ws) (in_scaled ws) (out_scale ws) (omega arith)

record Reaches (place edge : ℕ) : Type 0 where
  at_least : place ≤ edge
  at_most : edge ≤ place + 65535 * 2 ^ 14

-- the reach of a window of 16 bits
edge_near : (o : Option ℕ) (bits : ℕ) (w : Written) → w.window < 2 ^ 16 → bits ≤ 14 → Reaches (number_in o) (edge_place o bits w)
edge_near None bits w small few = record { at_least = omega arith; at_most = omega arith }
edge_near (Some place) bits w small few = by (tcp.has_syn w.flags)
  where
    by : (b : Bool) → Reaches place (place + w.window * (if b then 1 else 2 ^ bits))
    by true = record { at_least = omega arith; at_most = omega (arith, small) }
    by false = let most = scaled_small w.window bits small few in record { at_least = omega arith; at_most = omega (arith, most) }

-- an outbound segment
pub bounded_outward : (base : ℕ) (ws : List Written) (w : Written) → IsOutward w → Bounded base ws → Bounded base (ws ++ w ∷ [])
bounded_outward base ws w o h = record {
  reached = omega (arith, a, e, near.at_least, h.reached);
  small = omega (arith, a, e, near.at_most, h.small);
  top_in_window = omega (arith, t, e, h.top_in_window);
  end_lies = subst (λ (p : Option ℤ × ℕ). EndLies p.0 p.1 (edge base (ws ++ w ∷ []))) (λ i. (sym ends i, sym t i)) (end_further (end_of base ws) (top base ws) (edge base ws) (edge base (ws ++ w ∷ [])) (omega (arith, e)) h.end_lies);
  none_below = λ n. octet_push base ws w (negsuc n) ∙ (λ i. option_or (h.none_below n i) (if o.outward i then get_at w.octets (natural (negsuc n -ℤ off base (acked base ws) w.seq)) else None));
}
  where
    near : Reaches (number_in (ack_of base (acked base ws) w)) (edge_place (ack_of base (acked base ws) w) (shift ws) w)
    near = edge_near (ack_of base (acked base ws) w) (shift ws) w o.window (shift_small ws)

    a : acked base (ws ++ w ∷ []) ≡ max (acked base ws) (number_in (ack_of base (acked base ws) w))
    a = acked_push base ws w

    e : edge base (ws ++ w ∷ []) ≡ max (edge base ws) (edge_place (ack_of base (acked base ws) w) (shift ws) w)
    e = edge_push base ws w

    t : top base (ws ++ w ∷ []) ≡ top base ws
    t = top_push base ws w ∙ (λ i. max (top base ws) (if o.outward i && has_octets w then nat_of (off base (acked base ws) w.seq +ℤ pos (length w.octets)) else 0)) ∙ max-zero (top base ws)

    ends : end_of base (ws ++ w ∷ []) ≡ end_of base ws
    ends = end_push base ws w ∙ (λ i. option_or (end_of base ws) (if o.outward i && tcp.has_fin w.flags then Some (off base (acked base ws) w.seq +ℤ pos (length w.octets)) else None)) ∙ or_none (end_of base ws)

-- an inward segment that adds nothing to the stream
pub bounded_bare : (base : ℕ) (ws : List Written) (w : Written) → IsBare ws w → Bounded base ws → Bounded base (ws ++ w ∷ [])
bounded_bare base ws w b h = record {
  reached = omega (arith, a, e, h.reached);
  small = omega (arith, a, e, h.small);
  top_in_window = omega (arith, t, e, h.top_in_window);
  end_lies = subst (λ (p : Option ℤ × ℕ × ℕ). EndLies p.0 p.1 p.2) (λ i. (sym ends i, sym t i, sym e i)) h.end_lies;
  none_below = λ n. octet_push base ws w (negsuc n) ∙ (λ i. option_or (h.none_below n i) (no_octet base (acked base ws) w (negsuc n) b.no_octets i));
}
  where
    a : acked base (ws ++ w ∷ []) ≡ acked base ws
    a = acked_same base ws w b.inward

    e : edge base (ws ++ w ∷ []) ≡ edge base ws
    e = edge_same base ws w b.inward

    t : top base (ws ++ w ∷ []) ≡ top base ws
    t = top_push base ws w ∙ ap (max (top base ws)) (no_top base (acked base ws) w b.no_octets) ∙ max-zero (top base ws)

    ends : end_of base (ws ++ w ∷ []) ≡ end_of base ws
    ends = end_push base ws w ∙ ap (option_or (end_of base ws)) (no_end base (acked base ws) w b.no_fin) ∙ or_none (end_of base ws)

-- Emitted segments, one after another.

-- a kept frame, read with this base
pub record Kept (base : ℕ) (ws : List Written) (w : Written) : Type 0 where
  pub i : Interval
  pub frame : FrameIn base (bounds base ws) i w
  pub stays : (index octet other : ℕ) → slice_get w.octets index ≡ Some octet → first base ws (pos (i.lo + index)) ≡ Some other → octet ≡ other

pub kept_here : (base : ℕ) (ws : List Written) (w : Written) (k : IsKeptFrame ws w) → k.base ≡ base → Kept base ws w
kept_here base ws w k same = record {
  i = k.interval;
  frame = frame_in base ws k.came k.interval w (ap number_in k.based ∙ same) k.kept k.framed;
  stays = λ index octet other has e. k.stays index octet other has (ap (λ b. first b ws (pos (k.interval.lo + index))) same ∙ e);
}

back : (z : ℤ) (n : ℕ) → natural ((z +ℤ pos n) -ℤ z) ≡ Some n
back z n = let e : (z +ℤ pos n) -ℤ z ≡ pos n = omega (arith, ints) in ap natural e

-- its octets
octets_are_first : (base : ℕ) (ws : List Written) (w : Written) (k : Kept base ws w) → Bounded base ws → (index octet : ℕ) → slice_get w.octets index ≡ Some octet → first base (ws ++ w ∷ []) (off base (acked base ws) w.seq +ℤ pos index) ≡ Some octet
octets_are_first base ws w k h index octet has = octet_push base ws w o ∙ by (first base ws o) refl
  where
    o : ℤ
    o = off base (acked base ws) w.seq +ℤ pos index

    there : octet_at base (acked base ws) o w ≡ Some octet
    there = (λ j. if k.frame.inward j then get_at w.octets (natural (o -ℤ off base (acked base ws) w.seq)) else None) ∙ ap (get_at w.octets) (back (off base (acked base ws) w.seq) index) ∙ has

    place : o ≡ pos (k.i.lo + index)
    place =
        let within : index < length w.octets = slice_get_within w.octets index octet has in
        let long = k.frame.long in
        let some : nat_lt k.i.lo k.i.hi ≡ true = grind (arith, nat_tests, within, long) in
        ap (λ z. z +ℤ pos index) (octets_begin base (bounds base ws) k.i w k.frame (lie base ws h) some)

    by : (p : Option ℕ) → first base ws o ≡ p → option_or p (octet_at base (acked base ws) o w) ≡ Some octet
    by None e = there
    by (Some other) e = ap (λ n. Some n) (sym (k.stays index octet other has (ap (first base ws) (sym place) ∙ e)))

-- its FIN
fin_is_end : (base : ℕ) (ws : List Written) (w : Written) (k : Kept base ws w) → Bounded base ws → tcp.has_fin w.flags ≡ true → end_of base (ws ++ w ∷ []) ≡ Some (off base (acked base ws) w.seq +ℤ pos (length w.octets))
fin_is_end base ws w k h has =
    let kept : k.i.fin ≡ true = sym k.frame.fin_is ∙ has in
    end_push base ws w
    ∙ ap (option_or (end_of base ws)) (fin_place_is base (bounds base ws) k.i w k.frame (lie base ws h) kept)
    ∙ (stands base (bounds base ws) k.i w k.frame (lie base ws h) kept).pinned
    ∙ ap (λ z. Some z) (sym (fin_stands base (bounds base ws) k.i w k.frame (lie base ws h) kept))

bounded_kept : (base : ℕ) (ws : List Written) (w : Written) → Kept base ws w → Bounded base ws → Bounded base (ws ++ w ∷ [])
bounded_kept base ws w k h = record {
  reached = omega (arith, a, e, h.reached);
  small = omega (arith, a, e, h.small);
  top_in_window = let most = at_most (edge base ws + 1) h.top_in_window fit.window in omega (arith, most, e);
  end_lies = end_lies (tcp.has_fin w.flags) refl;
  none_below = λ n. octet_push base ws w (negsuc n) ∙ (λ j. option_or (h.none_below n j) (octets_in base (bounds base ws) k.i w k.frame (lie base ws h) (negsuc n) j));
}
  where
    a : acked base (ws ++ w ∷ []) ≡ acked base ws
    a = acked_same base ws w k.frame.inward

    e : edge base (ws ++ w ∷ []) ≡ edge base ws
    e = edge_same base ws w k.frame.inward

    t : top base (ws ++ w ∷ []) ≡ max (top base ws) (if nat_lt k.i.lo k.i.hi then k.i.hi else 0)
    t = top_push base ws w ∙ ap (max (top base ws)) (top_place_is base (bounds base ws) k.i w k.frame (lie base ws h))

    fit : Lies (bounds base ws) (off base (acked base ws) k.frame.sequence) k.frame.len k.i
    fit = lies_in base (bounds base ws) k.i w k.frame

    -- a bound of the octets so far and of the interval
    at_most : (n : ℕ) → top base ws ≤ n → (k.i.lo < k.i.hi → k.i.hi ≤ n) → top base (ws ++ w ∷ []) ≤ n
    at_most n old new = by (nat_lt k.i.lo k.i.hi) refl
      where
        by : (b : Bool) → nat_lt k.i.lo k.i.hi ≡ b → top base (ws ++ w ∷ []) ≤ n
        by true s =
            let some : k.i.lo < k.i.hi = grind (arith, nat_tests) in
            let most = new some in
            let is : top base (ws ++ w ∷ []) ≡ max (top base ws) k.i.hi = t ∙ rw s refl in
            omega (arith, is, most, old)
        by false s = let is : top base (ws ++ w ∷ []) ≡ max (top base ws) 0 = t ∙ rw s refl in omega (arith, is, old)

    -- the end that is known already
    still : (o : Option ℤ) → end_of base ws ≡ o → EndLies o (top base ws) (edge base ws) → EndLies o (top base (ws ++ w ∷ [])) (edge base (ws ++ w ∷ []))
    still None is lies = tt
    still (Some (pos p)) is lies = let inside = lies.1 in (at_most p lies.0 (fit.end p is), omega (arith, inside, e))
    still (Some (negsuc n)) is lies = absurd lies

    end_lies : (b : Bool) → tcp.has_fin w.flags ≡ b → EndLies (end_of base (ws ++ w ∷ [])) (top base (ws ++ w ∷ [])) (edge base (ws ++ w ∷ []))
    end_lies true has =
        let kept : k.i.fin ≡ true = sym k.frame.fin_is ∙ has in
        let at : Stands (bounds base ws) k.i (off base (acked base ws) k.frame.sequence +ℤ pos k.frame.len) = stands base (bounds base ws) k.i w k.frame (lie base ws h) kept in
        let is : end_of base (ws ++ w ∷ []) ≡ Some (pos at.place) = fin_is_end base ws w k h has ∙ ap (λ z. Some z) (fin_stands base (bounds base ws) k.i w k.frame (lie base ws h) kept) in
        let inside : at.place ≤ edge base ws = at.inside in
        subst (λ o. EndLies o (top base (ws ++ w ∷ [])) (edge base (ws ++ w ∷ []))) (sym is) (at_most at.place at.above (λ some. let same = at.ends some in omega (arith, same)), omega (arith, inside, e))
    end_lies false has =
        let is : end_of base (ws ++ w ∷ []) ≡ end_of base ws = end_push base ws w ∙ ap (option_or (end_of base ws)) (no_end base (acked base ws) w has) ∙ or_none (end_of base ws) in
        subst (λ o. EndLies o (top base (ws ++ w ∷ [])) (edge base (ws ++ w ∷ []))) (sym is) (still (end_of base ws) refl h.end_lies)

-- by induction on the segments
pub other_before : (base : ℕ) (ws later : List Written) → HasNoOtherBase base (ws ++ later) → HasNoOtherBase base ws
other_before base ws later only number e = only number ((written_remains base ws later).base_is number e)

bounded_next : (base : ℕ) (ws : List Written) (w : Written) → HasNoOtherBase base (ws ++ w ∷ []) → IsOutward w ⊎ IsEmitted ws w → Bounded base ws → Bounded base (ws ++ w ∷ [])
bounded_next base ws w only emitted h = ⊎_elim (λ (o : IsOutward w). bounded_outward base ws w o h) (λ (e : IsEmitted ws w). ⊎_elim (λ (b : IsBare ws w). bounded_bare base ws w b h) kept e) emitted
  where
    kept : IsKeptFrame ws w → Bounded base (ws ++ w ∷ [])
    kept k = bounded_kept base ws w (kept_here base ws w k (only k.base ((written_remains base ws (w ∷ [])).base_is k.base k.based))) h

bounded_from : (base : ℕ) (before ws : List Written) → HasNoOtherBase base (before ++ ws) → AreEmitted before ws → Bounded base before → Bounded base (before ++ ws)
bounded_from base before [] only emitted h = subst (Bounded base) (sym (append-nil before)) h
bounded_from base before (w ∷ ws) only emitted h =
    let on : HasNoOtherBase base ((before ++ w ∷ []) ++ ws) = subst (HasNoOtherBase base) (pushed before w ws) only in
    let next : Bounded base (before ++ w ∷ []) = bounded_next base before w (other_before base (before ++ w ∷ []) ws on) emitted.0 h in
    subst (Bounded base) (sym (pushed before w ws)) (bounded_from base (before ++ w ∷ []) ws on emitted.1 next)

-- emitted segments, if no other base is fixed
pub bounded : (base : ℕ) (ws : List Written) → HasNoOtherBase base ws → AreEmitted [] ws → Bounded base ws
bounded base ws only emitted = bounded_from base [] ws only emitted (bounded_none base)

pub emitted_joins : EmittedJoins
emitted_joins before xs ys = (parts before xs, joins before xs)
  where
    parts : (before xs : List Written) → AreEmitted before (xs ++ ys) → AreEmitted before xs × AreEmitted (before ++ xs) ys
    parts before [] h = (tt, subst (λ b. AreEmitted b ys) (sym (append-nil before)) h)
    parts before (x ∷ xs) h = let rest = parts (before ++ x ∷ []) xs h.1 in ((h.0, rest.0), subst (λ b. AreEmitted b ys) (sym (pushed before x xs)) rest.1)

    joins : (before xs : List Written) → AreEmitted before xs × AreEmitted (before ++ xs) ys → AreEmitted before (xs ++ ys)
    joins before [] h = subst (λ b. AreEmitted b ys) (append-nil before) h.1
    joins before (x ∷ xs) h = (h.0.0, joins (before ++ x ∷ []) xs (h.0.1, subst (λ b. AreEmitted b ys) (pushed before x xs) h.1))

pub emitted_is_told : EmittedIsTold
emitted_is_told base ws w only emitted is = ⊎_elim bare kept is
  where
    bare : IsBare ws w → IsTold base ws w
    bare b = record {
      octets = λ index octet has.
          let none : slice_get w.octets index ≡ None = ap (λ (os : List ℕ). slice_get os index) b.no_octets ∙ slice_get_past [] index (omega arith) in
          absurd (cc (has, none));
      fin = λ has. absurd (cc (has, b.no_fin));
      syn = λ has. only ((w.seq + 1) % 2 ^ 32) (b.syn has);
    }

    kept : IsKeptFrame ws w → IsTold base ws w
    kept k =
        let h : Bounded base ws = bounded base ws (other_before base ws (w ∷ []) only) emitted in
        let here : Kept base ws w = kept_here base ws w k (only k.base ((written_remains base ws (w ∷ [])).base_is k.base k.based)) in
        record {
          octets = octets_are_first base ws w here h;
          fin = λ has. fin_is_end base ws w here h has;
          syn = λ has. absurd (cc (has, here.frame.no_syn));
        }

pub octets_are_places : EmittedOctetsArePlaces
octets_are_places base ws based emitted = record { below_top = λ offset octet has. place offset octet has; below_end = λ offset end octet has is. under offset octet (end_of base ws) end has h.end_lies is }
  where
    h : Bounded base ws
    h = bounded base ws (λ number e. cc (based, e)) emitted

    place : (o : ℤ) (octet : ℕ) → first base ws o ≡ Some octet → (place : ℕ) × (o ≡ pos place) × (place < top base ws)
    place (negsuc n) octet e = let none = h.none_below n in absurd (cc (none, e))
    place (pos n) octet e = (
      n,
      refl,
      elim (cases_lt n (top base ws)) [
        | inl low ↦ low
        | inr high ↦ let none = first_past base ws n (omega (arith, high)) in absurd (cc (none, e))
      ],
    )

    under : (o : ℤ) (octet : ℕ) (pinned : Option ℤ) (end : ℤ) → first base ws o ≡ Some octet → EndLies pinned (top base ws) (edge base ws) → pinned ≡ Some end → o <ℤ end
    under o octet None end e lies is = absurd (cc (is))
    under o octet (Some (negsuc n)) end e lies is = absurd lies
    under o octet (Some (pos p)) end e lies is =
        let at = place o octet e in
        let same : pos p ≡ end = cc is in
        let above : top base ws ≤ p = lies.0 in
        let low : at.0 < top base ws = at.2 in
        let less : at.0 < p = omega (arith, low, above) in
        subst (λ z. o <ℤ z) same (subst (λ z. z <ℤ pos p) (sym at.1) (omega (arith, ints, less)))

-- if no base is fixed, each inward segment is bare
pub unbased_has_no_octet : UnbasedHasNoOctet
unbased_has_no_octet base ws none emitted offset = by [] ws refl (λ number e. cc (none, e)) emitted
  where
    Unbased : List Written → Type 0
    Unbased us = (number : ℕ) → base_of us ≡ Some number → ⊥

    one : (us : List Written) (w : Written) → first base us offset ≡ None → Unbased (us ++ w ∷ []) → IsOutward w ⊎ IsEmitted us w → first base (us ++ w ∷ []) offset ≡ None
    one us w e unbased is = octet_push base us w offset ∙ (λ j. option_or (e j) (silent is j))
      where
        silent : IsOutward w ⊎ IsEmitted us w → octet_at base (acked base us) offset w ≡ None
        silent is = ⊎_elim (λ (o : IsOutward w). (λ j. if o.outward j then get_at w.octets (natural (offset -ℤ off base (acked base us) w.seq)) else None)) (λ (k : IsEmitted us w). ⊎_elim (λ (b : IsBare us w). no_octet base (acked base us) w offset b.no_octets) (λ (k : IsKeptFrame us w). absurd (unbased k.base ((written_remains base us (w ∷ [])).base_is k.base k.based))) k) is

    by : (us vs : List Written) → first base us offset ≡ None → Unbased (us ++ vs) → AreEmitted us vs → first base (us ++ vs) offset ≡ None
    by us [] e unbased emitted = ap (λ xs. first base xs offset) (append-nil us) ∙ e
    by us (v ∷ vs) e unbased emitted =
        let on : Unbased ((us ++ v ∷ []) ++ vs) = subst Unbased (pushed us v vs) unbased in
        ap (λ xs. first base xs offset) (pushed us v vs)
        ∙ by (us ++ v ∷ []) vs (one us v e (λ number f. on number ((written_remains base (us ++ v ∷ []) vs).base_is number f)) emitted.0) on emitted.1

-- How far an emitted segment is from Acked.

-- the offset is at or past the first, and at or below the second
abbrev IsBetween : (low high : ℕ) → ℤ → Type 0
IsBetween low high z = (pos low ≤ℤ z) × (z ≤ℤ pos high)

between : (low high n : ℕ) (z : ℤ) → z ≡ pos n → low ≤ n → n ≤ high → IsBetween low high z
between low high n z is above below =
    subst (IsBetween low high) (sym is) (omega (arith, ints, above), omega (arith, ints, below))

-- an octet of an interval from `lo` to below `hi`
octet_is_near :
    (lo long hi edge acked index : ℕ) (z : ℤ) →
    lo + long ≡ hi → acked ≤ lo → hi ≤ edge + 1 → edge ≤ acked + 65535 * 2 ^ 14 → index < long → z ≡ pos (lo + index) →
    IsBetween acked (acked + 2 ^ 30) z
octet_is_near lo long hi edge acked index z ends above window small within is =
    between acked (acked + 2 ^ 30) (lo + index) z is (omega arith) (omega arith)

-- a place in the window
place_is_near : (place edge acked : ℕ) (z : ℤ) → place ≤ edge → edge ≤ acked + 65535 * 2 ^ 14 → z ≡ pos place → IsBetween 0 (acked + 2 ^ 30) z
place_is_near place edge acked z inside small is = between 0 (acked + 2 ^ 30) place z is (omega arith) (omega arith)

kept_is_near : (base : ℕ) (ws : List Written) (w : Written) → Kept base ws w → Bounded base ws → IsNearAcked base ws w
kept_is_near base ws w k h = record { octets = octets; fin = fin }
  where
    at : ℕ
    at = acked base ws

    octets : (index : ℕ) → index < length w.octets → IsBetween at (at + 2 ^ 30) (off base at w.seq +ℤ pos index)
    octets index within =
        let long = k.frame.long in
        let less : k.i.lo < k.i.hi = omega (arith, long, within) in
        let some : nat_lt k.i.lo k.i.hi ≡ true = grind (arith, nat_tests, less) in
        let fit = lies_in base (bounds base ws) k.i w k.frame in
        let begins = octets_begin base (bounds base ws) k.i w k.frame (lie base ws h) some in
        octet_is_near k.i.lo (length w.octets) k.i.hi (edge base ws) at index (off base at w.seq +ℤ pos index)
        long fit.above (fit.window less) h.small within (ap (λ z. z +ℤ pos index) begins)

    fin : tcp.has_fin w.flags ≡ true → IsBetween 0 (at + 2 ^ 30) (off base at w.seq +ℤ pos (length w.octets))
    fin has =
        let kept = sym k.frame.fin_is ∙ has in
        let lies = lie base ws h in
        place_is_near (stands base (bounds base ws) k.i w k.frame lies kept).place (edge base ws) at (off base at w.seq +ℤ pos (length w.octets))
        (stands base (bounds base ws) k.i w k.frame lies kept).inside h.small (fin_stands base (bounds base ws) k.i w k.frame lies kept)

pub emitted_is_near : EmittedIsNear
emitted_is_near base ws w only emitted is = ⊎_elim bare kept is
  where
    bare : IsBare ws w → IsNearAcked base ws w
    bare b = record {
      octets = λ index within. absurd (let none = ap length b.no_octets in omega (arith, none, within));
      fin = λ has. absurd (cc (has, b.no_fin));
    }

    kept : IsKeptFrame ws w → IsNearAcked base ws w
    kept k =
        let same : k.base ≡ base = only k.base ((written_remains base ws (w ∷ [])).base_is k.base k.based) in
        kept_is_near base ws w (kept_here base ws w k same) (bounded base ws (other_before base ws (w ∷ []) only) emitted)
