-- The frame of a kept interval: its offset, octets and FIN, its era after it, and how many octets
-- it adds.
use Rattle.std.proofs.Common.{◌≡◌, ℕ, ◌+◌, ◌*◌, ◌%◌, ◌^◌, ◌<◌, ◌≤◌, List, [], ◌∷◌, length, Option, Some, None, Bool, true, false, ◌&&◌, refl, sym, ◌∙◌, ap, subst, arith, ◌++◌, ◌-◌, ℤ, pos, negsuc, ◌+ℤ◌, ◌≤ℤ◌, if◌then◌else◌, nat_lt, max, ◌-ℤ◌, slice_get, nat_le, int_le, int_lt, is_none, is_some}
use Rattle.std.specs.Option.{option_or}
use Rattle.std.proofs.lemmas.Int.{ints}
use Rattle.std.proofs.lemmas.Bool.Decides.{nat_tests}
use Rattle.std.proofs.lemmas.Option.{slice_get_past, slice_get-get_or}
use Rattle.std.specs.List.{count_by, range_with_len}
use Rattle.wire_base.specs.Tcp as tcp
use Rattle.wire_base.specs.Segments.{Written}
use Rattle.era_state.specs.declared.offset.Interval.{Interval}
use Rattle.era_state.specs.Offsets.{off, nat_of, whole, number_in, natural}
use Rattle.era_state.specs.SegmentMarks.{has_octets, top_place, fin_place, get_at, octet_at}
use Rattle.era_state.specs.Quantities.{base_at, acked, is_opened, edge, top, end_of, octet_count, first, fresh_places}
use Rattle.era_state.specs.ForwardedOctets.{Bounds, bounds, frame_sequence, bounds_of, offset_of, top_after, end_after}
use Rattle.era_state.specs.KeptIntervals.{Spans, KeptOf}
use Rattle.era_state.specs.WrittenFrames.{IsFrame}
use Rattle.era_state.specs.declared.warm.Warm.{Warm}
use Rattle.era_state.specs.WindowScales.{SynsFor}
use Rattle.era_state.specs.SilentSegments.{SameNumbers}
use Rattle.era_state.specs.EraFields.{WarmFor, bounds_in}
use Rattle.era_state.specs.FrameChanges.{WarmWith}
use Rattle.era_state.specs.QuantityLaws.{KeptOctetsAreNear, FinStandsAtEnd, FirstStays, FrameOctets}
use Rattle.era_state.proofs.Offsets.{off_is, places_are_read, Lies, lies}
use Rattle.era_state.proofs.SameNumbers.{no_top, same_numbers, no_end, no_octet, if_same}
use Rattle.era_state.proofs.Quantities.{top_push, end_push, syns_kept, octet_push, count_same, count_push, or_none}

-- A frame of a kept interval, by the base and the bounds of its era.

-- a known end is at or past all octets, and in the window
abbrev pub EndLies : Option ℤ → (top edge : ℕ) → Type 0
EndLies None top edge = Unit {0}
EndLies (Some (pos place)) top edge = (top ≤ place) × (place ≤ edge)
EndLies (Some (negsuc n)) top edge = ⊥

-- the window is short, and the end satisfies this
pub record BoundsLie (b : Bounds) : Type 0 where
  pub small : b.edge ≤ b.acked + 65535 * 2 ^ 14
  pub end_lies : EndLies b.end b.top b.edge

-- it has the offset, octets and FIN of the interval of a segment with this sequence number and
-- length, with or without FIN
pub record FrameIn (base : ℕ) (b : Bounds) (i : Interval) (frame : Written) : Type 0 where
  pub sequence : ℕ
  pub len : ℕ
  pub fin : Bool
  pub spans : Spans b (off base b.acked sequence) len fin i
  pub inward : frame.inward ≡ true
  pub no_syn : tcp.has_syn frame.flags ≡ false
  pub fin_is : tcp.has_fin frame.flags ≡ i.fin
  pub long : i.lo + length frame.octets ≡ i.hi
  pub sequence_is : frame.seq ≡ frame_sequence base b (off base b.acked sequence) sequence len fin

-- a frame after the segments written so far
pub frame_in : (base : ℕ) (ws : List Written) (came : Written) (i : Interval) (frame : Written) → base_at ws ≡ base → KeptOf ws came i → IsFrame ws came i frame → FrameIn base (bounds base ws) i frame
frame_in base ws came i frame same k f = record {
  sequence = came.seq;
  len = length came.octets;
  fin = tcp.has_fin came.flags;
  spans = subst (λ b. Spans (bounds b ws) (off b (acked b ws) came.seq) (length came.octets) (tcp.has_fin came.flags) i) same k.spans;
  inward = f.inward;
  no_syn = f.no_syn;
  fin_is = f.fin_is;
  long = f.long;
  sequence_is = f.sequence_is ∙ ap (λ b. frame_sequence b (bounds b ws) (off b (acked b ws) came.seq) came.seq (length came.octets) (tcp.has_fin came.flags)) same;
}

pub lies_in : (base : ℕ) (b : Bounds) (i : Interval) (w : Written) (f : FrameIn base b i w) → Lies b (off base b.acked f.sequence) f.len i
lies_in base b i w f = lies b (off base b.acked f.sequence) f.len f.fin i f.spans

-- its sequence number, by its interval
number_is : (base : ℕ) (b : Bounds) (i : Interval) (w : Written) (f : FrameIn base b i w) → w.seq ≡ (if nat_lt i.lo i.hi then (base + i.lo) % 2 ^ 32 else (if i.fin then (base + nat_of (off base b.acked f.sequence +ℤ pos f.len)) % 2 ^ 32 else f.sequence))
number_is base b i w f =
    let s = f.spans in
    f.sequence_is ∙ (λ j. if nat_lt (sym s.lo_is j) (sym s.hi_is j) then (base + sym s.lo_is j) % 2 ^ 32 else (if sym s.fin_is j then (base + nat_of (off base b.acked f.sequence +ℤ pos f.len)) % 2 ^ 32 else f.sequence))

-- the offset of its first octet
pub octets_begin : (base : ℕ) (b : Bounds) (i : Interval) (w : Written) → FrameIn base b i w → BoundsLie b → nat_lt i.lo i.hi ≡ true → off base b.acked w.seq ≡ pos i.lo
octets_begin base b i w f h some =
    let less : i.lo < i.hi = grind (arith, nat_tests) in
    let above : b.acked ≤ i.lo = (lies_in base b i w f).above in
    let window : i.hi ≤ b.edge + 1 = (lies_in base b i w f).window less in
    let small : b.edge ≤ b.acked + 65535 * 2 ^ 14 = h.small in
    let number : w.seq ≡ (base + i.lo) % 2 ^ 32 = number_is base b i w f ∙ rw some refl in
    ap (off base b.acked) number ∙ places_are_read base b.acked i.lo (omega (arith, above)) (omega (arith, window, small))

-- the offset of a forwarded FIN
pub record Stands (b : Bounds) (i : Interval) (to : ℤ) : Type 0 where
  pub place : ℕ
  pub above : b.top ≤ place
  pub inside : place ≤ b.edge
  pub ends : i.lo < i.hi → i.hi ≡ place
  pub is : to ≡ pos place
  pub pinned : option_or b.end (Some (pos place)) ≡ Some (pos place)
  pub new : b.end ≡ None → place ≡ i.hi

pub stands : (base : ℕ) (b : Bounds) (i : Interval) (w : Written) (f : FrameIn base b i w) → BoundsLie b → i.fin ≡ true → Stands b i (off base b.acked f.sequence +ℤ pos f.len)
stands base b i w f h kept = by b.end refl h.end_lies
  where
    to : ℤ
    to = off base b.acked f.sequence +ℤ pos f.len

    fit : Lies b (off base b.acked f.sequence) f.len i
    fit = lies_in base b i w f

    by : (o : Option ℤ) → b.end ≡ o → EndLies o b.top b.edge → Stands b i to
    by None is lie = let l = fit.fin kept is in record { place = i.hi; above = l.0; inside = l.1; ends = λ _. refl; is = l.2; pinned = ap (λ o. option_or o (Some (pos i.hi))) is; new = λ _. refl }
    by (Some (pos p)) is lie = let l = fit.last p is lie.1 kept in record { place = p; above = lie.0; inside = lie.1; ends = l.0; is = l.1; pinned = ap (λ o. option_or o (Some (pos p))) is; new = λ none. absurd (cc (none, is)) }
    by (Some (negsuc n)) is lie = absurd lie

pub fin_stands : (base : ℕ) (b : Bounds) (i : Interval) (w : Written) (f : FrameIn base b i w) (h : BoundsLie b) (kept : i.fin ≡ true) → off base b.acked w.seq +ℤ pos (length w.octets) ≡ pos (stands base b i w f h kept).place
fin_stands base b i w f h kept = by (nat_lt i.lo i.hi) refl
  where
    at : Stands b i (off base b.acked f.sequence +ℤ pos f.len)
    at = stands base b i w f h kept

    by : (c : Bool) → nat_lt i.lo i.hi ≡ c → off base b.acked w.seq +ℤ pos (length w.octets) ≡ pos at.place
    by true t =
        let some : i.lo < i.hi = grind (arith, nat_tests) in
        ap (λ z. z +ℤ pos (length w.octets)) (octets_begin base b i w f h t) ∙ ap (λ n. pos n) (f.long ∙ at.ends some)
    by false t =
        let order = (lies_in base b i w f).order in
        let same : i.lo ≡ i.hi = grind (arith, nat_tests) in
        let inside = at.inside in
        let small : b.edge ≤ b.acked + 65535 * 2 ^ 14 = h.small in
        -- a FIN at the end may be below Acked: the number of its own segment was read there
        let behind : pos b.acked ≤ℤ (off base b.acked f.sequence +ℤ pos (2 ^ 31)) = (off_is base b.acked f.sequence).behind in
        let is = at.is in
        let low : b.acked ≤ at.place + 2 ^ 31 = omega (arith, ints, behind, is) in
        let long = f.long in
        let none_long : length w.octets ≡ 0 = omega (arith, long, same) in
        let number : w.seq ≡ (base + at.place) % 2 ^ 32 = number_is base b i w f ∙ rw (t, kept) refl ∙ ap (λ z. (base + nat_of z) % 2 ^ 32) at.is in
        let begins : off base b.acked w.seq ≡ pos at.place = ap (off base b.acked) number ∙ places_are_read base b.acked at.place low (omega (arith, inside, small)) in
        (λ j. begins j +ℤ pos (none_long j)) ∙ omega (arith, ints)

pub fin_place_is : (base : ℕ) (b : Bounds) (i : Interval) (w : Written) (f : FrameIn base b i w) (h : BoundsLie b) (kept : i.fin ≡ true) → fin_place base b.acked w ≡ Some (pos (stands base b i w f h kept).place)
fin_place_is base b i w f h kept =
    (λ j. if f.inward j && (f.fin_is ∙ kept) j then Some (off base b.acked w.seq +ℤ pos (length w.octets)) else None)
    ∙ ap (λ z. Some z) (fin_stands base b i w f h kept)

pub no_length : (os : List ℕ) → length os ≡ 0 → os ≡ []
no_length [] e = refl
no_length (x ∷ xs) e = absurd (omega arith)

-- the offset after its octets
pub top_place_is : (base : ℕ) (b : Bounds) (i : Interval) (w : Written) → FrameIn base b i w → BoundsLie b → top_place base b.acked w ≡ (if nat_lt i.lo i.hi then i.hi else 0)
top_place_is base b i w f h = by (nat_lt i.lo i.hi) refl
  where
    by : (c : Bool) → nat_lt i.lo i.hi ≡ c → top_place base b.acked w ≡ (if c then i.hi else 0)
    by true t =
        let some : i.lo < i.hi = grind (arith, nat_tests) in
        let long = f.long in
        let has : has_octets w ≡ true = grind (arith, nat_tests, long, some) in
        (λ j. if f.inward j && has j then nat_of (octets_begin base b i w f h t j +ℤ pos (length w.octets)) else 0) ∙ f.long
    by false t =
        let order = (lies_in base b i w f).order in
        let same : i.lo ≡ i.hi = grind (arith, nat_tests) in
        let long = f.long in
        no_top base b.acked w (no_length w.octets (omega (arith, long, same)))

-- A frame and its era.

pub base_same : (e : Warm) (ws : List Written) → WarmFor e ws → base_at ws ≡ e.base
base_same e ws h = ap number_in h.base_is

bounds_same : (e : Warm) (ws : List Written) → WarmFor e ws → bounds e.base ws ≡ bounds_in e
bounds_same e ws h = λ j. record { acked = sym h.acked_is j; edge = sym h.edge_is j; top = sym h.top_is j; end = sym h.end_is j }

-- a frame by the list is one by the fields
pub frame_by_fields : (e : Warm) (ws : List Written) (w : Written) (i : Interval) (frame : Written) → WarmFor e ws → KeptOf ws w i → IsFrame ws w i frame → FrameIn e.base (bounds_in e) i frame
frame_by_fields e ws w i frame h k f = subst (λ b. FrameIn e.base b i frame) (bounds_same e ws h) (frame_in e.base ws w i frame (base_same e ws h) k f)

-- its bounds satisfy this
pub lie_in : (e : Warm) → BoundsLie (bounds_in e)
lie_in e = record { small = e.window_small; end_lies = by e.end refl }
  where
    by : (o : Option ℕ) → e.end ≡ o → EndLies (whole o) e.top e.edge
    by None is = tt
    by (Some place) is = (e.end_above place is, e.end_in_window place is)

pub kept_octets_are_near : KeptOctetsAreNear
kept_octets_are_near e ws w i h k some =
    let fit : Lies (bounds_of ws) (offset_of ws w.seq) (length w.octets) i = lies (bounds_of ws) (offset_of ws w.seq) (length w.octets) (tcp.has_fin w.flags) i k.spans in
    let a : acked (base_at ws) ws ≡ e.acked = ap (λ base. acked base ws) (base_same e ws h) ∙ sym h.acked_is in
    let n : edge (base_at ws) ws ≡ e.edge = ap (λ base. edge base ws) (base_same e ws h) ∙ sym h.edge_is in
    let small : e.edge ≤ e.acked + 65535 * 2 ^ 14 = e.window_small in
    let window : i.hi ≤ edge (base_at ws) ws + 1 = fit.window some in
    (fit.above, omega (arith, a, n, small, window))

-- Top after it
pub top_is_after : (e : Warm) (i : Interval) (w : Written) → FrameIn e.base (bounds_in e) i w → top_after e.top i.lo i.hi ≡ max e.top (top_place e.base e.acked w)
top_is_after e i w f = by (nat_lt i.lo i.hi) ∙ ap (max e.top) (sym (top_place_is e.base (bounds_in e) i w f (lie_in e)))
  where
    by : (b : Bool) → (if b then max e.top i.hi else e.top) ≡ max e.top (if b then i.hi else 0)
    by true = refl
    by false = omega arith

-- the end after it
end_is_after : (e : Warm) (i : Interval) (w : Written) → FrameIn e.base (bounds_in e) i w → whole (end_after e.end i.fin i.hi) ≡ option_or (whole e.end) (fin_place e.base e.acked w)
end_is_after e i w f = by e.end refl i.fin refl
  where
    by : (o : Option ℕ) → e.end ≡ o → (b : Bool) → i.fin ≡ b → whole (end_after o b i.hi) ≡ option_or (whole o) (fin_place e.base e.acked w)
    by (Some p) is b fin = refl
    by None is true fin = sym (fin_place_is e.base (bounds_in e) i w f (lie_in e) fin ∙ ap (λ n. Some (pos n)) ((stands e.base (bounds_in e) i w f (lie_in e) fin).new (ap whole is)))
    by None is false fin = sym (no_end e.base e.acked w (f.fin_is ∙ fin))

pub warm_forwarded : (e : Warm) (i : Interval) (fresh : ℕ) (new : Warm) (ws : List Written) (w : Written) → WarmFor e ws → FrameIn e.base (bounds_in e) i w → octet_count e.base (ws ++ w ∷ []) ≡ octet_count e.base ws + fresh → WarmWith i fresh e new → WarmFor new (ws ++ w ∷ [])
warm_forwarded e i fresh new ws w h f more t = record {
  base_is = same.base_is ∙ h.base_is ∙ ap (λ n. Some n) (sym t.base_is);
  opened = ap (λ b. is_opened b (ws ++ w ∷ [])) t.base_is ∙ same.opened_is e.base ∙ h.opened;
  iss_is = t.iss_is ∙ h.iss_is ∙ sym same.iss_is;
  out_is = same.out_is ∙ h.out_is ∙ ap (λ n. Some n) (sym t.out_is);
  syns_are = subst (λ s. SynsFor s (ws ++ w ∷ [])) (sym t.syns_are) (syns_kept e.syns ws (ws ++ w ∷ []) same h.syns_are);
  acked_is = t.acked_is ∙ h.acked_is ∙ sym (same.acked_is e.base) ∙ ap (λ b. acked b (ws ++ w ∷ [])) (sym t.base_is);
  edge_is = t.edge_is ∙ h.edge_is ∙ sym (same.edge_is e.base) ∙ ap (λ b. edge b (ws ++ w ∷ [])) (sym t.base_is);
  top_is = t.top_is ∙ top_is_after e i w f ∙ (λ j. max (h.top_is j) (top_place e.base (h.acked_is j) w)) ∙ sym (top_push e.base ws w) ∙ ap (λ b. top b (ws ++ w ∷ [])) (sym t.base_is);
  end_is = ap whole t.end_is ∙ end_is_after e i w f ∙ (λ j. option_or (h.end_is j) (fin_place e.base (h.acked_is j) w)) ∙ sym (end_push e.base ws w) ∙ ap (λ b. end_of b (ws ++ w ∷ [])) (sym t.base_is);
  out_fin_is = t.out_fin_is ∙ h.out_fin_is ∙ sym same.out_fin_is;
  octets_are = t.octets_are ∙ ap (λ n. n + fresh) h.octets_are ∙ sym more ∙ ap (λ b. octet_count b (ws ++ w ∷ [])) (sym t.base_is);
}
  where
    same : SameNumbers ws (ws ++ w ∷ [])
    same = same_numbers ws w f.inward f.no_syn

pub fin_stands_at_end : FinStandsAtEnd
fin_stands_at_end e ws w i frame h k g kept =
    ap (λ base. end_of base (ws ++ frame ∷ [])) (base_same e ws h)
    ∙ end_push e.base ws frame
    ∙ (λ j. option_or (sym h.end_is j) (fin_place e.base (sym h.acked_is j) frame))
    ∙ ap (option_or (whole e.end)) is
    ∙ (stands e.base (bounds_in e) i frame f (lie_in e) kept).pinned
    ∙ sym is
    ∙ ap (λ a. fin_place e.base a frame) h.acked_is
    ∙ ap (λ base. fin_place base (acked base ws) frame) (sym (base_same e ws h))
  where
    f : FrameIn e.base (bounds_in e) i frame
    f = frame_by_fields e ws w i frame h k g

    is : fin_place e.base e.acked frame ≡ Some (pos (stands e.base (bounds_in e) i frame f (lie_in e) kept).place)
    is = fin_place_is e.base (bounds_in e) i frame f (lie_in e) kept

-- The octets of one more segment.

pub first_stays : FirstStays
first_stays base ws w offset = octet_push base ws w offset

natural_sub : (n l : ℕ) → natural (pos n -ℤ pos l) ≡ (if nat_le l n then Some (n - l) else None)
natural_sub n l = by (nat_le l n) refl
  where
    by : (b : Bool) → nat_le l n ≡ b → natural (pos n -ℤ pos l) ≡ (if b then Some (n - l) else None)
    by true e = let h : l ≤ n = grind (arith, nat_tests) in let is : pos n -ℤ pos l ≡ pos (n - l) = omega (arith, ints) in ap natural is
    by false e = let h : n < l = grind (arith, nat_tests) in let is : pos n -ℤ pos l ≡ negsuc (l - n - 1) = omega (arith, ints) in ap natural is

natural_below : (n l : ℕ) → natural (negsuc n -ℤ pos l) ≡ None
natural_below n l = let is : negsuc n -ℤ pos l ≡ negsuc (n + l) = omega (arith, ints) in ap natural is

-- by the bounds of the era
pub octets_in : (base : ℕ) (b : Bounds) (i : Interval) (w : Written) → FrameIn base b i w → BoundsLie b → (offset : ℤ) → octet_at base b.acked offset w ≡ (if int_le (pos i.lo) offset && int_lt offset (pos i.hi) then slice_get w.octets (nat_of offset - i.lo) else None)
octets_in base b i w f h offset = by w.octets refl
  where
    none_there : w.octets ≡ [] → octet_at base b.acked offset w ≡ (if int_le (pos i.lo) offset && int_lt offset (pos i.hi) then slice_get w.octets (nat_of offset - i.lo) else None)
    none_there is =
        let gone : slice_get w.octets (nat_of offset - i.lo) ≡ None = ap (λ (os : List ℕ). slice_get os (nat_of offset - i.lo)) is ∙ slice_get_past [] (nat_of offset - i.lo) (omega arith) in
        no_octet base b.acked w offset is ∙ sym ((λ j. if int_le (pos i.lo) offset && int_lt offset (pos i.hi) then gone j else None) ∙ if_same (int_le (pos i.lo) offset && int_lt offset (pos i.hi)) None)

    inside : (n : ℕ) (c d : Bool) → nat_le i.lo n ≡ c → nat_lt n i.hi ≡ d → get_at w.octets (if c then Some (n - i.lo) else None) ≡ (if c && d then slice_get w.octets (n - i.lo) else None)
    inside n true true p q = refl
    inside n true false p q =
        let l = f.long in
        let low : i.lo ≤ n = grind (arith, nat_tests) in
        let high : i.hi ≤ n = grind (arith, nat_tests) in
        slice_get_past w.octets (n - i.lo) (omega (arith, l, low, high))
    inside n false d p q = refl

    there : (o : ℤ) → get_at w.octets (natural (o -ℤ pos i.lo)) ≡ (if int_le (pos i.lo) o && int_lt o (pos i.hi) then slice_get w.octets (nat_of o - i.lo) else None)
    there (pos n) = ap (get_at w.octets) (natural_sub n i.lo) ∙ inside n (nat_le i.lo n) (nat_lt n i.hi) refl refl
    there (negsuc n) = ap (get_at w.octets) (natural_below n i.lo)

    by : (os : List ℕ) → w.octets ≡ os → octet_at base b.acked offset w ≡ (if int_le (pos i.lo) offset && int_lt offset (pos i.hi) then slice_get w.octets (nat_of offset - i.lo) else None)
    by [] is = none_there is
    by (x ∷ xs) is =
        let l = f.long in
        let long : length w.octets ≡ length (x ∷ xs) = ap length is in
        let some : i.lo < i.hi = omega (arith, l, long) in
        let tested : nat_lt i.lo i.hi ≡ true = grind (arith, nat_tests) in
        (λ j. if f.inward j then get_at w.octets (natural (offset -ℤ octets_begin base b i w f h tested j)) else None) ∙ there offset

pub frame_octets : FrameOctets
frame_octets e ws w i frame h k g offset =
    ap (λ base. octet_at base (acked base ws) offset frame) (base_same e ws h)
    ∙ ap (λ a. octet_at e.base a offset frame) (sym h.acked_is)
    ∙ octets_in e.base (bounds_in e) i frame (frame_by_fields e ws w i frame h k g) (lie_in e) offset

-- How many octets a frame adds.

-- it has an octet at each offset of its interval
has_octet : (e : Warm) (i : Interval) (w : Written) → FrameIn e.base (bounds_in e) i w → (n : ℕ) → is_some (octet_at e.base e.acked (pos n) w) ≡ (nat_le i.lo n && nat_lt n i.hi)
has_octet e i w f n = ap is_some (octets_in e.base (bounds_in e) i w f (lie_in e) (pos n)) ∙ by (nat_le i.lo n) (nat_lt n i.hi) refl refl
  where
    by : (b c : Bool) → nat_le i.lo n ≡ b → nat_lt n i.hi ≡ c → is_some (if b && c then slice_get w.octets (n - i.lo) else None) ≡ (b && c)
    by true true p q =
        let l = f.long in
        let low : i.lo ≤ n = grind (arith, nat_tests) in
        let high : n < i.hi = grind (arith, nat_tests) in
        let within : n - i.lo < length w.octets = omega (arith, l, low, high) in
        ap is_some (slice_get-get_or w.octets (n - i.lo) 0 within)
    by true false p q = refl
    by false c p q = refl

-- Top with the frame
top_with : (e : Warm) (i : Interval) (ws : List Written) (w : Written) → WarmFor e ws → FrameIn e.base (bounds_in e) i w → top e.base (ws ++ w ∷ []) ≡ top_after e.top i.lo i.hi
top_with e i ws w h f = top_push e.base ws w ∙ (λ j. max (sym h.top_is j) (top_place e.base (sym h.acked_is j) w)) ∙ sym (top_is_after e i w f)

-- a frame without octets adds none
nothing : (e : Warm) (i : Interval) (ws : List Written) (w : Written) → WarmFor e ws → FrameIn e.base (bounds_in e) i w → nat_lt i.lo i.hi ≡ false → octet_count e.base (ws ++ w ∷ []) ≡ octet_count e.base ws + fresh_places e.base ws i.lo i.hi
nothing e i ws w h f t =
    let l = f.long in
    let order = (lies_in e.base (bounds_in e) i w f).order in
    let same : i.lo ≡ i.hi = grind (arith, nat_tests) in
    let none : i.hi - i.lo ≡ 0 = omega arith in
    let empty : w.octets ≡ [] = no_length w.octets (omega (arith, l, same)) in
    let fresh : fresh_places e.base ws i.lo i.hi ≡ 0 = ap (λ n. count_by (λ k. is_none (first e.base ws (pos k))) (range_with_len i.lo n)) none in
    count_same e.base ws (ws ++ w ∷ []) (top_with e i ws w h f ∙ rw t h.top_is) (λ o. octet_push e.base ws w o ∙ ap (option_or (first e.base ws o)) (no_octet e.base (acked e.base ws) w o empty) ∙ or_none (first e.base ws o))
    ∙ omega (arith, fresh)

pub frame_adds : (e : Warm) (i : Interval) (fresh : ℕ) (ws : List Written) (w : Written) → WarmFor e ws → FrameIn e.base (bounds_in e) i w → fresh ≡ fresh_places (base_at ws) ws i.lo i.hi → octet_count e.base (ws ++ w ∷ []) ≡ octet_count e.base ws + fresh
frame_adds e i fresh ws w h f is = by (nat_lt i.lo i.hi) refl ∙ ap (λ n. octet_count e.base ws + n) (sym (is ∙ ap (λ base. fresh_places base ws i.lo i.hi) (base_same e ws h)))
  where
    order : i.lo ≤ i.hi
    order = (lies_in e.base (bounds_in e) i w f).order

    adds : (n : ℕ) → is_some (octet_at e.base (acked e.base ws) (pos n) w) ≡ (nat_le i.lo n && nat_lt n i.hi)
    adds n = ap (λ a. is_some (octet_at e.base a (pos n) w)) (sym h.acked_is) ∙ has_octet e i w f n

    by : (b : Bool) → nat_lt i.lo i.hi ≡ b → octet_count e.base (ws ++ w ∷ []) ≡ octet_count e.base ws + fresh_places e.base ws i.lo i.hi
    by true t = count_push e.base i.lo i.hi ws w order (top_with e i ws w h f ∙ rw t (ap (λ n. max n i.hi) h.top_is)) adds
    by false t = nothing e i ws w h f t
