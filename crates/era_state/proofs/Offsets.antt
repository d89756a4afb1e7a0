-- Offsets: of sequence numbers and of windows, and those of an interval within the bounds of its
-- era.
use Rattle.std.proofs.Common.{◌≡◌, ℕ, ◌+◌, ◌-◌, ◌/◌, ◌%◌, ◌^◌, ◌<◌, ◌≤◌, Bool, true, false, refl, sym, subst, arith, ◌*◌, Option, Some, None, ◌∙◌, ap, length, ◌⊎◌, inl, inr, ⊎_elim, ℤ, pos, ◌-ℤ◌, nat_lt, max, min, negsuc, ◌+ℤ◌, ◌≤ℤ◌}
use Rattle.std.proofs.lemmas.Int.{ints}
use Rattle.std.proofs.lemmas.Bool.Decides.{nat_tests, Decides-int_eq}
use Rattle.std.proofs.Math.Nat.{mul-le-mul_left}
use Rattle.std.proofs.Math.Pow.{pow_mono}
use Rattle.std.proofs.lemmas.Bool.{and_parts}
use Rattle.wire_base.specs.Tcp as tcp
use Rattle.era_state.specs.Offsets.{off, turn_past, IsOff, OffsetsAreRead, PlacesAreRead, number_in, nat_of, whole}
use Rattle.era_state.specs.declared.offset.Interval.{Interval}
use Rattle.era_state.specs.ForwardedOctets.{Bounds, bounds_of, offset_of, up_to_end, is_kept_fin, top_after, end_after}
use Rattle.era_state.specs.KeptIntervals.{Spans}
use Rattle.era_state.specs.QuantityLaws.{IntervalsFit}
use Rattle.era_state.specs.declared.warm.Warm.{Warm}
use Rattle.era_state.specs.EraFields.{bounds_in}
use Rattle.era_state.specs.WrittenFrames.{IsGiven}

-- Offsets are read as whole numbers.

pub off_is : (base at number : ℕ) → IsOff base at number (off base at number)
off_is base at number = by (nat_lt (turn_past (base + at) number) (2 ^ 31)) refl
  where
    by : (b : Bool) → nat_lt (turn_past (base + at) number) (2 ^ 31) ≡ b → IsOff base at number (off base at number)
    by true e =
        let less : turn_past (base + at) number < 2 ^ 31 = grind (arith, nat_tests) in
        rw e record { turns = pos ((base + at) / 2 ^ 32 + 1) -ℤ pos ((number + 2 ^ 32 - (base + at) % 2 ^ 32) / 2 ^ 32); place = omega (arith, ints); behind = omega (arith, ints); ahead = omega (arith, ints) }
    by false e =
        let more : 2 ^ 31 ≤ turn_past (base + at) number = grind (arith, nat_tests) in
        rw e record { turns = pos ((base + at) / 2 ^ 32) -ℤ pos ((number + 2 ^ 32 - (base + at) % 2 ^ 32) / 2 ^ 32); place = omega (arith, ints); behind = omega (arith, ints); ahead = omega (arith, ints) }

one_off : (base at number : ℕ) (o p : ℤ) → IsOff base at number o → IsOff base at number p → o ≡ p
one_off base at number o p h k = omega (arith, ints)

pub offsets_are_read : OffsetsAreRead
offsets_are_read base at number o = ((λ h. one_off base at number o (off base at number) h (off_is base at number)), (λ e. subst (IsOff base at number) (sym e) (off_is base at number)))

pub places_are_read : PlacesAreRead
places_are_read base at place low high = by (nat_lt (turn_past (base + at) ((base + place) % 2 ^ 32)) (2 ^ 31)) refl
  where
    by : (b : Bool) → nat_lt (turn_past (base + at) ((base + place) % 2 ^ 32)) (2 ^ 31) ≡ b → off base at ((base + place) % 2 ^ 32) ≡ pos place
    by true e = let less : turn_past (base + at) ((base + place) % 2 ^ 32) < 2 ^ 31 = grind (arith, nat_tests) in rw e (omega (arith, ints))
    by false e = let more : 2 ^ 31 ≤ turn_past (base + at) ((base + place) % 2 ^ 32) = grind (arith, nat_tests) in rw e (omega (arith, ints))

-- The reach of a window.

pub scaled_small : (window shift : ℕ) → window < 2 ^ 16 → shift ≤ 14 → window * 2 ^ shift ≤ 65535 * 2 ^ 14
scaled_small window shift small few =
    let most : window * 2 ^ shift ≤ window * 2 ^ 14 = mul-le-mul_left window (pow_mono few) in
    omega (arith, most)

pub number_small : (o : Option ℕ) (bound : ℕ) → 0 < bound → ((n : ℕ) → o ≡ Some n → n < bound) → number_in o < bound
number_small None bound above h = above
number_small (Some n) bound above h = h n refl

-- The relation of an interval to its segment and its era.

within : (o : Option ℤ) (n : ℕ) → up_to_end o n ≤ n
within None n = omega arith
within (Some end) n = omega arith

-- the offset of a FIN that is kept while no end is known
record Kept (top acked edge : ℕ) (place : ℤ) : Type 0 where
  number : ℕ
  is : place ≡ pos number
  above : max top acked ≤ number
  inside : number ≤ edge

kept_where : (b : Bounds) (place : ℤ) → is_kept_fin None b place ≡ true → Kept b.top b.acked b.edge place
kept_where b (pos n) e = let h : (max b.top b.acked ≤ n) × (n ≤ b.edge) = grind (arith, ints, nat_tests) in record { number = n; is = refl; above = h.0; inside = h.1 }
kept_where b (negsuc n) e = cc

behind : (at : ℤ) (len n : ℕ) → at +ℤ pos len ≡ pos n → nat_of at ≤ n
behind (pos k) len n e = omega (arith, ints)
behind (negsuc k) len n e = omega arith

above_all : (z : ℤ) (n : ℕ) → nat_of z ≤ n → z ≤ℤ pos n
above_all (pos k) n h = omega (arith, ints)
above_all (negsuc k) n h = omega (arith, ints)

below_all : (z : ℤ) (n : ℕ) → 0 < n → n ≤ nat_of z → pos n ≤ℤ z
below_all (pos k) n some h = omega (arith, ints)
below_all (negsuc k) n some h = absurd (omega arith)

-- by the bounds of the era and the segment's offset and length
pub record Lies (b : Bounds) (at : ℤ) (len : ℕ) (i : Interval) : Type 0 where
  pub order : i.lo ≤ i.hi
  pub above : b.acked ≤ i.lo
  pub begins : i.lo < i.hi → at ≤ℤ pos i.lo
  pub ends : i.lo < i.hi → pos i.hi ≤ℤ (at +ℤ pos len)
  pub window : i.lo < i.hi → i.hi ≤ b.edge + 1
  pub end : (place : ℕ) → b.end ≡ Some (pos place) → i.lo < i.hi → i.hi ≤ place
  -- a FIN that sets the end
  pub fin : i.fin ≡ true → b.end ≡ None → (b.top ≤ i.hi) × (i.hi ≤ b.edge) × (at +ℤ pos len ≡ pos i.hi)
  -- a FIN at the known end
  pub last : (place : ℕ) → b.end ≡ Some (pos place) → place ≤ b.edge → i.fin ≡ true → (i.lo < i.hi → i.hi ≡ place) × (at +ℤ pos len ≡ pos place)

pub lies : (b : Bounds) (at : ℤ) (len : ℕ) (fin : Bool) (i : Interval) → Spans b at len fin i → Lies b at len i
lies b at len fin i s = record {
  order = omega (arith, lo, hi);
  above = omega (arith, lo);
  begins = λ h. above_all at i.lo (omega (arith, lo));
  ends = λ h. below_all to i.hi (omega arith) (omega (arith, lo, hi));
  window = λ h. omega (arith, lo, hi, most);
  end = λ place is h. omega (arith, lo, hi_to place is);
  fin = pins;
  last = stays;
}
  where
    to : ℤ
    to = at +ℤ pos len

    lo : i.lo ≡ max (nat_of at) b.acked
    lo = s.lo_is

    hi : i.hi ≡ max (max (nat_of at) b.acked) (min (nat_of to) (up_to_end b.end (b.edge + 1)))
    hi = s.hi_is

    most : up_to_end b.end (b.edge + 1) ≤ (b.edge + 1)
    most = within b.end (b.edge + 1)

    hi_to : (place : ℕ) → b.end ≡ Some (pos place) → i.hi ≡ max (max (nat_of at) b.acked) (min (nat_of to) (min (b.edge + 1) place))
    hi_to place is = hi ∙ ap (λ o. max (max (nat_of at) b.acked) (min (nat_of to) (up_to_end o (b.edge + 1)))) is

    tested : i.fin ≡ true → is_kept_fin b.end b to ≡ true
    tested kept = (and_parts fin _ (sym s.fin_is ∙ kept)).1

    pins : i.fin ≡ true → b.end ≡ None → (b.top ≤ i.hi) × (i.hi ≤ b.edge) × (to ≡ pos i.hi)
    pins kept none =
        let k : Kept b.top b.acked b.edge to = kept_where b to (ap (λ o. is_kept_fin o b to) (sym none) ∙ tested kept) in
        let low : nat_of at ≤ k.number = behind at len k.number k.is in
        let hi_at : i.hi ≡ max (max (nat_of at) b.acked) (min k.number (b.edge + 1)) = hi ∙ (λ j. max (max (nat_of at) b.acked) (min (nat_of (k.is j)) (up_to_end (none j) (b.edge + 1)))) in
        let same : i.hi ≡ k.number = omega (arith, hi_at, low, k.above, k.inside) in
        (omega (arith, same, k.above), omega (arith, same, k.inside), k.is ∙ ap (λ n. pos n) (sym same))

    stays : (place : ℕ) → b.end ≡ Some (pos place) → place ≤ b.edge → i.fin ≡ true → (i.lo < i.hi → i.hi ≡ place) × (to ≡ pos place)
    stays place is inside kept =
        let stands : to ≡ pos place = (Decides-int_eq to (pos place)).0 (ap (λ o. is_kept_fin o b to) (sym is) ∙ tested kept) in
        let hi_at = hi_to place is ∙ ap (λ z. max (max (nat_of at) b.acked) (min (nat_of z) (min (b.edge + 1) place))) stands in
        ((λ h. omega (arith, lo, hi_at, inside)), stands)

pub intervals_fit : IntervalsFit
intervals_fit ws w i k =
    let h = lies (bounds_of ws) (offset_of ws w.seq) (length w.octets) (tcp.has_fin w.flags) i k.spans in
    record { order = h.order; above = h.above; begins = h.begins; ends = h.ends; window = h.window; end = h.end }

-- The properties of the offsets of every era hold after a frame.

top_at_most : (top lo hi n : ℕ) → top ≤ n → (lo < hi → hi ≤ n) → top_after top lo hi ≤ n
top_at_most top lo hi n old new = by (nat_lt lo hi) refl
  where
    by : (b : Bool) → nat_lt lo hi ≡ b → top_after top lo hi ≤ n
    by true e = let some : lo < hi = grind (arith, nat_tests) in let h = new some in rw e (omega (arith, h))
    by false e = rw e old

end_cases : (o : Option ℕ) (b : Bool) (place p : ℕ) → end_after o b place ≡ Some p → (o ≡ Some p) ⊎ ((o ≡ None) × (b ≡ true) × (place ≡ p))
end_cases (Some end) b place p e = inl e
end_cases None true place p e = inr (refl, refl, cc)
end_cases None false place p e = absurd (cc)

pub record Holds (top edge : ℕ) (end : Option ℕ) : Type 0 where
  pub top_in_window : top ≤ edge + 1
  pub end_above : (p : ℕ) → end ≡ Some p → top ≤ p
  pub end_in_window : (p : ℕ) → end ≡ Some p → p ≤ edge

pub holds_after : (e : Warm) (i : Interval) → IsGiven e i → Holds (top_after e.top i.lo i.hi) e.edge (end_after e.end i.fin i.hi)
holds_after e i given = record {
  top_in_window = top_at_most e.top i.lo i.hi (e.edge + 1) e.top_in_window have.window;
  end_above = λ p is. ⊎_elim (λ (old : e.end ≡ Some p). top_at_most e.top i.lo i.hi p (e.end_above p old) (have.end p (ap whole old))) (λ (new : Pins p). let f = have.fin new.1 (ap whole new.0) in let at = new.2 in let n = f.0 in top_at_most e.top i.lo i.hi p (omega (arith, n, at)) (λ _. omega (arith, at))) (end_cases e.end i.fin i.hi p is);
  end_in_window = λ p is. ⊎_elim (λ (old : e.end ≡ Some p). e.end_in_window p old) (λ (new : Pins p). let f = have.fin new.1 (ap whole new.0) in let at = new.2 in let n = f.1 in omega (arith, n, at)) (end_cases e.end i.fin i.hi p is);
}
  where
    Pins : ℕ → Type 0
    Pins p = (e.end ≡ None) × (i.fin ≡ true) × (i.hi ≡ p)

    have : Lies (bounds_in e) (off e.base e.acked given.sequence) given.len i
    have = lies (bounds_in e) (off e.base e.acked given.sequence) given.len given.fin i given.keeps.spans
