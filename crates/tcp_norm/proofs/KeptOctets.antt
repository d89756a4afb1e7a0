-- The octets kept of an era, from the acknowledged one to Top, and the chain with those of a
-- segment.
use Rattle.std.proofs.Common.{◌≡◌, ℕ, zero, suc, ◌<◌, max, Bool, true, false, List, [], ◌∷◌, length, Option, Some, None, is_some, ℤ, pos, negsuc, ◌+ℤ◌, ◌-ℤ◌, ◌<ℤ◌, refl, arith, ◌≤◌, ◌⊎◌, inl, inr, cond, ◌++◌, sym, ap, ap₂, subst, ◌∙◌, append_assoc, ◌+◌, ◌*◌, ◌/◌, ◌-◌, ◌&&◌, append-nil, slice_get, nat_lt, int_le, int_lt, is_none}
use Rattle.std.specs.Option.{option_or}
use Rattle.std.proofs.lemmas.Int.{ints}
use Rattle.std.proofs.lemmas.Bool.Decides.{nat_tests}
use Rattle.std.specs.List.{AllByRecursion, count_by, range_with_len}
use Rattle.std.proofs.lemmas.List.Sums.{sum_by-cons}
use Rattle.wire_base.specs.Segments.{Written}
use Rattle.era_state.specs.ListElements.{first_of, greatest, Moment, moments}
use Rattle.era_state.specs.Offsets.{off, natural, nat_of, number_in}
use Rattle.era_state.specs.SegmentMarks.{octet_at, top_place, get_at, has_octets, fixes}
use Rattle.era_state.specs.Quantities.{acked, first, top, base_of, base_at, fresh_places}
use Rattle.era_state.specs.declared.era.Era.{Era}
use Rattle.era_state.specs.declared.era.Era.TheVariants.{Called, Offered, Warm, Closed}
use Rattle.era_state.specs.SilentSegments.{IsSilent}
use Rattle.era_state.specs.Eras.{acked_in, SilenceStands, StandsFor, last_in}
use Rattle.era_state.specs.Eras as era
use Rattle.era_state.specs.QuantityLaws.{FirstStays, AckedNeverFalls, FrameOctets, IntervalsFit}
use Rattle.retain_store.specs.Maps.{Block, ForgetsBelow, IsMap, IsWithin, holds, missing, octet_at as stored_octet, Places, octet_in, fresh}
use Rattle.retain_store.proofs.Room as kept
use Rattle.era_state.specs.declared.offset.Interval.{Interval}
use Rattle.era_state.specs.declared.warm.Warm.{Warm as WarmEra}
use Rattle.era_state.specs.EraFields.{WarmFor}
use Rattle.era_state.specs.KeptIntervals.{KeptOf}
use Rattle.era_state.specs.FrameChanges.{WarmWith}
use Rattle.era_state.specs.WrittenFrames.{IsFrame}
use Rattle.era_state.proofs.Quantities.{or_none}
use Rattle.tcp_norm.specs.HeldOctets.{kept_at, held_of, missing_of}
use Rattle.tcp_norm.specs.KeptChains.{Keeps}
use Rattle.tcp_norm.specs.working.EmptySegments.{BringsNone}
use Rattle.tcp_norm.specs.RuleRows.{low_of, high_of}
use Rattle.era_state.specs.declared.era.Era.TheVariants as variants

-- The octets kept of an era, from what is acknowledged to Top, and what is kept of them after a
-- segment without octets.

-- An octet that is First is below Top.

pub got_inside : (xs : List ℕ) (i : ℕ) → is_some (slice_get xs i) ≡ true → i < length xs
got_inside [] i some = cc
got_inside (x ∷ xs) zero some = omega arith
got_inside (x ∷ xs) (suc i) some = let rest = got_inside xs i some in omega arith

above : (n : ℕ) (z : ℤ) → pos n <ℤ z → n < nat_of z
above n (pos m) lt = omega (arith, ints)
above n (negsuc m) lt = absurd (omega (arith, ints))

record Inside (o : ℕ) (s : ℤ) (octets : List ℕ) : Type 0 where
  some : 0 < length octets
  below : o < nat_of (s +ℤ pos (length octets))

inside_at : (o : ℕ) (s : ℤ) (octets : List ℕ) (z : ℤ) → pos o -ℤ s ≡ z → is_some (get_at octets (natural z)) ≡ true → Inside o s octets
inside_at o s octets (pos i) is got =
    let within = got_inside octets i got in
    record { some = omega arith; below = above o (s +ℤ pos (length octets)) (omega (arith, ints)) }
inside_at o s octets (negsuc i) is got = cc

octet_below : (base at o : ℕ) (w : Written) → is_some (octet_at base at (pos o) w) ≡ true → o < top_place base at w
octet_below base at o w got = cases w.inward refl
  where
    cases : (b : Bool) → w.inward ≡ b → o < top_place base at w
    cases true e =
        let i = inside_at o (off base at w.seq) w.octets (pos o -ℤ off base at w.seq) refl (rw e at got) in
        let full : has_octets w ≡ true = grind (arith, nat_tests, i.some) in
        rw (e, full) i.below
    cases false e = let none = rw e at got in cc

first_below : (base o : ℕ) (ms : List (Moment Written))
    → is_some (first_of (λ (m : Moment Written). octet_at base (acked base m.before) (pos o) m.now) ms) ≡ true
    → o < greatest (λ (m : Moment Written). top_place base (acked base m.before) m.now) ms
first_below base o [] some = cc
first_below base o (m ∷ ms) some =
    let here = octet_below base (acked base m.before) o m.now in
    let later = first_below base o ms in
    split (octet_at base (acked base m.before) (pos o) m.now) here later some
  where
    split : (x : Option ℕ) → (is_some x ≡ true → o < top_place base (acked base m.before) m.now)
        → (is_some (first_of (λ (m : Moment Written). octet_at base (acked base m.before) (pos o) m.now) ms) ≡ true → o < greatest (λ (m : Moment Written). top_place base (acked base m.before) m.now) ms)
        → is_some (option_or x (first_of (λ (m : Moment Written). octet_at base (acked base m.before) (pos o) m.now) ms)) ≡ true
        → o < max (top_place base (acked base m.before) m.now) (greatest (λ (m : Moment Written). top_place base (acked base m.before) m.now) ms)
    split None here later got = let below = later got in omega arith
    split (Some x) here later got = let below = here refl in omega arith

pub first_is_below : (base : ℕ) (ws : List Written) (o : ℕ) → is_some (first base ws (pos o)) ≡ true → o < top base ws
first_is_below base ws o some = first_below base o (moments ws) some

-- What is kept of an era after a segment that brings no octet inwards: what was kept before, from
-- what is acknowledged on.

-- what an era says is acknowledged is what its list says
pub acked_is : (e : Era) (ws : List Written) → era.StandsFor e ws → acked_in e ≡ acked (base_at ws) ws
acked_is (Called e) ws h = sym (h.untouched (base_at ws)).acked_is
acked_is (Offered e) ws h = sym (ap (λ b. acked (number_in b) ws) h.base_is ∙ h.untouched.acked_is)
acked_is (Warm e) ws h = h.0.acked_is ∙ sym (ap (λ b. acked (number_in b) ws) h.0.base_is)
acked_is (Closed e) ws h = h.acked_is ∙ sym (ap (λ b. acked (number_in b) ws) h.base_is)

none_of : (x : Option ℕ) → (is_some x ≡ true → ⊥) → x ≡ None
none_of None never = refl
none_of (Some x) never = absurd (never refl)

-- a base is fixed, or none is and there is no octet, whatever the base
abbrev Based : List Written → Type 0
Based ws = ((base_of ws ≡ None) × ((base o : ℕ) → first base ws (pos o) ≡ None)) ⊎ ((base : ℕ) × (base_of ws ≡ Some base))

based : (e : Era) (ws : List Written) → era.StandsFor e ws → Based ws
based (Called e) ws h = inl (h.unbased, (λ base o. none_of (first base ws (pos o)) (λ some. let below = first_is_below base ws o some in absurd (omega (arith, (h.untouched base).top_is)))))
based (Offered e) ws h = inr (e.base, h.base_is)
based (Warm e) ws h = inr (e.base, h.0.base_is)
based (Closed e) ws h = inr (e.last.base, h.base_is)

or_some : (f : Option ℕ) (rest more : Option ℕ) (base : ℕ) → option_or f rest ≡ Some base → (rest ≡ Some base → more ≡ Some base) → option_or f more ≡ Some base
or_some None rest more base is goes = goes is
or_some (Some b) rest more base is goes = is

pub first_stays_of : (xs more : List Written) (base : ℕ) → first_of fixes xs ≡ Some base → first_of fixes (xs ++ more) ≡ Some base
first_stays_of [] more base is = cc
first_stays_of (x ∷ xs) more base is = or_some (fixes x) (first_of fixes xs) (first_of fixes (xs ++ more)) base is (first_stays_of xs more base)

-- after segments that bring no octet no first octet is another, and no less is acknowledged
none_more : FirstStays → (base : ℕ) (ws more : List Written) (o : ℕ) → AllByRecursion BringsNone more → first base (ws ++ more) (pos o) ≡ first base ws (pos o)
none_more stays base ws [] o none = ap (λ l. first base l (pos o)) (append-nil ws)
none_more stays base ws (w ∷ more) o none =
    ap (λ l. first base l (pos o)) (sym (append_assoc ws (w ∷ []) more))
    ∙ (none_more stays base (ws ++ w ∷ []) more o none.1
    ∙ (stays base ws w (pos o) ∙ (ap (option_or (first base ws (pos o))) (none.0 base (acked base ws) o) ∙ or_none (first base ws (pos o)))))

acked_grows : AckedNeverFalls → (base : ℕ) (ws more : List Written) → acked base ws ≤ acked base (ws ++ more)
acked_grows grows base ws [] = subst (λ l. acked base ws ≤ acked base l) (sym (append-nil ws)) (omega arith)
acked_grows grows base ws (w ∷ more) =
    let one = grows base ws w in
    let rest = acked_grows grows base (ws ++ w ∷ []) more in
    subst (λ l. acked base ws ≤ acked base l) (append_assoc ws (w ∷ []) more) (omega (arith, one, rest))

kept_behind : FirstStays → AckedNeverFalls → (old new : Era) (ws more : List Written) → era.StandsFor old ws → era.StandsFor new (ws ++ more) → AllByRecursion BringsNone more
    → (o : ℕ) → kept_at (ws ++ more) o ≡ cond (nat_lt o (acked_in new)) None (kept_at ws o)
kept_behind stays grows old new ws more was is none o =
    ap (λ a. cond (nat_lt o a) None (first (base_at (ws ++ more)) (ws ++ more) (pos o))) (sym (acked_is new (ws ++ more) is)) ∙ by_base (based old ws was)
  where
    both : (b c : Bool) (x y : Option ℕ) → x ≡ None → y ≡ None → cond b None x ≡ cond b None (cond c None y)
    both true c x y e f = refl
    both false true x y e f = e
    both false false x y e f = e ∙ sym f

    inner : (a b : ℕ) (x : Option ℕ) → a ≤ b → cond (nat_lt o b) None x ≡ cond (nat_lt o b) None (cond (nat_lt o a) None x)
    inner a b x le = cases (nat_lt o b) refl
      where
        cases : (t : Bool) → nat_lt o b ≡ t → cond t None x ≡ cond t None (cond (nat_lt o a) None x)
        cases true e = refl
        cases false e = let f : nat_lt o a ≡ false = grind (arith, nat_tests, e, le) in sym (ap (λ t. cond t None x) f)

    by_base : Based ws → cond (nat_lt o (acked_in new)) None (first (base_at (ws ++ more)) (ws ++ more) (pos o)) ≡ cond (nat_lt o (acked_in new)) None (kept_at ws o)
    by_base (inl (unbased, empty)) =
        both (nat_lt o (acked_in new)) (nat_lt o (acked (base_at ws) ws)) _ _ (none_more stays (base_at (ws ++ more)) ws more o none ∙ empty (base_at (ws ++ more)) o) (empty (base_at ws) o)
    by_base (inr (base, fixed)) =
        let here : base_at ws ≡ base = ap number_in fixed in
        let then' : base_at (ws ++ more) ≡ base = ap number_in (first_stays_of ws more base fixed) in
        let le : acked (base_at ws) ws ≤ acked_in new =
        subst (λ b. acked b ws ≤ acked_in new) (sym here) (subst (λ a. acked base ws ≤ a) (ap (λ b. acked b (ws ++ more)) (sym then') ∙ sym (acked_is new (ws ++ more) is)) (acked_grows grows base ws more)) in
        ap (λ b. cond (nat_lt o (acked_in new)) None (first b (ws ++ more) (pos o))) (then' ∙ sym here)
        ∙ (ap (λ x. cond (nat_lt o (acked_in new)) None x) (none_more stays (base_at ws) ws more o none)
        ∙ inner (acked (base_at ws) ws) (acked_in new) (first (base_at ws) ws (pos o)) le)

-- a chain of which the octets below are forgotten
pub keeps_behind : FirstStays → AckedNeverFalls → (old new : Era) (ws more : List Written) (blocks left : List Block) → era.StandsFor old ws → era.StandsFor new (ws ++ more)
    → AllByRecursion BringsNone more → Keeps blocks ws → ForgetsBelow blocks left (acked_in new) → Keeps left (ws ++ more)
keeps_behind stays grows old new ws more blocks left was is none keeps forgets o =
    forgets o ∙ (ap (λ x. cond (nat_lt o (acked_in new)) None x) (keeps o) ∙ sym (kept_behind stays grows old new ws more was is none o))

twice : (b : Bool) (x : Option ℕ) → cond b None x ≡ cond b None (cond b None x)
twice true x = refl
twice false x = refl

-- a chain of which nothing is to be forgotten, since no more is acknowledged
pub keeps_same : FirstStays → AckedNeverFalls → (old new : Era) (ws more : List Written) (blocks : List Block) → era.StandsFor old ws → era.StandsFor new (ws ++ more) → acked_in new ≡ acked_in old
    → AllByRecursion BringsNone more → Keeps blocks ws → Keeps blocks (ws ++ more)
keeps_same stays grows old new ws more blocks was is same none keeps =
    keeps_behind stays grows old new ws more blocks blocks was is none keeps
    (λ o.
    let first_at = first (base_at ws) ws (pos o) in
    keeps o ∙ (twice (nat_lt o (acked (base_at ws) ws)) first_at
    ∙ ap₂ (λ a x. cond (nat_lt o a) None x) (sym (same ∙ acked_is old ws was)) (sym (keeps o))))

-- an outbound segment, and one without octets, brings none
pub outbound_brings_none : (w : Written) → w.inward ≡ false → BringsNone w
outbound_brings_none w out base at o = rw out refl

-- silent segments bring none, and an era represents them after its own
pub silent_brings_none : (w : Written) → IsSilent w → BringsNone w
silent_brings_none w silent base at o = rw silent.no_octets (none_in w.inward (natural (pos o -ℤ off base at w.seq)))
  where
    none_in : (b : Bool) (x : Option ℕ) → cond b (get_at [] x) None ≡ None
    none_in true None = refl
    none_in true (Some i) = refl
    none_in false x = refl

pub silent_stands : SilenceStands → (e : Era) (ws more : List Written) → AllByRecursion IsSilent more → era.StandsFor e ws → era.StandsFor e (ws ++ more)
silent_stands stays e ws [] all stands = subst (era.StandsFor e) (sym (append-nil ws)) stands
silent_stands stays e ws (w ∷ more) all stands =
    subst (era.StandsFor e) (append_assoc ws (w ∷ []) more) (silent_stands stays e (ws ++ w ∷ []) more all.1 (stays e ws w all.0 stands))

-- The chain that has the kept octets of an era: its blocks, the octets that go inwards by it, and
-- what a segment adds.

-- A chain that has the octets kept of an era has its blocks.

pub missing_are : (blocks : List Block) (ws : List Written) (from len : ℕ) → IsMap blocks → Keeps blocks ws → missing blocks from len ≡ missing_of ws from len
missing_are blocks ws from len map keeps = kept.missing_are blocks (kept_at ws) from len map keeps

-- as many as the store counts
pub count_is : (blocks : List Block) (ws : List Written) → IsMap blocks → Keeps blocks ws
    → ((n : ℕ) → IsWithin blocks (256 * n) → length blocks ≡ count_by (holds blocks) (range_with_len 0 n)) → length blocks ≡ held_of ws
count_is blocks ws map keeps counted = kept.count_is blocks (kept_at ws) (top (base_at ws) ws / 256 + 1) map keeps below counted
  where
    below : (o : ℕ) → is_some (kept_at ws o) ≡ true → o < 256 * (top (base_at ws) ws / 256 + 1)
    below o some = cases (nat_lt o (acked (base_at ws) ws)) some
      where
        cases : (b : Bool) → is_some (cond b None (first (base_at ws) ws (pos o))) ≡ true → o < 256 * (top (base_at ws) ws / 256 + 1)
        cases true got = cc
        cases false got = let under = first_is_below (base_at ws) ws o got in omega arith

-- the blocks that are wanted
pub wanted_is : (ws : List Written) (w : Written) (kept : Interval) (blocks : List Block) → IsMap blocks → Keeps blocks ws → KeptOf ws w kept
    → missing blocks kept.lo (kept.hi - kept.lo) ≡ missing_of ws (low_of ws w) (high_of ws w - low_of ws w)
wanted_is ws w kept blocks map keeps is =
    missing_are blocks ws kept.lo (kept.hi - kept.lo) map keeps ∙ ap₂ (λ l h. missing_of ws l (h - l)) is.spans.lo_is is.spans.hi_is

-- What a frame with octets of the stream adds to what is kept of its era.

got_past : (xs : List ℕ) (i : ℕ) → length xs ≤ i → slice_get xs i ≡ None
got_past [] i past = refl
got_past (x ∷ xs) zero past = absurd (omega arith)
got_past (x ∷ xs) (suc i) past = got_past xs i (omega arith)

-- the frame's octets by its interval, and as octets from an offset on
frame_octet : (octets : List ℕ) (lo hi o : ℕ) → lo + length octets ≡ hi
    → (cond (int_le (pos lo) (pos o) && int_lt (pos o) (pos hi)) (slice_get octets (nat_of (pos o) - lo)) None) ≡ octet_in lo octets o
frame_octet octets lo hi o long = first_case (nat_lt o lo) refl
  where
    first_case : (b : Bool) → nat_lt o lo ≡ b
        → (cond (int_le (pos lo) (pos o) && int_lt (pos o) (pos hi)) (slice_get octets (o - lo)) None) ≡ cond b None (slice_get octets (o - lo))
    first_case true e =
        let low : int_le (pos lo) (pos o) ≡ false = grind (arith, nat_tests, e) in
        rw low refl
    first_case false e =
        let low : int_le (pos lo) (pos o) ≡ true = grind (arith, nat_tests, e) in
        second_case (int_lt (pos o) (pos hi)) refl low e
      where
        second_case : (b : Bool) → int_lt (pos o) (pos hi) ≡ b → int_le (pos lo) (pos o) ≡ true → nat_lt o lo ≡ false
            → (cond (int_le (pos lo) (pos o) && int_lt (pos o) (pos hi)) (slice_get octets (o - lo)) None) ≡ slice_get octets (o - lo)
        second_case true high low f = rw (low, high) refl
        second_case false high low f =
            let past : length octets ≤ o - lo = grind (arith, nat_tests, high, f) in
            rw (low, high) (sym (got_past octets (o - lo) past))

base_is : (e : WarmEra) (ws : List Written) → WarmFor e ws → base_at ws ≡ e.base
base_is e ws h = ap number_in h.base_is

-- what is kept with the frame: what was kept before, and the frame's octets where nothing was
pub kept_with : FirstStays → FrameOctets → IntervalsFit → (fresh : ℕ) (e new : WarmEra) (ws : List Written) (w frame : Written) (i : Interval)
    → WarmFor e ws → WarmFor new (ws ++ frame ∷ []) → WarmWith i fresh e new → KeptOf ws w i → IsFrame ws w i frame
    → (o : ℕ) → kept_at (ws ++ frame ∷ []) o ≡ option_or (kept_at ws o) (octet_in i.lo frame.octets o)
kept_with stays octets fit fresh e new ws w frame i was is with kept framed o =
    let base : base_at (ws ++ frame ∷ []) ≡ base_at ws = base_is new (ws ++ frame ∷ []) is ∙ (with.base_is ∙ sym (base_is e ws was)) in
    let acked_is : acked (base_at (ws ++ frame ∷ [])) (ws ++ frame ∷ []) ≡ acked (base_at ws) ws =
    ap (λ b. acked b (ws ++ frame ∷ [])) (base_is new (ws ++ frame ∷ []) is)
    ∙ (sym is.acked_is ∙ (with.acked_is ∙ (was.acked_is ∙ sym (ap (λ b. acked b ws) (base_is e ws was))))) in
    let first_is : first (base_at (ws ++ frame ∷ [])) (ws ++ frame ∷ []) (pos o) ≡ option_or (first (base_at ws) ws (pos o)) (octet_in i.lo frame.octets o) =
    ap (λ b. first b (ws ++ frame ∷ []) (pos o)) base
    ∙ (stays (base_at ws) ws frame (pos o)
    ∙ ap (option_or (first (base_at ws) ws (pos o))) (octets e ws w i frame was kept framed (pos o) ∙ frame_octet frame.octets i.lo i.hi o framed.long)) in
    ap₂ (λ a f. cond (nat_lt o a) None f) acked_is first_is ∙ cases (nat_lt o (acked (base_at ws) ws)) refl
  where
    cases : (b : Bool) → nat_lt o (acked (base_at ws) ws) ≡ b
        → cond b None (option_or (first (base_at ws) ws (pos o)) (octet_in i.lo frame.octets o)) ≡ option_or (cond b None (first (base_at ws) ws (pos o))) (octet_in i.lo frame.octets o)
    cases false e = refl
    cases true e =
        let above = (fit ws w i kept).above in
        let low : nat_lt o i.lo ≡ true = grind (arith, nat_tests, e, above) in
        rw low refl

pick : (a b : ℕ) → a ≤ b → nat_lt b a ≡ false
pick a b le = grind (arith, nat_tests, le)

fresh_range : (ws : List Written) (blocks : List Block) (lo n : ℕ) → acked (base_at ws) ws ≤ lo → Keeps blocks ws
    → count_by (λ o. is_none (stored_octet blocks o)) (range_with_len lo n) ≡ count_by (λ o. is_none (first (base_at ws) ws (pos o))) (range_with_len lo n)
fresh_range ws blocks lo zero above keeps = refl
fresh_range ws blocks lo (suc n) above keeps =
    let same : stored_octet blocks lo ≡ first (base_at ws) ws (pos lo) =
    keeps lo ∙ ap (λ b. cond b None (first (base_at ws) ws (pos lo))) (pick (acked (base_at ws) ws) lo above) in
    let here : cond {A = ℕ} (is_none (stored_octet blocks lo)) 1 0 ≡ cond {A = ℕ} (is_none (first (base_at ws) ws (pos lo))) 1 0 = ap (λ x. cond {A = ℕ} (is_none x) 1 0) same in
    let rest = fresh_range ws blocks (lo + 1) n (omega arith) keeps in
    omega (
      arith,
      here,
      rest,
      sum_by-cons (λ o. cond {A = ℕ} (is_none (stored_octet blocks o)) 1 0) lo (range_with_len (lo + 1) n),
      sum_by-cons (λ o. cond {A = ℕ} (is_none (first (base_at ws) ws (pos o))) 1 0) lo (range_with_len (lo + 1) n),
    )

-- what the store counts as fresh is what the list has none of, from what is acknowledged on
pub fresh_is : IntervalsFit → (ws : List Written) (w : Written) (i : Interval) (blocks : List Block) (size count : ℕ) → KeptOf ws w i → Keeps blocks ws
    → i.lo + size ≡ i.hi → count ≡ fresh blocks i.lo size → count ≡ fresh_places (base_at ws) ws i.lo i.hi
fresh_is fit ws w i blocks size count kept keeps long counted =
    let n : size ≡ i.hi - i.lo = omega arith in
    counted ∙ (fresh_range ws blocks i.lo size (fit ws w i kept).above keeps
    ∙ ap (λ m. count_by (λ o. is_none (first (base_at ws) ws (pos o))) (range_with_len i.lo m)) n)

-- a chain in which the frame's octets are placed
pub keeps_with : FirstStays → FrameOctets → IntervalsFit → (fresh : ℕ) (e new : WarmEra) (ws : List Written) (w frame : Written) (i : Interval) (blocks placed : List Block) (octets : List ℕ)
    → WarmFor e ws → WarmFor new (ws ++ frame ∷ []) → WarmWith i fresh e new → KeptOf ws w i → IsFrame ws w i frame → frame.octets ≡ octets
    → Keeps blocks ws → Places blocks placed i.lo octets → Keeps placed (ws ++ frame ∷ [])
keeps_with stays law fit fresh e new ws w frame i blocks placed octets was is with kept framed same keeps places o =
    places o ∙ (ap₂ (λ k l. option_or k (octet_in i.lo l o)) (keeps o) (sym same) ∙ sym (kept_with stays law fit fresh e new ws w frame i was is with kept framed o))

got : {a b : WarmEra} → Some a ≡ Some b → a ≡ b
got e = cc

-- the quantities of an era in which an offset is acknowledged represent its segments
pub last_stands : (e : Era) (warm : WarmEra) (ws : List Written) → last_in e ≡ Some warm → StandsFor e ws → WarmFor warm ws
last_stands (Called e) warm ws is stands = cc
last_stands (Offered e) warm ws is stands = cc
last_stands (variants.Warm e) warm ws is stands = subst (λ x. WarmFor x ws) (got is) stands.0
last_stands (Closed e) warm ws is stands = subst (λ x. WarmFor x ws) (got is) stands
