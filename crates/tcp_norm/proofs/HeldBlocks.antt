-- How many blocks hold octets of an era, and how this grows with a segment.
use Rattle.std.proofs.Common.{◌≡◌, ℕ, ◌+◌, ◌==◌, ◌<◌, ◌≤◌, ◌&&◌, ◌||◌, Bool, true, false, cond, List, ◌∷◌, refl, ap, ap₂, ◌∙◌, arith, ◌⊎◌, ◌-◌, ◌*◌, ◌/◌, ◌%◌, ◌^◌, not, max, ◌++◌, length, Option, Some, None, is_some, inl, inr, ℤ, pos, ◌-ℤ◌, ◌<ℤ◌, sym, subst, append_assoc, nat_lt, append-nil, [], negsuc}
use Rattle.std.specs.List.{count_by, range_with_len, AllByRecursion}
use Rattle.std.specs.Option.{option_or}
use Rattle.std.proofs.lemmas.Int.{ints}
use Rattle.std.proofs.lemmas.Bool.Decides.{nat_tests}
use Rattle.wire_base.specs.Tcp as tcp
use Rattle.wire_base.specs.Segments.{Written}
use Rattle.era_state.specs.Offsets.{off, natural, nat_of, number_in, OffsetsAreRead, PlacesAreRead}
use Rattle.era_state.specs.SegmentMarks.{octet_at, get_at}
use Rattle.era_state.specs.Quantities.{base_of, base_at, acked, first, top}
use Rattle.era_state.specs.ForwardedOctets.{Bounds, bounds_of, offset_of, low, high, frame_sequence, frame_sequence_of}
use Rattle.era_state.specs.QuantityLaws.{FirstStays, AckedNeverFalls, IntervalsFit}
use Rattle.era_state.specs.Emission.{AreEmitted}
use Rattle.era_state.specs.EmissionLaws.{EmittedJoins, UnbasedHasNoOctet}
use Rattle.tcp_codec.specs.CleanedOptions.{CleansOctets}
use Rattle.tcp_codec.specs.WrittenSegment.{AreReadBack}
use Rattle.retain_store.specs.Maps.{touched}
use Rattle.tcp_norm.specs.HeldOctets.{kept_at, has_block, held_of, missing_of}
use Rattle.tcp_norm.specs.RuleRows.{low_of, high_of, wanted_of}
use Rattle.tcp_norm.specs.working.EmptySegments.{BringsNone}
use Rattle.tcp_norm.proofs.KeptOctets.{first_stays_of, first_is_below, got_inside}
use Rattle.tcp_norm.proofs.StreamFrames.{Own}
use Rattle.tcp_norm.proofs.Lists.{among, among_range, count_of, count_within, passes_in, some_of}

-- How Held grows with a segment: not with one that brings no octet, and with one that brings some
-- by the blocks that have none.

-- what is asked of eras and of segments that are written
pub record Laws : Type 0 where
  pub reads : OffsetsAreRead
  pub places : PlacesAreRead
  pub back : AreReadBack
  pub cleans : CleansOctets
  pub fits : IntervalsFit
  pub first : FirstStays
  pub rises : AckedNeverFalls
  pub unbased : UnbasedHasNoOctet
  pub joins : EmittedJoins

-- an octet that is kept is First, at or past what is acknowledged
kept_parts : (ws : List Written) (o : ℕ) → is_some (kept_at ws o) ≡ true → (acked (base_at ws) ws ≤ o) × (is_some (first (base_at ws) ws (pos o)) ≡ true)
kept_parts ws o some = cases (nat_lt o (acked (base_at ws) ws)) refl some
  where
    cases : (b : Bool) → nat_lt o (acked (base_at ws) ws) ≡ b → is_some (cond b None (first (base_at ws) ws (pos o))) ≡ true
        → (acked (base_at ws) ws ≤ o) × (is_some (first (base_at ws) ws (pos o)) ≡ true)
    cases true e got = cc
    cases false e got = (grind (arith, nat_tests, e), got)

kept_there : (ws : List Written) (o : ℕ) → acked (base_at ws) ws ≤ o → is_some (first (base_at ws) ws (pos o)) ≡ true → is_some (kept_at ws o) ≡ true
kept_there ws o above some =
    let test : nat_lt o (acked (base_at ws) ws) ≡ false = grind (arith, nat_tests, above) in
    ap (λ b. is_some (cond b None (first (base_at ws) ws (pos o)))) test ∙ some

-- a block that is held has a kept octet, and the other way round
held_at : (ws : List Written) (m : ℕ) → has_block ws m ≡ true → (o : ℕ) × (o / 256 ≡ m) × (is_some (kept_at ws o) ≡ true)
held_at ws m e = let s = some_of (λ o. is_some (kept_at ws o)) (256 * m) 256 e in (s.0, omega (arith, s.1, s.2), s.3)

pub holds_at : (ws : List Written) (o : ℕ) → is_some (kept_at ws o) ≡ true → has_block ws (o / 256) ≡ true
holds_at ws o some = passes_in (λ p. is_some (kept_at ws p)) (256 * (o / 256)) 256 o (omega arith) (omega arith) some

-- no block past Top is held
pub held_most : (ws : List Written) (n : ℕ) → count_by (has_block ws) (range_with_len 0 n) ≤ held_of ws
held_most ws n = count_of (has_block ws) (has_block ws) 0 n (range_with_len 0 (top (base_at ws) ws / 256 + 1)) (λ m e. inside m e)
  where
    inside : (m : ℕ) → has_block ws m ≡ true → (among (range_with_len 0 (top (base_at ws) ws / 256 + 1)) m && has_block ws m) ≡ true
    inside m e =
        let h = held_at ws m e in
        let below = first_is_below (base_at ws) ws h.0 (kept_parts ws h.0 h.2).1 in
        let within : m < 0 + (top (base_at ws) ws / 256 + 1) = omega (arith, h.1, below) in
        ap₂ (λ a b. a && b) (among_range 0 (top (base_at ws) ws / 256 + 1) m (omega arith) within) e

-- the block of an offset is touched
touches : (from len o : ℕ) → from ≤ o → o < from + len → among (touched from len) (o / 256) ≡ true
touches from len o above below =
    let some : (len == 0) ≡ false = grind (arith, above, below) in
    ap (λ b. among (cond b [] (range_with_len (from / 256) ((from + len - 1) / 256 + 1 - from / 256))) (o / 256)) some
    ∙ among_range (from / 256) ((from + len - 1) / 256 + 1 - from / 256) (o / 256) (omega arith) (omega arith)

-- What is kept of a list was kept of another, or is at this number of offsets from one on.
abbrev pub GrowsIn : (old new : List Written) (from len : ℕ) → Type 0
GrowsIn old new from len = (o : ℕ) → is_some (kept_at new o) ≡ true → (is_some (kept_at old o) ≡ true) ⊎ ((from ≤ o) × (o < from + len))

pub held_grows : (old new : List Written) (from len : ℕ) → GrowsIn old new from len → held_of new ≤ held_of old + missing_of old from len
held_grows old new from len grows =
    let n = top (base_at new) new / 256 + 1 in
    omega (arith, count_within (has_block new) (has_block old) (λ m. not (has_block old m)) 0 n (touched from len) (λ m e. block m e), held_most old n)
  where
    known : (b t : Bool) → (b ≡ false → t ≡ true) → (b || (t && not b)) ≡ true
    known true t goes = refl
    known false t goes = ap (λ x. x && true) (goes refl)

    block : (m : ℕ) → has_block new m ≡ true → (has_block old m || (among (touched from len) m && not (has_block old m))) ≡ true
    block m e = known (has_block old m) (among (touched from len) m) (λ none. place none (held_at new m e))
      where
        place : has_block old m ≡ false → (o : ℕ) × (o / 256 ≡ m) × (is_some (kept_at new o) ≡ true) → among (touched from len) m ≡ true
        place none h =
            elim (grows h.0 h.2) [
              | inl was ↦ cc (sym none ∙ (ap (has_block old) (sym h.1) ∙ holds_at old h.0 was))
              | inr within ↦ ap (among (touched from len)) (sym h.1) ∙ touches from len h.0 within.0 within.1
            ]

pub held_less : (old new : List Written) → ((o : ℕ) → is_some (kept_at new o) ≡ true → is_some (kept_at old o) ≡ true) → held_of new ≤ held_of old
held_less old new kept = omega (arith, held_grows old new 0 0 (λ o some. inl (kept o some)))

-- with one more segment, where the base stays
or_parts : (x y : Option ℕ) → is_some (option_or x y) ≡ true → (is_some x ≡ true) ⊎ (is_some y ≡ true)
or_parts (Some x) y e = inl refl
or_parts None y e = inr e

one_more : Laws → (ws : List Written) (w : Written) → base_at (ws ++ w ∷ []) ≡ base_at ws
    → (o : ℕ) → is_some (kept_at (ws ++ w ∷ []) o) ≡ true → (is_some (kept_at ws o) ≡ true) ⊎ (is_some (octet_at (base_at ws) (acked (base_at ws) ws) (pos o) w) ≡ true)
one_more l ws w same o some =
    let base = base_at ws in
    let parts = kept_parts (ws ++ w ∷ []) o some in
    let above : acked base (ws ++ w ∷ []) ≤ o = subst (λ b. acked b (ws ++ w ∷ []) ≤ o) same parts.0 in
    let got : is_some (first base (ws ++ w ∷ []) (pos o)) ≡ true = subst (λ b. is_some (first b (ws ++ w ∷ []) (pos o)) ≡ true) same parts.1 in
    let rise = l.rises base ws w in
    elim (or_parts (first base ws (pos o)) (octet_at base (acked base ws) (pos o) w) (ap is_some (sym (l.first base ws w (pos o))) ∙ got)) [
      | inl was ↦ inl (kept_there ws o (omega (arith, above, rise)) was)
      | inr new ↦ inr new
    ]

-- a base that is fixed stays
pub base_stays : (ws : List Written) (w : Written) (base : ℕ) → base_of ws ≡ Some base → base_at (ws ++ w ∷ []) ≡ base_at ws
base_stays ws w base is = ap number_in (first_stays_of ws (w ∷ []) base is) ∙ sym (ap number_in is)

-- a segment that brings no octet
silent_one : Laws → (ws : List Written) (w : Written) → AreEmitted [] ws → BringsNone w → held_of (ws ++ w ∷ []) ≤ held_of ws
silent_one l ws w emitted none = held_less ws (ws ++ w ∷ []) (λ o some. by_base (base_of ws) refl o some)
  where
    by_base : (b : Option ℕ) → base_of ws ≡ b → (o : ℕ) → is_some (kept_at (ws ++ w ∷ []) o) ≡ true → is_some (kept_at ws o) ≡ true
    by_base None e o some =
        let base = base_at (ws ++ w ∷ []) in
        let got = (kept_parts (ws ++ w ∷ []) o some).1 in
        cc (sym got ∙ ap is_some (l.first base ws w (pos o) ∙ ap₂ option_or (l.unbased base ws e emitted (pos o)) (none base (acked base ws) o)))
    by_base (Some base) e o some =
        elim (one_more l ws w (base_stays ws w base e) o some) [
          | inl was ↦ was
          | inr new ↦ cc (sym new ∙ ap is_some (none (base_at ws) (acked (base_at ws) ws) o))
        ]

-- segments that bring none
pub silent_all : Laws → (ws more : List Written) → AreEmitted [] (ws ++ more) → AllByRecursion BringsNone more → held_of (ws ++ more) ≤ held_of ws
silent_all l ws [] emitted all = let same = ap held_of (append-nil ws) in omega (arith, same)
silent_all l ws (w ∷ more) emitted all =
    let shift : (ws ++ w ∷ []) ++ more ≡ ws ++ w ∷ more = append_assoc ws (w ∷ []) more in
    let rest = silent_all l (ws ++ w ∷ []) more (subst (AreEmitted []) (sym shift) emitted) all.1 in
    let here = silent_one l ws w ((l.joins [] ws (w ∷ more)).0 emitted).0 all.0 in
    let same = ap held_of shift in
    omega (arith, rest, here, same)

-- a segment whose octets are in the kept interval
abbrev pub Stands : List Written → (w frame : Written) → Type 0
Stands ws w frame = (o : ℕ) → is_some (octet_at (base_at ws) (acked (base_at ws) ws) (pos o) frame) ≡ true → (low_of ws w ≤ o) × (o < high_of ws w)

pub frame_grows : Laws → (ws : List Written) (w frame : Written) → base_of ws ≡ Some (base_at ws) → Stands ws w frame
    → held_of (ws ++ frame ∷ []) ≤ held_of ws + wanted_of ws w
frame_grows l ws w frame fixed stands =
    held_grows ws (ws ++ frame ∷ []) (low_of ws w) (high_of ws w - low_of ws w) (λ o some.
    elim (one_more l ws frame (base_stays ws frame (base_at ws) fixed) o some) [
      | inl was ↦ inl was
      | inr new ↦ let s = stands o new in inr (s.0, omega (arith, s.0, s.1))
    ])

-- the index of an octet in a segment
index_of : (octets : List ℕ) (z : ℤ) → is_some (get_at octets (natural z)) ≡ true → (i : ℕ) × (z ≡ pos i) × (i < length octets)
index_of octets (pos i) got = (i, refl, got_inside octets i got)
index_of octets (negsuc i) got = cc

index_in : (base at o : ℕ) (w : Written) → is_some (octet_at base at (pos o) w) ≡ true
    → (i : ℕ) × ((pos o -ℤ off base at w.seq) ≡ pos i) × (i < length w.octets)
index_in base at o w got = cases w.inward got
  where
    cases : (b : Bool) → is_some (cond b (get_at w.octets (natural (pos o -ℤ off base at w.seq))) None) ≡ true
        → (i : ℕ) × ((pos o -ℤ off base at w.seq) ≡ pos i) × (i < length w.octets)
    cases true got = index_of w.octets (pos o -ℤ off base at w.seq) got
    cases false got = cc

-- a segment that is its own frame
pub own_stands : (ws : List Written) (w : Written) → Own (bounds_of ws) (offset_of ws w.seq) (length w.octets) (tcp.has_fin w.flags) → Stands ws w w
own_stands ws w own o got =
    let i = index_in (base_at ws) (acked (base_at ws) ws) o w got in
    let s = own.begins (omega (arith, i.2)) in
    let place : (pos o -ℤ pos s.0) ≡ pos i.0 = ap (λ z. pos o -ℤ z) (sym s.1) ∙ i.1 in
    let at : o ≡ s.0 + i.0 = omega (arith, ints, place) in
    (omega (arith, at, s.2), omega (arith, at, s.2, i.2, own.long))

-- the number of a frame with octets is that of its first octet
sequence_low : (base : ℕ) (b : Bounds) (at : ℤ) (sequence len : ℕ) (fin : Bool) → nat_lt (low b at) (high b at len) ≡ true
    → frame_sequence base b at sequence len fin ≡ (base + low b at) % 2 ^ 32
sequence_low base b at sequence len fin some = rw some refl

-- a rewritten one, with the number and the length of its interval
pub anew_stands : Laws → (ws : List Written) (w frame : Written) → frame.seq ≡ frame_sequence_of ws w → length frame.octets ≡ high_of ws w - low_of ws w
    → Stands ws w frame
anew_stands l ws w frame number long o got =
    let base = base_at ws in
    let from = acked base ws in
    let lo = low_of ws w in
    let i = index_in base from o frame got in
    let some : nat_lt lo (high_of ws w) ≡ true = grind (arith, nat_tests, i.2, long) in
    let is = number ∙ sequence_low base (bounds_of ws) (offset_of ws w.seq) w.seq (length w.octets) (tcp.has_fin w.flags) some in
    let ahead = ((l.reads base from w.seq (offset_of ws w.seq)).1 refl).ahead in
    let near : lo < from + 2 ^ 31 = below (offset_of ws w.seq) from ahead in
    let here : off base from frame.seq ≡ pos lo = ap (off base from) is ∙ l.places base from lo (omega arith) near in
    let place : (pos o -ℤ pos lo) ≡ pos i.0 = ap (λ z. pos o -ℤ z) (sym here) ∙ i.1 in
    let at : o ≡ lo + i.0 = omega (arith, ints, place) in
    (omega (arith, at), omega (arith, at, i.2, long))
  where
    below : (z : ℤ) (from : ℕ) → z <ℤ pos (from + 2 ^ 31) → max (nat_of z) from < from + 2 ^ 31
    below (pos n) from lt = let less : n < from + 2 ^ 31 = omega (arith, ints, lt) in omega (arith, less)
    below (negsuc n) from lt = omega arith
