-- The fragments of one datagram: what one more changes, and the octets and blocks that they hold.
use Rattle.std.specs.List.{count_by, range_with_len}
use Rattle.std.specs.Option.{option_or, unwrap_or}
use Rattle.std.proofs.lemmas.Bool.Decides.{nat_tests}
use Rattle.rule_book.specs.declared.rule.Rule.{Rule}
use Rattle.rule_book.specs.declared.rule.Rule.TheVariants.{FDf, FEmpty, FAlign, FBig}
use Rattle.reassembly.specs.declared.progress.Progress.{Progress}
use Rattle.reassembly.specs.TableAndStore.{Keeps, ProgressOf}
use Rattle.std.proofs.Common.{max, is_none, ◌≡◌, ℕ, zero, suc, ◌+◌, ◌-◌, ◌==◌, ◌<◌, ◌≤◌, Bool, true, false, cond, not, List, [], ◌∷◌, length, Option, Some, None, is_some, refl, sym, ap, ap₂, ◌∙◌, arith, ◌||◌, ◌&&◌, ◌*◌, ◌/◌, ◌↔◌, nat_lt, slice_get, slice_index}
use Rattle.std.proofs.lemmas.Bool.{or_parts, false_from_ne_true}
use Rattle.retain_store.specs.Maps.{Agrees, IsMap, IsWithin, holds, Block, Places, octet_in, octet_at, fresh}
use Rattle.retain_store.proofs.Counts.{agree, count_most, none_counted, either, full, parts}
use Rattle.retain_store.proofs.Room.{count_is}
use Rattle.reassembly.specs.DatagramFragments.{filled_in, Fragment, end_of, octet_of, total_of, reach, front_of, is_filled, is_whole, whole_with, whole_of, cells_of}
use Rattle.reassembly.specs.working.CompleteDatagram.{whole_if}
use Rattle.reassembly.specs.RuleRows.{differs, ends_otherwise, f_df, f_empty, f_align, f_end, own_rows, first_row, clashes}

-- What fragments make together, with one fragment more.

-- a fragment has an octet exactly from its offset to its end
pub in_piece : (from : ℕ) (xs : List ℕ) (o : ℕ) → is_some (octet_in from xs o) ≡ true → (from ≤ o) × (o < from + length xs)
in_piece from xs o some = tests (nat_lt o from) refl some
  where
    tests : (b : Bool) → nat_lt o from ≡ b → is_some (cond b None (slice_get xs (o - from))) ≡ true → (from ≤ o) × (o < from + length xs)
    tests true e got = cc
    tests false e got =
        let low : from ≤ o = grind (arith, nat_tests, e) in (low, below low (slice_below xs (o - from) got))
      where
        slice_below : (ys : List ℕ) (i : ℕ) → is_some (slice_get ys i) ≡ true → i < length ys
        slice_below [] i got = cc
        slice_below (y ∷ ys) zero got = omega arith
        slice_below (y ∷ ys) (suc i) got = let rest = slice_below ys i got in omega arith

        below : from ≤ o → o - from < length xs → o < from + length xs
        below low lt = omega arith

of_piece : (from : ℕ) (xs : List ℕ) (o : ℕ) → from ≤ o → o < from + length xs → is_some (octet_in from xs o) ≡ true
of_piece from xs o low high =
    let test : nat_lt o from ≡ false = grind (arith, nat_tests, low) in
    ap (λ b. is_some (cond b None (slice_get xs (o - from)))) test ∙ there xs (o - from) (omega arith)
  where
    there : (ys : List ℕ) (i : ℕ) → i < length ys → is_some (slice_get ys i) ≡ true
    there [] i lt = absurd (omega arith)
    there (y ∷ ys) zero lt = refl
    there (y ∷ ys) (suc i) lt = there ys i (omega arith)

pub some_or : (a b : Option ℕ) → is_some (option_or a b) ≡ (is_some a || is_some b)
some_or None b = refl
some_or (Some x) b = refl

-- no octet is at or past the reach
reach_step : (p : Fragment) (ps : List Fragment) (o : ℕ) (held : Option ℕ) → (is_some held ≡ true → o < reach ps)
    → is_some (option_or held (octet_in p.offset p.octets o)) ≡ true → o < max (reach ps) (end_of p)
reach_step p ps o (Some x) below got = let under = below refl in omega arith
reach_step p ps o None below got = let inside = in_piece p.offset p.octets o got in omega (arith, inside.0, inside.1)

pub below_reach : (ps : List Fragment) (o : ℕ) → is_some (octet_of ps o) ≡ true → o < reach ps
below_reach [] o some = cc
below_reach (p ∷ ps) o some = reach_step p ps o (octet_of ps o) (below_reach ps o) some

-- the chain with a fragment more
pub placed : (old new : List Block) (p : Fragment) (ps : List Fragment) → Keeps old ps → Places old new p.offset p.octets → Keeps new (p ∷ ps)
placed old new p ps keeps places o = places o ∙ ap (λ x. option_or x (octet_in p.offset p.octets o)) (keeps o)

-- counted to any number past the reach
filled_to : (ps : List Fragment) (n : ℕ) → reach ps ≤ n → count_by (λ o. is_some (octet_of ps o)) (range_with_len 0 n) ≡ filled_in ps
filled_to ps n le =
    let p : ℕ → Bool = λ o. is_some (octet_of ps o) in
    let sum : reach ps + (n - reach ps) ≡ n = omega arith in
    let rest = none_counted p (0 + reach ps) (n - reach ps) (λ m low high. false_from_ne_true (p m) (λ e. let under = below_reach ps m e in absurd (omega arith))) in
    let both = parts p 0 (reach ps) (n - reach ps) in
    let whole : count_by p (range_with_len 0 (reach ps + (n - reach ps))) ≡ count_by p (range_with_len 0 n) = ap (λ k. count_by p (range_with_len 0 k)) sum in
    omega (arith, rest, both, whole)

-- the octets that a fragment adds are counted at offsets that had none
brought : (p : Fragment) (ps : List Fragment) (n : ℕ) → end_of p ≤ n
    → count_by (λ o. is_some (octet_in p.offset p.octets o) && not (is_some (octet_of ps o))) (range_with_len 0 n)
    ≡ count_by (λ o. is_none (octet_of ps o)) (range_with_len p.offset (length p.octets))
brought p ps n le =
    let q : ℕ → Bool = λ o. is_some (octet_in p.offset p.octets o) && not (is_some (octet_of ps o)) in
    let len = length p.octets in
    let before = none_counted q 0 p.offset (λ m low high. outside m (λ e. let inside = in_piece p.offset p.octets m e in absurd (omega arith))) in
    let past = none_counted q (0 + (p.offset + len)) (n - (p.offset + len)) (λ m low high. outside m (λ e. let inside = in_piece p.offset p.octets m e in absurd (omega arith))) in
    let one = parts q 0 (p.offset + len) (n - (p.offset + len)) in
    let two = parts q 0 p.offset len in
    let sum : p.offset + len + (n - (p.offset + len)) ≡ n = omega arith in
    let whole : count_by q (range_with_len 0 (p.offset + len + (n - (p.offset + len)))) ≡ count_by q (range_with_len 0 n) = ap (λ k. count_by q (range_with_len 0 k)) sum in
    let middle = agree q (λ o. is_none (octet_of ps o)) (0 + p.offset) len (λ m low high. inner m (of_piece p.offset p.octets m (omega arith) (omega arith))) in
    let shift : 0 + p.offset ≡ p.offset = omega arith in
    let moved : count_by (λ o. is_none (octet_of ps o)) (range_with_len (0 + p.offset) len) ≡ count_by (λ o. is_none (octet_of ps o)) (range_with_len p.offset len)
    = ap (λ k. count_by (λ o. is_none (octet_of ps o)) (range_with_len k len)) shift in
    omega (arith, before, past, one, two, whole, middle, moved)
  where
    outside : (m : ℕ) → (is_some (octet_in p.offset p.octets m) ≡ true → ⊥) → (is_some (octet_in p.offset p.octets m) && not (is_some (octet_of ps m))) ≡ false
    outside m no_way = ap (λ b. b && not (is_some (octet_of ps m))) (false_from_ne_true (is_some (octet_in p.offset p.octets m)) no_way)

    none_is : (a : Option ℕ) → not (is_some a) ≡ is_none a
    none_is None = refl
    none_is (Some x) = refl

    inner : (m : ℕ) → is_some (octet_in p.offset p.octets m) ≡ true → (is_some (octet_in p.offset p.octets m) && not (is_some (octet_of ps m))) ≡ is_none (octet_of ps m)
    inner m e = ap (λ b. b && not (is_some (octet_of ps m))) e ∙ none_is (octet_of ps m)

pub filled_more : (p : Fragment) (ps : List Fragment) → filled_in (p ∷ ps) ≡ filled_in ps + count_by (λ o. is_none (octet_of ps o)) (range_with_len p.offset (length p.octets))
filled_more p ps =
    let n = max (reach ps) (end_of p) in
    let here = filled_to ps n (omega arith) in
    let there = brought p ps n (omega arith) in
    let shown = agree (λ o. is_some (octet_of (p ∷ ps) o)) (λ o. is_some (octet_of ps o) || is_some (octet_in p.offset p.octets o)) 0 n
    (λ m low high. some_or (octet_of ps m) (octet_in p.offset p.octets m)) in
    let both = either (λ o. is_some (octet_of ps o)) (λ o. is_some (octet_in p.offset p.octets o)) 0 n in
    omega (arith, here, there, shown, both)

pub fresh_is : (blocks : List Block) (ps : List Fragment) (from len : ℕ) → Keeps blocks ps
    → fresh blocks from len ≡ count_by (λ o. is_none (octet_of ps o)) (range_with_len from len)
fresh_is blocks ps from len keeps = agree (λ o. is_none (octet_at blocks o)) (λ o. is_none (octet_of ps o)) from len (λ m low high. ap is_none (keeps m))

-- the end of the last fragment, after one more that contradicts none
pub ends_more : (total : Option ℕ) (r : ℕ) (p : Fragment) → ((t : ℕ) → total ≡ Some t → r ≡ t) → ends_otherwise total r p ≡ false
    → (t : ℕ) → option_or total (cond p.more None (Some (end_of p))) ≡ Some t → max r (end_of p) ≡ t
ends_more total r p ends fits t is = by_total total refl
  where
    by_more : (m : Bool) → p.more ≡ m → (not m && (false || nat_lt (end_of p) r)) ≡ false → cond m None (Some (end_of p)) ≡ Some t → max r (end_of p) ≡ t
    by_more true e test got = cc
    by_more false e test got =
        let last : end_of p ≡ t = cc in
        let above : r ≤ end_of p = grind (arith, nat_tests, test) in
        omega (arith, last, above)

    by_total : (own : Option ℕ) → total ≡ own → max r (end_of p) ≡ t
    by_total None e =
        let test : (not p.more && (false || nat_lt (end_of p) r)) ≡ false = sym (ap (λ o. ends_otherwise o r p) e) ∙ fits in
        let got : cond p.more None (Some (end_of p)) ≡ Some t = sym (ap (λ o. option_or o (cond p.more None (Some (end_of p)))) e) ∙ is in
        by_more p.more refl test got
    by_total (Some u) e =
        let same : u ≡ t = let got : Some u ≡ Some t = sym (ap (λ o. option_or o (cond p.more None (Some (end_of p)))) e) ∙ is in cc in
        let at : r ≡ u = ends u e in
        let under : nat_lt u (end_of p) ≡ false =
        (or_parts _ _ (sym (ap (λ o. ends_otherwise o r p) e) ∙ fits)).0 in
        let below : end_of p ≤ u = grind (arith, nat_tests, under) in
        omega (arith, same, at, below)

-- a fragment that no rule on it alone drops extends no further than the longest datagram
pub not_big : (p : Fragment) → first_row (own_rows p) ≡ None → end_of p ≤ 65515
not_big p none = tests FDf FEmpty FAlign FBig (f_df p) (f_empty p) (f_align p) (nat_lt 65515 (end_of p)) refl none
  where
    tests : (r s t u : Rule) (a b c d : Bool) → nat_lt 65515 (end_of p) ≡ d → cond a (Some r) (cond b (Some s) (cond c (Some t) (cond d (Some u) None))) ≡ None → end_of p ≤ 65515
    tests r s t u true b c d e h = cc
    tests r s t u false true c d e h = cc
    tests r s t u false false true d e h = cc
    tests r s t u false false false true e h = cc
    tests r s t u false false false false e h = grind (arith, nat_tests, e)

pub progress_more : (v next : Progress) (p : Fragment) (ps : List Fragment) (brings : ℕ) → ProgressOf v ps → first_row (own_rows p) ≡ None → f_end ps p ≡ false
    → brings ≡ count_by (λ o. is_none (octet_of ps o)) (range_with_len p.offset (length p.octets))
    → next.total ≡ option_or v.total (cond p.more None (Some (end_of p))) → next.reach ≡ max v.reach (end_of p) → next.filled ≡ v.filled + brings
    → next.front ≡ option_or v.front (cond (p.offset == 0) (Some (record { tos = p.tos; ttl = p.ttl; df = p.df })) None)
    → ProgressOf next (p ∷ ps)
progress_more v next p ps brings h own fits is total reaches filled front =
    let big = not_big p own in
    record {
      total_is = total ∙ ap (λ o. option_or o (cond p.more None (Some (end_of p)))) h.total_is;
      reach_is = reaches ∙ ap (λ r. max r (end_of p)) h.reach_is;
      filled_is = let more = filled_more p ps in filled ∙ (ap₂ (λ a b. a + b) h.filled_is is ∙ sym more);
      front_is = front ∙ ap (λ o. option_or o (cond (p.offset == 0) (Some (record { tos = p.tos; ttl = p.ttl; df = p.df })) None)) h.front_is;
      short = let low = h.short in omega (arith, big, low);
      ends = ends_more (total_of ps) (reach ps) p h.ends fits;
    }

pub filled_short : (v : Progress) (ps : List Fragment) → ProgressOf v ps → v.filled ≤ 65515
filled_short v ps h = let low = h.short in let few = count_most (λ o. is_some (octet_of ps o)) 0 (reach ps) in let is = h.filled_is in omega (arith, low, few, is)

pub none_not : (a : Option ℕ) → is_none a ≡ not (is_some a)
none_not None = refl
none_not (Some x) = refl

-- the count decides whether the datagram is complete
pub whole_is : (v : Progress) (ps : List Fragment) → ProgressOf v ps → whole_if v.total v.filled v.front ≡ cond (is_whole ps) (Some (whole_of ps)) None
whole_is v ps h = by_total (total_of ps) refl
  where
    by_total : (t : Option ℕ) → total_of ps ≡ t → whole_if v.total v.filled v.front ≡ cond (is_whole ps) (Some (whole_of ps)) None
    by_total None e =
        ap (λ t. whole_if t v.filled v.front) (h.total_is ∙ e) ∙ sym (ap (λ t. cond (is_filled ps t) (Some (whole_with t (front_of ps))) None) e)
    by_total (Some t) e =
        let at = h.ends t e in
        let counted = full (λ o. is_some (octet_of ps o)) (λ o. is_none (octet_of ps o)) 0 t (λ m. none_not (octet_of ps m)) in
        let count : v.filled ≡ count_by (λ o. is_some (octet_of ps o)) (range_with_len 0 t) = h.filled_is ∙ ap (λ n. count_by (λ o. is_some (octet_of ps o)) (range_with_len 0 n)) at in
        ap (λ u. whole_if u v.filled v.front) (h.total_is ∙ e)
        ∙ (ap (λ f. cond (v.filled == t) (Some (whole_with (Some t) f)) None) h.front_is
        ∙ (ap (λ b. cond b (Some (whole_with (Some t) (front_of ps))) None) (ap (λ n. n == t) count ∙ sym counted)
        ∙ sym (ap (λ u. cond (is_filled ps u) (Some (whole_with u (front_of ps))) None) e)))

-- Whether the octets of a fragment differ from those held.

differs_not : (a : Option ℕ) (x : ℕ) → unwrap_or a x ≡ x → differs a x ≡ false
differs_not None x same = refl
differs_not (Some y) x same = let test : (y == x) ≡ true = grind arith in ap not test

not_differs : (a : Option ℕ) (x : ℕ) → differs a x ≡ false → unwrap_or a x ≡ x
not_differs None x none = refl
not_differs (Some y) x none = grind arith

none_clash : (ps : List Fragment) (from : ℕ) (xs : List ℕ) → ((i : ℕ) → i < length xs → unwrap_or (octet_of ps (from + i)) (slice_index xs i) ≡ slice_index xs i)
    → clashes ps from xs ≡ false
none_clash ps from [] same = refl
none_clash ps from (x ∷ xs) same =
    let here : differs (octet_of ps from) x ≡ false = differs_not (octet_of ps from) x (ap (λ o. unwrap_or (octet_of ps o) x) (omega arith) ∙ same 0 (omega arith)) in
    let rest = none_clash ps (from + 1) xs (λ i lt. ap (λ o. unwrap_or (octet_of ps o) (slice_index xs i)) (omega arith) ∙ same (suc i) (omega arith)) in
    ap₂ (λ a b. a || b) here rest

pub clash_none : (ps : List Fragment) (from : ℕ) (xs : List ℕ) → clashes ps from xs ≡ false → (i : ℕ) → i < length xs → unwrap_or (octet_of ps (from + i)) (slice_index xs i) ≡ slice_index xs i
clash_none ps from [] none i lt = absurd (omega arith)
clash_none ps from (x ∷ xs) none zero lt =
    ap (λ o. unwrap_or (octet_of ps o) x) (omega arith) ∙ not_differs (octet_of ps from) x (or_parts _ _ none).0
clash_none ps from (x ∷ xs) none (suc i) lt =
    ap (λ o. unwrap_or (octet_of ps o) (slice_index xs i)) (omega arith)
    ∙ clash_none ps (from + 1) xs (or_parts _ _ none).1 i (omega arith)

tests_agree : (a b : Bool) → (a ≡ true → b ≡ false) → (b ≡ false → a ≡ true) → not a ≡ b
tests_agree true true to back = sym (to refl)
tests_agree true false to back = refl
tests_agree false true to back = refl
tests_agree false false to back = sym (back refl)

pub clash_is : (blocks : List Block) (ps : List Fragment) (from : ℕ) (octets : List ℕ) (agreed : Bool) → Keeps blocks ps
    → ((agreed ≡ true) ↔ Agrees blocks from octets) → not agreed ≡ clashes ps from octets
clash_is blocks ps from octets agreed keeps says =
    tests_agree agreed (clashes ps from octets)
    (λ yes. none_clash ps from octets (λ i lt. ap (λ o. unwrap_or o (slice_index octets i)) (sym (keeps (from + i))) ∙ says.0 yes i lt))
    (λ none. says.1 (λ i lt. ap (λ o. unwrap_or o (slice_index octets i)) (keeps (from + i)) ∙ clash_none ps from octets none i lt))

-- A chain that has the octets of a datagram's fragments has as many blocks as they take.

pub cells_are : (blocks : List Block) (ps : List Fragment) → IsMap blocks → Keeps blocks ps
    → ((n : ℕ) → IsWithin blocks (256 * n) → length blocks ≡ count_by (holds blocks) (range_with_len 0 n)) → length blocks ≡ cells_of ps
cells_are blocks ps map keeps counted =
    count_is blocks (octet_of ps) (reach ps / 256 + 1) map keeps (λ o some. let under = below_reach ps o some in omega arith) counted
