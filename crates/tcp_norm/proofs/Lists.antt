-- Lists split at an element, filtered, or equal at each index; how many numbers of a range pass a
-- test.
use Rattle.std.proofs.Common.{◌≡◌, Bool, true, false, cond, List, [], ◌∷◌, ◌++◌, map, Some, None, refl, ap, ◌∙◌, ℕ, ◌==◌, ◌||◌, not, sym, ap₂, arith, ◌<◌, subst, filter, ◌≢◌, ◌+◌, length, ◌≤◌, ◌&&◌, ◌↔◌, zero, suc}
use Rattle.std.specs.List.{AllByRecursion, find, AllPairs, list_any, count_by, range_with_len}
use Rattle.std.proofs.lemmas.List.Elements.{recursion_from_All, All-from_recursion}
use Rattle.std.proofs.lemmas.Bool.{false≢true}
use Rattle.std.proofs.lemmas.List.Sums.{sum_by-cons}
use Rattle.linked_table.specs.EntryTable.{Pairwise, Entry, IsIn, Wherever, HasNone}
pub use Rattle.linked_table.proofs.Lists.{filter_none, all_before, all_after, all_join, all_weaker}
use Rattle.linked_table.specs.declared.table.Slot.{Slot}
use Rattle.linked_table.specs.EntryTable as table
use Rattle.wire_base.specs.declared.address.FlowKey.{FlowKey}
use Rattle.linked_table.proofs.Entries.{split_at, wherever, left_out}
use Rattle.tcp_norm.specs.RuleRows.{differ}
use Rattle.tcp_norm.specs.declared.key.Flow.{Flow}
use Rattle.tcp_norm.specs.declared.key.EraKey.{EraKey}
use Rattle.tcp_norm.specs.Calls.{is_among}

-- Lists that are split at an element, or that differ at no index.

-- A list parted at one of its elements.

module _ {X : Type 0} where
  -- without the element between
  pub pairs_rest : (R : X → X → Type 0) (xs : List X) (y : X) (ys : List X) → Pairwise R (xs ++ y ∷ ys) → Pairwise R (xs ++ ys)
  pairs_rest R [] y ys pairs = pairs.1
  pairs_rest R (x ∷ xs) y ys pairs =
      (all_join (R x) xs ys (all_before (R x) xs (y ∷ ys) pairs.0) (all_after (R x) xs (y ∷ ys) pairs.0).1, pairs_rest R xs y ys pairs.1)

  -- followed by one more element
  pub pairs_push : (R : X → X → Type 0) (xs : List X) (y : X) → Pairwise R xs → AllByRecursion (λ x. R x y) xs → Pairwise R (xs ++ y ∷ [])
  pairs_push R [] y pairs all = (tt, tt)
  pairs_push R (x ∷ xs) y pairs all = (all_join (R x) xs (y ∷ []) pairs.0 (all.0, tt), pairs_push R xs y pairs.1 all.1)

  -- the first that passes, after those that do not
  pub find_split : (p : X → Bool) (xs : List X) (y : X) (ys : List X) → AllByRecursion (λ x. p x ≡ false) xs → p y ≡ true → find p (xs ++ y ∷ ys) ≡ Some y
  find_split p [] y ys none passes = ap (λ b. cond b (Some y) (find p ys)) passes
  find_split p (x ∷ xs) y ys none passes = ap (λ b. cond b (Some x) (find p (xs ++ y ∷ ys))) none.0 ∙ find_split p xs y ys none.1 passes

  pub find_none : (p : X → Bool) (xs : List X) → AllByRecursion (λ x. p x ≡ false) xs → find p xs ≡ None
  find_none p [] none = refl
  find_none p (x ∷ xs) none = ap (λ b. cond b (Some x) (find p xs)) none.0 ∙ find_none p xs none.1

  pub filter_only : (p : X → Bool) (xs : List X) (y : X) (ys : List X) → AllByRecursion (λ x. p x ≡ false) xs → p y ≡ true → AllByRecursion (λ x. p x ≡ false) ys
      → filter p (xs ++ y ∷ ys) ≡ y ∷ []
  filter_only p [] y ys left out right = ap (λ b. cond b (y ∷ filter p ys) (filter p ys)) out ∙ ap (λ l. y ∷ l) (filter_none p ys right)
  filter_only p (x ∷ xs) y ys left out right = ap (λ b. cond b (x ∷ filter p (xs ++ y ∷ ys)) (filter p (xs ++ y ∷ ys))) left.0 ∙ filter_only p xs y ys left.1 out right

-- through a map
pub all_map : {X Y : Type 0} (P : Y → Type 0) (f : X → Y) (xs : List X) → AllByRecursion (λ x. P (f x)) xs → AllByRecursion P (map f xs)
all_map P f [] all = tt
all_map P f (x ∷ xs) all = (all.0, all_map P f xs all.1)

pub all_unmap : {X Y : Type 0} (P : Y → Type 0) (f : X → Y) (xs : List X) → AllByRecursion P (map f xs) → AllByRecursion (λ x. P (f x)) xs
all_unmap P f [] all = tt
all_unmap P f (x ∷ xs) all = (all.0, all_unmap P f xs all.1)

-- what holds for each holds for these
pub everywhere : {X : Type 0} (P : X → Type 0) (xs : List X) → ((x : X) → P x) → AllByRecursion P xs
everywhere P [] each = tt
everywhere P (x ∷ xs) each = (each x, everywhere P xs each)

pub some_same : {X : Type 0} {x y : X} → Some x ≡ Some y → x ≡ y
some_same e = cc

pub some_none : {X : Type 0} {x : X} → None ≡ Some x → ⊥
some_none e = cc

-- Lists that differ at no index are the same.

pub differ_itself : (xs : List ℕ) → differ xs xs ≡ false
differ_itself [] = refl
differ_itself (x ∷ xs) = let test : (x == x) ≡ true = grind arith in rw test (differ_itself xs)

pub same_step : (a b : ℕ) (xs ys : List ℕ) (t rest : Bool) → (a == b) ≡ t → (not t || rest) ≡ false → (rest ≡ false → xs ≡ ys) → a ∷ xs ≡ b ∷ ys
same_step a b xs ys true rest e none goes = let same : a ≡ b = grind arith in ap₂ (λ x l. x ∷ l) same (goes none)
same_step a b xs ys false rest e none goes = cc

pub differ_not : (xs ys : List ℕ) → differ xs ys ≡ false → xs ≡ ys
differ_not [] [] e = refl
differ_not [] (y ∷ ys) e = cc
differ_not (x ∷ xs) [] e = cc
differ_not (x ∷ xs) (y ∷ ys) e = same_step x y xs ys (x == y) (differ xs ys) refl e (differ_not xs ys)

pub tests_agree : (a b : Bool) → (a ≡ false → b ≡ false) → (b ≡ false → a ≡ false) → a ≡ b
tests_agree true true to back = refl
tests_agree false false to back = refl
tests_agree true false to back = back refl
tests_agree false true to back = sym (to refl)

pub differ_is : (xs ys : List ℕ) (changed : Bool) → ((changed ≡ false) ↔ (xs ≡ ys)) → changed ≡ differ xs ys
differ_is xs ys changed same = tests_agree changed (differ xs ys) (λ none. ap (λ l. differ l ys) (same.0 none) ∙ differ_itself ys) (λ none. same.1 (differ_not xs ys none))

-- Lists of which a filter lets some through.

pub all_filter : {X : Type 0} (P : X → Type 0) (p : X → Bool) (xs : List X) → AllByRecursion P xs → AllByRecursion P (filter p xs)
all_filter P p [] all = tt
all_filter P p (x ∷ xs) all = elim (p x) as (λ b. AllByRecursion P (cond b (x ∷ filter p xs) (filter p xs))) [ true ↦ (all.0, all_filter P p xs all.1) | false ↦ all_filter P p xs all.1 ]

-- Entries of a table of which one goes.

pub numbered : (entries : List (Entry EraKey Flow)) (slot : Slot) (flow : Flow) → Wherever entries slot (λ e. e.value ≡ flow) → Wherever entries slot (λ e. e.value.number ≡ flow.number)
numbered entries slot flow valued =
    let P : Entry EraKey Flow → Type 0 = λ e. e.slot ≡ slot → e.value ≡ flow in
    let Q : Entry EraKey Flow → Type 0 = λ e. e.slot ≡ slot → e.value.number ≡ flow.number in
    All-from_recursion Q entries (all_weaker P Q (λ e is same. ap (λ (f : Flow). f.number) (is same)) entries (recursion_from_All P entries valued))

pub none_left : (entries : List (Entry EraKey Flow)) (slot : Slot) (key : EraKey) → HasNone entries key → HasNone (table.without entries slot) key
none_left entries slot key none =
    All-from_recursion (λ (e : Entry EraKey Flow). e.key ≢ key) (table.without entries slot)
    (all_filter (λ (e : Entry EraKey Flow). e.key ≢ key) (λ (e : Entry EraKey Flow). not (e.slot.0 == slot.0)) entries (recursion_from_All (λ (e : Entry EraKey Flow). e.key ≢ key) entries none))

joined : {X : Type 0} (xs : List X) (y : X) (ys : List X) → length (xs ++ y ∷ ys) ≡ length (xs ++ ys) + 1
joined [] y ys = omega arith
joined (x ∷ xs) y ys = let rest = joined xs y ys in omega (arith, rest)

pub shorter : (entries : List (Entry EraKey Flow)) (slot : Slot) → IsIn entries slot → AllPairs (λ e f. e.slot ≢ f.slot) entries → AllPairs (λ e f. e.key ≢ f.key) entries
    → length (table.without entries slot) < length entries
shorter entries slot inside slots keys =
    let a = split_at entries slot inside slots keys in
    let here = ap length (left_out entries slot a) in
    let whole = ap length a.splits ∙ joined a.before a.here a.after in
    omega (arith, here, whole)

-- no entry of its key is left
pub key_left : (entries : List (Entry EraKey Flow)) (slot : Slot) (key : FlowKey) → IsIn entries slot → AllPairs (λ e f. e.slot ≢ f.slot) entries → AllPairs (λ e f. e.key ≢ f.key) entries
    → Wherever entries slot (λ e. e.key.0 ≡ key) → HasNone (table.without entries slot) (record { 0 = key })
key_left entries slot key inside slots keys is =
    let mk : FlowKey → EraKey = λ k. record { 0 = k } in
    let a = split_at entries slot inside slots keys in
    let here : a.here.key ≡ mk key = ap mk (wherever (λ (e : Entry EraKey Flow). e.key.0 ≡ key) entries slot a is) in
    let apart : (es : List (Entry EraKey Flow)) → AllByRecursion (λ (e : Entry EraKey Flow). e.key ≢ a.here.key) es → AllByRecursion (λ (e : Entry EraKey Flow). e.key ≢ mk key) es =
    λ es all. all_weaker (λ (e : Entry EraKey Flow). e.key ≢ a.here.key) (λ (e : Entry EraKey Flow). e.key ≢ mk key) (λ e ne same. ne (same ∙ sym here)) es all in
    subst (λ l. HasNone l (mk key)) (sym (left_out entries slot a))
    (All-from_recursion (λ (e : Entry EraKey Flow). e.key ≢ mk key) (a.before ++ a.after)
    (all_join (λ (e : Entry EraKey Flow). e.key ≢ mk key) a.before a.after (apart a.before a.keys_before) (apart a.after a.keys_after)))

-- Lists of which a filter lets some through.

module _ {X : Type 0} where
  -- what holds for those that pass
  pub all_passed : (P : X → Type 0) (p : X → Bool) (xs : List X) → AllByRecursion (λ x. p x ≡ true → P x) xs → AllByRecursion P (filter p xs)
  all_passed P p [] all = tt
  all_passed P p (x ∷ xs) all = cases (p x) refl (all_passed P p xs all.1)
    where
      cases : (b : Bool) → p x ≡ b → AllByRecursion P (filter p xs) → AllByRecursion P (cond b (x ∷ filter p xs) (filter p xs))
      cases true e rest = (all.0 e, rest)
      cases false e rest = rest

  pub all_unfiltered : (P : X → Type 0) (p : X → Bool) (xs : List X) → AllByRecursion P (filter p xs) → AllByRecursion (λ x. p x ≡ true → P x) xs
  all_unfiltered P p [] all = tt
  all_unfiltered P p (x ∷ xs) all = cases (p x) refl all (all_unfiltered P p xs)
    where
      cases : (b : Bool) → p x ≡ b → AllByRecursion P (cond b (x ∷ filter p xs) (filter p xs)) → (AllByRecursion P (filter p xs) → AllByRecursion (λ y. p y ≡ true → P y) xs)
          → (p x ≡ true → P x) × AllByRecursion (λ y. p y ≡ true → P y) xs
      cases true e all rest = ((λ h. all.0), rest all.1)
      cases false e all rest = ((λ h. absurd (false≢true (sym e ∙ h))), rest all)

  pub all_two : (P Q R : X → Type 0) → ((x : X) → P x → Q x → R x) → (xs : List X) → AllByRecursion P xs → AllByRecursion Q xs → AllByRecursion R xs
  all_two P Q R goes [] ps qs = tt
  all_two P Q R goes (x ∷ xs) ps qs = (goes x ps.0 qs.0, all_two P Q R goes xs ps.1 qs.1)

  pub pairs_passed : (R : X → X → Type 0) (p : X → Bool) (xs : List X) → Pairwise R xs → Pairwise R (filter p xs)
  pairs_passed R p [] pairs = tt
  pairs_passed R p (x ∷ xs) pairs =
      let rest = pairs_passed R p xs pairs.1 in
      let here = all_filter (R x) p xs pairs.0 in
      elim (p x) as (λ b. Pairwise R (cond b (x ∷ filter p xs) (filter p xs))) [ true ↦ (here, rest) | false ↦ rest ]

  pub pairs_join : (R : X → X → Type 0) (xs ys : List X) → Pairwise R xs → Pairwise R ys → AllByRecursion (λ x. AllByRecursion (R x) ys) xs → Pairwise R (xs ++ ys)
  pairs_join R [] ys left right across = right
  pairs_join R (x ∷ xs) ys left right across = (all_join (R x) xs ys left.0 across.0, pairs_join R xs ys left.1 right across.1)

  -- another relation, of elements of which P holds
  pub pairs_weaker : (P : X → Type 0) (R S : X → X → Type 0) → ((x y : X) → P x → P y → R x y → S x y) → (xs : List X) → AllByRecursion P xs → Pairwise R xs → Pairwise S xs
  pairs_weaker P R S goes [] all pairs = tt
  pairs_weaker P R S goes (x ∷ xs) all pairs = (all_two P (R x) (S x) (λ y py r. goes x y all.0 py r) xs all.1 pairs.0, pairs_weaker P R S goes xs all.1 pairs.1)

  -- at most one
  pub pairs_alone : (R : X → X → Type 0) (xs : List X) → Pairwise (λ x y. ⊥) xs → Pairwise R xs
  pairs_alone R [] pairs = tt
  pairs_alone R (x ∷ xs) pairs = (all_weaker (λ y. ⊥) (R x) (λ y never. absurd never) xs pairs.0, pairs_alone R xs pairs.1)

  -- the found element is one of them, and passes
  pub found_is : (P : X → Type 0) (p : X → Bool) (xs : List X) (y : X) → AllByRecursion P xs → find p xs ≡ Some y → P y × (p y ≡ true)
  found_is P p [] y all found = cc
  found_is P p (x ∷ xs) y all found = cases (p x) refl found (found_is P p xs y all.1)
    where
      cases : (b : Bool) → p x ≡ b → cond b (Some x) (find p xs) ≡ Some y → (find p xs ≡ Some y → P y × (p y ≡ true)) → P y × (p y ≡ true)
      cases true e f rest = let same : x ≡ y = cc in (subst P same all.0, subst (λ z. p z ≡ true) same e)
      cases false e f rest = rest f

-- a number among those of some
pub among_is : (P : ℕ → Type 0) (xs : List ℕ) (n : ℕ) → AllByRecursion P xs → is_among xs n ≡ true → P n
among_is P [] n all e = absurd (false≢true e)
among_is P (x ∷ xs) n all e = cases (x == n) refl e (among_is P xs n all.1)
  where
    cases : (b : Bool) → (x == n) ≡ b → (b || is_among xs n) ≡ true → (is_among xs n ≡ true → P n) → P n
    cases true same e rest = let is : x ≡ n = grind (arith, same) in subst P is all.0
    cases false other e rest = rest e

-- Whether two numbers are the same.

-- How what the table and the store represent changes: an entry is taken out, the rest goes on, and
-- an entry is added. Every call is made of these.

pub number_other : (m n : ℕ) → m ≢ n → (m == n) ≡ false
number_other m n ne = grind arith

pub number_same : (n : ℕ) → (n == n) ≡ true
number_same n = grind arith

-- How many numbers of a range pass a test.

-- How many numbers of a range pass a test, by the other tests that they pass.

-- the number is one of these
abbrev pub among : List ℕ → ℕ → Bool
among ys m = list_any (λ y. m == y) ys

-- one more is counted where it passes
more : (p : ℕ → Bool) (x : ℕ) (xs : List ℕ) → count_by p (x ∷ xs) ≡ cond {A = ℕ} (p x) 1 0 + count_by p xs
more p x xs = sum_by-cons (λ n. cond {A = ℕ} (p n) 1 0) x xs

-- each that passes the first test passes one of two others
count_two : (p q r : ℕ → Bool) (xs : List ℕ) → ((n : ℕ) → p n ≡ true → (q n || r n) ≡ true) → count_by p xs ≤ count_by q xs + count_by r xs
count_two p q r [] goes = omega arith
count_two p q r (x ∷ xs) goes =
    omega (arith, more p x xs, more q x xs, more r x xs, step (p x) (q x) (r x) (goes x), count_two p q r xs goes)
  where
    step : (a b c : Bool) → (a ≡ true → (b || c) ≡ true) → cond {A = ℕ} a 1 0 ≤ cond {A = ℕ} b 1 0 + cond {A = ℕ} c 1 0
    step false b c g = omega arith
    step true true c g = omega arith
    step true false true g = omega arith
    step true false false g = cc (g refl)

-- no number passes
count_none : (xs : List ℕ) → count_by (λ n. false) xs ≡ 0
count_none [] = refl
count_none (x ∷ xs) = omega (arith, more (λ n. false) x xs, count_none xs)

-- a number is once in a range
one_above : (y : ℕ) (r : ℕ → Bool) (s n : ℕ) → y < s → count_by (λ m. (m == y) && r m) (range_with_len s n) ≡ 0
one_above y r s zero above = refl
one_above y r s (suc n) above =
    let other : ((s == y) && r s) ≡ false = ap (λ b. b && r s) (number_other s y (λ same. absurd (omega (arith, same)))) in
    omega (arith, more (λ m. (m == y) && r m) s (range_with_len (s + 1) n), ap (λ b. cond {A = ℕ} b 1 0) other, one_above y r (s + 1) n (omega arith))

one_in : (y : ℕ) (r : ℕ → Bool) (s n : ℕ) → count_by (λ m. (m == y) && r m) (range_with_len s n) ≤ cond {A = ℕ} (r y) 1 0
one_in y r s zero = omega arith
one_in y r s (suc n) = cases (s == y) refl (one_in y r (s + 1) n)
  where
    cases : (b : Bool) → (s == y) ≡ b → count_by (λ m. (m == y) && r m) (range_with_len (s + 1) n) ≤ cond {A = ℕ} (r y) 1 0
        → count_by (λ m. (m == y) && r m) (range_with_len s (suc n)) ≤ cond {A = ℕ} (r y) 1 0
    cases true e rest =
        let same : s ≡ y = grind (arith, e) in
        let here : cond {A = ℕ} ((s == y) && r s) 1 0 ≡ cond {A = ℕ} (r y) 1 0 = ap₂ (λ b c. cond {A = ℕ} (b && c) 1 0) e (ap r same) in
        omega (arith, more (λ m. (m == y) && r m) s (range_with_len (s + 1) n), here, one_above y r (s + 1) n (omega arith))
    cases false e rest =
        let here : cond {A = ℕ} ((s == y) && r s) 1 0 ≡ 0 = ap (λ b. cond {A = ℕ} (b && r s) 1 0) e in
        omega (arith, more (λ m. (m == y) && r m) s (range_with_len (s + 1) n), here, rest)

-- those of a list
count_among : (r : ℕ → Bool) (s n : ℕ) (ys : List ℕ) → count_by (λ m. among ys m && r m) (range_with_len s n) ≤ count_by r ys
count_among r s n [] = omega (arith, count_none (range_with_len s n))
count_among r s n (y ∷ ys) =
    omega (
      arith,
      count_two (λ m. ((m == y) || among ys m) && r m) (λ m. (m == y) && r m) (λ m. among ys m && r m) (range_with_len s n) (λ m e. split (m == y) (among ys m) (r m) e),
      one_in y r s n,
      count_among r s n ys,
      more r y ys,
    )
  where
    split : (a b c : Bool) → ((a || b) && c) ≡ true → ((a && c) || (b && c)) ≡ true
    split true b true e = refl
    split true b false e = cc
    split false b c e = e

-- each that passes the first test passes the second, or is one of these and passes the third
pub count_within : (p q r : ℕ → Bool) (s n : ℕ) (ys : List ℕ) → ((m : ℕ) → p m ≡ true → (q m || (among ys m && r m)) ≡ true)
    → count_by p (range_with_len s n) ≤ count_by q (range_with_len s n) + count_by r ys
count_within p q r s n ys goes = omega (arith, count_two p q (λ m. among ys m && r m) (range_with_len s n) goes, count_among r s n ys)

pub count_of : (p r : ℕ → Bool) (s n : ℕ) (ys : List ℕ) → ((m : ℕ) → p m ≡ true → (among ys m && r m) ≡ true) → count_by p (range_with_len s n) ≤ count_by r ys
count_of p r s n ys goes = omega (arith, count_within p (λ m. false) r s n ys goes, count_none (range_with_len s n))

-- a number of a range that passes
pub some_of : (f : ℕ → Bool) (a n : ℕ) → list_any f (range_with_len a n) ≡ true → (o : ℕ) × (a ≤ o) × (o < a + n) × (f o ≡ true)
some_of f a zero e = cc
some_of f a (suc n) e = cases (f a) refl e (some_of f (a + 1) n)
  where
    cases : (b : Bool) → f a ≡ b → (b || list_any f (range_with_len (a + 1) n)) ≡ true
        → (list_any f (range_with_len (a + 1) n) ≡ true → (o : ℕ) × (a + 1 ≤ o) × (o < a + 1 + n) × (f o ≡ true)) → (o : ℕ) × (a ≤ o) × (o < a + suc n) × (f o ≡ true)
    cases true here e rest = (a, omega arith, omega arith, here)
    cases false here e rest = let r = rest e in (r.0, omega (arith, r.1), omega (arith, r.2), r.3)

pub passes_in : (f : ℕ → Bool) (a n o : ℕ) → a ≤ o → o < a + n → f o ≡ true → list_any f (range_with_len a n) ≡ true
passes_in f a zero o from to e = absurd (omega arith)
passes_in f a (suc n) o from to e = cases (a == o) refl (λ above. passes_in f (a + 1) n o above (omega arith) e)
  where
    later : (b : Bool) → list_any f (range_with_len (a + 1) n) ≡ true → (b || list_any f (range_with_len (a + 1) n)) ≡ true
    later true h = refl
    later false h = h

    cases : (b : Bool) → (a == o) ≡ b → (a + 1 ≤ o → list_any f (range_with_len (a + 1) n) ≡ true) → (f a || list_any f (range_with_len (a + 1) n)) ≡ true
    cases true is rest = let same : a ≡ o = grind (arith, is) in ap (λ b. b || list_any f (range_with_len (a + 1) n)) (ap f same ∙ e)
    cases false is rest = later (f a) (rest (above is))
      where
        above : (a == o) ≡ false → a + 1 ≤ o
        above is = grind (arith, is)

pub among_range : (a n m : ℕ) → a ≤ m → m < a + n → among (range_with_len a n) m ≡ true
among_range a n m from to = passes_in (λ y. m == y) a n m from to (number_same m)

-- What passes one test passes another.

pub count_below : (p q : ℕ → Bool) (xs : List ℕ) → ((n : ℕ) → p n ≡ true → q n ≡ true) → count_by p xs ≤ count_by q xs
count_below p q [] goes = omega arith
count_below p q (x ∷ xs) goes =
    let rest = count_below p q xs goes in
    let here = step (p x) (q x) (goes x) in
    omega (arith, sum_by-cons (λ n. cond {A = ℕ} (p n) 1 0) x xs, sum_by-cons (λ n. cond {A = ℕ} (q n) 1 0) x xs, here, rest)
  where
    step : (a b : Bool) → (a ≡ true → b ≡ true) → cond {A = ℕ} a 1 0 ≤ cond {A = ℕ} b 1 0
    step true true g = omega arith
    step true false g = let never = g refl in cc
    step false true g = omega arith
    step false false g = omega arith

pub any_weaker : (f g : ℕ → Bool) (xs : List ℕ) → ((x : ℕ) → f x ≡ true → g x ≡ true) → list_any f xs ≡ true → list_any g xs ≡ true
any_weaker f g [] goes e = cc
any_weaker f g (x ∷ xs) goes e = split (f x) (g x) (list_any f xs) (list_any g xs) (goes x) (any_weaker f g xs goes) e
  where
    split : (a b c d : Bool) → (a ≡ true → b ≡ true) → (c ≡ true → d ≡ true) → (a || c) ≡ true → (b || d) ≡ true
    split a true c d h k e = refl
    split true false c d h k e = let never = h refl in cc
    split false false c d h k e = k e

-- a filter keeps no more than there are
pub fewer : {X : Type 0} (p : X → Bool) (xs : List X) → length (filter p xs) ≤ length xs
fewer p [] = omega arith
fewer p (x ∷ xs) = cases (p x) (fewer p xs)
  where
    cases : (b : Bool) → length (filter p xs) ≤ length xs → length (cond b (x ∷ filter p xs) (filter p xs)) ≤ length (x ∷ xs)
    cases true le = omega (arith, le)
    cases false le = omega (arith, le)
