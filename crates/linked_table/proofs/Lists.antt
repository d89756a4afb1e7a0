-- Lists: some, each and each two elements, what filters keep, and a list split at one of its
-- elements.
use Rattle.std.proofs.Common.{zero, suc, inl, inr, ◌⊎◌, List, [], ◌∷◌, refl, sym, subst, arith, ◌≡◌, Bool, true, false, cond, ap, ◌∙◌, ℕ, ◌<◌, ◌++◌, length, get_or, map}
use Rattle.std.specs.List.{Any, AllPairs, filter, AllByRecursion}
use Rattle.std.proofs.lemmas.List.Elements.{All-from_recursion}
use Rattle.linked_table.specs.EntryTable.{Pairwise}

-- Facts about some, about each and about each two elements of a list, by recursion on it.

module _ {X : Type 0} (P : X → Type 0) where
  pub Any-head : (x : X) (xs : List X) → P x → Any P (x ∷ xs)
  Any-head x xs here = (0, x, omega arith, refl, here)

  pub Any-tail : (x : X) (xs : List X) → Any P xs → Any P (x ∷ xs)
  Any-tail x xs (k, y, below, at, there) = (suc k, y, omega arith, at, there)

  pub Any-cases : (x : X) (xs : List X) → Any P (x ∷ xs) → P x ⊎ Any P xs
  Any-cases x xs (zero, y, below, at, there) = inl (subst P (sym at) there)
  Any-cases x xs (suc k, y, below, at, there) = inr (k, y, omega arith, at, there)

module _ {X : Type 0} (R : X → X → Type 0) where
  pub AllPairs-from_recursion : (xs : List X) → Pairwise R xs → AllPairs R xs
  AllPairs-from_recursion [] pairs i j d before below = absurd (omega arith)
  AllPairs-from_recursion (x ∷ xs) pairs zero zero d before below = absurd (omega arith)
  AllPairs-from_recursion (x ∷ xs) pairs zero (suc j) d before below = All-from_recursion (R x) xs pairs.0 j d (omega arith)
  AllPairs-from_recursion (x ∷ xs) pairs (suc i) zero d before below = absurd (omega arith)
  AllPairs-from_recursion (x ∷ xs) pairs (suc i) (suc j) d before below =
      AllPairs-from_recursion xs pairs.1 i j d (omega arith) (omega arith)

-- What filters keep.

module _ {X : Type 0} where
  under_step : (p q : X → Bool) (x : X) (xs ys : List X) (a b : Bool) → (a ≡ true → b ≡ true) → p x ≡ a → filter p xs ≡ ys
      → filter p (cond b (x ∷ xs) xs) ≡ cond a (x ∷ ys) ys
  under_step p q x xs ys true true goes pa same = ap (λ c. cond c (x ∷ filter p xs) (filter p xs)) pa ∙ ap (λ l. x ∷ l) same
  under_step p q x xs ys true false goes pa same = cc (goes refl)
  under_step p q x xs ys false true goes pa same = ap (λ c. cond c (x ∷ filter p xs) (filter p xs)) pa ∙ same
  under_step p q x xs ys false false goes pa same = same

  -- a further filter that passes all that the first one keeps
  pub filter_under : (p q : X → Bool) → ((x : X) → p x ≡ true → q x ≡ true) → (xs : List X) → filter p (filter q xs) ≡ filter p xs
  filter_under p q under [] = refl
  filter_under p q under (x ∷ xs) = under_step p q x (filter q xs) (filter p xs) (p x) (q x) (under x) refl (filter_under p q under xs)

  -- all pass
  pub filter_all : (p : X → Bool) (xs : List X) → AllByRecursion (λ x. p x ≡ true) xs → filter p xs ≡ xs
  filter_all p [] all = refl
  filter_all p (x ∷ xs) all = ap (λ c. cond c (x ∷ filter p xs) (filter p xs)) all.0 ∙ ap (λ l. x ∷ l) (filter_all p xs all.1)

  -- none passes
  pub filter_none : (p : X → Bool) (xs : List X) → AllByRecursion (λ x. p x ≡ false) xs → filter p xs ≡ []
  filter_none p [] all = refl
  filter_none p (x ∷ xs) all = ap (λ c. cond c (x ∷ filter p xs) (filter p xs)) all.0 ∙ filter_none p xs all.1

-- A list split at one of its elements.

module _ {X : Type 0} where
  -- an element for which `P` holds, with those before it and those after it
  pub record Split (P : X → Type 0) (xs : List X) : Type 0 where
    pub before : List X
    pub here : X
    pub after : List X
    pub splits : xs ≡ before ++ here ∷ after
    pub holds : P here

  pub split_any : (P : X → Type 0) (xs : List X) → Any P xs → Split P xs
  split_any P [] (k, y, below, at, there) = absurd (omega arith)
  split_any P (x ∷ xs) (zero, y, below, at, there) = record { before = []; here = x; after = xs; splits = refl; holds = subst P (sym at) there }
  split_any P (x ∷ xs) (suc k, y, below, at, there) =
      let rest = split_any P xs (k, y, omega arith, at, there) in
      record { before = x ∷ rest.before; here = rest.here; after = rest.after; splits = ap (λ l. x ∷ l) rest.splits; holds = rest.holds }

  -- by index and by recursion
  pub all_recursive : (P : X → Type 0) (xs : List X) → ((k : ℕ) (d : X) → k < length xs → P (get_or xs k d)) → AllByRecursion P xs
  all_recursive P [] all = tt
  all_recursive P (x ∷ xs) all = (all 0 x (omega arith), all_recursive P xs (λ k d below. all (suc k) d (omega arith)))

  pub pairwise : (R : X → X → Type 0) (xs : List X) → AllPairs R xs → Pairwise R xs
  pairwise R [] pairs = tt
  pairwise R (x ∷ xs) pairs =
      (all_recursive (R x) xs (λ k d below. pairs 0 (suc k) d (omega arith) (omega arith)), pairwise R xs (λ i j d before below. pairs (suc i) (suc j) d (omega arith) (omega arith)))

  -- of both parts, and of one element between
  pub all_before : (P : X → Type 0) (xs ys : List X) → AllByRecursion P (xs ++ ys) → AllByRecursion P xs
  all_before P [] ys all = tt
  all_before P (x ∷ xs) ys all = (all.0, all_before P xs ys all.1)

  pub all_after : (P : X → Type 0) (xs ys : List X) → AllByRecursion P (xs ++ ys) → AllByRecursion P ys
  all_after P [] ys all = all
  all_after P (x ∷ xs) ys all = all_after P xs ys all.1

  pub all_join : (P : X → Type 0) (xs ys : List X) → AllByRecursion P xs → AllByRecursion P ys → AllByRecursion P (xs ++ ys)
  all_join P [] ys left right = right
  all_join P (x ∷ xs) ys left right = (left.0, all_join P xs ys left.1 right)

  pub all_weaker : (P Q : X → Type 0) → ((x : X) → P x → Q x) → (xs : List X) → AllByRecursion P xs → AllByRecursion Q xs
  all_weaker P Q goes [] all = tt
  all_weaker P Q goes (x ∷ xs) all = (goes x all.0, all_weaker P Q goes xs all.1)

  -- those before an element are in the relation to it, and it to those after it
  pub pairs_before : (R : X → X → Type 0) (xs : List X) (y : X) (ys : List X) → Pairwise R (xs ++ y ∷ ys) → AllByRecursion (λ x. R x y) xs
  pairs_before R [] y ys pairs = tt
  pairs_before R (x ∷ xs) y ys pairs = ((all_after (R x) xs (y ∷ ys) pairs.0).0, pairs_before R xs y ys pairs.1)

  pub pairs_after : (R : X → X → Type 0) (xs : List X) (y : X) (ys : List X) → Pairwise R (xs ++ y ∷ ys) → AllByRecursion (R y) ys
  pairs_after R [] y ys pairs = pairs.0
  pairs_after R (x ∷ xs) y ys pairs = pairs_after R xs y ys pairs.1

  -- all but the one that does not pass
  pub filter_rest : (p : X → Bool) (xs : List X) (y : X) (ys : List X) → AllByRecursion (λ x. p x ≡ true) xs → p y ≡ false → AllByRecursion (λ x. p x ≡ true) ys
      → filter p (xs ++ y ∷ ys) ≡ xs ++ ys
  filter_rest p [] y ys left out right = ap (λ b. cond b (y ∷ filter p ys) (filter p ys)) out ∙ filter_all p ys right
  filter_rest p (x ∷ xs) y ys left out right = ap (λ b. cond b (x ∷ filter p (xs ++ y ∷ ys)) (filter p (xs ++ y ∷ ys))) left.0 ∙ ap (λ l. x ∷ l) (filter_rest p xs y ys left.1 out right)

pub map_same : {X : Type 0} (f : X → X) (xs : List X) → AllByRecursion (λ x. f x ≡ x) xs → map f xs ≡ xs
map_same f [] all = refl
map_same f (x ∷ xs) all = ap (λ y. y ∷ map f xs) all.0 ∙ ap (λ l. x ∷ l) (map_same f xs all.1)
