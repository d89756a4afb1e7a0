-- Runs of octets that differ.
use Rattle.std.proofs.Common.{◌≡◌, ℕ, suc, ◌+◌, ◌-◌, ◌<◌, ◌≤◌, ◌==◌, ◌⊎◌, Bool, true, false, List, [], ◌∷◌, ◌++◌, length, min, get_or, take, drop, refl, sym, ap, ◌∙◌, inl, inr, add-zero, arith, append_assoc}
use Rattle.std.proofs.lemmas.Bool.{cases_lt, eqb-false, ne_eqb, eq-eqb, cases_Bool}
use Rattle.std.proofs.lemmas.List.{drop_more, drop_all, drop-drop}
use Rattle.frame_view.specs.Changes.{PlainReplaced, differing, runs}

differing-unlike : (x y : ℕ) (xs ys : List ℕ) → (x == y) ≡ false → differing (x ∷ xs) (y ∷ ys) ≡ suc (differing xs ys)
differing-unlike x y xs ys e = rw e refl

differing-alike : (x y : ℕ) (xs ys : List ℕ) → (x == y) ≡ true → differing (x ∷ xs) (y ∷ ys) ≡ 0
differing-alike x y xs ys e = rw e refl

-- one octet more that differs
pub differing-more : (from to : List ℕ) (i : ℕ) → i < length from → i < length to → (get_or from i 0 ≡ get_or to i 0 → ⊥) →
    differing (drop i from) (drop i to) ≡ suc (differing (drop (i + 1) from) (drop (i + 1) to))
differing-more from to i hf ht unlike =
    rw (drop_more from i 0 hf) (rw (drop_more to i 0 ht) (differing-unlike _ _ (drop (i + 1) from) (drop (i + 1) to) (ne_eqb _ _ unlike)))

differing-nil : (xs : List ℕ) → differing xs [] ≡ 0
differing-nil [] = refl
differing-nil (x ∷ xs) = refl

-- and so does the end of either list
pub differing-end : (from to : List ℕ) (i : ℕ) → (length from ≤ i) ⊎ (length to ≤ i) → differing (drop i from) (drop i to) ≡ 0
differing-end from to i (inl h) = rw (drop_all i from h) refl
differing-end from to i (inr h) = rw (drop_all i to h) (differing-nil (drop i from))

-- inside of a run nothing begins before its end
runs-skip : (at : ℕ) (xs ys : List ℕ) → runs true at xs ys ≡ runs false (at + differing xs ys) (drop (differing xs ys) xs) (drop (differing xs ys) ys)
runs-skip at [] ys = refl
runs-skip at (x ∷ xs) [] = refl
runs-skip at (x ∷ xs) (y ∷ ys) = by_cases (cases_Bool (x == y)) (runs-skip (at + 1) xs ys)
  where
    by_cases : (((x == y) ≡ true) ⊎ ((x == y) ≡ false)) →
        runs true (at + 1) xs ys ≡ runs false (at + 1 + differing xs ys) (drop (differing xs ys) xs) (drop (differing xs ys) ys) →
        runs true at (x ∷ xs) (y ∷ ys) ≡ runs false (at + differing (x ∷ xs) (y ∷ ys)) (drop (differing (x ∷ xs) (y ∷ ys)) (x ∷ xs)) (drop (differing (x ∷ xs) (y ∷ ys)) (y ∷ ys))
    by_cases (inl e) rest = rw e (rw (add-zero at) (rw e refl))
    by_cases (inr e) rest = rw e (rest ∙ ap (λ n. runs false n (drop (differing xs ys) xs) (drop (differing xs ys) ys)) (omega arith))

-- where the fronts are the same, the runs are those after them
pub runs-same : (at : ℕ) (from to : List ℕ) (i : ℕ) → i < length from → i < length to → differing (drop i from) (drop i to) ≡ 0 →
    runs false (at + i) (drop i from) (drop i to) ≡ runs false (at + (i + 1)) (drop (i + 1) from) (drop (i + 1) to)
runs-same at from to i hf ht none = by_cases (cases_Bool (get_or from i 0 == get_or to i 0))
  where
    by_cases : (((get_or from i 0 == get_or to i 0) ≡ true) ⊎ ((get_or from i 0 == get_or to i 0) ≡ false)) → runs false (at + i) (drop i from) (drop i to) ≡ runs false (at + (i + 1)) (drop (i + 1) from) (drop (i + 1) to)
    by_cases (inl e) =
        rw (drop_more from i 0 hf) (rw (drop_more to i 0 ht) (rw e (ap (λ n. runs false n (drop (i + 1) from) (drop (i + 1) to)) (omega arith))))
    by_cases (inr e) = absurd (omega (arith, differing-more from to i hf ht (eqb-false _ _ e)))

-- where they differ, a run begins there, and the others are after it
pub runs-run : (at : ℕ) (from to : List ℕ) → (differing from to ≡ 0 → ⊥) →
    runs false at from to
    ≡ record { at = at; from = take (differing from to) from; to = take (differing from to) to }
    ∷ runs false (at + differing from to) (drop (differing from to) from) (drop (differing from to) to)
runs-run at [] ys some = absurd (some refl)
runs-run at (x ∷ xs) [] some = absurd (some refl)
runs-run at (x ∷ xs) (y ∷ ys) some = by_cases (cases_Bool (x == y))
  where
    first : PlainReplaced
    first = record { at = at; from = take (differing (x ∷ xs) (y ∷ ys)) (x ∷ xs); to = take (differing (x ∷ xs) (y ∷ ys)) (y ∷ ys) }

    by_cases : (((x == y) ≡ true) ⊎ ((x == y) ≡ false)) → runs false at (x ∷ xs) (y ∷ ys) ≡ first ∷ runs false (at + differing (x ∷ xs) (y ∷ ys)) (drop (differing (x ∷ xs) (y ∷ ys)) (x ∷ xs)) (drop (differing (x ∷ xs) (y ∷ ys)) (y ∷ ys))
    by_cases (inl e) = absurd (some (differing-alike x y xs ys e))
    by_cases (inr e) =
        let head : PlainReplaced = record { at = at; from = take (suc (differing xs ys)) (x ∷ xs); to = take (suc (differing xs ys)) (y ∷ ys) } in
        rw e (ap (λ t. head ∷ t) (runs-skip (at + 1) xs ys ∙ ap (λ n. runs false n (drop (differing xs ys) xs) (drop (differing xs ys) ys)) (omega arith)))

-- past the end of either list nothing differs
pub differing-past : (from to : List ℕ) (i : ℕ) → min (length from) (length to) ≤ i → differing (drop i from) (drop i to) ≡ 0
differing-past from to i h = by_cases (cases_lt i (length from))
  where
    by_cases : ((i < length from) ⊎ (length from ≤ i)) → differing (drop i from) (drop i to) ≡ 0
    by_cases (inl less) = differing-end from to i (inr (omega arith))
    by_cases (inr past) = differing-end from to i (inl past)

runs-nil : (inside : Bool) (at : ℕ) (xs : List ℕ) → runs inside at xs [] ≡ []
runs-nil inside at [] = refl
runs-nil inside at (x ∷ xs) = refl

-- and there are no runs
pub runs-past : (at : ℕ) (from to : List ℕ) (i : ℕ) → min (length from) (length to) ≤ i → runs false (at + i) (drop i from) (drop i to) ≡ []
runs-past at from to i h = by_cases (cases_lt i (length from))
  where
    by_cases : ((i < length from) ⊎ (length from ≤ i)) → runs false (at + i) (drop i from) (drop i to) ≡ []
    by_cases (inl less) = rw (drop_all i to (omega arith)) (runs-nil false (at + i) (drop i from))
    by_cases (inr past) = rw (drop_all i from past) refl

begins : (at next count : ℕ) (from to : List ℕ) → count ≡ differing (drop next from) (drop next to) → (count ≡ 0 → ⊥) →
    runs false (at + next) (drop next from) (drop next to)
    ≡ record { at = at + next; from = take count (drop next from); to = take count (drop next to) }
    ∷ runs false (at + (next + count)) (drop (next + count) from) (drop (next + count) to)
begins at next count from to is some =
    let first : PlainReplaced = record { at = at + next; from = take count (drop next from); to = take count (drop next to) } in
    let step : runs false (at + next) (drop next from) (drop next to) ≡ first ∷ runs false (at + next + count) (drop count (drop next from)) (drop count (drop next to)) = rw is (runs-run (at + next) (drop next from) (drop next to) (λ none. some (is ∙ none))) in
    let sum : at + next + count ≡ at + (next + count) = omega arith in
    step ∙ (λ i. first ∷ runs false (sum i) (drop-drop count next from i) (drop-drop count next to i))

-- a run that is added to those before it
pub run-added : (done new whole : List PlainReplaced) (at next count : ℕ) (from to : List ℕ) → count ≡ differing (drop next from) (drop next to) → (count ≡ 0 → ⊥) →
    new ≡ done ++ record { at = at + next; from = take (next + count - next) (drop next from); to = take (next + count - next) (drop next to) } ∷ [] →
    done ++ runs false (at + next) (drop next from) (drop next to) ≡ whole →
    new ++ runs false (at + (next + count)) (drop (next + count) from) (drop (next + count) to) ≡ whole
run-added done new whole at next count from to is some added all =
    let past : next + count - next ≡ count = omega arith in
    let first : PlainReplaced = record { at = at + next; from = take count (drop next from); to = take count (drop next to) } in
    let rest = runs false (at + (next + count)) (drop (next + count) from) (drop (next + count) to) in
    let begun : runs false (at + next) (drop next from) (drop next to) ≡ first ∷ rest = begins at next count from to is some in
    ap (λ t. t ++ rest) (rw past at added) ∙ append_assoc done (first ∷ []) rest ∙ ap (λ t. done ++ t) (sym begun) ∙ all
