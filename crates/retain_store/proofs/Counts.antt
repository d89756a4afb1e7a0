-- Counts over consecutive numbers, sums over chains, and the number of cells of a chain.
use Rattle.std.proofs.Common.{◌≡◌, ℕ, [], ◌∷◌, ◌++◌, zero, suc, ◌+◌, ◌<◌, ◌≤◌, ◌==◌, ◌||◌, ◌&&◌, not, Bool, true, false, cond, refl, sym, ap, ◌∙◌, arith, add-zero, ◌≢◌, List, length, map, set, get_or, length-set, get_or-set_same, get_or-set_other, inl, inr, ◌*◌, ◌/◌, ◌%◌, None, is_some, ap₂, subst}
use Rattle.std.specs.List.{count_by, list_any, range_with_len, sum_by, AllByRecursion}
use Rattle.std.proofs.lemmas.List.Sums.{count_by-le-length, sum_by-cons, sum_by_push, sum_by-set}
use Rattle.std.proofs.lemmas.List.{map-id, get_or_default}
use Rattle.std.proofs.lemmas.List.FromFn.{length-range_with_len, map-range_with_len_more}
use Rattle.std.proofs.lemmas.Bool.{cases_eq, and_parts}
use Rattle.std.proofs.lemmas.List.Folds.{Any-from_list_any}
use Rattle.cell_pool.specs.ChainLists.{Held, IsRising, BeginsAbove}
use Rattle.retain_store.specs.Maps.{Block, IsFull, IsWithin, block_at, holds, octet_at}
use Rattle.retain_store.specs.working.BlockCells.{AllFull, IsKept}
use Rattle.retain_store.specs.PoolBlocks.{blocks_of}
use Rattle.retain_store.proofs.Blocks.{begins, skips, none_above}

-- Counts over consecutive numbers.

pub count_most : (p : ℕ → Bool) (a n : ℕ) → count_by p (range_with_len a n) ≤ n
count_most p a n = omega (arith, count_by-le-length p (range_with_len a n), length-range_with_len a n)

range_more : (a n : ℕ) → range_with_len a (n + 1) ≡ range_with_len a n ++ (a + n) ∷ []
range_more a n = sym (map-id (range_with_len a (n + 1))) ∙ (map-range_with_len_more (λ (k : ℕ). k) a n (a + n) refl
    ∙ ap (λ l. l ++ (a + n) ∷ []) (map-id (range_with_len a n)))

-- one number more at the end
pub count_more : (p : ℕ → Bool) (a n : ℕ) →
    count_by p (range_with_len a (n + 1)) ≡ count_by p (range_with_len a n) + cond (p (a + n)) 1 0
count_more p a n = ap (count_by p) (range_more a n) ∙ sum_by_push (λ k. cond (p k) 1 0) (range_with_len a n) (a + n)

-- a count continues
pub counted_yes : (p : ℕ → Bool) (a n k : ℕ) → k ≡ count_by p (range_with_len a n) → p (a + n) ≡ true →
    k + 1 ≡ count_by p (range_with_len a (n + 1))
counted_yes p a n k so_far passes =
    ap (λ c. c + 1) so_far ∙ (ap (λ b. count_by p (range_with_len a n) + cond b 1 0) (sym passes) ∙ sym (count_more p a n))

pub counted_no : (p : ℕ → Bool) (a n k : ℕ) → k ≡ count_by p (range_with_len a n) → p (a + n) ≡ false →
    k ≡ count_by p (range_with_len a (n + 1))
counted_no p a n k so_far fails =
    so_far ∙ (sym (add-zero _) ∙ (ap (λ b. count_by p (range_with_len a n) + cond b 1 0) (sym fails) ∙ sym (count_more p a n)))

-- tests that agree on these numbers count the same
pub agree : (p q : ℕ → Bool) (a n : ℕ) → ((m : ℕ) → a ≤ m → m < a + n → p m ≡ q m) → count_by p (range_with_len a n) ≡ count_by q (range_with_len a n)
agree p q a zero e = refl
agree p q a (suc n) e =
    let rest = agree p q (a + 1) n (λ m low high. e m (omega arith) (omega arith)) in
    let here : cond {A = ℕ} (p a) 1 0 ≡ cond {A = ℕ} (q a) 1 0 = ap (λ b. cond b 1 0) (e a (omega arith) (omega arith)) in
    omega (arith, here, rest, sum_by-cons (λ k. cond (p k) 1 0) a (range_with_len (a + 1) n), sum_by-cons (λ k. cond (q k) 1 0) a (range_with_len (a + 1) n))

-- tests that agree from here on count the same
pub count_agree : (p q : ℕ → Bool) (a n : ℕ) → ((m : ℕ) → a ≤ m → p m ≡ q m) →
    count_by p (range_with_len a n) ≡ count_by q (range_with_len a n)
count_agree p q a n same = agree p q a n (λ m low high. same m low)

-- none of these numbers is counted
pub none_counted : (p : ℕ → Bool) (a n : ℕ) → ((m : ℕ) → a ≤ m → m < a + n → p m ≡ false) → count_by p (range_with_len a n) ≡ 0
none_counted p a zero e = refl
none_counted p a (suc n) e =
    let rest = none_counted p (a + 1) n (λ m low high. e m (omega arith) (omega arith)) in
    let here : cond {A = ℕ} (p a) 1 0 ≡ 0 = ap (λ b. cond b 1 0) (e a (omega arith) (omega arith)) in
    omega (arith, here, rest, sum_by-cons (λ k. cond (p k) 1 0) a (range_with_len (a + 1) n))

-- each of these numbers is counted
pub all_counted : (p : ℕ → Bool) (a n : ℕ) → ((m : ℕ) → a ≤ m → m < a + n → p m ≡ true) → count_by p (range_with_len a n) ≡ n
all_counted p a zero e = refl
all_counted p a (suc n) e =
    let rest = all_counted p (a + 1) n (λ m low high. e m (omega arith) (omega arith)) in
    let here : cond {A = ℕ} (p a) 1 0 ≡ 1 = ap (λ b. cond b 1 0) (e a (omega arith) (omega arith)) in
    omega (arith, here, rest, sum_by-cons (λ k. cond (p k) 1 0) a (range_with_len (a + 1) n))

-- a count in two parts
pub parts : (p : ℕ → Bool) (a m n : ℕ) → count_by p (range_with_len a (m + n)) ≡ count_by p (range_with_len a m) + count_by p (range_with_len (a + m) n)
parts p a zero n =
    let less : 0 + n ≡ n = omega arith in
    let same : a ≡ a + 0 = omega arith in
    ap (λ k. count_by p (range_with_len a k)) less ∙ (ap (λ k. count_by p (range_with_len k n)) same ∙ omega arith)
parts p a (suc m) n =
    let rest = parts p (a + 1) m n in
    let sum : suc m + n ≡ suc (m + n) = omega arith in
    let whole : count_by p (range_with_len a (suc m + n)) ≡ count_by p (range_with_len a (suc (m + n))) = ap (λ k. count_by p (range_with_len a k)) sum in
    let next : a + 1 + m ≡ a + suc m = omega arith in
    let on : count_by p (range_with_len (a + 1 + m) n) ≡ count_by p (range_with_len (a + suc m) n) = ap (λ k. count_by p (range_with_len k n)) next in
    omega (arith, rest, whole, on, sum_by-cons (λ k. cond (p k) 1 0) a (range_with_len (a + 1) (m + n)), sum_by-cons (λ k. cond (p k) 1 0) a (range_with_len (a + 1) m))

-- the count of what one of two tests counts
pub either : (p q : ℕ → Bool) (a n : ℕ) → count_by (λ k. p k || q k) (range_with_len a n) ≡ count_by p (range_with_len a n) + count_by (λ k. q k && not (p k)) (range_with_len a n)
either p q a zero = refl
either p q a (suc n) =
    let rest = either p q (a + 1) n in
    let here = step (p a) (q a) in
    omega (arith, rest, here, sum_by-cons (λ k. cond (p k || q k) 1 0) a (range_with_len (a + 1) n), sum_by-cons (λ k. cond (p k) 1 0) a (range_with_len (a + 1) n), sum_by-cons (λ k. cond (q k && not (p k)) 1 0) a (range_with_len (a + 1) n))
  where
    step : (b c : Bool) → cond {A = ℕ} (b || c) 1 0 ≡ cond {A = ℕ} b 1 0 + cond {A = ℕ} (c && not b) 1 0
    step true true = refl
    step true false = refl
    step false true = refl
    step false false = refl

-- all pass exactly if as many are counted as there are
full_step : (b rest : Bool) (count n : ℕ) → count ≤ n → rest ≡ (count == n) → (b && rest) ≡ (cond {A = ℕ} b 1 0 + count == suc n)
full_step true rest count n le same = let here : (count == n) ≡ (1 + count == suc n) = grind arith in same ∙ here
full_step false rest count n le same = grind arith

not_any : (b c : Bool) → not (not b || c) ≡ (b && not c)
not_any true c = refl
not_any false c = refl

pub full : (p q : ℕ → Bool) (a n : ℕ) → ((m : ℕ) → q m ≡ not (p m)) → not (list_any q (range_with_len a n)) ≡ (count_by p (range_with_len a n) == n)
full p q a zero others = refl
full p q a (suc n) others =
    let rest = full p q (a + 1) n others in
    let step = full_step (p a) (not (list_any q (range_with_len (a + 1) n))) (count_by p (range_with_len (a + 1) n)) n (count_most p (a + 1) n) rest in
    let here : count_by p (range_with_len a (suc n)) ≡ cond {A = ℕ} (p a) 1 0 + count_by p (range_with_len (a + 1) n) = sum_by-cons (λ k. cond {A = ℕ} (p k) 1 0) a (range_with_len (a + 1) n) in
    ap (λ b. not (b || list_any q (range_with_len (a + 1) n))) (others a) ∙ (not_any (p a) (list_any q (range_with_len (a + 1) n)) ∙ (step ∙ ap (λ k. k == suc n) (sym here)))

parted : (p q : ℕ → Bool) (a n : ℕ) → ((m : ℕ) → q m ≡ not (p m)) → not (list_any q (range_with_len a (suc n))) ≡ true
    → (p a && not (list_any q (range_with_len (a + 1) n))) ≡ true
parted p q a n others none = sym (ap (λ b. not (b || list_any q (range_with_len (a + 1) n))) (others a) ∙ not_any (p a) (list_any q (range_with_len (a + 1) n))) ∙ none

pub each : (p q : ℕ → Bool) (a n : ℕ) → ((m : ℕ) → q m ≡ not (p m)) → not (list_any q (range_with_len a n)) ≡ true → (i : ℕ) → i < n → p (a + i) ≡ true
each p q a zero others none i lt = absurd (omega arith)
each p q a (suc n) others none zero lt = ap p (omega arith) ∙ (and_parts (p a) (not (list_any q (range_with_len (a + 1) n))) (parted p q a n others none)).0
each p q a (suc n) others none (suc i) lt =
    ap p (omega arith) ∙ each p q (a + 1) n others (and_parts (p a) (not (list_any q (range_with_len (a + 1) n))) (parted p q a n others none)).1 i (omega arith)

-- Sums over a list whose elements have a chain each: they are sums over all chains, if the other
-- chains are empty.

-- the blocks of a chain
abbrev pub blocks_at : List (List Block) → ℕ → List Block
blocks_at chains c = get_or chains c []

nothing_held : (chains : List (List Block)) → ((c : ℕ) → blocks_at chains c ≡ []) → sum_by length chains ≡ 0
nothing_held [] none = refl
nothing_held (x ∷ xs) none =
    let first : length x ≡ 0 = ap length (none 0) in
    let rest = nothing_held xs (λ c. none (suc c)) in
    omega (arith, sum_by-cons length x xs, first, rest)

-- if the functions agree on each element, so do the sums
pub sum_agree : {X : Type 0} (f g : X → ℕ) (xs : List X) → AllByRecursion (λ x. f x ≡ g x) xs → sum_by f xs ≡ sum_by g xs
sum_agree f g [] all = refl
sum_agree f g (x ∷ xs) all = omega (arith, sum_by-cons f x xs, sum_by-cons g x xs, all.0, sum_agree f g xs all.1)

pub sum_map : {X Y : Type 0} (f : Y → ℕ) (g : X → Y) (xs : List X) → sum_by f (map g xs) ≡ sum_by (λ x. f (g x)) xs
sum_map f g [] = refl
sum_map f g (x ∷ xs) = omega (arith, sum_by-cons f (g x) (map g xs), sum_by-cons (λ y. f (g y)) x xs, sum_map f g xs)

module _ {X : Type 0} (chain : X → ℕ) where
  -- no two elements have the same chain
  abbrev pub AreApart : List X → Type 0
  AreApart [] = Unit {0}
  AreApart (x ∷ xs) = AllByRecursion (λ y. chain x ≢ chain y) xs × AreApart xs

  -- no element has this chain
  abbrev pub HaveNot : ℕ → List X → Type 0
  HaveNot c xs = AllByRecursion (λ x. chain x ≢ c) xs

  inside_then : (chains emptied : List (List Block)) → length emptied ≡ length chains → (xs : List X) → AllByRecursion (λ x. chain x < length chains) xs
      → AllByRecursion (λ x. chain x < length emptied) xs
  inside_then chains emptied long [] all = tt
  inside_then chains emptied long (x ∷ xs) all = (omega (arith, all.0, long), inside_then chains emptied long xs all.1)

  same_then : (chains emptied : List (List Block)) (s : ℕ) → ((c : ℕ) → c ≢ s → blocks_at emptied c ≡ blocks_at chains c) → (xs : List X)
      → AllByRecursion (λ y. s ≢ chain y) xs → AllByRecursion (λ x. length (blocks_at emptied (chain x)) ≡ length (blocks_at chains (chain x))) xs
  same_then chains emptied s others [] all = tt
  same_then chains emptied s others (x ∷ xs) all = (ap length (others (chain x) (λ h. all.0 (sym h))), same_then chains emptied s others xs all.1)

  pub sum_chains : (xs : List X) (chains : List (List Block)) → AreApart xs → AllByRecursion (λ x. chain x < length chains) xs
      → ((c : ℕ) → HaveNot c xs → blocks_at chains c ≡ []) → sum_by length chains ≡ sum_by (λ x. length (blocks_at chains (chain x))) xs
  sum_chains [] chains apart inside free = nothing_held chains (λ c. free c tt)
  sum_chains (x ∷ xs) chains apart inside free =
      let s = chain x in
      let emptied : List (List Block) = set chains s [] in
      let others : (c : ℕ) → c ≢ s → blocks_at emptied c ≡ blocks_at chains c = λ c ne. get_or-set_other chains s c [] [] ne in
      let here : blocks_at emptied s ≡ [] = get_or-set_same chains s [] [] inside.0 in
      let free_then : (c : ℕ) → HaveNot c xs → blocks_at emptied c ≡ [] = λ c is.
      elim (cases_eq c s) [
        | inl same ↦ ap (blocks_at emptied) same ∙ here
        | inr ne ↦ others c ne ∙ free c ((λ h. ne (sym h)), is)
      ] in
      let rest = sum_chains xs emptied apart.1 (inside_then chains emptied (length-set chains s []) xs inside.1) free_then in
      let agree = sum_agree (λ y. length (blocks_at emptied (chain y))) (λ y. length (blocks_at chains (chain y))) xs (same_then chains emptied s others xs apart.0) in
      let total = sum_by-set length chains s [] [] inside.0 in
      omega (arith, total, rest, agree, sum_by-cons (λ y. length (blocks_at chains (chain y))) x xs)

-- A chain has as many cells as there are blocks with an octet.

-- the first cell, if there is one, has this block number or a higher one
abbrev BeginsFrom : ℕ → List Held → Type 0
BeginsFrom a [] = Unit {0}
BeginsFrom a (x ∷ xs) = a ≤ x.block

from_above : (a : ℕ) (cells : List Held) → BeginsAbove a cells → BeginsFrom (a + 1) cells
from_above a [] above = tt
from_above a (x ∷ xs) above = omega arith

count_first : (p : ℕ → Bool) (a n : ℕ) →
    count_by p (range_with_len a (suc n)) ≡ cond (p a) 1 0 + count_by p (range_with_len (a + 1) n)
count_first p a n = sum_by-cons (λ k. cond (p k) 1 0) a (range_with_len (a + 1) n)

-- a cell with an octet is below the end of the octets
first_within : (x : Held) (xs : List Held) (n : ℕ) → IsFull x.octets → IsWithin (blocks_of (x ∷ xs)) (256 * n) → x.block < n
first_within x xs n full within =
    let (k, octet, inside, read, some) = Any-from_list_any is_some x.octets full.used in
    let offset = 256 * x.block + k in
    let low : k < 256 = omega (arith, full.places) in
    let number : offset / 256 ≡ x.block = omega arith in
    let place : offset % 256 ≡ k = omega arith in
    let here : octet_at (blocks_of (x ∷ xs)) offset ≡ octet =
    ap₂ (λ m i. get_or (block_at (blocks_of (x ∷ xs)) m) i None) number place
    ∙ (ap (λ l. get_or l k None) (begins x xs x.block refl) ∙ (get_or_default x.octets k None octet inside ∙ read)) in
    let below = within offset (ap is_some here ∙ some) in
    omega arith

-- the octets of the further cells have the same end
rest_within : (x : Held) (xs : List Held) (end : ℕ) → IsRising (x ∷ xs) → IsWithin (blocks_of (x ∷ xs)) end →
    IsWithin (blocks_of xs) end
rest_within x xs end rises within offset some = elim (cases_eq x.block (offset / 256)) [
  | inl same ↦
      let gone = none_above (offset / 256) xs rises.1 (subst (λ k. BeginsAbove k xs) same rises.0) in
      let none : is_some (octet_at (blocks_of xs) offset) ≡ false = ap (λ l. is_some (get_or l (offset % 256) None)) gone in
      cc
  | inr other ↦ within offset (ap (λ l. is_some (get_or l (offset % 256) None)) (skips x xs (offset / 256) other) ∙ some)
]

count_held : (cells : List Held) (a n : ℕ) → IsRising cells → AllFull cells → BeginsFrom a cells →
    IsWithin (blocks_of cells) (256 * (a + n)) →
    count_by (holds (blocks_of cells)) (range_with_len a n) ≡ length cells
count_held [] a zero rises full from within = refl
count_held [] a (suc n) rises full from within =
    let first = count_first (holds []) a n in
    let rest = count_held [] (a + 1) n tt tt tt (λ offset some. cc) in
    omega (arith, first, rest)
count_held (x ∷ xs) a zero rises full from within =
    let first = first_within x xs (a + 0) full.0 within in
    absurd (omega arith)
count_held (x ∷ xs) a (suc n) rises full from within =
    let further : a + suc n ≡ a + 1 + n = omega arith in
    let within_on = subst (λ m. IsWithin (blocks_of (x ∷ xs)) (256 * m)) further within in
    elim (cases_eq x.block a) [
      | inl same ↦
          let here : holds (blocks_of (x ∷ xs)) a ≡ true = ap (list_any is_some) (begins x xs a same) ∙ full.0.used in
          let agree = count_agree (holds (blocks_of (x ∷ xs))) (holds (blocks_of xs)) (a + 1) n
          (λ m le. ap (list_any is_some) (skips x xs m (λ e. absurd (omega arith)))) in
          let rest = count_held xs (a + 1) n rises.1 full.1 (from_above a xs (subst (λ k. BeginsAbove k xs) same rises.0))
          (rest_within x xs (256 * (a + 1 + n)) rises within_on) in
          let first = count_first (holds (blocks_of (x ∷ xs))) a n in
          let one : cond {A = ℕ} (holds (blocks_of (x ∷ xs)) a) 1 0 ≡ 1 = ap (λ b. cond b 1 0) here in
          omega (arith, first, one, agree, rest)
      | inr other ↦
          let above : a < x.block = omega arith in
          let here : holds (blocks_of (x ∷ xs)) a ≡ false = ap (list_any is_some) (none_above a (x ∷ xs) rises above) in
          let rest = count_held (x ∷ xs) (a + 1) n rises full (omega arith) within_on in
          let first = count_first (holds (blocks_of (x ∷ xs))) a n in
          let none : cond {A = ℕ} (holds (blocks_of (x ∷ xs)) a) 1 0 ≡ 0 = ap (λ b. cond b 1 0) here in
          omega (arith, first, none, rest)
    ]

-- the number of cells of a chain, by its map
pub held_counted : {cells : List Held} (blocks : List Block) (n : ℕ) {count : ℕ} → IsKept cells → blocks_of cells ≡ blocks →
    count ≡ length cells → IsWithin blocks (256 * n) → count ≡ count_by (holds blocks) (range_with_len 0 n)
held_counted {cells = cells} blocks n kept shown counted within =
    let from : 0 + n ≡ n = omega arith in
    let here = count_held cells 0 n kept.rising kept.full (from_zero cells)
    (subst (λ m. IsWithin (blocks_of cells) (256 * m)) (sym from) (subst (λ l. IsWithin l (256 * n)) (sym shown) within)) in
    counted ∙ (sym here ∙ ap (λ l. count_by (holds l) (range_with_len 0 n)) shown)
  where
    from_zero : (cells : List Held) → BeginsFrom 0 cells
    from_zero [] = tt
    from_zero (x ∷ xs) = omega arith
