-- Room for a segment: the number of blocks that it needs, by the octets that a chain holds.
use Rattle.std.proofs.Common.{◌≡◌, ◌≢◌, ℕ, suc, ◌+◌, ◌-◌, ◌<◌, ◌≤◌, ◌/◌, ◌%◌, ◌⊎◌, inl, inr, ◌==◌, Bool, true, false, not, cond, ◌||◌, List, ◌∷◌, refl, sym, ap, ◌∙◌, arith, ne_eqb, zero, ◌*◌, nat_lt, ◌↔◌, IsTrue, [], length, get_or, Option, None, is_some, ap₂, add-one, lt-ltb, le-ltb}
use Rattle.std.specs.List.{count_by, range_with_len, AllByRecursion, list_any}
use Rattle.std.proofs.Math.Bool.{or-false}
use Rattle.std.proofs.lemmas.Bool.{cases_eq, cases_lt}
use Rattle.std.proofs.lemmas.List.Sums.{sum_by-cons}
use Rattle.std.proofs.lemmas.List.Elements.{recursion_from_All}
use Rattle.retain_store.specs.Maps.{Block, holds, touched, missing, IsMap, IsFull, IsWithin, block_at, octet_at, has_octet}
use Rattle.retain_store.proofs.Counts.{count_agree, sum_agree}

-- The number of missing blocks, block after block.

-- the number of blocks touched after the first
abbrev pub further : ℕ → ℕ → ℕ
further from len = (from + len - 1) / 256 - from / 256

-- the first block touched, and those after it
touched_first : (from len : ℕ) → 0 < len → touched from len ≡ from / 256 ∷ range_with_len (from / 256 + 1) (further from len)
touched_first from len some =
    let more : (from + len - 1) / 256 + 1 - from / 256 ≡ suc (further from len) = omega arith in
    rw (ne_eqb len 0 (λ e. absurd (omega arith)), more) refl

-- after a part that ends with the first block, or with the segment
touched_rest : (from len count : ℕ) → 0 < count → count ≤ len → from % 256 + count ≤ 256 →
    (count ≡ len) ⊎ (from % 256 + count ≡ 256) →
    touched (from + count) (len - count) ≡ range_with_len (from / 256 + 1) (further from len)
touched_rest from len count some within fits ends = elim (cases_eq count len) [
  | inl all ↦
      let nothing : len - count ≡ 0 = omega arith in
      let none : further from len ≡ 0 = omega arith in
      rw (nothing, none) refl
  | inr part ↦
      let left : len - count ≢ 0 = λ e. absurd (omega arith) in
      let whole : from % 256 + count ≡ 256 = elim ends [ inl all ↦ absurd (part all) | inr whole ↦ whole ] in
      let first : (from + count) / 256 ≡ from / 256 + 1 = omega arith in
      let number : (from + count + (len - count) - 1) / 256 + 1 - (from + count) / 256 ≡ further from len = omega arith in
      rw (ne_eqb (len - count) 0 left, number, first) refl
]

missing_first : (blocks : List Block) (from len : ℕ) → 0 < len →
    missing blocks from len ≡ cond (holds blocks (from / 256)) 0 1
    + count_by (λ n. not (holds blocks n)) (range_with_len (from / 256 + 1) (further from len))
missing_first blocks from len some =
    let rest = range_with_len (from / 256 + 1) (further from len) in
    ap (count_by (λ n. not (holds blocks n))) (touched_first from len some)
    ∙ (sum_by-cons (λ n. cond (not (holds blocks n)) 1 0) (from / 256) rest
    ∙ ap (λ k. k + count_by (λ n. not (holds blocks n)) rest) (turned (holds blocks (from / 256))))
  where
    turned : (b : Bool) → cond {A = ℕ} (not b) 1 0 ≡ cond {A = ℕ} b 0 1
    turned true = refl
    turned false = refl

-- if none is missing, the first has an octet
pub first_held : (blocks : List Block) (from len : ℕ) → 0 < len → missing blocks from len ≡ 0 →
    holds blocks (from / 256) ≡ true
first_held blocks from len some none =
    let first = missing_first blocks from len some in
    go (holds blocks (from / 256)) (omega arith)
  where
    go : (b : Bool) → cond {A = ℕ} b 0 1 ≡ 0 → b ≡ true
    go true e = refl
    go false e = absurd (omega arith)

-- if all offsets are in one block, which has an octet, none is missing
pub one_held : (blocks : List Block) (from len : ℕ) → 0 < len → from % 256 + len ≤ 256 → holds blocks (from / 256) ≡ true →
    missing blocks from len ≡ 0
one_held blocks from len some fits held =
    let none : further from len ≡ 0 = omega arith in
    missing_first blocks from len some ∙ (rw (held, none) refl)

-- one part further
pub missing_step : (old new : List Block) (from len count : ℕ) → 0 < count → count ≤ len → from % 256 + count ≤ 256 →
    (count ≡ len) ⊎ (from % 256 + count ≡ 256) →
    ((n : ℕ) → holds new n ≡ (holds old n || n == from / 256)) →
    missing old from len ≡ cond (holds old (from / 256)) 0 1 + missing new (from + count) (len - count)
missing_step old new from len count some within fits ends held =
    let agree = count_agree (λ n. not (holds old n)) (λ n. not (holds new n)) (from / 256 + 1) (further from len)
    (λ n above. ap not (sym (held n ∙ (ap (λ b. holds old n || b) (ne_eqb n (from / 256) (λ e. absurd (omega arith)))
    ∙ or-false (holds old n))))) in
    let rest = ap (count_by (λ n. not (holds new n))) (touched_rest from len count some within fits ends) in
    missing_first old from len (omega arith) ∙ ap (λ k. cond (holds old (from / 256)) 0 1 + k) (agree ∙ sym rest)

-- A chain with these octets, and no others, has their blocks.

any_agree : (f g : ℕ → Bool) (xs : List ℕ) → ((x : ℕ) → f x ≡ g x) → list_any f xs ≡ list_any g xs
any_agree f g [] same = refl
any_agree f g (x ∷ xs) same = rw (same x) (ap (λ b. g x || b) (any_agree f g xs same))

-- over a range, one element each
any_range : (l : List (Option ℕ)) (f : ℕ → Bool) (a len : ℕ) → length l ≤ len → ((i : ℕ) → i < len → f (a + i) ≡ is_some (get_or l i None))
    → list_any f (range_with_len a len) ≡ list_any is_some l
any_range [] f a zero short reads = refl
any_range (x ∷ xs) f a zero short reads = absurd (omega arith)
any_range [] f a (suc len) short reads =
    let here : f a ≡ false = ap f (omega arith) ∙ reads 0 (omega arith) in
    let rest = any_range [] f (a + 1) len (omega arith) (λ i lt. ap f (omega arith) ∙ reads (i + 1) (omega arith)) in
    rw here rest
any_range (x ∷ xs) f a (suc len) short reads =
    let here : f a ≡ is_some x = ap f (omega arith) ∙ reads 0 (omega arith) in
    let rest = any_range xs f (a + 1) len (omega arith) (λ i lt. ap f (omega arith) ∙ (reads (i + 1) (omega arith) ∙ rw (add-one i) refl)) in
    rw here (ap (λ b. is_some x || b) rest)

block_short : (blocks : List Block) (n : ℕ) → AllByRecursion (λ (b : Block). IsFull b.octets) blocks → length (block_at blocks n) ≤ 256
block_short [] n full = omega arith
block_short (b ∷ bs) n full =
    let here : length b.octets ≤ 256 = omega (arith, full.0.places) in
    let rest = block_short bs n full.1 in
    elim (b.number == n) as (λ t. length (cond t b.octets (block_at bs n)) ≤ 256) [ true ↦ here | false ↦ rest ]

-- a block is held exactly if one of its 256 offsets has an octet
pub holds_are : (blocks : List Block) (octets : ℕ → Option ℕ) (n : ℕ) → IsMap blocks → ((offset : ℕ) → octet_at blocks offset ≡ octets offset)
    → holds blocks n ≡ has_octet octets n
holds_are blocks octets n map keeps =
    let short = block_short blocks n (recursion_from_All (λ (b : Block). IsFull b.octets) blocks map.full) in
    sym (any_agree (λ o. is_some (octets o)) (λ o. is_some (octet_at blocks o)) (range_with_len (256 * n) 256) (λ o. ap is_some (sym (keeps o)))
    ∙ any_range (block_at blocks n) (λ o. is_some (octet_at blocks o)) (256 * n) 256 short (λ i lt. place i lt))
  where
    place : (i : ℕ) → i < 256 → is_some (octet_at blocks (256 * n + i)) ≡ is_some (get_or (block_at blocks n) i None)
    place i lt =
        let number : (256 * n + i) / 256 ≡ n = omega arith in
        let rest : (256 * n + i) % 256 ≡ i = omega arith in
        ap₂ (λ m k. is_some (get_or (block_at blocks m) k None)) number rest

all_of : (P : ℕ → Type 0) (xs : List ℕ) → ((x : ℕ) → P x) → AllByRecursion P xs
all_of P [] each = tt
all_of P (x ∷ xs) each = (each x, all_of P xs each)

pub missing_are : (blocks : List Block) (octets : ℕ → Option ℕ) (from len : ℕ) → IsMap blocks → ((offset : ℕ) → octet_at blocks offset ≡ octets offset)
    → missing blocks from len ≡ count_by (λ n. not (has_octet octets n)) (touched from len)
missing_are blocks octets from len map keeps =
    sum_agree (λ n. cond (not (holds blocks n)) 1 0) (λ n. cond (not (has_octet octets n)) 1 0) (touched from len)
    (all_of _ (touched from len) (λ n. ap (λ b. cond {A = ℕ} (not b) 1 0) (holds_are blocks octets n map keeps)))

-- the number of blocks is the number of those with one of these octets, if all octets are in the
-- first `n` blocks
pub count_is : (blocks : List Block) (octets : ℕ → Option ℕ) (n : ℕ) → IsMap blocks → ((offset : ℕ) → octet_at blocks offset ≡ octets offset)
    → ((offset : ℕ) → is_some (octets offset) ≡ true → offset < 256 * n)
    → ((m : ℕ) → IsWithin blocks (256 * m) → length blocks ≡ count_by (holds blocks) (range_with_len 0 m)) → length blocks ≡ count_by (has_octet octets) (range_with_len 0 n)
count_is blocks octets n map keeps below counted =
    counted n (λ o some. below o (sym (ap is_some (keeps o)) ∙ some))
    ∙ sum_agree (λ m. cond (holds blocks m) 1 0) (λ m. cond (has_octet octets m) 1 0) (range_with_len 0 n)
    (all_of _ (range_with_len 0 n) (λ m. ap (λ b. cond {A = ℕ} b 1 0) (holds_are blocks octets m map keeps)))

-- if the answer is that the octets do not fit, too few cells are free
pub no_room : (free n : ℕ) (fits : Bool) → IsTrue fits ↔ n ≤ free → fits ≡ false → nat_lt free n ≡ true
no_room free n fits says refused = elim (cases_lt free n) [
  | inl lt ↦ lt-ltb free n lt
  | inr le ↦ let given : fits ≡ true = says.1 le in cc
]

pub some_room : (free n : ℕ) (fits : Bool) → IsTrue fits ↔ n ≤ free → fits ≡ true → nat_lt free n ≡ false
some_room free n true says given = le-ltb free n (says.0 refl)
some_room free n false says given = cc
