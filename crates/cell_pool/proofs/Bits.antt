-- The effect of reads and writes of the packed bits on the list of octets.
use Rattle.std.proofs.Common.{◌≡◌, ℕ, zero, suc, ◌+◌, ◌-◌, ◌*◌, ◌/◌, ◌%◌, ◌^◌, ◌<◌, ◌≢◌, List, [], ◌∷◌, replicate, drop, min, length, get_or, set, Option, Some, None, IsNone, IsTrue, Bool, true, false, ◌↔◌, refl, sym, ap, ◌∙◌, arith, inl, inr, bit_and, bit_or, w64, length-set, length-append, length-drop, if◌then◌else◌, ◌==◌, ◌&&◌, nat_lt, All}
use Rattle.std.specs.Int.{bit_at}
use Rattle.std.proofs.lemmas.Bool.{cases_eq, cases_lt, lt-ltb, le-ltb}
use Rattle.std.proofs.lemmas.Bool.Decides.{nat_tests}
use Rattle.std.proofs.lemmas.List.{get_or-set_same, get_or-set_other, get_or_append_left, get_or-append_right, get_or-replicate, get_or-drop, length-replicate}
use Rattle.std.proofs.lemmas.List.FromFn.{get_or-map-range_with_len, fill_by_all, length-map-range_with_len}
use Rattle.std.proofs.lemmas.Nat.Bits.{shr_and_one, bit_at_set_same, bit_at_set_other, bit_at_and, ones_shl, bit_at_mask_inside, bit_at_mask_below, bit_at-zero, bit_at-lt, same_from_bits_below}
use Rattle.cell_pool.specs.working.PackedOctets.{octet_at, octets_of, HasBitsFrom}
use Rattle.cell_pool.specs.ChainLists.{without_below}

-- `word & (MAX << place)` has the bits of `word` from `place` on
pub bits_above : (word place : ℕ) → place < 64 → HasBitsFrom place word
    (bit_and word ((2 ^ 64 - 1) * 2 ^ place % 2 ^ 64))
bits_above word place place_lt i i_lt =
    let mask : (2 ^ 64 - 1) * 2 ^ place % 2 ^ 64 ≡ 2 ^ 64 - 2 ^ place = ones_shl 64 place (omega arith) in
    rw (mask, bit_at_and word (2 ^ 64 - 2 ^ place) i) (elim (cases_lt i place) [
      | inl below ↦ let low = bit_at_mask_below place 64 i below in rw lt-ltb (omega arith)
      | inr above ↦ let high = bit_at_mask_inside place 64 i above i_lt in let bit = bit_at-lt word i in rw le-ltb
          (omega arith)
    ])

pub octet_read : (values known : List ℕ) (i : ℕ) → i < 256 →
    get_or (octets_of values known) i None ≡ octet_at values known i
unfolding octets_of
octet_read values known i lt = get_or-map-range_with_len (octet_at values known) 0 256 i i None lt (omega arith)

pub length-octets_of : (values known : List ℕ) → length (octets_of values known) ≡ 256
unfolding octets_of
length-octets_of values known = length-map-range_with_len (octet_at values known) 0 256

-- a list of 256 elements is the packed list if each element is
pub octets_by : (values known : List ℕ) (xs : List (Option ℕ)) → length xs ≡ 256 →
    ((i : ℕ) → i < 256 → get_or xs i None ≡ octet_at values known i) → octets_of values known ≡ xs
unfolding octets_of
octets_by values known xs long each = sym (fill_by_all (octet_at values known) xs 256 None long each)

pub octet_there : (values known : List ℕ) (i : ℕ) → bit_and (get_or known (i / 64) 0 / 2 ^ (i % 64)) 1 ≡ 1 →
    octet_at values known i ≡ Some (get_or values i 0)
octet_there values known i one =
    let bit : bit_at (get_or known (i / 64) 0) (i % 64) ≡ 1 = sym (shr_and_one (get_or known (i / 64) 0) (i % 64))
    ∙ one in
    rw bit refl

pub octet_none : (values known : List ℕ) (i : ℕ) → bit_and (get_or known (i / 64) 0 / 2 ^ (i % 64)) 1 ≢ 1 →
    octet_at values known i ≡ None
octet_none values known i not_one =
    let same = shr_and_one (get_or known (i / 64) 0) (i % 64) in
    grind (arith, nat_tests)

-- one octet is written, and its bit is set
module _ (values known : List ℕ) (at octet : ℕ) (lt : at < 256) (values_are : length values ≡ 256)
    (known_are : length known ≡ 4) where
  abbrev pub word : ℕ
  word = bit_or (get_or known (at / 64) 0) (1 * 2 ^ (at % 64) % 2 ^ 64)

  same_word : get_or (set known (at / 64) word) (at / 64) 0 ≡ word
  same_word = get_or-set_same known (at / 64) word 0 (omega arith)

  other_bit : (k : ℕ) → k ≢ at → bit_at (get_or (set known (at / 64) word) (k / 64) 0) (k % 64) ≡ bit_at
      (get_or known (k / 64) 0) (k % 64)
  other_bit k ne = elim (cases_eq (k / 64) (at / 64)) [
    | inl here ↦
        let apart : k % 64 ≢ at % 64 = λ e. omega arith in
        rw (here, same_word) (bit_at_set_other w64 (get_or known (at / 64) 0) (at % 64) (omega arith) (k % 64) apart)
    | inr away ↦ ap (λ w. bit_at w (k % 64)) (get_or-set_other known (at / 64) (k / 64) word 0 away)
  ]

  set_read : (k : ℕ) → k < 256 → get_or (set (octets_of values known) at (Some octet)) k None ≡ octet_at
      (set values at octet) (set known (at / 64) word) k
  set_read k k_lt = elim (cases_eq k at) [
    | inl same ↦
        let left : get_or (set (octets_of values known) at (Some octet)) at None ≡ Some octet = get_or-set_same
        (octets_of values known) at (Some octet) None (omega (arith, length-octets_of values known)) in
        let bit : bit_at word (at % 64) ≡ 1 = bit_at_set_same w64 (get_or known (at / 64) 0) (at % 64)
        (omega arith) in
        let value : get_or (set values at octet) at 0 ≡ octet = get_or-set_same values at octet 0 (omega arith) in
        rw (same, left, same_word, bit, value) refl
    | inr ne ↦
        let left : get_or (set (octets_of values known) at (Some octet))
        k None ≡ octet_at values known k = get_or-set_other (octets_of values known) at k (Some octet) None ne
        ∙ octet_read values known k k_lt in
        let value : get_or (set values at octet) k 0 ≡ get_or values k 0 = get_or-set_other values at k octet 0 ne in
        rw (left, value, other_bit k ne) refl
  ]

  pub octet_set : octets_of (set values at octet) (set known (at / 64) word) ≡ set (octets_of values known) at
      (Some octet)
  octet_set = octets_by (set values at octet) (set known (at / 64) word)
      (set (octets_of values known) at (Some octet)) (length-set (octets_of values known) at (Some octet)
      ∙ length-octets_of values known) set_read

-- the element at an offset after those below `at` were cleared
module _ (at : ℕ) (xs : List (Option ℕ)) where
  abbrev cleared : List (Option ℕ)
  cleared = replicate (min at (length xs)) None

  length-cleared : length cleared ≡ min at (length xs)
  length-cleared = length-replicate (min at (length xs)) None

  length-without_below : length (without_below at xs) ≡ length xs
  length-without_below = omega (arith, length-append cleared (drop at xs), length-cleared, length-drop at xs)

  without_read : (k : ℕ) → k < length xs → get_or (without_below at xs)
      k None ≡ (if nat_lt k at then None else get_or xs k None)
  without_read k lt = elim (cases_lt k at) [
    | inl below ↦
        let inside : k < length cleared = omega (arith, length-cleared) in
        let low : k < min at (length xs) = omega arith in
        rw (lt-ltb k at below) (get_or_append_left cleared (drop at xs) None k inside
        ∙ get_or-replicate (min at (length xs)) k None None low)
    | inr above ↦
        let long : length cleared ≡ at = omega (arith, length-cleared) in
        let place : at + (k - at) ≡ k = omega arith in
        rw (le-ltb k at above) (get_or-append_right cleared (drop at xs) at k None long above
        ∙ (get_or-drop at xs (k - at) None ∙ ap (λ i. get_or xs i None) place))
  ]

-- each word has the old bits for the offsets from `at` on
abbrev IsFrom : ℕ → List ℕ → List ℕ → Type 0
IsFrom at known new = (j : ℕ) → j < 4 → HasBitsFrom (at - 64 * j) (get_or known j 0) (get_or new j 0)

from_read : (values new known : List ℕ) (at k : ℕ) → k < 256 → IsFrom at known new →
    octet_at values new k ≡ (if nat_lt k at then None else octet_at values known k)
from_read values new known at k lt from =
    let bit = from (k / 64) (omega arith) (k % 64) (omega arith) in
    elim (cases_lt k at) [
      | inl below ↦ rw (lt-ltb k at below, bit, lt-ltb (k % 64) (at - 64 * (k / 64)) (omega arith)) refl
      | inr above ↦ rw (le-ltb k at above, bit, le-ltb (k % 64) (at - 64 * (k / 64)) (omega arith)) refl
    ]

octets_from : (values new known : List ℕ) (at : ℕ) → IsFrom at known new →
    octets_of values new ≡ without_below at (octets_of values known)
octets_from values new known at from = octets_by values new (without_below at (octets_of values known))
    (length-without_below at (octets_of values known) ∙ length-octets_of values known)
    (λ k lt. without_read at (octets_of values known) k (omega (arith, length-octets_of values known))
    ∙ rw (octet_read values known k lt) (sym (from_read values new known at k lt from)))

-- the four words with the bits from these offsets on
module _ (values known : List ℕ) (at p q r s a b c d : ℕ) (p_is : p ≡ at) (q_is : q ≡ p - 64) (r_is : r ≡ p - 128)
    (s_is : s ≡ p - 192) where
  words_from : HasBitsFrom p (get_or known 0 0) a → HasBitsFrom q (get_or known 1 0) b →
      HasBitsFrom r (get_or known 2 0) c → HasBitsFrom s (get_or known 3 0) d → IsFrom at known (a ∷ b ∷ c ∷ d ∷ [])
  words_from first second third fourth zero lt = let e : at - 64 * 0 ≡ p = omega arith in rw e first
  words_from first second third fourth (suc zero) lt = let e : at - 64 * 1 ≡ q = omega arith in rw e second
  words_from first second third fourth (suc (suc zero)) lt = let e : at - 64 * 2 ≡ r = omega arith in rw e third
  words_from first second third fourth (suc (suc (suc zero)))
      lt = let e : at - 64 * 3 ≡ s = omega arith in rw e fourth
  words_from first second third fourth (suc (suc (suc (suc j)))) lt = absurd (omega arith)

  pub octets_clear : HasBitsFrom p (get_or known 0 0) a → HasBitsFrom q (get_or known 1 0) b →
      HasBitsFrom r (get_or known 2 0) c → HasBitsFrom s (get_or known 3 0) d →
      octets_of values (a ∷ b ∷ c ∷ d ∷ []) ≡ without_below at (octets_of values known)
  octets_clear first second third fourth = octets_from values (a ∷ b ∷ c ∷ d ∷ []) known at
      (words_from first second third fourth)

-- without a set bit there is no octet
pub octets_none : (values : List ℕ) → octets_of values (0 ∷ 0 ∷ 0 ∷ 0 ∷ []) ≡ replicate 256 None
unfolding octets_of
octets_none values = refl

all_none : (n : ℕ) → All (λ (o : Option ℕ). IsNone o) (replicate n None)
all_none n k d lt = let low : k < n = omega (arith, length-replicate {A = Option ℕ} n None)
    in rw (get_or-replicate n k None d low) refl

pub is_none_of : (o : Option ℕ) → IsNone o → o ≡ None
is_none_of None n = refl
is_none_of (Some x) n = absurd (let f : true ≡ false = n in cc)

zero_bit : (n i v : ℕ) → (if bit_at n i == 1 then Some v else None) ≡ None → bit_at n i ≡ 0
zero_bit n i v e = elim (cases_eq (bit_at n i) 1) [
  | inl one ↦ absurd (let f : Some v ≡ None = rw one at e in cc)
  | inr not ↦ let lt = bit_at-lt n i in omega arith
]

-- a word is 0 if none of its offsets has an octet
zero_word : (values known : List ℕ) (j : ℕ) → j < 4 → get_or known j 0 < 2 ^ 64 →
    All (λ o. IsNone o) (octets_of values known) → get_or known j 0 ≡ 0
zero_word values known j lt small all = same_from_bits_below 64 (get_or known j 0) 0 small (omega arith) (λ i i_lt.
    let word : (64 * j + i) / 64 ≡ j = omega arith in
    let bit : (64 * j + i) % 64 ≡ i = omega arith in
    let none : octet_at values known (64 * j + i) ≡ None = sym (octet_read values known (64 * j + i) (omega arith))
    ∙ is_none_of _ (all (64 * j + i) None (omega (arith, length-octets_of values known))) in
    let zero_there = zero_bit (get_or known ((64 * j + i) / 64) 0) ((64 * j + i) % 64) (get_or values (64 * j + i) 0)
    none in
    let here : bit_at (get_or known j 0) i ≡ 0 = rw (word, bit) at zero_there in
    here ∙ sym (bit_at-zero i))

-- all words are 0 exactly if no offset has an octet
pub none_left : (values : List ℕ) (a b c d : ℕ) (r : Bool) → a < 2 ^ 64 → b < 2 ^ 64 → c < 2 ^ 64 → d < 2 ^ 64 →
    r ≡ ((a == 0) && ((b == 0) && ((c == 0) && ((d == 0) && true)))) →
    IsTrue r ↔ All (λ o. IsNone o) (octets_of values (a ∷ b ∷ c ∷ d ∷ []))
none_left values a b c d r a_lt b_lt c_lt d_lt is = (
  (λ t.
      let tests : ((a == 0) && ((b == 0) && ((c == 0) && ((d == 0) && true)))) ≡ true = sym is ∙ t in
      let a_zero : a ≡ 0 = grind (arith, nat_tests) in
      let b_zero : b ≡ 0 = grind (arith, nat_tests) in
      let c_zero : c ≡ 0 = grind (arith, nat_tests) in
      let d_zero : d ≡ 0 = grind (arith, nat_tests) in
      rw (a_zero, b_zero, c_zero, d_zero, octets_none values) (all_none 256)),
  (λ all.
      let known = a ∷ b ∷ c ∷ d ∷ [] in
      let a_zero : a ≡ 0 = zero_word values known 0 (omega arith) a_lt all in
      let b_zero : b ≡ 0 = zero_word values known 1 (omega arith) b_lt all in
      let c_zero : c ≡ 0 = zero_word values known 2 (omega arith) c_lt all in
      let d_zero : d ≡ 0 = zero_word values known 3 (omega arith) d_lt all in
      is ∙ rw (a_zero, b_zero, c_zero, d_zero) refl),
)
