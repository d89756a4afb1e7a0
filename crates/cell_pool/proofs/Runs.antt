-- Runs of offsets: the masks of their bits, and what it means for the octets to test, compare, copy
-- and write a run.
use Rattle.std.proofs.Common.{◌≡◌, ℕ, zero, suc, ◌+◌, ◌-◌, ◌*◌, ◌/◌, ◌%◌, ◌^◌, ◌<◌, ◌≤◌, List, ◌++◌, length, map, min, replicate, get_or, Option, Some, None, IsSome, is_some, IsTrue, Bool, true, false, ◌↔◌, refl, sym, ap, ap₂, subst, ◌∙◌, arith, eq-eqb, inl, inr, bit_and, bit_xor, ◌==◌, ◌&&◌, [], ◌∷◌, take, drop, Decides, if◌then◌else◌, bit_or, length-append, max}
use Rattle.std.specs.Int.{bit_at}
use Rattle.std.specs.List.{range_with_len, between}
use Rattle.std.proofs.lemmas.Bool.{cases_eq, cases_lt}
use Rattle.std.proofs.lemmas.Bool.Decides.{nat_tests}
use Rattle.std.proofs.lemmas.List.{get_or-replicate, get_or_append_left, get_or-append_right, length-replicate, same_lists, get_or_default, get_or-take, get_or-drop, get_or-map, length-map, length-take-le, length-drop, append_assoc, drop-drop}
use Rattle.std.proofs.lemmas.List.FromFn.{get_or-map-range_with_len, length-map-range_with_len}
use Rattle.std.proofs.lemmas.Nat.{and_le_r}
use Rattle.std.proofs.lemmas.Nat.Bits.{bit_at_and, bit_at_xor, bit_at_ones, bit_at_ones_above, bit_at-zero, bit_at-lt, same_from_bits_below, bit_at_or}
use borrow.Rule.Slice.PartMut.{put_mid}
use Rattle.std.proofs.lemmas.List.Edits.{get_or-between, length-between}
use Rattle.cell_pool.specs.working.PackedOctets.{octet_at, octets_of, HasOnesBetween, IsMask, bit_of}
use Rattle.cell_pool.specs.ChainLists.{IsBlank, IsCovered, StandsFrom, with_run}
use Rattle.cell_pool.proofs.Bits.{octet_read, octets_by, length-octets_of}

-- Masks of offsets, and what their bits mean for the packed octets.

-- a word with 1 at the bits below k, seen up to bit 63
ones_upto : (k n : ℕ) → min k 64 ≡ min n 64 → HasOnesBetween 0 n (2 ^ k - 1)
ones_upto k n same = record {
  inside = λ i lt above below. bit_at_ones k i (omega arith);
  before = λ i lt below. absurd (omega arith);
  behind = λ i lt over. bit_at_ones_above k i (omega arith);
}

-- the table of the words below each bit, row after row
abbrev pub edges : List ℕ
edges = replicate 192 0 ++ (map (λ k. 2 ^ k - 1) (range_with_len 0 64) ++ replicate 256 (2 ^ 64 - 1))

pub edge_ones : (i n : ℕ) → i < 512 → n ≡ i - 192 → HasOnesBetween 0 n (get_or edges i 0)
edge_ones i n lt is =
    let zeros = replicate {A = ℕ} 192 0 in
    let part = map (λ k. 2 ^ k - 1) (range_with_len 0 64) in
    let ones = replicate {A = ℕ} 256 (2 ^ 64 - 1) in
    let zeros_size : length zeros ≡ 192 = length-replicate {A = ℕ} 192 0 in
    let part_size : length part ≡ 64 = length-map-range_with_len (λ k. 2 ^ k - 1) 0 64 in
    elim (cases_lt i 192) [
      | inl low ↦
          let read : get_or edges i 0 ≡ 0 = get_or_append_left zeros (part ++ ones) 0 i (omega arith) ∙ get_or-replicate {A = ℕ} 192 i 0 0 low in
          rw read (ones_upto 0 n (omega arith))
      | inr high ↦
          let behind = get_or-append_right zeros (part ++ ones) 192 i 0 zeros_size high in
          elim (cases_lt i 256) [
            | inl inside ↦
                let read : get_or edges i 0 ≡ 2 ^ (i - 192) - 1 = behind ∙ (get_or_append_left part ones 0 (i - 192) (omega arith)
                ∙ get_or-map-range_with_len (λ k. 2 ^ k - 1) 0 64 (i - 192) (i - 192) 0 (omega arith) (omega arith)) in
                rw read (ones_upto (i - 192) n (omega arith))
            | inr past ↦
                let read : get_or edges i 0 ≡ 2 ^ 64 - 1 = behind ∙ (get_or-append_right part ones 64 (i - 192) 0 part_size (omega arith)
                ∙ get_or-replicate {A = ℕ} 256 (i - 192 - 64) (2 ^ 64 - 1) 0 (omega arith)) in
                rw read (ones_upto 64 n (omega arith))
          ]
    ]

-- the ones below one bit and not below another
pub ones_apart : (at end a b : ℕ) → at ≤ end → HasOnesBetween 0 at a → HasOnesBetween 0 end b → HasOnesBetween at end (bit_xor a b)
ones_apart at end a b order low high = record {
  inside = λ i lt above below. bit_at_xor a b i
      ∙ ap₂ (λ x y. (x + y) % 2) (low.behind i lt above) (high.inside i lt (omega arith) below);
  before = λ i lt below. bit_at_xor a b i
      ∙ ap₂ (λ x y. (x + y) % 2) (low.inside i lt (omega arith) below) (high.inside i lt (omega arith) (omega arith));
  behind = λ i lt over. bit_at_xor a b i
      ∙ ap₂ (λ x y. (x + y) % 2) (low.behind i lt (omega arith)) (high.behind i lt over);
}

-- what holds for four words holds for each
pub four : (P : ℕ → Type 0) → P 0 → P 1 → P 2 → P 3 → (j : ℕ) → j < 4 → P j
four P first second third fourth zero lt = first
four P first second third fourth (suc zero) lt = second
four P first second third fourth (suc (suc zero)) lt = third
four P first second third fourth (suc (suc (suc zero))) lt = fourth
four P first second third fourth (suc (suc (suc (suc j)))) lt = absurd (omega arith)

-- each word has the ones of its own offsets
abbrev pub AreOnes : ℕ → ℕ → List ℕ → Type 0
AreOnes at end words = (j : ℕ) → j < 4 → HasOnesBetween (at - 64 * j) (end - 64 * j) (get_or words j 0)

pub mask_of : (at end : ℕ) (words : List ℕ) → ((j : ℕ) → j < 4 → get_or words j 0 < 2 ^ 64) → AreOnes at end words → IsMask at end words
mask_of at end words small each = record {
  small = small;
  inside = λ i lt above below. (each (i / 64) (omega arith)).inside (i % 64) (omega arith) (omega arith) (omega arith);
  before = λ i lt below. (each (i / 64) (omega arith)).before (i % 64) (omega arith) (omega arith);
  behind = λ i lt over. (each (i / 64) (omega arith)).behind (i % 64) (omega arith) (omega arith);
}

-- the element at an offset, by its bit
pub octet_off : (values known : List ℕ) (i : ℕ) → bit_of known i ≡ 0 → octet_at values known i ≡ None
octet_off values known i off = rw off refl

pub octet_on : (values known : List ℕ) (i : ℕ) → bit_of known i ≡ 1 → octet_at values known i ≡ Some (get_or values i 0)
octet_on values known i on = rw on refl

bit_off : (values known : List ℕ) (i : ℕ) → octet_at values known i ≡ None → bit_of known i ≡ 0
bit_off values known i none = elim (cases_eq (bit_of known i) 1) [
  | inl one ↦ absurd (let e : Some (get_or values i 0) ≡ None = sym (octet_on values known i one) ∙ none in cc)
  | inr not ↦ let lt = bit_at-lt (get_or known (i / 64) 0) (i % 64) in omega arith
]

bit_on : (values known : List ℕ) (i : ℕ) → IsSome (octet_at values known i) → bit_of known i ≡ 1
bit_on values known i some = elim (cases_eq (bit_of known i) 1) [
  | inl one ↦ one
  | inr not ↦
      let lt = bit_at-lt (get_or known (i / 64) 0) (i % 64) in
      let off : bit_of known i ≡ 0 = omega arith in
      let none : false ≡ true = sym (ap is_some (octet_off values known i off)) ∙ some in
      cc
]

-- the bits of the known offsets, if none of a run has an octet, or each has
module _ (values known : List ℕ) (at len : ℕ) (fits : at + len ≤ 256) where
  blank_bits : IsBlank at len (octets_of values known) → (k : ℕ) → at ≤ k → k < at + len → bit_of known k ≡ 0
  blank_bits blank k above below =
      let place : at + (k - at) ≡ k = omega arith in
      bit_off values known k (sym (octet_read values known k (omega arith))
      ∙ (ap (λ i. get_or (octets_of values known) i None) (sym place) ∙ blank (k - at) (omega arith)))

  covered_bits : IsCovered at len (octets_of values known) → (k : ℕ) → at ≤ k → k < at + len → bit_of known k ≡ 1
  covered_bits covered k above below =
      let place : at + (k - at) ≡ k = omega arith in
      let some : IsSome (get_or (octets_of values known) k None) = subst (λ j. IsSome (get_or (octets_of values known) j None)) place (covered (k - at) (omega arith)) in
      bit_on values known k (subst (λ (o : Option ℕ). IsSome o) (octet_read values known k (omega arith)) some)

  pub covered_read : IsCovered at len (octets_of values known) → (i : ℕ) → i < len →
      get_or (octets_of values known) (at + i) None ≡ Some (get_or values (at + i) 0)
  covered_read covered i lt = octet_read values known (at + i) (omega arith)
      ∙ octet_on values known (at + i) (covered_bits covered (at + i) (omega arith) (omega arith))

-- the bits that the known offsets have in common with a mask
module _ (values known mask : List ℕ) (at len : ℕ) (fits : at + len ≤ 256) (is : IsMask at (at + len) mask) where
  abbrev pub common : ℕ → ℕ
  common j = bit_and (get_or known j 0) (get_or mask j 0)

  common_inside : (i : ℕ) → i < len → bit_at (common ((at + i) / 64)) ((at + i) % 64) ≡ bit_of known (at + i)
  common_inside i lt =
      let both = bit_at_and (get_or known ((at + i) / 64) 0) (get_or mask ((at + i) / 64) 0) ((at + i) % 64) in
      let one = is.inside (at + i) (omega arith) (omega arith) (omega arith) in
      let small = bit_at-lt (get_or known ((at + i) / 64) 0) ((at + i) % 64) in
      omega arith

  pub blank_of : ((j : ℕ) → j < 4 → common j ≡ 0) → IsBlank at len (octets_of values known)
  blank_of zeros i lt =
      let zero_there : bit_at (common ((at + i) / 64)) ((at + i) % 64) ≡ 0 =
      ap (λ w. bit_at w ((at + i) % 64)) (zeros ((at + i) / 64) (omega arith)) ∙ bit_at-zero ((at + i) % 64) in
      octet_read values known (at + i) (omega arith)
      ∙ octet_off values known (at + i) (sym (common_inside i lt) ∙ zero_there)

  pub covered_of : ((j : ℕ) → j < 4 → common j ≡ get_or mask j 0) → IsCovered at len (octets_of values known)
  covered_of same i lt =
      let one_there : bit_at (common ((at + i) / 64)) ((at + i) % 64) ≡ 1 =
      ap (λ w. bit_at w ((at + i) % 64)) (same ((at + i) / 64) (omega arith))
      ∙ is.inside (at + i) (omega arith) (omega arith) (omega arith) in
      rw (octet_read values known (at + i) (omega arith), octet_on values known (at + i) (sym (common_inside i lt) ∙ one_there)) refl

  -- a bit of a word, by its offset
  place_bit : (words : List ℕ) (j i : ℕ) → i < 64 → bit_of words (64 * j + i) ≡ bit_at (get_or words j 0) i
  place_bit words j i lt =
      let word : (64 * j + i) / 64 ≡ j = omega arith in
      let bit : (64 * j + i) % 64 ≡ i = omega arith in
      rw (word, bit) refl

  -- if the known offsets have this bit at each offset of the mask, so have the common bits
  common_bits : (b : ℕ) → ((k : ℕ) → at ≤ k → k < at + len → bit_of known k ≡ b) → (j i : ℕ) → j < 4 → i < 64 →
      bit_at (common j) i ≡ min b (bit_at (get_or mask j 0) i)
  common_bits b each j i j_lt i_lt =
      let k = 64 * j + i in
      let both = bit_at_and (get_or known j 0) (get_or mask j 0) i in
      let known_is = place_bit known j i i_lt in
      let mask_is = place_bit mask j i i_lt in
      elim (cases_lt k at) [
        | inl below ↦ let off = is.before k (omega arith) below in omega arith
        | inr above ↦ elim (cases_lt k (at + len)) [
          | inl inside ↦ let bit = each k above inside in omega arith
          | inr over ↦ let off = is.behind k (omega arith) over in omega arith
        ]
      ]

  pub zeros_of : IsBlank at len (octets_of values known) →
      (j : ℕ) → j < 4 → common j ≡ 0
  zeros_of blank j lt =
      let less = and_le_r (get_or known j 0) (get_or mask j 0) in
      let word = is.small j lt in
      same_from_bits_below 64 (common j) 0 (omega arith) (omega arith)
      (λ i i_lt. let here = common_bits 0 (blank_bits values known at len fits blank) j i lt i_lt in let zero_bit = bit_at-zero i in omega arith)

  pub masks_of : IsCovered at len (octets_of values known) → (j : ℕ) → j < 4 → common j ≡ get_or mask j 0
  masks_of covered j lt =
      let less = and_le_r (get_or known j 0) (get_or mask j 0) in
      let word = is.small j lt in
      same_from_bits_below 64 (common j) (get_or mask j 0) (omega arith) word
      (λ i i_lt. let here = common_bits 1 (covered_bits values known at len fits covered) j i lt i_lt in let bit = bit_at-lt (get_or mask j 0) i in omega arith)

-- four equations, as they are tested
module _ (a b c d p q r s : ℕ) where
  abbrev pub tested : Bool
  tested = (a == p) && ((b == q) && ((c == r) && ((d == s) && true)))

  first_tested : tested ≡ true → a ≡ p
  first_tested t = grind (arith, nat_tests)

  second_tested : tested ≡ true → b ≡ q
  second_tested t = grind (arith, nat_tests)

  third_tested : tested ≡ true → c ≡ r
  third_tested t = grind (arith, nat_tests)

  fourth_tested : tested ≡ true → d ≡ s
  fourth_tested t = grind (arith, nat_tests)

  all_tested : a ≡ p → b ≡ q → c ≡ r → d ≡ s → tested ≡ true
  all_tested e f g h = rw (eq-eqb a p e, eq-eqb b q f, eq-eqb c r g, eq-eqb d s h) refl

module _ (values known mask : List ℕ) (at len : ℕ) (fits : at + len ≤ 256) (is : IsMask at (at + len) mask) where
  abbrev both : ℕ → ℕ
  both = common values known mask at len fits is

  pub blank_told : (r : Bool) → r ≡ tested (both 0) (both 1) (both 2) (both 3) 0 0 0 0 →
      IsTrue r ↔ IsBlank at len (octets_of values known)
  blank_told r told = (
    (λ t.
        let all = sym told ∙ t in
        blank_of values known mask at len fits is (four (λ j. both j ≡ 0)
        (first_tested (both 0) (both 1) (both 2) (both 3) 0 0 0 0 all) (second_tested (both 0) (both 1) (both 2) (both 3) 0 0 0 0 all)
        (third_tested (both 0) (both 1) (both 2) (both 3) 0 0 0 0 all) (fourth_tested (both 0) (both 1) (both 2) (both 3) 0 0 0 0 all))),
    (λ blank.
        let zero_word = zeros_of values known mask at len fits is blank in
        told ∙ all_tested (both 0) (both 1) (both 2) (both 3) 0 0 0 0 (zero_word 0 (omega arith)) (zero_word 1 (omega arith))
        (zero_word 2 (omega arith)) (zero_word 3 (omega arith))),
  )

  abbrev wanted : ℕ → ℕ
  wanted j = get_or mask j 0

  pub covered_told : (r : Bool) →
      r ≡ tested (both 0) (both 1) (both 2) (both 3) (wanted 0) (wanted 1) (wanted 2) (wanted 3) →
      IsTrue r ↔ IsCovered at len (octets_of values known)
  covered_told r told = (
    (λ t.
        let all = sym told ∙ t in
        covered_of values known mask at len fits is (four (λ j. both j ≡ wanted j)
        (first_tested (both 0) (both 1) (both 2) (both 3) (wanted 0) (wanted 1) (wanted 2) (wanted 3) all)
        (second_tested (both 0) (both 1) (both 2) (both 3) (wanted 0) (wanted 1) (wanted 2) (wanted 3) all)
        (third_tested (both 0) (both 1) (both 2) (both 3) (wanted 0) (wanted 1) (wanted 2) (wanted 3) all)
        (fourth_tested (both 0) (both 1) (both 2) (both 3) (wanted 0) (wanted 1) (wanted 2) (wanted 3) all))),
    (λ covered.
        let word = masks_of values known mask at len fits is covered in
        told ∙ all_tested (both 0) (both 1) (both 2) (both 3) (wanted 0) (wanted 1) (wanted 2) (wanted 3)
        (word 0 (omega arith)) (word 1 (omega arith)) (word 2 (omega arith)) (word 3 (omega arith))),
  )

-- Runs of octets: compared, copied out, and written.

-- the values of a run at whose offsets octets are known
module _ (values known : List ℕ) (at len : ℕ) (fits : at + len ≤ 256) (long : length values ≡ 256)
    (covered : IsCovered at len (octets_of values known)) where
  part_read : (i : ℕ) → i < len → get_or (between at (at + len) values) i 0 ≡ get_or values (at + i) 0
  part_read i lt = get_or-between values at (at + len) i 0 (omega arith)

  pub copied : (run : List ℕ) → length run ≡ len → run ≡ between at (at + len) values → StandsFrom at run (octets_of values known)
  copied run size same i lt =
      covered_read values known at len fits covered i (omega arith)
      ∙ ap (λ (y : ℕ). Some y) (sym (part_read i (omega arith)) ∙ ap (λ l. get_or l i 0) (sym same))

  stood : (run : List ℕ) → length run ≡ len → StandsFrom at run (octets_of values known) → between at (at + len) values ≡ run
  stood run size stands =
      let part = between at (at + len) values in
      let part_size : length part ≡ len = omega (arith, length-between values at (at + len) (omega arith)) in
      same_lists part run (part_size ∙ sym size) (λ k d lt.
      let inside : k < len = omega arith in
      let both : Some (get_or values (at + k) 0) ≡ Some (get_or run k 0) = sym (covered_read values known at len fits covered k inside)
      ∙ stands k (omega arith) in
      let same : get_or values (at + k) 0 ≡ get_or run k 0 = cc in
      get_or_default part k d 0 (omega arith) ∙ (part_read k inside ∙ (same ∙ get_or_default run k 0 d (omega arith))))

  pub compared : (run : List ℕ) (r : Bool) → length run ≡ len → Decides r (between at (at + len) values ≡ run) →
      IsTrue r ↔ StandsFrom at run (octets_of values known)
  compared run r size told = ((λ t. copied run size (sym (told.0 t))), (λ stands. told.1 (stood run size stands)))

-- an element of a list in which a run was overwritten
module _ {X : Type 0} (a k : ℕ) (xs ys : List X) (size : length ys ≡ k) (fits : a + k ≤ length xs) (d : X) where
  pub put_before : (i : ℕ) → i < a → get_or (put_mid a k xs ys) i d ≡ get_or xs i d
  put_before i lt =
      let front = length-take-le a xs (omega arith) in
      get_or_append_left (take a xs) (ys ++ drop k (drop a xs)) d i (omega arith) ∙ get_or-take a xs i d lt

  pub put_inside : (i : ℕ) → a ≤ i → i < a + k → get_or (put_mid a k xs ys) i d ≡ get_or ys (i - a) d
  put_inside i le lt =
      get_or-append_right (take a xs) (ys ++ drop k (drop a xs)) a i d (length-take-le a xs (omega arith)) le
      ∙ get_or_append_left ys (drop k (drop a xs)) d (i - a) (omega arith)

  pub put_behind : (i : ℕ) → a + k ≤ i → get_or (put_mid a k xs ys) i d ≡ get_or xs i d
  put_behind i le =
      let place : a + (k + (i - a - k)) ≡ i = omega arith in
      get_or-append_right (take a xs) (ys ++ drop k (drop a xs)) a i d (length-take-le a xs (omega arith)) (omega arith)
      ∙ (get_or-append_right ys (drop k (drop a xs)) k (i - a) d size (omega arith)
      ∙ (get_or-drop k (drop a xs) (i - a - k) d ∙ (get_or-drop a xs (k + (i - a - k)) d
      ∙ ap (λ j. get_or xs j d) place)))

-- the octets with a run, as such a list
pub run_is : (at : ℕ) (run : List ℕ) (octets : List (Option ℕ)) →
    with_run at run octets ≡ put_mid at (length run) octets (map (λ octet. Some octet) run)
run_is at run octets =
    append_assoc (take at octets) (map (λ octet. Some octet) run) (drop (at + length run) octets)
    ∙ ap (λ l. take at octets ++ (map (λ octet. Some octet) run ++ l)) (sym (drop-drop (length run) at octets))

pub length-put : {X : Type 0} (a k : ℕ) (xs ys : List X) → length ys ≡ k → a + k ≤ length xs → length (put_mid a k xs ys) ≡ length xs
length-put a k xs ys size fits = omega (
  arith,
  length-append (take a xs) (ys ++ drop k (drop a xs)),
  length-append ys (drop k (drop a xs)),
  length-take-le a xs (omega arith),
  length-drop k (drop a xs),
  length-drop a xs,
)

octet_same : (values other known words : List ℕ) (i : ℕ) → bit_of known i ≡ bit_of words i → get_or values i 0 ≡ get_or other i 0 →
    octet_at values known i ≡ octet_at other words i
octet_same values other known words i bit value = ap₂ (λ b v. if b == 1 then Some v else None) bit value

-- a run is written, and its bits are set
module _ (values known mask run : List ℕ) (at len : ℕ) (size : length run ≡ len) (fits : at + len ≤ 256)
    (is : IsMask at (at + len) mask) (long : length values ≡ 256) where
  abbrev pub words : List ℕ
  words = bit_or (get_or known 0 0) (get_or mask 0 0) ∷ bit_or (get_or known 1 0) (get_or mask 1 0)
      ∷ bit_or (get_or known 2 0) (get_or mask 2 0) ∷ bit_or (get_or known 3 0) (get_or mask 3 0) ∷ []

  abbrev put : List ℕ
  put = put_mid at len values run

  abbrev octets : List (Option ℕ)
  octets = octets_of values known

  abbrev some : List (Option ℕ)
  some = map (λ octet. Some octet) run

  joined : (i : ℕ) → i < 256 → bit_of words i ≡ max (bit_of known i) (bit_of mask i)
  joined i lt =
      let word : get_or words (i / 64) 0 ≡ bit_or (get_or known (i / 64) 0) (get_or mask (i / 64) 0) =
      four (λ j. get_or words j 0 ≡ bit_or (get_or known j 0) (get_or mask j 0)) refl refl refl refl (i / 64) (omega arith) in
      ap (λ w. bit_at w (i % 64)) word ∙ bit_at_or (get_or known (i / 64) 0) (get_or mask (i / 64) 0) (i % 64)

  some_size : length some ≡ len
  some_size = length-map run (λ octet. Some octet) ∙ size

  place_read : (i : ℕ) → i < 256 → get_or (put_mid at len octets some) i None ≡ octet_at put words i
  place_read i lt =
      let whole = length-octets_of values known in
      let bits = joined i lt in
      let small = bit_at-lt (get_or known (i / 64) 0) (i % 64) in
      elim (cases_lt i at) [
        | inl before ↦
            let off = is.before i lt before in
            let bit : bit_of known i ≡ bit_of words i = omega arith in
            put_before at len octets some some_size (omega arith) None i before ∙ (octet_read values known i lt
            ∙ octet_same values put known words i bit (sym (put_before at len values run size (omega arith) 0 i before)))
        | inr above ↦ elim (cases_lt i (at + len)) [
          | inl inside ↦
              let on = is.inside i lt above inside in
              let bit : bit_of words i ≡ 1 = omega arith in
              put_inside at len octets some some_size (omega arith) None i above inside
              ∙ (get_or-map (λ octet. Some octet) run (i - at) 0 None (omega arith)
              ∙ (ap (λ (v : ℕ). Some v) (sym (put_inside at len values run size (omega arith) 0 i above inside))
              ∙ sym (octet_on put words i bit)))
          | inr behind ↦
              let off = is.behind i lt behind in
              let bit : bit_of known i ≡ bit_of words i = omega arith in
              put_behind at len octets some some_size (omega arith) None i behind ∙ (octet_read values known i lt
              ∙ octet_same values put known words i bit (sym (put_behind at len values run size (omega arith) 0 i behind)))
        ]
      ]

  pub run_put : octets_of put words ≡ put_mid at len octets some
  run_put =
      let whole = length-octets_of values known in
      octets_by put words (put_mid at len octets some) (length-put at len octets some some_size (omega arith) ∙ whole) place_read

pub run_set : (values known mask run : List ℕ) (at : ℕ) (fits : at + length run ≤ 256) (is : IsMask at (at + length run) mask)
    (long : length values ≡ 256) →
    octets_of (put_mid at (length run) values run) (words values known mask run at (length run) refl fits is long)
    ≡ with_run at run (octets_of values known)
run_set values known mask run at fits is long = run_put values known mask run at (length run) refl fits is long ∙ sym (run_is at run (octets_of values known))
