-- Octets that are written at an offset, what a search for a separator finds in them, the sums of
-- their words, and a checksum that is written into its field.
use Rattle.std.proofs.Common.{◌≡◌, ℕ, ◌+◌, ◌-◌, ◌≤◌, List, [], ◌++◌, length, take, drop, refl, ap, ◌∙◌, arith, Bool, true, false, cond, Option, Some, None, ◌<◌, ◌*◌, ◌/◌, ◌%◌, ◌^◌, zero-le, zero, suc, ◌∷◌, slice_index}
use Rattle.std.proofs.lemmas.List.{append-nil, append_assoc, take_rest, drop-drop, drop_all}
use Rattle.std.proofs.lemmas.Bool.Decides.{nat_tests}
use Rattle.byteorder.specs.Endian.{little_from}
use Rattle.wire_base.specs.Numbers.{u16_at, with_u16}
use Rattle.wire_base.specs.Checksums.{word_sum, is_right, checksum_for}
use Rattle.wire_base.specs.working.SumCounting.{CountsAs, eight_at, lowest_first_at}

-- A write of octets at an offset.

-- octets written at the front of those from the offset `at` on
pub write_at : (octets written front : List ℕ) (at n : ℕ) → at + n ≤ length octets → written ≡ front ++ drop n (take (length octets - at) (drop at octets)) → take at octets ++ (written ++ drop (length octets - at) (drop at octets)) ≡ take at octets ++ front ++ drop (at + n) octets
write_at octets written front at n inside e =
    let past : drop (length octets - at) (drop at octets) ≡ [] = drop-drop (length octets - at) at octets ∙ drop_all _ octets (omega arith) in
    let behind : drop n (take (length octets - at) (drop at octets)) ≡ drop (at + n) octets = ap (drop n) (take_rest octets at) ∙ drop-drop n at octets in
    let whole : written ≡ front ++ drop (at + n) octets = e ∙ ap (λ xs. front ++ xs) behind in
    rw (past, append-nil, whole, append_assoc) refl

-- The result of a search for the first separator.

pub found : (b : Bool) (i n : ℕ) (o : Option ℕ) → o ≡ cond b (Some n) None → o ≡ Some i → i ≡ n
found true i n o e f = cc
found false i n o e f = cc

pub not_found : (b : Bool) (n : ℕ) (o : Option ℕ) → o ≡ cond b (Some n) None → o ≡ None → b ≡ false
not_found true n o e f = cc
not_found false n o e f = refl

-- a number is read from its two octets, and from its four
pub two-octets : (n : ℕ) → n < 65536 → 256 * (n / 256 % 256) + n % 256 ≡ n
two-octets n small = omega arith

pub four-octets : (n : ℕ) → n < 2 ^ 32 → 65536 * (256 * (n / 16777216 % 256) + n / 65536 % 256) + (256 * (n / 256 % 256) + n % 256) ≡ n
four-octets n small = omega arith

-- Sums of words over parts of the octets.

-- the octets from the offset `at` on begin with a word; past the end it is 0
pub word_sum-drop : (octets : List ℕ) (at : ℕ) → word_sum (drop at octets) ≡ u16_at octets at + word_sum (drop (at + 2) octets)
word_sum-drop [] at = rw (drop_all {X = ℕ} at [] zero-le, drop_all {X = ℕ} (at + 2) [] zero-le) refl
word_sum-drop (x ∷ []) zero = omega arith
word_sum-drop (x ∷ y ∷ octets) zero = omega arith
word_sum-drop (x ∷ octets) (suc at) =
    let one : suc at + 1 ≡ suc (at + 1) = omega arith in
    let two : suc at + 2 ≡ suc (at + 2) = omega arith in
    rw (one, two) (word_sum-drop octets at)

-- Totals that count as the same sum.

-- transitivity
pub CountsAs-trans : (a b c : ℕ) → CountsAs a b → CountsAs b c → CountsAs a c
CountsAs-trans a b c p q = record { up = p.up + q.up; down = p.down + q.down; same = omega (arith, p.same, q.same); zero = λ e. q.zero (p.zero e); back = λ e. p.back (q.back e) }

-- reflexivity
CountsAs-same : (a : ℕ) → CountsAs a a
CountsAs-same a = record { up = 0; down = 0; same = refl; zero = λ e. e; back = λ e. e }

-- carries: 2^64 times a number counts as the number, and so does 2^32 times a number
pub CountsAs-carries : (high low carried rest total : ℕ) → total ≡ 18446744073709551616 * high + low → high + low ≡ 4294967296 * carried + rest → CountsAs (256 * (carried + rest)) (256 * total)
CountsAs-carries high low carried rest total e f = record { up = 256 * (65537 * carried + 281479271743489 * high); down = 0; same = omega arith; zero = λ z. omega arith; back = λ z. omega arith }

-- 256 times a 32-bit number, least significant octet first, counts as its two words
CountsAs-swapped : (a b c d sum rest : ℕ) → CountsAs (256 * (sum + (a + 256 * b + 65536 * c + 16777216 * d)) + rest) (256 * sum + (256 * a + b + (256 * c + d + rest)))
CountsAs-swapped a b c d sum rest = record { up = 0; down = b + 256 * c + 65537 * d; same = omega arith; zero = λ z. omega arith; back = λ z. omega arith }

-- four octets and those after them count as the octets from the first of them on
CountsAs-four : (octets : List ℕ) (sum total at next : ℕ) → next ≡ at + 4 → CountsAs (256 * sum + word_sum (drop at octets)) total → CountsAs (256 * (sum + lowest_first_at octets at) + word_sum (drop next octets)) total
CountsAs-four octets sum total at next e before =
    let first = word_sum-drop octets at in
    let second = word_sum-drop octets (at + 2) in
    let third : at + 2 + 1 ≡ at + 3 = omega arith in
    let four : next ≡ at + 2 + 2 = omega arith in
    let step : CountsAs (256 * (sum + lowest_first_at octets at) + word_sum (drop next octets)) (256 * sum + word_sum (drop at octets)) = rw (four, first, second, third) (CountsAs-swapped (slice_index octets at) (slice_index octets (at + 1)) (slice_index octets (at + 2)) (slice_index octets (at + 3)) sum (word_sum (drop (at + 2 + 2) octets))) in
    CountsAs-trans _ _ _ step before

-- the high half of a 64-bit number counts as a 32-bit number
CountsAs-halves : (low high sum rest : ℕ) → CountsAs (256 * (sum + (low + 4294967296 * high)) + rest) (256 * (sum + low + high) + rest)
CountsAs-halves low high sum rest = record { up = 0; down = 16777472 * high; same = omega arith; zero = λ z. omega arith; back = λ z. omega arith }

-- eight octets and those after them count as the octets from the first of them on
pub CountsAs-eight : (octets : List ℕ) (sum total at next : ℕ) → next ≡ at + 8 → CountsAs (256 * sum + word_sum (drop at octets)) total → CountsAs (256 * (sum + eight_at octets at) + word_sum (drop next octets)) total
CountsAs-eight octets sum total at next e before =
    let first = CountsAs-four octets sum total at (at + 4) refl before in
    let second = CountsAs-four octets (sum + lowest_first_at octets at) total (at + 4) next (omega arith) first in
    CountsAs-trans _ _ _ (CountsAs-halves (lowest_first_at octets at) (lowest_first_at octets (at + 4)) sum (word_sum (drop next octets))) second

-- 32 octets and those after them count as the octets from the first of them on
pub CountsAs-half : (octets : List ℕ) (sum at : ℕ) → CountsAs (256 * (sum + eight_at octets at + eight_at octets (at + 8) + eight_at octets (at + 16) + eight_at octets (at + 24)) + word_sum (drop (at + 32) octets)) (256 * sum + word_sum (drop at octets))
CountsAs-half octets sum at =
    let total = 256 * sum + word_sum (drop at octets) in
    let first = CountsAs-eight octets sum total at (at + 8) refl (CountsAs-same total) in
    let second = CountsAs-eight octets _ total (at + 8) (at + 16) (omega arith) first in
    let third = CountsAs-eight octets _ total (at + 16) (at + 24) (omega arith) second in
    CountsAs-eight octets _ total (at + 24) (at + 32) (omega arith) third

-- no octets are left
pub CountsAs-none : (octets : List ℕ) (sum total at : ℕ) → length octets ≤ at → CountsAs (256 * sum + word_sum (drop at octets)) total → CountsAs (256 * sum) total
CountsAs-none octets sum total at past before =
    let none : word_sum (drop at octets) ≡ 0 = ap word_sum (drop_all at octets past) in
    let same : 256 * sum ≡ 256 * sum + word_sum (drop at octets) = omega (arith, none) in
    rw same before

-- no octets are summed yet
pub CountsAs-all : (octets : List ℕ) → CountsAs (256 * 0 + word_sum (drop 0 octets)) (word_sum octets)
CountsAs-all octets = record { up = 0; down = 0; same = omega arith; zero = λ z. omega arith; back = λ z. omega arith }

-- five numbers of four octets each
pub CountsAs-twenty : (octets : List ℕ) → length octets ≡ 20 → CountsAs (256 * (lowest_first_at octets 0 + lowest_first_at octets 4 + (lowest_first_at octets 8 + lowest_first_at octets 12) + lowest_first_at octets 16)) (word_sum octets)
CountsAs-twenty octets long =
    let total = word_sum octets in
    let first = CountsAs-four octets 0 total 0 4 refl (CountsAs-all octets) in
    let second = CountsAs-four octets _ total 4 8 refl first in
    let third = CountsAs-four octets _ total 8 12 refl second in
    let fourth = CountsAs-four octets _ total 12 16 refl third in
    let fifth = CountsAs-four octets _ total 16 20 refl fourth in
    let order : lowest_first_at octets 0 + lowest_first_at octets 4 + (lowest_first_at octets 8 + lowest_first_at octets 12) + lowest_first_at octets 16
    ≡ 0 + lowest_first_at octets 0 + lowest_first_at octets 4 + lowest_first_at octets 8 + lowest_first_at octets 12 + lowest_first_at octets 16 = omega arith in
    rw order (CountsAs-none octets _ total 20 (omega (arith, long)) fifth)

-- at most seven octets are one number
pub few_octets : (octets : List ℕ) → length octets < 8 → little_from 0 (length octets) octets ≡ eight_at octets 0
few_octets [] short = refl
few_octets (a ∷ []) short = omega arith
few_octets (a ∷ b ∷ []) short = omega arith
few_octets (a ∷ b ∷ c ∷ []) short = omega arith
few_octets (a ∷ b ∷ c ∷ d ∷ []) short = omega arith
few_octets (a ∷ b ∷ c ∷ d ∷ e ∷ []) short = omega arith
few_octets (a ∷ b ∷ c ∷ d ∷ e ∷ f ∷ []) short = omega arith
few_octets (a ∷ b ∷ c ∷ d ∷ e ∷ f ∷ g ∷ []) short = omega arith
few_octets (a ∷ b ∷ c ∷ d ∷ e ∷ f ∷ g ∷ h ∷ octets) short = absurd (omega (arith, short))

-- at most eight octets from the offset `at` on are one number
pub CountsAs-last : (octets : List ℕ) (sum total at : ℕ) → length octets ≤ at + 8 → CountsAs (256 * sum + word_sum (drop at octets)) total → CountsAs (256 * (sum + eight_at octets at)) total
CountsAs-last octets sum total at past before = CountsAs-none octets _ total (at + 8) past (CountsAs-eight octets sum total at (at + 8) refl before)

-- Checksums written into their fields.

-- a number below 2^16 at an even offset is one of the words
pub word_sum-with_u16 : (n : ℕ) (octets : List ℕ) (value : ℕ) → 2 * n + 2 ≤ length octets → value < 65536 → word_sum (with_u16 octets (2 * n) value) ≡ word_sum (with_u16 octets (2 * n) 0) + value
word_sum-with_u16 zero octets value inside small = omega arith
word_sum-with_u16 (suc n) [] value inside small = absurd (omega arith)
word_sum-with_u16 (suc n) (x ∷ []) value inside small = absurd (omega arith)
word_sum-with_u16 (suc n) (x ∷ y ∷ octets) value inside small =
    let e : 2 * suc n ≡ suc (suc (2 * n)) = omega arith in
    let past : suc (suc (2 * n)) + 2 ≡ suc (suc (2 * n + 2)) = omega arith in
    rw (e, past) (omega (arith, word_sum-with_u16 n octets value (omega arith) small))

-- a checksum has 16 bits
pub checksum_for-below : (total : ℕ) → checksum_for total < 65536
checksum_for-below total = grind (arith, nat_tests)

-- a total with its checksum is right
pub is_right-checked : (total : ℕ) → is_right (total + checksum_for total) ≡ true
is_right-checked total = grind (arith, nat_tests)
