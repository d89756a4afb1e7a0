-- The decimal digits of a number: how many, and that they are read back; numbers that rise along a
-- list.
use Rattle.std.proofs.Common.{◌≡◌, ℕ, zero, suc, ◌+◌, ◌*◌, ◌/◌, ◌%◌, ◌^◌, ◌<◌, ◌≤◌, [], ◌∷◌, length, decimal, refl, arith, length-append, ◌-◌, nat_lt, nat_le, true, List, ◌++◌, Some, None, ap, ◌∙◌, if◌then◌else◌, Bool, ◌&&◌, slice_index, add-one}
use Rattle.std.proofs.lemmas.Fmt.{decimal_digit, decimal_step, length-decimal-le, decimal_nonempty, decimal_by_steps}
use Rattle.std.proofs.Math.Nat.{pow-succ'}
use Rattle.std.proofs.lemmas.Bool.Decides.{nat_tests}
use Rattle.std.proofs.lemmas.List.Folds.{list_all-append}
use Rattle.std.proofs.lemmas.List.Sums.{fold-append}
use Rattle.std.specs.List.{list_all}
use Rattle.std.specs.List.Sorted.{IsStrictlyIncreasing}
use Rattle.wire_base.specs.Prefixes.{is_digit, is_number, number_of}

-- How many decimal digits a number has.

power : (k : ℕ) → 1 ≤ 10 ^ k
power zero = omega arith
power (suc k) = omega (arith, pow-succ' 10 k, power k)

-- a number of at least 10 ^ k has more than k digits
more : (k n : ℕ) → 10 ^ k ≤ n → n < 2 ^ 64 → k < length (decimal n)
more zero n h s = decimal_nonempty n s
more (suc k) n h s =
    let tens = pow-succ' 10 k in
    let front = more k (n / 10) (omega (arith, h, tens)) (omega (arith, s)) in
    rw (decimal_step n (omega (arith, h, tens, power k)) s) (omega (arith, front, length-append (decimal (n / 10)) ((48 + n % 10) ∷ [])))

pub count_is : (k n : ℕ) → 10 ^ k ≤ n → n < 10 * 10 ^ k → n < 2 ^ 64 → length (decimal n) ≡ k + 1
count_is k n lo hi s =
    let less = more k n lo s in
    let tens = pow-succ' 10 k in
    let most = length-decimal-le (suc k) n (omega arith) (omega (arith, tens, hi)) s in
    omega (arith, less, most)

pub digit : (n : ℕ) → n < 10 → decimal n ≡ (48 + n) ∷ []
digit n h = decimal_digit n h

pub one_digit : (n : ℕ) → n < 10 → length (decimal n) ≡ 1
one_digit n h = rw (decimal_digit n h) refl

-- the digits of numbers of 8, 32 and 64 bits
pub few : (n : ℕ) → n < 2 ^ 8 → length (decimal n) ≤ 3
few n h = length-decimal-le 3 n (omega arith) (omega arith) (omega arith)

pub some : (n : ℕ) → n < 2 ^ 32 → length (decimal n) ≤ 10
some n h = length-decimal-le 10 n (omega arith) (omega arith) (omega arith)

pub many : (n : ℕ) → n < 2 ^ 64 → length (decimal n) ≤ 20
many n h = length-decimal-le 20 n (omega arith) (omega arith) h

pub ruleset digit_counts = (count_is, digit, one_digit, few, some, many)

-- A decimal number is read as the number that was written.

-- these are digits of the number
abbrev Writes : ℕ → List ℕ → Type 0
Writes n digits = (list_all is_digit digits ≡ true) × (number_of digits ≡ n)

is_one : (n : ℕ) → n < 10 → is_digit (48 + n) ≡ true
is_one n h = grind (arith, nat_tests, h)

more_digits : (n : ℕ) (digits : List ℕ) → Writes (n / 10) digits → Writes n (digits ++ (48 + n % 10) ∷ [])
more_digits n digits front =
    let last : List ℕ = (48 + n % 10) ∷ [] in
    (rw (list_all-append is_digit digits last, front.0, is_one (n % 10) (omega arith)) refl, rw (fold-append (λ n c. 10 * n + (c - 48)) 0 digits last, front.1) (omega arith))

pub read_decimal : (n : ℕ) (digits : List ℕ) → n < 2 ^ 64 → digits ≡ decimal n → (if is_number 20 digits then Some (number_of digits) else None) ≡ Some n
read_decimal n digits h e =
    let writes = decimal_by_steps Writes (λ m l. (rw (is_one m l) refl, omega arith)) (λ m ds l front. more_digits m ds front) n h in
    let some : nat_lt 0 (length (decimal n)) ≡ true = grind (arith, nat_tests, decimal_nonempty n h) in
    let few : nat_le (length (decimal n)) 20 ≡ true = grind (arith, nat_tests, length-decimal-le 20 n (omega arith) (omega arith) (omega arith)) in
    ap (λ ds. if is_number 20 ds then Some (number_of ds) else None) e ∙ rw (some, few, writes.0, writes.1) refl

-- Numbers that rise along a list, shown by a test that computes.

-- each number is above the one before it, and the first is above `low`
abbrev pub rises_from : ℕ → List ℕ → Bool
rises_from low [] = true
rises_from low (x ∷ xs) = nat_lt low x && rises_from x xs

rises-at : (low : ℕ) (xs : List ℕ) → rises_from low xs ≡ true → (k : ℕ) → k < length xs → slice_index (low ∷ xs) k < slice_index xs k
rises-at low [] test k within = absurd (omega arith)
rises-at low (x ∷ xs) test zero within = grind (arith, nat_tests)
rises-at low (x ∷ xs) test (suc k) within = rises-at x xs (grind (arith, nat_tests)) k (omega arith)

pub rising : (xs : List ℕ) → rises_from 0 xs ≡ true → IsStrictlyIncreasing xs
rising xs test k within = rw add-one (rises-at 0 xs test (suc k) (omega arith))
