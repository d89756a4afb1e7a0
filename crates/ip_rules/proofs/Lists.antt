-- Lists none of whose elements passes a test, and sizes of octets and of their parts.
use Rattle.std.proofs.Common.{ℕ, zero, suc, ◌+◌, ◌-◌, ◌^◌, ◌<◌, ◌≤◌, List, [], ◌∷◌, length, take, drop, arith, ◌≡◌, Bool, true, false, cond, Some, None, refl, find, filter, length-take, length-drop}
use Rattle.std.specs.List.{AllByRecursion}
use Rattle.wire_base.specs.Numbers.{u16_at, u32_at}
use Rattle.ip_rules.specs.Datagrams.{AreOctets}

-- Sizes of numbers in octets, and of parts of lists of octets.

pub two_below : (xs : List ℕ) (at : ℕ) → AreOctets xs → u16_at xs at < 2 ^ 16
two_below xs at each = let a = each at in let b = each (at + 1) in omega (arith, a, b)

pub four_below : (xs : List ℕ) (at : ℕ) → AreOctets xs → u32_at xs at < 2 ^ 32
four_below xs at each = let a = two_below xs at each in let b = two_below xs (at + 2) each in omega (arith, a, b)

pub taken : (n : ℕ) (xs : List ℕ) → AreOctets xs → AreOctets (take n xs)
taken zero xs each at = omega arith
taken (suc n) [] each at = omega arith
taken (suc n) (x ∷ xs) each zero = each 0
taken (suc n) (x ∷ xs) each (suc at) = taken n xs (λ i. each (suc i)) at

pub dropped : (n : ℕ) (xs : List ℕ) → AreOctets xs → AreOctets (drop n xs)
dropped zero xs each at = each at
dropped (suc n) [] each at = omega arith
dropped (suc n) (x ∷ xs) each at = dropped n xs (λ i. each (suc i)) at

-- the length of the octets after a header, up to the total length
pub behind_long : (header total : ℕ) (xs : List ℕ) → length (drop header (take total xs)) ≤ total - header
behind_long header total xs =
    let a = length-take total xs in
    let b = length-drop header (take total xs) in
    omega (arith, a, b)

-- If none of a list passes a test, each fails it.

module _ {X : Type 0} where
  step_found : (p : X → Bool) (x : X) (xs : List X) (b : Bool) → p x ≡ b → (find p xs ≡ None → AllByRecursion (λ y. p y ≡ false) xs)
      → cond b (Some x) (find p xs) ≡ None → (p x ≡ false) × AllByRecursion (λ y. p y ≡ false) xs
  step_found p x xs true here goes e = cc
  step_found p x xs false here goes e = (here, goes e)

  pub none_found : (p : X → Bool) (xs : List X) → find p xs ≡ None → AllByRecursion (λ x. p x ≡ false) xs
  none_found p [] e = tt
  none_found p (x ∷ xs) e = step_found p x xs (p x) refl (none_found p xs) e

  step_named : (p : X → Bool) (x : X) (xs : List X) (b : Bool) → p x ≡ b → (filter p xs ≡ [] → AllByRecursion (λ y. p y ≡ false) xs)
      → cond b (x ∷ filter p xs) (filter p xs) ≡ [] → (p x ≡ false) × AllByRecursion (λ y. p y ≡ false) xs
  step_named p x xs true here goes e = cc
  step_named p x xs false here goes e = (here, goes e)

  pub none_named : (p : X → Bool) (xs : List X) → filter p xs ≡ [] → AllByRecursion (λ x. p x ≡ false) xs
  none_named p [] e = tt
  none_named p (x ∷ xs) e = step_named p x xs (p x) refl (none_named p xs) e
