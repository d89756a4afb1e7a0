-- Folds keep a number modulo the prime, and the value of a polynomial.
use Rattle.std.proofs.Common.{◌≡◌, ℕ, ◌+◌, ◌-◌, ◌*◌, ◌%◌, ◌^◌, ◌<◌, ◌≤◌, sym, ap, ◌∙◌, arith}
use Rattle.std.proofs.lemmas.Nat.{mul-le, mul-mod_first}
use Rattle.linked_table.specs.Hashes.{prime, point_of, hash_of_words}
use Rattle.linked_table.specs.working.FoldedNumbers.{folded}

-- a fold is the same modulo the prime
fold_same : (number : ℕ) → folded number % prime ≡ number % prime
fold_same number = omega arith

add_same : (a b c d : ℕ) → a % prime ≡ c % prime → b % prime ≡ d % prime → (a + b) % prime ≡ (c + d) % prime
add_same a b c d first second = omega arith

mul_same : (a b c : ℕ) → a % prime ≡ b % prime → a * c % prime ≡ b * c % prime
mul_same a b c same = sym (mul-mod_first a c prime) ∙ (ap (λ k. k * c % prime) same ∙ mul-mod_first b c prime)

value_same : (point first second : ℕ) → folded (folded (folded first * point + folded second) * point) % prime ≡ (first * point + second) * point % prime
value_same point first second =
    let inner = folded (folded first * point + folded second) in
    let terms = add_same (folded first * point) (folded second) (first * point) second (mul_same (folded first) first point (fold_same first)) (fold_same second) in
    let inner_same : inner % prime ≡ (first * point + second) % prime = fold_same (folded first * point + folded second) ∙ terms in
    fold_same (inner * point) ∙ mul_same inner (first * point + second) point inner_same

value_below : (point first second : ℕ) → point ≤ 2 ^ 60 → first < 2 ^ 64 → second < 2 ^ 64 → folded (folded (folded first * point + folded second) * point) < 2 * prime
value_below point first second point_small first_small second_small =
    let inner = folded (folded first * point + folded second) in
    let inner_product : folded first * point ≤ (2 ^ 61 + 7) * 2 ^ 60 = mul-le (folded first) point (2 ^ 61 + 7) (2 ^ 60) (omega arith) (omega arith) in
    let outer_product : inner * point ≤ (2 ^ 61 + 2 ^ 60 + 7) * 2 ^ 60 = mul-le inner point (2 ^ 61 + 2 ^ 60 + 7) (2 ^ 60) (omega arith) (omega arith) in
    omega arith

module _ (seed first second : ℕ) (seed_small : seed < 2 ^ 64) (first_small : first < 2 ^ 64) (second_small : second < 2 ^ 64) where
  -- what remains of a number below twice the prime
  pub hash_low : (outer : ℕ) → outer ≡ folded (folded (folded first * point_of seed + folded second) * point_of seed) → outer < prime → outer ≡ hash_of_words seed first second
  unfolding hash_of_words
  hash_low outer is low = omega (arith, value_same (point_of seed) first second)

  pub hash_high : (outer : ℕ) → outer ≡ folded (folded (folded first * point_of seed + folded second) * point_of seed) → prime ≤ outer → outer - prime ≡ hash_of_words seed first second
  unfolding hash_of_words
  hash_high outer is high =
      omega (arith, value_same (point_of seed) first second, value_below (point_of seed) first second (omega arith) first_small second_small)
