-- The hash of two words under a seed (this project's profile): the words are the coefficients of a
-- polynomial without a constant term, modulo a prime, at a point that the seed chooses. Two
-- different pairs of words below the prime have the same hash at no more than one of the points,
-- none of which is 0. Divided by the point, the difference of the polynomials has degree one at
-- most, so one root at most. Nothing here states it.
use Rattle.std.specs.Prelude.{ℕ, ◌+◌, ◌-◌, ◌*◌, ◌%◌, ◌^◌}

-- The prime 2^61 - 1.
abbrev pub prime : ℕ
prime = 2 ^ 61 - 1

-- The point of a seed, from 1 to 2^60: at the point 0 every hash would be 0. The number added is
-- 2^64 divided by the golden ratio, so that the points of small seeds are large.
abbrev pub point_of : (seed : ℕ) → ℕ
point_of seed = (seed + 0x9e3779b97f4a7c15) % 2 ^ 60 + 1

-- first * x^2 + second * x, modulo the prime, at the point x of the seed.
unfoldable pub hash_of_words : (seed first second : ℕ) → ℕ
hash_of_words seed first second = (first * point_of seed + second) * point_of seed % prime
