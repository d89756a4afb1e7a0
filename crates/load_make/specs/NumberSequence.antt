-- The pseudo-random numbers that determine the records of a load (this project's profile): the
-- first follows the seed, and each the one before.
use Rattle.std.specs.Prelude.{ℕ, zero, suc, ◌+◌, ◌*◌, ◌/◌, ◌%◌, ◌^◌, ◌==◌, List, [], ◌∷◌, map, filter}

-- the number that follows this one: a linear congruential generator modulo 2^64
unfoldable pub following : ℕ → ℕ
following x = (6364136223846793005 * x + 1442695040888963407) % 2 ^ 64

-- the number before that of the record at the position `place`, counted from 0
abbrev pub number_before : (seed place : ℕ) → ℕ
number_before seed zero = seed
number_before seed (suc place) = following (number_before seed place)

-- the number of the record at the position `place`
abbrev pub number_at : (seed place : ℕ) → ℕ
number_at seed place = following (number_before seed place)

-- the connection that a number selects, one of 64
unfoldable pub flow_of : ℕ → ℕ
flow_of x = x / 2 ^ 33 % 64

-- the action that a number selects, one of 8
unfoldable pub action_of : ℕ → ℕ
action_of x = x / 2 ^ 40 % 8

-- the numbers of the records before the position `place`, the newest first
abbrev pub numbers_before : (seed place : ℕ) → List ℕ
numbers_before seed zero = []
numbers_before seed (suc place) = number_at seed place ∷ numbers_before seed place

-- the actions of the records of a connection before the position `place`, the newest first
abbrev pub actions_before : (seed flow place : ℕ) → List ℕ
actions_before seed flow place = map action_of (filter (λ x. flow_of x == flow) (numbers_before seed place))
