-- The values of a source and of a sink in memory (this project's profile).
use Rattle.std.specs.Prelude.{ℕ, List, length, min, Contains}
use Rattle.edge_io.specs.FaultCounts.{next_count}

-- A source: the octets left, the most that one call returns, the numbers of the calls that fail,
-- the number of calls so far, and of those that failed.
pub record MemorySource : Type 0 where
  pub left : List ℕ
  pub piece : ℕ
  pub failing : List ℕ
  pub calls : ℕ
  pub faults : ℕ

-- A sink: the octets held, the most that it can hold, the numbers of the calls that fail, the
-- number of calls so far, and of those that failed.
pub record MemorySink : Type 0 where
  pub held : List ℕ
  pub room : ℕ
  pub failing : List ℕ
  pub calls : ℕ
  pub faults : ℕ

-- The next call, counted from 1, is one of those listed.
abbrev pub IsListed : List ℕ → ℕ → Type 0
IsListed failing calls = Contains failing (next_count calls)

-- The number of octets that the next fetch moves into a buffer of this length: the least of
-- `piece`, the buffer's length and the number of octets left.
abbrev pub given_count : MemorySource → ℕ → ℕ
given_count source room = min (min source.piece room) (length source.left)
