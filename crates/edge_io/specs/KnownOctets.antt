-- What a call of a source or of a sink does to its known octets (this project's profile).
-- None means that the object has no known octets; then nothing is claimed of them.
use Rattle.std.specs.Prelude.{◌≡◌, None, ℕ, ◌<◌, ◌≤◌, List, length, take, Result, MatchResult}
use Rattle.std.specs.Io.KnownBytes.{Consumes, Appends, Keeps, IsAtEnd}
use Rattle.std.specs.declared.option.Option.{Option}

-- One fetch: it moved the first n octets left to the front of the buffer; n is 0 only at the end or
-- if the buffer is empty. A fetch that fails takes none.
abbrev pub Fetches : {E : Type 0} → Option (List ℕ) → Option (List ℕ) → Result ℕ E → List ℕ → Type 0
Fetches old new result buf = MatchResult result (λ n. (n ≤ length buf) × Consumes old new (take n buf) × (n ≡ 0 → 0 < length buf → IsAtEnd new)) (λ _. Keeps old new)

-- Fewer than n octets were taken.
abbrev pub TakesFewer : Option (List ℕ) → Option (List ℕ) → ℕ → Type 0
TakesFewer old new n = (octets : List ℕ) × Consumes old new octets × (length octets < n)

-- The buffer was filled from its front, or the source is at its end; a read that fails took fewer
-- octets than the buffer has.
abbrev pub Fills : {E : Type 0} → Option (List ℕ) → Option (List ℕ) → Result ℕ E → List ℕ → Type 0
Fills old new result buf = MatchResult result (λ n. (n ≤ length buf) × Consumes old new (take n buf) × (n < length buf → IsAtEnd new)) (λ _. TakesFewer old new (length buf))

-- A prefix of the octets was appended.
pub record AppendsPart (old new : Option (List ℕ)) (piece : List ℕ) : Type 0 where
  pub count : ℕ
  pub part : Appends old new (take count piece)

-- The octets were appended; a put that fails appended a prefix of them.
abbrev pub Puts : {T E : Type 0} → Option (List ℕ) → Option (List ℕ) → Result T E → List ℕ → Type 0
Puts old new result piece = MatchResult result (λ _. Appends old new piece) (λ _. AppendsPart old new piece)

-- The octets held are unchanged; only a sink without known octets may fail.
abbrev pub Flushes : {T E : Type 0} → Option (List ℕ) → Option (List ℕ) → Result T E → Type 0
Flushes old new result = MatchResult result (λ _. new ≡ old) (λ _. (old ≡ None) × (new ≡ None))
