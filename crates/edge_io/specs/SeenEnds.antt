-- A source or a sink at a moment (this project's profile).
use Rattle.std.specs.Prelude.{ℕ, List, Option}

-- The octets that a source has left or a sink holds, if they are known, and its fault count.
pub record Seen : Type 0 where
  pub octets : Option (List ℕ)
  pub faults : ℕ

-- A source or a sink with these octets and this count.
abbrev pub seen_of : (octets : Option (List ℕ)) (faults : ℕ) → Seen
seen_of octets faults = record { octets = octets; faults = faults }
