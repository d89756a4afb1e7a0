-- The visible state of a sink of a load.
use Rattle.std.specs.Prelude.{ℕ, List, Option}
use Rattle.edge_io.specs.SeenEnds.{Seen}

-- a source or a sink with these octets, if they are known, and this count of faults
abbrev pub seen_of : Option (List ℕ) → (faults : ℕ) → Seen
seen_of octets faults = record { octets = octets; faults = faults }
