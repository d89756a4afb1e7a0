-- Eras that end for being idle.
use Rattle.std.specs.Prelude.{ℕ, List, map, Some}
use Rattle.wire_base.specs.Segments.{Written}
use Rattle.rule_book.specs.declared.entry.Ended.{Ended}
use Rattle.rule_book.specs.declared.entry.Reason.TheVariants as reasons
use Rattle.era_state.specs.Quantities.{octets_of}

-- an era that ends for being idle, with the octets of its segments
abbrev pub idle_end : (ℕ → List Written) → (number : ℕ) → Ended
idle_end segments number = record { era = number; reason = reasons.Idle; octets = Some (octets_of (segments number)) }

-- eras that end for being idle
abbrev pub idled : (ℕ → List Written) → List ℕ → List Ended
idled segments numbers = map (idle_end segments) numbers
