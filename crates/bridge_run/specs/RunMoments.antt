-- The visible state of the source and the two sinks at a moment of a run (this project's profile).
use Rattle.std.specs.Prelude.{◌≡◌, ℕ, List, Option}
use Rattle.edge_io.specs.SeenEnds.{Seen}
use Rattle.both_sides.specs.Sinks.{Sinks, NoSinkRose, sinks_of}

-- the source, by the octets that it has left, and the sinks
pub record Moment : Type 0 where
  pub source : Seen
  pub sinks : Sinks

abbrev pub moment_of : (source : Option (List ℕ)) (source_faults : ℕ) (capture : Option (List ℕ)) (capture_faults : ℕ) (report : Option (List ℕ)) (report_faults : ℕ) → Moment
moment_of source source_faults capture capture_faults report report_faults =
    record { source = record { octets = source; faults = source_faults }; sinks = sinks_of capture capture_faults report report_faults }

-- no fault count rose
pub record NoneRose (before now : Moment) : Type 0 where
  pub source : now.source.faults ≡ before.source.faults
  pub sinks : NoSinkRose before.sinks now.sinks
