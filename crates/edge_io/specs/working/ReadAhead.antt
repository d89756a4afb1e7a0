-- The octets that a reader with a buffer has left (this project's profile).
use Rattle.std.specs.Prelude.{ℕ, List}
use Rattle.std.specs.Io.KnownBytes.{prepend_known}
use Rattle.std.specs.declared.option.Option.{Option}
use Rattle.edge_io.specs.declared.files.read_ahead.ReadAhead.{ReadAhead}
use Rattle.edge_io.specs.ReadAhead.{octets_ahead}

-- The octets left: those in the buffer, and then those that the reader has left; None if these are
-- not known.
abbrev pub octets_left : {R : Type 0} → (R → Option (List ℕ)) → ReadAhead R → Option (List ℕ)
octets_left remaining ahead = prepend_known (octets_ahead ahead) (remaining ahead.reader)
