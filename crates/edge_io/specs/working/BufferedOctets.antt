-- The octets that a sink holds which writes through a buffer (this project's profile).
use Rattle.std.specs.Prelude.{ℕ, List}
use Rattle.std.specs.Io.KnownBytes.{append_known}
use Rattle.std.specs.declared.option.Option.{Option}
use Rattle.edge_io.specs.declared.files.write_behind.WriteBehind.{WriteBehind}
use Rattle.edge_io.specs.WriteBehind.{octets_waiting}

-- The octets held: those of the writer, and then those in the buffer; None if the writer's are not
-- known.
abbrev pub octets_held : {W : Type 0} → (W → Option (List ℕ)) → WriteBehind W → Option (List ℕ)
octets_held contents behind = append_known (contents behind.writer) (octets_waiting behind)
