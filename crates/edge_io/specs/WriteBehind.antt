-- Writing through a buffer (this project's profile).
use Rattle.std.specs.Prelude.{ℕ, List, [], None, Result, Ok, Err, take}
use Rattle.std.specs.declared.option.Option.{Option}
use Rattle.edge_io.specs.declared.files.write_behind.WriteBehind.{WriteBehind}

-- The octets in the buffer.
abbrev pub octets_waiting : {W : Type 0} → WriteBehind W → List ℕ
octets_waiting behind = take behind.filled behind.buffer

-- The octets of the writer, if there is one with known octets.
abbrev pub written_of : {W E : Type 0} → (W → Option (List ℕ)) → Result (WriteBehind W) E → Option (List ℕ)
written_of contents (Ok behind) = contents behind.writer
written_of contents (Err error) = None

-- The octets in the buffer; none if there is no writer.
abbrev pub buffered_behind : {W E : Type 0} → Result (WriteBehind W) E → List ℕ
buffered_behind (Ok behind) = octets_waiting behind
buffered_behind (Err error) = []
