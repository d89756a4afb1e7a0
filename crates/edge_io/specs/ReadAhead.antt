-- Reading through a buffer (this project's profile).
use Rattle.std.specs.Prelude.{ℕ, List, [], None, Result, Ok, Err, slice_range}
use Rattle.std.specs.declared.option.Option.{Option}
use Rattle.edge_io.specs.declared.files.read_ahead.ReadAhead.{ReadAhead}

-- The octets in the buffer that are not yet fetched.
abbrev pub octets_ahead : {R : Type 0} → ReadAhead R → List ℕ
octets_ahead ahead = slice_range ahead.buffer ahead.start ahead.filled

-- The octets that the reader has left, if there is a reader with known octets.
abbrev pub unread_of : {R E : Type 0} → (R → Option (List ℕ)) → Result (ReadAhead R) E → Option (List ℕ)
unread_of remaining (Ok ahead) = remaining ahead.reader
unread_of remaining (Err error) = None

-- The octets in the buffer; none if there is no reader.
abbrev pub buffered_ahead : {R E : Type 0} → Result (ReadAhead R) E → List ℕ
buffered_ahead (Ok ahead) = octets_ahead ahead
buffered_ahead (Err error) = []
