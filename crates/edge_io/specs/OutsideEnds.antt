-- The values of a source and of a sink outside the program, such as files (this project's profile).
use Rattle.std.specs.Prelude.{ℕ, List, Bool}
use Rattle.std.specs.Io.KnownBytes.{append_known, prepend_known}
use Rattle.std.specs.declared.option.Option.{Option}

-- Whether there is a reader or a writer, and the number of failed calls.
pub record OutsideEnd : Type 0 where
  pub is_there : Bool
  pub faults : ℕ

-- A source: whether it exists and its faults, the octets in its buffer, and those that its reader
-- has left, if they are known.
pub record OutsideSource : Type 0 where
  pub outside : OutsideEnd
  pub buffered : List ℕ
  pub unread : Option (List ℕ)

-- The octets left of a source: those in its buffer, and then those of its reader; None if these are
-- not known.
abbrev pub octets_left_of : OutsideSource → Option (List ℕ)
octets_left_of source = prepend_known source.buffered source.unread

-- A sink: whether it exists and its faults, the octets that its writer holds, if they are known,
-- and those in its buffer.
pub record OutsideSink : Type 0 where
  pub outside : OutsideEnd
  pub written : Option (List ℕ)
  pub buffered : List ℕ

-- The octets held by a sink: those of its writer, and then those in its buffer; None if those of
-- the writer are not known.
abbrev pub octets_held_of : OutsideSink → Option (List ℕ)
octets_held_of sink = append_known sink.written sink.buffered
