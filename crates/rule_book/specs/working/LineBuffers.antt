-- A line of text in a buffer, written from its front.
use Rattle.std.specs.Prelude.{◌≡◌, ℕ, ◌+◌, List, ◌++◌, length, take}
use Rattle.rule_book.specs.declared.line.Line.{Line}

-- the text of a line: the front of its buffer
abbrev pub written : Line → List ℕ
written line = take line.len line.buf.now

-- these octets were appended to the line, and the length of the buffer is unchanged
pub record Adds (old new : Line) (piece : List ℕ) : Type 0 where
  pub text : written new ≡ written old ++ piece
  pub len : new.len ≡ old.len + length piece
  pub room : length new.buf.now ≡ length old.buf.now

-- these octets were written into the buffer from offset `at` to `end`; the octets before them and
-- the length of the buffer are unchanged
pub record Puts (old new : List ℕ) (at end : ℕ) (piece : List ℕ) : Type 0 where
  pub text : take end new ≡ take at old ++ piece
  pub len : end ≡ at + length piece
  pub room : length new ≡ length old
