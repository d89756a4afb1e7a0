-- The content of a line of a report (this project's profile).
use Rattle.std.specs.Prelude.{◌≡◌, ◌==◌, ℕ, Bool, true, false, List, [], ◌∷◌, if◌then◌else◌}
use Rattle.rule_book.specs.Text.{last_text}
use Rattle.rule_book.specs.declared.last.Last.TheVariants as lasts
use Rattle.run_view.specs.declared.turn.Turn.{Turn}

-- the part of a line that an entry is read from: all of it; of the second engine what is after `/`
-- (47), and nothing if the line does not begin with it
abbrev pub part_by : (second : Bool) → List ℕ → List ℕ
part_by false text = text
part_by true [] = []
part_by true (octet ∷ rest) = if octet == 47 then rest else []

-- the text is that of the last line of a run with this number of records and of frames, and no line
-- of the second engine is to come before it
pub record IsLast (turn : Turn) (text : List ℕ) : Type 0 where
  pub first : turn.second ≡ false
  pub is : text ≡ last_text (lasts.End turn.done turn.frames)
