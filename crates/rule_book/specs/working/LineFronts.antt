-- The front of a line of the report (this project's profile).
use Rattle.std.specs.Prelude.{ℕ, List, ◌++◌, decimal}
use Rattle.rule_book.specs.Entries.{PlainEntry}
use Rattle.rule_book.specs.Text.{side_word, verdict_word, part}

-- the text of the four words that each line begins with
abbrev pub front_text : PlainEntry → List ℕ
front_text entry = decimal entry.number ++ part (side_word entry.side) ++ part (verdict_word entry.verdict) ++ part (decimal entry.packets)
