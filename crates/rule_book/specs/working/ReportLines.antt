-- The lines of a report (this project's profile).
use Rattle.std.specs.Prelude.{ℕ, List, [], ◌∷◌, ◌++◌, map}
use Rattle.rule_book.specs.Text.{entry_text, first_line, last_text}
use Rattle.rule_book.specs.ReportReading.{PlainReport}

-- the lines of a report
abbrev pub lines_of : PlainReport → List (List ℕ)
lines_of report = (first_line report.version ∷ map entry_text report.entries) ++ last_text report.last ∷ []
