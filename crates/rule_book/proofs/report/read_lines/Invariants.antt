use Rattle.std.proofs.Common.{◌≡◌, ◌+◌, ◌∷◌, length, map}
use Rattle.rule_book.specs.Entries.{plain}
use Rattle.rule_book.specs.ReportReading.{IsReadTo, lines}
use Rattle.rule_book.specs.Text.{first_line}
use Rattle.rule_book.proofs.report.read_lines.Given as goal

-- the entries so far are those of the lines before the rest
abbrev pub invariant-loop-entries : goal.invariant-loop-entries
invariant-loop-entries l = record {
  read : IsReadTo l.version (first_line l.version ∷ lines l.text) (map plain l.entries.items) (lines l.rest);
  place : l.line ≡ length l.entries.items + 2;
}

abbrev pub decreases-loop-entries : goal.decreases-loop-entries
decreases-loop-entries l = length l.rest
