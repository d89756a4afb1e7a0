use Rattle.std.proofs.Common.{length}
use Rattle.rule_book.specs.Entries.{PlainEntry, plain}
use Rattle.rule_book.specs.ReportReading.{EntryFits}
use Rattle.rule_book.specs.working.LineWords.{Awaits}
use Rattle.rule_book.proofs.found.add_marks.Given as goal

-- if the words are the missing marks of a whole entry, the rest of them are those that it misses
-- besides the entry so far
abbrev pub invariant-loop-rest : goal.invariant-loop-rest
invariant-loop-rest l = record {
  awaits : (whole : PlainEntry) → EntryFits whole → Awaits (plain l.fn.entry) l.words whole → Awaits (plain l.entry) l.rest whole;
  fits : EntryFits (plain l.fn.entry) → EntryFits (plain l.entry);
}

abbrev pub decreases-loop-rest : goal.decreases-loop-rest
decreases-loop-rest l = length l.rest
