-- What the first engine said of a record (this project's profile).
use Rattle.rule_book.specs.Entries.{PlainEntry}
use Rattle.rule_book.specs.declared.rule.Rule.TheVariants.{CProbe, FDone}
use Rattle.run_view.specs.declared.judged.Judged.{Judged}
use Rattle.run_view.specs.LineJudgments.{names, is_drop, is_pass}

-- what the first engine said of a record, as far as it is kept
abbrev pub judged_by : PlainEntry → Judged
judged_by entry =
    record { number = entry.number; side = entry.side; era = entry.era; passed = is_pass entry.verdict; dropped = is_drop entry.verdict; probe = names CProbe entry; datagram = names FDone entry }
