-- Counts of the rules of a load.
use Rattle.std.specs.Prelude.{◌+◌, if◌then◌else◌}
use Rattle.rule_book.specs.declared.rule.Rule.{Rule}
use Rattle.bridge_run.specs.declared.tally.RuleCount.{RuleCount}
use Rattle.bridge_run.specs.Summary.{is_same}

-- the count with one use more, if it is that of the rule
abbrev pub counted_once : Rule → RuleCount → RuleCount
counted_once rule row = if is_same row.rule rule then record row { count = row.count + 1 } else row
