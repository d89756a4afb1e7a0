use Rattle.std.proofs.Common.{◌≡◌, ◌∷◌, map, take}
use Rattle.rule_book.specs.declared.load.LoadLine.TheVariants as lines
use Rattle.bridge_run.specs.Summary.{rule_line}
use Rattle.bridge_run.proofs.load.summary_of.Given as goal

-- the counts so far have their lines
abbrev pub invariant-loop-row : goal.invariant-loop-row
invariant-loop-row l = l.lines.items
    ≡ lines.Load l.seed l.count ∷ lines.Records l.records ∷ lines.Packets l.tally.packets ∷ lines.Eras l.tally.eras ∷ map rule_line (take l.row-index l.tally.rules.items)
