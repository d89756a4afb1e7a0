use Rattle.std.proofs.Common.{◌≡◌, List, ◌++◌, take}
use Rattle.rule_book.specs.declared.rule.Rule.{Rule}
use Rattle.bridge_run.specs.Summary.{rule_counts}
use Rattle.bridge_run.proofs.tally.Tally.add.Given as goal

-- the rules so far are counted
abbrev pub invariant-loop-rule : goal.invariant-loop-rule
invariant-loop-rule l = record {
  packets : l.self.packets ≡ l.initial.self.packets;
  eras : l.self.eras ≡ l.initial.self.eras;
  rules : (named : List Rule) → l.initial.self.rules.items ≡ rule_counts named → l.self.rules.items ≡ rule_counts (named ++ take l.rule-index l.entry.rules.items);
}
