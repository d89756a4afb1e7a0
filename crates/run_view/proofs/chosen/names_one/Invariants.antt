use Rattle.std.proofs.Common.{◌≡◌, drop}
use Rattle.run_view.specs.ChosenRecords.{names_one}
use Rattle.run_view.proofs.chosen.names_one.Given as goal

abbrev pub invariant-loop-rule : goal.invariant-loop-rule
invariant-loop-rule l = names_one l.names (drop l.rule-index l.rules) ≡ names_one l.names l.rules
