use Rattle.std.proofs.Common.{◌≡◌, drop}
use Rattle.run_view.specs.LineJudgments.{is_among}
use Rattle.run_view.proofs.chosen.is_among.Given as goal

abbrev pub invariant-loop-rule : goal.invariant-loop-rule
invariant-loop-rule l = is_among (drop l.rule-index l.rules) l.number ≡ is_among l.rules l.number
