use Rattle.std.proofs.Common.{◌≡◌, drop}
use Rattle.norm_settings.specs.OptionTable.{all_choices}
use Rattle.norm_settings.specs.RunWords.{word_in}
use Rattle.norm_settings.proofs.line.option_met.Given as goal

abbrev pub invariant-loop-choice : goal.invariant-loop-choice
invariant-loop-choice l = word_in all_choices l.text ≡ word_in (drop l.choice-index l.choice-items) l.text
