use Rattle.std.proofs.Common.{◌≡◌, drop}
use Rattle.run_view.specs.ViewWords.{all_choices, word_in}
use Rattle.run_view.proofs.words.option_met.Given as goal

abbrev pub invariant-loop-choice : goal.invariant-loop-choice
invariant-loop-choice l = word_in all_choices l.word ≡ word_in (drop l.choice-index l.choice-items) l.word
