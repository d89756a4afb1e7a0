use Rattle.std.proofs.Common.{rules}
use Rattle.std.proofs.lemmas.Slice.Eq.{strip_prefix_is}
use Rattle.norm_settings.proofs.Grammar.{behind_front}
use Rattle.run_view.proofs.words.after_front.Goals as goal

pub returns : goal.returns
returns c =
    behind_front c.args.front.now c.args.text.now c.strip_prefix.result
    (strip_prefix_is (λ a b. search rules) c.args.text.now c.args.front.now c.strip_prefix.result c.strip_prefix.ensures.cases)
