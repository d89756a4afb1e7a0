use Rattle.std.proofs.Common.{◌≡◌, ◌-◌, ℕ, List, length, slice_index_or, ap, ◌∙◌}
use Rattle.rule_book.specs.Rules.{rule_name}
use Rattle.rule_book.proofs.Unique.{unequal}
use Rattle.rule_book.proofs.rule.Rule.has_name.Goals as goal

pub returns-then-size-text : goal.returns-then-size-text
returns-then-size-text c =
    let is = c.as_bytes-name.ensures.value ∙ c.name.ensures.text in
    unequal (rule_name c.args.self) c.args.text.now (λ same. c.if-size-text.true (ap length (is ∙ same)))

pub returns-then-name-size : goal.returns-then-name-size
returns-then-name-size c =
    let is = c.as_bytes-name.ensures.value ∙ c.name.ensures.text in
    unequal (rule_name c.args.self) c.args.text.now (λ same. c.if-name-size.true (ap (λ (xs : List ℕ). slice_index_or xs (length c.as_bytes-name.result.now - 1) 0) (is ∙ same)))
