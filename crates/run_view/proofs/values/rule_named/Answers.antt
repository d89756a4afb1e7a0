use Rattle.std.proofs.Common.{◌≡◌, ℕ, List, Option, Some, None, refl, sym, ap, ◌∙◌}
use Rattle.std.specs.Prelude.{◌↔◌, option_map}
use Rattle.rule_book.specs.Rules.{rule_name, rule_named, rule_number}
use Rattle.rule_book.specs.declared.rule.Rule.{Rule}
use Rattle.rule_book.proofs.Unique.{found_by_name, named_is}
use Rattle.run_view.proofs.values.rule_named.Goals as goal

none_named : (text : List ℕ) (rule : Rule) → rule_named text ≡ None → rule_name rule ≡ text → Some rule ≡ None
none_named text rule none is = sym (sym none ∙ ap rule_named (sym is) ∙ found_by_name rule)

same_found : (text : List ℕ) (found named : Option Rule) → ((rule : Rule) → (found ≡ Some rule) ↔ (rule_name rule ≡ text)) → rule_named text ≡ named
    → found ≡ named
same_found text found (Some rule) each is = (each rule).1 (named_is text rule is)
same_found text None None each is = refl
same_found text (Some rule) None each is = none_named text rule is ((each rule).0 refl)

pub returns-in-None-clause-place : goal.returns-in-None-clause-place
returns-in-None-clause-place c =
    ap (option_map rule_number) (sym c.in-None.is ∙ same_found c.args.name.now c.of_name.result (rule_named c.args.name.now) c.of_name.ensures refl)
