use Rattle.std.proofs.Common.{◌≡◌, rules, tests, Option, sym, ap, ◌∙◌, option_map, bytes_eq}
use Rattle.std.proofs.lemmas.Iterator.{YieldsList-from_slice}
use Rattle.std.proofs.lemmas.Iterator.Consumers.{YieldsList-from_copied}
use Rattle.std.proofs.lemmas.Iterator.Search.{find_from_yields_List}
use Rattle.rule_book.specs.Rules.{all_rules, rule_name, rule_named}
use Rattle.rule_book.specs.declared.rule.Rule.{Rule}
use Rattle.rule_book.proofs.Unique.{found_by_name, named_is}
use Rattle.rule_book.proofs.rule.Rule.of_name.Goals as goal

same_option : (o : Option Rule) → option_map (λ x. x) o ≡ o
same_option o = search rules

pub returns : goal.returns
returns c rule =
    let text = c.args.text.now in
    let whole : c.find.result ≡ rule_named text = sym (same_option c.find.result) ∙ find_from_yields_List (λ (r : Rule). bytes_eq (rule_name r) text) _ _ c.find.result c.find.ensures.ran (YieldsList-from_copied (YieldsList-from_slice all_rules (search rules))) (λ x b q k. search (rules, tests)) in
    (λ found. named_is text rule (sym whole ∙ found), λ is. whole ∙ ap rule_named (sym is) ∙ found_by_name rule)
