use Rattle.rule_tests.proofs.Premises.{each_is_needed}
use Rattle.rule_tests.proofs.laws.each_premise_is_needed.Goals as goal

pub returns : goal.returns
returns c = each_is_needed
