use Rattle.rule_book.proofs.Reports.{text-in_order}
use Rattle.rule_book.proofs.laws.texts_are_in_order.Goals as goal

pub returns : goal.returns
returns c = text-in_order
