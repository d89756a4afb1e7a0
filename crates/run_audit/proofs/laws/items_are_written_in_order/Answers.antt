use Rattle.run_audit.proofs.Captures.{written_in_order}
use Rattle.run_audit.proofs.laws.items_are_written_in_order.Goals as goal

pub returns : goal.returns
returns c = written_in_order
