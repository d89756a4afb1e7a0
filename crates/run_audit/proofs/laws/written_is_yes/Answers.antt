use Rattle.run_audit.proofs.Captures.{written_is_yes}
use Rattle.run_audit.proofs.laws.written_is_yes.Goals as goal

pub returns : goal.returns
returns c = written_is_yes c.head_is_read_back.ensures c.record_is_read_back.ensures c.items_are_counted.ensures c.entries_fit.ensures c.lawful_is_yes.ensures
