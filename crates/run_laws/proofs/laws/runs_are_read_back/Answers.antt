use Rattle.run_laws.proofs.ReadBack.{runs_read_back}
use Rattle.run_laws.proofs.laws.runs_are_read_back.Goals as goal

pub returns : goal.returns
returns c = runs_read_back c.head_is_read_back.ensures c.record_is_read_back.ensures
