use Rattle.era_state.proofs.SameNumbers.{written_remains}
use Rattle.era_state.proofs.laws.written_remains.Goals as goal

pub returns : goal.returns
returns c = written_remains
