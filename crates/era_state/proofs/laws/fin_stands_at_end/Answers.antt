use Rattle.era_state.proofs.Frames.{fin_stands_at_end}
use Rattle.era_state.proofs.laws.fin_stands_at_end.Goals as goal

pub returns : goal.returns
returns c = fin_stands_at_end
