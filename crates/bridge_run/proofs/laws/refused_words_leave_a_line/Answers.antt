use Rattle.bridge_run.proofs.Stops.{refused_row}
use Rattle.bridge_run.proofs.laws.refused_words_leave_a_line.Goals as goal

pub returns : goal.returns
returns c = refused_row
