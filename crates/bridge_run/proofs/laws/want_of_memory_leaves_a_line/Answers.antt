use Rattle.bridge_run.proofs.Stops.{wanting_row}
use Rattle.bridge_run.proofs.laws.want_of_memory_leaves_a_line.Goals as goal

pub returns : goal.returns
returns c = wanting_row
