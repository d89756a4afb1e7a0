use Rattle.both_sides.proofs.BroughtRuns.{eras_of_runs_go_on}
use Rattle.both_sides.proofs.laws.eras_of_runs_go_on.Goals as goal

pub returns : goal.returns
returns c = eras_of_runs_go_on c.lawful_eras_go_on.ensures c.unbounded_is_written_whole.ensures.whole
