use Rattle.both_sides.proofs.BroughtRuns.{runs_were_read_so}
use Rattle.both_sides.proofs.laws.unchanged_runs_were_read_so.Goals as goal

pub returns : goal.returns
returns c = runs_were_read_so c.unchanged_traces_were_read_so.ensures c.unbounded_is_written_whole.ensures.whole
