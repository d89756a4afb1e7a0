use Rattle.both_sides.proofs.BroughtRuns.{runs_read_records}
use Rattle.both_sides.proofs.laws.runs_read_records.Goals as goal

pub returns : goal.returns
returns c = runs_read_records c.runs_are_written_soundly.ensures c.runs_invent_nothing.ensures
