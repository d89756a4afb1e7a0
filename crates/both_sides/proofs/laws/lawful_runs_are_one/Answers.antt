use Rattle.both_sides.proofs.Runs.{runs_one}
use Rattle.both_sides.proofs.laws.lawful_runs_are_one.Goals as goal

pub returns : goal.returns
returns c = runs_one c.lawful_is_one.ensures
