use Rattle.run_view.proofs.NoStops.{runs_are_viewed}
use Rattle.run_view.proofs.laws.runs_are_viewed.Goals as goal

pub returns : goal.returns
returns c = runs_are_viewed
