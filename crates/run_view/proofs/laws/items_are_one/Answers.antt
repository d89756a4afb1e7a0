use Rattle.run_view.proofs.OneRun.{items_one}
use Rattle.run_view.proofs.laws.items_are_one.Goals as goal

pub returns : goal.returns
returns c = items_one
