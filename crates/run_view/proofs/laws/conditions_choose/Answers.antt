use Rattle.run_view.proofs.Conditions.{conditions_choose as choose}
use Rattle.run_view.proofs.laws.conditions_choose.Goals as goal

pub returns : goal.returns
returns c = choose
