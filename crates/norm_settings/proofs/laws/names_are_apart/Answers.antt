use Rattle.norm_settings.proofs.OptionSteps.{one_name}
use Rattle.norm_settings.proofs.laws.names_are_apart.Goals as goal

pub returns : goal.returns
returns c = one_name
