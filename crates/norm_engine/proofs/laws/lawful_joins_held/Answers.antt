use Rattle.norm_engine.proofs.FragmentClashes.{joins_held}
use Rattle.norm_engine.proofs.laws.lawful_joins_held.Goals as goal

pub returns : goal.returns
returns c = joins_held
