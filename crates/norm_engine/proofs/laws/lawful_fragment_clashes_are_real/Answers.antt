use Rattle.norm_engine.proofs.FragmentClashes.{fragment_clashes_are_real}
use Rattle.norm_engine.proofs.laws.lawful_fragment_clashes_are_real.Goals as goal

pub returns : goal.returns
returns c = fragment_clashes_are_real
