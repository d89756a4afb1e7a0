use Rattle.norm_engine.proofs.BroughtOctets.{consistent_without_clash}
use Rattle.norm_engine.proofs.laws.consistent_is_without_clash.Goals as goal

pub returns : goal.returns
returns c = consistent_without_clash c.lawful_clashes_are_real.ensures
