use Rattle.norm_engine.proofs.Receivers.{misses}
use Rattle.norm_engine.proofs.laws.lawful_misses_nothing.Goals as goal

pub returns : goal.returns
returns c = misses c.emitted_misses_nothing.ensures c.lawful_is_emitted.ensures
