use Rattle.norm_engine.proofs.ItemEntries.{items_counted}
use Rattle.norm_engine.proofs.laws.items_are_counted.Goals as goal

pub returns : goal.returns
returns c = items_counted
