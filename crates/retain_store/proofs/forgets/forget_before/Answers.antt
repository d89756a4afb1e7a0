use Rattle.retain_store.proofs.Segments.{changed_then}
use Rattle.retain_store.proofs.forgets.forget_before.Goals as goal

pub returns-clause-changed : goal.returns-clause-changed
returns-clause-changed c = changed_then _ _ c.requires.chain_in_range c.free_below.ensures.forgets.changed
    c.trim.ensures.changed.others c.trim.ensures.changed.cells
