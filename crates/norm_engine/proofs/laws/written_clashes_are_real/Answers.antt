use Rattle.norm_engine.proofs.WrittenClashes.{written_clashes, written_fragment_clashes}
use Rattle.norm_engine.proofs.laws.written_clashes_are_real.Goals as goal

pub returns-clause-clashes : goal.returns-clause-clashes
returns-clause-clashes c = written_clashes c.lawful_clashes_are_real.ensures

pub returns-clause-fragment_clashes : goal.returns-clause-fragment_clashes
returns-clause-fragment_clashes c = written_fragment_clashes c.lawful_fragment_clashes_are_real.ensures
