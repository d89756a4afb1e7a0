use Rattle.era_agreement.proofs.Streams.{is_silent}
use Rattle.era_agreement.proofs.laws.emitted_is_silent.Goals as goal

pub returns : goal.returns
returns c = is_silent c.written_remains.ensures c.emitted_joins.ensures
