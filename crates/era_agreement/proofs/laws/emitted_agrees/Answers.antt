use Rattle.era_agreement.proofs.Streams.{emitted_agrees}
use Rattle.era_agreement.proofs.laws.emitted_agrees.Goals as goal

pub returns : goal.returns
returns c = emitted_agrees c.members_agree.ensures c.emitted_tells_one_stream.ensures c.emitted_is_silent.ensures
