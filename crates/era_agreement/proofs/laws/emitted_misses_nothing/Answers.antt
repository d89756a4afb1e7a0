use Rattle.era_agreement.proofs.Streams.{emitted_misses_nothing}
use Rattle.era_agreement.proofs.laws.emitted_misses_nothing.Goals as goal

pub returns : goal.returns
returns c = emitted_misses_nothing c.monitors_miss_nothing.ensures c.emitted_tells_one_stream.ensures c.emitted_stays_near_acks.ensures
