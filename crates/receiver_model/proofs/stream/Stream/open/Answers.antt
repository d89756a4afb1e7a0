use Rattle.receiver_model.proofs.Streams.{fresh_stands}
use Rattle.receiver_model.proofs.stream.Stream.open.Goals as goal

pub returns-clause-stands : goal.returns-clause-stands
returns-clause-stands c = λ distance. fresh_stands distance _ c.args.policy c.args.base c.args.start (cc)
