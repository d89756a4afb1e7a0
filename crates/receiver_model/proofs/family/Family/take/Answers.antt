use Rattle.receiver_model.proofs.Streams.{all_stand-push}
use Rattle.receiver_model.proofs.family.Family.take.Goals as goal

pub returns-in-Ok-clause-stands : goal.returns-in-Ok-clause-stands
returns-in-Ok-clause-stands c = all_stand-push c.args.bytes.now c.args.self.now c.offer.new.self c.in-Ok.ensures.each
