use Rattle.era_state.proofs.Eras.{warm_sent}
use Rattle.era_state.proofs.era.Era.closed_goes_on.Goals as goal

pub returns-clause-stands : goal.returns-clause-stands
returns-clause-stands c ws octets long h = c.settled.ensures.stands _ (warm_sent c.args.seg.now octets c.args.era.last _ ws (c.send.ensures.stands octets long) h)
