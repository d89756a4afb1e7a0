use Rattle.std.proofs.Common.{sym}
use Rattle.era_state.proofs.Eras.{offered_opens}
use Rattle.era_state.proofs.era.Era.offered_goes_on.Goals as goal

pub returns-in-Some-clause-stands : goal.returns-in-Some-clause-stands
returns-in-Some-clause-stands c ws octets long h = c.settled.ensures.stands _ (offered_opens c.args.seg.now octets c.args.era _ c.in-Some.place ws (sym c.in-Some.ensures.value) (c.open.ensures.stands octets long) h)

pub returns-in-None-clause-stands : goal.returns-in-None-clause-stands
returns-in-None-clause-stands c ws octets long h = c.sent.ensures.stands ws octets long (sym c.in-None.ensures.value) h
