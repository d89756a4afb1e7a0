use Rattle.std.proofs.Common.{sym, ◌∙◌}
use Rattle.era_state.proofs.Eras.{warm_sent}
use Rattle.era_state.proofs.era.Era.go_on.Goals as goal

pub returns-then-is_over-clause-stands : goal.returns-then-is_over-clause-stands
returns-then-is_over-clause-stands c ws octets long h =
    let here = rw c.in-Warm.is at h in
    warm_sent c.args.seg.now octets c.in-Warm.era _ ws (c.send.ensures.stands octets long) here.0

pub returns-else-is_over-clause-stands : goal.returns-else-is_over-clause-stands
returns-else-is_over-clause-stands c ws octets long h =
    let here = rw c.in-Warm.is at h in
    (warm_sent c.args.seg.now octets c.in-Warm.era _ ws (c.send.ensures.stands octets long) here.0, sym c.is_over.ensures ∙ c.if-is_over.false)
