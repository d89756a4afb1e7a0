use Rattle.std.proofs.Common.{sym, ◌∙◌}
use Rattle.era_state.proofs.Eras.{legal_syn, warm_came}
use Rattle.era_state.proofs.era.Era.hear.Goals as goal

pub returns-then-is_over-clause-stands : goal.returns-then-is_over-clause-stands
returns-then-is_over-clause-stands c ws h =
    let here = rw c.in-Warm.is at h in
    warm_came c.args.seg.now c.in-Warm.era _ ws (legal_syn _ c.requires.legal c.requires.syn) c.hear-in-Warm.ensures.stands here.0

pub returns-else-is_over-clause-stands : goal.returns-else-is_over-clause-stands
returns-else-is_over-clause-stands c ws h =
    let here = rw c.in-Warm.is at h in
    (warm_came c.args.seg.now c.in-Warm.era _ ws (legal_syn _ c.requires.legal c.requires.syn) c.hear-in-Warm.ensures.stands here.0, sym c.is_over.ensures ∙ c.if-is_over.false)

pub returns-in-Closed-clause-stands : goal.returns-in-Closed-clause-stands
returns-in-Closed-clause-stands c ws h =
    let here = rw c.in-Closed.is at h in
    warm_came c.args.seg.now c.in-Closed.era.last _ ws (legal_syn _ c.requires.legal c.requires.syn) c.hear-in-Closed.ensures.stands here
