use Rattle.std.proofs.Common.{◌∙◌, ap, sym, max}
use Rattle.era_state.specs.SegmentMarks.{edge_place}
use Rattle.era_state.specs.SegmentFields.{sent}
use Rattle.era_state.proofs.warm.greater_edge.Goals as goal

pub returns-in-Some-clause-value : goal.returns-in-Some-clause-value
returns-in-Some-clause-value c octets =
    let e = c.allowed.ensures.value in
    c.max.ensures ∙ ap (max c.args.edge) (e ∙ ap (λ o. edge_place o c.args.shift (sent c.args.seg.now octets)) (sym c.in-Some.is))
