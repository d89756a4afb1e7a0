use Rattle.std.proofs.Common.{ℕ, List, [], replicate, ◌∙◌, arith}
use Rattle.std.proofs.lemmas.List.{length-replicate}
use Rattle.era_state.specs.SegmentFields.{sent}
use Rattle.tcp_norm.proofs.outbound.era_of.Goals as goal

pub returns-in-Some-clause-acked : goal.returns-in-Some-clause-acked
returns-in-Some-clause-acked c =
    let octets : List ℕ = replicate c.args.seg.now.len 0 in
    let is = c.in-Some.ensures.stands octets (length-replicate c.args.seg.now.len 0) in
    let near = c.acked_grows_near.ensures c.in-Some.warm.base [] (sent c.args.seg.now octets) in
    omega (arith, c.settled.ensures.same, is.acked_is, near)

pub returns-in-Some-clause-octets : goal.returns-in-Some-clause-octets
returns-in-Some-clause-octets c =
    let octets : List ℕ = replicate c.args.seg.now.len 0 in
    let is = c.in-Some.ensures.stands octets (length-replicate c.args.seg.now.len 0) in
    c.settled.ensures.octets ∙ is.octets_are
