use Rattle.std.proofs.Common.{◌-◌, arith}
use Rattle.tcp_norm.proofs.StreamFrames.{own_at}
use Rattle.tcp_norm.proofs.inbound.stream.own_octets.Goals as goal

pub returns-then-kept-clause-own : goal.returns-then-kept-clause-own
returns-then-kept-clause-own c i lt =
    let kept = c.args.kept.now in
    own_at c.args.payload.now c.octets_before-start.result (kept.hi - kept.lo) i kept.lo _ c.octets_before-start.ensures.place
    lt (omega (arith, c.octets_before-start.ensures.inside, c.requires.long))
