use Rattle.std.proofs.Common.{◌<◌, ◌^◌, rules}
use Rattle.era_state.proofs.Eras.{begins_warm}
use Rattle.era_state.proofs.warm.Warm.begin.Goals as goal

pub returns : goal.returns
returns c = record {
  stands = λ octets long.
      let small : c.args.seg.now.ack < 2 ^ 32 = search rules in
      begins_warm c.args.seg.now octets c.none.result _ small c.requires.ack c.requires.no_rst c.none.ensures (c.open.ensures.stands octets long);
}
