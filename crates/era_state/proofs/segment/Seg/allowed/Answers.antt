use Rattle.std.proofs.Common.{arith, ◌^◌, ◌<◌}
use Rattle.era_state.proofs.Offsets.{scaled_small}
use Rattle.era_state.proofs.segment.Seg.allowed.Goals as goal

pub returns-else-syn-clause-near : goal.returns-else-syn-clause-near
returns-else-syn-clause-near c =
    let fits : c.from-window.result < 2 ^ 16 = search (arith, c.from-window.ensures) in
    let h = scaled_small c.from-window.result c.args.shift fits c.requires.shift in omega (arith, h)
