use Rattle.std.proofs.Common.{arith}
use Rattle.frame_view.proofs.Runs.{differing-past}
use Rattle.frame_view.proofs.payload.end_of_run.Goals as goal

pub returns-after-octets-clause-count : goal.returns-after-octets-clause-count
returns-after-octets-clause-count c =
    let past = c.octets-test.false in
    let end = c.min-end.ensures in
    let none = differing-past c.args.from.now c.args.to.now c.octets.past (omega (arith, past, end)) in
    let counted = c.octets.invariant.counted in
    omega (arith, counted, none)
