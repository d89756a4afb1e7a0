use Rattle.std.proofs.Common.{◌∙◌, arith, rules}
use Rattle.std.proofs.lemmas.Result.{err_from_is_err_and}
use Rattle.run_view.proofs.Records.{own_stops, read_more}
use Rattle.run_view.proofs.item.gather_all.Goals as goal

pub returns-in_err-add_frame-clause-stops : goal.returns-in_err-add_frame-clause-stops
returns-in_err-add_frame-clause-stops g c =
    let p = err_from_is_err_and c.from_residual.result c.from_residual.ensures.1 in rw (p.1, p.2)
    (λ all head older at. own_stops c.loop-number.frames all _ head older _ c.loop-number.number c.args.packets
    c.loop-number.gathered _ _ _ _ (search rules) c.loop-number.invariant.kept (c.loop-number.invariant.read all head older at)
    (c.in_err-add_frame.ensures.stops all head))

pub loop-number-preserved : goal.loop-number-preserved
loop-number-preserved g c =
    record {
      ready = c.in_ok-add_frame.ensures.ready;
      count = omega (arith, c.in_ok-add_frame.ensures.count, c.loop-number.invariant.count);
      kept = c.in_ok-add_frame.ensures.faults.kept ∙ c.loop-number.invariant.kept;
      read =
          λ all head older at.
          let before = c.loop-number.invariant.read all head older at in
          read_more _ _ _ head older before.own _ _ _ before.count
          (c.in_ok-add_frame.ensures.added all head before.own older before.count before.stands before.gathers);
    }
