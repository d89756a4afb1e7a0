use Rattle.std.proofs.Common.{refl, rules}
use Rattle.both_sides.proofs.Outputs.{part_of, whole_of}
use Rattle.bridge_run.proofs.Outputs.{untold, handing_broke, last_broke, flush_broke, flush_keeps}
use Rattle.bridge_run.proofs.runner.finish.Goals as goal

pub returns-then-is_err-clause-closes : goal.returns-then-is_err-clause-closes
returns-then-is_err-clause-closes g c = record {
  ended = tt;
  stopped = record {
    first = search rules;
    broke = rw c.stop_at_capture.ensures
        (handing_broke _ _ _ _ (untold c.flush.result _ _ c.if-is_err.ensures.value c.flush.ensures.octets) (flush_keeps c.flush.result _ _ c.flush.ensures.octets) refl);
  };
}

pub returns-then-is_err-2-clause-closes : goal.returns-then-is_err-2-clause-closes
returns-then-is_err-2-clause-closes g c = record {
  ended = tt;
  stopped = record {
    first = search rules;
    broke =
        last_broke _ _ _ _ _ (flush_keeps c.flush.result _ _ c.flush.ensures.octets)
        (rw (← c.last_line-size.ensures.text) (part_of c.put.result _ _ _ c.if-is_err-2.ensures.value c.put.ensures.octets));
  };
}

pub returns-then-is_err-3-clause-closes : goal.returns-then-is_err-3-clause-closes
returns-then-is_err-3-clause-closes g c = record {
  ended = tt;
  stopped = record {
    first = search rules;
    broke =
        flush_broke _ _ _ _ _ (untold c.flush-2.result _ _ c.if-is_err-3.ensures.value c.flush-2.ensures.octets) (flush_keeps c.flush.result _ _ c.flush.ensures.octets)
        (rw (← c.last_line-size.ensures.text) (whole_of c.put.result _ _ _ c.if-is_err-2.ensures.value c.put.ensures.octets))
        (flush_keeps c.flush-2.result _ _ c.flush-2.ensures.octets);
  };
}
