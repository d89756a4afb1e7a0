use Rattle.std.proofs.Common.{refl, rules}
use Rattle.bridge_run.proofs.Outputs.{untold, handing_broke, report_handing_broke, flush_keeps}
use Rattle.bridge_run.proofs.runner.hand_on.Goals as goal

pub returns-then-is_err-clause-hands : goal.returns-then-is_err-clause-hands
returns-then-is_err-clause-hands g c = record {
  handed = tt;
  stopped = record {
    first = search rules;
    broke = rw c.stop_at_capture.ensures
        (handing_broke _ _ _ _ (untold c.flush.result _ _ c.if-is_err.ensures.value c.flush.ensures.octets) (flush_keeps c.flush.result _ _ c.flush.ensures.octets) refl);
  };
}

pub returns-then-is_err-2-clause-hands : goal.returns-then-is_err-2-clause-hands
returns-then-is_err-2-clause-hands g c = record {
  handed = tt;
  stopped = record {
    first = search rules;
    broke =
        report_handing_broke _ _ _ (untold c.flush-2.result _ _ c.if-is_err-2.ensures.value c.flush-2.ensures.octets) (flush_keeps c.flush.result _ _ c.flush.ensures.octets)
        (flush_keeps c.flush-2.result _ _ c.flush-2.ensures.octets);
  };
}
