use Rattle.std.proofs.Common.{◌++◌, map, sym, ap, ◌∙◌, append-nil, arith}
use Rattle.frame_view.specs.Changes.{plain_replaced}
use Rattle.frame_view.proofs.Runs.{run-added, runs-past, runs-same}
use Rattle.frame_view.proofs.payload.runs.Goals as goal

pub octets-preserved-then-count-eq0 : goal.octets-preserved-then-count-eq0
octets-preserved-then-count-eq0 c =
    let more = c.octets-test.true in
    let end = c.min-end.ensures in
    let same = runs-same c.args.at c.args.from.now c.args.to.now c.octets.next (omega (arith, more, end)) (omega (arith, more, end)) (sym c.differing-count.ensures.count ∙ c.if-count-eq0.true) in
    record {
      all = ap (λ t. map plain_replaced c.octets.runs.items ++ t) (sym same) ∙ c.octets.invariant.all;
      inside = omega (arith, more);
    }

pub octets-preserved : goal.octets-preserved
octets-preserved c =
    let inside = c.differing-count.ensures.inside in
    let end = c.min-end.ensures in
    record {
      all =
          run-added (map plain_replaced c.octets.runs.items) _ _ c.args.at c.octets.next c.differing-count.result c.args.from.now c.args.to.now c.differing-count.ensures.count c.if-count-eq0.false
          c.in_ok-add_run.ensures c.octets.invariant.all;
      inside = omega (arith, inside, end);
    }

pub returns : goal.returns
returns c =
    let past = c.octets-test.false in
    let end = c.min-end.ensures in
    let none = runs-past c.args.at c.args.from.now c.args.to.now c.octets.next (omega (arith, past, end)) in
    sym (append-nil (map plain_replaced c.octets.runs.items)) ∙ ap (λ t. map plain_replaced c.octets.runs.items ++ t) (sym none) ∙ c.octets.invariant.all
