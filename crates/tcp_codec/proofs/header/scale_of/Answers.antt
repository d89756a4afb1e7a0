use Rattle.std.proofs.Common.{sym, ◌∙◌, arith}
use Rattle.wire_base.proofs.OptionLists.{scale_of-walk}
use Rattle.tcp_codec.proofs.Walks.{scale-last, scale-step}
use Rattle.tcp_codec.proofs.header.scale_of.Goals as goal

pub loop-at-init : goal.loop-at-init
loop-at-init c = record { inside = omega arith; counted = omega arith; formed = c.requires; scale = scale_of-walk c.args.options.now }

pub loop-at-preserved : goal.loop-at-preserved
loop-at-preserved c =
    let area = c.args.options.now in
    let at = c.loop-at.at in
    let s = c.step_at-size.ensures in
    record {
      inside = s.inside;
      counted = omega arith;
      formed = s.formed;
      scale = c.loop-at.invariant.scale ∙ scale-step area at c.step_at-size.result c.loop-at.invariant.formed (omega arith) (omega arith) s.none s.option (sym c.is_window_scale.ensures ∙ c.if-is_window_scale.false);
    }

pub returns-after-loop-at : goal.returns-after-loop-at
returns-after-loop-at c = sym (c.loop-at.invariant.scale ∙ scale-last c.args.options.now c.loop-at.at (λ begins. absurd (omega arith)))
