use Rattle.std.proofs.Common.{◌≡◌, ◌+◌, ◌∙◌, false, [], ◌∷◌, Some, None, refl, sym, ap, ap₂, subst, arith}
use Rattle.wire_base.specs.Segments.{Written}
use Rattle.rule_book.specs.declared.entry.Reason.TheVariants as reasons
use Rattle.era_state.specs.Quantities.{octets_of}
use Rattle.era_state.specs.SegmentFields.{sent}
use Rattle.era_state.specs.Rules.{reopens_outward}
use Rattle.era_state.specs.Eras as era
use Rattle.tcp_norm.specs.working.LiveSlots.{Live}
use Rattle.tcp_norm.specs.Calls.{segments, eras, segment_in}
use Rattle.tcp_norm.specs.RuleViews.{view_of}
use Rattle.tcp_norm.specs.working.EraSteps.{IsStep, Does, continued_in, reopened_by}
use Rattle.tcp_norm.proofs.CallEffects.{ends_within, none_kept, tables_go_on}
use Rattle.tcp_norm.proofs.InboundSegments.{held_live}
use Rattle.tcp_norm.proofs.Connections.{step_next, step_reset, step_reopened}
use Rattle.tcp_norm.proofs.EraTable.{opened_kept}
use Rattle.tcp_norm.proofs.state.TcpNorm.depart_live.Goals as goal

pub returns : goal.returns
returns c settings calls d octets long st sends =
    let here : Live = record { key = c.args.key; slot = c.args.slot; flow = c.flow_at-flow.result.now } in
    let held = c.flow_at-flow.ensures.held c.args.key c.requires.keyed in
    let n = here.flow.number in
    let v = view_of settings calls d in
    let w = segment_in d in
    let l = held_live settings calls d c.args.self.now here st held sends.key_is in
    let none = ap (λ ws. reopens_outward ws (sent c.args.seg.now [])) l.live.segments_are ∙ (sym (c.calls_anew.ensures.list (segments n calls) l.at.era) ∙ c.if-calls_anew.false) in
    record {
      is_step = subst (IsStep v w) (sym c.within.ensures)
          (subst (λ (w : Written). IsStep v w (continued_in n)) (sym sends.segment_is) (step_next v c.args.seg.now octets n l.live.era_is (sym c.rst.ensures ∙ c.if-rst.false) none));
      stands = λ o does. c.send.ensures settings calls d here.key here.flow octets o st held long sends (subst (λ x. Does d w x o) c.within.ensures does);
    }

pub returns-then-rst : goal.returns-then-rst
returns-then-rst c settings calls d octets long st sends =
    let here : Live = record { key = c.args.key; slot = c.args.slot; flow = c.flow_at-flow.result.now } in
    let self = c.args.self.now in
    let held = c.flow_at-flow.ensures.held c.args.key c.requires.keyed in
    let n = here.flow.number in
    let v = view_of settings calls d in
    let w = segment_in d in
    let l = held_live settings calls d self here st held sends.key_is in
    let rst = sym c.rst.ensures ∙ c.if-rst.true in
    let told = c.octets-octets.ensures.list (segments n calls) l.at.era ∙ sym (ap octets_of l.live.segments_are) in
    record {
      is_step = subst (IsStep v w) (sym (c.reset.ensures ∙ ap (λ k. record { era = Some n; begun = None; ended = Some (record { era = n; reason = reasons.Reset; octets = Some k }); full = false }) told))
          (subst (λ (w : Written). IsStep v w (record { era = Some n; begun = None; ended = Some (record { era = n; reason = reasons.Reset; octets = Some (octets_of v.segments) }); full = false })) (sym sends.segment_is)
          (step_reset v c.args.seg.now octets n l.live.era_is c.requires.legal rst));
      stands = λ o does. ends_within settings self c.end.new.self calls c.args.now n d w o reasons.Reset (Some c.octets-octets.result) st
          (tables_go_on settings self _ c.end.new.self c.args.now 0 _ c.end.ensures.tables (omega arith) (opened_kept settings self _ st.opened refl refl refl refl) refl refl c.requires.ready.later)
          l.at.given (subst (λ x. Does d w x o) c.reset.ensures does) (c.end.ensures.holds (eras calls) (λ m. segments m calls) here.flow st.holds held.entry);
    }

pub returns-then-calls_anew : goal.returns-then-calls_anew
returns-then-calls_anew c settings calls d octets long st sends =
    let here : Live = record { key = c.args.key; slot = c.args.slot; flow = c.flow_at-flow.result.now } in
    let held = c.flow_at-flow.ensures.held c.args.key c.requires.keyed in
    let n = here.flow.number in
    let v = view_of settings calls d in
    let w = segment_in d in
    let l = held_live settings calls d c.args.self.now here st held sends.key_is in
    let some = ap (λ ws. reopens_outward ws (sent c.args.seg.now [])) l.live.segments_are ∙ (sym (c.calls_anew.ensures.list (segments n calls) l.at.era) ∙ c.if-calls_anew.true) in
    let next : c.args.self.now.begun + 1 ≡ v.next = omega (arith, st.begun_is) in
    let told = c.octets-octets-then-calls_anew.ensures.list (segments n calls) l.at.era ∙ sym (ap octets_of l.live.segments_are) in
    record {
      is_step = subst (IsStep v w) (sym (c.reopened.ensures ∙ ap₂ (reopened_by n) next told))
          (subst (λ (w : Written). IsStep v w (reopened_by n v.next (octets_of v.segments))) (sym sends.segment_is) (step_reopened v c.args.seg.now octets n l.live.era_is some));
      stands = λ o does. (c.reopen.ensures settings calls d w here.flow c.octets-octets-then-calls_anew.result o st held.entry (sym sends.key_is)
          (subst (λ (x : Written). era.StandsFor c.era_of.result (x ∷ [])) (sym sends.segment_is) (c.era_of.ensures.stands octets long))
          (none_kept w sends.side) (subst (λ x. Does d w x o) c.reopened.ensures does)).stands;
    }
