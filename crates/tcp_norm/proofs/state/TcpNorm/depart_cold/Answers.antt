use Rattle.std.proofs.Common.{false, true, [], ◌∷◌, None, sym, subst}
use Rattle.wire_base.specs.Segments.{Written}
use Rattle.era_state.specs.Eras as era
use Rattle.tcp_norm.specs.Calls.{segment_in}
use Rattle.tcp_norm.specs.RuleViews.{view_of}
use Rattle.tcp_norm.specs.working.EraSteps.{IsStep, Does, began}
use Rattle.tcp_norm.proofs.Connections.{view_cold, step_stray, step_full, step_begun}
use Rattle.tcp_norm.proofs.CallEffects.{none_kept, outside_unheard}
use Rattle.tcp_norm.proofs.state.TcpNorm.depart_cold.Goals as goal

pub returns-then-rst : goal.returns-then-rst
returns-then-rst c settings calls d octets long st sends =
    let v = view_of settings calls d in
    let none = view_cold settings calls _ _ _ c.args.hashed.now.key.0 d st.holds c.requires.absent sends.key_is in
    record {
      is_step = subst (IsStep v (segment_in d)) (sym c.outside.ensures)
          (subst (λ (w : Written). IsStep v w (record { era = None; begun = None; ended = None; full = false })) (sym sends.segment_is) (step_stray v c.args.seg.now octets none (sym c.if-rst.ensures)));
      stands = λ o does. (c.arrive.ensures settings calls d o st (outside_unheard d (segment_in d) o false (subst (λ x. Does d (segment_in d) x o) c.outside.ensures does))).stands;
    }

pub returns-in-None : goal.returns-in-None
returns-in-None c settings calls d octets long st sends =
    let v = view_of settings calls d in
    let none = view_cold settings calls _ _ _ c.args.hashed.now.key.0 d st.holds c.requires.absent sends.key_is in
    record {
      is_step = subst (IsStep v (segment_in d)) (sym c.outside-in-None.ensures)
          (subst (λ (w : Written). IsStep v w (record { era = None; begun = None; ended = None; full = true })) (sym sends.segment_is)
          (step_full v c.args.seg.now octets none (sym c.if-rst.ensures) (c.in-None.ensures.none settings calls d st)));
      stands = λ o does. (c.arrive-in-None.ensures settings calls d o st (outside_unheard d (segment_in d) o true (subst (λ x. Does d (segment_in d) x o) c.outside-in-None.ensures does))).stands;
    }

pub returns-in-Some : goal.returns-in-Some
returns-in-Some c settings calls d octets long st sends =
    let v = view_of settings calls d in
    let w = segment_in d in
    let p = c.admit.result in
    let none = view_cold settings calls _ _ _ c.args.hashed.now.key.0 d st.holds c.requires.absent sends.key_is in
    record {
      is_step = subst (IsStep v w) (sym c.begun.ensures)
          (subst (λ (w : Written). IsStep v w (began p)) (sym sends.segment_is) (step_begun v c.args.seg.now octets p none (sym c.if-rst.ensures) (sym (c.admit.ensures.answer settings calls d st))));
      stands = λ o does. c.admit.ensures.stands settings calls d w o st sends.key_is
          (subst (λ (x : Written). era.StandsFor c.era_of.result (x ∷ [])) (sym sends.segment_is) (c.era_of.ensures.stands octets long)) (none_kept w sends.side) (subst (λ x. Does d w x o) c.begun.ensures does);
    }
