use Rattle.std.proofs.Common.{◌≡◌, ◌+◌, ◌∙◌, true, cond, Some, sym, ap, subst, arith}
use Rattle.wire_base.specs.Tcp as tcp
use Rattle.linked_table.specs.EntryTable.{Wherever}
use Rattle.era_state.specs.Quantities.{octets_of}
use Rattle.era_state.specs.SegmentFields.{came}
use Rattle.tcp_norm.specs.Calls.{segments, segment_in}
use Rattle.tcp_norm.specs.working.LiveSlots.{Live}
use Rattle.tcp_norm.specs.working.Rulings.{IsFound}
use Rattle.tcp_norm.specs.RuleViews.{view_of}
use Rattle.tcp_norm.specs.Outcomes.{outcome_at}
use Rattle.tcp_norm.specs.working.EraSteps.{Does, continued_in, reopened_by}
use Rattle.tcp_norm.proofs.Connections.{no_reset}
use Rattle.tcp_norm.proofs.InboundSegments.{in_unheard, judged, of_live, says}
use Rattle.tcp_norm.proofs.SynsAndResets.{rewritten_in, syn_refused, of_syn}
use Rattle.tcp_norm.proofs.state.TcpNorm.judge_syn.Goals as goal

pub overflow_add-self : goal.overflow_add-self
overflow_add-self c = omega (arith, c.args.self.now.few, c.requires.ready.few)

pub returns-in-Some : goal.returns-in-Some
returns-in-Some c = says c.args.arrival.now c.args.self.now _ _ _ _ _ _ _ c.carry_out.ensures (λ settings calls d st is.
    let key = c.requires.live.key in
    let here : Live = record { key = key; slot = c.args.slot; flow = c.flow_at-flow.result.now } in
    let flow = c.flow_at-flow.ensures in
    let found : IsFound c.args.self.now c.args.arrival.now here = record { held = flow.held key c.requires.live.of_key; keyed = c.requires.live.keyed } in
    let a = c.args.arrival.now in
    let n = here.flow.number in
    let l = of_live settings calls d a c.args.self.now here st is found in
    let v = view_of settings calls d in
    let seg = c.bare_seg-seg.result in
    let syn : tcp.has_syn (segment_in d).flags ≡ true = sym (ap tcp.has_syn l.flags) ∙ c.requires.syn in
    let rst = no_reset (segment_in d).flags (sym (ap tcp.are_legal l.flags) ∙ a.read.legal) syn in
    let r = c.in-Some.refusal in
    let drops = syn_refused settings v d n (segments n calls) here.key seg (Some r) l.live.era_is l.live.segments_are (l.comes seg c.bare_seg-seg.ensures.read) syn rst (c.in-Some.ensures (segments n calls) l.stood) in
    judged settings calls d a c.args.self.now _ _ (record { outcome_is = drops.outcome_is; carried = found.keyed.side }) (c.arrive.ensures settings calls d _ st (in_unheard settings v d r.rule drops.drops)))

pub offer-requires-then-again-clause-keyed : goal.offer-requires-then-again-clause-keyed
offer-requires-then-again-clause-keyed c =
    let live = c.requires.live in
    subst (λ k. Wherever c.args.self.now.table.entries c.args.slot (λ e. e.key.0 ≡ k)) (live.keyed.key_is ∙ sym c.inward_key-key.ensures) live.of_key

pub returns-then-again : goal.returns-then-again
returns-then-again c = says c.args.arrival.now c.args.self.now _ _ _ _ _ _ _ c.pass.ensures (λ settings calls d st is.
    let key = c.requires.live.key in
    let here : Live = record { key = key; slot = c.args.slot; flow = c.flow_at-flow.result.now } in
    let flow = c.flow_at-flow.ensures in
    let found : IsFound c.args.self.now c.args.arrival.now here = record { held = flow.held key c.requires.live.of_key; keyed = c.requires.live.keyed } in
    let n = here.flow.number in
    let seg = c.bare_seg-seg.result in
    let o = of_syn c.segments_are_read_back.ensures settings calls d c.args.arrival.now c.args.self.now here seg c.options_change-changed.result c.is_reopen-again.result c.rows_beside-rows.result.items c.reopening-step.result st is found
    c.are_bits.ensures c.requires.syn c.bare_seg-seg.ensures.read c.options_change-changed.ensures.changed c.options_change-changed.ensures.words c.options_change-changed.ensures.size c.rows_beside-rows.ensures.rows
    c.in_default.ensures (λ ws stood. c.is_reopen-again.ensures ∙ c.judge_syn-answer.ensures.reopens ws stood) (λ ws stood. c.reopening-step.ensures ws stood ∙ ap (λ b. cond b (reopened_by here.flow.number (c.args.self.now.begun + 1) (octets_of ws)) (continued_in here.flow.number)) (sym c.if-again.true)) in
    judged settings calls d c.args.arrival.now c.args.self.now _ _ (record { outcome_is = o.outcome_is; carried = rewritten_in (view_of settings calls d).segments d c.args.arrival.now _ _ o.side o.carried })
    (c.offer-then-again.ensures settings calls d here.flow _ st found.held.entry
    (record {
      key_is = c.inward_key-key.ensures ∙ (sym c.requires.live.keyed.key_is ∙ o.key_is);
      first = seg;
      stands = c.offer.ensures.stands;
      octets = octets_of (segments n calls);
      does = subst (λ s. Does d (came seg) s (outcome_at settings (view_of settings calls d) d))
          (c.reopening-step.ensures (segments n calls) o.stood) o.does;
    })))

pub returns : goal.returns
returns c = says c.args.arrival.now c.args.self.now _ _ _ _ _ _ _ c.pass-2.ensures (λ settings calls d st is.
    let key = c.requires.live.key in
    let here : Live = record { key = key; slot = c.args.slot; flow = c.flow_at-flow.result.now } in
    let flow = c.flow_at-flow.ensures in
    let found : IsFound c.args.self.now c.args.arrival.now here = record { held = flow.held key c.requires.live.of_key; keyed = c.requires.live.keyed } in
    let n = here.flow.number in
    let seg = c.bare_seg-seg.result in
    let o = of_syn c.segments_are_read_back.ensures settings calls d c.args.arrival.now c.args.self.now here seg c.options_change-changed.result c.is_reopen-again.result c.rows_beside-rows.result.items c.within.result st is found
    c.are_bits.ensures c.requires.syn c.bare_seg-seg.ensures.read c.options_change-changed.ensures.changed c.options_change-changed.ensures.words c.options_change-changed.ensures.size c.rows_beside-rows.ensures.rows
    c.in_default.ensures (λ ws stood. c.is_reopen-again.ensures ∙ c.judge_syn-answer.ensures.reopens ws stood) (λ ws stood. c.within.ensures ∙ ap (λ b. cond b (reopened_by here.flow.number (c.args.self.now.begun + 1) (octets_of ws)) (continued_in here.flow.number)) (sym c.if-again.false)) in
    judged settings calls d c.args.arrival.now c.args.self.now _ _ (record { outcome_is = o.outcome_is; carried = rewritten_in (view_of settings calls d).segments d c.args.arrival.now _ _ o.side o.carried })
    (c.hear.ensures settings calls d key here.flow _ st found.held
    (record {
      key_is = o.key_is;
      stood = o.stood;
      does = subst (λ s. Does d (came seg) s (outcome_at settings (view_of settings calls d) d))
          c.within.ensures o.does;
    })))
