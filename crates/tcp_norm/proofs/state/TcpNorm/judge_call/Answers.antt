use Rattle.std.proofs.Common.{◌∙◌, false, [], ◌∷◌, None, sym, ap, subst, refl}
use Rattle.rule_book.specs.declared.rule.Rule.TheVariants as rules
use Rattle.wire_base.specs.Tcp as tcp
use Rattle.wire_base.specs.Segments.{Written}
use Rattle.tcp_codec.specs.declared.header.Tcp.{Tcp}
use Rattle.era_state.specs.SegmentFields.{came}
use Rattle.tcp_norm.specs.Calls.{segment_in}
use Rattle.tcp_norm.specs.RuleViews.{view_of}
use Rattle.tcp_norm.specs.EmittedPackets.{flags_cleared, packet_by}
use Rattle.tcp_norm.specs.working.InwardSegments.{bare_read, passed}
use Rattle.tcp_norm.specs.Outcomes.{outcome_at}
use Rattle.tcp_norm.specs.working.EraSteps.{IsStep, Does, began}
use Rattle.tcp_norm.specs.declared.step.Step.{Step}
use Rattle.tcp_norm.proofs.Connections.{call_sent, calling, view_cold, cold_full, cold_passes, full_is, full_not, step_called, none_came}
use Rattle.tcp_norm.proofs.BareSegments.{comes_bare, bare_anew, beside_are}
use Rattle.tcp_norm.proofs.InboundSegments.{refused, in_dropped, in_unheard, in_outcome, in_does, keyed, packets_begun, side_is, says}
use Rattle.tcp_norm.proofs.SynsAndResets.{bare_writes, called_marked, begun_probes, cold_stream, bare_carried, rewritten_in}
use Rattle.tcp_norm.proofs.state.TcpNorm.judge_call.Goals as goal

pub returns-in-None : goal.returns-in-None
returns-in-None c = says c.args.arrival.now c.args.self.now _ _ _ _ _ _ _ (refused c.args.arrival.now _ _ _ _ rules.TFull None c.requires.empty (c.report_dropped.ensures [] refl)) (λ settings calls d st is.
    let a = c.args.arrival.now in
    let v = view_of settings calls d in
    let side = side_is a.packet.now a.link.now d c.requires.keyed.side is in
    let key_is = keyed a.packet.now a.link.now d _ c.requires.keyed.side is c.requires.keyed.key_is in
    let none = view_cold settings calls _ _ _ _ d st.holds c.requires.absent key_is in
    let called = calling d a.head.now.flags.0 side (ap tcp.flags is.octets ∙ sym (ap (λ (h : Tcp). h.flags.0) a.read.fields)) c.requires.call in
    let drops = cold_full settings v d side none called.cold (full_is v (segment_in d) none called.call (c.in-None.ensures.none settings calls d st)) in
    record {
      stands = (c.arrive.ensures settings calls d (outcome_at settings v d) st (in_unheard settings v d rules.TFull drops)).stands;
      rules = record { outcome_is = in_dropped settings v d rules.TFull None [] drops none refl; carried = c.requires.keyed.side };
    })

pub offer-requires-clause-syn : goal.offer-requires-clause-syn
offer-requires-clause-syn c = (call_sent c.args.arrival.now.head.now.flags.0 c.bare_seg-seg.result.flags.0 (ap (λ (w : Written). w.flags) c.bare_seg-seg.ensures.read ∙ ap flags_cleared (sym (ap (λ (h : Tcp). h.flags.0) c.args.arrival.now.read.fields))) c.requires.call).0

pub offer-requires-clause-no_ack : goal.offer-requires-clause-no_ack
offer-requires-clause-no_ack c = (call_sent c.args.arrival.now.head.now.flags.0 c.bare_seg-seg.result.flags.0 (ap (λ (w : Written). w.flags) c.bare_seg-seg.ensures.read ∙ ap flags_cleared (sym (ap (λ (h : Tcp). h.flags.0) c.args.arrival.now.read.fields))) c.requires.call).1

pub returns-in-Some : goal.returns-in-Some
returns-in-Some c = says c.args.arrival.now c.args.self.now _ _ _ _ _ _ _ c.pass.ensures (λ settings calls d st is.
    let a = c.args.arrival.now in
    let v = view_of settings calls d in
    let w = segment_in d in
    let seg = c.bare_seg-seg.result in
    let side = side_is a.packet.now a.link.now d c.requires.keyed.side is in
    let key_is = keyed a.packet.now a.link.now d _ c.requires.keyed.side is c.requires.keyed.key_is in
    let comes = comes_bare d _ seg side key_is (c.bare_seg-seg.ensures.read ∙ ap bare_read (sym is.octets)) in
    let none = view_cold settings calls _ _ _ _ d st.holds c.requires.absent key_is in
    let p = c.admit-place.result in
    let found = sym (c.admit-place.ensures.answer settings calls d st) in
    let called = calling d a.head.now.flags.0 side (ap tcp.flags is.octets ∙ sym (ap (λ (h : Tcp). h.flags.0) a.read.fields)) c.requires.call in
    let call = called.call in
    let asked = called.asked in
    let passes = cold_passes settings v d comes.side none called.cold (full_not v w p found) in
    let marked = called_marked v w side asked in
    let stream = cold_stream v w none in
    let probes = begun_probes v w none asked in
    let named = c.rows_beside-rows.result.items in
    let mends = beside_are settings v d a.packet.now.payload.now a.head.now c.options_change-changed.result false named a.read.fields is.octets side stream probes
    c.options_change-changed.ensures.changed c.rows_beside-rows.ensures.rows in
    let step = subst (IsStep v w) (sym c.begun.ensures) (step_called v w p comes.side none call found) in
    let is_it = in_outcome settings v d c.begun.result d.fixes named _ side refl passes mends step (ap (λ (s : Step). s.full) c.begun.ensures) (packets_begun settings v d named none asked) in
    let writes = bare_writes c.segments_are_read_back.ensures settings v d a.packet.now a.link.now a.head.now false named seg side is
    c.are_bits.ensures a.read _ refl c.options_change-changed.ensures.words c.options_change-changed.ensures.size marked stream probes mends c.bare_seg-seg.ensures.read in
    let does = subst (Does d (came seg) (began p)) (sym is_it) (subst (λ s. Does d (came seg) (began p) (passed s d.fixes named (packet_by settings v.segments d d.fixes named ∷ []))) (sym c.begun.ensures) (in_does d (came seg) (began p) d.fixes named _ writes)) in
    record {
      stands = c.admit-place.ensures.stands settings calls d (came seg) (outcome_at settings v d) st key_is c.offer.ensures.stands (none_came seg) does;
      rules = record { outcome_is = is_it; carried = rewritten_in v.segments d a _ _ side (bare_carried v.segments d a.packet.now a.link.now a.head.now is a.read (bare_anew v.segments d marked)) };
    })
