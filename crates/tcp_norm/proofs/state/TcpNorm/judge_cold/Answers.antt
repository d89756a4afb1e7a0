use Rattle.std.proofs.Common.{◌≡◌, ◌∙◌, true, [], ◌∷◌, None, sym, ap, subst, refl}
use Rattle.rule_book.specs.declared.rule.Rule.TheVariants as rules
use Rattle.std.proofs.lemmas.Bool.{false≢true}
use Rattle.wire_base.specs.Segments.{Written}
use Rattle.tcp_codec.specs.declared.header.Tcp.{Tcp}
use Rattle.tcp_norm.specs.Calls.{segment_in}
use Rattle.tcp_norm.specs.RuleViews.{view_of}
use Rattle.tcp_norm.specs.working.ColdDatagrams.{IsUnheard}
use Rattle.tcp_norm.specs.EmittedPackets.{flags_cleared, probe_packet}
use Rattle.tcp_norm.specs.working.InwardSegments.{bare_read}
use Rattle.tcp_norm.specs.Outcomes.{outcome_at}
use Rattle.tcp_norm.proofs.Connections.{sent_call, view_cold, cold_same, asked_same, call_same, cold_probe_same, cold_refused, cold_passes, no_call_no_begin}
use Rattle.tcp_norm.proofs.BareSegments.{comes_bare, beside_are}
use Rattle.tcp_norm.proofs.InboundSegments.{in_dropped, in_unheard, in_outcome, keyed, asks, refused, step_asked, packets_asked, side_is, says}
use Rattle.tcp_norm.proofs.SynsAndResets.{cold_probes, cold_stream}
use Rattle.tcp_norm.proofs.state.TcpNorm.judge_cold.Goals as goal

pub judge_call-requires-clause-call : goal.judge_call-requires-clause-call
judge_call-requires-clause-call c = sym c.if-are_of_call.ensures

pub unreachable-requires : goal.unreachable-requires
unreachable-requires c =
    let a = c.args.arrival.now in
    let flags : c.bare_seg-seg.result.flags.0 ≡ flags_cleared a.head.now.flags.0 =
    ap (λ (w : Written). w.flags) c.bare_seg-seg.ensures.read ∙ ap flags_cleared (sym (ap (λ (h : Tcp). h.flags.0) a.read.fields)) in
    absurd (false≢true (c.if-are_of_call.ensures ∙ sent_call a.head.now.flags.0 c.bare_seg-seg.result.flags.0 flags a.read.legal (sym c.in-Begin.ensures.begins)))

pub returns-in-Refuse : goal.returns-in-Refuse
returns-in-Refuse c = says c.args.arrival.now c.args.self.now _ _ _ _ _ _ _ (refused c.args.arrival.now _ _ _ _ rules.TCold None c.requires.empty (c.report_dropped.ensures [] refl)) (λ settings calls d st is.
    let a = c.args.arrival.now in
    let v = view_of settings calls d in
    let key_is = keyed a.packet.now a.link.now d _ c.requires.keyed.side is c.requires.keyed.key_is in
    let comes = comes_bare d _ c.bare_seg-seg.result (side_is a.packet.now a.link.now d c.requires.keyed.side is) key_is (c.bare_seg-seg.ensures.read ∙ ap bare_read (sym is.octets)) in
    let none = view_cold settings calls _ _ _ _ d st.holds c.requires.absent key_is in
    let drops = cold_refused settings v d comes.side none (sym (cold_same d c.args.hashed.now.key.0 c.bare_seg-seg.result comes) ∙ sym c.in-Refuse.ensures.refuses) in
    record {
      stands = (c.arrive.ensures settings calls d (outcome_at settings v d) st (in_unheard settings v d rules.TCold drops)).stands;
      rules = record { outcome_is = in_dropped settings v d rules.TCold None [] drops none refl; carried = c.requires.keyed.side };
    })

pub returns-in-Probe : goal.returns-in-Probe
returns-in-Probe c = says c.args.arrival.now c.args.self.now _ _ _ _ _ _ _ c.carry_out.ensures (λ settings calls d st is.
    let a = c.args.arrival.now in
    let v = view_of settings calls d in
    let w = segment_in d in
    let side = side_is a.packet.now a.link.now d c.requires.keyed.side is in
    let key_is = keyed a.packet.now a.link.now d _ c.requires.keyed.side is c.requires.keyed.key_is in
    let comes = comes_bare d _ c.bare_seg-seg.result side key_is (c.bare_seg-seg.ensures.read ∙ ap bare_read (sym is.octets)) in
    let none = view_cold settings calls _ _ _ _ d st.holds c.requires.absent key_is in
    let call = sym (call_same d c.args.hashed.now.key.0 c.bare_seg-seg.result comes) ∙ sym c.in-Probe.ensures.begins in
    let asked = sym (asked_same d c.args.hashed.now.key.0 c.bare_seg-seg.result comes) ∙ sym c.in-Probe.ensures.asks in
    let passes = cold_passes settings v d comes.side none (sym (cold_same d c.args.hashed.now.key.0 c.bare_seg-seg.result comes) ∙ sym c.in-Probe.ensures.refuses) (no_call_no_begin v w comes.side call) in
    let probe = c.in-Probe.ensures.fields ∙ cold_probe_same d c.args.hashed.now.key.0 c.bare_seg-seg.result comes in
    let named = c.rows_beside-rows.result.items in
    let mends = beside_are settings v d a.packet.now.payload.now a.head.now c.options_change-changed.result true named a.read.fields is.octets side (cold_stream v w none) (cold_probes v w none asked)
    c.options_change-changed.ensures.changed c.rows_beside-rows.ensures.rows in
    let sends = packets_asked settings v d named none asked ∙ ap (λ p. probe_packet settings d p ∷ []) (sym probe) in
    let is_it = in_outcome settings v d _ d.fixes named _ side refl passes mends (step_asked v w none (asks w asked)) refl sends in
    record {
      stands = (c.arrive-in-Probe.ensures settings calls d (outcome_at settings v d) st (subst IsUnheard (sym is_it) (record { era = λ written. refl; begun = refl; ended = refl }))).stands;
      rules = record { outcome_is = is_it; carried = c.requires.keyed.side };
    })
