use Rattle.std.proofs.Common.{◌≡◌, ◌∙◌, true, cond, [], ◌∷◌, map, Some, None, sym, ap, subst, refl}
use Rattle.wire_base.specs.Tcp as tcp
use Rattle.rule_book.specs.declared.rule.Rule.TheVariants as rules
use Rattle.era_state.specs.SegmentFields.{came}
use Rattle.era_state.specs.Rules.{t_rst}
use Rattle.era_state.specs.SilentSegments.{IsSilent}
use Rattle.reset_probe.specs.Rules.{era_probe}
use Rattle.ip_rules.specs.Datagrams.{goes_in}
use Rattle.tcp_norm.specs.Calls.{read, segments, segment_in}
use Rattle.tcp_norm.specs.RuleViews.{view_of}
use Rattle.tcp_norm.specs.EmittedPackets.{packet_by, probe_packets}
use Rattle.tcp_norm.specs.working.LiveWrites.{WritesAll}
use Rattle.tcp_norm.specs.working.EraSteps.{IsStep}
use Rattle.tcp_norm.specs.working.EmptySegments.{BringsNone}
use Rattle.tcp_norm.specs.declared.step.Step.{Step}
use Rattle.tcp_norm.specs.working.LiveSlots.{Live}
use Rattle.tcp_norm.specs.working.Rulings.{IsFound}
use Rattle.linked_table.proofs.Lists.{all_weaker}
use Rattle.tcp_norm.proofs.KeptOctets.{silent_brings_none, silent_stands}
use Rattle.tcp_norm.proofs.Connections.{step_seen, rst_same, probe_same, reset_dropped, no_call, refused_alone, passed_alone}
use Rattle.tcp_norm.proofs.BareSegments.{bare_anew, beside_are}
use Rattle.tcp_norm.proofs.InboundSegments.{refused, in_dropped, in_unheard, in_outcome, packets_reset, judged, of_live, writes_all, says}
use Rattle.tcp_norm.proofs.SynsAndResets.{bare_writes, reset_stream, reset_probes, rst_marked, no_recall, reset_silent, probes_silent, first_is, bare_carried, rewritten_in}
use Rattle.tcp_norm.proofs.state.TcpNorm.judge_reset.Goals as goal

pub returns-in-Refuse : goal.returns-in-Refuse
returns-in-Refuse c = says c.args.arrival.now c.args.self.now _ _ _ _ _ _ _ (refused c.args.arrival.now _ _ _ _ rules.TRst _ c.requires.empty (c.report_dropped.ensures [] refl)) (λ settings calls d st is.
    let a = c.args.arrival.now in
    let key = c.requires.live.key in
    let here : Live = record { key = key; slot = c.args.slot; flow = c.flow_at-flow.result.now } in
    let flow = c.flow_at-flow.ensures in
    let found : IsFound c.args.self.now c.args.arrival.now here = record { held = flow.held key c.requires.live.of_key; keyed = c.requires.live.keyed } in
    let n = here.flow.number in
    let seg = c.bare_seg-seg.result in
    let l = of_live settings calls d a c.args.self.now here st is found in
    let comes = l.comes seg c.bare_seg-seg.ensures.read in
    let v = view_of settings calls d in
    let rst = sym (ap tcp.has_rst l.flags) ∙ c.requires.rst in
    let syn = no_call (segment_in d).flags (sym (ap tcp.are_legal l.flags) ∙ a.read.legal) rst in
    let asked = sym (rst_same v.segments d _ seg comes) ∙ ap (λ ws. t_rst ws (came seg)) l.live.segments_are in
    let answered = sym (c.judge_reset-answer.ensures (segments n calls) l.stood) in
    let drops = reset_dropped settings v d n l.side l.live.era_is rst syn
    ∙ ap (λ b. cond b (Some rules.TRst) None) (asked ∙ refused_alone (segments n calls) (came seg) (answered ∙ c.in-Refuse.is)) in
    judged settings calls d a c.args.self.now _ _
    (record {
      outcome_is = in_dropped settings v d rules.TRst (Some n) [] drops l.live.era_is refl;
      carried = found.keyed.side;
    })
    (c.arrive.ensures settings calls d _ st (in_unheard settings v d rules.TRst drops)))

pub returns-in-Pass : goal.returns-in-Pass
returns-in-Pass c = says c.args.arrival.now c.args.self.now _ _ _ _ _ _ _ c.pass.ensures (λ settings calls d st is.
    let a = c.args.arrival.now in
    let key = c.requires.live.key in
    let here : Live = record { key = key; slot = c.args.slot; flow = c.flow_at-flow.result.now } in
    let flow = c.flow_at-flow.ensures in
    let found : IsFound c.args.self.now c.args.arrival.now here = record { held = flow.held key c.requires.live.of_key; keyed = c.requires.live.keyed } in
    let n = here.flow.number in
    let seg = c.bare_seg-seg.result in
    let l = of_live settings calls d a c.args.self.now here st is found in
    let comes = l.comes seg c.bare_seg-seg.ensures.read in
    let v = view_of settings calls d in
    let w = segment_in d in
    let rst : tcp.has_rst w.flags ≡ true = sym (ap tcp.has_rst l.flags) ∙ c.requires.rst in
    let syn = no_call w.flags (sym (ap tcp.are_legal l.flags) ∙ a.read.legal) rst in
    let asked = sym (rst_same v.segments d _ seg comes) ∙ ap (λ ws. t_rst ws (came seg)) l.live.segments_are in
    let answered = sym (c.judge_reset-answer.ensures (segments n calls) l.stood) in
    let passed = passed_alone (segments n calls) (came seg) c.in-Pass.probe (answered ∙ c.in-Pass.is) in
    let probed : c.in-Pass.probe ≡ era_probe v.segments w =
    passed.1 ∙ (ap (λ ws. era_probe ws (came seg)) (sym l.live.segments_are) ∙ probe_same v.segments d _ seg comes) in
    let passes = reset_dropped settings v d n l.side l.live.era_is rst syn ∙ ap (λ b. cond b (Some rules.TRst) None) (asked ∙ passed.0) in
    let stream = reset_stream v w n l.live.era_is l.side syn rst in
    let probes = reset_probes v w n c.in-Pass.probe l.live.era_is l.side rst probed ∙ sym c.is_some.ensures in
    let named = c.rows_beside-rows.result.items in
    let mends = beside_are settings v d a.packet.now.payload.now a.head.now c.options_change-changed.result _ named a.read.fields is.octets l.side stream probes c.options_change-changed.ensures.changed c.rows_beside-rows.ensures.rows in
    let step = subst (IsStep v w) (sym c.within-step.ensures) (step_seen v w n l.live.era_is l.side (no_recall v.segments w l.side syn)) in
    let own = packet_by settings v.segments d d.fixes named in
    let packets = own ∷ probe_packets settings d c.in-Pass.probe in
    let sends = packets_reset settings v d named n l.live.era_is l.side rst ∙ ap (λ p. own ∷ probe_packets settings d p) (sym probed) in
    let is_it = in_outcome settings v d c.within-step.result d.fixes named packets l.side refl passes mends step (ap (λ (s : Step). s.full) c.within-step.ensures) sends in
    let marked = rst_marked w syn rst in
    let first = first_is (bare_writes c.segments_are_read_back.ensures settings v d a.packet.now a.link.now a.head.now _ named seg l.side is
    c.are_bits.ensures a.read _ refl c.options_change-changed.ensures.words c.options_change-changed.ensures.size marked stream probes mends c.bare_seg-seg.ensures.read) in
    let silent = subst IsSilent (sym first) (reset_silent seg c.bare_seg-seg.ensures.flags (comes.syn ∙ syn) (comes.rst ∙ rst)) in
    let written = map (λ p. read (goes_in d.side) p.octets) packets in
    judged settings calls d a c.args.self.now _ _
    (record { outcome_is = is_it; carried = rewritten_in v.segments d a _ _ l.side (bare_carried v.segments d a.packet.now a.link.now a.head.now is a.read (bare_anew v.segments d marked)) })
    (c.touch.ensures settings calls d key here.flow written _ st found.held
    (record {
      key_is = sym l.key_is;
      none = all_weaker IsSilent BringsNone silent_brings_none written (silent, probes_silent settings d c.in-Pass.probe l.side);
      stands = silent_stands c.silence_stands.ensures here.flow.era (segments n calls) written (silent, probes_silent settings d c.in-Pass.probe l.side) l.stood;
      writes = subst (WritesAll d n written) (sym is_it) (writes_all d n c.within-step.result d.fixes named packets c.within-step.ensures);
    })))
