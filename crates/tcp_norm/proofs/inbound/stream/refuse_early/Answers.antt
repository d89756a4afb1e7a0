use Rattle.std.proofs.Common.{◌∙◌, Some, sym, ap}
use Rattle.wire_base.specs.Tcp as tcp
use Rattle.rule_book.specs.declared.rule.Rule.TheVariants as rules
use Rattle.era_state.specs.States.{state_of}
use Rattle.tcp_norm.specs.Calls.{segments, segment_in}
use Rattle.tcp_norm.specs.working.LiveSlots.{Live}
use Rattle.tcp_norm.specs.RuleViews.{view_of}
use Rattle.tcp_norm.specs.EmittedPackets.{probe_packets}
use Rattle.tcp_norm.proofs.Connections.{cold_probe_same}
use Rattle.tcp_norm.proofs.InboundSegments.{in_dropped, in_unheard, early_now, early_dropped, of_live}
use Rattle.tcp_norm.proofs.inbound.stream.refuse_early.Goals as goal

pub returns : goal.returns
returns c norm key slot settings calls d found st is =
    let here : Live = record { key = key; slot = slot; flow = c.args.flow.now } in
    let l = of_live settings calls d c.args.arrival.now norm here st is found in
    let v = view_of settings calls d in
    let state = (c.states_are_the_lists.ensures here.flow.era (segments here.flow.number calls) l.stood).state_is ∙ ap state_of (sym l.live.segments_are) in
    let early = early_now v.segments (segment_in d) _ state c.requires.early l.side (sym (ap tcp.has_syn l.flags) ∙ c.requires.plain.no_syn) (sym (ap tcp.has_rst l.flags) ∙ c.requires.plain.no_rst) in
    let drops = early_dropped settings v d here.flow.number l.side l.live.era_is early in
    let probe = c.cold_probe-probe.ensures ∙ cold_probe_same d _ c.bare_seg-seg.result (l.comes c.bare_seg-seg.result c.bare_seg-seg.ensures.read) in
    record {
      rules = record {
        outcome_is = in_dropped settings v d rules.TState (Some here.flow.number) _ drops l.live.era_is (ap (λ p. probe_packets settings d (Some p)) (sym probe));
        carried = found.keyed.side;
      };
      unheard = in_unheard settings v d rules.TState drops;
    }
