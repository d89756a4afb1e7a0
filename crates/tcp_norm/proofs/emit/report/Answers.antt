use Rattle.std.proofs.Common.{◌∙◌, false, [], ◌∷◌, None, refl, sym, subst}
use Rattle.tcp_norm.specs.working.InwardSegments.{passed}
use Rattle.tcp_norm.specs.PassedPackets.{Reports}
use Rattle.tcp_norm.specs.EmittedPackets.{probe_packet, probe_packets, packet_by}
use Rattle.tcp_norm.specs.working.Rulings.{packets_of, outcome_of}
use Rattle.tcp_norm.proofs.SynsAndResets.{probes_long, packets_long}
use Rattle.tcp_norm.proofs.emit.report.Goals as goal

pub returns-in-Drop : goal.returns-in-Drop
returns-in-Drop c settings ws d is =
    let r = c.in-Drop.refusal in
    subst (λ x. Reports c.args.entry.now c.report_dropped.new.entry (outcome_of settings ws d x)) (sym c.in-Drop.is)
    (c.report_dropped.ensures (probe_packets settings d r.probe) (probes_long settings d r.probe ∙ sym c.packets_in-packets.ensures))

pub returns-in-Pass : goal.returns-in-Pass
returns-in-Pass c settings ws d is =
    let e = c.in-Pass.passage in
    let packets = packets_of settings ws d e in
    subst (λ x. Reports c.args.entry.now c.report_passed.new.entry (outcome_of settings ws d x)) (sym c.in-Pass.is)
    (subst (λ fixes. Reports c.args.entry.now c.report_passed.new.entry (passed e.step fixes e.rows.items packets)) (sym is.fixes)
    (c.report_passed.ensures packets (packets_long settings d (packet_by settings ws d d.fixes e.rows.items) e.probe ∙ sym c.packets_with-packets.ensures)))

pub returns-in-Ask : goal.returns-in-Ask
returns-in-Ask c settings ws d is =
    let q = c.in-Ask.question in
    let packets = probe_packet settings d q.probe ∷ [] in
    subst (λ x. Reports c.args.entry.now c.report_passed-in-Ask.new.entry (outcome_of settings ws d x)) (sym c.in-Ask.is)
    (subst (λ fixes. Reports c.args.entry.now c.report_passed-in-Ask.new.entry (passed (record { era = None; begun = None; ended = None; full = false }) fixes q.rows.items packets)) (sym is.fixes)
    (subst (λ s. Reports c.args.entry.now c.report_passed-in-Ask.new.entry (passed s c.args.arrival.now.packet.now.fixes.items q.rows.items packets)) c.outside.ensures
    (c.report_passed-in-Ask.ensures packets refl)))
