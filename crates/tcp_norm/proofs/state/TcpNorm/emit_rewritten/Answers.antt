use Rattle.std.proofs.Common.{◌≤◌, ◌∙◌, take, sym, ap, subst, arith}
use Rattle.tcp_codec.specs.declared.header.Tcp.{Tcp}
use Rattle.ip_rules.specs.Datagrams.{goes_in}
use Rattle.tcp_norm.specs.working.RewrittenSegments.{rewritten}
use Rattle.tcp_norm.proofs.InboundSegments.{head_given, frame_rewritten}
use Rattle.tcp_norm.proofs.OutboundSegments.{frame_mended}
use Rattle.tcp_norm.proofs.state.TcpNorm.emit_rewritten.Goals as goal

pub put_mended-requires-clause-long : goal.put_mended-requires-clause-long
put_mended-requires-clause-long c = let a = c.args.arrival.now in omega (arith, a.read.least, a.read.inside)

pub put_mended-requires-clause-words : goal.put_mended-requires-clause-words
put_mended-requires-clause-words c = let a = c.args.arrival.now in subst (λ (h : Tcp). 20 ≤ h.header) a.read.fields a.read.least

pub returns-in-Inward-clause-frames : goal.returns-in-Inward-clause-frames
returns-in-Inward-clause-frames c settings d ws opened is anews =
    let a = c.args.arrival.now in
    let p = c.args.passage.now in
    let side = ap goes_in (is.side ∙ c.in-Inward.is) in
    c.put_rewritten.ensures
    ∙ frame_rewritten settings d ws a.packet.now a.link.now p.rows.items (rewritten a c.head_sent-head.result p (take p.size c.deref.result.now)) c.head_sent-head.result
    side (c.head_sent-head.ensures ∙ head_given settings c.args.self.now.limits.hops a.packet.now a.link.now d (λ k. (opened.limits k).hops) is) c.requires.some
    (anews.anew side c.requires.some ∙ (λ k. rewritten a ((sym c.head_sent-head.ensures) k) p (take p.size ((sym c.deref.ensures.value) k))))

pub returns-in-Outward-clause-frames : goal.returns-in-Outward-clause-frames
returns-in-Outward-clause-frames c settings d ws opened is anews =
    let a = c.args.arrival.now in
    c.put_mended.ensures
    ∙ frame_mended settings d ws a.packet.now a.link.now c.args.passage.now.rows.items c.head_sent-head.result (ap goes_in (is.side ∙ c.in-Outward.is)) is
    (c.head_sent-head.ensures ∙ head_given settings c.args.self.now.limits.hops a.packet.now a.link.now d (λ k. (opened.limits k).hops) is) c.requires.some
