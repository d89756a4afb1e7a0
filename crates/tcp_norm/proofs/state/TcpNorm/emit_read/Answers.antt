use Rattle.std.proofs.Common.{◌∙◌, sym}
use Rattle.tcp_norm.proofs.InboundSegments.{head_given, frame_headed}
use Rattle.tcp_norm.proofs.OutboundSegments.{frame_read}
use Rattle.tcp_norm.proofs.state.TcpNorm.emit_read.Goals as goal

pub returns-then-is_empty-clause-frames : goal.returns-then-is_empty-clause-frames
returns-then-is_empty-clause-frames c settings d ws rows opened is none =
    let a = c.args.arrival.now in
    frame_read settings d ws a.packet.now a.link.now rows is none (sym c.if-is_empty.ensures)

pub returns-clause-frames : goal.returns-clause-frames
returns-clause-frames c settings d ws rows opened is none =
    let a = c.args.arrival.now in
    c.put_anew.ensures
    ∙ frame_headed settings d ws a.packet.now a.link.now rows c.head_sent-head.result is
    (c.head_sent-head.ensures ∙ head_given settings c.args.self.now.limits.hops a.packet.now a.link.now d (λ k. (opened.limits k).hops) is) none (sym c.if-is_empty.ensures)
