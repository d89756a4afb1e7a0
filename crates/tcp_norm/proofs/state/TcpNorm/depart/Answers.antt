use Rattle.std.proofs.Common.{◌∙◌, ap, sym}
use Rattle.tcp_norm.specs.declared.key.EraKey.{EraKey}
use Rattle.wire_base.specs.Tcp as tcp
use Rattle.tcp_norm.proofs.OutboundSegments.{sends_it}
use Rattle.tcp_norm.proofs.state.TcpNorm.depart.Goals as goal

pub returns-in-Some : goal.returns-in-Some
returns-in-Some c settings calls d st is =
    let a = c.args.arrival.now in
    let octets = tcp.payload a.packet.now.payload.now in
    let sends = sends_it a.packet.now a.link.now d c.seg_of-parsed.result c.outward_key-key.result c.requires.outward.side is c.outward_key-key.ensures c.seg_of-parsed.ensures.outward in
    c.depart_live.ensures settings calls d octets (sym c.seg_of-parsed.ensures.len) st sends

pub returns-in-None : goal.returns-in-None
returns-in-None c settings calls d st is =
    let a = c.args.arrival.now in
    c.depart_cold.ensures settings calls d (tcp.payload a.packet.now.payload.now) (sym c.seg_of-parsed.ensures.len) st
    (sends_it a.packet.now a.link.now d c.seg_of-parsed.result c.hashed-hashed.result.key.0 c.requires.outward.side is (ap (λ (k : EraKey). k.0) c.hashed-hashed.ensures ∙ c.outward_key-key.ensures) c.seg_of-parsed.ensures.outward)
