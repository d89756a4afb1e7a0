use Rattle.std.proofs.Common.{length, ap, arith}
use Rattle.emit_mtu.specs.FrameParts.{Parts}
use Rattle.emit_mtu.proofs.Headers.{length-segment_of}
use Rattle.emit_mtu.proofs.piece.write_segment.Goals as goal

pub returns-clause-size : goal.returns-clause-size
returns-clause-size c =
    let e = length-segment_of c.args.room c.args.index c.args.parts.now c.requires.sized in
    let link = ap (λ (p : Parts). length p.link) c.parts.view_is in
    let tcp = ap (λ (p : Parts). length p.tcp) c.parts.view_is in
    let piece = ap length c.piece_of-octets.ensures in
    omega (arith, e, piece, link, tcp)
