use Rattle.std.proofs.Common.{◌≡◌, ◌+◌, length, ap, ◌∙◌, refl, length-append, arith}
use Rattle.ipv4_codec.specs.WrittenHeader.{plain_header}
use Rattle.tcp_codec.specs.WrittenSegment.{segment_octets, segment_of}
use Rattle.load_make.specs.Packets.{head_of, packet_octets, segment_for}
use Rattle.load_make.proofs.Flows.{filled}
use Rattle.load_make.proofs.packet.write_packet.Goals as goal

pub returns-clause-exact : goal.returns-clause-exact
unfolding packet_octets
returns-clause-exact c =
    let parts = c.parts_of-parts.result in
    let payload = c.payload_of-payload.result.now in
    let front = c.split_at_mut-header.result.0.now in
    let back = c.split_at_mut-header.result.1.now in
    let s = segment_of parts payload in
    let same : s ≡ segment_for c.args.flow c.args.turn = ap (segment_of parts) c.payload_of-payload.ensures.exact ∙ c.parts_of-parts.ensures.segment in
    let header = plain_header (head_of c.args.ident s) (20 + length payload) in
    let size : length (segment_octets s) ≡ c.write_segment.result = omega (arith, length-append parts.options.items payload, c.write_segment.ensures.size) in
    filled c.write_plain-size.result c.write_segment.result header (segment_octets s) front back c.write_plain-size.new.buf c.write_segment.new.buf
    c.write_plain-size.ensures.size c.split_at_mut-header.ensures.front_len refl size c.write_plain-size.ensures.exact c.write_segment.ensures.exact
    ∙ ap (packet_octets c.args.ident) same
