use Rattle.std.proofs.Common.{◌≡◌, length, take, drop, ap, sym, ◌∙◌, subst, arith}
use Rattle.wire_base.specs.Ipv4 as ip
use Rattle.wire_base.specs.Tcp as tcp
use Rattle.wire_base.specs.Frames.{packet_in}
use Rattle.emit_mtu.specs.working.PartSizes.{AreSized}
use Rattle.emit_mtu.proofs.Frames.{are_sized, is_faultless, payload_is}
use Rattle.emit_mtu.proofs.parts.parts_of.Goals as goal

pub split_at-requires-2 : goal.split_at-requires-2
split_at-requires-2 c =
    let p = packet_in c.args.link c.args.frame.now in
    let inside = is_faultless p c.requires.whole c.requires.tcp in
    let e : c.split_at.result.1.now ≡ ip.payload p = c.split_at.ensures.back ∙ ap (drop 20) c.packet_in-packet.ensures ∙ sym (payload_is p c.requires.whole.header c.requires.whole.ends) in
    let header = c.header_length.ensures ∙ ap tcp.header_length e in
    let size = ap length e in
    omega (arith, header, size, inside.inside)

pub returns-clause-sized : goal.returns-clause-sized
returns-clause-sized c =
    let p = packet_in c.args.link c.args.frame.now in
    let sized = are_sized c.args.link c.args.frame.now c.requires.whole c.requires.tcp (λ i. omega (arith, c.type_inv.frame i)) in
    let header : c.split_at.result.0.now ≡ ip.header p = c.split_at.ensures.front ∙ ap (take 20) c.packet_in-packet.ensures ∙ ap (λ n. take n p) (sym c.requires.whole.header) in
    let e : c.split_at.result.1.now ≡ ip.payload p = c.split_at.ensures.back ∙ ap (drop 20) c.packet_in-packet.ensures ∙ sym (payload_is p c.requires.whole.header c.requires.whole.ends) in
    let size : c.header_length.result ≡ tcp.header_length (ip.payload p) = c.header_length.ensures ∙ ap tcp.header_length e in
    let front : c.split_at-2.result.0.now ≡ take (tcp.header_length (ip.payload p)) (ip.payload p) = c.split_at-2.ensures.front ∙ (λ i. take (size i) (e i)) in
    let back : c.split_at-2.result.1.now ≡ tcp.payload (ip.payload p) = c.split_at-2.ensures.back ∙ (λ i. drop (size i) (e i)) in
    subst AreSized (λ i. record { link = sym c.link_octets.ensures.octets i; ip = sym header i; tcp = sym front i; payload = sym back i }) sized
