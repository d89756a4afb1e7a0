use Rattle.std.proofs.Common.{◌++◌, [], refl, arith}
use Rattle.wire_base.specs.Tcp as tcp
use Rattle.wire_base.specs.Plain.{Plain}
use Rattle.ip_rules.specs.Datagrams.{Packet, head_sent}
use Rattle.tcp_norm.specs.RuleRows.{mended_by}
use Rattle.tcp_norm.specs.EmittedPackets.{packet_by}
use Rattle.tcp_norm.proofs.Packets.{each_packet, own_packet, plain_packet, own_plain}
use Rattle.tcp_norm.proofs.laws.packets_are_plain.Goals as goal

pub returns : goal.returns
returns c settings v d hops s side =
    let clean = c.options_are_cleaned.ensures in
    let reaches = (c.anew_is_packet.ensures settings d [] hops s.known.sizes (omega arith)).passes side in
    let own = own_packet c.anew_is_packet.ensures clean.octets c.mended_say_the_same.ensures settings v.segments d hops s d.fixes (mended_by settings v d) refl in
    each_packet (λ (p : Packet). Plain settings.hops (p.header ++ p.octets)) settings v d
    (λ probe.
    c.probes_are_plain.ensures (head_sent settings d) (tcp.source_port d.octets) (tcp.destination_port d.octets) probe s.known.sizes.source s.known.sizes.destination s.protocol settings.hops reaches)
    (plain_packet settings d (packet_by settings v.segments d d.fixes (mended_by settings v d)) own s.protocol side
    (own_plain c.segments_are_read_back.ensures clean.octets clean.once clean.formed settings v d s side))
