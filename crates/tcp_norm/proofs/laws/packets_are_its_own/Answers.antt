use Rattle.std.proofs.Common.{refl, arith}
use Rattle.ip_rules.specs.Datagrams.{IsPacketOf}
use Rattle.tcp_norm.specs.RuleRows.{mended_by}
use Rattle.tcp_norm.proofs.Packets.{each_packet, own_packet}
use Rattle.tcp_norm.proofs.laws.packets_are_its_own.Goals as goal

pub returns : goal.returns
returns c settings v d hops s =
    each_packet (IsPacketOf settings d) settings v d (λ probe. c.anew_is_packet.ensures settings d _ hops s.known.sizes (omega arith))
    (own_packet c.anew_is_packet.ensures c.options_are_cleaned.ensures.octets c.mended_say_the_same.ensures settings v.segments d hops s d.fixes (mended_by settings v d) refl)
