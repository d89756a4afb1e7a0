-- The judgment of a record by the rules before those of eras, with what was read of it.
use Rattle.std.specs.Prelude.{Bool, Option}
use Rattle.wire_base.specs.declared.address.Side.{Side}
use Rattle.tcp_codec.specs.declared.header.Tcp.{Tcp}
use Rattle.rule_book.specs.declared.rule.Rule.{Rule}
use Rattle.ip_rules.specs.declared.rows.IpPacket.{IpPacket}
use Rattle.norm_engine.specs.declared.judge.Decision.{Decision}
use Rattle.norm_engine.specs.declared.judge.Decision.TheVariants as decisions
use Rattle.norm_engine.specs.declared.judge.Parsed.{Parsed}

-- a record that is ARP, or that a rule drops; a fragment that is held; a packet that is written; or
-- a TCP segment with this header
pub data Judgment : Type 0 where
  Arp : Judgment
  Drop : Option Side → Rule → Judgment
  Hold : Side → Judgment
  Send : IpPacket → Bool → Judgment
  Segment : IpPacket → Tcp → Judgment

-- the judgment of this decision, on this packet and this header
abbrev pub judgment_of : IpPacket → Tcp → Decision → Judgment
judgment_of packet head decisions.Arp = Arp
judgment_of packet head (decisions.Drop side rule) = Drop side rule
judgment_of packet head (decisions.Hold side) = Hold side
judgment_of packet head (decisions.Send mend) = Send packet mend
judgment_of packet head decisions.Segment = Segment packet head

-- the judgment of this decision, with what was read of the record
abbrev pub judgment_with : Parsed → Decision → Judgment
judgment_with parsed decision = judgment_of parsed.packet parsed.head decision
