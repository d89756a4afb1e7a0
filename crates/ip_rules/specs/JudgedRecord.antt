-- The results of judging a record, by the rules.
use Rattle.std.specs.Prelude.{◌≡◌, ℕ, Bool, true, false, List, [], ◌∷◌, Option, Some, None, if◌then◌else◌}
use Rattle.wire_base.specs.declared.address.Link.{Link}
use Rattle.wire_base.specs.declared.address.Side.{Side}
use Rattle.wire_base.specs.Ipv4 as ip
use Rattle.wire_base.specs.Frames.{packet_in}
use Rattle.pcap_file.specs.Records.{Packet}
use Rattle.ipv4_codec.specs.HeaderFields.{fields_of}
use Rattle.rule_book.specs.declared.rule.Rule.{Rule}
use Rattle.norm_settings.specs.SettingValues.{PlainSettings}
use Rattle.ip_rules.specs.declared.rows.IpPacket.{IpPacket}
use Rattle.ip_rules.specs.declared.rows.IpJudged.{IpJudged}
use Rattle.ip_rules.specs.declared.rows.IpKind.{IpKind}
use Rattle.ip_rules.specs.declared.rows.IpKind.TheVariants as kinds
use Rattle.ip_rules.specs.declared.rows.IpJudged.TheVariants.{Arp, Drop, Piece, Whole}
use Rattle.ip_rules.specs.RuleRows.{carries_ip, carries_arp, side_in, whole_fix_rows, piece_fix_rows, ip_dropped_by, ip_fixes, tells_side}

-- the packet of a frame: its side, the fields of its header, the whole frame, the payload up to the
-- total length, and these fix rules
pub record IsRead (settings : PlainSettings) (given : Option Side) (octets p : List ℕ) (named : List Rule) (packet : IpPacket) : Type 0 where
  pub side : side_in settings given p ≡ Some packet.side
  pub head : packet.head ≡ fields_of p
  pub frame : packet.frame.now ≡ octets
  pub payload : packet.payload.now ≡ ip.payload p
  pub fixes : packet.fixes.items ≡ named

-- no rule drops the record, and it carries IPv4
pub record IsKept (settings : PlainSettings) (link : Link) (r : Packet) : Type 0 where
  pub undropped : ip_dropped_by settings link r ≡ None
  pub carries : carries_ip link r.octets ≡ true

-- the result of judging a record, with the packet that was filled in
abbrev pub judged_with : IpPacket → IpKind → IpJudged
judged_with packet kinds.Arp = Arp
judged_with packet (kinds.Drop side rule) = Drop side rule
judged_with packet kinds.Piece = Piece packet
judged_with packet kinds.Whole = Whole packet

-- The result is that of the rules. It is ARP that no rule drops, or the first drop rule that holds,
-- with the side if that rule reports it. Otherwise it is the packet that the record carries,
-- fragment or not, with the fix rules that hold.
abbrev pub IsJudged : PlainSettings → Link → Packet → IpJudged → Type 0
IsJudged settings link r Arp = (ip_dropped_by settings link r ≡ None) × (carries_arp link r.octets ≡ true)
IsJudged settings link r (Drop side rule) =
    (ip_dropped_by settings link r ≡ Some rule) × (side ≡ (if tells_side rule then side_in settings r.side (packet_in link r.octets) else None))
IsJudged settings link r (Piece packet) =
    IsKept settings link r × (ip.is_fragment (packet_in link r.octets) ≡ true)
    × IsRead settings r.side r.octets (packet_in link r.octets) (ip_fixes settings link r piece_fix_rows) packet
IsJudged settings link r (Whole packet) =
    IsKept settings link r × (ip.is_fragment (packet_in link r.octets) ≡ false)
    × IsRead settings r.side r.octets (packet_in link r.octets) (ip_fixes settings link r whole_fix_rows) packet

-- the rule, if its condition holds
abbrev pub where_holds : Bool → Rule → List Rule
where_holds holds rule = if holds then rule ∷ [] else []
