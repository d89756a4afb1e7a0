-- The results of the rules of each layer on a record, in the order in which they are tested.
use Rattle.std.specs.Prelude.{◌≡◌, ℕ, true, false, List, ◌++◌, Option, Some, None, Result, Ok, Err, find, filter, if◌then◌else◌}
use Rattle.wire_base.specs.declared.address.Link.{Link}
use Rattle.wire_base.specs.declared.address.Side.{Side}
use Rattle.wire_base.specs.Ipv4 as ip
use Rattle.wire_base.specs.Frames.{packet_in}
use Rattle.pcap_file.specs.Records.{Packet}
use Rattle.ipv4_codec.specs.declared.header.IpFault.{IpFault}
use Rattle.ipv4_codec.specs.declared.header.IpFault.TheVariants as faults
use Rattle.rule_book.specs.declared.rule.Rule.{Rule}
use Rattle.rule_book.specs.declared.rule.Rule.TheVariants as rules
use Rattle.norm_settings.specs.SettingValues.{PlainSettings}
use Rattle.norm_settings.specs.Side.{side}
use Rattle.ip_rules.specs.declared.rows.IpJudged.{IpJudged}
use Rattle.ip_rules.specs.declared.rows.IpJudged.TheVariants.{Arp, Drop, Piece, Whole}
use Rattle.ip_rules.specs.declared.rows.Linked.{Linked}
use Rattle.ip_rules.specs.declared.rows.Linked.TheVariants as linked
use Rattle.ip_rules.specs.RuleRows.{carries_ip, carries_arp, is_bad_destination, is_bad_source, side_in, l_snap, l_short, l_type, i_opt_bad, i_route, p_proto, i_trail, i_opt, i_res, holds_in, packet_drop_rows, whole_fix_rows, piece_fix_rows, tells_side}
use Rattle.ip_rules.specs.JudgedRecord.{IsRead, where_holds}

-- the first rule on the link that holds, if there is one
unfoldable pub link_row : Link → Packet → Option Rule
link_row link r =
    if l_snap r then Some rules.LSnap else if l_short link r.octets then Some rules.LShort else if l_type link r.octets then Some rules.LType else None

-- the result of the rules on the link: a rule drops the record, or it carries ARP or an IPv4 packet
abbrev pub IsLinked : Link → Packet → Linked → Type 0
IsLinked link r (linked.Row rule) = link_row link r ≡ Some rule
IsLinked link r linked.Arp = (link_row link r ≡ None) × (carries_arp link r.octets ≡ true)
IsLinked link r (linked.Packet packet) = (link_row link r ≡ None) × (carries_ip link r.octets ≡ true) × (packet.now ≡ packet_in link r.octets)

-- the rule of a fault of the header
abbrev pub rule_of : IpFault → Rule
rule_of faults.Short = rules.IShort
rule_of faults.Version = rules.IVersion
rule_of faults.HeaderLength = rules.IHlen
rule_of faults.Length = rules.ILen
rule_of faults.Sum = rules.ISum

-- the side of a packet from `source` to `destination`, or the first rule on addresses that holds;
-- `given` is the side of its record
abbrev pub side_or_row : PlainSettings → (given : Option Side) → (source destination : ℕ) → Result Side Rule
side_or_row settings given source destination =
    if is_bad_source source destination then Err rules.ISrc
    else if is_bad_destination destination then Err rules.IDst
    else elim (side settings given source destination) [ Some side ↦ Ok side | None ↦ Err rules.ISide ]

-- the first rule on the options and the protocol that holds, if there is one
abbrev pub content_row : (packet : List ℕ) → Option Rule
content_row p = if i_opt_bad p then Some rules.IOptBad else if i_route p then Some rules.IRoute else if p_proto p then Some rules.PProto else None

-- the fix rules that apply to a packet, without I_TTL
abbrev pub header_fixes : (packet : List ℕ) → List Rule
header_fixes p = where_holds (i_trail p) rules.ITrail ++ where_holds (i_opt p) rules.IOpt ++ where_holds (i_res p) rules.IRes

-- the first rule that drops the packet, if there is one; `given` is the side of its record
unfoldable pub packet_row : PlainSettings → (given : Option Side) → (packet : List ℕ) → Option Rule
packet_row settings given p = find (holds_in settings given p) packet_drop_rows

-- the rules of `rows` that apply to a packet
unfoldable pub packet_fixes : PlainSettings → (given : Option Side) → (packet : List ℕ) → List Rule → List Rule
packet_fixes settings given p rows = filter (holds_in settings given p) rows

-- the result of the rules on the packet of this frame; `given` is the side of its record
abbrev pub IsJudgedIn : PlainSettings → (given : Option Side) → (frame packet : List ℕ) → IpJudged → Type 0
IsJudgedIn settings given frame p Arp = ⊥
IsJudgedIn settings given frame p (Drop side rule) = (packet_row settings given p ≡ Some rule) × (side ≡ (if tells_side rule then side_in settings given p else None))
IsJudgedIn settings given frame p (Piece packet) =
    (packet_row settings given p ≡ None) × (ip.is_fragment p ≡ true) × IsRead settings given frame p (packet_fixes settings given p piece_fix_rows) packet
IsJudgedIn settings given frame p (Whole packet) =
    (packet_row settings given p ≡ None) × (ip.is_fragment p ≡ false) × IsRead settings given frame p (packet_fixes settings given p whole_fix_rows) packet
