-- The rules on the header of a TCP segment, one definition each in the order of their numbers (RFC
-- 9293 section 3.1; which segments are dropped is this project's profile).
use Rattle.std.specs.Prelude.{◌==◌, ◌&&◌, not, Bool, false, Option, None, is_none, find, if◌then◌else◌}
use Rattle.wire_base.specs.declared.address.Link.{Link}
use Rattle.wire_base.specs.declared.address.Side.{Side}
use Rattle.wire_base.specs.Tcp as tcp
use Rattle.wire_base.specs.Frames.{packet_in}
use Rattle.pcap_file.specs.Records.{Packet}
use Rattle.rule_book.specs.declared.rule.Rule.{Rule}
use Rattle.rule_book.specs.declared.rule.Rule.TheVariants as rules
use Rattle.rule_book.specs.Rules.{segment_rows}
use Rattle.norm_settings.specs.SettingValues.{PlainSettings}
use Rattle.ip_rules.specs.Datagrams.{Datagram}
use Rattle.ip_rules.specs.RuleRows.{carries_ip, side_in}
use Rattle.dgram_rules.specs.RuleRows.{pseudo_of, is_offloaded}

-- the side of a record's packet, or none if the record carries no IPv4
abbrev pub side_of_record : PlainSettings → Link → Packet → Option Side
side_of_record settings link r = if carries_ip link r.octets then side_in settings r.side (packet_in link r.octets) else None

-- the datagram carries TCP (protocol 6)
abbrev pub is_tcp : Datagram → Bool
is_tcp d = d.head.protocol == 6

-- T_SHORT: TCP of fewer than 20 octets
abbrev pub t_short : Datagram → Bool
t_short d = tcp.is_short d.octets

-- T_HLEN: the data offset is below 5 words or past the segment
abbrev pub t_hlen : Datagram → Bool
t_hlen d = tcp.has_bad_header_length d.octets

-- T_SUM: the checksum is wrong, unless the segment is outbound and `offload` is set
abbrev pub t_sum : PlainSettings → Datagram → Bool
t_sum settings d = tcp.has_wrong_sum (pseudo_of d) d.octets && not (is_offloaded settings d)

-- T_FLAGS: the combination of SYN, FIN, RST and ACK is illegal
abbrev pub t_flags : Datagram → Bool
t_flags d = tcp.has_illegal_flags d.octets

-- T_OPT_BAD: before the end option or the end of the area an option has no length octet, a length
-- below 2, or extends past the area
abbrev pub t_opt_bad : Datagram → Bool
t_opt_bad d = tcp.has_bad_options d.octets

-- whether the condition of a rule on the header of a segment applies to the octets of a datagram;
-- the rules of other layers apply to none
abbrev pub holds_header : PlainSettings → Datagram → Rule → Bool
holds_header settings d rules.TShort = t_short d
holds_header settings d rules.THlen = t_hlen d
holds_header settings d rules.TSum = t_sum settings d
holds_header settings d rules.TFlags = t_flags d
holds_header settings d rules.TOptBad = t_opt_bad d
holds_header settings d _ = false

-- the same for a datagram that is TCP; no rule applies to another one
abbrev pub holds_tcp : PlainSettings → Datagram → Rule → Bool
holds_tcp settings d rule = is_tcp d && holds_header settings d rule

-- the datagram is a TCP segment that no rule on its header drops
abbrev pub is_segment : PlainSettings → Datagram → Bool
is_segment settings d = is_tcp d && is_none (find (holds_tcp settings d) segment_rows)
