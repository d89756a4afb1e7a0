-- The rules on the link, the IPv4 header and the protocol, one definition each, in the order of
-- their numbers (this project's profile). A rule depends on one record, or the packet in it, the
-- settings and the link, and not on other records.
use Rattle.std.specs.Prelude.{ℕ, ◌==◌, ◌/◌, ◌&&◌, ◌||◌, nat_lt, nat_le, not, Bool, true, false, List, [], ◌∷◌, ◌++◌, length, Option, Some, None, is_none, find, filter}
use Rattle.wire_base.specs.declared.address.Link.{Link}
use Rattle.wire_base.specs.declared.address.Link.TheVariants.{Ethernet, Raw}
use Rattle.wire_base.specs.declared.address.Side.{Side}
use Rattle.wire_base.specs.declared.address.Side.TheVariants.{Inward, Outward}
use Rattle.wire_base.specs.Ipv4 as ip
use Rattle.wire_base.specs.Frames.{ethertype, packet_in}
use Rattle.wire_base.specs.Options.{are_well_formed, has_route}
use Rattle.pcap_file.specs.Records.{Packet}
use Rattle.rule_book.specs.declared.rule.Rule.{Rule}
use Rattle.rule_book.specs.declared.rule.Rule.TheVariants as rules
use Rattle.rule_book.specs.Rules.{header_fix_rows, header_rows, link_rows, protocol_rows}
use Rattle.norm_settings.specs.SettingValues.{PlainSettings}
use Rattle.norm_settings.specs.Side.{side}
use Rattle.wire_base.specs.declared.limits.TheConstants.{MAX_FRAME, MAX_LINK}

-- the frame carries IPv4: on Ethernet by EtherType 0x0800 (RFC 894), on a raw link always
abbrev pub carries_ip : Link → List ℕ → Bool
carries_ip Ethernet frame = ethertype frame == 2048
carries_ip Raw frame = true

-- the frame carries ARP: EtherType 0x0806 (RFC 826)
abbrev pub carries_arp : Link → List ℕ → Bool
carries_arp Ethernet frame = ethertype frame == 2054
carries_arp Raw frame = false

-- the side of a packet: that of its record by its capture, or, if that gives none, by its addresses
abbrev pub side_in : PlainSettings → (given : Option Side) → (packet : List ℕ) → Option Side
side_in settings given p = side settings given (ip.source p) (ip.destination p)

-- the side is inwards, to the trusted hosts
abbrev pub is_inward : Option Side → Bool
is_inward (Some Inward) = true
is_inward (Some Outward) = false
is_inward None = false

-- L_SNAP: the captured length is below the original length
abbrev pub l_snap : Packet → Bool
l_snap r = nat_lt (length r.octets) r.original

-- L_SHORT: Ethernet with fewer than 14 octets
abbrev pub l_short : Link → (frame : List ℕ) → Bool
l_short Ethernet frame = nat_lt (length frame) MAX_LINK
l_short Raw frame = false

-- L_TYPE: an EtherType other than IPv4 and ARP, or ARP in a frame of more than 65,549 octets
abbrev pub l_type : Link → (frame : List ℕ) → Bool
l_type link frame = not (carries_ip link frame || (carries_arp link frame && nat_le (length frame) MAX_FRAME))

-- I_SHORT: the packet has fewer than 20 octets (RFC 791 section 3.1)
abbrev pub i_short : (packet : List ℕ) → Bool
i_short p = ip.is_short p

-- I_VERSION: the version is not 4
abbrev pub i_version : (packet : List ℕ) → Bool
i_version p = ip.has_other_version p

-- I_HLEN: the header length is below 5 words or above the number of octets
abbrev pub i_hlen : (packet : List ℕ) → Bool
i_hlen p = ip.has_bad_header_length p

-- I_LEN: the total length is below the header length or above the number of octets
abbrev pub i_len : (packet : List ℕ) → Bool
i_len p = ip.has_bad_total_length p

-- I_SUM: the header's checksum is wrong
abbrev pub i_sum : (packet : List ℕ) → Bool
i_sum p = ip.has_wrong_sum p

-- the first of the four octets of an address
abbrev pub first_octet : (address : ℕ) → ℕ
first_octet address = address / 16777216

-- A source that no packet on a link between networks has. No host sends from loopback, multicast or
-- broadcast, and from "this network" only one that asks for its address (RFC 1122 section 3.2.1.3).
-- This project's profile adds "this network", all addresses above multicast, and a source equal to
-- the destination.
abbrev pub is_bad_source : (source destination : ℕ) → Bool
is_bad_source source destination =
    (first_octet source == 0) || (first_octet source == 127) || nat_le 224 (first_octet source) || (source == destination)

-- A destination to which no packet is forwarded. No host sends to "this network" or loopback (RFC
-- 1122 section 3.2.1.3). This project's profile adds all addresses above multicast, and with them
-- broadcasts on the own link.
abbrev pub is_bad_destination : (destination : ℕ) → Bool
is_bad_destination destination =
    (first_octet destination == 0) || (first_octet destination == 127) || nat_le 240 (first_octet destination)

-- I_SRC: the source's first octet is 0, 127, or 224 and above, or source and destination are equal
abbrev pub i_src : (packet : List ℕ) → Bool
i_src p = is_bad_source (ip.source p) (ip.destination p)

-- I_DST: the destination's first octet is 0, 127, or 240 and above
abbrev pub i_dst : (packet : List ℕ) → Bool
i_dst p = is_bad_destination (ip.destination p)

-- I_SIDE: the record has no side, and both addresses are trusted, or neither
abbrev pub i_side : PlainSettings → (given : Option Side) → (packet : List ℕ) → Bool
i_side settings given p = is_none (side_in settings given p)

-- I_OPT_BAD: before the end option or the end of the area an option has no length octet, a length
-- below 2, or reaches past the area
abbrev pub i_opt_bad : (packet : List ℕ) → Bool
i_opt_bad p = not (are_well_formed (ip.options p))

-- I_ROUTE: there is a source route before the end option
abbrev pub i_route : (packet : List ℕ) → Bool
i_route p = has_route (ip.options p)

-- P_PROTO: the protocol is not ICMP (1), TCP (6) or UDP (17)
abbrev pub p_proto : (packet : List ℕ) → Bool
p_proto p = not ((ip.protocol p == 1) || (ip.protocol p == 6) || (ip.protocol p == 17))

-- I_TRAIL: octets follow after the total length
abbrev pub i_trail : (packet : List ℕ) → Bool
i_trail p = ip.has_trailer p

-- I_OPT: the header length is above 5 words
abbrev pub i_opt : (packet : List ℕ) → Bool
i_opt p = ip.has_options p

-- I_RES: the reserved flag is set
abbrev pub i_res : (packet : List ℕ) → Bool
i_res p = ip.has_reserved p

-- I_TTL: inbound, and the TTL does not pass `hops` routers
abbrev pub i_ttl : PlainSettings → (given : Option Side) → (packet : List ℕ) → Bool
i_ttl settings given p = is_inward (side_in settings given p) && nat_le (ip.time_to_live p) settings.hops

-- whether a rule applies to a packet, by the condition of a rule on the packet; other rules do not
-- apply; `given` is the side of its record
abbrev pub holds_in : PlainSettings → (given : Option Side) → (packet : List ℕ) → Rule → Bool
holds_in settings given p rules.IShort = i_short p
holds_in settings given p rules.IVersion = i_version p
holds_in settings given p rules.IHlen = i_hlen p
holds_in settings given p rules.ILen = i_len p
holds_in settings given p rules.ISum = i_sum p
holds_in settings given p rules.ISrc = i_src p
holds_in settings given p rules.IDst = i_dst p
holds_in settings given p rules.ISide = i_side settings given p
holds_in settings given p rules.IOptBad = i_opt_bad p
holds_in settings given p rules.IRoute = i_route p
holds_in settings given p rules.PProto = p_proto p
holds_in settings given p rules.ITrail = i_trail p
holds_in settings given p rules.IOpt = i_opt p
holds_in settings given p rules.IRes = i_res p
holds_in settings given p rules.ITtl = i_ttl settings given p
holds_in settings given p _ = false

-- whether a rule on the link, the header or the protocol applies to a record; those on the packet
-- apply only if the frame carries IPv4
abbrev pub holds_ip : PlainSettings → Link → Packet → Rule → Bool
holds_ip settings link r rules.LSnap = l_snap r
holds_ip settings link r rules.LShort = l_short link r.octets
holds_ip settings link r rules.LType = l_type link r.octets
holds_ip settings link r rule = carries_ip link r.octets && holds_in settings r.side (packet_in link r.octets) rule

-- the drop rules on the packet, in the order of testing
abbrev pub packet_drop_rows : List Rule
packet_drop_rows = header_rows ++ protocol_rows

-- all drop rules of this crate, in the order of testing: those on the link are first
abbrev pub ip_drop_rows : List Rule
ip_drop_rows = link_rows ++ packet_drop_rows

-- the fix rules of a packet that is no fragment, and those of a fragment: I_TTL is judged for the
-- whole datagram
abbrev pub whole_fix_rows : List Rule
whole_fix_rows = header_fix_rows ++ rules.ITtl ∷ []

abbrev pub piece_fix_rows : List Rule
piece_fix_rows = header_fix_rows

-- the first rule that drops the record, if there is one
unfoldable pub ip_dropped_by : PlainSettings → Link → Packet → Option Rule
ip_dropped_by settings link r = find (holds_ip settings link r) ip_drop_rows

-- the rules of `rows` that apply to the record, in their order
unfoldable pub ip_fixes : PlainSettings → Link → Packet → List Rule → List Rule
ip_fixes settings link r rows = filter (holds_ip settings link r) rows

-- whether the side is reported of a record that this rule drops: not for the rules up to I_SIDE
abbrev pub tells_side : Rule → Bool
tells_side rules.LSnap = false
tells_side rules.LShort = false
tells_side rules.LType = false
tells_side rules.IShort = false
tells_side rules.IVersion = false
tells_side rules.IHlen = false
tells_side rules.ILen = false
tells_side rules.ISum = false
tells_side rules.ISrc = false
tells_side rules.IDst = false
tells_side rules.ISide = false
tells_side _ = true
