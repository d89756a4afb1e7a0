-- A whole datagram, and the packets that are written for it (RFC 791 section 3.1; the changes of
-- its header are this project's profile).
use Rattle.std.specs.Prelude.{◌≡◌, ℕ, ◌+◌, ◌^◌, ◌<◌, ◌≤◌, ◌&&◌, ◌==◌, ◌||◌, not, nat_le, Bool, true, false, List, [], ◌++◌, length, map, slice_index, Option, Some, None, is_none, option_map, if◌then◌else◌}
use Rattle.wire_base.specs.declared.address.Link.{Link}
use Rattle.wire_base.specs.declared.address.Side.{Side}
use Rattle.wire_base.specs.Ipv4 as ip
use Rattle.wire_base.specs.Plain.{IsPlainHeader}
use Rattle.pcap_file.specs.Records as records
use Rattle.ipv4_codec.specs.HeaderFields.{fields_of}
use Rattle.wire_base.specs.declared.address.Side.TheVariants.{Inward, Outward}
use Rattle.wire_base.specs.Frames.{packet_in}
use Rattle.ipv4_codec.specs.declared.header.Ipv4.{Ipv4}
use Rattle.ipv4_codec.specs.WrittenHeader.{plain_header}
use Rattle.rule_book.specs.declared.rule.Rule.{Rule}
use Rattle.norm_settings.specs.SettingValues.{PlainSettings}
use Rattle.ip_rules.specs.declared.rows.IpPacket.{IpPacket}
use Rattle.ip_rules.specs.RuleRows.{carries_ip, side_in, whole_fix_rows, ip_dropped_by, ip_fixes}
use Rattle.wire_base.specs.declared.limits.TheConstants.{MAX_PAYLOAD}

-- A whole datagram, of one packet or reassembled from fragments. It has its side, the fields of its
-- header, its payload, and the fix rules on its header that hold. The header's octets as they were
-- read are used only if no rule rewrites the datagram.
pub record Datagram : Type 0 where
  pub side : Side
  pub head : Ipv4
  pub header : List ℕ
  pub octets : List ℕ
  pub fixes : List Rule

-- the datagram goes inwards
abbrev pub goes_in : Side → Bool
goes_in Inward = true
goes_in Outward = false

-- the datagram of a packet of this side, with these fix rules
abbrev pub datagram_of : (packet : List ℕ) → (fixes : List Rule) → Side → Datagram
datagram_of p fixes side = record { side = side; head = fields_of p; header = ip.header p; octets = ip.payload p; fixes = fixes }

-- the frame carries a packet that is no fragment
abbrev pub carries_datagram : Link → (frame : List ℕ) → Bool
carries_datagram link frame = carries_ip link frame && not (ip.is_fragment (packet_in link frame))

-- the whole datagram that a record carries, if no rule on the link, the header and the protocol
-- drops it
abbrev pub datagram_in : PlainSettings → Link → records.Packet → Option Datagram
datagram_in settings link r =
    let p = packet_in link r.octets in
    if is_none (ip_dropped_by settings link r) && carries_datagram link r.octets
    then option_map (datagram_of p (ip_fixes settings link r whole_fix_rows)) (side_in settings r.side p)
    else None

-- a packet that is written: its header and its payload
pub record Packet : Type 0 where
  pub header : List ℕ
  pub octets : List ℕ

-- a header with a TTL that passes `hops` routers
abbrev pub raised : (hops : ℕ) → Ipv4 → Ipv4
raised hops head = record head { ttl = if nat_le head.ttl hops then hops + 1 else head.ttl }

-- the fields of the header that are written in this direction: those read, with a TTL of `hops` + 1
-- for an inbound datagram whose TTL does not pass `hops` routers
abbrev pub head_at : Side → (hops : ℕ) → Ipv4 → Ipv4
head_at side hops head = record head { ttl = if goes_in side && nat_le head.ttl hops then hops + 1 else head.ttl }

abbrev pub head_sent : PlainSettings → Datagram → Ipv4
head_sent settings d = head_at d.side settings.hops d.head

-- a datagram as it was read
abbrev pub as_read : Datagram → Packet
as_read d = record { header = d.header; octets = d.octets }

-- a packet with a new header of 20 octets, from the fields of the datagram, and with this payload
abbrev pub anew : PlainSettings → Datagram → List ℕ → Packet
anew settings d octets = record { header = plain_header (head_sent settings d) (length octets); octets = octets }

-- the frame of a packet after these link octets
abbrev pub frame_of : (link : List ℕ) → Packet → List ℕ
frame_of link p = link ++ p.header ++ p.octets

-- the frames of packets
abbrev pub frames_of : (link : List ℕ) → List Packet → List (List ℕ)
frames_of link packets = map (frame_of link) packets

-- the datagram of a packet, with a header of these octets
abbrev pub datagram_with : (header : List ℕ) → IpPacket → Datagram
datagram_with header packet =
    record { side = packet.side; head = packet.head; header = header; octets = packet.payload.now; fixes = packet.fixes.items }

-- The datagram is that of the packet, whose frame has these link octets. Its header's octets are
-- those of the frame, if no rule rewrites the packet.
pub record IsDatagram (packet : IpPacket) (link : List ℕ) (d : Datagram) : Type 0 where
  pub side : d.side ≡ packet.side
  pub head : d.head ≡ packet.head
  pub octets : d.octets ≡ packet.payload.now
  pub fixes : d.fixes ≡ packet.fixes.items
  pub frame : packet.fixes.items ≡ [] → packet.frame.now ≡ link ++ d.header ++ d.octets

-- the fields of a header fit their widths
pub record HasSizes (head : Ipv4) : Type 0 where
  pub tos : head.tos < 2 ^ 8
  pub ident : head.ident < 2 ^ 16
  pub ttl : head.ttl < 2 ^ 8
  pub protocol : head.protocol < 2 ^ 8
  pub source : head.src.0 < 2 ^ 32
  pub destination : head.dst.0 < 2 ^ 32

-- each octet is a number below 256
abbrev pub AreOctets : List ℕ → Type 0
AreOctets octets = (at : ℕ) → slice_index octets at < 2 ^ 8

-- A packet of a datagram: no fragment, with a header of 20 octets, the reserved flag clear, and a
-- right header checksum. It has the datagram's protocol and addresses, and its payload after the
-- header. Inwards its TTL passes `hops` routers.
pub record IsPacketOf (settings : PlainSettings) (d : Datagram) (p : Packet) : Type 0 where
  pub long : length p.header ≡ 20
  pub header : IsPlainHeader (p.header ++ p.octets)
  pub carries : ip.payload (p.header ++ p.octets) ≡ p.octets
  pub protocol : ip.protocol (p.header ++ p.octets) ≡ d.head.protocol
  pub source : ip.source (p.header ++ p.octets) ≡ d.head.src.0
  pub destination : ip.destination (p.header ++ p.octets) ≡ d.head.dst.0
  pub passes : goes_in d.side ≡ true → settings.hops < ip.time_to_live (p.header ++ p.octets)

-- The facts of a datagram that no rule on its header drops: sizes, protocol, and, if no rule
-- rewrites it, that it is a packet of itself as it was read.
pub record IsKnown (settings : PlainSettings) (d : Datagram) : Type 0 where
  pub sizes : HasSizes d.head
  pub known : ((d.head.protocol == 1) || (d.head.protocol == 6) || (d.head.protocol == 17)) ≡ true
  pub short : length d.octets ≤ MAX_PAYLOAD
  pub each : AreOctets d.octets
  pub whole : d.fixes ≡ [] → IsPacketOf settings d (as_read d)

-- these facts hold for the datagram that a record of octets carries
abbrev pub DatagramsAreKnown : Type 0
DatagramsAreKnown =
    (settings : PlainSettings) (link : Link) (r : records.Packet) (d : Datagram)
    → AreOctets r.octets → datagram_in settings link r ≡ Some d → IsKnown settings d

-- a new header with any payload is a packet of the datagram
abbrev pub AnewIsPacket : Type 0
AnewIsPacket =
    (settings : PlainSettings) (d : Datagram) (octets : List ℕ)
    → settings.hops ≤ 254 → HasSizes d.head → length octets ≤ MAX_PAYLOAD → IsPacketOf settings d (anew settings d octets)
