-- The parts of a frame: the packet after its link header, and the segment or datagram in it, each
-- where its whole header can be read (this project's profile).
use Rattle.std.specs.Prelude.{◌≡◌, ℕ, ◌==◌, ◌&&◌, not, Bool, true, false, List, length, take, drop, Option, Some, None, if◌then◌else◌}
use Rattle.wire_base.specs.Frames.{kind_of, packet_in}
use Rattle.wire_base.specs.Icmp as icmp
use Rattle.wire_base.specs.Ipv4 as ip
use Rattle.wire_base.specs.Tcp as tcp
use Rattle.wire_base.specs.Udp as udp
use Rattle.wire_base.specs.declared.address.Link.{Link}
use Rattle.wire_base.specs.declared.frame.FrameKind.{FrameKind}
use Rattle.wire_base.specs.declared.frame.FrameKind.TheVariants.{Ip, Arp, Short, Other}

-- the frame carries an IPv4 packet
abbrev pub is_ip : FrameKind → Bool
is_ip (Ip at) = true
is_ip Arp = false
is_ip Short = false
is_ip Other = false

-- an IPv4 header can be read: 20 octets, version 4, and a header length from 20 octets to those of
-- the packet
abbrev pub has_ip_header : (packet : List ℕ) → Bool
has_ip_header p = not (ip.is_short p) && not (ip.has_other_version p) && not (ip.has_bad_header_length p)

-- the same as a fact
abbrev pub IsReadable : (packet : List ℕ) → Type 0
IsReadable p = has_ip_header p ≡ true

-- the IPv4 packet of a frame, where its header can be read
abbrev pub packet_of : Link → (frame : List ℕ) → Option (List ℕ)
packet_of link f = if is_ip (kind_of link f) && has_ip_header (packet_in link f) then Some (packet_in link f) else None

-- where the message of a packet ends: at the total length where the packet has as many octets and
-- that is not inside of the header, else at its end
abbrev pub message_end : (packet : List ℕ) → ℕ
message_end p = if ip.has_bad_total_length p then length p else ip.total_length p

-- the octets from after the header to there
abbrev pub message_in : (packet : List ℕ) → List ℕ
message_in p = drop (ip.header_length p) (take (message_end p) p)

-- the packet is unfragmented or the first fragment
abbrev pub is_first : (packet : List ℕ) → Bool
is_first p = ip.fragment_offset p == 0

-- a TCP header can be read: 20 octets, and a header length from 20 octets to those of the segment
abbrev pub has_tcp_header : (segment : List ℕ) → Bool
has_tcp_header m = not (tcp.is_short m) && not (tcp.has_bad_header_length m)

-- the TCP segment (protocol 6) of a packet, where its header can be read
abbrev pub segment_in : (packet : List ℕ) → Option (List ℕ)
segment_in p = if (ip.protocol p == 6) && is_first p && has_tcp_header (message_in p) then Some (message_in p) else None

-- the UDP datagram (protocol 17) of a packet, where its header can be read
abbrev pub datagram_in : (packet : List ℕ) → Option (List ℕ)
datagram_in p = if (ip.protocol p == 17) && is_first p && not (udp.is_short (message_in p)) then Some (message_in p) else None

-- the ICMP message (protocol 1) of a packet, where its header can be read
abbrev pub icmp_in : (packet : List ℕ) → Option (List ℕ)
icmp_in p = if (ip.protocol p == 1) && is_first p && not (icmp.is_short (message_in p)) then Some (message_in p) else None

-- the first part where there is one, else the second
abbrev pub first_of_two : Option (List ℕ) → Option (List ℕ) → Option (List ℕ)
first_of_two None second = second
first_of_two (Some first) second = Some first

-- what begins with two ports in a packet: its TCP segment or its UDP datagram
abbrev pub ported_in : (packet : List ℕ) → Option (List ℕ)
ported_in p = first_of_two (segment_in p) (datagram_in p)

-- the octets after the header of a segment, or of a datagram (8 octets), or all of them where there
-- is neither
abbrev pub behind : (segment datagram : Option (List ℕ)) → (all : List ℕ) → List ℕ
behind (Some m) datagram all = tcp.payload m
behind None (Some m) all = drop 8 m
behind None None all = all

-- the payload of a packet
abbrev pub payload_in : (packet : List ℕ) → List ℕ
payload_in p = behind (segment_in p) (datagram_in p) (message_in p)

-- the octets after the message of a packet
abbrev pub trailer_in : (packet : List ℕ) → List ℕ
trailer_in p = drop (message_end p) p

-- the payload of a packet, or these octets where there is none
abbrev pub payload_or : (octets : List ℕ) → (packet : Option (List ℕ)) → List ℕ
payload_or octets None = octets
payload_or octets (Some p) = payload_in p

-- the payload of a frame; all octets after the link header where no IPv4 header can be read
abbrev pub payload_of : Link → (frame : List ℕ) → List ℕ
payload_of link f = payload_or (packet_in link f) (packet_of link f)
