-- The frames that may be written, and their parts (RFC 791 section 3.1, RFC 894, RFC 9293 section
-- 3.1).
use Rattle.std.specs.Prelude.{◌≡◌, ℕ, ◌^◌, ◌<◌, ◌⊎◌, false, List, length, take, slice_index, None}
use Rattle.wire_base.specs.declared.address.Link.{Link}
use Rattle.wire_base.specs.declared.address.Link.TheVariants.{Ethernet, Raw}
use Rattle.wire_base.specs.declared.frame.FrameKind.TheVariants.{Ip, Arp}
use Rattle.wire_base.specs.Frames.{kind_of, link_octets, packet_in}
use Rattle.wire_base.specs.Ipv4 as ip
use Rattle.wire_base.specs.Tcp as tcp
use Rattle.ipv4_codec.specs.HeaderFields as ip_header
use Rattle.tcp_codec.specs.declared.header.SumRule.TheVariants.{Skip}
use Rattle.tcp_codec.specs.HeaderFields as tcp_header
use Rattle.wire_base.specs.declared.limits.TheConstants.{MAX_LINK}

-- the number of octets before the packet: those of an Ethernet II header (RFC 894), or none
abbrev pub link_size : Link → ℕ
link_size Ethernet = MAX_LINK
link_size Raw = 0

-- a packet that is no fragment, with a header of 20 octets and nothing after its total length,
-- without a fault; the checksum of its segment is not tested
pub record IsWhole (packet : List ℕ) : Type 0 where
  pub header : ip.header_length packet ≡ 20
  pub whole : ip.is_fragment packet ≡ false
  pub ends : ip.total_length packet ≡ length packet
  pub datagram : ip_header.fault_of packet ≡ None
  pub segment : ip.protocol packet ≡ 6 → tcp_header.fault_of Skip 0 (ip.payload packet) ≡ None

-- a frame that may be written carries ARP, or such a packet (this project's profile)
abbrev pub IsSent : Link → (frame : List ℕ) → Type 0
IsSent link frame = (kind_of link frame ≡ Arp) ⊎ ((kind_of link frame ≡ Ip (link_size link)) × IsWhole (packet_in link frame))

-- a frame that carries TCP: its link octets, its IPv4 header, its TCP header with the options, and
-- its payload
pub record Parts : Type 0 where
  pub link : List ℕ
  pub ip : List ℕ
  pub tcp : List ℕ
  pub payload : List ℕ

-- the parts of a frame
abbrev pub parts_of : Link → (frame : List ℕ) → Parts
parts_of link frame =
    let p = packet_in link frame in
    record {
      link = link_octets link frame;
      ip = ip.header p;
      tcp = take (tcp.header_length (ip.payload p)) (ip.payload p);
      payload = tcp.payload (ip.payload p);
    }

-- each octet is a number below 256
abbrev pub AreOctets : List ℕ → Type 0
AreOctets octets = (at : ℕ) → slice_index octets at < 2 ^ 8
