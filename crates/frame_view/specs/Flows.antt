-- What the headers of a packet say in short: addresses, protocol, fragment fields, ports, and the
-- marks of a TCP segment or an ICMP message.
use Rattle.std.specs.Prelude.{ℕ, ◌||◌, nat_lt, List, length, Option, Some, None, option_map, if◌then◌else◌}
use Rattle.std.specs.Option.{is_some}
use Rattle.wire_base.specs.Frames.{ethertype}
use Rattle.wire_base.specs.Icmp as icmp
use Rattle.wire_base.specs.Ipv4 as ip
use Rattle.wire_base.specs.Tcp as tcp
use Rattle.wire_base.specs.declared.address.Link.{Link}
use Rattle.wire_base.specs.declared.address.Link.TheVariants.{Ethernet, Raw}
use Rattle.frame_view.specs.FrameParts.{packet_of, segment_in, icmp_in, ported_in, payload_in, payload_of}
use Rattle.frame_view.specs.declared.flow.Flow.{Flow}
use Rattle.frame_view.specs.declared.flow.IcmpMarks.{IcmpMarks}
use Rattle.frame_view.specs.declared.flow.Ports.{Ports}
use Rattle.frame_view.specs.declared.flow.TcpMarks.{TcpMarks}

-- the two ports that a segment or datagram begins with
abbrev pub ports_of : List ℕ → Ports
ports_of m = record { src = tcp.source_port m; dst = tcp.destination_port m }

-- flags, sequence number, acknowledgment and window of a segment
abbrev pub marks_of : List ℕ → TcpMarks
marks_of m = record { flags = record { 0 = tcp.flags m }; seq = tcp.sequence m; ack = tcp.acknowledgment m; window = tcp.window m }

-- type and code of an ICMP message
abbrev pub icmp_marks_of : List ℕ → IcmpMarks
icmp_marks_of m = record { kind = icmp.kind m; code = icmp.code m }

-- what the headers of a packet say
abbrev pub flow_of : (packet : List ℕ) → Flow
flow_of p =
    record {
      src = record { 0 = ip.source p };
      dst = record { 0 = ip.destination p };
      protocol = ip.protocol p;
      identification = ip.identification p;
      offset = ip.fragment_offset p;
      more = ip.has_more_fragments p;
      ports = option_map ports_of (ported_in p);
      tcp = option_map marks_of (segment_in p);
      icmp = option_map icmp_marks_of (icmp_in p);
      length = length (payload_in p);
    }

-- what the headers of a frame's packet say, where its IPv4 header can be read
abbrev pub flow_in : Link → (frame : List ℕ) → Option Flow
flow_in link f = option_map flow_of (packet_of link f)

-- how many octets the payload of a frame has
abbrev pub length_in : Link → (frame : List ℕ) → ℕ
length_in link f = length (payload_of link f)

-- the EtherType of a frame without a readable IPv4 header, where its link header of 14 octets is
-- present (RFC 894)
abbrev pub ethertype_in : Link → (frame : List ℕ) → Option ℕ
ethertype_in Ethernet f = if nat_lt (length f) 14 || is_some (packet_of Ethernet f) then None else Some (ethertype f)
ethertype_in Raw f = None
