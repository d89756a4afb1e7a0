-- The fields of a frame, in order, and what a frame says in each: numbers, or octets, or nothing
-- where it has no such field. Two frames differ in the fields in which they say something else.
use Rattle.std.specs.Prelude.{ℕ, ◌/◌, ◌%◌, Bool, true, false, List, [], ◌∷◌, Option, Some, None, slice_index, codes}
use Rattle.wire_base.specs.Numbers.{u16_at}
use Rattle.wire_base.specs.Frames.{link_octets}
use Rattle.wire_base.specs.Ipv4 as ip
use Rattle.wire_base.specs.Tcp as tcp
use Rattle.wire_base.specs.Udp as udp
use Rattle.wire_base.specs.declared.address.Link.{Link}
use Rattle.frame_view.specs.FrameParts.{packet_of, segment_in, datagram_in, payload_in, payload_of, trailer_in}
use Rattle.frame_view.specs.declared.field.Field.{Field}
use Rattle.frame_view.specs.declared.field.Field.TheVariants.{LinkHeader, Version, HeaderLength, TypeOfService, TotalLength, Identification, ReservedBit, DontFragment, MoreFragments, FragmentOffset, Ttl, Protocol, HeaderChecksum, Source, Destination, IpOptions, SourcePort, DestinationPort, Sequence, Acknowledgment, DataOffset, Reserved, Flags, Window, Checksum, UrgentPointer, TcpOptions, UdpLength, Payload, Trailer}

-- the fields, in order
abbrev pub fields : List Field
fields =
    LinkHeader ∷ Version ∷ HeaderLength ∷ TypeOfService ∷ TotalLength ∷ Identification ∷ ReservedBit ∷ DontFragment ∷ MoreFragments ∷ FragmentOffset ∷ Ttl
    ∷ Protocol ∷ HeaderChecksum ∷ Source ∷ Destination ∷ IpOptions ∷ SourcePort ∷ DestinationPort ∷ Sequence ∷ Acknowledgment ∷ DataOffset ∷ Reserved ∷ Flags
    ∷ Window ∷ Checksum ∷ UrgentPointer ∷ TcpOptions ∷ UdpLength ∷ Payload ∷ Trailer ∷ []

-- the name of a field
abbrev pub field_name : Field → List ℕ
field_name LinkHeader = codes "link"
field_name Version = codes "version"
field_name HeaderLength = codes "header_length"
field_name TypeOfService = codes "type_of_service"
field_name TotalLength = codes "total_length"
field_name Identification = codes "identification"
field_name ReservedBit = codes "reserved_bit"
field_name DontFragment = codes "dont_fragment"
field_name MoreFragments = codes "more_fragments"
field_name FragmentOffset = codes "fragment_offset"
field_name Ttl = codes "ttl"
field_name Protocol = codes "protocol"
field_name HeaderChecksum = codes "header_checksum"
field_name Source = codes "source"
field_name Destination = codes "destination"
field_name IpOptions = codes "ip_options"
field_name SourcePort = codes "source_port"
field_name DestinationPort = codes "destination_port"
field_name Sequence = codes "sequence"
field_name Acknowledgment = codes "acknowledgment"
field_name DataOffset = codes "data_offset"
field_name Reserved = codes "reserved"
field_name Flags = codes "flags"
field_name Window = codes "window"
field_name Checksum = codes "checksum"
field_name UrgentPointer = codes "urgent_pointer"
field_name TcpOptions = codes "tcp_options"
field_name UdpLength = codes "udp_length"
field_name Payload = codes "payload"
field_name Trailer = codes "trailer"

-- the field has octets: the octets before the packet, options, the payload and the octets after the
-- packet; any other has one number
abbrev pub has_octets : Field → Bool
has_octets LinkHeader = true
has_octets IpOptions = true
has_octets TcpOptions = true
has_octets Payload = true
has_octets Trailer = true
has_octets field = false

-- what a part of a packet says, or nothing where there is no such part
abbrev pub octets : (List ℕ → List ℕ) → (part : Option (List ℕ)) → List ℕ
octets value None = []
octets value (Some part) = value part

-- a bit of the octet that begins with the three flags of an IPv4 header, by its weight: 0 or 1
abbrev pub bit_of : (weight : ℕ) → (packet : List ℕ) → ℕ
bit_of weight p = slice_index p 6 / weight % 2

-- what a segment says in a field of the TCP header (RFC 9293 section 3.1), and nothing in any
-- other; lengths are in octets
abbrev pub segment_reading : Field → (segment : List ℕ) → List ℕ
segment_reading SourcePort m = tcp.source_port m ∷ []
segment_reading DestinationPort m = tcp.destination_port m ∷ []
segment_reading Sequence m = tcp.sequence m ∷ []
segment_reading Acknowledgment m = tcp.acknowledgment m ∷ []
segment_reading DataOffset m = tcp.header_length m ∷ []
segment_reading Reserved m = tcp.reserved m ∷ []
segment_reading Flags m = tcp.flags m ∷ []
segment_reading Window m = tcp.window m ∷ []
segment_reading Checksum m = u16_at m 16 ∷ []
segment_reading UrgentPointer m = tcp.urgent_pointer m ∷ []
segment_reading TcpOptions m = tcp.options m
segment_reading field m = []

-- what a datagram says in a field of the UDP header (RFC 768), and nothing in any other
abbrev pub datagram_reading : Field → (datagram : List ℕ) → List ℕ
datagram_reading SourcePort m = udp.source_port m ∷ []
datagram_reading DestinationPort m = udp.destination_port m ∷ []
datagram_reading UdpLength m = udp.length_field m ∷ []
datagram_reading Checksum m = udp.checksum m ∷ []
datagram_reading field m = []

-- what the segment or the datagram of a packet says in a field
abbrev pub message_reading : Field → (segment datagram : Option (List ℕ)) → List ℕ
message_reading field (Some m) datagram = segment_reading field m
message_reading field None datagram = octets (datagram_reading field) datagram

-- what a packet whose header can be read says in a field, and nothing in the link header's; lengths
-- and the fragment offset are in octets
abbrev pub packet_reading : Field → (packet : List ℕ) → List ℕ
packet_reading LinkHeader p = []
packet_reading Version p = ip.version p ∷ []
packet_reading HeaderLength p = ip.header_length p ∷ []
packet_reading TypeOfService p = ip.type_of_service p ∷ []
packet_reading TotalLength p = ip.total_length p ∷ []
packet_reading Identification p = ip.identification p ∷ []
packet_reading ReservedBit p = bit_of 128 p ∷ []
packet_reading DontFragment p = bit_of 64 p ∷ []
packet_reading MoreFragments p = bit_of 32 p ∷ []
packet_reading FragmentOffset p = ip.fragment_offset p ∷ []
packet_reading Ttl p = ip.time_to_live p ∷ []
packet_reading Protocol p = ip.protocol p ∷ []
packet_reading HeaderChecksum p = ip.header_checksum p ∷ []
packet_reading Source p = ip.source p ∷ []
packet_reading Destination p = ip.destination p ∷ []
packet_reading IpOptions p = ip.options p
packet_reading Payload p = payload_in p
packet_reading Trailer p = trailer_in p
packet_reading field p = message_reading field (segment_in p) (datagram_in p)

-- what a frame says in a field; the payload is all octets after the link header where no IPv4
-- header can be read
abbrev pub reading : Link → Field → (frame : List ℕ) → List ℕ
reading link LinkHeader f = link_octets link f
reading link Payload f = payload_of link f
reading link field f = octets (packet_reading field) (packet_of link f)
