-- The segments and the packets of a load (this project's profile, over RFC 791 section 3.1 and RFC
-- 9293 section 3.1).
use Rattle.std.specs.Prelude.{ℕ, ◌+◌, ◌-◌, ◌*◌, ◌%◌, ◌^◌, false, List, [], ◌∷◌, ◌++◌, length, drop, map}
use Rattle.std.specs.List.{range_with_len}
use Rattle.wire_base.specs.Segments.{Segment}
use Rattle.ipv4_codec.specs.declared.header.Ipv4.{Ipv4}
use Rattle.ipv4_codec.specs.WrittenHeader.{plain_header}
use Rattle.tcp_codec.specs.WrittenSegment.{segment_octets}
use Rattle.load_make.specs.declared.flow.Turn.{Turn}
use Rattle.load_make.specs.declared.flow.Turn.TheVariants.{Call, Answer, Octets, Changed, Acknowledged}

-- 198.51.100.1 and the addresses after it, one for each connection
abbrev pub outside : (flow : ℕ) → ℕ
outside flow = 3325256705 + flow

-- 10.0.0.1
abbrev pub inside : ℕ
inside = 167772161

-- the sequence number of the first payload octet of a connection
abbrev pub base : (flow : ℕ) → ℕ
base flow = 1000 * (flow + 1)

-- a segment from the outside host of a connection to port 80 of the inside host
abbrev pub inbound : (flow flags sequence acknowledgment : ℕ) → (octets : List ℕ) → Segment
inbound flow flags sequence acknowledgment octets =
    record {
      source = outside flow;
      destination = inside;
      source_port = 40000 + flow;
      destination_port = 80;
      sequence = sequence % 2 ^ 32;
      acknowledgment = acknowledgment % 2 ^ 32;
      flags = flags;
      window = 65535;
      options = [];
      octets = octets;
    }

-- a segment from the inside host, without payload
abbrev pub outbound : (flow flags sequence acknowledgment : ℕ) → Segment
outbound flow flags sequence acknowledgment =
    record {
      source = inside;
      destination = outside flow;
      source_port = 80;
      destination_port = 40000 + flow;
      sequence = sequence % 2 ^ 32;
      acknowledgment = acknowledgment % 2 ^ 32;
      flags = flags;
      window = 65535;
      options = [];
      octets = [];
    }

-- the octet at an offset of the stream of a connection
abbrev pub octet_at : (flow offset : ℕ) → ℕ
octet_at flow offset = (offset + flow) % 251

-- 512 octets of the stream of a connection, from `offset` on
unfoldable pub octets_from : (flow offset : ℕ) → List ℕ
octets_from flow offset = map (λ place. octet_at flow (offset + place)) (range_with_len 0 512)

-- the same with 255 as the first octet
abbrev pub changed_from : (flow offset : ℕ) → List ℕ
changed_from flow offset = 255 ∷ drop 1 (octets_from flow offset)

-- the segment of a record, with the flags SYN (2); SYN and ACK (18); ACK and PSH (24); or ACK (16)
abbrev pub segment_for : (flow : ℕ) → Turn → Segment
segment_for flow Call = inbound flow 2 (base flow - 1) 0 []
segment_for flow Answer = outbound flow 18 5000 (base flow)
segment_for flow (Octets offset) = inbound flow 24 (base flow + offset) 5001 (octets_from flow offset)
segment_for flow (Changed offset) = inbound flow 24 (base flow + offset) 5001 (changed_from flow offset)
segment_for flow (Acknowledged offset) = outbound flow 16 5001 (base flow + offset)

-- the fields of the header of the packet
abbrev pub head_of : (identification : ℕ) → Segment → Ipv4
head_of identification s =
    record {
      header = 20;
      tos = 0;
      total = 40 + length s.octets;
      ident = identification;
      reserved = false;
      df = false;
      more = false;
      offset = 0;
      ttl = 64;
      protocol = 6;
      sum = 0;
      src = record { 0 = s.source };
      dst = record { 0 = s.destination };
    }

-- the packet: the header of a packet that is no fragment, and the segment
unfoldable pub packet_octets : (identification : ℕ) → Segment → List ℕ
packet_octets identification s = plain_header (head_of identification s) (20 + length s.octets) ++ segment_octets s
