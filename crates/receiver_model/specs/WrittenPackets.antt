-- TCP packets as the bridge writes them: a header without options before a segment (RFC 791 section
-- 3.1, RFC 9293 section 3.1).
use Rattle.std.specs.Prelude.{◌≡◌, ℕ, ◌<◌, ◌||◌, true, false, List, [], ◌++◌, length, Some}
use Rattle.wire_base.specs.Options.{are_well_formed, cleaned}
use Rattle.wire_base.specs.Plain.{Plain}
use Rattle.wire_base.specs.Segments.{Segment, segment_of}
use Rattle.wire_base.specs.Tcp.{are_legal, has_rst, has_syn, has_urg}
use Rattle.ipv4_codec.specs.declared.header.Ipv4.{Ipv4}
use Rattle.ipv4_codec.specs.WrittenHeader.{plain_header}
use Rattle.tcp_codec.specs.WrittenSegment.{Fits, segment_octets}

-- a segment whose numbers and sizes fit, with legal flags and without URG, with well-formed options
-- that cleaning leaves unchanged, and without octets on SYN or RST
pub record IsPlainSegment (s : Segment) : Type 0 where
  pub fits : Fits s
  pub legal : are_legal s.flags ≡ true
  pub urgent : has_urg s.flags ≡ false
  pub formed : are_well_formed s.options ≡ true
  pub kept : cleaned (has_syn s.flags) s.options ≡ s.options
  pub bare : (has_syn s.flags || has_rst s.flags) ≡ true → s.octets ≡ []

-- the header of a packet that carries the segment between its addresses
pub record Carries (head : Ipv4) (s : Segment) : Type 0 where
  pub protocol : head.protocol ≡ 6
  pub source : head.src.0 ≡ s.source
  pub destination : head.dst.0 ≡ s.destination

-- the octets of the packet
abbrev pub packet_of : Ipv4 → Segment → List ℕ
packet_of head s = plain_header head (length (segment_octets s)) ++ segment_octets s

-- the packet is plain for every host that it reaches, and is read as TCP, as the segment
pub record IsRead (head : Ipv4) (s : Segment) : Type 0 where
  pub plain : (hops : ℕ) → hops < head.ttl → Plain hops (packet_of head s)
  pub segment : segment_of (packet_of head s) ≡ Some s

-- this holds for any octets of the segment and any other fields of the header
abbrev pub AreRead : Type 0
AreRead = (head : Ipv4) (s : Segment) → IsPlainSegment s → Carries head s → IsRead head s
