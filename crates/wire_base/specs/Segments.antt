-- TCP segments as plain records (RFC 9293 section 3.1).
use Rattle.std.specs.Prelude.{ℕ, ◌==◌, Bool, List, Option, Some, None, if◌then◌else◌}
use Rattle.wire_base.specs.Ipv4 as ip
use Rattle.wire_base.specs.Tcp as tcp
use Rattle.wire_base.specs.Options.{scale_of}

-- a TCP segment: the addresses of its packet, the fields of its header, and its payload
pub record Segment : Type 0 where
  pub source : ℕ
  pub destination : ℕ
  pub source_port : ℕ
  pub destination_port : ℕ
  pub sequence : ℕ
  pub acknowledgment : ℕ
  pub flags : ℕ
  pub window : ℕ
  pub options : List ℕ
  pub octets : List ℕ

-- the payload of a packet, read as a TCP segment
abbrev pub fields_of : List ℕ → Segment
fields_of p =
    let m = ip.payload p in
    record {
      source = ip.source p;
      destination = ip.destination p;
      source_port = tcp.source_port m;
      destination_port = tcp.destination_port m;
      sequence = tcp.sequence m;
      acknowledgment = tcp.acknowledgment m;
      flags = tcp.flags m;
      window = tcp.window m;
      options = tcp.options m;
      octets = tcp.payload m;
    }

-- the segment of a packet, or None if its protocol is not TCP (6)
abbrev pub segment_of : List ℕ → Option Segment
segment_of p = if ip.protocol p == 6 then Some (fields_of p) else None

-- a segment that was written inwards or outwards
pub record Written : Type 0 where
  pub inward : Bool
  pub seq : ℕ
  pub ack : ℕ
  pub flags : ℕ
  pub window : ℕ
  pub scale : Option ℕ
  pub octets : List ℕ

-- the segment as one that was written in this direction
abbrev pub written_of : Bool → Segment → Written
written_of inward s =
    record { inward = inward; seq = s.sequence; ack = s.acknowledgment; flags = s.flags; window = s.window; scale = scale_of s.options; octets = s.octets }
