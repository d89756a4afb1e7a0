-- The packet of a probe (this project's profile, over RFC 791 section 3.1 and RFC 9293 section
-- 3.1).
use Rattle.std.specs.Prelude.{◌≡◌, ℕ, ◌<◌, ◌^◌, true, List, [], ◌++◌}
use Rattle.wire_base.specs.Plain.{Plain}
use Rattle.wire_base.specs.Segments.{Segment, fields_of, written_of}
use Rattle.ipv4_codec.specs.declared.header.Ipv4.{Ipv4}
use Rattle.ipv4_codec.specs.WrittenHeader.{plain_header}
use Rattle.tcp_codec.specs.WrittenSegment.{segment_octets}
use Rattle.era_state.specs.declared.probe.Probe.{Probe}
use Rattle.era_state.specs.SilentSegments.{IsSilent}

-- the segment: ACK alone, which is 16, without options and octets
abbrev pub probe_segment : Ipv4 → (source_port destination_port : ℕ) → Probe → Segment
probe_segment head source_port destination_port probe =
    record {
      source = head.src.0;
      destination = head.dst.0;
      source_port = source_port;
      destination_port = destination_port;
      sequence = probe.seq;
      acknowledgment = probe.ack;
      flags = 16;
      window = probe.window;
      options = [];
      octets = [];
    }

-- the 40 octets: the header of an unfragmented packet, then the segment
abbrev pub probe_octets : Ipv4 → (source_port destination_port : ℕ) → Probe → List ℕ
probe_octets head source_port destination_port probe = plain_header head 20 ++ segment_octets (probe_segment head source_port destination_port probe)

-- a probe between addresses of 32 bits is plain for every host that it reaches
abbrev pub ProbesArePlain : Type 0
ProbesArePlain =
    (head : Ipv4) (source_port destination_port : ℕ) (probe : Probe) → head.src.0 < 2 ^ 32 → head.dst.0 < 2 ^ 32 → head.protocol ≡ 6 → (hops : ℕ) → hops < head.ttl
    → Plain hops (probe_octets head source_port destination_port probe)

-- a probe, read again, adds nothing to the stream: it has neither octets nor SYN nor FIN
abbrev pub ProbesAreSilent : Type 0
ProbesAreSilent = (head : Ipv4) (source_port destination_port : ℕ) (probe : Probe) → IsSilent (written_of true (fields_of (probe_octets head source_port destination_port probe)))
