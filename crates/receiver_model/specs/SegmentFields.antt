-- The fields of a segment, read from the packet without a copy.
use Rattle.std.specs.Prelude.{ℕ, List, take, drop}
use Rattle.wire_base.specs.Segments.{Segment}
use Rattle.receiver_model.specs.declared.segment.Segment.{Segment as Fields}

-- the segment of these fields, with options and octets as they are in the packet: options from
-- octet 40 on, octets from `start` on
abbrev pub segment_in : List ℕ → Fields → Segment
segment_in p f =
    record {
      source = f.src.0;
      destination = f.dst.0;
      source_port = f.sport;
      destination_port = f.dport;
      sequence = f.seq;
      acknowledgment = f.ack;
      flags = f.flags.0;
      window = f.window;
      options = drop 40 (take f.start p);
      octets = drop f.start p;
    }
