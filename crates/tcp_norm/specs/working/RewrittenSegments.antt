-- A segment that is rewritten, by the fields of the one that was read.
use Rattle.std.specs.Prelude.{ℕ, Bool, List, if◌then◌else◌}
use Rattle.wire_base.specs.Options.{cleaned}
use Rattle.wire_base.specs.Tcp as tcp
use Rattle.wire_base.specs.Segments.{Segment}
use Rattle.ipv4_codec.specs.declared.header.Ipv4.{Ipv4}
use Rattle.tcp_codec.specs.declared.header.Tcp.{Tcp}
use Rattle.tcp_norm.specs.EmittedPackets.{without_flag, flags_cleared}
use Rattle.tcp_norm.specs.declared.arrival.Arrival.{Arrival}
use Rattle.tcp_norm.specs.declared.step.Passage.{Passage}

-- with its ports, acknowledgment and window; its urgent marks are 0, and its FIN is left out where
-- it is not kept
abbrev pub anew_segment : Ipv4 → Tcp → (sequence : ℕ) (fin : Bool) (options octets : List ℕ) → Segment
anew_segment ip head sequence fin options octets =
    record {
      source = ip.src.0;
      destination = ip.dst.0;
      source_port = head.sport;
      destination_port = head.dport;
      sequence = sequence;
      acknowledgment = head.ack;
      flags = flags_cleared (if fin then head.flags.0 else without_flag 1 head.flags.0);
      window = head.window;
      options = options;
      octets = octets;
    }

-- with the sequence number and the FIN of this passage, cleaned options, and these octets
abbrev pub rewritten : Arrival → Ipv4 → Passage → (octets : List ℕ) → Segment
rewritten a ip p octets = anew_segment ip a.head.now p.seq p.fin (cleaned (tcp.has_syn a.head.now.flags.0) (tcp.options a.packet.now.payload.now)) octets
