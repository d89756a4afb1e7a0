-- The packets that go out for a datagram (this project's profile, over RFC 791 and RFC 9293 section
-- 3.1).
use Rattle.std.specs.Prelude.{ℕ, ◌-◌, ◌&&◌, ◌||◌, not, Bool, List, [], ◌∷◌, length, map, Option, Some, None, if◌then◌else◌}
use Rattle.wire_base.specs.Tcp as tcp
use Rattle.wire_base.specs.Segments.{Segment, Written}
use Rattle.tcp_codec.specs.MendedSegment.{mended}
use Rattle.tcp_codec.specs.WrittenSegment.{segment_octets}
use Rattle.rule_book.specs.declared.rule.Rule.{Rule}
use Rattle.rule_book.specs.declared.rule.Rule.TheVariants as rules
use Rattle.norm_settings.specs.SettingValues.{PlainSettings}
use Rattle.era_state.specs.declared.probe.Probe.{Probe}
use Rattle.era_state.specs.ForwardedOctets.{bounds_of, offset_of, keeps_fin, frame_sequence_of}
use Rattle.cold_start.specs.Rules.{cold_probe_of, is_asked}
use Rattle.reset_probe.specs.Rules.{era_probe}
use Rattle.reset_probe.specs.ProbePackets.{probe_segment}
use Rattle.ip_rules.specs.Datagrams.{Datagram, Packet, goes_in, as_read, head_sent, anew}
use Rattle.tcp_norm.specs.Calls.{segment_in}
use Rattle.tcp_norm.specs.RuleViews.{View}
use Rattle.tcp_norm.specs.RuleRows.{is_live, pseudo_of, octet_sent, kept_offsets, options_sent}

-- the flags without the one of this weight
abbrev pub without_flag : ℕ → ℕ → ℕ
without_flag weight flags = if tcp.has_flag weight flags then flags - weight else flags

-- the flags that go inwards of these: without URG
abbrev pub flags_cleared : ℕ → ℕ
flags_cleared flags = without_flag 32 flags

-- the segment rewritten, with these flags, this sequence number and these octets: reserved bits and
-- urgent marks are 0, the options are cleaned
abbrev pub segment_with : Datagram → (sequence flags : ℕ) → List ℕ → Segment
segment_with d sequence flags octets =
    record {
      source = d.head.src.0;
      destination = d.head.dst.0;
      source_port = tcp.source_port d.octets;
      destination_port = tcp.destination_port d.octets;
      sequence = sequence;
      acknowledgment = tcp.acknowledgment d.octets;
      flags = flags_cleared flags;
      window = tcp.window d.octets;
      options = options_sent d;
      octets = octets;
    }

-- the FIN is kept
abbrev pub is_fin_kept : List Written → Written → Bool
is_fin_kept ws w = keeps_fin (bounds_of ws) (offset_of ws w.seq) (length w.octets) (tcp.has_fin w.flags)

-- the octets of the kept interval as they go out
abbrev pub octets_sent : List Written → Written → List ℕ
octets_sent ws w = map (octet_sent ws w) (kept_offsets ws w)

-- an inbound SYN or RST rewritten: without octets
abbrev pub bare_segment : Datagram → Segment
bare_segment d = segment_with d (segment_in d).seq (segment_in d).flags []

-- another inbound segment rewritten: the kept interval, and the FIN where it is kept
abbrev pub stream_segment : List Written → Datagram → Segment
stream_segment ws d =
    let w = segment_in d in
    segment_with d (frame_sequence_of ws w) (if is_fin_kept ws w then w.flags else without_flag 1 w.flags) (octets_sent ws w)

abbrev pub segment_anew : List Written → Datagram → Segment
segment_anew ws d = if tcp.has_syn (segment_in d).flags || tcp.has_rst (segment_in d).flags then bare_segment d else stream_segment ws d

-- an outbound segment with its checksum corrected: nothing else changes
abbrev pub sum_mended : Datagram → List ℕ
sum_mended d = mended (pseudo_of d) d.octets

-- the segment that is sent: as it arrived where no rule rewrites it
abbrev pub segment_sent : List Written → Datagram → List Rule → List ℕ
segment_sent ws d [] = d.octets
segment_sent ws d (rule ∷ more) = if goes_in d.side then segment_octets (segment_anew ws d) else sum_mended d

-- the packet of the datagram itself: as it arrived where no rule rewrites it
abbrev pub packet_by : PlainSettings → List Written → Datagram → (fixes mended : List Rule) → Packet
packet_by settings ws d [] [] = as_read d
packet_by settings ws d [] (rule ∷ more) = anew settings d (segment_sent ws d (rule ∷ more))
packet_by settings ws d (fix ∷ others) mended = anew settings d (segment_sent ws d mended)

-- the packet of a probe to the ports of the datagram
abbrev pub probe_packet : PlainSettings → Datagram → Probe → Packet
probe_packet settings d probe =
    anew settings d (segment_octets (probe_segment (head_sent settings d) (tcp.source_port d.octets) (tcp.destination_port d.octets) probe))

-- the packet of a probe, if there is one
abbrev pub probe_packets : PlainSettings → Datagram → Option Probe → List Packet
probe_packets settings d None = []
probe_packets settings d (Some probe) = probe_packet settings d probe ∷ []

-- the probe that is sent with a datagram that a rule drops: the cold probe under T_STATE, the era
-- probe under T_SYN
abbrev pub probe_dropped : View → Datagram → Rule → Option Probe
probe_dropped v d rules.TState = Some (cold_probe_of (segment_in d))
probe_dropped v d rules.TSyn = era_probe v.segments (segment_in d)
probe_dropped v d _ = None

-- the packets of a datagram that no rule drops: the cold probe alone where a host is asked about
-- it; else its own, and after a RST the era probe
abbrev pub packets_passed : PlainSettings → View → Datagram → (mended : List Rule) → List Packet
packets_passed settings v d mended =
    let w = segment_in d in
    if not (is_live v) && is_asked w
    then probe_packet settings d (cold_probe_of w) ∷ []
    else packet_by settings v.segments d d.fixes mended
    ∷ (if is_live v && w.inward && tcp.has_rst w.flags then probe_packets settings d (era_probe v.segments w) else [])
