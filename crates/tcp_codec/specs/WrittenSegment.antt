-- The octets of a written segment (RFC 9293 section 3.1).
use Rattle.std.specs.Prelude.{◌≡◌, ℕ, ◌+◌, ◌*◌, ◌/◌, ◌%◌, ◌^◌, ◌<◌, ◌≤◌, Bool, true, List, ◌∷◌, ◌++◌, length, Ok}
use Rattle.wire_base.specs.Numbers.{u16_octets, u32_octets}
use Rattle.wire_base.specs.Checksums.{word_sum, checksum_for, pseudo_sum}
use Rattle.wire_base.specs.Segments.{Segment}
use Rattle.wire_base.specs.Tcp as tcp
use Rattle.wire_base.specs.Tcp.{are_legal}
use Rattle.wire_base.specs.Options.{are_well_formed, cleaned}
use Rattle.tcp_codec.specs.declared.header.Tcp.{Tcp}
use Rattle.tcp_codec.specs.declared.header.SumRule.{SumRule}
use Rattle.tcp_codec.specs.declared.write.SegmentParts.{SegmentParts}
use Rattle.tcp_codec.specs.HeaderFields.{fields_of, parsed}
use Rattle.wire_base.specs.declared.limits.TheConstants.{MAX_PAYLOAD}

-- the segment of these parts with these options and this payload
abbrev pub segment_with : SegmentParts → (options octets : List ℕ) → Segment
segment_with parts options octets =
    record {
      source = parts.src.0;
      destination = parts.dst.0;
      source_port = parts.sport;
      destination_port = parts.dport;
      sequence = parts.seq;
      acknowledgment = parts.ack;
      flags = parts.flags.0;
      window = parts.window;
      options = options;
      octets = octets;
    }

-- the segment of these parts and this payload
abbrev pub segment_of : SegmentParts → (octets : List ℕ) → Segment
segment_of parts octets = segment_with parts parts.options.items octets

-- the segment of these parts and this payload, with the cleaned options of an area
abbrev pub cleaned_segment : SegmentParts → (syn : Bool) → (area octets : List ℕ) → Segment
cleaned_segment parts syn area octets = segment_with parts (cleaned syn area) octets

-- the fields before the options: ports, sequence and acknowledgment numbers, data offset in words
-- of four octets, reserved bits 0, flags, window, checksum, and urgent pointer 0
abbrev pub header_octets : Segment → (checksum : ℕ) → List ℕ
header_octets s checksum =
    u16_octets s.source_port ++ u16_octets s.destination_port
    ++ u32_octets s.sequence
    ++ u32_octets s.acknowledgment
    ++ (16 * ((20 + length s.options) / 4) ∷ s.flags ∷ u16_octets s.window)
    ++ u16_octets checksum ++ u16_octets 0

-- the header, the options and the payload, with this checksum
abbrev pub octets_with : Segment → (checksum : ℕ) → List ℕ
octets_with s checksum = header_octets s checksum ++ (s.options ++ s.octets)

-- the sum of the pseudo-header of the segment
abbrev pub pseudo_of : Segment → ℕ
pseudo_of s = pseudo_sum s.source s.destination 6 (20 + length s.options + length s.octets)

-- the checksum, summed with 0 in the checksum field
abbrev pub checksum_of : Segment → ℕ
checksum_of s = checksum_for (pseudo_of s + word_sum (octets_with s 0))

-- the octets of the segment, with its checksum
abbrev pub segment_octets : Segment → List ℕ
segment_octets s = octets_with s (checksum_of s)

-- the numbers fit their fields, the options fill words of four octets, and the segment fits an IPv4
-- packet with a header of 20 octets
pub record Fits (s : Segment) : Type 0 where
  pub source : s.source < 2 ^ 32
  pub destination : s.destination < 2 ^ 32
  pub source_port : s.source_port < 2 ^ 16
  pub destination_port : s.destination_port < 2 ^ 16
  pub sequence : s.sequence < 2 ^ 32
  pub acknowledgment : s.acknowledgment < 2 ^ 32
  pub flags : s.flags < 2 ^ 8
  pub window : s.window < 2 ^ 16
  pub words : length s.options % 4 ≡ 0
  pub room : length s.options ≤ 40
  pub size : 20 + length s.options + length s.octets ≤ MAX_PAYLOAD

-- the header that parsing the segment returns
abbrev pub header_of : Segment → Tcp
header_of s =
    record {
      sport = s.source_port;
      dport = s.destination_port;
      seq = s.sequence;
      ack = s.acknowledgment;
      header = 20 + length s.options;
      reserved = 0;
      flags = record { 0 = s.flags };
      window = s.window;
      sum_right = true;
      urgent = 0;
    }

-- parsing a written segment returns its header, its options and its payload
pub record IsReadBack (s : Segment) : Type 0 where
  pub header : fields_of (pseudo_of s) (segment_octets s) ≡ header_of s
  pub options : tcp.options (segment_octets s) ≡ s.options
  pub octets : tcp.payload (segment_octets s) ≡ s.octets
  pub parsed : are_legal s.flags ≡ true → are_well_formed s.options ≡ true → (rule : SumRule) → parsed rule (pseudo_of s) (segment_octets s) ≡ Ok (header_of s)

abbrev pub AreReadBack : Type 0
AreReadBack = (s : Segment) → Fits s → IsReadBack s
