-- The header of a TCP segment as a record, and the first fault of one (RFC 9293 section 3.1).
use Rattle.std.specs.Prelude.{ℕ, ◌&&◌, Bool, true, false, List, Option, Some, None, Result, if◌then◌else◌}
use Rattle.wire_base.specs.ParseResults.{value_or_fault}
use Rattle.wire_base.specs.Checksums.{sum_is_right}
use Rattle.wire_base.specs.Tcp as tcp
use Rattle.tcp_codec.specs.declared.header.Tcp.{Tcp}
use Rattle.tcp_codec.specs.declared.header.SumRule.{SumRule}
use Rattle.tcp_codec.specs.declared.header.SumRule.TheVariants.{Must, Skip}
use Rattle.tcp_codec.specs.declared.header.TcpFault.{TcpFault}
use Rattle.tcp_codec.specs.declared.header.TcpFault.TheVariants.{Short, DataOffset, Sum, Flags, Options}

-- each field at its offset in the octets of a segment, and whether its checksum is right; `pseudo`
-- is the sum of the pseudo-header
abbrev pub fields_of : (pseudo : ℕ) → List ℕ → Tcp
fields_of pseudo segment =
    record {
      sport = tcp.source_port segment;
      dport = tcp.destination_port segment;
      seq = tcp.sequence segment;
      ack = tcp.acknowledgment segment;
      header = tcp.header_length segment;
      reserved = tcp.reserved segment;
      flags = record { 0 = tcp.flags segment };
      window = tcp.window segment;
      sum_right = sum_is_right segment pseudo;
      urgent = tcp.urgent_pointer segment;
    }

-- a wrong checksum is a fault
abbrev pub is_judged : SumRule → Bool
is_judged Must = true
is_judged Skip = false

-- the first fault that holds, in the order of testing (this project's profile)
abbrev pub fault_of : SumRule → (pseudo : ℕ) → List ℕ → Option TcpFault
fault_of rule pseudo segment =
    if tcp.is_short segment then Some Short
    else if tcp.has_bad_header_length segment then Some DataOffset
    else if is_judged rule && tcp.has_wrong_sum pseudo segment then Some Sum
    else if tcp.has_illegal_flags segment then Some Flags
    else if tcp.has_bad_options segment then Some Options
    else None

-- the result of parsing a segment: its fields, or its first fault
abbrev pub parsed : SumRule → (pseudo : ℕ) → List ℕ → Result Tcp TcpFault
parsed rule pseudo segment = value_or_fault (fields_of pseudo segment) (fault_of rule pseudo segment)
