-- The header of a UDP message as a record, and the first fault of one (RFC 768).
use Rattle.std.specs.Prelude.{ℕ, List, Option, Some, None, Result, if◌then◌else◌}
use Rattle.wire_base.specs.ParseResults.{value_or_fault}
use Rattle.wire_base.specs.Udp as udp
use Rattle.udp_codec.specs.declared.header.Udp.{Udp}
use Rattle.udp_codec.specs.declared.header.UdpFault.{UdpFault}
use Rattle.udp_codec.specs.declared.header.UdpFault.TheVariants.{Short, Length, Sum}

-- each field at its offset in the octets of a message
abbrev pub fields_of : List ℕ → Udp
fields_of message =
    record {
      sport = udp.source_port message;
      dport = udp.destination_port message;
      len = udp.length_field message;
      sum = udp.checksum message;
    }

-- the first fault that holds, in the order of testing (this project's profile); `pseudo` is the sum
-- of the pseudo-header
abbrev pub fault_of : (pseudo : ℕ) → List ℕ → Option UdpFault
fault_of pseudo message =
    if udp.is_short message then Some Short
    else if udp.has_other_length message then Some Length
    else if udp.has_wrong_sum pseudo message then Some Sum
    else None

-- the result of parsing a message: its fields, or its first fault
abbrev pub parsed : (pseudo : ℕ) → List ℕ → Result Udp UdpFault
parsed pseudo message = value_or_fault (fields_of message) (fault_of pseudo message)
