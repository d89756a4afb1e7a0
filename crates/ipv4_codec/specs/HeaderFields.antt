-- The header of an IPv4 packet as a record, and the first fault of one (RFC 791 section 3.1).
use Rattle.std.specs.Prelude.{ℕ, List, Option, Some, None, Result, if◌then◌else◌}
use Rattle.wire_base.specs.ParseResults.{value_or_fault}
use Rattle.wire_base.specs.Ipv4 as ip
use Rattle.ipv4_codec.specs.declared.header.Ipv4.{Ipv4}
use Rattle.ipv4_codec.specs.declared.header.IpFault.{IpFault}
use Rattle.ipv4_codec.specs.declared.header.IpFault.TheVariants.{Short, Version, HeaderLength, Length, Sum}

-- each field at its offset in the octets of a packet
abbrev pub fields_of : List ℕ → Ipv4
fields_of packet =
    record {
      header = ip.header_length packet;
      tos = ip.type_of_service packet;
      total = ip.total_length packet;
      ident = ip.identification packet;
      reserved = ip.has_reserved packet;
      df = ip.has_dont_fragment packet;
      more = ip.has_more_fragments packet;
      offset = ip.fragment_offset packet;
      ttl = ip.time_to_live packet;
      protocol = ip.protocol packet;
      sum = ip.header_checksum packet;
      src = record { 0 = ip.source packet };
      dst = record { 0 = ip.destination packet };
    }

-- the first fault that holds, in the order of testing (this project's profile)
abbrev pub fault_of : List ℕ → Option IpFault
fault_of packet =
    if ip.is_short packet then Some Short
    else if ip.has_other_version packet then Some Version
    else if ip.has_bad_header_length packet then Some HeaderLength
    else if ip.has_bad_total_length packet then Some Length
    else if ip.has_wrong_sum packet then Some Sum
    else None

-- the result of parsing a packet: its fields, or its first fault
abbrev pub parsed : List ℕ → Result Ipv4 IpFault
parsed packet = value_or_fault (fields_of packet) (fault_of packet)
