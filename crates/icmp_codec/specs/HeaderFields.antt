-- The header of an ICMP message as a record, and the first fault of one (RFC 792).
use Rattle.std.specs.Prelude.{ℕ, List, Option, Some, None, Result, if◌then◌else◌}
use Rattle.wire_base.specs.ParseResults.{value_or_fault}
use Rattle.wire_base.specs.Icmp as icmp
use Rattle.icmp_codec.specs.declared.header.Icmp.{Icmp}
use Rattle.icmp_codec.specs.declared.header.IcmpFault.{IcmpFault}
use Rattle.icmp_codec.specs.declared.header.IcmpFault.TheVariants.{Short, Sum}

-- each field at its offset in the octets of a message
abbrev pub fields_of : List ℕ → Icmp
fields_of message = record { kind = icmp.kind message; code = icmp.code message }

-- the first fault that holds, in the order of testing (this project's profile)
abbrev pub fault_of : List ℕ → Option IcmpFault
fault_of message =
    if icmp.is_short message then Some Short
    else if icmp.has_wrong_sum message then Some Sum
    else None

-- the result of parsing a message: its fields, or its first fault
abbrev pub parsed : List ℕ → Result Icmp IcmpFault
parsed message = value_or_fault (fields_of message) (fault_of message)
