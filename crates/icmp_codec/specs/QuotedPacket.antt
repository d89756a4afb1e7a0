-- The packet that an ICMP error message quotes (RFC 792, destination unreachable, time exceeded and
-- parameter problem).
use Rattle.std.specs.Prelude.{ℕ, ◌+◌, ◌==◌, ◌&&◌, nat_le, Bool, List, Option, Some, None, length, drop, if◌then◌else◌}
use Rattle.wire_base.specs.Numbers.{u16_at}
use Rattle.wire_base.specs.Ipv4 as ip
use Rattle.icmp_codec.specs.declared.quote.QuotedKey.{QuotedKey}

-- the octets after the header of eight octets of the message itself
abbrev pub quote_of : List ℕ → List ℕ
quote_of message = drop 8 message

-- the octets after the header of a quoted packet; its total length also counts octets that are not
-- quoted, and is ignored
abbrev pub behind_header : List ℕ → List ℕ
behind_header packet = drop (ip.header_length packet) packet

-- a version 4 header of at least five words, with eight octets after it
abbrev pub is_readable : List ℕ → Bool
is_readable packet =
    (ip.version packet == 4) && nat_le 20 (ip.header_length packet) && nat_le (ip.header_length packet + 8) (length packet)

-- the addresses, the protocol, and the ports, the first four octets after the header in TCP and UDP
abbrev pub key_of : List ℕ → QuotedKey
key_of packet =
    record {
      src = record { 0 = ip.source packet };
      dst = record { 0 = ip.destination packet };
      protocol = ip.protocol packet;
      sport = u16_at (behind_header packet) 0;
      dport = u16_at (behind_header packet) 2;
    }

-- the key of the packet that a message quotes, or None if that is not readable
abbrev pub quoted_in : List ℕ → Option QuotedKey
quoted_in message = if is_readable (quote_of message) then Some (key_of (quote_of message)) else None
