-- The ICMP header (RFC 792), read from the octets of a message, the payload of an IPv4 packet.
use Rattle.std.specs.Prelude.{nat_lt, not, Bool, ℕ, List, length, slice_index}
use Rattle.wire_base.specs.Checksums.{sum_is_right}

abbrev pub kind : List ℕ → ℕ
kind m = slice_index m 0

abbrev pub code : List ℕ → ℕ
code m = slice_index m 1

-- fewer than the 8 octets of the header
abbrev pub is_short : List ℕ → Bool
is_short m = nat_lt (length m) 8

-- the checksum over the whole message is wrong
abbrev pub has_wrong_sum : List ℕ → Bool
has_wrong_sum m = not (sum_is_right m 0)
