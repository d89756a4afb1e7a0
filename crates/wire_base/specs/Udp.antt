-- The UDP header (RFC 768), read from the octets of a message, the payload of an IPv4 packet.
use Rattle.std.specs.Prelude.{◌==◌, ◌&&◌, nat_lt, not, Bool, ℕ, List, length}
use Rattle.wire_base.specs.Numbers.{u16_at}
use Rattle.wire_base.specs.Checksums.{sum_is_right}

abbrev pub source_port : List ℕ → ℕ
source_port m = u16_at m 0

abbrev pub destination_port : List ℕ → ℕ
destination_port m = u16_at m 2

-- in octets, header included
abbrev pub length_field : List ℕ → ℕ
length_field m = u16_at m 4

-- 0 if the sender made none
abbrev pub checksum : List ℕ → ℕ
checksum m = u16_at m 6

-- fewer than the 8 octets of the header
abbrev pub is_short : List ℕ → Bool
is_short m = nat_lt (length m) 8

-- the length field is not the number of octets
abbrev pub has_other_length : List ℕ → Bool
has_other_length m = not (length_field m == length m)

-- the sender made a checksum, and it is wrong; `pseudo` is the sum of the pseudo-header
abbrev pub has_wrong_sum : (pseudo : ℕ) → List ℕ → Bool
has_wrong_sum pseudo m = not (checksum m == 0) && not (sum_is_right m pseudo)
