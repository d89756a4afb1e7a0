-- The IPv4 header (RFC 791 section 3.1): its fields at their offsets in the octets of a packet, and
-- the parts of a packet. Octets past the end read as 0.
use Rattle.std.specs.Prelude.{ℕ, ◌*◌, ◌/◌, ◌%◌, ◌==◌, ◌||◌, nat_lt, not, Bool, List, length, take, drop, slice_index}
use Rattle.wire_base.specs.Numbers.{u16_at, u32_at}
use Rattle.wire_base.specs.Checksums.{sum_is_right}

abbrev pub version : List ℕ → ℕ
version p = slice_index p 0 / 16

-- in octets; the field counts words of four octets
abbrev pub header_length : List ℕ → ℕ
header_length p = 4 * (slice_index p 0 % 16)

abbrev pub type_of_service : List ℕ → ℕ
type_of_service p = slice_index p 1

-- in octets, header included
abbrev pub total_length : List ℕ → ℕ
total_length p = u16_at p 2

abbrev pub identification : List ℕ → ℕ
identification p = u16_at p 4

-- the reserved flag is set
abbrev pub has_reserved : List ℕ → Bool
has_reserved p = (slice_index p 6 / 128 % 2) == 1

-- the flag DF, don't fragment, is set
abbrev pub has_dont_fragment : List ℕ → Bool
has_dont_fragment p = (slice_index p 6 / 64 % 2) == 1

-- the flag MF, more fragments, is set
abbrev pub has_more_fragments : List ℕ → Bool
has_more_fragments p = (slice_index p 6 / 32 % 2) == 1

-- in octets; the field counts units of eight octets
abbrev pub fragment_offset : List ℕ → ℕ
fragment_offset p = 8 * (u16_at p 6 % 8192)

abbrev pub time_to_live : List ℕ → ℕ
time_to_live p = slice_index p 8

abbrev pub protocol : List ℕ → ℕ
protocol p = slice_index p 9

abbrev pub header_checksum : List ℕ → ℕ
header_checksum p = u16_at p 10

abbrev pub source : List ℕ → ℕ
source p = u32_at p 12

abbrev pub destination : List ℕ → ℕ
destination p = u32_at p 16

-- the octets of the header, options included
abbrev pub header : List ℕ → List ℕ
header p = take (header_length p) p

-- the octets of the header's options
abbrev pub options : List ℕ → List ℕ
options p = drop 20 (header p)

-- the octets after the header, up to the total length
abbrev pub payload : List ℕ → List ℕ
payload p = drop (header_length p) (take (total_length p) p)

-- a fragment: more fragments follow, or the offset is above 0
abbrev pub is_fragment : List ℕ → Bool
is_fragment p = has_more_fragments p || nat_lt 0 (fragment_offset p)

-- fewer than the 20 octets of a header without options
abbrev pub is_short : List ℕ → Bool
is_short p = nat_lt (length p) 20

abbrev pub has_other_version : List ℕ → Bool
has_other_version p = not (version p == 4)

-- the header length is below 20 or above the number of octets
abbrev pub has_bad_header_length : List ℕ → Bool
has_bad_header_length p = nat_lt (header_length p) 20 || nat_lt (length p) (header_length p)

-- the total length is below the header length or above the number of octets
abbrev pub has_bad_total_length : List ℕ → Bool
has_bad_total_length p = nat_lt (total_length p) (header_length p) || nat_lt (length p) (total_length p)

-- the header's checksum is wrong
abbrev pub has_wrong_sum : List ℕ → Bool
has_wrong_sum p = not (sum_is_right (header p) 0)

-- octets follow after the total length
abbrev pub has_trailer : List ℕ → Bool
has_trailer p = nat_lt (total_length p) (length p)

-- the header is longer than 20 octets
abbrev pub has_options : List ℕ → Bool
has_options p = nat_lt 20 (header_length p)
