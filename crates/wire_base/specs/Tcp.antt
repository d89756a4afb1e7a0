-- The TCP header (RFC 9293 section 3.1), read from the octets of a segment, the payload of an IPv4
-- packet.
use Rattle.std.specs.Prelude.{ℕ, ◌*◌, ◌/◌, ◌%◌, ◌==◌, ◌&&◌, ◌||◌, nat_lt, not, Bool, true, false, List, length, take, drop, slice_index}
use Rattle.wire_base.specs.Numbers.{u16_at, u32_at}
use Rattle.wire_base.specs.Checksums.{sum_is_right}
use Rattle.wire_base.specs.Options.{are_well_formed}

abbrev pub source_port : List ℕ → ℕ
source_port m = u16_at m 0

abbrev pub destination_port : List ℕ → ℕ
destination_port m = u16_at m 2

abbrev pub sequence : List ℕ → ℕ
sequence m = u32_at m 4

abbrev pub acknowledgment : List ℕ → ℕ
acknowledgment m = u32_at m 8

-- in octets; the data offset counts words of four octets
abbrev pub header_length : List ℕ → ℕ
header_length m = 4 * (slice_index m 12 / 16)

-- the four bits between the data offset and the flags
abbrev pub reserved : List ℕ → ℕ
reserved m = slice_index m 12 % 16

-- CWR 128, ECE 64, URG 32, ACK 16, PSH 8, RST 4, SYN 2, FIN 1
abbrev pub flags : List ℕ → ℕ
flags m = slice_index m 13

abbrev pub window : List ℕ → ℕ
window m = u16_at m 14

abbrev pub urgent_pointer : List ℕ → ℕ
urgent_pointer m = u16_at m 18

abbrev pub options : List ℕ → List ℕ
options m = drop 20 (take (header_length m) m)

abbrev pub payload : List ℕ → List ℕ
payload m = drop (header_length m) m

-- the flag with this value is set
abbrev pub has_flag : ℕ → ℕ → Bool
has_flag weight flags = (flags / weight % 2) == 1

abbrev pub has_urg : ℕ → Bool
has_urg flags = has_flag 32 flags

abbrev pub has_ack : ℕ → Bool
has_ack flags = has_flag 16 flags

abbrev pub has_psh : ℕ → Bool
has_psh flags = has_flag 8 flags

abbrev pub has_rst : ℕ → Bool
has_rst flags = has_flag 4 flags

abbrev pub has_syn : ℕ → Bool
has_syn flags = has_flag 2 flags

abbrev pub has_fin : ℕ → Bool
has_fin flags = has_flag 1 flags

-- the flags set of SYN, FIN, RST and ACK are SYN; SYN ACK; ACK; FIN ACK; RST; or RST ACK (this
-- project's profile)
abbrev pub go_together : (syn fin rst ack : Bool) → Bool
go_together true fin rst ack = not fin && not rst
go_together false fin true ack = not fin
go_together false fin false ack = ack

abbrev pub are_legal : ℕ → Bool
are_legal flags = go_together (has_syn flags) (has_fin flags) (has_rst flags) (has_ack flags)

-- fewer than the 20 octets of a header without options
abbrev pub is_short : List ℕ → Bool
is_short m = nat_lt (length m) 20

-- the header length is below 20 or above the number of octets
abbrev pub has_bad_header_length : List ℕ → Bool
has_bad_header_length m = nat_lt (header_length m) 20 || nat_lt (length m) (header_length m)

-- the checksum over the pseudo-header and the segment is wrong; `pseudo` is the sum of the
-- pseudo-header
abbrev pub has_wrong_sum : (pseudo : ℕ) → List ℕ → Bool
has_wrong_sum pseudo m = not (sum_is_right m pseudo)

-- the combination of SYN, FIN, RST and ACK is illegal
abbrev pub has_illegal_flags : List ℕ → Bool
has_illegal_flags m = not (are_legal (flags m))

-- before the end option or the end of the area an option has no length octet, a length below 2, or
-- reaches past the area
abbrev pub has_bad_options : List ℕ → Bool
has_bad_options m = not (are_well_formed (options m))
