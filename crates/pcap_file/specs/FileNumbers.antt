-- Numbers of a capture file in its byte order (classic pcap). An octet past the end is read as 0.
use Rattle.std.specs.Prelude.{ℕ, ◌+◌, ◌*◌, List, slice_index}
use Rattle.std.specs.Int.{w16, w32, to_le_bytes, to_be_bytes}
use Rattle.wire_base.specs.Numbers as highest_first
use Rattle.pcap_file.specs.declared.record.Order.{Order}
use Rattle.pcap_file.specs.declared.record.Order.TheVariants.{Little, Big}

-- the 16-bit number at offset `at`
abbrev pub u16_at : Order → List ℕ → ℕ → ℕ
u16_at Little octets at = slice_index octets at + 256 * slice_index octets (at + 1)
u16_at Big octets at = highest_first.u16_at octets at

-- the 32-bit number at offset `at`
abbrev pub u32_at : Order → List ℕ → ℕ → ℕ
u32_at Little octets at = u16_at Little octets at + 65536 * u16_at Little octets (at + 2)
u32_at Big octets at = highest_first.u32_at octets at

-- the two octets of a number below 2^16
abbrev pub u16_octets : Order → ℕ → List ℕ
u16_octets Little n = to_le_bytes w16 n
u16_octets Big n = to_be_bytes w16 n

-- the four octets of a number below 2^32
abbrev pub u32_octets : Order → ℕ → List ℕ
u32_octets Little n = to_le_bytes w32 n
u32_octets Big n = to_be_bytes w32 n
