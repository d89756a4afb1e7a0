-- A segment with only its checksum rewritten (RFC 9293 section 3.1).
use Rattle.std.specs.Prelude.{◌≡◌, ℕ, ◌+◌, ◌≤◌, List, length}
use Rattle.wire_base.specs.Numbers.{with_u16}
use Rattle.wire_base.specs.Checksums.{word_sum, checksum_for}
use Rattle.wire_base.specs.Tcp as tcp

-- the segment with the right checksum, summed with 0 in the checksum field, all other octets
-- unchanged; `pseudo` is the sum of the pseudo-header
abbrev pub mended : (pseudo : ℕ) → List ℕ → List ℕ
mended pseudo segment = with_u16 segment 16 (checksum_for (pseudo + word_sum (with_u16 segment 16 0)))

-- two segments have the same ports, sequence and acknowledgment numbers, flags, window, options,
-- payload and length
pub record SaysTheSame (a b : List ℕ) : Type 0 where
  pub source_port : tcp.source_port a ≡ tcp.source_port b
  pub destination_port : tcp.destination_port a ≡ tcp.destination_port b
  pub sequence : tcp.sequence a ≡ tcp.sequence b
  pub acknowledgment : tcp.acknowledgment a ≡ tcp.acknowledgment b
  pub flags : tcp.flags a ≡ tcp.flags b
  pub window : tcp.window a ≡ tcp.window b
  pub options : tcp.options a ≡ tcp.options b
  pub payload : tcp.payload a ≡ tcp.payload b
  pub size : length a ≡ length b

-- a segment with its checksum rewritten has all these as before
abbrev pub MendedSayTheSame : Type 0
MendedSayTheSame = (pseudo : ℕ) (segment : List ℕ) → 20 ≤ length segment → 20 ≤ tcp.header_length segment → SaysTheSame (mended pseudo segment) segment
