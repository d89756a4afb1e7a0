-- The checksum that a sender writes into a UDP message (RFC 768).
use Rattle.std.specs.Prelude.{ℕ, ◌+◌, ◌==◌, List, if◌then◌else◌}
use Rattle.wire_base.specs.Numbers.{with_u16}
use Rattle.wire_base.specs.Checksums.{word_sum, checksum_for}

-- a checksum as it is written: 65,535, which counts alike in a sum, instead of 0, which means that
-- the sender made none (RFC 768)
abbrev pub written : ℕ → ℕ
written checksum = if checksum == 0 then 65535 else checksum

-- the checksum of a message, summed with 0 in the checksum field; `pseudo` is the sum of the
-- pseudo-header
abbrev pub checksum_of : (pseudo : ℕ) → List ℕ → ℕ
checksum_of pseudo message = written (checksum_for (pseudo + word_sum (with_u16 message 6 0)))

-- the message with this checksum, all other octets unchanged
abbrev pub mended : (pseudo : ℕ) → List ℕ → List ℕ
mended pseudo message = with_u16 message 6 (checksum_of pseudo message)
