-- The sum of a message with its checksum rewritten.
use Rattle.std.proofs.Common.{◌≡◌, ℕ, ◌+◌, ◌≤◌, ◌<◌, true, List, length, arith}
use Rattle.std.proofs.lemmas.Bool.Decides.{nat_tests}
use Rattle.wire_base.specs.Numbers.{with_u16}
use Rattle.wire_base.specs.Checksums.{word_sum, is_right, checksum_for, sum_is_right}
use Rattle.wire_base.proofs.Octets.{word_sum-with_u16}
use Rattle.udp_codec.specs.WrittenChecksum.{written, mended}

-- a written checksum has 16 bits
pub written-below : (total : ℕ) → written (checksum_for total) < 65536
written-below total = grind (arith, nat_tests)

-- a total with the checksum that is written for it is right
pub is_right-written : (total : ℕ) → is_right (total + written (checksum_for total)) ≡ true
is_right-written total = grind (arith, nat_tests)

-- a message with its checksum rewritten has a right checksum
pub sum_is_right-mended : (pseudo : ℕ) (message : List ℕ) → 8 ≤ length message → sum_is_right (mended pseudo message) pseudo ≡ true
sum_is_right-mended pseudo message whole =
    let rest = pseudo + word_sum (with_u16 message 6 0) in
    let sum : word_sum (mended pseudo message) ≡ word_sum (with_u16 message 6 0) + written (checksum_for rest) = word_sum-with_u16 3 message (written (checksum_for rest)) whole (written-below rest) in
    let total : pseudo + word_sum (mended pseudo message) ≡ rest + written (checksum_for rest) = omega (arith, sum) in
    rw total (is_right-written rest)
