-- Checksums: the ones' complement sum of 16-bit words (RFC 1071 section 1, RFC 791 section 3.1, RFC
-- 768, RFC 792, RFC 9293 section 3.1).
use Rattle.std.specs.Prelude.{ℕ, ◌+◌, ◌-◌, ◌*◌, ◌/◌, ◌%◌, ◌==◌, ◌&&◌, nat_lt, Bool, List, [], ◌∷◌, if◌then◌else◌}

-- the sum of the words of two octets each; an odd last octet is the high octet of its word
abbrev pub word_sum : List ℕ → ℕ
word_sum [] = 0
word_sum (x ∷ []) = 256 * x
word_sum (x ∷ y ∷ octets) = 256 * x + y + word_sum octets

-- the sum of words, the checksum among them, is right: a positive multiple of 65,535
abbrev pub is_right : ℕ → Bool
is_right total = nat_lt 0 total && (total % 65535 == 0)

-- the sum of `extra` and the words of the octets is right
abbrev pub sum_is_right : List ℕ → ℕ → Bool
sum_is_right octets extra = is_right (extra + word_sum octets)

-- the checksum that makes a sum right; `total` is this sum with 0 for the checksum
abbrev pub checksum_for : ℕ → ℕ
checksum_for total = if is_right total then 0 else 65535 - total % 65535

-- the sum of the pseudo-header of TCP and UDP: addresses, protocol, and the payload's length in
-- octets (RFC 768, RFC 9293 section 3.1)
abbrev pub pseudo_sum : (source destination protocol size : ℕ) → ℕ
pseudo_sum source destination protocol size =
    source / 65536 + source % 65536 + destination / 65536 + destination % 65536 + protocol + size
