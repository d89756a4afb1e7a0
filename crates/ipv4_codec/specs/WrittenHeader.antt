-- The header of a packet that is no fragment: 20 octets, no options (RFC 791 section 3.1).
use Rattle.std.specs.Prelude.{ℕ, ◌+◌, false, List, [], ◌∷◌, ◌++◌, if◌then◌else◌}
use Rattle.wire_base.specs.Numbers.{u16_octets, u32_octets}
use Rattle.wire_base.specs.Checksums.{word_sum, checksum_for}
use Rattle.ipv4_codec.specs.declared.header.Ipv4.{Ipv4}

-- version 4 and five words, type of service, total length, identification, don't fragment as the
-- only flag, offset 0, time to live, protocol, checksum, source and destination
abbrev pub octets_of : (head : Ipv4) (total sum : ℕ) → List ℕ
octets_of head total sum =
    69 ∷ head.tos ∷ u16_octets total
    ++ u16_octets head.ident ++ ((if head.df then 64 else 0) ∷ 0 ∷ [])
    ++ (head.ttl ∷ head.protocol ∷ []) ++ u16_octets sum
    ++ u32_octets head.src.0
    ++ u32_octets head.dst.0

-- the header before `payload` octets of payload, with its checksum
abbrev pub plain_header : (head : Ipv4) (payload : ℕ) → List ℕ
plain_header head payload = octets_of head (20 + payload) (checksum_for (word_sum (octets_of head (20 + payload) 0)))

-- the fields of that header: those of `head`, except both lengths, the reserved and more fragments
-- flags, the offset and the checksum
abbrev pub plain_fields : (head : Ipv4) (payload sum : ℕ) → Ipv4
plain_fields head payload sum = record head { header = 20; total = 20 + payload; reserved = false; more = false; offset = 0; sum = sum }
