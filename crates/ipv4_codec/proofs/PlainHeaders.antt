-- A header without options and its checksum.
use Rattle.std.proofs.Common.{◌≡◌, zero-add, ℕ, ◌+◌, ◌*◌, ◌/◌, ◌%◌, ◌≤◌, ◌==◌, Bool, true, false, List, ◌++◌, length, if◌then◌else◌, refl, ap, ◌∙◌, arith}
use Rattle.wire_base.specs.Ipv4 as ip
use Rattle.wire_base.specs.Numbers.{with_u16}
use Rattle.wire_base.specs.Plain.{IsPlainHeader}
use Rattle.wire_base.specs.Checksums.{word_sum, checksum_for, is_right, sum_is_right}
use Rattle.wire_base.proofs.Octets.{word_sum-with_u16, checksum_for-below, is_right-checked, two-octets}
use Rattle.ipv4_codec.specs.declared.header.Ipv4.{Ipv4}
use Rattle.ipv4_codec.specs.HeaderFields.{fields_of}
use Rattle.ipv4_codec.specs.WrittenHeader.{octets_of, plain_fields, plain_header}

-- the octets with their checksum written into its field are the header
pub with_u16-octets_of : (head : Ipv4) (payload sum : ℕ) (bare header : List ℕ) → bare ≡ octets_of head (20 + payload) 0 → sum ≡ checksum_for (0 + word_sum bare) → header ≡ with_u16 bare 10 sum → header ≡ plain_header head payload
with_u16-octets_of head payload sum bare header e f g =
    let value : sum ≡ checksum_for (word_sum (octets_of head (20 + payload) 0)) = f ∙ ap checksum_for (zero-add (word_sum bare) ∙ ap word_sum e) in
    g ∙ ap (λ octets. with_u16 octets 10 sum) e ∙ ap (octets_of head (20 + payload)) value

-- the checksum changes no other field
pub fields_of-checksum : (head : Ipv4) (payload sum : ℕ) (rest : List ℕ) → fields_of (octets_of head (20 + payload) 0) ≡ plain_fields head payload 0 → fields_of (octets_of head (20 + payload) sum ++ rest) ≡ plain_fields head payload (ip.header_checksum (octets_of head (20 + payload) sum ++ rest))
fields_of-checksum head payload sum rest e = ap (λ (fields : Ipv4). record fields { sum = ip.header_checksum (octets_of head (20 + payload) sum ++ rest) }) e

-- the header's checksum is right
pub header-sum : (head : Ipv4) (size : ℕ) → sum_is_right (plain_header head size) 0 ≡ true
header-sum head size =
    let bare = octets_of head (20 + size) 0 in
    let sum : word_sum (plain_header head size) ≡ word_sum bare + checksum_for (word_sum bare) = word_sum-with_u16 5 bare (checksum_for (word_sum bare)) (omega arith) (checksum_for-below (word_sum bare)) in
    let total : 0 + word_sum (plain_header head size) ≡ word_sum bare + checksum_for (word_sum bare) = omega (arith, sum) in
    ap is_right total ∙ is_right-checked (word_sum bare)

-- the octet of the flags has neither the reserved flag nor more fragments, and its part of the
-- offset is 0
no-reserved : (df : Bool) → (((if df then 64 else 0) / 128 % 2) == 1) ≡ false
no-reserved true = refl
no-reserved false = refl

no-more : (df : Bool) → (((if df then 64 else 0) / 32 % 2) == 1) ≡ false
no-more true = refl
no-more false = refl

no-offset : (df : Bool) → 8 * ((256 * (if df then 64 else 0) + 0) % 8192) ≡ 0
no-offset true = refl
no-offset false = refl

-- the header before the payload of a packet that is no fragment
pub header-plain : (head : Ipv4) (m : List ℕ) → length m ≤ 65515 → IsPlainHeader (plain_header head (length m) ++ m)
header-plain head m small = record {
  whole_header = omega arith;
  version = refl;
  header_length = refl;
  total_length = two-octets (20 + length m) (omega arith) ∙ omega arith;
  reserved = no-reserved head.df;
  more_fragments = no-more head.df;
  fragment_offset = no-offset head.df;
  sum = header-sum head (length m);
}
