-- The fragments of one datagram, and the datagram that they make (RFC 791 sections 2.3 and 3.2).
-- Lists of fragments have the newest at the head.
use Rattle.std.specs.Prelude.{◌≡◌, ℕ, ◌+◌, ◌*◌, ◌/◌, ◌==◌, ◌<◌, ◌≤◌, ◌&&◌, nat_le, nat_lt, max, Bool, true, false, not, List, [], ◌∷◌, length, map, take, drop, Option, Some, None, is_none, is_some, if◌then◌else◌}
use Rattle.std.specs.List.{AllByRecursion, list_any, count_by, range_with_len}
use Rattle.std.specs.Option.{option_or, unwrap_or}
use Rattle.retain_store.specs.Maps.{octet_in, touched}
use Rattle.reassembly.specs.declared.id.DatagramId.{DatagramId}
use Rattle.reassembly.specs.declared.piece.Piece.{Piece}
use Rattle.reassembly.specs.declared.piece.Front.{Front}
use Rattle.reassembly.specs.declared.piece.Whole.{Whole}
use Rattle.wire_base.specs.declared.limits.TheConstants.{MAX_PAYLOAD}

-- a fragment: its identification, the offset of its octets, whether further ones follow, the fields
-- that a complete datagram may take from it, and its octets
pub record Fragment : Type 0 where
  pub id : DatagramId
  pub offset : ℕ
  pub more : Bool
  pub df : Bool
  pub tos : ℕ
  pub ttl : ℕ
  pub octets : List ℕ

abbrev pub fragment_of : Piece → Fragment
fragment_of p =
    record {
      id = record { src = p.src; dst = p.dst; protocol = p.protocol; ident = p.ident };
      offset = p.offset;
      more = p.more;
      df = p.df;
      tos = p.tos;
      ttl = p.ttl;
      octets = p.bytes.now;
    }

-- it is a fragment (further ones follow, or it is not the first), and its offset and length are
-- possible in a packet
pub record IsPiece (p : Fragment) : Type 0 where
  pub part : p.more ≡ false → 0 < p.offset
  pub offset : p.offset ≤ 65528
  pub short : length p.octets ≤ MAX_PAYLOAD

-- the offset after the last octet of a fragment
abbrev pub end_of : Fragment → ℕ
end_of p = p.offset + length p.octets

-- the octet at an offset of the datagram: that of the first fragment with an octet there
abbrev pub octet_of : List Fragment → (offset : ℕ) → Option ℕ
octet_of [] offset = None
octet_of (p ∷ ps) offset = option_or (octet_of ps offset) (octet_in p.offset p.octets offset)

-- the number of octets of the datagram, once its last fragment is held, the one without MF
abbrev pub total_of : List Fragment → Option ℕ
total_of [] = None
total_of (p ∷ ps) = option_or (total_of ps) (if p.more then None else Some (end_of p))

-- the offset after the last octet of all
abbrev pub reach : List Fragment → ℕ
reach [] = 0
reach (p ∷ ps) = max (reach ps) (end_of p)

-- the fields of the first fragment that arrived with offset 0
abbrev pub front_of : List Fragment → Option Front
front_of [] = None
front_of (p ∷ ps) = option_or (front_of ps) (if p.offset == 0 then Some (record { tos = p.tos; ttl = p.ttl; df = p.df }) else None)

-- the total is known, and each offset below it has an octet
abbrev pub is_filled : List Fragment → Option ℕ → Bool
is_filled ps None = false
is_filled ps (Some total) = not (list_any (λ offset. is_none (octet_of ps offset)) (range_with_len 0 total))

-- Complete: the last fragment is held, and so is every octet from 0 to its end
abbrev pub is_whole : List Fragment → Bool
is_whole ps = is_filled ps (total_of ps)

-- the octets of the datagram
abbrev pub datagram_octets : List Fragment → List ℕ
datagram_octets ps = map (λ offset. unwrap_or (octet_of ps offset) 0) (range_with_len 0 (unwrap_or (total_of ps) 0))

-- the octets of this fragment are in the list from its offset on
abbrev pub StandsIn : List ℕ → Fragment → Type 0
StandsIn octets p = take (length p.octets) (drop p.offset octets) ≡ p.octets

-- the fragment has an octet at this offset
abbrev pub reaches : (offset : ℕ) → Fragment → Bool
reaches offset p = nat_le p.offset offset && nat_lt offset (end_of p)

-- each fragment is at its offset in these octets, and each octet is of a fragment
pub record IsMadeOf (octets : List ℕ) (ps : List Fragment) : Type 0 where
  pub each : AllByRecursion (StandsIn octets) ps
  pub every : (offset : ℕ) → offset < length octets → list_any (reaches offset) ps ≡ true

-- the datagram with this number of octets and these fields
abbrev pub whole_with : Option ℕ → Option Front → Whole
whole_with total None = record { len = unwrap_or total 0; tos = 0; ttl = 0; df = false }
whole_with total (Some front) = record { len = unwrap_or total 0; tos = front.tos; ttl = front.ttl; df = front.df }

abbrev pub whole_of : List Fragment → Whole
whole_of ps = whole_with (total_of ps) (front_of ps)

-- the block of 256 offsets with this number has an octet
abbrev pub has_block : List Fragment → (number : ℕ) → Bool
has_block ps number = list_any (λ offset. is_some (octet_of ps offset)) (range_with_len (256 * number) 256)

-- the number of cells that the fragments take: one for each block with an octet
abbrev pub cells_of : List Fragment → ℕ
cells_of ps = count_by (has_block ps) (range_with_len 0 (reach ps / 256 + 1))

-- the number of blocks touched by these offsets that have no octet
abbrev pub missing_of : List Fragment → (from len : ℕ) → ℕ
missing_of ps from len = count_by (λ number. not (has_block ps number)) (touched from len)

-- the number of offsets with an octet
abbrev pub filled_in : List Fragment → ℕ
filled_in ps = count_by (λ offset. is_some (octet_of ps offset)) (range_with_len 0 (reach ps))
