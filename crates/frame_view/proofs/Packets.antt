-- Two packets that say the same in each field are the same, by the fronts of lists and the octets
-- of numbers.
use Rattle.std.proofs.Common.{◌≡◌, ℕ, zero, suc, ◌+◌, ◌*◌, ◌/◌, ◌%◌, ◌<◌, ◌≤◌, List, [], ◌∷◌, length, take, drop, refl, ap, ◌∙◌, arith, slice_index, ◌&&◌, ◌||◌, ◌==◌, ◌⊎◌, not, Bool, true, false, Option, Some, None, ◌++◌, sym, inl, inr, lit<, append_assoc}
use Rattle.std.proofs.lemmas.List.{drop_more, take-append-drop, take-take, get_or-drop, get_or-take, get_or_past, length-take}
use Rattle.std.proofs.lemmas.Bool.{true≢false, and_parts, not-true, ltb-false, cases_Bool, cases_lt}
use Rattle.wire_base.specs.Numbers.{u16_at, u32_at}
use Rattle.wire_base.specs.Ipv4 as ip
use Rattle.wire_base.specs.Tcp as tcp
use Rattle.wire_base.specs.Udp as udp
use Rattle.frame_view.specs.ReadingLaws.{AreOctets}
use Rattle.frame_view.specs.working.SegmentHeaders.{HasSegmentHeader}
use Rattle.frame_view.specs.FrameParts.{IsReadable, behind, datagram_in, has_tcp_header, is_first, message_end, message_in, segment_in}
use Rattle.frame_view.specs.Readings.{message_reading, packet_reading}
use Rattle.frame_view.specs.declared.field.Field.{Field}
use Rattle.frame_view.specs.declared.field.Field.TheVariants.{Version, HeaderLength, TypeOfService, TotalLength, Identification, ReservedBit, DontFragment, MoreFragments, FragmentOffset, Ttl, Protocol, HeaderChecksum, Source, Destination, IpOptions, SourcePort, DestinationPort, Sequence, Acknowledgment, DataOffset, Reserved, Flags, Window, Checksum, UrgentPointer, TcpOptions, UdpLength, Payload, Trailer}

-- The front of a list by its elements, and numbers by their octets.

-- this number of elements from an offset on
abbrev pub from : (at count : ℕ) → List ℕ → List ℕ
from at zero p = []
from at (suc count) p = slice_index p at ∷ from (at + 1) count p

pub from-is : (count at : ℕ) (p : List ℕ) → at + count ≤ length p → take count (drop at p) ≡ from at count p
from-is zero at p h = refl
from-is (suc count) at p h =
    ap (take (suc count)) (drop_more p at 0 (omega arith)) ∙ ap (λ t. slice_index p at ∷ t) (from-is count (at + 1) p (omega arith))

-- one number in a list
pub same_number : (m n : ℕ) → m ∷ [] ≡ n ∷ [] → m ≡ n
same_number m n e = ap (λ list. slice_index list 0) e

pub low16 : (a b c d : ℕ) → b < 256 → d < 256 → 256 * a + b ≡ 256 * c + d → b ≡ d
low16 a b c d hb hd e = omega arith

pub high16 : (a b c d : ℕ) → b < 256 → d < 256 → 256 * a + b ≡ 256 * c + d → a ≡ c
high16 a b c d hb hd e = omega arith

pub low32 : (a b c d : ℕ) → b < 65536 → d < 65536 → 65536 * a + b ≡ 65536 * c + d → b ≡ d
low32 a b c d hb hd e = omega arith

pub high32 : (a b c d : ℕ) → b < 65536 → d < 65536 → 65536 * a + b ≡ 65536 * c + d → a ≡ c
high32 a b c d hb hd e = omega arith

pub below16 : (a b : ℕ) → a < 256 → b < 256 → 256 * a + b < 65536
below16 a b ha hb = omega arith

-- two halves of an octet
pub from_halves : (x y : ℕ) → x / 16 ≡ y / 16 → x % 16 ≡ y % 16 → x ≡ y
from_halves x y high low = omega arith

pub times_four : (x y : ℕ) → 4 * x ≡ 4 * y → x ≡ y
times_four x y e = omega arith

pub times_eight : (x y : ℕ) → 8 * x ≡ 8 * y → x ≡ y
times_eight x y e = omega arith

-- the low 13 bits of a 16-bit number, as those of its octets
pub low13 : (a b : ℕ) → b < 256 → (256 * a + b) % 8192 ≡ 256 * (a % 32) + b
low13 a b hb = omega arith

-- an octet by its three high bits and the rest
pub from_bits : (x y : ℕ) → x < 256 → y < 256 → x / 128 % 2 ≡ y / 128 % 2 → x / 64 % 2 ≡ y / 64 % 2 → x / 32 % 2 ≡ y / 32 % 2 → x % 32 ≡ y % 32 → x ≡ y
from_bits x y hx hy first second third rest = omega arith

-- Two packets.

-- two octets of two lists are the same where the 16-bit number that they make is
pub second_octet : (a b : List ℕ) (at : ℕ) → AreOctets a → AreOctets b → u16_at a at ≡ u16_at b at → slice_index a (at + 1) ≡ slice_index b (at + 1)
second_octet a b at ha hb e =
    low16 (slice_index a at) (slice_index a (at + 1)) (slice_index b at) (slice_index b (at + 1)) (ha (at + 1)) (hb (at + 1)) e

pub first_octet : (a b : List ℕ) (at : ℕ) → AreOctets a → AreOctets b → u16_at a at ≡ u16_at b at → slice_index a at ≡ slice_index b at
first_octet a b at ha hb e =
    high16 (slice_index a at) (slice_index a (at + 1)) (slice_index b at) (slice_index b (at + 1)) (ha (at + 1)) (hb (at + 1)) e

small : (a : List ℕ) (at : ℕ) → AreOctets a → u16_at a at < 65536
small a at ha = below16 (slice_index a at) (slice_index a (at + 1)) (ha at) (ha (at + 1))

-- and the halves of a 32-bit number
pub second_half : (a b : List ℕ) (at : ℕ) → AreOctets a → AreOctets b → u32_at a at ≡ u32_at b at → u16_at a (at + 2) ≡ u16_at b (at + 2)
second_half a b at ha hb e =
    low32 (u16_at a at) (u16_at a (at + 2)) (u16_at b at) (u16_at b (at + 2)) (small a (at + 2) ha) (small b (at + 2) hb) e

pub first_half : (a b : List ℕ) (at : ℕ) → AreOctets a → AreOctets b → u32_at a at ≡ u32_at b at → u16_at a at ≡ u16_at b at
first_half a b at ha hb e =
    high32 (u16_at a at) (u16_at a (at + 2)) (u16_at b at) (u16_at b (at + 2)) (small a (at + 2) ha) (small b (at + 2) hb) e

-- parts of octets are octets
pub octets-drop : (n : ℕ) (p : List ℕ) → AreOctets p → AreOctets (drop n p)
octets-drop n p h at = rw (get_or-drop n p at 0) (h (n + at))

pub octets-take : (n : ℕ) (p : List ℕ) → AreOctets p → AreOctets (take n p)
octets-take n p h at = by_cases (cases_lt at n)
  where
    by_cases : ((at < n) ⊎ (n ≤ at)) → slice_index (take n p) at < 256
    by_cases (inl less) = rw (get_or-take n p at 0 less) (h at)
    by_cases (inr past) = rw (get_or_past (take n p) at 0 (let size = length-take n p in omega (arith, size))) (lit< tt)

-- a list is its first octets, those up to a second offset, and the others
header_parts : (count total : ℕ) (p : List ℕ) → count ≤ total → p ≡ take count p ++ (drop count (take total p) ++ drop total p)
header_parts count total p low =
    sym (take-append-drop total p)
    ∙ ap (λ t. t ++ drop total p) (sym (take-append-drop count (take total p)) ∙ ap (λ t. t ++ drop count (take total p)) (take-take count total p low))
    ∙ append_assoc (take count p) (drop count (take total p)) (drop total p)

-- what is said of two messages, each with its segment or datagram
pub record Alike (sa sb da db : Option (List ℕ)) (ma mb : List ℕ) : Type 0 where
  pub source_port : message_reading SourcePort sa da ≡ message_reading SourcePort sb db
  pub destination_port : message_reading DestinationPort sa da ≡ message_reading DestinationPort sb db
  pub sequence : message_reading Sequence sa da ≡ message_reading Sequence sb db
  pub acknowledgment : message_reading Acknowledgment sa da ≡ message_reading Acknowledgment sb db
  pub data_offset : message_reading DataOffset sa da ≡ message_reading DataOffset sb db
  pub reserved : message_reading Reserved sa da ≡ message_reading Reserved sb db
  pub flags : message_reading Flags sa da ≡ message_reading Flags sb db
  pub window : message_reading Window sa da ≡ message_reading Window sb db
  pub checksum : message_reading Checksum sa da ≡ message_reading Checksum sb db
  pub urgent : message_reading UrgentPointer sa da ≡ message_reading UrgentPointer sb db
  pub options : message_reading TcpOptions sa da ≡ message_reading TcpOptions sb db
  pub udp_length : message_reading UdpLength sa da ≡ message_reading UdpLength sb db
  pub payload : behind sa da ma ≡ behind sb db mb

-- the headers of two segments that say the same
same_tcp_header : (a b ma mb : List ℕ) (da db : Option (List ℕ)) → AreOctets a → AreOctets b → Alike (Some a) (Some b) da db ma mb → from 0 20 a ≡ from 0 20 b
same_tcp_header a b ma mb da db ha hb same =
    let source = same_number _ _ same.source_port in
    let destination = same_number _ _ same.destination_port in
    let sequence = same_number _ _ same.sequence in
    let acknowledgment = same_number _ _ same.acknowledgment in
    let window = same_number _ _ same.window in
    let checksum : u16_at a 16 ≡ u16_at b 16 = same_number _ _ same.checksum in
    let urgent = same_number _ _ same.urgent in
    let offset = from_halves (slice_index a 12) (slice_index b 12) (times_four _ _ (same_number _ _ same.data_offset)) (same_number _ _ same.reserved) in
    let flags : slice_index a 13 ≡ slice_index b 13 = same_number _ _ same.flags in
    λ i.
    first_octet a b 0 ha hb source i ∷ second_octet a b 0 ha hb source i
    ∷ first_octet a b 2 ha hb destination i ∷ second_octet a b 2 ha hb destination i
    ∷ first_octet a b 4 ha hb (first_half a b 4 ha hb sequence) i ∷ second_octet a b 4 ha hb (first_half a b 4 ha hb sequence) i
    ∷ first_octet a b 6 ha hb (second_half a b 4 ha hb sequence) i ∷ second_octet a b 6 ha hb (second_half a b 4 ha hb sequence) i
    ∷ first_octet a b 8 ha hb (first_half a b 8 ha hb acknowledgment) i ∷ second_octet a b 8 ha hb (first_half a b 8 ha hb acknowledgment) i
    ∷ first_octet a b 10 ha hb (second_half a b 8 ha hb acknowledgment) i ∷ second_octet a b 10 ha hb (second_half a b 8 ha hb acknowledgment) i
    ∷ offset i ∷ flags i
    ∷ first_octet a b 14 ha hb window i ∷ second_octet a b 14 ha hb window i
    ∷ first_octet a b 16 ha hb checksum i ∷ second_octet a b 16 ha hb checksum i
    ∷ first_octet a b 18 ha hb urgent i ∷ second_octet a b 18 ha hb urgent i
    ∷ []

same_udp_header : (a b ma mb : List ℕ) → AreOctets a → AreOctets b → Alike None None (Some a) (Some b) ma mb → from 0 8 a ≡ from 0 8 b
same_udp_header a b ma mb ha hb same =
    let source = same_number _ _ same.source_port in
    let destination = same_number _ _ same.destination_port in
    let size = same_number _ _ same.udp_length in
    let checksum = same_number _ _ same.checksum in
    λ i.
    first_octet a b 0 ha hb source i ∷ second_octet a b 0 ha hb source i
    ∷ first_octet a b 2 ha hb destination i ∷ second_octet a b 2 ha hb destination i
    ∷ first_octet a b 4 ha hb size i ∷ second_octet a b 4 ha hb size i
    ∷ first_octet a b 6 ha hb checksum i ∷ second_octet a b 6 ha hb checksum i
    ∷ []

-- the whole header of a segment is in it
pub record HasFront (least header : ℕ) (m : List ℕ) : Type 0 where
  pub standing : least ≤ length m
  pub low : least ≤ header

or_false : (x y : Bool) → (x || y) ≡ false → (x ≡ false) × (y ≡ false)
or_false true y e = absurd (true≢false e)
or_false false y e = (refl, e)

segment-front : (m : List ℕ) → HasSegmentHeader m → HasFront 20 (tcp.header_length m) m
segment-front m e =
    let parts = and_parts _ _ e in
    record {
      standing = ltb-false (length m) 20 (not-true _ parts.0);
      low = ltb-false (tcp.header_length m) 20 (or_false _ _ (not-true _ parts.1)).0;
    }

-- a segment is this message, and its header is in it
abbrev pub IsSegment : Option (List ℕ) → List ℕ → Type 0
IsSegment None m = Unit {0}
IsSegment (Some x) m = (x ≡ m) × HasSegmentHeader x × AreOctets x

-- a datagram is this message, and its header is in it
abbrev pub IsDatagram : Option (List ℕ) → List ℕ → Type 0
IsDatagram None m = Unit {0}
IsDatagram (Some x) m = (x ≡ m) × (8 ≤ length x) × AreOctets x

no_number : {n : ℕ} → n ∷ [] ≡ [] → ⊥
no_number {n} e = cc

segments_same : (a b ma mb : List ℕ) (da db : Option (List ℕ)) → HasSegmentHeader a → HasSegmentHeader b → AreOctets a → AreOctets b → Alike (Some a) (Some b) da db ma mb → a ≡ b
segments_same a b ma mb da db wa wb ha hb same =
    let fa = segment-front a wa in
    let fb = segment-front b wb in
    let front : take 20 a ≡ take 20 b = from-is 20 0 a fa.standing ∙ same_tcp_header a b ma mb da db ha hb same ∙ sym (from-is 20 0 b fb.standing) in
    let whole : take 20 a ++ (tcp.options a ++ tcp.payload a) ≡ take 20 b ++ (tcp.options b ++ tcp.payload b) = λ i. front i ++ (same.options i ++ same.payload i) in
    header_parts 20 (tcp.header_length a) a fa.low ∙ whole ∙ sym (header_parts 20 (tcp.header_length b) b fb.low)

datagrams_same : (a b ma mb : List ℕ) → 8 ≤ length a → 8 ≤ length b → AreOctets a → AreOctets b → Alike None None (Some a) (Some b) ma mb → a ≡ b
datagrams_same a b ma mb wa wb ha hb same =
    let front : take 8 a ≡ take 8 b = from-is 8 0 a wa ∙ same_udp_header a b ma mb ha hb same ∙ sym (from-is 8 0 b wb) in
    let whole : take 8 a ++ drop 8 a ≡ take 8 b ++ drop 8 b = λ i. front i ++ same.payload i in
    sym (take-append-drop 8 a) ∙ whole ∙ take-append-drop 8 b

-- two messages of which the same is said are the same
pub messages_same : (sa sb da db : Option (List ℕ)) (ma mb : List ℕ) → IsSegment sa ma → IsSegment sb mb → IsDatagram da ma → IsDatagram db mb → Alike sa sb da db ma mb → ma ≡ mb
messages_same (Some a) (Some b) da db ma mb pa pb qa qb same =
    sym pa.0 ∙ segments_same a b ma mb da db pa.1 pb.1 pa.2 pb.2 same ∙ pb.0
messages_same (Some a) None da None ma mb pa pb qa qb same = absurd (no_number same.data_offset)
messages_same (Some a) None da (Some d) ma mb pa pb qa qb same = absurd (no_number same.data_offset)
messages_same None (Some b) None db ma mb pa pb qa qb same = absurd (no_number (sym same.data_offset))
messages_same None (Some b) (Some d) db ma mb pa pb qa qb same = absurd (no_number (sym same.data_offset))
messages_same None None (Some a) (Some b) ma mb pa pb qa qb same = sym qa.0 ∙ datagrams_same a b ma mb qa.1 qb.1 qa.2 qb.2 same ∙ qb.0
messages_same None None (Some a) None ma mb pa pb qa qb same = absurd (no_number same.udp_length)
messages_same None None None (Some b) ma mb pa pb qa qb same = absurd (no_number (sym same.udp_length))
messages_same None None None None ma mb pa pb qa qb same = same.payload

-- the octets of a message are octets
octets-message : (p : List ℕ) → AreOctets p → AreOctets (message_in p)
octets-message p h = octets-drop (ip.header_length p) (take (message_end p) p) (octets-take (message_end p) p h)

segment-is : (p : List ℕ) → AreOctets p → IsSegment (segment_in p) (message_in p)
segment-is p h = by_cases (cases_Bool ((ip.protocol p == 6) && is_first p && has_tcp_header (message_in p)))
  where
    by_cases : ((((ip.protocol p == 6) && is_first p && has_tcp_header (message_in p)) ≡ true) ⊎ (((ip.protocol p == 6) && is_first p && has_tcp_header (message_in p)) ≡ false)) → IsSegment (segment_in p) (message_in p)
    by_cases (inl e) = rw e (refl, (and_parts _ _ e).1, octets-message p h)
    by_cases (inr e) = rw e tt

datagram-is : (p : List ℕ) → AreOctets p → IsDatagram (datagram_in p) (message_in p)
datagram-is p h = by_cases (cases_Bool ((ip.protocol p == 17) && is_first p && not (udp.is_short (message_in p))))
  where
    by_cases : ((((ip.protocol p == 17) && is_first p && not (udp.is_short (message_in p))) ≡ true) ⊎ (((ip.protocol p == 17) && is_first p && not (udp.is_short (message_in p))) ≡ false)) → IsDatagram (datagram_in p) (message_in p)
    by_cases (inl e) = rw e (refl, ltb-false _ _ (not-true _ (and_parts _ _ e).1), octets-message p h)
    by_cases (inr e) = rw e tt

-- the same is said of two packets
abbrev pub SayAlike : (a b : List ℕ) → Type 0
SayAlike a b = (field : Field) → packet_reading field a ≡ packet_reading field b

messages-alike : (a b : List ℕ) → SayAlike a b → Alike (segment_in a) (segment_in b) (datagram_in a) (datagram_in b) (message_in a) (message_in b)
messages-alike a b say =
    record {
      source_port = say SourcePort;
      destination_port = say DestinationPort;
      sequence = say Sequence;
      acknowledgment = say Acknowledgment;
      data_offset = say DataOffset;
      reserved = say Reserved;
      flags = say Flags;
      window = say Window;
      checksum = say Checksum;
      urgent = say UrgentPointer;
      options = say TcpOptions;
      udp_length = say UdpLength;
      payload = say Payload;
    }

packet-front : (p : List ℕ) → IsReadable p → HasFront 20 (ip.header_length p) p
packet-front p e =
    let outer = and_parts _ _ e in
    let inner = and_parts _ _ outer.0 in
    record {
      standing = ltb-false (length p) 20 (not-true _ inner.0);
      low = ltb-false (ip.header_length p) 20 (or_false _ _ (not-true _ outer.1)).0;
    }

-- the sixth and seventh octet: three flags and the fragment offset
record SameFlags (a b : List ℕ) : Type 0 where
  sixth : slice_index a 6 ≡ slice_index b 6
  seventh : slice_index a 7 ≡ slice_index b 7

same_flags : (a b : List ℕ) → AreOctets a → AreOctets b → SayAlike a b → SameFlags a b
same_flags a b ha hb say =
    let offset = times_eight _ _ (same_number _ _ (say FragmentOffset)) in
    let low = sym (low13 (slice_index a 6) (slice_index a 7) (ha 7)) ∙ offset ∙ low13 (slice_index b 6) (slice_index b 7) (hb 7) in
    let rest = high16 (slice_index a 6 % 32) (slice_index a 7) (slice_index b 6 % 32) (slice_index b 7) (ha 7) (hb 7) low in
    record {
      sixth = from_bits (slice_index a 6) (slice_index b 6) (ha 6) (hb 6) (same_number _ _ (say ReservedBit)) (same_number _ _ (say DontFragment)) (same_number _ _ (say MoreFragments)) rest;
      seventh = low16 (slice_index a 6 % 32) (slice_index a 7) (slice_index b 6 % 32) (slice_index b 7) (ha 7) (hb 7) low;
    }

same_ip_header : (a b : List ℕ) → AreOctets a → AreOctets b → SayAlike a b → from 0 20 a ≡ from 0 20 b
same_ip_header a b ha hb say =
    let first = from_halves (slice_index a 0) (slice_index b 0) (same_number _ _ (say Version)) (times_four _ _ (same_number _ _ (say HeaderLength))) in
    let service : slice_index a 1 ≡ slice_index b 1 = same_number _ _ (say TypeOfService) in
    let total = same_number _ _ (say TotalLength) in
    let ident = same_number _ _ (say Identification) in
    let both = same_flags a b ha hb say in
    let ttl : slice_index a 8 ≡ slice_index b 8 = same_number _ _ (say Ttl) in
    let protocol : slice_index a 9 ≡ slice_index b 9 = same_number _ _ (say Protocol) in
    let sum = same_number _ _ (say HeaderChecksum) in
    let source = same_number _ _ (say Source) in
    let destination = same_number _ _ (say Destination) in
    λ i.
    first i ∷ service i
    ∷ first_octet a b 2 ha hb total i ∷ second_octet a b 2 ha hb total i
    ∷ first_octet a b 4 ha hb ident i ∷ second_octet a b 4 ha hb ident i
    ∷ both.sixth i ∷ both.seventh i ∷ ttl i ∷ protocol i
    ∷ first_octet a b 10 ha hb sum i ∷ second_octet a b 10 ha hb sum i
    ∷ first_octet a b 12 ha hb (first_half a b 12 ha hb source) i ∷ second_octet a b 12 ha hb (first_half a b 12 ha hb source) i
    ∷ first_octet a b 14 ha hb (second_half a b 12 ha hb source) i ∷ second_octet a b 14 ha hb (second_half a b 12 ha hb source) i
    ∷ first_octet a b 16 ha hb (first_half a b 16 ha hb destination) i ∷ second_octet a b 16 ha hb (first_half a b 16 ha hb destination) i
    ∷ first_octet a b 18 ha hb (second_half a b 16 ha hb destination) i ∷ second_octet a b 18 ha hb (second_half a b 16 ha hb destination) i
    ∷ []

-- the header of a packet is its first 20 octets and its options
whole-header : (p : List ℕ) → 20 ≤ ip.header_length p → take (ip.header_length p) p ≡ take 20 p ++ ip.options p
whole-header p low =
    sym (take-append-drop 20 (take (ip.header_length p) p)) ∙ ap (λ t. t ++ ip.options p) (take-take 20 (ip.header_length p) p low)

-- the message of a packet ends after its header
end-behind : (p : List ℕ) → IsReadable p → ip.header_length p ≤ message_end p
end-behind p e = by_cases (cases_Bool (ip.has_bad_total_length p))
  where
    by_cases : ((ip.has_bad_total_length p ≡ true) ⊎ (ip.has_bad_total_length p ≡ false)) → ip.header_length p ≤ message_end p
    by_cases (inl bad) = rw bad (ltb-false (length p) (ip.header_length p) (or_false _ _ (not-true _ (and_parts _ _ e).1)).1)
    by_cases (inr good) = rw good (ltb-false (ip.total_length p) (ip.header_length p) (or_false _ _ good).0)

pub packets_same : (a b : List ℕ) → AreOctets a → AreOctets b → IsReadable a → IsReadable b → SayAlike a b → a ≡ b
packets_same a b ha hb ra rb say =
    let fa = packet-front a ra in
    let fb = packet-front b rb in
    let front : take 20 a ≡ take 20 b = from-is 20 0 a fa.standing ∙ same_ip_header a b ha hb say ∙ sym (from-is 20 0 b fb.standing) in
    let header : take (ip.header_length a) a ≡ take (ip.header_length b) b = whole-header a fa.low ∙ (λ i. front i ++ say IpOptions i) ∙ sym (whole-header b fb.low) in
    let message = messages_same (segment_in a) (segment_in b) (datagram_in a) (datagram_in b) (message_in a) (message_in b) (segment-is a ha) (segment-is b hb) (datagram-is a ha) (datagram-is b hb) (messages-alike a b say) in
    header_parts (ip.header_length a) (message_end a) a (end-behind a ra)
    ∙ (λ i. header i ++ (message i ++ say Trailer i))
    ∙ sym (header_parts (ip.header_length b) (message_end b) b (end-behind b rb))
