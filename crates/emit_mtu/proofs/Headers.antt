-- The headers of a segment: their lengths, their fields, and the packet that they are of.
use Rattle.std.proofs.Common.{◌≡◌, ℕ, ◌≤◌, List, [], ◌∷◌, length, arith, ◌+◌, ◌*◌, ◌%◌, ◌^◌, ◌<◌, true, ◌++◌, take, drop, refl, sym, ap, ◌∙◌, length-drop, ◌-◌, min}
use Rattle.std.proofs.Math.Seq.{take-length}
use Rattle.std.proofs.lemmas.List.{drop-take, drop-drop, take_at, drop_at, length-append, length-take, take-append-drop, length-take-le}
use Rattle.wire_base.specs.Ipv4 as ip
use Rattle.wire_base.specs.Tcp as tcp
use Rattle.wire_base.specs.Checksums.{word_sum, checksum_for, is_right, sum_is_right}
use Rattle.wire_base.proofs.Octets.{word_sum-with_u16, checksum_for-below, is_right-checked, two-octets, four-octets}
use Rattle.wire_base.specs.declared.address.Link.{Link}
use Rattle.wire_base.specs.Frames.{link_octets, packet_in}
use Rattle.wire_base.specs.Segments.{fields_of}
use Rattle.emit_mtu.specs.FrameParts.{Parts, AreOctets, IsWhole, link_size, parts_of}
use Rattle.emit_mtu.specs.working.PartSizes.{AreSized}
use Rattle.emit_mtu.specs.Segments as spec
use Rattle.emit_mtu.specs.CutLaws.{piece_of, room_for}
use Rattle.emit_mtu.proofs.Frames.{packet_behind, link_behind, are_sized, is_faultless, payload_is}

-- Lists that begin with twenty numbers, as the headers of IPv4 and TCP do.

-- a property of all such lists written out holds for each such list
pub by_twenty :
    (P : List ℕ → Type 0) →
    ((a0 a1 a2 a3 a4 a5 a6 a7 a8 a9 a10 a11 a12 a13 a14 a15 a16 a17 a18 a19 : ℕ) (rest : List ℕ) → P (a0 ∷ a1 ∷ a2 ∷ a3 ∷ a4 ∷ a5 ∷ a6 ∷ a7 ∷ a8 ∷ a9 ∷ a10 ∷ a11 ∷ a12 ∷ a13 ∷ a14 ∷ a15 ∷ a16 ∷ a17 ∷ a18 ∷ a19 ∷ rest)) →
    (xs : List ℕ) → 20 ≤ length xs → P xs
by_twenty P f [] long = absurd (omega arith)
by_twenty P f (a0 ∷ []) long = absurd (omega arith)
by_twenty P f (a0 ∷ a1 ∷ []) long = absurd (omega arith)
by_twenty P f (a0 ∷ a1 ∷ a2 ∷ []) long = absurd (omega arith)
by_twenty P f (a0 ∷ a1 ∷ a2 ∷ a3 ∷ []) long = absurd (omega arith)
by_twenty P f (a0 ∷ a1 ∷ a2 ∷ a3 ∷ a4 ∷ []) long = absurd (omega arith)
by_twenty P f (a0 ∷ a1 ∷ a2 ∷ a3 ∷ a4 ∷ a5 ∷ []) long = absurd (omega arith)
by_twenty P f (a0 ∷ a1 ∷ a2 ∷ a3 ∷ a4 ∷ a5 ∷ a6 ∷ []) long = absurd (omega arith)
by_twenty P f (a0 ∷ a1 ∷ a2 ∷ a3 ∷ a4 ∷ a5 ∷ a6 ∷ a7 ∷ []) long = absurd (omega arith)
by_twenty P f (a0 ∷ a1 ∷ a2 ∷ a3 ∷ a4 ∷ a5 ∷ a6 ∷ a7 ∷ a8 ∷ []) long = absurd (omega arith)
by_twenty P f (a0 ∷ a1 ∷ a2 ∷ a3 ∷ a4 ∷ a5 ∷ a6 ∷ a7 ∷ a8 ∷ a9 ∷ []) long = absurd (omega arith)
by_twenty P f (a0 ∷ a1 ∷ a2 ∷ a3 ∷ a4 ∷ a5 ∷ a6 ∷ a7 ∷ a8 ∷ a9 ∷ a10 ∷ []) long = absurd (omega arith)
by_twenty P f (a0 ∷ a1 ∷ a2 ∷ a3 ∷ a4 ∷ a5 ∷ a6 ∷ a7 ∷ a8 ∷ a9 ∷ a10 ∷ a11 ∷ []) long = absurd (omega arith)
by_twenty P f (a0 ∷ a1 ∷ a2 ∷ a3 ∷ a4 ∷ a5 ∷ a6 ∷ a7 ∷ a8 ∷ a9 ∷ a10 ∷ a11 ∷ a12 ∷ []) long = absurd (omega arith)
by_twenty P f (a0 ∷ a1 ∷ a2 ∷ a3 ∷ a4 ∷ a5 ∷ a6 ∷ a7 ∷ a8 ∷ a9 ∷ a10 ∷ a11 ∷ a12 ∷ a13 ∷ []) long = absurd (omega arith)
by_twenty P f (a0 ∷ a1 ∷ a2 ∷ a3 ∷ a4 ∷ a5 ∷ a6 ∷ a7 ∷ a8 ∷ a9 ∷ a10 ∷ a11 ∷ a12 ∷ a13 ∷ a14 ∷ []) long = absurd (omega arith)
by_twenty P f (a0 ∷ a1 ∷ a2 ∷ a3 ∷ a4 ∷ a5 ∷ a6 ∷ a7 ∷ a8 ∷ a9 ∷ a10 ∷ a11 ∷ a12 ∷ a13 ∷ a14 ∷ a15 ∷ []) long = absurd (omega arith)
by_twenty P f (a0 ∷ a1 ∷ a2 ∷ a3 ∷ a4 ∷ a5 ∷ a6 ∷ a7 ∷ a8 ∷ a9 ∷ a10 ∷ a11 ∷ a12 ∷ a13 ∷ a14 ∷ a15 ∷ a16 ∷ []) long = absurd (omega arith)
by_twenty P f (a0 ∷ a1 ∷ a2 ∷ a3 ∷ a4 ∷ a5 ∷ a6 ∷ a7 ∷ a8 ∷ a9 ∷ a10 ∷ a11 ∷ a12 ∷ a13 ∷ a14 ∷ a15 ∷ a16 ∷ a17 ∷ []) long = absurd (omega arith)
by_twenty P f (a0 ∷ a1 ∷ a2 ∷ a3 ∷ a4 ∷ a5 ∷ a6 ∷ a7 ∷ a8 ∷ a9 ∷ a10 ∷ a11 ∷ a12 ∷ a13 ∷ a14 ∷ a15 ∷ a16 ∷ a17 ∷ a18 ∷ []) long = absurd (omega arith)
by_twenty P f (a0 ∷ a1 ∷ a2 ∷ a3 ∷ a4 ∷ a5 ∷ a6 ∷ a7 ∷ a8 ∷ a9 ∷ a10 ∷ a11 ∷ a12 ∷ a13 ∷ a14 ∷ a15 ∷ a16 ∷ a17 ∷ a18 ∷ a19 ∷ rest) long = f a0 a1 a2 a3 a4 a5 a6 a7 a8 a9 a10 a11 a12 a13 a14 a15 a16 a17 a18 a19 rest

-- the same for lists of exactly twenty numbers
pub by_exactly_twenty :
    (P : List ℕ → Type 0) →
    ((a0 a1 a2 a3 a4 a5 a6 a7 a8 a9 a10 a11 a12 a13 a14 a15 a16 a17 a18 a19 : ℕ) → P (a0 ∷ a1 ∷ a2 ∷ a3 ∷ a4 ∷ a5 ∷ a6 ∷ a7 ∷ a8 ∷ a9 ∷ a10 ∷ a11 ∷ a12 ∷ a13 ∷ a14 ∷ a15 ∷ a16 ∷ a17 ∷ a18 ∷ a19 ∷ [])) →
    (xs : List ℕ) → length xs ≡ 20 → P xs
by_exactly_twenty P f xs e =
    by_twenty (λ ys. length ys ≡ 20 → P ys) (λ a0 a1 a2 a3 a4 a5 a6 a7 a8 a9 a10 a11 a12 a13 a14 a15 a16 a17 a18 a19 rest. alone rest a0 a1 a2 a3 a4 a5 a6 a7 a8 a9 a10 a11 a12 a13 a14 a15 a16 a17 a18 a19) xs (omega arith) e
  where
    alone : (rest : List ℕ) (a0 a1 a2 a3 a4 a5 a6 a7 a8 a9 a10 a11 a12 a13 a14 a15 a16 a17 a18 a19 : ℕ) → length (a0 ∷ a1 ∷ a2 ∷ a3 ∷ a4 ∷ a5 ∷ a6 ∷ a7 ∷ a8 ∷ a9 ∷ a10 ∷ a11 ∷ a12 ∷ a13 ∷ a14 ∷ a15 ∷ a16 ∷ a17 ∷ a18 ∷ a19 ∷ rest) ≡ 20 → P (a0 ∷ a1 ∷ a2 ∷ a3 ∷ a4 ∷ a5 ∷ a6 ∷ a7 ∷ a8 ∷ a9 ∷ a10 ∷ a11 ∷ a12 ∷ a13 ∷ a14 ∷ a15 ∷ a16 ∷ a17 ∷ a18 ∷ a19 ∷ rest)
    alone [] a0 a1 a2 a3 a4 a5 a6 a7 a8 a9 a10 a11 a12 a13 a14 a15 a16 a17 a18 a19 h = f a0 a1 a2 a3 a4 a5 a6 a7 a8 a9 a10 a11 a12 a13 a14 a15 a16 a17 a18 a19
    alone (x ∷ rest) a0 a1 a2 a3 a4 a5 a6 a7 a8 a9 a10 a11 a12 a13 a14 a15 a16 a17 a18 a19 h = absurd (omega arith)

-- The fields of the headers of a segment.

-- a packet has the fields of this IPv4 header, except its total length, its identification and its
-- checksum
pub record SameHeader (p header : List ℕ) : Type 0 where
  pub version : ip.version p ≡ ip.version header
  pub header_length : ip.header_length p ≡ ip.header_length header
  pub reserved : ip.has_reserved p ≡ ip.has_reserved header
  pub more : ip.has_more_fragments p ≡ ip.has_more_fragments header
  pub offset : ip.fragment_offset p ≡ ip.fragment_offset header
  pub time_to_live : ip.time_to_live p ≡ ip.time_to_live header
  pub protocol : ip.protocol p ≡ ip.protocol header
  pub source : ip.source p ≡ ip.source header
  pub destination : ip.destination p ≡ ip.destination header

pub header-front : (header rest : List ℕ) → length header ≡ 20 → SameHeader (header ++ rest) header
header-front header rest twenty =
    by_exactly_twenty (λ xs. SameHeader (xs ++ rest) xs)
    (λ a0 a1 a2 a3 a4 a5 a6 a7 a8 a9 a10 a11 a12 a13 a14 a15 a16 a17 a18 a19. record { version = refl; header_length = refl; reserved = refl; more = refl; offset = refl; time_to_live = refl; protocol = refl; source = refl; destination = refl }) header twenty

pub header-own : (size index : ℕ) (parts : Parts) (rest : List ℕ) → length parts.ip ≡ 20 → SameHeader (spec.ip_header size index parts ++ rest) parts.ip
header-own size index parts rest twenty =
    by_exactly_twenty (λ xs. SameHeader (spec.ip_header size index (record parts { ip = xs }) ++ rest) xs)
    (λ a0 a1 a2 a3 a4 a5 a6 a7 a8 a9 a10 a11 a12 a13 a14 a15 a16 a17 a18 a19. record { version = refl; header_length = refl; reserved = refl; more = refl; offset = refl; time_to_live = refl; protocol = refl; source = refl; destination = refl }) parts.ip twenty

-- the total length is its own
pub total-own : (size index : ℕ) (parts : Parts) (rest : List ℕ) → length parts.ip ≡ 20 → 20 + size < 65536 → ip.total_length (spec.ip_header size index parts ++ rest) ≡ 20 + size
total-own size index parts rest twenty small =
    by_exactly_twenty (λ xs. ip.total_length (spec.ip_header size index (record parts { ip = xs }) ++ rest) ≡ 20 + size)
    (λ a0 a1 a2 a3 a4 a5 a6 a7 a8 a9 a10 a11 a12 a13 a14 a15 a16 a17 a18 a19. two-octets (20 + size) small) parts.ip twenty

-- the identification is its own
pub identification-own : (size index : ℕ) (parts : Parts) (rest : List ℕ) → length parts.ip ≡ 20 → ip.identification (spec.ip_header size index parts ++ rest) ≡ (ip.identification parts.ip + index) % 2 ^ 16
identification-own size index parts rest twenty =
    by_exactly_twenty (λ xs. ip.identification (spec.ip_header size index (record parts { ip = xs }) ++ rest) ≡ (ip.identification xs + index) % 2 ^ 16)
    (λ a0 a1 a2 a3 a4 a5 a6 a7 a8 a9 a10 a11 a12 a13 a14 a15 a16 a17 a18 a19. two-octets _ (let n = ip.identification (a0 ∷ a1 ∷ a2 ∷ a3 ∷ a4 ∷ a5 ∷ a6 ∷ a7 ∷ a8 ∷ a9 ∷ a10 ∷ a11 ∷ a12 ∷ a13 ∷ a14 ∷ a15 ∷ a16 ∷ a17 ∷ a18 ∷ a19 ∷ []) + index in omega arith)) parts.ip twenty

pub identification-front : (header rest : List ℕ) → length header ≡ 20 → ip.identification (header ++ rest) ≡ ip.identification header
identification-front header rest twenty = by_exactly_twenty (λ xs. ip.identification (xs ++ rest) ≡ ip.identification xs) (λ a0 a1 a2 a3 a4 a5 a6 a7 a8 a9 a10 a11 a12 a13 a14 a15 a16 a17 a18 a19. refl) header twenty

-- the header's checksum is right
pub sum-own : (size index : ℕ) (parts : Parts) → length parts.ip ≡ 20 → sum_is_right (spec.ip_header size index parts) 0 ≡ true
sum-own size index parts twenty =
    by_exactly_twenty (λ xs. sum_is_right (spec.ip_header size index (record parts { ip = xs })) 0 ≡ true)
    (λ a0 a1 a2 a3 a4 a5 a6 a7 a8 a9 a10 a11 a12 a13 a14 a15 a16 a17 a18 a19.
    let own : Parts = record parts { ip = a0 ∷ a1 ∷ a2 ∷ a3 ∷ a4 ∷ a5 ∷ a6 ∷ a7 ∷ a8 ∷ a9 ∷ a10 ∷ a11 ∷ a12 ∷ a13 ∷ a14 ∷ a15 ∷ a16 ∷ a17 ∷ a18 ∷ a19 ∷ [] } in
    let bare = spec.ip_fields size index own in
    let sum : word_sum (spec.ip_header size index own) ≡ word_sum bare + checksum_for (word_sum bare) = word_sum-with_u16 5 bare (checksum_for (word_sum bare)) (omega arith) (checksum_for-below (word_sum bare)) in
    let total : 0 + word_sum (spec.ip_header size index own) ≡ word_sum bare + checksum_for (word_sum bare) = omega (arith, sum) in
    ap is_right total ∙ is_right-checked (word_sum bare)) parts.ip twenty

-- the header and the payload of the packet of a segment
pub record Carried (p front m : List ℕ) : Type 0 where
  pub size : length p ≡ 20 + length m
  pub header : ip.header p ≡ front
  pub payload : ip.payload p ≡ m

pub carried : (header m : List ℕ) → length header ≡ 20 → ip.header_length (header ++ m) ≡ 20 → ip.total_length (header ++ m) ≡ 20 + length m → Carried (header ++ m) header m
carried header m twenty words total =
    let size : length (header ++ m) ≡ 20 + length m = omega (arith, length-append header m) in
    record {
      size = size;
      header = ap (λ n. take n (header ++ m)) words ∙ take_at header m 20 twenty;
      payload = (λ i. drop (words i) (take ((total ∙ sym size) i) (header ++ m))) ∙ ap (drop 20) (take-length (header ++ m)) ∙ drop_at header m 20 twenty;
    }

-- a segment has the fields of this TCP header, except its sequence number, its flags and its
-- checksum
pub record SameSegment (m header : List ℕ) : Type 0 where
  pub source_port : tcp.source_port m ≡ tcp.source_port header
  pub destination_port : tcp.destination_port m ≡ tcp.destination_port header
  pub acknowledgment : tcp.acknowledgment m ≡ tcp.acknowledgment header
  pub header_length : tcp.header_length m ≡ tcp.header_length header
  pub reserved : tcp.reserved m ≡ tcp.reserved header
  pub window : tcp.window m ≡ tcp.window header
  pub urgent_pointer : tcp.urgent_pointer m ≡ tcp.urgent_pointer header

pub segment-front : (header octets : List ℕ) → 20 ≤ length header → SameSegment (header ++ octets) header
segment-front header octets long =
    by_twenty (λ xs. SameSegment (xs ++ octets) xs)
    (λ a0 a1 a2 a3 a4 a5 a6 a7 a8 a9 a10 a11 a12 a13 a14 a15 a16 a17 a18 a19 rest. record { source_port = refl; destination_port = refl; acknowledgment = refl; header_length = refl; reserved = refl; window = refl; urgent_pointer = refl }) header long

pub segment-own : (room index : ℕ) (parts : Parts) → 20 ≤ length parts.tcp → SameSegment (spec.message_of room index parts) parts.tcp
segment-own room index parts long =
    by_twenty (λ xs. SameSegment (spec.message_of room index (record parts { tcp = xs })) xs)
    (λ a0 a1 a2 a3 a4 a5 a6 a7 a8 a9 a10 a11 a12 a13 a14 a15 a16 a17 a18 a19 rest. record { source_port = refl; destination_port = refl; acknowledgment = refl; header_length = refl; reserved = refl; window = refl; urgent_pointer = refl }) parts.tcp long

-- the two fields of the frame's own segment
pub record Numbered (m header : List ℕ) : Type 0 where
  pub sequence : tcp.sequence m ≡ tcp.sequence header
  pub flags : tcp.flags m ≡ tcp.flags header

pub numbers-front : (header octets : List ℕ) → 20 ≤ length header → Numbered (header ++ octets) header
numbers-front header octets long = by_twenty (λ xs. Numbered (xs ++ octets) xs) (λ a0 a1 a2 a3 a4 a5 a6 a7 a8 a9 a10 a11 a12 a13 a14 a15 a16 a17 a18 a19 rest. record { sequence = refl; flags = refl }) header long

-- those of a part are its own
pub sequence-own : (room index : ℕ) (parts : Parts) → 20 ≤ length parts.tcp → tcp.sequence (spec.message_of room index parts) ≡ (tcp.sequence parts.tcp + room * index) % 2 ^ 32
sequence-own room index parts long =
    by_twenty (λ xs. tcp.sequence (spec.message_of room index (record parts { tcp = xs })) ≡ (tcp.sequence xs + room * index) % 2 ^ 32)
    (λ a0 a1 a2 a3 a4 a5 a6 a7 a8 a9 a10 a11 a12 a13 a14 a15 a16 a17 a18 a19 rest. four-octets _ (let n = tcp.sequence (a0 ∷ a1 ∷ a2 ∷ a3 ∷ a4 ∷ a5 ∷ a6 ∷ a7 ∷ a8 ∷ a9 ∷ a10 ∷ a11 ∷ a12 ∷ a13 ∷ a14 ∷ a15 ∷ a16 ∷ a17 ∷ a18 ∷ a19 ∷ rest) + room * index in omega arith)) parts.tcp long

pub flags-own : (room index : ℕ) (parts : Parts) → 20 ≤ length parts.tcp → tcp.flags (spec.message_of room index parts) ≡ spec.flags_of (spec.is_first index) (spec.is_last room index parts) (tcp.flags parts.tcp)
flags-own room index parts long =
    by_twenty (λ xs. tcp.flags (spec.message_of room index (record parts { tcp = xs })) ≡ spec.flags_of (spec.is_first index) (spec.is_last room index parts) (tcp.flags xs))
    (λ a0 a1 a2 a3 a4 a5 a6 a7 a8 a9 a10 a11 a12 a13 a14 a15 a16 a17 a18 a19 rest. refl) parts.tcp long

-- the octets after the fields
pub record Behind (m header octets : List ℕ) : Type 0 where
  pub options : tcp.options m ≡ drop 20 header
  pub payload : tcp.payload m ≡ octets

behind : (m header octets : List ℕ) → tcp.header_length m ≡ length header → 20 ≤ length header → drop 20 m ≡ drop 20 header ++ octets → Behind m header octets
behind m header octets words long e =
    let rest = length-drop 20 header in
    let sum : tcp.header_length m ≡ 20 + length (drop 20 header) = omega (arith, words, rest) in
    record {
      options = ap (λ n. drop 20 (take n m)) sum ∙ drop-take 20 (length (drop 20 header)) m ∙ ap (take (length (drop 20 header))) e ∙ take_at (drop 20 header) octets _ refl;
      payload = ap (λ n. drop n m) sum ∙ sym (drop-drop (length (drop 20 header)) 20 m) ∙ ap (drop (length (drop 20 header))) e ∙ drop_at (drop 20 header) octets _ refl;
    }

pub behind-front : (header octets : List ℕ) → 20 ≤ length header → tcp.header_length header ≡ length header → Behind (header ++ octets) header octets
behind-front header octets long words =
    behind (header ++ octets) header octets ((segment-front header octets long).header_length ∙ words) long
    (by_twenty (λ xs. drop 20 (xs ++ octets) ≡ drop 20 xs ++ octets) (λ a0 a1 a2 a3 a4 a5 a6 a7 a8 a9 a10 a11 a12 a13 a14 a15 a16 a17 a18 a19 rest. refl) header long)

pub behind-own : (room index : ℕ) (parts : Parts) → 20 ≤ length parts.tcp → tcp.header_length parts.tcp ≡ length parts.tcp → Behind (spec.message_of room index parts) parts.tcp (spec.piece_of room index parts)
behind-own room index parts long words =
    behind (spec.message_of room index parts) parts.tcp (spec.piece_of room index parts) ((segment-own room index parts long).header_length ∙ words) long
    (by_twenty (λ xs. drop 20 (spec.message_of room index (record parts { tcp = xs })) ≡ drop 20 xs ++ spec.piece_of room index parts) (λ a0 a1 a2 a3 a4 a5 a6 a7 a8 a9 a10 a11 a12 a13 a14 a15 a16 a17 a18 a19 rest. refl) parts.tcp long)

-- The lengths of the parts of a segment.

-- a part has at most the octets that are left
pub length-piece_of : (room index : ℕ) (parts : Parts) → length (spec.piece_of room index parts) ≡ min room (length parts.payload - room * index)
length-piece_of room index parts =
    let a = length-take room (drop (room * index) parts.payload) in
    let b = length-drop (room * index) parts.payload in
    omega (arith, a, b)

pub length-ip_header : (size index : ℕ) (parts : Parts) → length parts.ip ≡ 20 → length (spec.ip_header size index parts) ≡ 20
length-ip_header size index parts twenty =
    by_twenty (λ xs. length xs ≡ 20 → length (spec.ip_header size index (record parts { ip = xs })) ≡ 20)
    (λ a0 a1 a2 a3 a4 a5 a6 a7 a8 a9 a10 a11 a12 a13 a14 a15 a16 a17 a18 a19 rest e. e) parts.ip (omega arith) twenty

pub length-tcp_header : (room index : ℕ) (parts : Parts) → 20 ≤ length parts.tcp → length (spec.tcp_header room index parts) ≡ length parts.tcp
length-tcp_header room index parts long =
    by_twenty (λ xs. length (spec.tcp_header room index (record parts { tcp = xs })) ≡ length xs)
    (λ a0 a1 a2 a3 a4 a5 a6 a7 a8 a9 a10 a11 a12 a13 a14 a15 a16 a17 a18 a19 rest. refl) parts.tcp long

pub length-message_of : (room index : ℕ) (parts : Parts) → 20 ≤ length parts.tcp → length (spec.message_of room index parts) ≡ length parts.tcp + length (spec.piece_of room index parts)
length-message_of room index parts long =
    by_twenty (λ xs. length (spec.message_of room index (record parts { tcp = xs })) ≡ length xs + length (spec.piece_of room index parts))
    (λ a0 a1 a2 a3 a4 a5 a6 a7 a8 a9 a10 a11 a12 a13 a14 a15 a16 a17 a18 a19 rest. let both = length-append rest (spec.piece_of room index parts) in omega arith) parts.tcp long

pub length-segment_of : (room index : ℕ) (parts : Parts) → AreSized parts → length (spec.segment_of room parts index) ≡ length parts.link + 20 + length parts.tcp + length (spec.piece_of room index parts)
length-segment_of room index parts sized =
    let message = length-message_of room index parts sized.tcp in
    let header = length-ip_header (length (spec.message_of room index parts)) index parts sized.ip in
    let packet = length-append (spec.ip_header (length (spec.message_of room index parts)) index parts) (spec.message_of room index parts) in
    let frame = length-append parts.link (spec.ip_header (length (spec.message_of room index parts)) index parts ++ spec.message_of room index parts) in
    omega (arith, message, header, packet, frame)

-- The packet of a segment.

-- the parts of a packet: their sizes, and that together they are the packet
pub record AreJoined (p : List ℕ) (parts : Parts) : Type 0 where
  pub sized : AreSized parts
  pub words : ip.header_length parts.ip ≡ 20
  pub data_offset : tcp.header_length parts.tcp ≡ length parts.tcp
  pub joined : p ≡ parts.ip ++ (parts.tcp ++ parts.payload)
  pub message : ip.payload p ≡ parts.tcp ++ parts.payload

pub are_joined : (link : Link) (frame : List ℕ) → IsWhole (packet_in link frame) → ip.protocol (packet_in link frame) ≡ 6 → AreOctets frame → AreJoined (packet_in link frame) (parts_of link frame)
are_joined link frame whole protocol octets =
    let p = packet_in link frame in
    let m = ip.payload p in
    let parts = parts_of link frame in
    let sized = are_sized link frame whole protocol octets in
    let inside = is_faultless p whole protocol in
    let message : m ≡ parts.tcp ++ parts.payload = sym (take-append-drop (tcp.header_length m) m) in
    let front : parts.ip ≡ take 20 p = ap (λ n. take n p) whole.header in
    let joined : p ≡ parts.ip ++ (parts.tcp ++ parts.payload) = sym (take-append-drop 20 p) ∙ (λ i. sym front i ++ (sym (payload_is p whole.header whole.ends) ∙ message) i) in
    let header : tcp.header_length m ≡ tcp.header_length parts.tcp = ap tcp.header_length message ∙ (segment-front parts.tcp parts.payload sized.tcp).header_length in
    record {
      sized = sized;
      words = sym (header-front parts.ip (parts.tcp ++ parts.payload) sized.ip).header_length ∙ ap ip.header_length (sym joined) ∙ whole.header;
      data_offset = sym header ∙ sym (length-take-le _ m inside.inside);
      joined = joined;
      message = message;
    }

-- the packet of a part
abbrev pub packet_of : (room : ℕ) → Parts → (index : ℕ) → List ℕ
packet_of room parts index = let message = spec.message_of room index parts in spec.ip_header (length message) index parts ++ message

-- the packet follows after the link octets
pub packet_in-segment_of : (link : Link) (frame : List ℕ) (room index : ℕ) → link_size link ≤ length frame → packet_in link (spec.segment_of room (parts_of link frame) index) ≡ packet_of room (parts_of link frame) index
packet_in-segment_of link frame room index long = packet_behind link frame (packet_of room (parts_of link frame) index) long

pub link_octets-segment_of : (link : Link) (frame : List ℕ) (room index : ℕ) → link_size link ≤ length frame → link_octets link (spec.segment_of room (parts_of link frame) index) ≡ link_octets link frame
link_octets-segment_of link frame room index long = link_behind link frame (packet_of room (parts_of link frame) index) long

-- the fields of the packet
pub record IsOwn (room : ℕ) (parts : Parts) (index : ℕ) : Type 0 where
  pub header : SameHeader (packet_of room parts index) parts.ip
  pub total : ip.total_length (packet_of room parts index) ≡ length (packet_of room parts index)
  pub size : length (packet_of room parts index) ≡ 20 + (length parts.tcp + length (spec.piece_of room index parts))
  pub carried : Carried (packet_of room parts index) (spec.ip_header (length (spec.message_of room index parts)) index parts) (spec.message_of room index parts)

pub is_own : (room index : ℕ) (parts : Parts) → AreSized parts → ip.header_length parts.ip ≡ 20 → IsOwn room parts index
is_own room index parts sized words =
    let message = spec.message_of room index parts in
    let count = length-message_of room index parts sized.tcp in
    let piece = length-piece_of room index parts in
    let few : 20 + length message < 65536 = omega (arith, count, piece, sized.ip, sized.packet) in
    let header = header-own (length message) index parts message sized.ip in
    let total = total-own (length message) index parts message sized.ip few in
    let whole = carried (spec.ip_header (length message) index parts) message (length-ip_header (length message) index parts sized.ip) (header.header_length ∙ words) total in
    record {
      header = header;
      total = total ∙ sym whole.size;
      size = whole.size ∙ ap (λ n. 20 + n) count;
      carried = whole;
    }

-- The fields of a segment of a frame.

pub fields_of-packet_of : (p : List ℕ) (room index : ℕ) (parts : Parts) → AreJoined p parts → parts.payload ≡ tcp.payload (ip.payload p) → fields_of (packet_of room parts index) ≡ piece_of room index (fields_of p)
fields_of-packet_of p room index parts joined payload =
    let own = is_own room index parts joined.sized joined.words in
    let whole = header-front parts.ip (parts.tcp ++ parts.payload) joined.sized.ip in
    let mine = segment-own room index parts joined.sized.tcp in
    let its = segment-front parts.tcp parts.payload joined.sized.tcp in
    let numbers = numbers-front parts.tcp parts.payload joined.sized.tcp in
    let here = own.carried.payload in
    let there = sym joined.message in
    let sequence : tcp.sequence parts.tcp ≡ tcp.sequence (ip.payload p) = sym numbers.sequence ∙ ap tcp.sequence there in
    let flags : tcp.flags parts.tcp ≡ tcp.flags (ip.payload p) = sym numbers.flags ∙ ap tcp.flags there in
    let behind = behind-own room index parts joined.sized.tcp joined.data_offset in
    let area = behind-front parts.tcp parts.payload joined.sized.tcp joined.data_offset in
    λ i.
    record {
      source = (own.header.source ∙ sym whole.source ∙ ap ip.source (sym joined.joined)) i;
      destination = (own.header.destination ∙ sym whole.destination ∙ ap ip.destination (sym joined.joined)) i;
      source_port = (ap tcp.source_port here ∙ mine.source_port ∙ sym its.source_port ∙ ap tcp.source_port there) i;
      destination_port = (ap tcp.destination_port here ∙ mine.destination_port ∙ sym its.destination_port ∙ ap tcp.destination_port there) i;
      sequence = (ap tcp.sequence here ∙ sequence-own room index parts joined.sized.tcp ∙ ap (λ n. (n + room * index) % 2 ^ 32) sequence) i;
      acknowledgment = (ap tcp.acknowledgment here ∙ mine.acknowledgment ∙ sym its.acknowledgment ∙ ap tcp.acknowledgment there) i;
      flags = (ap tcp.flags here ∙ flags-own room index parts joined.sized.tcp ∙ (λ j. spec.flags_of (spec.is_first index) (spec.is_last room index (record parts { payload = payload j })) (flags j))) i;
      window = (ap tcp.window here ∙ mine.window ∙ sym its.window ∙ ap tcp.window there) i;
      options = (ap tcp.options here ∙ behind.options ∙ sym area.options ∙ ap tcp.options there) i;
      octets = (ap tcp.payload here ∙ behind.payload ∙ (λ j. take room (drop (room * index) (payload j)))) i;
    }

-- the number of octets that the headers leave, by the options
pub room_is : (p : List ℕ) (mtu : ℕ) (parts : Parts) → AreJoined p parts → spec.room_of mtu parts ≡ room_for mtu (fields_of p)
room_is p mtu parts joined =
    let area = behind-front parts.tcp parts.payload joined.sized.tcp joined.data_offset in
    let options : length (tcp.options (ip.payload p)) ≡ length (drop 20 parts.tcp) = ap length (ap tcp.options joined.message ∙ area.options) in
    let count = length-drop 20 parts.tcp in
    let headers : length parts.ip + length parts.tcp ≡ 20 + (20 + length (tcp.options (ip.payload p))) = omega (arith, options, count, joined.sized.ip, joined.sized.tcp) in
    ap (λ n. mtu - n) headers
