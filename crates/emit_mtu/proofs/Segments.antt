-- The segments of a frame: their number, their lengths, and that each may be written.
use Rattle.std.proofs.Common.{◌≡◌, ℕ, ◌+◌, ◌-◌, ◌*◌, ◌%◌, ◌^◌, ◌<◌, ◌≤◌, zero, suc, false, List, [], ◌++◌, length, map, drop, All, Some, refl, sym, ap, subst, ◌∙◌, arith, length-drop, ⊎_elim, ◌∷◌, inr, ◌&&◌, not, nat_lt, Bool, true, None, if◌then◌else◌, slice_get}
use Rattle.std.specs.List.{flat_map, range_with_len}
use Rattle.std.proofs.Math.Nat.{mul-le-mul_left}
use Rattle.std.proofs.lemmas.Bool.{cases_lt, and_right, le-ltb, ltb-false, or_parts}
use Rattle.std.proofs.lemmas.Grind.{div_ceil_times}
use Rattle.std.proofs.lemmas.List.{drop-drop, drop-map, drop_all, take-append-drop}
use Rattle.std.proofs.lemmas.List.FromFn.{get_or-map-range_with_len, length-map-range_with_len}
use Rattle.std.proofs.lemmas.Option.{get_or_from_slice_get, slice_get_within}
use Rattle.std.proofs.lemmas.List.Elements.{All-nil, All-cons}
use Rattle.wire_base.specs.declared.address.Link.{Link}
use Rattle.wire_base.specs.Frames.{kind_of, link_octets, packet_in}
use Rattle.wire_base.specs.Ipv4 as ip
use Rattle.wire_base.specs.Tcp as tcp
use Rattle.wire_base.specs.Checksums.{sum_is_right}
use Rattle.wire_base.specs.Plain.{Plain, pseudo_of}
use Rattle.wire_base.specs.Segments.{fields_of}
use Rattle.wire_base.specs.declared.frame.FrameKind.TheVariants.{Ip}
use Rattle.wire_base.specs.declared.limits.TheConstants.{MAX_PACKET}
use Rattle.wire_base.specs.Options.{are_well_formed}
use Rattle.tcp_codec.specs.declared.header.SumRule.TheVariants.{Skip}
use Rattle.tcp_codec.specs.HeaderFields.{fault_of}
use Rattle.tcp_codec.proofs.Segments.{fault_of-options}
use Rattle.emit_mtu.specs.FrameParts.{Parts, link_size, parts_of, IsSent, IsWhole}
use Rattle.emit_mtu.specs.LongFrames.{is_ip, is_long, is_marked, long_kind, may_be_cut}
use Rattle.emit_mtu.specs.Segments.{count_of, piece_of, room_of, segment_of, segments, segments_from}
use Rattle.emit_mtu.specs.CutLaws.{AreFew, ArePlain, AreReadAsPieces, CarryThePayload, IsToBeCut, NoneIsLong, payload_in, AreSent}
use Rattle.emit_mtu.specs.CutLaws as laws
use Rattle.emit_mtu.specs.declared.long.LongKind.{LongKind}
use Rattle.emit_mtu.specs.declared.long.LongKind.TheVariants.{Fits, Cut, Drop}
use Rattle.emit_mtu.specs.Segments as spec
use Rattle.emit_mtu.specs.CutStreams.{NothingLongGoesOut, frames_of}
use Rattle.emit_mtu.proofs.Frames.{kind_behind, packet_size, IsCut, carried, is_cut, is_faultless, payload_is, version_is}
use Rattle.emit_mtu.proofs.Headers.{fields_of-packet_of, room_is, behind-own, header-front, identification-front, identification-own, length-piece_of, AreJoined, are_joined, is_own, link_octets-segment_of, packet_in-segment_of, packet_of, behind-front, flags-own, numbers-front, segment-own, length-message_of}
use Rattle.emit_mtu.proofs.PlainPackets.{header_sum, plain_packet, segment_sum, whole_by, is_unmarked, legal_pieces}

-- The facts of each segment of a frame.

-- a frame that is cut, with its parts, and the octets of a segment
pub record Cutting (link : Link) (mtu : ℕ) (frame : List ℕ) : Type 0 where
  pub joined : AreJoined (packet_in link frame) (parts_of link frame)
  pub cut : IsCut mtu (packet_in link frame)
  pub long : link_size link ≤ length frame
  pub room : 20 + length (parts_of link frame).tcp + room_of mtu (parts_of link frame) ≡ mtu
  pub some : 0 < room_of mtu (parts_of link frame)

long_enough : (link : Link) (frame : List ℕ) → 20 ≤ length (ip.payload (packet_in link frame)) → ip.payload (packet_in link frame) ≡ drop 20 (packet_in link frame) → link_size link ≤ length frame
long_enough link frame long e =
    let a = ap length e in
    let b = length-drop 20 (packet_in link frame) in
    let c = packet_size link frame in
    omega arith

pub cutting : (link : Link) (mtu : ℕ) (frame : List ℕ) → IsToBeCut link mtu frame → Cutting link mtu frame
cutting link mtu frame h =
    let p = packet_in link frame in
    let cut = is_cut link mtu frame h.cut in
    let whole = (carried link mtu frame h.sent h.cut).1 in
    let joined = are_joined link frame whole cut.protocol h.octets in
    let inside = is_faultless p whole cut.protocol in
    record {
      joined = joined;
      cut = cut;
      long = long_enough link frame inside.whole (payload_is p whole.header whole.ends);
      room = omega (arith, joined.sized.ip, joined.sized.options, h.least);
      some = omega (arith, joined.sized.ip, joined.sized.options, h.least);
    }

-- a property of the frame of each part is one of all segments
pub all_segments : (P : List ℕ → Type 0) (room : ℕ) (parts : Parts) → ((index : ℕ) → P (segment_of room parts index)) → All P (segments_from 0 room parts)
all_segments P room parts each k d inside =
    let count : k < count_of room parts - 0 = omega (arith, length-map-range_with_len (segment_of room parts) 0 (count_of room parts - 0)) in
    subst P (sym (get_or-map-range_with_len (segment_of room parts) 0 (count_of room parts - 0) k k d count (omega arith))) (each k)

-- each segment is that of its part
pub segment_at : (room : ℕ) (parts : Parts) (index : ℕ) (segment : List ℕ) → slice_get (segments_from 0 room parts) index ≡ Some segment → segment ≡ segment_of room parts index
segment_at room parts index segment stands =
    let inside = slice_get_within (segments_from 0 room parts) index segment stands in
    let count : index < count_of room parts - 0 = omega (arith, inside, length-map-range_with_len (segment_of room parts) 0 (count_of room parts - 0)) in
    sym (get_or_from_slice_get (segments_from 0 room parts) index segment [] stands)
    ∙ get_or-map-range_with_len (segment_of room parts) 0 (count_of room parts - 0) index index [] count (omega arith)

-- the packet of a segment has at most `mtu` octets, and its total length is their number
pub small : (link : Link) (mtu : ℕ) (frame : List ℕ) → Cutting link mtu frame → (index : ℕ) → let p = packet_in link (segment_of (room_of mtu (parts_of link frame)) (parts_of link frame) index) in (length p ≤ mtu) × (ip.total_length p ≡ length p)
small link mtu frame c index =
    let parts = parts_of link frame in
    let room = room_of mtu parts in
    let own = is_own room index parts c.joined.sized c.joined.words in
    let e = packet_in-segment_of link frame room index c.long in
    let size = ap length e in
    (omega (arith, size, own.size, length-piece_of room index parts, c.room), ap ip.total_length e ∙ own.total ∙ ap length (sym e))

pub none_is_long : NoneIsLong
none_is_long link mtu frame h =
    let c = cutting link mtu frame h in
    all_segments (λ segment. length (packet_in link segment) ≤ mtu) (room_of mtu (parts_of link frame)) (parts_of link frame) (λ index. (small link mtu frame c index).0)

-- so no segment is long
pub none_too_long : (link : Link) (mtu : ℕ) (frame : List ℕ) → IsToBeCut link mtu frame → All (λ segment. is_long link mtu segment ≡ false) (segments link mtu frame)
none_too_long link mtu frame h =
    let parts = parts_of link frame in
    let c = cutting link mtu frame h in
    let room = room_of mtu parts in
    all_segments (λ segment. is_long link mtu segment ≡ false) room parts (λ index.
    let fits = small link mtu frame c index in
    let few : ip.total_length (packet_in link (segment_of room parts index)) ≤ mtu = omega (arith, fits.0, fits.1) in
    and_right (is_ip (kind_of link (segment_of room parts index))) _ (le-ltb mtu _ few))

pub are_few : AreFew
are_few link mtu frame h =
    let parts = parts_of link frame in
    let c = cutting link mtu frame h in
    let room = room_of mtu parts in
    let n = count_of room parts in
    let count = length-map-range_with_len (segment_of room parts) 0 (n - 0) in
    let bound = (div_ceil_times (length parts.payload) room c.some).1 in
    ⊎_elim (λ many. let more : room * 133 ≤ room * n = mul-le-mul_left room many in absurd (few (length parts.payload) (length parts.tcp) room mtu n bound more c.room h.least c.joined.sized.options (omega (arith, c.joined.sized.packet, c.joined.sized.ip))))
    (λ less. omega (arith, count, less)) (cases_lt 132 n)
  where
    few : (size tcp room mtu n : ℕ) → n * room < size + room → room * 133 ≤ room * n → 20 + tcp + room ≡ mtu → 576 ≤ mtu → tcp ≤ 60 → 20 + tcp + size ≤ 65535 → ⊥
    few size tcp room mtu n a b c d e f = omega arith

-- the payload of a segment is its part
payload_is_piece : (link : Link) (mtu : ℕ) (frame : List ℕ) → Cutting link mtu frame → (index : ℕ) → payload_in link (segment_of (room_of mtu (parts_of link frame)) (parts_of link frame) index) ≡ piece_of (room_of mtu (parts_of link frame)) index (parts_of link frame)
payload_is_piece link mtu frame c index =
    let parts = parts_of link frame in
    let room = room_of mtu parts in
    let own = is_own room index parts c.joined.sized c.joined.words in
    ap (λ p. tcp.payload (ip.payload p)) (packet_in-segment_of link frame room index c.long)
    ∙ ap tcp.payload own.carried.payload
    ∙ (behind-own room index parts c.joined.sized.tcp c.joined.data_offset).payload

-- the parts one after another, from one on to the end
pieces : (link : Link) (room : ℕ) (parts : Parts) (n first : ℕ) → ((index : ℕ) → payload_in link (segment_of room parts index) ≡ piece_of room index parts) → length parts.payload ≤ room * (first + n) → flat_map (payload_in link) (map (segment_of room parts) (range_with_len first n)) ≡ drop (room * first) parts.payload
pieces link room parts zero first each ended =
    sym (drop_all (room * first) parts.payload (let e : first + 0 ≡ first = omega arith in subst (λ n. length parts.payload ≤ room * n) e ended))
pieces link room parts (suc n) first each ended =
    let e : first + suc n ≡ first + 1 + n = omega arith in
    let rest = pieces link room parts n (first + 1) each (subst (λ n. length parts.payload ≤ room * n) e ended) in
    let next : room * (first + 1) ≡ room * first + room = omega arith in
    let behind : drop (room * (first + 1)) parts.payload ≡ drop room (drop (room * first) parts.payload) = ap (λ n. drop n parts.payload) next ∙ sym (drop-drop room (room * first) parts.payload) in
    (λ i. each first i ++ (rest ∙ behind) i) ∙ take-append-drop room (drop (room * first) parts.payload)

pub carry_the_payload : CarryThePayload
carry_the_payload link mtu frame h =
    let parts = parts_of link frame in
    let c = cutting link mtu frame h in
    let room = room_of mtu parts in
    let n = count_of room parts in
    let all = (div_ceil_times (length parts.payload) room c.some).0 in
    pieces link room parts (n - 0) 0 (payload_is_piece link mtu frame c) (reaches (length parts.payload) room n all)
    ∙ ap (λ n. drop n parts.payload) (nothing room)
  where
    reaches : (size room n : ℕ) → size ≤ n * room → size ≤ room * (0 + (n - 0))
    reaches size room n h = let e : 0 + (n - 0) ≡ n = omega arith in rw e (omega arith)

    nothing : (room : ℕ) → room * 0 ≡ 0
    nothing room = omega arith

pub are_plain : ArePlain
are_plain link mtu frame hops h plain =
    let parts = parts_of link frame in
    let c = cutting link mtu frame h in
    let room = room_of mtu parts in
    all_segments (λ segment. Plain hops (packet_in link segment)) room parts (λ index. subst (Plain hops) (sym (packet_in-segment_of link frame room index c.long)) (plain_packet hops (packet_in link frame) room index parts c.joined c.cut.protocol c.cut.unmarked plain))

pub are_read_as_pieces : AreReadAsPieces
are_read_as_pieces link mtu frame index segment h stands =
    let p = packet_in link frame in
    let parts = parts_of link frame in
    let c = cutting link mtu frame h in
    let room = room_of mtu parts in
    let e : segment ≡ segment_of room parts index = segment_at room parts index segment stands in
    let own = is_own room index parts c.joined.sized c.joined.words in
    let packet : packet_in link segment ≡ packet_of room parts index = ap (packet_in link) e ∙ packet_in-segment_of link frame room index c.long in
    let whole = header-front parts.ip (parts.tcp ++ parts.payload) c.joined.sized.ip in
    let identification : ip.identification parts.ip ≡ ip.identification p = sym (identification-front parts.ip (parts.tcp ++ parts.payload) c.joined.sized.ip) ∙ ap ip.identification (sym c.joined.joined) in
    let six : ip.protocol (packet_of room parts index) ≡ 6 = own.header.protocol ∙ sym whole.protocol ∙ ap ip.protocol (sym c.joined.joined) ∙ c.cut.protocol in
    record {
      link_octets = ap (link_octets link) e ∙ link_octets-segment_of link frame room index c.long;
      identification = ap ip.identification packet ∙ identification-own _ index parts _ c.joined.sized.ip ∙ ap (λ n. (n + index) % 2 ^ 16) identification;
      protocol = ap ip.protocol packet ∙ six;
      total_length = ap ip.total_length packet ∙ own.total ∙ ap length (sym packet);
      header_sum = ap (λ q. sum_is_right (ip.header q) 0) packet ∙ header_sum room index parts c.joined.sized c.joined.words;
      sum = ap (λ q. sum_is_right (ip.payload q) (pseudo_of q)) packet ∙ segment_sum room index parts c.joined.sized c.joined.words six;
      fields = ap fields_of packet ∙ fields_of-packet_of p room index parts c.joined refl ∙ ap (λ r. laws.piece_of r index (fields_of p)) (room_is p mtu parts c.joined);
    }

-- The number of parts.

below : (size room index n : ℕ) → size ≤ n * room → room * index < size → index < n
below size room index n bound begins =
    ⊎_elim (λ lt. lt) (λ ge. let more : room * n ≤ room * index = mul-le-mul_left room ge in absurd (omega arith)) (cases_lt index n)

above : (size room index n : ℕ) → n * room < size + room → size ≤ room * index → n ≤ index
above size room index n bound ended =
    ⊎_elim (λ lt. let more : room * (index + 1) ≤ room * n = mul-le-mul_left room (omega arith) in absurd (omega arith)) (λ ge. ge) (cases_lt index n)

-- a part that begins inside the payload is counted
pub within : (room index : ℕ) (parts : Parts) → 0 < room → room * index < length parts.payload → index < count_of room parts
within room index parts some begins = below (length parts.payload) room index (count_of room parts) (div_ceil_times (length parts.payload) room some).0 begins

-- a part that would begin at the payload's end or after it is not
pub past : (room index : ℕ) (parts : Parts) → 0 < room → length parts.payload ≤ room * index → count_of room parts ≤ index
past room index parts some ended = above (length parts.payload) room index (count_of room parts) (div_ceil_times (length parts.payload) room some).1 ended

-- in this case no segment is left
pub none-left : (room index : ℕ) (parts : Parts) → 0 < room → length parts.payload ≤ room * index → segments_from index room parts ≡ []
none-left room index parts some ended =
    let bound = past room index parts some ended in
    let none : count_of room parts - index ≡ 0 = omega arith in
    ap (λ n. map (segment_of room parts) (range_with_len index n)) none

-- otherwise the segment of the part is the next one
pub next-left : (room index : ℕ) (parts : Parts) → 0 < room → room * index < length parts.payload → segments_from index room parts ≡ segment_of room parts index ∷ segments_from (index + 1) room parts
next-left room index parts some begins =
    let bound = within room index parts some begins in
    let more : count_of room parts - index ≡ suc (count_of room parts - (index + 1)) = omega arith in
    ap (λ n. map (segment_of room parts) (range_with_len index n)) more

-- the segments that are left, and those left after some of them

-- there are as many as parts from this one on
pub count-left : (room index : ℕ) (parts : Parts) → length (segments_from index room parts) ≡ count_of room parts - index
count-left room index parts = length-map-range_with_len (segment_of room parts) index (count_of room parts - index)

-- the number of a part fits 16 bits
pub few_parts : (room : ℕ) (parts : Parts) → 0 < room → length parts.payload ≤ MAX_PACKET → count_of room parts ≤ MAX_PACKET
few_parts room parts some short =
    ⊎_elim (λ many. absurd (above_all (length parts.payload) room (count_of room parts) some (div_ceil_times (length parts.payload) room some).1 many)) (λ few. omega (arith, few, short)) (cases_lt (length parts.payload) (count_of room parts))
  where
    above_all : (size room n : ℕ) → 0 < room → n * room < size + room → size < n → ⊥
    above_all size zero n some bound many = absurd (omega (arith, some))
    above_all size (suc room) zero some bound many = absurd (omega (arith, many))
    above_all size (suc room) (suc n) some bound many = grind arith

drop-range : (k a n : ℕ) → drop k (range_with_len a n) ≡ range_with_len (a + k) (n - k)
drop-range zero a n = grind arith
drop-range (suc k) a zero = let none : zero - suc k ≡ 0 = omega arith in ap (range_with_len (a + suc k)) (sym none)
drop-range (suc k) a (suc n) =
    let from : a + 1 + k ≡ a + suc k = omega arith in
    let rest : n - k ≡ suc n - suc k = omega arith in
    drop-range k (a + 1) n ∙ ap (λ first. range_with_len first (n - k)) from ∙ ap (range_with_len (a + suc k)) rest

pub skip-left : (room index count : ℕ) (parts : Parts) → drop count (segments_from index room parts) ≡ segments_from (index + count) room parts
skip-left room index count parts =
    let rest : count_of room parts - index - count ≡ count_of room parts - (index + count) = omega arith in
    drop-map (segment_of room parts) count (range_with_len index (count_of room parts - index))
    ∙ ap (map (segment_of room parts)) (drop-range count index (count_of room parts - index) ∙ ap (range_with_len (index + count)) rest)

-- The frames that are written instead of a frame are not long, and segments are frames that may be
-- written.

-- a frame that fits is not long
fits : (long may : Bool) → (if long && may then Cut else if long && not may then Drop else Fits) ≡ Fits → long ≡ false
fits true true e = cc
fits true false e = cc
fits false may e = refl

out : (kind : LongKind) (link : Link) (mtu : ℕ) (frame : List ℕ) → long_kind link mtu frame ≡ kind → (kind ≡ Cut → All (λ o. is_long link mtu o ≡ false) (frames_of Cut link mtu frame)) → All (λ o. is_long link mtu o ≡ false) (frames_of kind link mtu frame)
out Fits link mtu frame e cut = All-cons (λ o. is_long link mtu o ≡ false) frame [] (fits (is_long link mtu frame) (may_be_cut (packet_in link frame)) e) (All-nil (λ o. is_long link mtu o ≡ false))
out Drop link mtu frame e cut = All-nil (λ o. is_long link mtu o ≡ false)
out Cut link mtu frame e cut = cut refl

pub nothing_long_goes_out : NothingLongGoesOut
nothing_long_goes_out link mtu frame sent octets least most =
    out (long_kind link mtu frame) link mtu frame refl (λ cut. none_too_long link mtu frame (record { sent = sent; octets = octets; cut = cut; least = least; most = most }))

-- a segment carries IPv4 too
kind-segment_of : (link : Link) (frame : List ℕ) (room index : ℕ) → kind_of link frame ≡ Ip (link_size link) → kind_of link (segment_of room (parts_of link frame) index) ≡ Ip (link_size link)
kind-segment_of link frame room index kind = kind_behind link frame (packet_of room (parts_of link frame) index) kind

-- the packet of a segment is whole
not_below : (n : ℕ) → nat_lt 0 n ≡ false → n ≡ 0
not_below n e = let h = ltb-false 0 n e in omega arith

whole_packet : (p : List ℕ) (room index : ℕ) (parts : Parts) → AreJoined p parts → IsWhole p → ip.protocol p ≡ 6 → is_marked (tcp.flags (ip.payload p)) ≡ false → IsWhole (packet_of room parts index)
whole_packet p room index parts joined whole six unmarked =
    let own = is_own room index parts joined.sized joined.words in
    let its = header-front parts.ip (parts.tcp ++ parts.payload) joined.sized.ip in
    let e = sym joined.joined in
    let piece = or_parts _ _ whole.whole in
    let m = spec.message_of room index parts in
    let faultless = is_faultless p whole six in
    let count = length-message_of room index parts joined.sized.tcp in
    let words : tcp.header_length m ≡ length parts.tcp = (segment-own room index parts joined.sized.tcp).header_length ∙ joined.data_offset in
    let flags : tcp.flags m ≡ spec.flags_of (spec.is_first index) (spec.is_last room index parts) (tcp.flags (ip.payload p)) = flags-own room index parts joined.sized.tcp ∙ ap (spec.flags_of (spec.is_first index) (spec.is_last room index parts)) (sym (numbers-front parts.tcp parts.payload joined.sized.tcp).flags ∙ ap tcp.flags (sym joined.message)) in
    let options : tcp.options m ≡ tcp.options (ip.payload p) = (behind-own room index parts joined.sized.tcp joined.data_offset).options ∙ sym (behind-front parts.tcp parts.payload joined.sized.tcp joined.data_offset).options ∙ ap tcp.options (sym joined.message) in
    let legal = ap tcp.are_legal flags ∙ legal_pieces (spec.is_first index) (spec.is_last room index parts) (tcp.flags (ip.payload p)) (is_unmarked _ unmarked) faultless.legal in
    let none : fault_of Skip 0 m ≡ None = fault_of-options Skip 0 m true (omega (arith, count, joined.sized.tcp)) (omega (arith, words, joined.sized.tcp)) (omega (arith, words, count)) refl legal (ap are_well_formed options ∙ faultless.formed) in
    whole_by (packet_of room parts index)
    (omega (arith, own.size))
    (own.header.version ∙ sym its.version ∙ ap ip.version e ∙ version_is p whole)
    (own.header.header_length ∙ joined.words)
    (own.header.more ∙ sym its.more ∙ ap ip.has_more_fragments e ∙ piece.0)
    (own.header.offset ∙ sym its.offset ∙ ap ip.fragment_offset e ∙ not_below _ piece.1)
    own.total
    (header_sum room index parts joined.sized joined.words)
    (λ _. ap (fault_of Skip 0) own.carried.payload ∙ none)

-- each segment of a frame that is cut may be written
pub are_sent : AreSent
are_sent link mtu frame h =
    let p = packet_in link frame in
    let parts = parts_of link frame in
    let room = room_of mtu parts in
    let c = cutting link mtu frame h in
    let found = carried link mtu frame h.sent h.cut in
    all_segments (IsSent link) room parts (λ index.
    inr (kind-segment_of link frame room index found.0, subst IsWhole (sym (packet_in-segment_of link frame room index c.long)) (whole_packet p room index parts c.joined found.1 c.cut.protocol c.cut.unmarked)))
