-- Plain packets: the flags of a part and the segments of one are legal and plain, it may be
-- written, and what is written instead of it is the same on each link.
use Rattle.std.proofs.Common.{◌≡◌, ℕ, ◌*◌, ◌/◌, ◌%◌, ◌==◌, ◌&&◌, ◌||◌, Bool, true, false, if◌then◌else◌, refl, sym, ap, ◌∙◌, arith, inl, inr, List, ◌++◌, length, ◌-◌, ◌≤◌, not, nat_lt, [], ◌∷◌, map, None, eq-eqb, length-append}
use Rattle.std.proofs.lemmas.Bool.Decides.{nat_tests}
use Rattle.wire_base.specs.Tcp as tcp
use Rattle.emit_mtu.specs.LongFrames.{is_marked, is_ip, long_kind, may_be_cut}
use Rattle.emit_mtu.specs.Segments.{flags_of, lost, count_of, room_of, segment_of}
use Rattle.emit_mtu.specs.CutLaws.{FlagsAreKept}
use Rattle.std.specs.List.{range_with_len}
use Rattle.std.proofs.lemmas.Simd.{map-map}
use Rattle.wire_base.specs.Ipv4 as ip
use Rattle.wire_base.specs.Checksums.{pseudo_sum, sum_is_right}
use Rattle.wire_base.specs.Options.{are_well_formed, cleaned}
use Rattle.wire_base.specs.Plain.{IsPlainHeader, IsPlainTcp, Plain, pseudo_of}
use Rattle.tcp_codec.proofs.Segments.{sum_is_right-mended, fault_of-options}
use Rattle.wire_base.specs.declared.address.Link.{Link}
use Rattle.wire_base.specs.declared.address.Link.TheVariants.{Raw}
use Rattle.wire_base.specs.declared.frame.FrameKind.TheVariants.{Ip}
use Rattle.wire_base.specs.Frames.{kind_of, packet_in}
use Rattle.tcp_codec.specs.declared.header.SumRule.TheVariants.{Skip}
use Rattle.tcp_codec.specs.HeaderFields.{fault_of}
use Rattle.emit_mtu.specs.working.PartSizes.{AreSized}
use Rattle.emit_mtu.specs.FrameParts.{Parts, IsWhole, link_size, parts_of}
use Rattle.emit_mtu.specs.Segments as spec
use Rattle.emit_mtu.specs.declared.long.LongKind.{LongKind}
use Rattle.emit_mtu.specs.declared.long.LongKind.TheVariants.{Fits, Cut, Drop}
use Rattle.emit_mtu.specs.CutStreams.{PacketsGoOutAlike, PlainHeadersAreWhole, PlainIsSent, frames_of}
use Rattle.emit_mtu.proofs.Frames.{long_enough, not_one}
use Rattle.emit_mtu.proofs.Headers.{behind-front, behind-own, flags-own, header-front, numbers-front, segment-front, segment-own, sum-own, length-message_of, length-tcp_header, AreJoined, is_own, packet_of, packet_in-segment_of}

-- The flags of a part: FIN and PSH are on the last part alone, CWR on the first, and they are legal
-- if those of the segment are.

-- the value that a part loses by a flag that it keeps, and by one that it does not
none_lost : (weight flags : ℕ) → lost weight flags true ≡ 0
none_lost weight flags = pick (tcp.has_flag weight flags)
  where
    pick : (set : Bool) → (if set && false then weight else 0) ≡ 0
    pick true = refl
    pick false = refl

fin_lost : (flags : ℕ) → lost 1 flags false ≡ flags / 1 % 2
fin_lost flags = grind (arith, nat_tests)

psh_lost : (flags : ℕ) → lost 8 flags false ≡ 8 * (flags / 8 % 2)
psh_lost flags = grind (arith, nat_tests)

cwr_lost : (flags : ℕ) → lost 128 flags false ≡ 128 * (flags / 128 % 2)
cwr_lost flags = grind (arith, nat_tests)

-- the bits of a number that may have lost the lowest, the fourth and the eighth of the flags
record Bits (n flags low fourth eighth : ℕ) : Type 0 where
  fin : n / 1 % 2 ≡ low
  syn : n / 2 % 2 ≡ flags / 2 % 2
  rst : n / 4 % 2 ≡ flags / 4 % 2
  psh : n / 8 % 2 ≡ fourth
  ack : n / 16 % 2 ≡ flags / 16 % 2
  urg : n / 32 % 2 ≡ flags / 32 % 2
  ece : n / 64 % 2 ≡ flags / 64 % 2
  cwr : n / 128 % 2 ≡ eighth

bits : (first last : Bool) (flags : ℕ) → Bits (flags_of first last flags) flags (if last then flags / 1 % 2 else 0) (if last then flags / 8 % 2 else 0) (if first then flags / 128 % 2 else 0)
bits true true flags =
    let a = none_lost 1 flags in
    let b = none_lost 8 flags in
    let d = none_lost 128 flags in
    record { fin = omega arith; syn = omega arith; rst = omega arith; psh = omega arith; ack = omega arith; urg = omega arith; ece = omega arith; cwr = omega arith }
bits true false flags =
    let a = fin_lost flags in
    let b = psh_lost flags in
    let d = none_lost 128 flags in
    record { fin = omega arith; syn = omega arith; rst = omega arith; psh = omega arith; ack = omega arith; urg = omega arith; ece = omega arith; cwr = omega arith }
bits false true flags =
    let a = none_lost 1 flags in
    let b = none_lost 8 flags in
    let d = cwr_lost flags in
    record { fin = omega arith; syn = omega arith; rst = omega arith; psh = omega arith; ack = omega arith; urg = omega arith; ece = omega arith; cwr = omega arith }
bits false false flags =
    let a = fin_lost flags in
    let b = psh_lost flags in
    let d = cwr_lost flags in
    record { fin = omega arith; syn = omega arith; rst = omega arith; psh = omega arith; ack = omega arith; urg = omega arith; ece = omega arith; cwr = omega arith }

-- a bit that is kept if `kept` is true
kept_where : (kept : Bool) (n bit : ℕ) → n ≡ (if kept then bit else 0) → (n == 1) ≡ (kept && (bit == 1))
kept_where true n bit e = ap (λ m. m == 1) e
kept_where false n bit e = ap (λ m. m == 1) e

pub flags_are_kept : FlagsAreKept
flags_are_kept first last flags =
    let b = bits first last flags in
    record {
      fin = kept_where last _ (flags / 1 % 2) b.fin;
      psh = kept_where last _ (flags / 8 % 2) b.psh;
      cwr = kept_where first _ (flags / 128 % 2) b.cwr;
      syn = ap (λ n. n == 1) b.syn;
      rst = ap (λ n. n == 1) b.rst;
      ack = ap (λ n. n == 1) b.ack;
      urg = ap (λ n. n == 1) b.urg;
      ece = ap (λ n. n == 1) b.ece;
    }

-- a segment with none of SYN, RST and URG
pub record IsUnmarked (flags : ℕ) : Type 0 where
  pub syn : tcp.has_syn flags ≡ false
  pub rst : tcp.has_rst flags ≡ false
  pub urg : tcp.has_urg flags ≡ false

neither : (a b c : Bool) → (a || b || c) ≡ false → (a ≡ false) × (b ≡ false) × (c ≡ false)
neither true b c e = cc
neither false true c e = cc
neither false false true e = cc
neither false false false e = (refl, refl, refl)

pub is_unmarked : (flags : ℕ) → is_marked flags ≡ false → IsUnmarked flags
is_unmarked flags e = let parts = neither _ _ _ e in record { syn = parts.0; rst = parts.1; urg = parts.2 }

-- its flags are legal exactly if it has ACK
legal_by_ack : (syn fin rst ack : Bool) → syn ≡ false → rst ≡ false → tcp.go_together syn fin rst ack ≡ ack
legal_by_ack true fin rst ack e f = cc
legal_by_ack false fin true ack e f = cc
legal_by_ack false fin false ack e f = refl

-- so the flags of its parts are legal if its own are
pub legal_pieces : (first last : Bool) (flags : ℕ) → IsUnmarked flags → tcp.are_legal flags ≡ true → tcp.are_legal (flags_of first last flags) ≡ true
legal_pieces first last flags none legal =
    let same = flags_are_kept first last flags in
    let mine = flags_of first last flags in
    legal_by_ack (tcp.has_syn mine) (tcp.has_fin mine) (tcp.has_rst mine) (tcp.has_ack mine) (same.syn ∙ none.syn) (same.rst ∙ none.rst)
    ∙ same.ack
    ∙ sym (legal_by_ack (tcp.has_syn flags) (tcp.has_fin flags) (tcp.has_rst flags) (tcp.has_ack flags) none.syn none.rst)
    ∙ legal

-- The segments of a plain frame are plain.

-- the checksums of a segment are right
pub header_sum : (room index : ℕ) (parts : Parts) → AreSized parts → ip.header_length parts.ip ≡ 20 → sum_is_right (ip.header (packet_of room parts index)) 0 ≡ true
header_sum room index parts sized words =
    ap (λ h. sum_is_right h 0) (is_own room index parts sized words).carried.header ∙ sum-own (length (spec.message_of room index parts)) index parts sized.ip

pub segment_sum : (room index : ℕ) (parts : Parts) → AreSized parts → ip.header_length parts.ip ≡ 20 → ip.protocol (packet_of room parts index) ≡ 6 → sum_is_right (ip.payload (packet_of room parts index)) (pseudo_of (packet_of room parts index)) ≡ true
segment_sum room index parts sized words six =
    let own = is_own room index parts sized words in
    let octets = spec.tcp_header room index parts ++ spec.piece_of room index parts in
    let count = length-message_of room index parts sized.tcp in
    let header = length-tcp_header room index parts sized.tcp in
    let both = length-append (spec.tcp_header room index parts) (spec.piece_of room index parts) in
    let size : length (ip.payload (packet_of room parts index)) ≡ length octets = ap length own.carried.payload ∙ omega (arith, count, header, both) in
    (λ i. sum_is_right (own.carried.payload i) (pseudo_sum (own.header.source i) (own.header.destination i) (six i) (size i)))
    ∙ sum_is_right-mended (pseudo_sum (ip.source parts.ip) (ip.destination parts.ip) 6 (length octets)) octets (omega (arith, header, both, sized.tcp))

plain_header : (p : List ℕ) (room index : ℕ) (parts : Parts) → AreJoined p parts → IsPlainHeader p → IsPlainHeader (packet_of room parts index)
plain_header p room index parts joined plain =
    let own = is_own room index parts joined.sized joined.words in
    let whole = header-front parts.ip (parts.tcp ++ parts.payload) joined.sized.ip in
    let e = joined.joined in
    record {
      whole_header = omega (arith, own.size);
      version = own.header.version ∙ sym whole.version ∙ ap ip.version (sym e) ∙ plain.version;
      header_length = own.header.header_length ∙ joined.words;
      total_length = own.total;
      reserved = own.header.reserved ∙ sym whole.reserved ∙ ap ip.has_reserved (sym e) ∙ plain.reserved;
      more_fragments = own.header.more ∙ sym whole.more ∙ ap ip.has_more_fragments (sym e) ∙ plain.more_fragments;
      fragment_offset = own.header.offset ∙ sym whole.offset ∙ ap ip.fragment_offset (sym e) ∙ plain.fragment_offset;
      sum = header_sum room index parts joined.sized joined.words;
    }

no_mark : (syn rst : Bool) {A : Type 0} → syn ≡ false → rst ≡ false → (syn || rst) ≡ true → A
no_mark true rst e f h = cc
no_mark false true e f h = cc
no_mark false false e f h = cc

plain_tcp : (p : List ℕ) (room index : ℕ) (parts : Parts) → AreJoined p parts → ip.protocol p ≡ 6 → is_marked (tcp.flags (ip.payload p)) ≡ false → IsPlainTcp p → IsPlainTcp (packet_of room parts index)
plain_tcp p room index parts joined protocol unmarked plain =
    let own = is_own room index parts joined.sized joined.words in
    let whole = header-front parts.ip (parts.tcp ++ parts.payload) joined.sized.ip in
    let mine = segment-own room index parts joined.sized.tcp in
    let its = segment-front parts.tcp parts.payload joined.sized.tcp in
    let here = own.carried.payload in
    let there = sym joined.message in
    let octets = spec.tcp_header room index parts ++ spec.piece_of room index parts in
    let count = length-message_of room index parts joined.sized.tcp in
    let header = length-tcp_header room index parts joined.sized.tcp in
    let both = length-append (spec.tcp_header room index parts) (spec.piece_of room index parts) in
    let size : length (ip.payload (packet_of room parts index)) ≡ length octets = ap length here ∙ omega (arith, count, header, both) in
    let six : ip.protocol (packet_of room parts index) ≡ 6 = own.header.protocol ∙ sym whole.protocol ∙ ap ip.protocol (sym joined.joined) ∙ protocol in
    let words : tcp.header_length (ip.payload (packet_of room parts index)) ≡ length parts.tcp = ap tcp.header_length here ∙ mine.header_length ∙ joined.data_offset in
    let marks = flags_are_kept (spec.is_first index) (spec.is_last room index parts) (tcp.flags (ip.payload p)) in
    let none = is_unmarked (tcp.flags (ip.payload p)) unmarked in
    let flags : tcp.flags (ip.payload (packet_of room parts index)) ≡ spec.flags_of (spec.is_first index) (spec.is_last room index parts) (tcp.flags (ip.payload p)) = ap tcp.flags here ∙ flags-own room index parts joined.sized.tcp ∙ ap (spec.flags_of (spec.is_first index) (spec.is_last room index parts)) (sym (numbers-front parts.tcp parts.payload joined.sized.tcp).flags ∙ ap tcp.flags there) in
    let options : tcp.options (ip.payload (packet_of room parts index)) ≡ tcp.options (ip.payload p) = ap tcp.options here ∙ (behind-own room index parts joined.sized.tcp joined.data_offset).options ∙ sym (behind-front parts.tcp parts.payload joined.sized.tcp joined.data_offset).options ∙ ap tcp.options there in
    let syn : tcp.has_syn (tcp.flags (ip.payload (packet_of room parts index))) ≡ tcp.has_syn (tcp.flags (ip.payload p)) = ap tcp.has_syn flags ∙ marks.syn in
    record {
      whole_header = omega (arith, size, header, both, joined.sized.tcp);
      data_offset = omega (arith, words, joined.sized.tcp);
      inside = omega (arith, words, size, header, both);
      sum = segment_sum room index parts joined.sized joined.words six;
      flags = ap tcp.are_legal flags ∙ legal_pieces (spec.is_first index) (spec.is_last room index parts) (tcp.flags (ip.payload p)) none plain.flags;
      reserved = ap tcp.reserved here ∙ mine.reserved ∙ sym its.reserved ∙ ap tcp.reserved there ∙ plain.reserved;
      urgent = ap tcp.has_urg flags ∙ marks.urg ∙ none.urg;
      pointer = ap tcp.urgent_pointer here ∙ mine.urgent_pointer ∙ sym its.urgent_pointer ∙ ap tcp.urgent_pointer there ∙ plain.pointer;
      options = ap are_well_formed options ∙ plain.options;
      kept = (λ i. cleaned (syn i) (options i)) ∙ plain.kept ∙ sym options;
      bare = no_mark _ _ (syn ∙ none.syn) (ap tcp.has_rst flags ∙ marks.rst ∙ none.rst);
    }

pub plain_packet : (hops : ℕ) (p : List ℕ) (room index : ℕ) (parts : Parts) → AreJoined p parts → ip.protocol p ≡ 6 → is_marked (tcp.flags (ip.payload p)) ≡ false → Plain hops p → Plain hops (packet_of room parts index)
plain_packet hops p room index parts joined protocol unmarked plain =
    let own = is_own room index parts joined.sized joined.words in
    let whole = header-front parts.ip (parts.tcp ++ parts.payload) joined.sized.ip in
    let six : ip.protocol (packet_of room parts index) ≡ 6 = own.header.protocol ∙ sym whole.protocol ∙ ap ip.protocol (sym joined.joined) ∙ protocol in
    let lives : ip.time_to_live (packet_of room parts index) ≡ ip.time_to_live p = own.header.time_to_live ∙ sym whole.time_to_live ∙ ap ip.time_to_live (sym joined.joined) in
    record {
      header = plain_header p room index parts joined plain.header;
      passes = omega (arith, lives, plain.passes);
      message = record {
        protocol = inr (inl six);
        icmp = λ e. absurd (omega (arith, six, e));
        tcp = λ e. plain_tcp p room index parts joined protocol unmarked (plain.message.tcp protocol);
        udp = λ e. absurd (omega (arith, six, e));
      };
    }

-- Plain packets may be written, and the packets written instead of one are the same on each link.

-- a packet of these fields is whole
pub whole_by : (p : List ℕ) → 20 ≤ length p → ip.version p ≡ 4 → ip.header_length p ≡ 20 → ip.has_more_fragments p ≡ false → ip.fragment_offset p ≡ 0 → ip.total_length p ≡ length p → sum_is_right (ip.header p) 0 ≡ true → (ip.protocol p ≡ 6 → fault_of Skip 0 (ip.payload p) ≡ None) → IsWhole p
whole_by p long version header more offset ends sum segment =
    let short : nat_lt (length p) 20 ≡ false = grind (arith, nat_tests) in
    let four : not (ip.version p == 4) ≡ false = ap not (eq-eqb _ _ version) in
    let words : (nat_lt (ip.header_length p) 20 || nat_lt (length p) (ip.header_length p)) ≡ false = grind (arith, nat_tests) in
    let total : (nat_lt (ip.total_length p) (ip.header_length p) || nat_lt (length p) (ip.total_length p)) ≡ false = grind (arith, nat_tests) in
    let right : not (sum_is_right (ip.header p) 0) ≡ false = ap not sum in
    record { header = header; whole = not_one _ _ more offset; ends = ends; datagram = rw (short, four, words, total, right) refl; segment = segment }

pub plain_headers_are_whole : PlainHeadersAreWhole
plain_headers_are_whole p h segment = whole_by p h.whole_header h.version h.header_length h.more_fragments h.fragment_offset h.total_length h.sum segment

pub whole-plain : (hops : ℕ) (p : List ℕ) → Plain hops p → IsWhole p
whole-plain hops p plain = plain_headers_are_whole p plain.header (λ six. let t = plain.message.tcp six in fault_of-options Skip 0 (ip.payload p) true t.whole_header t.data_offset t.inside refl t.flags t.options)

pub plain_is_sent : PlainIsSent
plain_is_sent link hops frame kind plain = inr (kind, whole-plain hops (packet_in link frame) plain)

long_kind-packet : (link : Link) (mtu : ℕ) (frame : List ℕ) → kind_of link frame ≡ Ip (link_size link) → long_kind link mtu frame ≡ long_kind Raw mtu (packet_in link frame)
long_kind-packet link mtu frame kind =
    let carries : is_ip (kind_of link frame) ≡ true = ap is_ip kind in
    let long = nat_lt mtu (ip.total_length (packet_in link frame)) in
    let may = may_be_cut (packet_in link frame) in
    ap (λ b. if (b && long) && may then Cut else if (b && long) && not may then Drop else Fits) carries

map_alike : (f g : ℕ → List ℕ) (xs : List ℕ) → ((x : ℕ) → f x ≡ g x) → map f xs ≡ map g xs
map_alike f g [] each = refl
map_alike f g (x ∷ xs) each = λ i. each x i ∷ map_alike f g xs each i

by_kind : (kind : LongKind) (link : Link) (mtu : ℕ) (frame : List ℕ) → link_size link ≤ length frame → map (packet_in link) (frames_of kind link mtu frame) ≡ frames_of kind Raw mtu (packet_in link frame)
by_kind Fits link mtu frame long = refl
by_kind Drop link mtu frame long = refl
by_kind Cut link mtu frame long =
    let parts = parts_of link frame in
    let room = room_of mtu parts in
    let n = count_of room parts - 0 in
    map-map (packet_in link) (segment_of room parts) (range_with_len 0 n)
    ∙ map_alike (λ index. packet_in link (segment_of room parts index)) (segment_of room (parts_of Raw (packet_in link frame))) (range_with_len 0 n) (λ index. packet_in-segment_of link frame room index long)

pub packets_go_out_alike : PacketsGoOutAlike
packets_go_out_alike link mtu frame kind =
    by_kind (long_kind link mtu frame) link mtu frame (long_enough link frame kind)
    ∙ ap (λ k. frames_of k Raw mtu (packet_in link frame)) (long_kind-packet link mtu frame kind)
