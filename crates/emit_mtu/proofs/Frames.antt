-- Frames that may be written, and those that are cut: their link octets, which alone say what they
-- carry, and the facts of their headers.
use Rattle.std.proofs.Common.{◌≡◌, ℕ, ◌+◌, ◌-◌, ◌*◌, ◌≤◌, ◌==◌, nat_lt, Bool, true, false, List, ◌++◌, length, take, drop, if◌then◌else◌, refl, ap, ap₂, ◌∙◌, arith, length-append, length-drop, length-take, length-take-le, get_or-drop, ◌<◌, ◌||◌, sym, subst, ⊎_elim, slice_index}
use Rattle.std.proofs.lemmas.Bool.{le-ltb, ltb-false, eqb-true, not-true, and_parts, or_parts, ltb-true, not-false}
use Rattle.std.proofs.lemmas.List.{drop_at, take_at}
use Rattle.wire_base.specs.declared.address.Link.{Link}
use Rattle.wire_base.specs.declared.address.Link.TheVariants.{Ethernet, Raw}
use Rattle.wire_base.specs.declared.frame.FrameKind.TheVariants.{Ip, Arp, Short, Other}
use Rattle.wire_base.specs.Frames.{ethertype, kind_of, link_octets, packet_in}
use Rattle.tcp_codec.proofs.Segments.{front}
use Rattle.emit_mtu.specs.FrameParts.{AreOctets, link_size, IsWhole, parts_of, IsSent}
use Rattle.std.proofs.Math.Seq.{take-length}
use Rattle.wire_base.specs.Ipv4 as ip
use Rattle.wire_base.specs.Tcp as tcp
use Rattle.wire_base.specs.Options.{are_well_formed}
use Rattle.tcp_codec.specs.declared.header.TcpFault.TheVariants.{Sum}
use Rattle.receiver_model.proofs.PlainPackets.{no_fault}
use Rattle.emit_mtu.specs.working.PartSizes.{AreSized}
use Rattle.emit_mtu.specs.declared.long.LongKind.TheVariants.{Cut}
use Rattle.emit_mtu.specs.LongFrames.{e_cut, e_mtu, is_ip, is_marked, long_kind}

-- The link octets of a frame: the packet follows them.

-- the parts of a frame

pub packet_size : (link : Link) (frame : List ℕ) → length (packet_in link frame) ≡ length frame - link_size link
packet_size Ethernet frame = length-drop 14 frame
packet_size Raw frame = omega arith

pub link_few : (link : Link) (frame : List ℕ) → length (link_octets link frame) ≤ 14
link_few Ethernet frame = let e = length-take 14 frame in omega arith
link_few Raw frame = omega arith

-- the octets after an offset are octets
pub octets-drop : (n : ℕ) (xs : List ℕ) → AreOctets xs → AreOctets (drop n xs)
octets-drop n xs octets at = rw (get_or-drop n xs at 0) (octets (n + at))

pub octets_in : (link : Link) (frame : List ℕ) → AreOctets frame → AreOctets (packet_in link frame)
octets_in Ethernet frame octets = octets-drop 14 frame octets
octets_in Raw frame octets = octets

-- what follows the link octets of a frame that has them whole

pub packet_behind : (link : Link) (frame rest : List ℕ) → link_size link ≤ length frame → packet_in link (link_octets link frame ++ rest) ≡ rest
packet_behind Ethernet frame rest long = drop_at (take 14 frame) rest 14 (length-take-le 14 frame long)
packet_behind Raw frame rest long = refl

pub link_behind : (link : Link) (frame rest : List ℕ) → link_size link ≤ length frame
    → link_octets link (link_octets link frame ++ rest) ≡ link_octets link frame
link_behind Ethernet frame rest long = take_at (take 14 frame) rest 14 (length-take-le 14 frame long)
link_behind Raw frame rest long = refl

-- the kind of a frame with IPv4

carries : (a b c : Bool) (at : ℕ) → (if a then Short else if b then Ip 14 else if c then Arp else Other) ≡ Ip at → (a ≡ false) × (b ≡ true)
carries true b c at e = cc
carries false true c at e = (refl, refl)
carries false false true at e = cc
carries false false false at e = cc

pub kind_sized : (link : Link) (frame : List ℕ) (at : ℕ) → kind_of link frame ≡ Ip at → kind_of link frame ≡ Ip (link_size link)
kind_sized Raw frame at kind = refl
kind_sized Ethernet frame at kind =
    let facts = carries (nat_lt (length frame) 14) (ethertype frame == 2048) (ethertype frame == 2054) at kind in
    rw (facts.0, facts.1) refl

pub long_enough : (link : Link) (frame : List ℕ) → kind_of link frame ≡ Ip (link_size link) → link_size link ≤ length frame
long_enough Ethernet frame kind = ltb-false (length frame) 14 (carries _ (ethertype frame == 2048) (ethertype frame == 2054) 14 kind).0
long_enough Raw frame kind = omega arith

pub kind_behind : (link : Link) (frame rest : List ℕ) → kind_of link frame ≡ Ip (link_size link)
    → kind_of link (link_octets link frame ++ rest) ≡ Ip (link_size link)
kind_behind Raw frame rest kind = refl
kind_behind Ethernet frame rest kind =
    let facts = carries (nat_lt (length frame) 14) (ethertype frame == 2048) (ethertype frame == 2054) 14 kind in
    let long = ltb-false (length frame) 14 facts.0 in
    let size = length-append (take 14 frame) rest in
    let few = length-take-le 14 frame long in
    let enough : nat_lt (length (take 14 frame ++ rest)) 14 ≡ false = le-ltb _ _ (omega arith) in
    let type : ethertype (take 14 frame ++ rest) ≡ ethertype frame =
    ap₂ (λ a b. 256 * a + b) (front frame rest 14 12 long (omega arith)) (front frame rest 14 13 long (omega arith)) in
    let four : (ethertype (take 14 frame ++ rest) == 2048) ≡ true = ap (λ n. n == 2048) type ∙ facts.1 in
    rw (enough, four) refl

-- The meaning of tests.

-- neither a flag nor a number above 0
pub not_one : (a : Bool) (n : ℕ) → a ≡ false → n ≡ 0 → (a || nat_lt 0 n) ≡ false
not_one a n e f = rw (e, f) refl

-- The facts of the headers of a frame that may be written.

-- a segment without a fault: its header lies inside it, and its flags and options are well formed
pub record IsFaultless (m : List ℕ) : Type 0 where
  pub whole : 20 ≤ length m
  pub some : 20 ≤ tcp.header_length m
  pub inside : tcp.header_length m ≤ length m
  pub legal : tcp.are_legal (tcp.flags m) ≡ true
  pub formed : are_well_formed (tcp.options m) ≡ true

pub is_faultless : (p : List ℕ) → IsWhole p → ip.protocol p ≡ 6 → IsFaultless (ip.payload p)
is_faultless p whole protocol =
    let m = ip.payload p in
    let none = no_fault _ _ Sum _ _ (tcp.is_short m) (tcp.has_bad_header_length m) false (tcp.has_illegal_flags m) (tcp.has_bad_options m) (whole.segment protocol) in
    let header = or_parts _ _ none.second in
    record {
      whole = ltb-false _ _ none.first;
      some = ltb-false _ _ header.0;
      inside = ltb-false _ _ header.1;
      legal = not-false _ none.fourth;
      formed = not-false _ none.fifth;
    }

-- the version of a packet without a fault is 4
pub version_is : (p : List ℕ) → IsWhole p → ip.version p ≡ 4
version_is p whole =
    let none = no_fault _ _ _ _ _ (ip.is_short p) (ip.has_other_version p) (ip.has_bad_header_length p) (ip.has_bad_total_length p) (ip.has_wrong_sum p) whole.datagram in
    eqb-true _ _ (not-false _ none.second)

-- the payload of the packet is the octets after the 20 octets of its header
pub payload_is : (p : List ℕ) → ip.header_length p ≡ 20 → ip.total_length p ≡ length p → ip.payload p ≡ drop 20 p
payload_is p header total = (λ i. drop (header i) (take (total i) p)) ∙ ap (drop 20) (take-length p)

packets_sized : (link : List ℕ) (p : List ℕ) → length link ≤ 14 → IsWhole p → ip.protocol p ≡ 6 → AreOctets p → AreSized (record { link = link; ip = ip.header p; tcp = take (tcp.header_length (ip.payload p)) (ip.payload p); payload = tcp.payload (ip.payload p) })
packets_sized link p few whole protocol octets =
    let m = ip.payload p in
    let inside = is_faultless p whole protocol in
    let e = payload_is p whole.header whole.ends in
    let size : length m ≡ length p - 20 = ap length e ∙ length-drop 20 p in
    let total : length p ≤ 65535 = let a = octets 2 in let b = octets 3 in let t = whole.ends in omega arith in
    let header : length (ip.header p) ≡ 20 = ap (λ n. length (take n p)) whole.header ∙ length-take-le 20 p (omega (arith, size, inside.whole)) in
    let segment : length (take (tcp.header_length m) m) ≡ tcp.header_length m = length-take-le _ m inside.inside in
    let rest = length-drop (tcp.header_length m) m in
    let data_offset : slice_index m 12 < 256 = subst (λ xs. slice_index xs 12 < 256) (sym e) (octets-drop 20 p octets 12) in
    record {
      link = few;
      ip = header;
      tcp = omega (arith, segment, inside.some);
      options = omega (arith, segment, data_offset);
      packet = omega (arith, header, segment, rest, size, total, inside.inside, inside.whole);
    }

-- the parts of a frame have their sizes
pub are_sized : (link : Link) (frame : List ℕ) → IsWhole (packet_in link frame) → ip.protocol (packet_in link frame) ≡ 6 → AreOctets frame → AreSized (parts_of link frame)
are_sized link frame whole protocol octets =
    packets_sized (link_octets link frame) (packet_in link frame) (link_few link frame) whole protocol (octets_in link frame octets)

-- Frames that are cut.

-- the facts of the packet of a frame that is cut
pub record IsCut (mtu : ℕ) (p : List ℕ) : Type 0 where
  pub long : mtu < ip.total_length p
  pub protocol : ip.protocol p ≡ 6
  pub unmarked : is_marked (tcp.flags (ip.payload p)) ≡ false
  pub some : 0 < length (tcp.payload (ip.payload p))

cut : (link : Link) (mtu : ℕ) (frame : List ℕ) (c d : Bool) → e_cut link mtu frame ≡ c → e_mtu link mtu frame ≡ d → long_kind link mtu frame ≡ Cut → c ≡ true
cut link mtu frame true d e f h = refl
cut link mtu frame false true e f h = absurd (let g = rw (e, f) at h in cc)
cut link mtu frame false false e f h = absurd (let g = rw (e, f) at h in cc)

pub is_cut : (link : Link) (mtu : ℕ) (frame : List ℕ) → long_kind link mtu frame ≡ Cut → IsCut mtu (packet_in link frame)
is_cut link mtu frame h =
    let p = packet_in link frame in
    let holds = and_parts _ _ (cut link mtu frame _ _ refl refl h) in
    let long = and_parts (is_ip (kind_of link frame)) _ holds.0 in
    let may = and_parts _ _ holds.1 in
    let tests = and_parts _ _ may.0 in
    record {
      long = ltb-true _ _ long.1;
      protocol = eqb-true _ _ tests.0;
      unmarked = not-true _ tests.1;
      some = ltb-true _ _ may.1;
    }

-- the frame carries a whole packet
pub carried : (link : Link) (mtu : ℕ) (frame : List ℕ) → IsSent link frame → long_kind link mtu frame ≡ Cut → (kind_of link frame ≡ Ip (link_size link)) × IsWhole (packet_in link frame)
carried link mtu frame sent h =
    ⊎_elim (λ arp. absurd (let long = (and_parts (is_ip (kind_of link frame)) _ (and_parts _ _ (cut link mtu frame _ _ refl refl h)).0).0 in let none = ap is_ip arp in cc)) (λ found. found) sent
