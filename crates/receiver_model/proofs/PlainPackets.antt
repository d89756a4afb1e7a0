-- Plain packets: the positions of their fields, what the codecs read of them, and that a written
-- packet is read as it was written.
use Rattle.std.proofs.Common.{◌≡◌, ℕ, ◌+◌, ◌*◌, ◌/◌, ◌-◌, ◌≤◌, List, length, take, drop, sym, ap, ◌∙◌, arith, length-drop, add_assoc, ◌↔◌, ◌⊎◌, inl, inr, ◌==◌, ◌&&◌, ◌||◌, not, nat_lt, Bool, true, false, [], Option, Some, None, Ok, is_ok, if◌then◌else◌, refl, eq-eqb, ◌%◌, slice_index}
use Rattle.std.proofs.Math.Seq.{take-length}
use Rattle.std.proofs.lemmas.List.{get_or-drop, drop-take, drop_all}
use Rattle.std.proofs.lemmas.Grind.{common_steps}
use Rattle.std.proofs.lemmas.Bool.{eqb-true, not-true, and_parts, not-false}
use Rattle.std.proofs.lemmas.Bool.Decides.{nat_tests}
use Rattle.wire_base.specs.Numbers.{u16_at, u32_at}
use Rattle.wire_base.specs.Ipv4 as ip
use Rattle.wire_base.specs.Tcp as tcp
use Rattle.wire_base.specs.Plain.{IsPlainHeader, IsPlainTcp, IsPlainIcmp, IsPlainMessage, IsPlainUdp, pseudo_of}
use Rattle.wire_base.specs.Segments.{fields_of, Segment}
use Rattle.wire_base.specs.ParseResults.{value_or_fault}
use Rattle.wire_base.specs.Udp as udp
use Rattle.wire_base.specs.Checksums.{pseudo_sum, sum_is_right}
use Rattle.wire_base.specs.Options.{cleaned}
use Rattle.ipv4_codec.specs.HeaderFields as ip_header
use Rattle.udp_codec.specs.HeaderFields as udp_header
use Rattle.icmp_codec.specs.HeaderFields as icmp_header
use Rattle.tcp_codec.specs.HeaderFields as tcp_header
use Rattle.ipv4_codec.specs.declared.header.Ipv4.{Ipv4}
use Rattle.tcp_codec.specs.declared.header.Tcp.{Tcp}
use Rattle.tcp_codec.specs.declared.header.TcpFault.{TcpFault}
use Rattle.tcp_codec.specs.declared.header.SumRule.TheVariants.{Must}
use Rattle.tcp_codec.proofs.Segments.{area_is, length-octets_with, read_back}
use Rattle.ipv4_codec.proofs.PlainHeaders.{header-plain}
use Rattle.tcp_codec.specs.WrittenSegment as write
use Rattle.wire_base.proofs.Octets.{four-octets}
use Rattle.receiver_model.specs.declared.segment.Segment.{Segment as Fields}
use Rattle.receiver_model.specs.SegmentFields.{segment_in}
use Rattle.receiver_model.specs.working.FieldTests.{is_bare}
use Rattle.receiver_model.specs.WrittenPackets.{AreRead, IsPlainSegment, packet_of}

-- The positions of the fields of a plain TCP packet in its octets.

drop-drop : (a b : ℕ) (p : List ℕ) → drop a (drop b p) ≡ drop (b + a) p
drop-drop a b p = grind (arith, common_steps)

-- the payload of a plain packet is what follows the 20 octets of its header
pub payload_is : (p : List ℕ) → IsPlainHeader p → ip.payload p ≡ drop 20 p
payload_is p h = (λ i. drop (h.header_length i) (take (h.total_length i) p)) ∙ ap (drop 20) (take-length p)

octet : (p : List ℕ) (k : ℕ) → IsPlainHeader p → slice_index (ip.payload p) k ≡ slice_index p (20 + k)
octet p k h = ap (λ m. slice_index m k) (payload_is p h) ∙ get_or-drop 20 p k 0

-- the index of the first octet of the segment's payload
abbrev pub start_of : List ℕ → ℕ
start_of p = 20 + 4 * (slice_index p 32 / 16)

header_length : (p : List ℕ) → IsPlainHeader p → tcp.header_length (ip.payload p) ≡ 4 * (slice_index p 32 / 16)
header_length p h = ap (λ o. 4 * (o / 16)) (octet p 12 h)

options : (p : List ℕ) → IsPlainHeader p → drop 40 (take (start_of p) p) ≡ tcp.options (ip.payload p)
options p h =
    sym (drop-drop 20 20 (take (start_of p) p))
    ∙ ap (drop 20) (drop-take 20 (4 * (slice_index p 32 / 16)) p)
    ∙ (λ i. drop 20 (take (sym (header_length p h) i) (sym (payload_is p h) i)))

octets : (p : List ℕ) → IsPlainHeader p → drop (start_of p) p ≡ tcp.payload (ip.payload p)
octets p h = sym (drop-drop (4 * (slice_index p 32 / 16)) 20 p) ∙ (λ i. drop (sym (header_length p h) i) (sym (payload_is p h) i))

-- the fields as read at their positions
abbrev pub fields_in : List ℕ → Fields
fields_in p =
    record {
      src = record { 0 = u32_at p 12 };
      dst = record { 0 = u32_at p 16 };
      sport = u16_at p 20;
      dport = u16_at p 22;
      seq = u32_at p 24;
      ack = u32_at p 28;
      flags = record { 0 = slice_index p 33 };
      window = u16_at p 34;
      start = start_of p;
    }

u16_in : (p : List ℕ) (k : ℕ) → IsPlainHeader p → u16_at p (20 + k) ≡ u16_at (ip.payload p) k
u16_in p k h =
    let next : slice_index p (20 + k + 1) ≡ slice_index (ip.payload p) (k + 1) = rw (add_assoc 20 k 1) (sym (octet p (k + 1) h)) in
    λ i. 256 * sym (octet p k h) i + next i

u32_in : (p : List ℕ) (k : ℕ) → IsPlainHeader p → u32_at p (20 + k) ≡ u32_at (ip.payload p) k
u32_in p k h =
    let next : u16_at p (20 + k + 2) ≡ u16_at (ip.payload p) (k + 2) = rw (add_assoc 20 k 2) (u16_in p (k + 2) h) in
    λ i. 65536 * u16_in p k h i + next i

pub fields_in_place : (p : List ℕ) → IsPlainHeader p → segment_in p (fields_in p) ≡ fields_of p
fields_in_place p h =
    λ i.
    record {
      source = u32_at p 12;
      destination = u32_at p 16;
      source_port = u16_in p 0 h i;
      destination_port = u16_in p 2 h i;
      sequence = u32_in p 4 h i;
      acknowledgment = u32_in p 8 h i;
      flags = sym (octet p 13 h) i;
      window = u16_in p 14 h i;
      options = options p h i;
      octets = octets p h i;
    }

pub start_inside : (p : List ℕ) → IsPlainHeader p → IsPlainTcp p → start_of p ≤ length p
start_inside p h t =
    let size : length (ip.payload p) ≡ length p - 20 = ap length (payload_is p h) ∙ length-drop 20 p in
    omega (arith, size, header_length p h, t.inside, t.whole_header)

-- What the codecs read of a plain packet, and when what they read is plain.

-- none of five faults holds
pub record AllFalse (a b c d e : Bool) : Type 0 where
  pub first : a ≡ false
  pub second : b ≡ false
  pub third : c ≡ false
  pub fourth : d ≡ false
  pub fifth : e ≡ false

pub no_fault : {T : Type 0} (x y z w v : T) (a b c d e : Bool) → (if a then Some x else if b then Some y else if c then Some z else if d then Some w else if e then Some v else None) ≡ None → AllFalse a b c d e
no_fault x y z w v true b c d e h = cc
no_fault x y z w v false true c d e h = cc
no_fault x y z w v false false true d e h = cc
no_fault x y z w v false false false true e h = cc
no_fault x y z w v false false false false true h = cc
no_fault x y z w v false false false false false h = record { first = refl; second = refl; third = refl; fourth = refl; fifth = refl }

-- a header that was read: its fields, and no fault
tcp-read : (fields head : Tcp) (fault : Option TcpFault) → Ok head ≡ value_or_fault fields fault → (head ≡ fields) × (fault ≡ None)
tcp-read fields head None e = (cc, refl)
tcp-read fields head (Some f) e = cc

pub tcp-header : (m : List ℕ) (pseudo : ℕ) (head : Tcp) → Ok head ≡ tcp_header.parsed Must pseudo m → head.header ≡ tcp.header_length m
tcp-header m pseudo head e = ap (λ (h : Tcp). h.header) (tcp-read _ head _ e).0

-- the number of octets after a header
behind : (m : List ℕ) (header : ℕ) → header ≤ length m → drop header m ≡ [] → header ≡ length m
behind m header inside e =
    let left = length-drop header m in
    let none : length (drop header m) ≡ 0 = ap length e in
    omega arith

-- the tests of a plain segment's header
ends : (marked same : Bool) → marked ≡ true → (not marked || same) ≡ true → same ≡ true
ends true same m o = o
ends false same m o = cc

bare-facts : (head : Tcp) (size : ℕ) → is_bare head size ≡ true → (head.reserved ≡ 0) × (tcp.has_urg head.flags.0 ≡ false) × (head.urgent ≡ 0) × ((tcp.has_syn head.flags.0 || tcp.has_rst head.flags.0) ≡ true → head.header ≡ size)
bare-facts head size e =
    let a = and_parts _ _ e in
    let b = and_parts _ _ a.0 in
    let d = and_parts _ _ b.0 in
    (eqb-true head.reserved 0 d.0, not-true _ d.1, eqb-true head.urgent 0 b.1, λ marked. eqb-true head.header size (ends _ (head.header == size) marked a.1))

pub tcp-sound : (p : List ℕ) (head : Tcp) → Ok head ≡ tcp_header.parsed Must (pseudo_of p) (ip.payload p) → is_bare head (length (ip.payload p)) ≡ true → cleaned (tcp.has_syn head.flags.0) (tcp.options (ip.payload p)) ≡ tcp.options (ip.payload p) → IsPlainTcp p
tcp-sound p head e bare kept =
    let m = ip.payload p in
    let read = tcp-read _ head _ e in
    let faults = no_fault _ _ _ _ _ (tcp.is_short m) (tcp.has_bad_header_length m) (tcp.has_wrong_sum (pseudo_of p) m) (tcp.has_illegal_flags m) (tcp.has_bad_options m) read.1 in
    let facts = bare-facts head (length m) bare in
    let header : head.header ≡ tcp.header_length m = ap (λ (h : Tcp). h.header) read.0 in
    let flags : head.flags.0 ≡ tcp.flags m = ap (λ (h : Tcp). h.flags.0) read.0 in
    let whole : 20 ≤ length m = leb-of (length m) 20 faults.first in
    let bounds = either-false _ _ faults.second in
    record {
      whole_header = whole;
      data_offset = leb-of (tcp.header_length m) 20 bounds.0;
      inside = leb-of (length m) (tcp.header_length m) bounds.1;
      sum = not-false _ faults.third;
      flags = not-false _ faults.fourth;
      reserved = ap (λ (h : Tcp). h.reserved) (sym read.0) ∙ facts.0;
      urgent = ap tcp.has_urg (sym flags) ∙ facts.1;
      pointer = ap (λ (h : Tcp). h.urgent) (sym read.0) ∙ facts.2;
      options = not-false _ faults.fifth;
      kept = ap (λ f. cleaned (tcp.has_syn f) (tcp.options m)) (sym flags) ∙ kept;
      bare = λ marked. drop_all _ m (omega (arith, header, facts.3 (ap (λ f. tcp.has_syn f || tcp.has_rst f) flags ∙ marked)));
    }
  where
    leb-of : (a b : ℕ) → nat_lt a b ≡ false → b ≤ a
    leb-of a b h = grind (arith, nat_tests)

    either-false : (a b : Bool) → (a || b) ≡ false → (a ≡ false) × (b ≡ false)
    either-false true b h = cc
    either-false false b h = (refl, h)

pub tcp-bare : (p : List ℕ) → IsPlainTcp p → is_bare (tcp_header.fields_of (pseudo_of p) (ip.payload p)) (length (ip.payload p)) ≡ true
tcp-bare p t =
    let m = ip.payload p in
    let reserved = eq-eqb _ _ t.reserved in
    let pointer = eq-eqb _ _ t.pointer in
    rw (reserved, t.urgent, pointer) (empty _ (λ marked. eq-eqb _ _ (behind m (tcp.header_length m) t.inside (t.bare marked))))
  where
    empty : (marked : Bool) {same : Bool} → (marked ≡ true → same ≡ true) → (not marked || same) ≡ true
    empty true h = h refl
    empty false h = refl

-- all tests of a segment, and whether it is plain
pub tcp-decides : (p m : List ℕ) (pseudo : ℕ) (head : Tcp) (clean bare syn result : Bool) → ip.payload p ≡ m → pseudo_of p ≡ pseudo → Ok head ≡ tcp_header.parsed Must pseudo m → 20 ≤ head.header → syn ≡ tcp.has_syn head.flags.0 → ((clean ≡ true) ↔ (cleaned syn (take (head.header - 20) (drop 20 m)) ≡ take (head.header - 20) (drop 20 m))) → bare ≡ is_bare head (length m) → result ≡ (clean && bare) → (result ≡ true) ↔ IsPlainTcp p
tcp-decides p m pseudo head clean bare syn result e f read some s kept b r =
    let here : Ok head ≡ tcp_header.parsed Must (pseudo_of p) (ip.payload p) = read ∙ (λ i. tcp_header.parsed Must (sym f i) (sym e i)) in
    let fields = (tcp-read _ head _ here).0 in
    let header : head.header ≡ tcp.header_length m = ap (λ (h : Tcp). h.header) fields ∙ ap tcp.header_length e in
    let area : take (head.header - 20) (drop 20 m) ≡ tcp.options (ip.payload p) = area_is m head.header header some ∙ ap tcp.options (sym e) in
    let size : is_bare head (length m) ≡ is_bare head (length (ip.payload p)) = ap (λ xs. is_bare head (length xs)) (sym e) in (
      λ h.
          let parts = and_parts clean bare (sym r ∙ h) in
          tcp-sound p head here (sym size ∙ sym b ∙ parts.1) ((λ i. cleaned (sym s i) (sym area i)) ∙ kept.0 parts.0 ∙ area),
      λ t.
          let flags : tcp.has_syn head.flags.0 ≡ tcp.has_syn (tcp.flags (ip.payload p)) = ap (λ (h : Tcp). tcp.has_syn h.flags.0) fields in
          let one = kept.1 ((λ i. cleaned ((s ∙ flags) i) (area i)) ∙ t.kept ∙ sym area) in
          let two = b ∙ size ∙ ap (λ (h : Tcp). is_bare h (length (ip.payload p))) fields ∙ tcp-bare p t in
          r ∙ (λ i. one i && two i),
    )

-- a message is plain if it is plain for its protocol
pub icmp-message : {P : Type 0} (p : List ℕ) → ip.protocol p ≡ 1 → P ↔ IsPlainIcmp p → P ↔ IsPlainMessage p
icmp-message p e h = (
  λ x. record { protocol = inl e; icmp = λ _. h.0 x; tcp = λ f. absurd (omega (arith, e, f)); udp = λ f. absurd (omega (arith, e, f)) },
  λ t. h.1 (t.icmp e),
)

pub tcp-message : {P : Type 0} (p : List ℕ) → ip.protocol p ≡ 6 → P ↔ IsPlainTcp p → P ↔ IsPlainMessage p
tcp-message p e h = (
  λ x. record { protocol = inr (inl e); icmp = λ f. absurd (omega (arith, e, f)); tcp = λ _. h.0 x; udp = λ f. absurd (omega (arith, e, f)) },
  λ t. h.1 (t.tcp e),
)

pub udp-message : {P : Type 0} (p : List ℕ) → ip.protocol p ≡ 17 → P ↔ IsPlainUdp p → P ↔ IsPlainMessage p
udp-message p e h = (
  λ x. record { protocol = inr (inr e); icmp = λ f. absurd (omega (arith, e, f)); tcp = λ f. absurd (omega (arith, e, f)); udp = λ _. h.0 x },
  λ t. h.1 (t.udp e),
)

-- what the codecs of ICMP and UDP read is plain
icmp-ok : (m : List ℕ) → (is_ok (icmp_header.parsed m) ≡ true) ↔ ((8 ≤ length m) × (sum_is_right m 0 ≡ true))
icmp-ok m = grind (arith, nat_tests)

pub icmp-decides : (p m : List ℕ) (result : Bool) → ip.payload p ≡ m → result ≡ is_ok (icmp_header.parsed m) → (result ≡ true) ↔ IsPlainIcmp p
icmp-decides p m result e r =
    let same : result ≡ is_ok (icmp_header.parsed (ip.payload p)) = r ∙ ap (λ xs. is_ok (icmp_header.parsed xs)) (sym e) in
    let ok = icmp-ok (ip.payload p) in (
      λ h. let parts = ok.0 (sym same ∙ h) in record { whole_header = parts.0; sum = parts.1 },
      λ t. same ∙ ok.1 (t.whole_header, t.sum),
    )

udp-ok : (pseudo : ℕ) (m : List ℕ) → (is_ok (udp_header.parsed pseudo m) ≡ true) ↔ ((8 ≤ length m) × (udp.length_field m ≡ length m) × ((udp.checksum m ≡ 0) ⊎ (sum_is_right m pseudo ≡ true)))
udp-ok pseudo m = grind (arith, nat_tests)

pub udp-decides : (p m : List ℕ) (pseudo : ℕ) (result : Bool) → ip.payload p ≡ m → pseudo_of p ≡ pseudo → result ≡ is_ok (udp_header.parsed pseudo m) → (result ≡ true) ↔ IsPlainUdp p
udp-decides p m pseudo result e f r =
    let same : result ≡ is_ok (udp_header.parsed (pseudo_of p) (ip.payload p)) = r ∙ (λ i. is_ok (udp_header.parsed (sym f i) (sym e i))) in
    let ok = udp-ok (pseudo_of p) (ip.payload p) in (
      λ h. let parts = ok.0 (sym same ∙ h) in record { whole_header = parts.0; size = parts.1; sum = parts.2 },
      λ t. same ∙ ok.1 (t.whole_header, t.size, t.sum),
    )

-- the sum of the pseudo-header, from the fields that were read
pub pseudo_is : (p m : List ℕ) (head : Ipv4) → ip.payload p ≡ m → head ≡ ip_header.fields_of p → pseudo_of p ≡ pseudo_sum head.src.0 head.dst.0 head.protocol (length m)
pseudo_is p m head e fields =
    let back : ip_header.fields_of p ≡ head = sym fields in
    λ i. pseudo_sum (back i).src.0 (back i).dst.0 (back i).protocol (length (e i))

-- A packet that was written, read again.

-- a segment without URG, and without octets on SYN or RST
unmarked : (s : Segment) (size : ℕ) → IsPlainSegment s → size ≡ 20 + length s.options + length s.octets → is_bare (write.header_of s) size ≡ true
unmarked s size h e =
    rw h.urgent (empty (tcp.has_syn s.flags || tcp.has_rst s.flags) _ (λ marked. let none = ap length (h.bare marked) in eq-eqb _ _ (omega arith)))
  where
    empty : (marked same : Bool) → (marked ≡ true → same ≡ true) → (not marked || same) ≡ true
    empty true same f = f refl
    empty false same f = refl

pub are_read : AreRead
are_read head s h carries =
    let p = packet_of head s in
    let m = write.segment_octets s in
    let back = read_back s h.fits in
    let count : length m ≡ 20 + length s.options + length s.octets = length-octets_with s (write.checksum_of s) in
    let small : length m ≤ 65515 = let fits = h.fits.size in omega arith in
    let header = header-plain head m small in
    let e : ip.payload p ≡ m = payload_is p header in
    let source : ip.source p ≡ s.source = ap (λ a. 65536 * (256 * (a / 16777216 % 256) + a / 65536 % 256) + (256 * (a / 256 % 256) + a % 256)) carries.source ∙ four-octets s.source h.fits.source in
    let destination : ip.destination p ≡ s.destination = ap (λ a. 65536 * (256 * (a / 16777216 % 256) + a / 65536 % 256) + (256 * (a / 256 % 256) + a % 256)) carries.destination ∙ four-octets s.destination h.fits.destination in
    let before : pseudo_of p ≡ write.pseudo_of s = λ i. pseudo_sum (source i) (destination i) (carries.protocol i) ((ap length e ∙ count) i) in
    let read : Ok (write.header_of s) ≡ tcp_header.parsed Must (pseudo_of p) (ip.payload p) = sym (back.parsed h.legal h.formed Must) ∙ (λ i. tcp_header.parsed Must (sym before i) (sym e i)) in
    let options : tcp.options (ip.payload p) ≡ s.options = ap tcp.options e ∙ back.options in
    let plain : IsPlainTcp p = tcp-sound p (write.header_of s) read (unmarked s _ h (ap length e ∙ count)) (ap (cleaned (tcp.has_syn s.flags)) options ∙ h.kept ∙ sym options) in
    let fields : fields_of p ≡ s = λ i.
    record {
      source = source i;
      destination = destination i;
      source_port = (ap tcp.source_port e ∙ ap (λ (t : Tcp). t.sport) back.header) i;
      destination_port = (ap tcp.destination_port e ∙ ap (λ (t : Tcp). t.dport) back.header) i;
      sequence = (ap tcp.sequence e ∙ ap (λ (t : Tcp). t.seq) back.header) i;
      acknowledgment = (ap tcp.acknowledgment e ∙ ap (λ (t : Tcp). t.ack) back.header) i;
      flags = (ap tcp.flags e) i;
      window = (ap tcp.window e ∙ ap (λ (t : Tcp). t.window) back.header) i;
      options = options i;
      octets = (ap tcp.payload e ∙ back.octets) i;
    } in
    record {
      plain = λ hops reaches. record { header = header; passes = reaches; message = record { protocol = inr (inl carries.protocol); icmp = λ f. absurd (omega (arith, carries.protocol, f)); tcp = λ f. plain; udp = λ f. absurd (omega (arith, carries.protocol, f)) } };
      segment = ap (λ n. if n == 6 then Some (fields_of p) else None) carries.protocol ∙ ap Some fields;
    }
