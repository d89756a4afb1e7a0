-- A frame and the packet in it: its link octets, which alone say what it carries, their sizes, the
-- kind of the frame, and the packet's header and payload.
use Rattle.std.proofs.Common.{◌≡◌, ℕ, ◌+◌, ◌*◌, ◌<◌, ◌≤◌, ◌==◌, nat_lt, Bool, true, false, cond, List, ◌++◌, length, take, drop, get_or, refl, sym, ap, ap₂, ◌∙◌, arith, length-append, length-drop, length-take, length-take-le, take-append-drop, get_or-take, ◌-◌, ◌&&◌, ◌||◌, min, Option, subst, inr, append_assoc, not, Some, None, nat_le, [], ◌∷◌, inl}
use Rattle.std.proofs.lemmas.Bool.Decides.{nat_tests}
use Rattle.std.proofs.Math.ListN.{get_or-append}
use Rattle.std.proofs.Math.Seq.{drop-append_seam, take-length}
use Rattle.wire_base.specs.declared.address.Link.{Link}
use Rattle.wire_base.specs.declared.address.Link.TheVariants.{Ethernet, Raw}
use Rattle.wire_base.specs.declared.frame.FrameKind.TheVariants.{Ip, Arp, Short, Other}
use Rattle.wire_base.specs.Frames.{ethertype, kind_of, link_octets, packet_in}
use Rattle.ip_rules.specs.RuleRows.{l_short, carries_ip, carries_arp, holds_ip, holds_in, ip_drop_rows, packet_drop_rows, whole_fix_rows, piece_fix_rows, ip_dropped_by, ip_fixes, l_snap, l_type}
use Rattle.std.specs.List.{AllByRecursion}
use Rattle.std.proofs.lemmas.Bool.{ltb-false, not-false, or_parts, leb-true}
use Rattle.wire_base.specs.declared.address.Side.{Side}
use Rattle.wire_base.specs.Ipv4 as ip
use Rattle.pcap_file.specs.Records.{Packet as Record}
use Rattle.norm_settings.specs.SettingValues.{PlainSettings}
use Rattle.ip_rules.specs.JudgedRecord.{IsKept}
use Rattle.ip_rules.proofs.Lists.{none_found, none_named, two_below}
use Rattle.ip_rules.specs.Datagrams.{Packet, frame_of, frames_of, AreOctets, Datagram, IsPacketOf, anew, as_read}
use Rattle.wire_base.specs.Plain.{IsPlainHeader}
use Rattle.wire_base.specs.Segments.{Written}
use Rattle.pcap_file.specs.Records as records
use Rattle.rule_book.specs.declared.rule.Rule.{Rule}
use Rattle.rule_book.specs.declared.rule.Rule.TheVariants as rules
use Rattle.tcp_norm.specs.EmittedPackets.{packet_by}
use Rattle.tcp_norm.specs.SegmentPackets.{IsSegment}
use Rattle.tcp_norm.proofs.Lists.{fewer}
use Rattle.ip_rules.proofs.Datagrams.{packet_octets}
use Rattle.norm_engine.specs.OutgoingFrames.{IsWholePacket, CarriesWhole, GoesOut}

-- The link octets of a frame: the packet follows them.

-- the sizes of a frame's parts

pub split_frame : (link : Link) (frame : List ℕ) → link_octets link frame ++ packet_in link frame ≡ frame
split_frame Ethernet frame = take-append-drop 14 frame
split_frame Raw frame = refl

pub frame_few : (link : Link) (frame : List ℕ) → length frame ≤ 14 + length (packet_in link frame)
frame_few Raw frame = omega arith
frame_few Ethernet frame = let size = length-drop 14 frame in omega (arith, size)

pub link_few : (link : Link) (frame : List ℕ) → length (link_octets link frame) ≤ 14
link_few Raw frame = omega arith
link_few Ethernet frame = let size = length-take 14 frame in omega (arith, size)

-- what follows the link octets of a frame that has them whole

whole_link : (frame : List ℕ) → l_short Ethernet frame ≡ false → 14 ≤ length frame
whole_link frame long = grind (arith, nat_tests)

pub packet_behind : (link : Link) (frame rest : List ℕ) → l_short link frame ≡ false → packet_in link (link_octets link frame ++ rest) ≡ rest
packet_behind Ethernet frame rest long =
    ap (λ n. drop n (take 14 frame ++ rest)) (sym (length-take-le 14 frame (whole_link frame long))) ∙ drop-append_seam (take 14 frame) rest
packet_behind Raw frame rest long = refl

pub long_behind : (link : Link) (frame rest : List ℕ) → l_short link frame ≡ false → l_short link (link_octets link frame ++ rest) ≡ false
long_behind Raw frame rest long = refl
long_behind Ethernet frame rest long =
    let size = length-append (take 14 frame) rest in
    let first = length-take-le 14 frame (whole_link frame long) in
    grind (arith, nat_tests, size, first)

link_octet : (frame rest : List ℕ) (at : ℕ) → at < 14 → 14 ≤ length frame → get_or (take 14 frame ++ rest) at 0 ≡ get_or frame at 0
link_octet frame rest at lt long =
    let size : length (take 14 frame) ≡ 14 = length-take-le 14 frame long in
    get_or-append (take 14 frame) rest 0 at (omega (arith, size)) ∙ get_or-take 14 frame at 0 lt

pub carries_behind : (link : Link) (frame rest : List ℕ) → l_short link frame ≡ false
    → carries_ip link (link_octets link frame ++ rest) ≡ carries_ip link frame
carries_behind Raw frame rest long = refl
carries_behind Ethernet frame rest long =
    let whole = whole_link frame long in
    ap₂ (λ high low. (256 * high + low) == 2048) (link_octet frame rest 12 (omega arith) whole) (link_octet frame rest 13 (omega arith) whole)

-- what a frame carries

pub kind_ip : (link : Link) (frame : List ℕ) → l_short link frame ≡ false → carries_ip link frame ≡ true → (at : ℕ) × (kind_of link frame ≡ Ip at)
kind_ip Raw frame long four = (0, refl)
kind_ip Ethernet frame long four = (14, rw (long, four) refl)

pub kind_arp : (link : Link) (frame : List ℕ) → l_short link frame ≡ false → carries_ip link frame ≡ false → carries_arp link frame ≡ true
    → kind_of link frame ≡ Arp
kind_arp Raw frame long none arp = absurd (cc)
kind_arp Ethernet frame long none arp = rw (long, none, arp) refl

no_ip : (short four arp : Bool) → (cond short Short (cond four (Ip 14) (cond arp Arp Other))) ≡ Arp → four ≡ false
no_ip true four arp kind = absurd (cc)
no_ip false true arp kind = absurd (cc)
no_ip false false arp kind = refl

pub arp_kind : (link : Link) (frame : List ℕ) → kind_of link frame ≡ Arp → carries_ip link frame ≡ false
arp_kind Raw frame kind = absurd (cc)
arp_kind Ethernet frame kind = no_ip (nat_lt (length frame) 14) (ethertype frame == 2048) (ethertype frame == 2054) kind

only_ip : (short four arp : Bool) (at : ℕ) → (cond short Short (cond four (Ip 14) (cond arp Arp Other))) ≡ Ip at → four ≡ true
only_ip true four arp at kind = absurd (cc)
only_ip false true arp at kind = refl
only_ip false false true at kind = absurd (cc)
only_ip false false false at kind = absurd (cc)

pub ip_kind : (link : Link) (frame : List ℕ) (at : ℕ) → kind_of link frame ≡ Ip at → carries_ip link frame ≡ true
ip_kind Raw frame at kind = refl
ip_kind Ethernet frame at kind = only_ip (nat_lt (length frame) 14) (ethertype frame == 2048) (ethertype frame == 2054) at kind

-- The packet of a record that no rule drops: its header and payload fit its frame, and few rules
-- rewrite it.

-- rules that do not hold

pub carried_fails : (carried row : Bool) → (carried && row) ≡ false → carried ≡ true → row ≡ false
carried_fails true row h c = h
carried_fails false row h c = absurd (cc)

-- the header of a packet that no rule drops, and its protocol
pub record IsSized (p : List ℕ) : Type 0 where
  pub least : 20 ≤ ip.header_length p
  pub order : ip.header_length p ≤ ip.total_length p
  pub inside : ip.total_length p ≤ length p
  pub known : ((ip.protocol p == 1) || (ip.protocol p == 6) || (ip.protocol p == 17)) ≡ true

packet_rows : (settings : PlainSettings) (link : Link) (r : Record) → IsKept settings link r → AllByRecursion (λ rule. holds_in settings r.side (packet_in link r.octets) rule ≡ false) packet_drop_rows
unfolding ip_dropped_by
packet_rows settings link r kept =
    subst (λ b. AllByRecursion (λ rule. (b && holds_in settings r.side (packet_in link r.octets) rule) ≡ false) packet_drop_rows) kept.carries
    (none_found (holds_ip settings link r) ip_drop_rows kept.undropped).1.1.1

sized : (settings : PlainSettings) (given : Option Side) (p : List ℕ) → AllByRecursion (λ rule. holds_in settings given p rule ≡ false) packet_drop_rows → IsSized p
sized settings given p rows =
    let header = or_parts (nat_lt (ip.header_length p) 20) (nat_lt (length p) (ip.header_length p)) rows.1.1.0 in
    let total = or_parts (nat_lt (ip.total_length p) (ip.header_length p)) (nat_lt (length p) (ip.total_length p)) rows.1.1.1.0 in
    record {
      least = ltb-false (ip.header_length p) 20 header.0;
      order = ltb-false (ip.total_length p) (ip.header_length p) total.0;
      inside = ltb-false (length p) (ip.total_length p) total.1;
      known = not-false _ rows.1.1.1.1.1.1.1.1.1.1.0;
    }

-- the packet of a record that is kept
pub kept_packet : (settings : PlainSettings) (link : Link) (r : Record) → IsKept settings link r → IsSized (packet_in link r.octets)
kept_packet settings link r kept = sized settings r.side (packet_in link r.octets) (packet_rows settings link r kept)

pub payload_fits : (p : List ℕ) → IsSized p → ip.total_length p < 65536 → length (ip.payload p) ≤ 65515
payload_fits p s small =
    let size : length (ip.payload p) ≡ min (ip.total_length p) (length p) - ip.header_length p =
    length-drop (ip.header_length p) (take (ip.total_length p) p) ∙ ap (λ n. n - ip.header_length p) (length-take (ip.total_length p) p) in
    let least = s.least in
    omega (arith, size, least)

-- a packet with no octets after its total length is its header and its payload, and its frame is
-- short

no_trailer : (settings : PlainSettings) (link : Link) (r : Record) → IsKept settings link r → ip_fixes settings link r whole_fix_rows ≡ [] → ip.has_trailer (packet_in link r.octets) ≡ false
unfolding ip_fixes
no_trailer settings link r kept none =
    carried_fails (carries_ip link r.octets) (ip.has_trailer (packet_in link r.octets)) (none_named (holds_ip settings link r) whole_fix_rows none).0 kept.carries

split_packet : (p : List ℕ) → ip.total_length p ≡ length p → ip.header p ++ ip.payload p ≡ p
split_packet p whole =
    let h = ip.header_length p in
    ap (λ xs. take h p ++ drop h xs) (ap (λ n. take n p) whole ∙ take-length p) ∙ take-append-drop h p

pub whole_frame : (settings : PlainSettings) (link : Link) (r : Record) → IsKept settings link r → ip_fixes settings link r whole_fix_rows ≡ []
    → r.octets ≡ link_octets link r.octets ++ ip.header (packet_in link r.octets) ++ ip.payload (packet_in link r.octets)
whole_frame settings link r kept none =
    let p = packet_in link r.octets in
    let s = kept_packet settings link r kept in
    let end = ltb-false (ip.total_length p) (length p) (no_trailer settings link r kept none) in
    let inside = s.inside in
    let whole : ip.total_length p ≡ length p = omega (arith, end, inside) in
    sym (append_assoc (link_octets link r.octets) (ip.header p) (ip.payload p) ∙ (ap (λ xs. link_octets link r.octets ++ xs) (split_packet p whole) ∙ split_frame link r.octets))

frame_is_short : (link : Link) (octets : List ℕ) → length (packet_in link octets) ≤ 65535 → length octets ≤ 65549
frame_is_short link octets h = let size = frame_few link octets in omega (arith, size)

pub short_frame : (settings : PlainSettings) (link : Link) (r : Record) → IsKept settings link r → ip.total_length (packet_in link r.octets) < 65536
    → ip_fixes settings link r whole_fix_rows ≡ [] → length r.octets ≤ 65549
short_frame settings link r kept small none =
    let p = packet_in link r.octets in
    let end = ltb-false (ip.total_length p) (length p) (no_trailer settings link r kept none) in
    frame_is_short link r.octets (omega (arith, end))

pub few_fixes : (settings : PlainSettings) (link : Link) (r : Record) → length (ip_fixes settings link r whole_fix_rows) ≤ 4
unfolding ip_fixes
few_fixes settings link r = fewer (holds_ip settings link r) whole_fix_rows

pub few_parts : (settings : PlainSettings) (link : Link) (r : Record) → length (ip_fixes settings link r piece_fix_rows) ≤ 3
unfolding ip_fixes
few_parts settings link r = fewer (holds_ip settings link r) piece_fix_rows

-- A frame of link octets and a packet: its kind, and the size of the packet in it.

-- the octets of a packet that is written
abbrev pub whole : Packet → List ℕ
whole p = p.header ++ p.octets

-- a packet after these link octets satisfies this
pub packet_goes : (link : Link) (frame : List ℕ) (p : Packet) → l_short link frame ≡ false → carries_ip link frame ≡ true → IsWholePacket (whole p) → CarriesWhole link (frame_of (link_octets link frame) p)
packet_goes link frame p long four is =
    let split : frame_of (link_octets link frame) p ≡ link_octets link frame ++ whole p = append_assoc (link_octets link frame) p.header p.octets in
    let kind = kind_ip link (link_octets link frame ++ whole p) (long_behind link frame (whole p) long) (carries_behind link frame (whole p) long ∙ four) in
    subst (CarriesWhole link) (sym split) (kind.0, kind.1, subst IsWholePacket (sym (packet_behind link frame (whole p) long)) is)

packet_size : (link : Link) (frame : List ℕ) (p : Packet) → l_short link frame ≡ false → length (packet_in link (frame_of (link_octets link frame) p)) ≡ length (whole p)
packet_size link frame p long =
    ap (λ f. length (packet_in link f)) (append_assoc (link_octets link frame) p.header p.octets) ∙ ap length (packet_behind link frame (whole p) long)

pub frames_go : (link : Link) (frame : List ℕ) (packets : List Packet) → l_short link frame ≡ false → carries_ip link frame ≡ true → AllByRecursion (λ p. IsWholePacket (whole p)) packets
    → AllByRecursion (CarriesWhole link) (frames_of (link_octets link frame) packets)
frames_go link frame [] long four all = tt
frames_go link frame (p ∷ ps) long four all = (packet_goes link frame p long four all.0, frames_go link frame ps long four all.1)

pub go_out : (link : Link) (frames : List (List ℕ)) → AllByRecursion (CarriesWhole link) frames → AllByRecursion (GoesOut link) frames
go_out link [] all = tt
go_out link (frame ∷ frames) all = (inr all.0, go_out link frames all.1)

frames_sized : (link : Link) (frame : List ℕ) (packets : List Packet) → l_short link frame ≡ false → AllByRecursion (λ p. length (whole p) ≡ 40) packets
    → AllByRecursion (λ f. length (packet_in link f) ≡ 40) (frames_of (link_octets link frame) packets)
frames_sized link frame [] long all = tt
frames_sized link frame (p ∷ ps) long all = (packet_size link frame p long ∙ all.0, frames_sized link frame ps long all.1)

-- the frames without the first
pub behind_frames : (link : Link) (frame : List ℕ) (packets : List Packet) → l_short link frame ≡ false → AllByRecursion (λ p. length (whole p) ≡ 40) (drop 1 packets)
    → AllByRecursion (λ f. length (packet_in link f) ≡ 40) (drop 1 (frames_of (link_octets link frame) packets))
behind_frames link frame [] long all = tt
behind_frames link frame (p ∷ ps) long all = frames_sized link frame ps long all

-- How long the frame of a packet is.

-- ---- a frame that is written as it was read

pub rest_none : {A : Type 0} (b : Bool) (x : A) (rest : Option A) → cond b (Some x) rest ≡ None → (b ≡ false) × (rest ≡ None)
rest_none true x rest h = absurd (cc)
rest_none false x rest h = (refl, h)

-- its type is IPv4, or it is ARP and not too long
pub type_kept : (settings : PlainSettings) (link : Link) (r : records.Packet) → ip_dropped_by settings link r ≡ None → l_type link r.octets ≡ false
unfolding ip_dropped_by
type_kept settings link r none =
    (rest_none (l_type link r.octets) rules.LType _ (rest_none (l_short link r.octets) rules.LShort _ (rest_none (l_snap r) rules.LSnap _ none).1).1).0

pub arp_short : (four arp fits : Bool) → not (four || (arp && fits)) ≡ false → four ≡ false → fits ≡ true
arp_short false true fits h none = by fits h
  where
    by : (fits : Bool) → not fits ≡ false → fits ≡ true
    by true h = refl
    by false h = absurd (cc)
arp_short false false fits h none = absurd (cc)
arp_short true arp fits h none = absurd (cc)

arp_is_short : (link : Link) (frame : List ℕ) → kind_of link frame ≡ Arp → l_type link frame ≡ false → length frame ≤ 65549
arp_is_short link frame kind typed =
    leb-true (length frame) 65549 (arp_short (carries_ip link frame) (carries_arp link frame) (nat_le (length frame) 65549) typed (arp_kind link frame kind))

packet_is_short : (p : List ℕ) → AreOctets p → IsPlainHeader p → length p ≤ 65535
packet_is_short p each header = let total = header.total_length in let below = two_below p 2 each in omega (arith, total, below)

pub read_is_short : (link : Link) (frame : List ℕ) → AreOctets frame → l_type link frame ≡ false → GoesOut link frame → length frame ≤ 65549
read_is_short link frame each typed (inl kind) = arp_is_short link frame kind typed
read_is_short link frame each typed (inr (at, kind, whole)) =
    let short = packet_is_short (packet_in link frame) (packet_octets link frame each) whole.header in
    let size = frame_few link frame in
    omega (arith, short, size)

-- the total length has two octets
pub anew_is_short : (settings : PlainSettings) (d : Datagram) (octets : List ℕ) → IsPacketOf settings d (anew settings d octets) → length (whole (anew settings d octets)) ≤ 65535
anew_is_short settings d octets is = let total = is.header.total_length in omega (arith, total)

as_read_is_short : (settings : PlainSettings) (d : Datagram) → length d.octets ≤ 65515 → IsPacketOf settings d (as_read d) → length (whole (as_read d)) ≤ 65535
as_read_is_short settings d short is = let size = length-append d.header d.octets in let long = is.long in omega (arith, size, long, short)

-- with link octets of another frame before it
pub written_is_short : (link : Link) (frame : List ℕ) (p : Packet) → length (whole p) ≤ 65535 → length (frame_of (link_octets link frame) p) ≤ 65549
written_is_short link frame p short =
    let lo = link_octets link frame in
    let few = link_few link frame in
    let one = length-append (lo ++ p.header) p.octets in
    let two = length-append lo p.header in
    let three = length-append p.header p.octets in
    omega (arith, few, one, two, three, short)

-- ---- the packets of a segment

pub own_is_short : (settings : PlainSettings) (ws : List Written) (d : Datagram) → IsSegment settings d → (fixes mended : List Rule)
    → IsPacketOf settings d (packet_by settings ws d fixes mended) → length (whole (packet_by settings ws d fixes mended)) ≤ 65535
own_is_short settings ws d s [] [] is = as_read_is_short settings d s.known.short is
own_is_short settings ws d s [] (rule ∷ more) is = anew_is_short settings d _ is
own_is_short settings ws d s (fix ∷ others) mended is = anew_is_short settings d _ is

pub frames_are_short : (settings : PlainSettings) (link : Link) (frame : List ℕ) (d : Datagram) (packets : List Packet) → AllByRecursion (IsPacketOf settings d) packets
    → AllByRecursion (λ p. IsPacketOf settings d p → length (whole p) ≤ 65535) packets → AllByRecursion (λ f. length f ≤ 65549) (frames_of (link_octets link frame) packets)
frames_are_short settings link frame d [] own short = tt
frames_are_short settings link frame d (p ∷ ps) own short = (written_is_short link frame p (short.0 own.0), frames_are_short settings link frame d ps own.1 short.1)
