-- A record that no rule drops: its datagram, the facts of its header, and a new header before a
-- payload.
use Rattle.std.proofs.Common.{◌≡◌, ◌&&◌, Bool, true, false, cond, not, is_none, Option, Some, None, refl, ℕ, ◌<◌, ◌≤◌, ◌||◌, ◌==◌, List, [], ◌++◌, length, take, drop, sym, ap, ap₂, subst, ◌∙◌, filter, arith, ◌+◌, option_map, nat_lt, nat_le, take-append-drop, length-take-le}
use Rattle.std.specs.List.{AllByRecursion}
use Rattle.std.proofs.Math.Seq.{take-length}
use Rattle.std.proofs.lemmas.Bool.{not-false, eqb-true, ltb-false, or_parts}
use Rattle.std.proofs.lemmas.Bool.Decides.{nat_tests}
use Rattle.wire_base.specs.declared.address.Side.{Side}
use Rattle.wire_base.specs.declared.address.Link.{Link}
use Rattle.wire_base.specs.declared.address.Link.TheVariants.{Ethernet, Raw}
use Rattle.wire_base.specs.declared.address.Side.TheVariants.{Inward, Outward}
use Rattle.wire_base.specs.Ipv4 as ip
use Rattle.wire_base.specs.Plain.{IsPlainHeader}
use Rattle.wire_base.specs.Frames.{packet_in}
use Rattle.pcap_file.specs.Records.{Packet}
use Rattle.ipv4_codec.specs.HeaderFields.{fields_of}
use Rattle.rule_book.specs.declared.rule.Rule.{Rule}
use Rattle.norm_settings.specs.SettingValues.{PlainSettings}
use Rattle.ipv4_codec.proofs.PlainHeaders.{header-plain}
use Rattle.ipv4_codec.specs.WrittenHeader.{plain_header}
use Rattle.wire_base.proofs.Octets.{four-octets}
use Rattle.ip_rules.specs.Datagrams.{Datagram, DatagramsAreKnown, AreOctets, HasSizes, IsKnown, IsPacketOf, goes_in, datagram_of, as_read, AnewIsPacket, head_sent}
use Rattle.ip_rules.specs.RuleRows.{carries_ip, side_in, is_inward, holds_in, holds_ip, packet_drop_rows, ip_drop_rows, whole_fix_rows, ip_dropped_by, ip_fixes}
use Rattle.ip_rules.proofs.Lists.{two_below, four_below, taken, dropped, behind_long, none_found, none_named}

-- The datagram of a record that no rule drops.

-- a datagram was returned: no rule drops the record, it carries a packet that is no fragment, and
-- it has a side
pub record Made {X : Type 0} (dropped : Option X) (carries piece : Bool) (told : Option Side) (make : Side → Datagram) (d : Datagram) : Type 0 where
  pub undropped : dropped ≡ None
  pub carried : carries ≡ true
  pub whole : piece ≡ false
  pub side : Side
  pub told_is : told ≡ Some side
  pub made : make side ≡ d

pub made_by : {X : Type 0} (dropped : Option X) (carries piece : Bool) (told : Option Side) (make : Side → Datagram) (d : Datagram)
    → cond (is_none dropped && (carries && not piece)) (option_map make told) None ≡ Some d → Made dropped carries piece told make d
made_by (Some x) carries piece told make d e = cc
made_by None false piece told make d e = cc
made_by None true true told make d e = cc
made_by None true false None make d e = cc
made_by None true false (Some side) make d e = record { undropped = refl; carried = refl; whole = refl; side = side; told_is = refl; made = cc }

-- The facts of a datagram that no rule on its header drops.

-- the facts of the header of a packet that no rule drops
pub record IsSound (p : List ℕ) : Type 0 where
  pub long : 20 ≤ length p
  pub version : ip.version p ≡ 4
  pub least : 20 ≤ ip.header_length p
  pub inside : ip.header_length p ≤ length p
  pub order : ip.header_length p ≤ ip.total_length p
  pub whole : ip.total_length p ≤ length p
  pub sum : ip.has_wrong_sum p ≡ false
  pub known : ((ip.protocol p == 1) || (ip.protocol p == 6) || (ip.protocol p == 17)) ≡ true

sound : (settings : PlainSettings) (given : Option Side) (p : List ℕ) → AllByRecursion (λ rule. holds_in settings given p rule ≡ false) packet_drop_rows → IsSound p
sound settings given p rows =
    let header = or_parts (nat_lt (ip.header_length p) 20) (nat_lt (length p) (ip.header_length p)) rows.1.1.0 in
    let total = or_parts (nat_lt (ip.total_length p) (ip.header_length p)) (nat_lt (length p) (ip.total_length p)) rows.1.1.1.0 in
    record {
      long = ltb-false (length p) 20 rows.0;
      version = eqb-true (ip.version p) 4 (not-false (ip.version p == 4) rows.1.0);
      least = ltb-false (ip.header_length p) 20 header.0;
      inside = ltb-false (length p) (ip.header_length p) header.1;
      order = ltb-false (ip.total_length p) (ip.header_length p) total.0;
      whole = ltb-false (length p) (ip.total_length p) total.1;
      sum = rows.1.1.1.1.0;
      known = not-false _ rows.1.1.1.1.1.1.1.1.1.1.0;
    }

pub sizes : (p : List ℕ) → AreOctets p → HasSizes (fields_of p)
sizes p each = record {
  tos = each 1;
  ident = two_below p 4 each;
  ttl = each 8;
  protocol = each 9;
  source = four_below p 12 each;
  destination = four_below p 16 each;
}

carried_short : (p : List ℕ) → AreOctets p → IsSound p → length (ip.payload p) ≤ 65515
carried_short p each s =
    let most = behind_long (ip.header_length p) (ip.total_length p) p in
    let total = two_below p 2 each in
    let least = s.least in
    omega (arith, most, total, least)

-- no fix rule applies to the header
pub record IsUnmended (settings : PlainSettings) (given : Option Side) (p : List ℕ) : Type 0 where
  pub trailer : ip.has_trailer p ≡ false
  pub options : ip.has_options p ≡ false
  pub reserved : ip.has_reserved p ≡ false
  pub ttl : (is_inward (side_in settings given p) && nat_le (ip.time_to_live p) settings.hops) ≡ false

unmended : (settings : PlainSettings) (given : Option Side) (p : List ℕ) → filter (holds_in settings given p) whole_fix_rows ≡ [] → IsUnmended settings given p
unmended settings given p none =
    let rows = none_named (holds_in settings given p) whole_fix_rows none in
    record { trailer = rows.0; options = rows.1.0; reserved = rows.1.1.0; ttl = rows.1.1.1.0 }

no_offset : (n : ℕ) → nat_lt 0 n ≡ false → n ≡ 0
no_offset n e = grind (arith, nat_tests, e)

plain : (settings : PlainSettings) (given : Option Side) (p : List ℕ) → IsSound p → IsUnmended settings given p → ip.is_fragment p ≡ false → IsPlainHeader p
plain settings given p s u whole =
    let parts = or_parts (ip.has_more_fragments p) (nat_lt 0 (ip.fragment_offset p)) whole in
    let most = ltb-false 20 (ip.header_length p) u.options in
    let least = s.least in
    let end = ltb-false (ip.total_length p) (length p) u.trailer in
    let inside = s.whole in
    record {
      whole_header = s.long;
      version = s.version;
      header_length = omega (arith, most, least);
      total_length = omega (arith, end, inside);
      reserved = u.reserved;
      more_fragments = parts.0;
      fragment_offset = no_offset (ip.fragment_offset p) parts.1;
      sum = not-false _ s.sum;
    }

pub inward_is : (side : Side) → is_inward (Some side) ≡ goes_in side
inward_is Inward = refl
inward_is Outward = refl

passes : (inward : Bool) (ttl hops : ℕ) → (inward && nat_le ttl hops) ≡ false → inward ≡ true → hops < ttl
passes true ttl hops e is = grind (arith, nat_tests, e)
passes false ttl hops e is = cc

-- a datagram that no rule rewrites is a packet of itself, as it was read
whole_packet : (settings : PlainSettings) (given : Option Side) (p : List ℕ) (fixes : List Rule) (side : Side) → side_in settings given p ≡ Some side → IsSound p → IsUnmended settings given p → IsPlainHeader p
    → IsPacketOf settings (datagram_of p fixes side) (as_read (datagram_of p fixes side))
whole_packet settings given p fixes side told s u h =
    let header : ip.header p ≡ take 20 p = ap (λ n. take n p) h.header_length in
    let carries : ip.payload p ≡ drop 20 p = (λ k. drop (h.header_length k) (take (h.total_length k) p)) ∙ ap (drop 20) (take-length p) in
    let joined : ip.header p ++ ip.payload p ≡ p = ap₂ (λ a b. a ++ b) header carries ∙ take-append-drop 20 p in
    let back = sym joined in
    record {
      long = ap length header ∙ length-take-le 20 p s.long;
      header = subst IsPlainHeader back h;
      carries = ap ip.payload joined;
      protocol = ap ip.protocol joined;
      source = ap ip.source joined;
      destination = ap ip.destination joined;
      passes = λ inward. subst (λ q. settings.hops < ip.time_to_live q) back
          (passes (goes_in side) (ip.time_to_live p) settings.hops (ap (λ b. b && nat_le (ip.time_to_live p) settings.hops) (sym (ap is_inward told ∙ inward_is side)) ∙ u.ttl) inward);
    }

-- the packet of a frame of octets consists of octets
pub packet_octets : (link : Link) (frame : List ℕ) → AreOctets frame → AreOctets (packet_in link frame)
packet_octets Ethernet frame each = dropped 14 frame each
packet_octets Raw frame each = each

-- no rule on the packet drops the record, and its fix rules are those on the packet
undropped_packet : (settings : PlainSettings) (link : Link) (r : Packet) → carries_ip link r.octets ≡ true → ip_dropped_by settings link r ≡ None
    → AllByRecursion (λ rule. holds_in settings r.side (packet_in link r.octets) rule ≡ false) packet_drop_rows
unfolding ip_dropped_by
undropped_packet settings link r carried none =
    subst (λ b. AllByRecursion (λ rule. (b && holds_in settings r.side (packet_in link r.octets) rule) ≡ false) packet_drop_rows) carried
    (none_found (holds_ip settings link r) ip_drop_rows none).1.1.1

unmended_packet : (settings : PlainSettings) (link : Link) (r : Packet) → carries_ip link r.octets ≡ true → ip_fixes settings link r whole_fix_rows ≡ []
    → filter (holds_in settings r.side (packet_in link r.octets)) whole_fix_rows ≡ []
unfolding ip_fixes
unmended_packet settings link r carried none = sym (ap (λ b. filter (λ rule. b && holds_in settings r.side (packet_in link r.octets) rule) whole_fix_rows) carried) ∙ none

pub datagrams_are_known : DatagramsAreKnown
datagrams_are_known settings link r d each taken_up =
    let p = packet_in link r.octets in
    let fixes = ip_fixes settings link r whole_fix_rows in
    let m : Made (ip_dropped_by settings link r) (carries_ip link r.octets) (ip.is_fragment p) (side_in settings r.side p) (datagram_of p fixes) d =
    made_by (ip_dropped_by settings link r) (carries_ip link r.octets) (ip.is_fragment p) (side_in settings r.side p) (datagram_of p fixes) d taken_up in
    let octets = packet_octets link r.octets each in
    let s = sound settings r.side p (undropped_packet settings link r m.carried m.undropped) in
    subst (IsKnown settings) m.made (record {
      sizes = sizes p octets;
      known = s.known;
      short = carried_short p octets s;
      each = dropped (ip.header_length p) (take (ip.total_length p) p) (taken (ip.total_length p) p octets);
      whole = λ none. let u = unmended settings r.side p (unmended_packet settings link r m.carried none) in whole_packet settings r.side p fixes m.side m.told_is s u (plain settings r.side p s u m.whole);
    })

-- A new header before any payload.

-- the payload of a packet with a plain header is the octets after its first 20
pub carried : (p : List ℕ) → IsPlainHeader p → ip.payload p ≡ drop 20 p
carried p h = (λ k. drop (h.header_length k) (take (h.total_length k) p)) ∙ ap (drop 20) (take-length p)

-- the TTL of an inbound packet passes all routers
passes_all : (inward : Bool) (hops ttl : ℕ) → inward ≡ true → hops < cond (inward && nat_le ttl hops) (hops + 1) ttl
passes_all false hops ttl e = cc
passes_all true hops ttl e = low (nat_le ttl hops) refl
  where
    low : (b : Bool) → nat_le ttl hops ≡ b → hops < cond b (hops + 1) ttl
    low true is = omega arith
    low false is = grind (arith, nat_tests)

pub anew_is_packet : AnewIsPacket
anew_is_packet settings d octets hops sizes short =
    let plain = header-plain (head_sent settings d) octets short in
    record {
      long = refl;
      header = plain;
      carries = carried (plain_header (head_sent settings d) (length octets) ++ octets) plain;
      protocol = refl;
      source = four-octets d.head.src.0 sizes.source;
      destination = four-octets d.head.dst.0 sizes.destination;
      passes = λ inward. passes_all (goes_in d.side) settings.hops d.head.ttl inward;
    }
