-- The judgment of a record follows its rules: one without IPv4, one that is dropped, one with a
-- datagram.
use Rattle.std.proofs.Common.{◌≡◌, ℕ, ◌*◌, ◌%◌, ◌≤◌, ◌<◌, Bool, true, false, cond, ◌&&◌, ◌||◌, ◌==◌, not, nat_lt, nat_le, List, ◌∷◌, ◌++◌, length, Option, Some, None, find, filter, refl, sym, ap, ◌∙◌, subst, arith, option_map, is_none, append-nil, length-append, []}
use Rattle.std.specs.Option.{option_or}
use Rattle.std.proofs.lemmas.Bool.{and_parts, eqb-true, ltb-false}
use Rattle.std.proofs.lemmas.Bool.Decides.{nat_tests}
use Rattle.era_state.proofs.Quantities.{or_none}
use Rattle.tcp_norm.proofs.Lists.{fewer}
use Rattle.wire_base.specs.declared.address.Link.{Link}
use Rattle.wire_base.specs.declared.address.Side.{Side}
use Rattle.wire_base.specs.Frames.{link_octets, packet_in}
use Rattle.wire_base.specs.Ipv4 as ip
use Rattle.icmp_codec.specs.QuotedPacket.{quoted_in}
use Rattle.pcap_file.specs.Records.{Packet as Record}
use Rattle.rule_book.specs.declared.rule.Rule.{Rule}
use Rattle.rule_book.specs.declared.rule.Rule.TheVariants as rules
use Rattle.rule_book.specs.Rules.{datagram_rows, segment_rows}
use Rattle.norm_settings.specs.SettingValues.{PlainSettings}
use Rattle.ip_rules.specs.declared.rows.IpPacket.{IpPacket}
use Rattle.ip_rules.specs.RuleRows.{l_snap, l_short, l_type, carries_ip, carries_arp, side_in, tells_side, holds_ip, holds_in, ip_drop_rows, packet_drop_rows, whole_fix_rows, piece_fix_rows, ip_dropped_by, ip_fixes}
use Rattle.ip_rules.specs.Datagrams.{Datagram, DatagramsAreKnown, AreOctets, IsDatagram, IsKnown, datagram_of, datagram_in, datagram_with}
use Rattle.ip_rules.specs.JudgedRecord.{IsKept, IsRead, where_holds}
use Rattle.ip_rules.proofs.Lists.{none_found}
use Rattle.dgram_rules.specs.RuleRows.{holds_dgram, dgram_dropped_by, u_short, u_sum_out}
use Rattle.ip_rules.proofs.Rules.{arp_is_no_ip}
use Rattle.reassembly.specs.Calls.{Call}
use Rattle.norm_engine.specs.working.DatagramJudgment.{Judged}
use Rattle.norm_engine.specs.working.RecordJudgment.{Judgment, Drop}
use Rattle.norm_engine.specs.RuleRows.{side_of_record, holds_tcp, is_segment}
use Rattle.norm_engine.specs.Fragments.{fragment_in, offering_of, offering_in, holds_offered, joined_in}
use Rattle.norm_engine.specs.Calls.{Past, where_passes, datagram_by}
use Rattle.norm_engine.specs.Trace.{Read, is_quoted_live, named_rows}
use Rattle.norm_engine.specs.working.EngineAnswers.{IsArp, IsWholeJudged, Judges, Follows, HeadIsRead, SegmentIsRead, datagram_row, joined, read_with}
use Rattle.norm_engine.proofs.Items.{found_passes}
use Rattle.norm_engine.proofs.Datagrams.{IsMade, row_of_piece, named_of_piece, fragment_by, made_of}
use Rattle.norm_engine.proofs.Layers.{bare_row, bare_named, datagram_row_is, datagram_named_is, segment_rows_are}
use Rattle.norm_engine.proofs.Frames.{carried_fails, few_fixes, kept_packet, payload_fits, short_frame, whole_frame, arp_short}
use Rattle.norm_engine.specs.working.DatagramJudgment as judged

-- no datagram and no fragment is read of a record that a rule drops; an unfragmented datagram and a
-- fragment exclude each other

abbrev datagram_if : PlainSettings → Link → Record → (row : Option Rule) (carried piece : Bool) → Option Datagram
datagram_if settings link r row carried piece =
    let p = packet_in link r.octets in
    cond (is_none row && (carried && not piece)) (option_map (datagram_of p (ip_fixes settings link r whole_fix_rows)) (side_in settings r.side p)) None

pub kept_as : (settings : PlainSettings) (link : Link) (r : Record) (row : Option Rule) (carried piece : Bool) → ip_dropped_by settings link r ≡ row → carries_ip link r.octets ≡ carried
    → ip.is_fragment (packet_in link r.octets) ≡ piece → datagram_in settings link r ≡ datagram_if settings link r row carried piece
kept_as settings link r row carried piece d c p = λ i. datagram_if settings link r (d i) (c i) (p i)

-- the datagram of a record without fragment is the one that it carries
no_offering : (settings : PlainSettings) (link : Link) (calls : List Call) (r : Record) → fragment_in settings link r ≡ None → offering_in settings link calls r ≡ None
no_offering settings link calls r bare = ap (option_map (offering_of settings calls)) bare

pub unjoined : (settings : PlainSettings) (link : Link) (calls : List Call) (r : Record) → fragment_in settings link r ≡ None → datagram_by settings link calls r ≡ datagram_in settings link r
unjoined settings link calls r bare = ap (λ o. option_or (datagram_in settings link r) (joined_in settings link r o)) (no_offering settings link calls r bare) ∙ or_none (datagram_in settings link r)

-- a record that carries no IPv4

within_by : (octets : ℕ) → nat_le octets 65549 ≡ true → octets ≤ 65549
within_by octets h = grind (arith, nat_tests, h)

type_row : (settings : PlainSettings) (link : Link) (r : Record) → ip_dropped_by settings link r ≡ None → l_type link r.octets ≡ false
unfolding ip_dropped_by
type_row settings link r none = (none_found (holds_ip settings link r) ip_drop_rows none).1.1.0

nothing_fixed : (settings : PlainSettings) (link : Link) (r : Record) → carries_ip link r.octets ≡ false → ip_fixes settings link r piece_fix_rows ≡ []
unfolding ip_fixes
nothing_fixed settings link r none = ap (λ carried. filter (λ rule. carried && holds_in settings r.side (packet_in link r.octets) rule) piece_fix_rows) none

pub arp_passes : (settings : PlainSettings) (link : Link) (past : Past) (r : Record) → ip_dropped_by settings link r ≡ None → carries_arp link r.octets ≡ true
    → IsArp settings link (read_with settings link past r) r
arp_passes settings link past r none arp =
    let no_ip = arp_is_no_ip link r.octets arp in
    let part = ip.is_fragment (packet_in link r.octets) in
    let bare : fragment_in settings link r ≡ None = fragment_by settings link r None false part none no_ip refl in
    let offering = no_offering settings link past.pieces r bare in
    let empty : datagram_by settings link past.pieces r ≡ None = unjoined settings link past.pieces r bare ∙ kept_as settings link r None false part none no_ip refl in
    record {
      datagram = empty;
      segment = ap (where_passes (is_segment settings)) empty;
      undropped = bare_row settings link past r empty ∙ (λ i. option_or (none i) (row_of_piece (offering i)));
      held = ap (λ o. holds_offered o rules.FHeld) offering;
      named = bare_named settings link past r empty ∙ (λ i. nothing_fixed settings link r no_ip i ++ named_of_piece (offering i));
      side = ap (λ carried. cond carried (side_in settings r.side (packet_in link r.octets)) None) no_ip;
      short = within_by (length r.octets) (arp_short (carries_ip link r.octets) (carries_arp link r.octets) (nat_le (length r.octets) 65549) (type_row settings link r none) no_ip);
    }

-- a record that a rule on the link, the header or the protocol drops

abbrev ip_row : (carried snap short other : Bool) → PlainSettings → (given : Option Side) → List ℕ → Option Rule
ip_row carried snap short other settings given p =
    cond snap (Some rules.LSnap) (cond short (Some rules.LShort) (cond other (Some rules.LType) (find (λ rule. carried && holds_in settings given p rule) packet_drop_rows)))

ip_row_is : (settings : PlainSettings) (link : Link) (r : Record)
    → ip_dropped_by settings link r ≡ ip_row (carries_ip link r.octets) (l_snap r) (l_short link r.octets) (l_type link r.octets) settings r.side (packet_in link r.octets)
unfolding ip_dropped_by
ip_row_is settings link r = refl

early : (snap short other : Bool) (settings : PlainSettings) (given : Option Side) (p : List ℕ) (rule : Rule) → ip_row false snap short other settings given p ≡ Some rule → tells_side rule ≡ false
early true short other settings given p rule h = let is : rule ≡ rules.LSnap = cc in ap tells_side is
early false true other settings given p rule h = let is : rule ≡ rules.LShort = cc in ap tells_side is
early false false true settings given p rule h = let is : rule ≡ rules.LType = cc in ap tells_side is
early false false false settings given p rule h = absurd (cc)

sides_by : (carried : Bool) (settings : PlainSettings) (link : Link) (r : Record) (rule : Rule) → carries_ip link r.octets ≡ carried → ip_dropped_by settings link r ≡ Some rule
    → cond (tells_side rule) (side_in settings r.side (packet_in link r.octets)) None ≡ cond (tells_side rule) (side_of_record settings link r) None
sides_by true settings link r rule c h = sym (ap (λ b. cond (tells_side rule) (cond b (side_in settings r.side (packet_in link r.octets)) None) None) c)
sides_by false settings link r rule c h =
    let untold = early (l_snap r) (l_short link r.octets) (l_type link r.octets) settings r.side (packet_in link r.octets) rule
    (ap (λ b. ip_row b (l_snap r) (l_short link r.octets) (l_type link r.octets) settings r.side (packet_in link r.octets)) (sym c) ∙ sym (ip_row_is settings link r) ∙ h) in
    ap (λ t. cond t (side_in settings r.side (packet_in link r.octets)) None) untold ∙ sym (ap (λ t. cond t (side_of_record settings link r) None) untold)

pub row_drops : (settings : PlainSettings) (link : Link) (past : Past) (r : Record) (side : Option Side) (rule : Rule) → ip_dropped_by settings link r ≡ Some rule
    → side ≡ cond (tells_side rule) (side_in settings r.side (packet_in link r.octets)) None → Judges settings link (read_with settings link past r) r (Drop side rule)
row_drops settings link past r side rule h told =
    let carried = carries_ip link r.octets in
    let part = ip.is_fragment (packet_in link r.octets) in
    let bare : fragment_in settings link r ≡ None = fragment_by settings link r (Some rule) carried part h refl refl in
    let empty : datagram_by settings link past.pieces r ≡ None = unjoined settings link past.pieces r bare ∙ kept_as settings link r (Some rule) carried part h refl refl in
    record {
      segment = ap (where_passes (is_segment settings)) empty;
      dropped = bare_row settings link past r empty ∙ ap (λ (d : Option Rule). option_or d (row_of_piece (read_with settings link past r).piece)) h;
      side = told ∙ sides_by (carries_ip link r.octets) settings link r rule refl h;
    }

-- a complete datagram

pub not_nil : (xs : List Rule) (rule : Rule) → xs ++ rule ∷ [] ≡ [] → ⊥
not_nil [] rule h = absurd (cc)
not_nil (x ∷ xs) rule h = absurd (cc)

-- the side is known at each rule on a datagram

either : {A : Type 0} (P : A → Type 0) (x : A) (one other : Option A) → (one ≡ Some x → P x) → (other ≡ Some x → P x) → option_or one other ≡ Some x → P x
either P x None other f g h = g h
either P x (Some y) other f g h = f h

side_is_told : (settings : PlainSettings) (live : Bool) (d : Datagram) (rule : Rule) → datagram_row settings live d ≡ Some rule → tells_side rule ≡ true
unfolding dgram_dropped_by
side_is_told settings live d rule h =
    either (λ x. tells_side x ≡ true) rule (find (holds_dgram settings live d) datagram_rows) (find (holds_tcp settings d) segment_rows)
    (found_passes tells_side (holds_dgram settings live d) datagram_rows rule refl)
    (found_passes tells_side (holds_tcp settings d) segment_rows rule refl)
    h

-- a message whose checksum is corrected has a complete header

first_none : (one other : Option Rule) → option_or one other ≡ None → one ≡ None
first_none None other h = refl
first_none (Some rule) other h = absurd (cc)

mended_is_whole : (settings : PlainSettings) (live : Bool) (d : Datagram) → datagram_row settings live d ≡ None → holds_dgram settings live d rules.USumOut ≡ true → 8 ≤ length d.octets
unfolding dgram_dropped_by
mended_is_whole settings live d none mended =
    let rows = none_found (holds_dgram settings live d) datagram_rows (first_none (find (holds_dgram settings live d) datagram_rows) (find (holds_tcp settings d) segment_rows) none) in
    ltb-false (length d.octets) 8 (carried_fails (d.head.protocol == 17) (u_short d) rows.0 (and_parts (d.head.protocol == 17) (u_sum_out settings d) mended).0)

-- the header of a datagram judged a segment was read
pub head_read : (packet : IpPacket) (answer : Judged) → HeadIsRead (datagram_with [] packet) answer → SegmentIsRead (joined packet answer)
head_read packet judged.Pass is = tt
head_read packet judged.Mend is = tt
head_read packet (judged.Drop rule) is = tt
head_read packet (judged.Segment head) is = is

-- a packet that represents the datagram which its record makes
pub record StandsIn (settings : PlainSettings) (link : Link) (r : Record) (d : Datagram) (packet : IpPacket) : Type 0 where
  pub is : IsDatagram packet (link_octets link r.octets) d
  pub known : IsKnown settings d
  pub record_frame : packet.frame.now ≡ r.octets
  pub fits : length packet.payload.now ≤ 65515
  pub few : length packet.fixes.items ≤ 6
  pub short : packet.fixes.items ≡ [] → length packet.frame.now ≤ 65549

module _ (settings : PlainSettings) (link : Link) (past : Past) (r : Record) (d : Datagram) (packet : IpPacket)
    (made : IsMade settings link (read_with settings link past r) r d) (stands : StandsIn settings link r d packet) where
  abbrev read : Read
  read = read_with settings link past r

  -- the packet is the datagram
  same : datagram_with d.header packet ≡ d
  same = λ i. record { side = sym stands.is.side i; head = sym stands.is.head i; header = d.header; octets = sym stands.is.octets i; fixes = sym stands.is.fixes i }

  told : side_of_record settings link r ≡ Some packet.side
  told = made.told ∙ ap Some stands.is.side

  other : is_segment settings d ≡ false → read.segment ≡ None
  other is = ap (where_passes (is_segment settings)) made.datagram ∙ ap (λ b. cond b (Some d) None) is

  -- the rules that rewrite a datagram that is written
  named : (mend : Bool) → holds_dgram settings false d rules.USumOut ≡ mend → is_segment settings d ≡ false
      → named_rows settings link read r ≡ packet.fixes.items ++ where_holds mend rules.USumOut
  named mend mends is = datagram_named_is settings link past r d made is ∙ (λ i. stands.is.fixes i ++ where_holds (mends i) rules.USumOut)

  by_answer : (answer : Judged) → Follows settings (is_quoted_live past.calls (quoted_in d.octets)) d answer → Judges settings link read r (joined packet answer)
  by_answer (judged.Drop rule) follows = record {
    segment = other follows.0;
    dropped = datagram_row_is settings link past r d made follows.0 ∙ follows.1;
    side = sym (ap (λ t. cond t (side_of_record settings link r) None) (side_is_told settings (is_quoted_live past.calls (quoted_in d.octets)) d rule follows.1) ∙ told);
  }
  by_answer judged.Mend follows = record {
    own = d;
    datagram = made.datagram;
    segment = other follows.0;
    undropped = datagram_row_is settings link past r d made follows.0 ∙ follows.1;
    held = made.held;
    named = named true follows.2 follows.0;
    told = told;
    side = stands.is.side;
    head = stands.is.head;
    octets = stands.is.octets;
    frame = stands.record_frame;
    mends = sym follows.2;
    whole = λ _. subst (λ xs. 8 ≤ length xs) stands.is.octets (mended_is_whole settings (is_quoted_live past.calls (quoted_in d.octets)) d follows.1 follows.2);
    fits = stands.fits;
    short = λ none. absurd (not_nil packet.fixes.items rules.USumOut none);
  }
  by_answer judged.Pass follows = record {
    own = d;
    datagram = made.datagram;
    segment = other follows.0;
    undropped = datagram_row_is settings link past r d made follows.0 ∙ follows.1;
    held = made.held;
    named = named false follows.2 follows.0 ∙ append-nil packet.fixes.items;
    told = told;
    side = stands.is.side;
    head = stands.is.head;
    octets = stands.is.octets;
    frame = stands.record_frame;
    mends = sym follows.2;
    whole = λ no. absurd (cc);
    fits = stands.fits;
    short = stands.short;
  }
  by_answer (judged.Segment head) follows =
      let segment : read.segment ≡ Some d = ap (where_passes (is_segment settings)) made.datagram ∙ ap (λ b. cond b (Some d) None) follows.0 in
      let rows = segment_rows_are settings link past r d segment in
      record {
        own = d;
        segment = segment;
        is = stands.is;
        known = stands.known;
        told = told;
        frame = stands.record_frame;
        protocol = eqb-true d.head.protocol 6 (and_parts (d.head.protocol == 6) (is_none (find (holds_tcp settings d) segment_rows)) follows.0).0;
        held = made.held;
        dropped = rows.dropped;
        noted = rows.noted;
        named = rows.named;
        few = stands.few;
        fits = stands.fits;
        short = stands.short;
      }

  -- the judgment on a packet is that of the rules on its datagram
  pub whole_judged : (judgment : Judgment) → IsWholeJudged settings past.calls d.header packet judgment → Judges settings link read r judgment
  whole_judged judgment w =
      subst (Judges settings link read r) (sym w.is)
      (by_answer w.answer (subst (λ (e : Datagram). Follows settings (is_quoted_live past.calls (quoted_in e.octets)) e w.answer) same w.follows))

-- an unfragmented packet represents the datagram that its record carries

module _ (settings : PlainSettings) (link : Link) (r : Record) (packet : IpPacket)
    (kept : IsKept settings link r) (whole : ip.is_fragment (packet_in link r.octets) ≡ false)
    (read : IsRead settings r.side r.octets (packet_in link r.octets) (ip_fixes settings link r whole_fix_rows) packet)
    (small : ip.total_length (packet_in link r.octets) < 65536) where
  abbrev pub own : Datagram
  own = datagram_of (packet_in link r.octets) (ip_fixes settings link r whole_fix_rows) packet.side

  pub carries : datagram_in settings link r ≡ Some own
  carries =
      kept_as settings link r None true false kept.undropped kept.carries whole
      ∙ ap (option_map (datagram_of (packet_in link r.octets) (ip_fixes settings link r whole_fix_rows))) read.side

  pub few : length packet.fixes.items ≤ 6
  few = subst (λ xs. length xs ≤ 6) (sym read.fixes) (let most = few_fixes settings link r in omega (arith, most))

  pub stands_in : DatagramsAreKnown → AreOctets r.octets → StandsIn settings link r own packet
  stands_in known octets = record {
    is = record {
      side = refl;
      head = sym read.head;
      octets = sym read.payload;
      fixes = sym read.fixes;
      frame = λ none. read.frame ∙ whole_frame settings link r kept (sym read.fixes ∙ none);
    };
    known = known settings link r own octets carries;
    record_frame = read.frame;
    fits = subst (λ xs. length xs ≤ 65515) (sym read.payload) (payload_fits (packet_in link r.octets) (kept_packet settings link r kept) small);
    few = few;
    short = λ none. subst (λ xs. length xs ≤ 65549) (sym read.frame) (short_frame settings link r kept small (sym read.fixes ∙ none));
  }

  pub carried_made : (past : Past) → IsMade settings link (read_with settings link past r) r own
  carried_made past = made_of settings link past r own (ap (λ x. option_or x (joined_in settings link r (offering_in settings link past.pieces r))) carries)

-- a packet that was made of a complete datagram represents it

pub later_part : (more : Bool) (offset : ℕ) → (more || nat_lt 0 offset) ≡ true → more ≡ false → 0 < offset
later_part true offset told last = absurd (cc)
later_part false offset told last = grind (arith, nat_tests, told)

pub offset_fits : (n : ℕ) → 8 * (n % 8192) ≤ 65528
offset_fits n = omega (arith)

pub few_made : (settings : PlainSettings) (link : Link) (r : Record) (low : Bool) → length ((ip_fixes settings link r piece_fix_rows ++ where_holds low rules.ITtl) ++ rules.FDone ∷ []) ≤ 6
unfolding ip_fixes
few_made settings link r low =
    let most = fewer (holds_ip settings link r) piece_fix_rows in
    let all = length-append (filter (holds_ip settings link r) piece_fix_rows ++ where_holds low rules.ITtl) (rules.FDone ∷ []) in
    let sum = length-append (filter (holds_ip settings link r) piece_fix_rows) (where_holds low rules.ITtl) in
    let rest = one low in
    omega (arith, most, all, sum, rest)
  where
    one : (low : Bool) → length (where_holds low rules.ITtl) ≤ 1
    one true = omega arith
    one false = omega arith
