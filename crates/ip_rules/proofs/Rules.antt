-- Which rule applies to a record: on its link, on its packet, and that those of the packet are
-- those of the record.
use Rattle.std.proofs.Common.{◌≡◌, ℕ, ◌-◌, Bool, true, false, not, ◌&&◌, ◌||◌, nat_le, List, length, take, drop, Option, Some, None, refl, sym, ap, ◌∙◌, ◌≤◌, ◌<◌, arith, inl, inr, if◌then◌else◌, ◌==◌, ◌++◌, Result, Ok, Err, is_none, filter, ap₂, find, eqb-true, le-leb}
use Rattle.std.proofs.lemmas.Bool.Decides.{leb_tells}
use Rattle.std.proofs.lemmas.List.{take_rest}
use Rattle.wire_base.specs.declared.address.Link.{Link}
use Rattle.wire_base.specs.declared.address.Link.TheVariants.{Ethernet, Raw}
use Rattle.wire_base.specs.declared.frame.FrameKind.{FrameKind}
use Rattle.wire_base.specs.declared.frame.FrameKind.TheVariants as kinds
use Rattle.wire_base.specs.Frames.{kind_of, packet_in, ethertype}
use Rattle.pcap_file.specs.Records.{Packet}
use Rattle.rule_book.specs.declared.rule.Rule.{Rule}
use Rattle.rule_book.specs.declared.rule.Rule.TheVariants as rules
use Rattle.wire_base.specs.ParseResults.{value_or_fault}
use Rattle.wire_base.specs.declared.address.Side.{Side}
use Rattle.wire_base.specs.Ipv4 as ip
use Rattle.ipv4_codec.specs.declared.header.Ipv4.{Ipv4}
use Rattle.ipv4_codec.specs.declared.header.IpFault.{IpFault}
use Rattle.ipv4_codec.specs.declared.header.IpFault.TheVariants as faults
use Rattle.ipv4_codec.specs.HeaderFields.{fields_of, fault_of, parsed}
use Rattle.ipv4_codec.specs.OptionFacts.{facts_of}
use Rattle.ipv4_codec.specs.declared.header.OptionFacts.{OptionFacts}
use Rattle.ipv4_codec.specs.declared.header.BadOption.{BadOption}
use Rattle.norm_settings.specs.SettingValues.{PlainSettings}
use Rattle.norm_settings.specs.Side.{side}
use Rattle.ip_rules.specs.RuleRows.{l_snap, carries_ip, carries_arp, side_in, is_inward, i_src, i_dst, tells_side, i_ttl, piece_fix_rows, whole_fix_rows, i_trail, i_opt, i_res, i_opt_bad, i_route, p_proto, l_short, l_type, holds_in, packet_drop_rows, ip_dropped_by, ip_fixes}
use Rattle.ip_rules.specs.working.LayerResults.{link_row, rule_of, side_or_row, content_row, packet_row, packet_fixes, header_fixes, IsJudgedIn}
use Rattle.ip_rules.specs.JudgedRecord.{where_holds, IsRead, IsJudged}
use Rattle.ip_rules.specs.declared.rows.IpPacket.{IpPacket}
use Rattle.ip_rules.specs.declared.rows.IpJudged.{IpJudged}
use Rattle.ip_rules.specs.declared.rows.IpJudged.TheVariants.{Arp, Drop, Piece, Whole}

-- The rules on the link, by the kind of packet that the frame carries.

abbrev kind_by : (short ip arp : Bool) → FrameKind
kind_by short ip arp = if short then kinds.Short else if ip then kinds.Ip 14 else if arp then kinds.Arp else kinds.Other

abbrev row_by : (snap short ip arp fits : Bool) → Option Rule
row_by snap short ip arp fits =
    if snap then Some rules.LSnap else if short then Some rules.LShort else if not (ip || (arp && fits)) then Some rules.LType else None

pub snapped : (link : Link) (r : Packet) → l_snap r ≡ true → link_row link r ≡ Some rules.LSnap
unfolding link_row
snapped link r h = rw h refl

short_by : (snap short ip arp fits : Bool) → snap ≡ false → kind_by short ip arp ≡ kinds.Short → row_by snap short ip arp fits ≡ Some rules.LShort
short_by true short ip arp fits a b = absurd (cc)
short_by false true ip arp fits a b = refl
short_by false false true arp fits a b = absurd (cc)
short_by false false false true fits a b = absurd (cc)
short_by false false false false fits a b = absurd (cc)

pub is_short : (link : Link) (r : Packet) → l_snap r ≡ false → kind_of link r.octets ≡ kinds.Short → link_row link r ≡ Some rules.LShort
unfolding link_row
is_short Raw r a b = absurd (cc)
is_short Ethernet r a b = short_by _ _ _ _ _ a b

other_by : (snap short ip arp fits : Bool) → snap ≡ false → kind_by short ip arp ≡ kinds.Other → row_by snap short ip arp fits ≡ Some rules.LType
other_by true short ip arp fits a b = absurd (cc)
other_by false true ip arp fits a b = absurd (cc)
other_by false false true arp fits a b = absurd (cc)
other_by false false false true fits a b = absurd (cc)
other_by false false false false fits a b = refl

pub is_other : (link : Link) (r : Packet) → l_snap r ≡ false → kind_of link r.octets ≡ kinds.Other → link_row link r ≡ Some rules.LType
unfolding link_row
is_other Raw r a b = absurd (cc)
is_other Ethernet r a b = other_by _ _ _ _ _ a b

arp_by : (snap short ip arp fits : Bool) → snap ≡ false → kind_by short ip arp ≡ kinds.Arp → (row_by snap short ip arp fits ≡ (if fits then None else Some rules.LType)) × (arp ≡ true)
arp_by true short ip arp fits a b = absurd (cc)
arp_by false true ip arp fits a b = absurd (cc)
arp_by false false true arp fits a b = absurd (cc)
arp_by false false false false fits a b = absurd (cc)
arp_by false false false true true a b = (refl, refl)
arp_by false false false true false a b = (refl, refl)

arp_row : (link : Link) (r : Packet) → l_snap r ≡ false → kind_of link r.octets ≡ kinds.Arp
    → (link_row link r ≡ (if nat_le (length r.octets) 65549 then None else Some rules.LType)) × (carries_arp link r.octets ≡ true)
unfolding link_row
arp_row Raw r a b = absurd (cc)
arp_row Ethernet r a b = arp_by _ _ _ _ _ a b

pub is_arp : (link : Link) (r : Packet) → l_snap r ≡ false → kind_of link r.octets ≡ kinds.Arp → length r.octets ≤ 65549
    → (link_row link r ≡ None) × (carries_arp link r.octets ≡ true)
is_arp link r a b short =
    let told = arp_row link r a b in
    (told.0 ∙ ap (λ fits. if fits then None else Some rules.LType) (le-leb (length r.octets) 65549 short), told.1)

pub is_long_arp : (link : Link) (r : Packet) → l_snap r ≡ false → kind_of link r.octets ≡ kinds.Arp → 65549 < length r.octets → link_row link r ≡ Some rules.LType
is_long_arp link r a b long =
    let other : nat_le (length r.octets) 65549 ≡ false = elim (leb_tells (length r.octets) 65549) [ inl w ↦ absurd (let short = w.1 in omega arith) | inr w ↦ w.0 ] in
    (arp_row link r a b).0 ∙ ap (λ fits. if fits then None else Some rules.LType) other

ip_by : (snap short ip arp fits : Bool) (at : ℕ) → snap ≡ false → kind_by short ip arp ≡ kinds.Ip at → (row_by snap short ip arp fits ≡ None) × (ip ≡ true) × (at ≡ 14)
ip_by true short ip arp fits at a b = absurd (cc)
ip_by false true ip arp fits at a b = absurd (cc)
ip_by false false true arp fits at a b = (refl, refl, cc)
ip_by false false false true fits at a b = absurd (cc)
ip_by false false false false fits at a b = absurd (cc)

pub is_ip : (link : Link) (r : Packet) (at : ℕ) → l_snap r ≡ false → kind_of link r.octets ≡ kinds.Ip at
    → (link_row link r ≡ None) × (carries_ip link r.octets ≡ true) × (take (length r.octets - at) (drop at r.octets) ≡ packet_in link r.octets)
unfolding link_row
is_ip Raw r at a b = (rw a refl, refl, take_rest r.octets at ∙ (let here : at ≡ 0 = cc in ap (λ n. drop n r.octets) here))
is_ip Ethernet r at a b = let told = ip_by _ _ _ _ (nat_le (length r.octets) 65549) at a b in (told.0, told.1, take_rest r.octets at ∙ ap (λ n. drop n r.octets) told.2)

-- The rules on the packet, group by group.

-- parsing a header returns its fields if it has no fault, else the fault
pub read_is_faultless : (fields head : Ipv4) (fault : Option IpFault) → value_or_fault fields fault ≡ Ok head → fault ≡ None
read_is_faultless fields head None h = refl
read_is_faultless fields head (Some fault) h = absurd (cc)

pub read_is_fields : (fields head : Ipv4) (fault : Option IpFault) → value_or_fault fields fault ≡ Ok head → head ≡ fields
read_is_fields fields head None h = cc
read_is_fields fields head (Some fault) h = absurd (cc)

pub refused_is_fault : (fields : Ipv4) (fault : Option IpFault) (told : IpFault) → value_or_fault fields fault ≡ Err told → fault ≡ Some told
refused_is_fault fields None told h = absurd (cc)
refused_is_fault fields (Some fault) told h = cc

-- the first rule: by the fault of the header, by the addresses, and by the rest
abbrev by_fault : Option IpFault → Option Rule → Option Rule
by_fault (Some fault) rest = Some (rule_of fault)
by_fault None rest = rest

abbrev by_side : Result Side Rule → Option Rule → Option Rule
by_side (Err rule) rest = Some rule
by_side (Ok side) rest = rest

header_first : (short version hlen len sum : Bool) (rest : Option Rule)
    → (if short then Some rules.IShort else if version then Some rules.IVersion else if hlen then Some rules.IHlen else if len then Some rules.ILen else if sum then Some rules.ISum else rest)
    ≡ by_fault (if short then Some faults.Short else if version then Some faults.Version else if hlen then Some faults.HeaderLength else if len then Some faults.Length else if sum then Some faults.Sum else None) rest
header_first true version hlen len sum rest = refl
header_first false true hlen len sum rest = refl
header_first false false true len sum rest = refl
header_first false false false true sum rest = refl
header_first false false false false true rest = refl
header_first false false false false false rest = refl

addresses_next : (src dst : Bool) (told : Option Side) (rest : Option Rule)
    → (if src then Some rules.ISrc else if dst then Some rules.IDst else if is_none told then Some rules.ISide else rest)
    ≡ by_side (if src then Err rules.ISrc else if dst then Err rules.IDst else elim told [ Some side ↦ Ok side | None ↦ Err rules.ISide ]) rest
addresses_next true dst told rest = refl
addresses_next false true told rest = refl
addresses_next false false (Some side) rest = refl
addresses_next false false None rest = refl

by_groups : (settings : PlainSettings) (given : Option Side) (p : List ℕ)
    → packet_row settings given p ≡ by_fault (fault_of p) (by_side (side_or_row settings given (ip.source p) (ip.destination p)) (content_row p))
unfolding packet_row
by_groups settings given p =
    header_first (ip.is_short p) (ip.has_other_version p) (ip.has_bad_header_length p) (ip.has_bad_total_length p) (ip.has_wrong_sum p) _
    ∙ ap (by_fault (fault_of p)) (addresses_next (i_src p) (i_dst p) (side_in settings given p) (content_row p))

-- the side or the rule of a parsed header
abbrev pub addressed : PlainSettings → (given : Option Side) → Ipv4 → Result Side Rule
addressed settings given head = side_or_row settings given head.src.0 head.dst.0

pub faulty_row : (settings : PlainSettings) (given : Option Side) (p : List ℕ) (fault : IpFault) → parsed p ≡ Err fault → packet_row settings given p ≡ Some (rule_of fault)
faulty_row settings given p fault h =
    by_groups settings given p ∙ ap (λ f. by_fault f (by_side (side_or_row settings given (ip.source p) (ip.destination p)) (content_row p))) (refused_is_fault (fields_of p) (fault_of p) fault h)

pub late_row : (settings : PlainSettings) (given : Option Side) (p : List ℕ) (head : Ipv4) (told : Result Side Rule) → parsed p ≡ Ok head → told ≡ addressed settings given head
    → packet_row settings given p ≡ by_side told (content_row p)
late_row settings given p head told read is =
    by_groups settings given p
    ∙ ap (λ f. by_fault f (by_side (side_or_row settings given (ip.source p) (ip.destination p)) (content_row p))) (read_is_faultless (fields_of p) head (fault_of p) read)
    ∙ ap (λ s. by_side s (content_row p)) (sym (is ∙ ap (addressed settings given) (read_is_fields (fields_of p) head (fault_of p) read)))

-- if no rule on addresses holds, the side is that of the packet
side_by : (src dst : Bool) (told : Option Side) (side : Side)
    → (if src then Err rules.ISrc else if dst then Err rules.IDst else elim told [ Some side ↦ Ok side | None ↦ Err rules.ISide ]) ≡ Ok side → told ≡ Some side
side_by true dst told side h = absurd (cc)
side_by false true told side h = absurd (cc)
side_by false false None side h = absurd (cc)
side_by false false (Some other) side h = cc

pub side_told : (settings : PlainSettings) (given : Option Side) (p : List ℕ) (head : Ipv4) (side : Side) → parsed p ≡ Ok head → Ok side ≡ addressed settings given head → side_in settings given p ≡ Some side
side_told settings given p head side read is =
    side_by _ _ _ side (sym (is ∙ ap (addressed settings given) (read_is_fields (fields_of p) head (fault_of p) read)))

-- the side is reported by the rules on options and protocol, and by none before
pub fault_is_early : (fault : IpFault) → tells_side (rule_of fault) ≡ false
fault_is_early faults.Short = refl
fault_is_early faults.Version = refl
fault_is_early faults.HeaderLength = refl
fault_is_early faults.Length = refl
fault_is_early faults.Sum = refl

address_by : (src dst : Bool) (told : Option Side) (rule : Rule)
    → (if src then Err rules.ISrc else if dst then Err rules.IDst else elim told [ Some side ↦ Ok side | None ↦ Err rules.ISide ]) ≡ Err rule → tells_side rule ≡ false
address_by true dst told rule h = let is : rule ≡ rules.ISrc = cc in ap tells_side is
address_by false true told rule h = let is : rule ≡ rules.IDst = cc in ap tells_side is
address_by false false None rule h = let is : rule ≡ rules.ISide = cc in ap tells_side is
address_by false false (Some side) rule h = absurd (cc)

pub address_is_early : (settings : PlainSettings) (given : Option Side) (head : Ipv4) (rule : Rule) → Err rule ≡ addressed settings given head → tells_side rule ≡ false
address_is_early settings given head rule h = address_by _ _ _ rule (sym h)

content_by : (bad route proto : Bool) (rule : Rule)
    → (if bad then Some rules.IOptBad else if route then Some rules.IRoute else if proto then Some rules.PProto else None) ≡ Some rule → tells_side rule ≡ true
content_by true route proto rule h = let is : rule ≡ rules.IOptBad = cc in ap tells_side is
content_by false true proto rule h = let is : rule ≡ rules.IRoute = cc in ap tells_side is
content_by false false true rule h = let is : rule ≡ rules.PProto = cc in ap tells_side is
content_by false false false rule h = absurd (cc)

pub content_is_late : (p : List ℕ) (rule : Rule) → content_row p ≡ Some rule → tells_side rule ≡ true
content_is_late p rule h = content_by (i_opt_bad p) (i_route p) (p_proto p) rule h

-- the rules on options and protocol, by the result of parsing the options
bad_by : (formed : Bool) (facts : OptionFacts) (one other : BadOption) → (if formed then Ok facts else Err one) ≡ Err other → formed ≡ false
bad_by true facts one other h = absurd (cc)
bad_by false facts one other h = refl

formed_by : (formed : Bool) (facts other : OptionFacts) (bad : BadOption) → (if formed then Ok facts else Err bad) ≡ Ok other → (formed ≡ true) × (other ≡ facts)
formed_by true facts other bad h = (refl, cc)
formed_by false facts other bad h = absurd (cc)

abbrev by_options : (formed route proto : Bool) → Option Rule
by_options formed route proto = if not formed then Some rules.IOptBad else if route then Some rules.IRoute else if proto then Some rules.PProto else None

pub bad_options : (p : List ℕ) (bad : BadOption) → facts_of (ip.options p) ≡ Err bad → Some rules.IOptBad ≡ content_row p
bad_options p bad h = sym (ap (λ formed. by_options formed (i_route p) (p_proto p)) (bad_by _ _ _ bad h))

pub read_options : (p : List ℕ) (facts : OptionFacts) (known : Bool) → facts_of (ip.options p) ≡ Ok facts
    → known ≡ ((ip.protocol p == 1) || (ip.protocol p == 6) || (ip.protocol p == 17))
    → content_row p ≡ (if facts.route then Some rules.IRoute else if not known then Some rules.PProto else None)
read_options p facts known h is =
    let told = formed_by _ _ facts _ h in
    ap (λ formed. by_options formed (i_route p) (p_proto p)) told.0
    ∙ ap₂ (λ (f : OptionFacts) proto. if f.route then Some rules.IRoute else if not proto then Some rules.PProto else None) (sym told.1) (sym is)

-- the fix rules that hold, one by one
abbrev chosen : (trail opt res ttl : Bool) → Rule → Bool
chosen trail opt res ttl rules.ITrail = trail
chosen trail opt res ttl rules.IOpt = opt
chosen trail opt res ttl rules.IRes = res
chosen trail opt res ttl rules.ITtl = ttl
chosen trail opt res ttl _ = false

piece_by : (trail opt res : Bool)
    → (where_holds trail rules.ITrail ++ where_holds opt rules.IOpt ++ where_holds res rules.IRes) ≡ filter (chosen trail opt res false) piece_fix_rows
piece_by true true true = refl
piece_by true true false = refl
piece_by true false true = refl
piece_by true false false = refl
piece_by false true true = refl
piece_by false true false = refl
piece_by false false true = refl
piece_by false false false = refl

whole_by : (trail opt res ttl : Bool)
    → ((where_holds trail rules.ITrail ++ where_holds opt rules.IOpt ++ where_holds res rules.IRes) ++ where_holds ttl rules.ITtl) ≡ filter (chosen trail opt res ttl) whole_fix_rows
whole_by true true true true = refl
whole_by true true true false = refl
whole_by true true false true = refl
whole_by true true false false = refl
whole_by true false true true = refl
whole_by true false true false = refl
whole_by true false false true = refl
whole_by true false false false = refl
whole_by false true true true = refl
whole_by false true true false = refl
whole_by false true false true = refl
whole_by false true false false = refl
whole_by false false true true = refl
whole_by false false true false = refl
whole_by false false false true = refl
whole_by false false false false = refl

pub piece_fixes : (settings : PlainSettings) (given : Option Side) (p : List ℕ) → header_fixes p ≡ packet_fixes settings given p piece_fix_rows
unfolding packet_fixes
piece_fixes settings given p = piece_by (i_trail p) (i_opt p) (i_res p)

pub whole_fixes : (settings : PlainSettings) (given : Option Side) (p : List ℕ) (head : Ipv4) (told : Side) (low : Bool) → head ≡ fields_of p → side_in settings given p ≡ Some told
    → low ≡ (is_inward (Some told) && nat_le head.ttl settings.hops) → header_fixes p ++ where_holds low rules.ITtl ≡ packet_fixes settings given p whole_fix_rows
unfolding packet_fixes
whole_fixes settings given p head told low fields side is =
    let same : low ≡ i_ttl settings given p =
    is ∙ ap (λ (h : Ipv4). is_inward (Some told) && nat_le h.ttl settings.hops) fields
    ∙ ap (λ s. is_inward s && nat_le (ip.time_to_live p) settings.hops) (sym side) in
    ap (λ ttl. header_fixes p ++ where_holds ttl rules.ITtl) same ∙ whole_by (i_trail p) (i_opt p) (i_res p) (i_ttl settings given p)

-- The rules of a record that carries IPv4 are those of its packet.

-- the first rule on the link, or else the first one on the packet, if there is one
abbrev next : Option Rule → Option Rule → Option Rule
next (Some rule) rest = Some rule
next None rest = rest

next_by : (snap short other : Bool) (rest : Option Rule)
    → (if snap then Some rules.LSnap else if short then Some rules.LShort else if other then Some rules.LType else rest)
    ≡ next (if snap then Some rules.LSnap else if short then Some rules.LShort else if other then Some rules.LType else None) rest
next_by true short other rest = refl
next_by false true other rest = refl
next_by false false true rest = refl
next_by false false false rest = refl

abbrev rows_if : Bool → PlainSettings → (given : Option Side) → List ℕ → Option Rule
rows_if carried settings given p = find (λ rule. carried && holds_in settings given p rule) packet_drop_rows

by_link : (settings : PlainSettings) (link : Link) (r : Packet)
    → ip_dropped_by settings link r ≡ next (link_row link r) (rows_if (carries_ip link r.octets) settings r.side (packet_in link r.octets))
unfolding ip_dropped_by link_row
by_link settings link r = next_by (l_snap r) (l_short link r.octets) (l_type link r.octets) _

pub dropped_early : (settings : PlainSettings) (link : Link) (r : Packet) (rule : Rule) → link_row link r ≡ Some rule → ip_dropped_by settings link r ≡ Some rule
dropped_early settings link r rule h = by_link settings link r ∙ ap (λ first. next first (rows_if (carries_ip link r.octets) settings r.side (packet_in link r.octets))) h

early_by : (snap short other : Bool) (rule : Rule)
    → (if snap then Some rules.LSnap else if short then Some rules.LShort else if other then Some rules.LType else None) ≡ Some rule → tells_side rule ≡ false
early_by true short other rule h = let is : rule ≡ rules.LSnap = cc in ap tells_side is
early_by false true other rule h = let is : rule ≡ rules.LShort = cc in ap tells_side is
early_by false false true rule h = let is : rule ≡ rules.LType = cc in ap tells_side is
early_by false false false rule h = absurd (cc)

pub link_is_early : (link : Link) (r : Packet) (rule : Rule) → link_row link r ≡ Some rule → tells_side rule ≡ false
unfolding link_row
link_is_early link r rule h = early_by (l_snap r) (l_short link r.octets) (l_type link r.octets) rule h

pub arp_is_no_ip : (link : Link) (octets : List ℕ) → carries_arp link octets ≡ true → carries_ip link octets ≡ false
arp_is_no_ip Raw octets h = absurd (cc)
arp_is_no_ip Ethernet octets h =
    let kind : ethertype octets ≡ 2054 = eqb-true (ethertype octets) 2054 h in
    ap (λ n. n == 2048) kind

pub arp_passes : (settings : PlainSettings) (link : Link) (r : Packet) → link_row link r ≡ None → carries_arp link r.octets ≡ true → ip_dropped_by settings link r ≡ None
arp_passes settings link r none arp =
    by_link settings link r
    ∙ ap (λ first. next first (rows_if (carries_ip link r.octets) settings r.side (packet_in link r.octets))) none
    ∙ ap (λ carried. rows_if carried settings r.side (packet_in link r.octets)) (arp_is_no_ip link r.octets arp)

pub row_of_packet : (settings : PlainSettings) (link : Link) (r : Packet) (p : List ℕ) → link_row link r ≡ None → carries_ip link r.octets ≡ true → p ≡ packet_in link r.octets
    → ip_dropped_by settings link r ≡ packet_row settings r.side p
unfolding packet_row
row_of_packet settings link r p none carried here =
    by_link settings link r
    ∙ ap (λ first. next first (rows_if (carries_ip link r.octets) settings r.side (packet_in link r.octets))) none
    ∙ ap (λ carried. rows_if carried settings r.side (packet_in link r.octets)) carried
    ∙ ap (packet_row settings r.side) (sym here)

pub piece_fixes_here : (settings : PlainSettings) (link : Link) (r : Packet) → carries_ip link r.octets ≡ true
    → packet_fixes settings r.side (packet_in link r.octets) piece_fix_rows ≡ ip_fixes settings link r piece_fix_rows
unfolding packet_fixes ip_fixes
piece_fixes_here settings link r carried = sym (ap (λ carried. filter (λ rule. carried && holds_in settings r.side (packet_in link r.octets) rule) piece_fix_rows) carried)

pub whole_fixes_here : (settings : PlainSettings) (link : Link) (r : Packet) → carries_ip link r.octets ≡ true
    → packet_fixes settings r.side (packet_in link r.octets) whole_fix_rows ≡ ip_fixes settings link r whole_fix_rows
unfolding packet_fixes ip_fixes
whole_fixes_here settings link r carried = sym (ap (λ carried. filter (λ rule. carried && holds_in settings r.side (packet_in link r.octets) rule) whole_fix_rows) carried)

-- the packet that was read, with its fix rules in another form
read_here : (settings : PlainSettings) (given : Option Side) (octets p q : List ℕ) (rows others : List Rule) (packet : IpPacket) → p ≡ q → rows ≡ others → IsRead settings given octets p rows packet → IsRead settings given octets q others packet
read_here settings given octets p q rows others packet same named read = rw (same, named) at read

pub judged_here : (settings : PlainSettings) (link : Link) (r : Packet) (p : List ℕ) (answer : IpJudged) → link_row link r ≡ None → carries_ip link r.octets ≡ true
    → p ≡ packet_in link r.octets → IsJudgedIn settings r.side r.octets p answer → IsJudged settings link r answer
judged_here settings link r p Arp none carried here judged = absurd judged
judged_here settings link r p (Drop side rule) none carried here judged =
    (row_of_packet settings link r p none carried here ∙ judged.0, judged.1 ∙ ap (λ q. if tells_side rule then side_in settings r.side q else None) here)
judged_here settings link r p (Piece packet) none carried here judged = (
  record { undropped = row_of_packet settings link r p none carried here ∙ judged.0; carries = carried },
  ap ip.is_fragment (sym here) ∙ judged.1,
  read_here settings r.side r.octets p (packet_in link r.octets) (packet_fixes settings r.side p piece_fix_rows) _ packet here
      (ap (λ q. packet_fixes settings r.side q piece_fix_rows) here ∙ piece_fixes_here settings link r carried) judged.2,
)
judged_here settings link r p (Whole packet) none carried here judged = (
  record { undropped = row_of_packet settings link r p none carried here ∙ judged.0; carries = carried },
  ap ip.is_fragment (sym here) ∙ judged.1,
  read_here settings r.side r.octets p (packet_in link r.octets) (packet_fixes settings r.side p whole_fix_rows) _ packet here
      (ap (λ q. packet_fixes settings r.side q whole_fix_rows) here ∙ whole_fixes_here settings link r carried) judged.2,
)
