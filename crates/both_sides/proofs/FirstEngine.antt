-- What the first engine writes for a record that goes inwards, plain packets or ARP, which pass the
-- second's rules on addresses, and the second engine's items for it.
use Rattle.std.proofs.Common.{◌≡◌, ℕ, ◌+◌, ◌≤◌, inl, ◌&&◌, ◌||◌, true, false, List, ◌++◌, Option, Some, None, is_none, refl, sym, ap, ap₂, ◌∙◌, subst, arith, append_assoc, [], ◌∷◌, not, length, take, drop, map, inr, ◌==◌, nat_le, Bool, find, zero, suc}
use Rattle.std.specs.List.{AllByRecursion, list_any}
use Rattle.wire_base.specs.declared.address.Link.{Link}
use Rattle.wire_base.specs.declared.address.Side.{Side}
use Rattle.wire_base.specs.declared.address.Side.TheVariants.{Inward, Outward}
use Rattle.wire_base.specs.Ipv4 as ip
use Rattle.wire_base.specs.Icmp as icmp
use Rattle.wire_base.specs.Plain.{Plain}
use Rattle.wire_base.specs.Frames.{link_octets, packet_in}
use Rattle.pcap_file.specs.Records as records
use Rattle.norm_settings.specs.SettingValues.{PlainSettings}
use Rattle.norm_settings.specs.Side.{side}
use Rattle.ip_rules.specs.RuleRows.{carries_ip, is_bad_destination, is_bad_source, i_dst, i_src, side_in, holds_ip, holds_in, packet_drop_rows, ip_drop_rows, ip_dropped_by, carries_arp}
use Rattle.ip_rules.specs.Datagrams.{Datagram, Packet, IsPacketOf, goes_in, frame_of, frames_of, DatagramsAreKnown, AnewIsPacket, IsKnown, as_read, anew}
use Rattle.ip_rules.proofs.Lists.{none_found}
use Rattle.dgram_rules.specs.RuleRows.{is_error, is_query}
use Rattle.reassembly.specs.Calls as reassembly
use Rattle.norm_engine.specs.Calls.{datagram_by, Past, past_of, where_passes, datagram_after, segment_after}
use Rattle.norm_engine.proofs.Frames.{packet_behind, long_behind, carries_behind, whole_frame, type_kept}
use Rattle.norm_engine.proofs.Datagrams.{carried, joined, IsEither, either_of, fragment_is, made_of, first_none, no_pass}
use Rattle.norm_engine.proofs.Traces.{link_kept, both_of, datagram_known, segment_is}
use Rattle.both_sides.specs.EngineLaws.{is_outward, GoesThrough, InwardGoesThrough, HaveNoSide}
use Rattle.norm_engine.proofs.Messages.{IsMessage, plain_message, message_of, sent_is_read}
use Rattle.both_sides.proofs.SecondEngine.{IsRelayed, Relays, IsUntouched, untouched, IsAddressed}
use Rattle.pcap_file.specs.Records.{Packet as Record}
use Rattle.rule_book.specs.declared.entry.Verdict.TheVariants as verdicts
use Rattle.rule_book.specs.Rules.{touches_payload, segment_rows}
use Rattle.norm_engine.specs.Items.{Item, packets}
use Rattle.norm_engine.specs.Trace.{Lawful, item_of, verdict_by, Read, read_after, is_held, is_quoted_live, dropped_by, named_rows, outcome_of, frames_by, side_by}
use Rattle.norm_engine.specs.CleanRecords.{is_clean, KeepsPayload, CleanIsKept, HasOctets, HaveOctets}
use Rattle.icmp_codec.specs.QuotedPacket.{quoted_in}
use Rattle.rule_book.specs.declared.rule.Rule.{Rule}
use Rattle.rule_book.specs.declared.rule.Rule.TheVariants as rules
use Rattle.tcp_norm.specs.RuleViews.{view_of}
use Rattle.tcp_norm.specs.SegmentPackets.{PacketsAreItsOwn, PacketsArePlain}
use Rattle.tcp_norm.proofs.StreamFrames.{empty_left}
use Rattle.norm_engine.specs.RuleRows.{side_of_record, is_tcp, is_segment, holds_tcp}
use Rattle.norm_engine.specs.working.EngineAnswers.{read_with}
use Rattle.norm_engine.specs.MessageFrames.{octets_sent, frame_by}
use Rattle.norm_engine.proofs.Items.{era_told, sides, segment_frames, plain_frames}
use Rattle.norm_engine.proofs.Layers.{bare_row, datagram_row_is, datagram_named_is, segment_rows_are}
use Rattle.norm_engine.proofs.Judgments.{not_nil}
use Rattle.norm_engine.proofs.ItemFrames.{arp_of, carries_none}
use Rattle.both_sides.specs.Traces.{mirrored, record_of, behind as records_behind, records_of}

-- Packets that the first engine writes inwards, segments and messages.

-- the rules on the addresses of a record that no rule on the header drops
record IsAllowed (settings : PlainSettings) (given : Option Side) (p : List ℕ) : Type 0 where
  source : i_src p ≡ false
  destination : i_dst p ≡ false
  sided : is_none (side_in settings given p) ≡ false

packet_rows : (settings : PlainSettings) (link : Link) (r : records.Packet) → ip_dropped_by settings link r ≡ None → carries_ip link r.octets ≡ true
    → AllByRecursion (λ rule. holds_in settings r.side (packet_in link r.octets) rule ≡ false) packet_drop_rows
unfolding ip_dropped_by
packet_rows settings link r undropped carries =
    subst (λ b. AllByRecursion (λ rule. (b && holds_in settings r.side (packet_in link r.octets) rule) ≡ false) packet_drop_rows) carries
    (none_found (holds_ip settings link r) ip_drop_rows undropped).1.1.1

allowed : (settings : PlainSettings) (link : Link) (r : records.Packet) → ip_dropped_by settings link r ≡ None → carries_ip link r.octets ≡ true
    → IsAllowed settings r.side (packet_in link r.octets)
allowed settings link r undropped carries =
    let rows = packet_rows settings link r undropped carries in
    record { source = rows.1.1.1.1.1.0; destination = rows.1.1.1.1.1.1.0; sided = rows.1.1.1.1.1.1.1.0 }

-- what is known of the datagram of a record that goes inwards
pub record GoesIn (settings : PlainSettings) (link : Link) (r : records.Packet) (d : Datagram) : Type 0 where
  undropped : ip_dropped_by settings link r ≡ None
  carries : carries_ip link r.octets ≡ true
  source : d.head.src.0 ≡ ip.source (packet_in link r.octets)
  destination : d.head.dst.0 ≡ ip.destination (packet_in link r.octets)
  pub inward : goes_in d.side ≡ true
  told : side_in settings r.side (packet_in link r.octets) ≡ Some Inward

inward_side : (side : Side) → is_outward (Some side) ≡ false → side ≡ Inward
inward_side Inward h = refl
inward_side Outward h = absurd (cc)

pub goes_in_of : (settings : PlainSettings) (link : Link) (calls : List reassembly.Call) (r : records.Packet) (d : Datagram) → datagram_by settings link calls r ≡ Some d → is_outward (Some d.side) ≡ false
    → GoesIn settings link r d
goes_in_of settings link calls r d h inward = by (either_of settings link calls r d h)
  where
    is : d.side ≡ Inward
    is = inward_side d.side inward

    by : IsEither settings link calls r d → GoesIn settings link r d
    by (carried c) = record {
      undropped = c.undropped;
      carries = c.carried;
      source = sym (ap (λ (e : Datagram). e.head.src.0) c.is);
      destination = sym (ap (λ (e : Datagram). e.head.dst.0) c.is);
      inward = ap goes_in is;
      told = c.told ∙ ap Some is;
    }
    by (joined j) =
        let f = fragment_is settings link r j.piece j.offered in
        record {
          undropped = f.undropped;
          carries = f.carried;
          source = sym (ap (λ (e : Datagram). e.head.src.0) j.is);
          destination = sym (ap (λ (e : Datagram). e.head.dst.0) j.is);
          inward = ap goes_in is;
          told = j.told ∙ ap Some is;
        }

-- a plain packet of such a datagram is relayed

relayed : (settings : PlainSettings) (link : Link) (r : records.Packet) (d : Datagram) (p : Packet) → r.side ≡ None → GoesIn settings link r d → IsPacketOf settings d p
    → Plain settings.hops (p.header ++ p.octets) → (d.head.protocol ≡ 1 → (is_error (icmp.kind p.octets) || is_query (icmp.kind p.octets)) ≡ true)
    → IsRelayed settings link (frame_of (link_octets link r.octets) p)
relayed settings link r d p sideless g is plain kind =
    let whole = p.header ++ p.octets in
    let long = link_kept settings link r g.undropped in
    let a = allowed settings link r g.undropped g.carries in
    let source : ip.source whole ≡ ip.source (packet_in link r.octets) = is.source ∙ g.source in
    let destination : ip.destination whole ≡ ip.destination (packet_in link r.octets) = is.destination ∙ g.destination in
    let made : IsRelayed settings link (link_octets link r.octets ++ whole) = record {
      long = long_behind link r.octets whole long;
      carries = carries_behind link r.octets whole long ∙ g.carries;
      plain = subst (Plain settings.hops) (sym (packet_behind link r.octets whole long)) plain;
      source = ap i_src (packet_behind link r.octets whole long) ∙ (ap₂ is_bad_source source destination ∙ a.source);
      destination = ap i_dst (packet_behind link r.octets whole long) ∙ (ap is_bad_destination destination ∙ a.destination);
      told = ap (side_in settings None) (packet_behind link r.octets whole long) ∙ (ap₂ (side settings None) source destination ∙ (ap (λ given. side_in settings given (packet_in link r.octets)) (sym sideless) ∙ g.told));
      kind = λ one.
          ap (λ q. is_error (icmp.kind (ip.payload q)) || is_query (icmp.kind (ip.payload q))) (packet_behind link r.octets whole long)
          ∙ (ap (λ m. is_error (icmp.kind m) || is_query (icmp.kind m)) is.carries
          ∙ kind (sym is.protocol ∙ (sym (ap ip.protocol (packet_behind link r.octets whole long)) ∙ one)));
    } in
    subst (IsRelayed settings link) (sym (append_assoc (link_octets link r.octets) p.header p.octets)) made

-- the packets of a segment

pub all_relayed : (settings : PlainSettings) (link : Link) (r : records.Packet) (d : Datagram) (packets : List Packet) → r.side ≡ None → GoesIn settings link r d → d.head.protocol ≡ 6
    → AllByRecursion (IsPacketOf settings d) packets → AllByRecursion (λ p. Plain settings.hops (p.header ++ p.octets)) packets
    → AllByRecursion (Relays settings link) (frames_of (link_octets link r.octets) packets)
all_relayed settings link r d [] sideless g six own plain = tt
all_relayed settings link r d (p ∷ packets) sideless g six own plain = (
  inl (relayed settings link r d p sideless g own.0 plain.0 (λ one. let both = sym six ∙ one in absurd (omega (arith, both)))),
  all_relayed settings link r d packets sideless g six own.1 plain.1,
)

-- a packet of a message that no rule drops is relayed
pub message_relays : (settings : PlainSettings) (link : Link) (r : records.Packet) (d : Datagram) (p : Packet) → r.side ≡ None → GoesIn settings link r d → IsMessage d → IsPacketOf settings d p
    → p.octets ≡ d.octets → IsRelayed settings link (frame_of (link_octets link r.octets) p)
message_relays settings link r d p sideless g says is same =
    relayed settings link r d p sideless g is (plain_message settings d p is g.inward same says)
    (λ one. ap (λ m. is_error (icmp.kind m) || is_query (icmp.kind m)) same ∙ says.kind one)

-- The items of the second engine for the frames of one item of the first.

-- an item passes if its record is a frame that does
abbrev WillGo : PlainSettings → Link → Item → Type 0
WillGo settings link m = (seconds fraction : ℕ) (frame : List ℕ) → m.packet ≡ record_of seconds fraction frame → Relays settings link frame → GoesThrough m

goes : (s : PlainSettings) (link : Link) (older : List Item) (r : Record) (m : Item) → m ≡ item_of s link older r → IsUntouched s link older r
    → (is_clean s link older r ≡ true → KeepsPayload link m) → GoesThrough m
goes s link older r m same is keeps =
    let clean : is_clean s link older r ≡ true = λ i. is_none (is.undropped i) && not (list_any touches_payload (is.unmended i)) in
    let passes : m.entry.verdict ≡ verdicts.Pass = ap (λ (x : Item). x.entry.verdict) same ∙ (λ i. verdict_by (is.undropped i) (is.unheld i) (is.unmended i)) in
    let kept = keeps clean in
    record { passes = passes; whole = kept.only ∙ ap (λ frame. frame ∷ []) (kept.whole passes) }

all_go : (settings : PlainSettings) (link : Link) (mirror : List Item) → settings.mirror ≡ false → Lawful (mirrored settings) link mirror → CleanIsKept (mirrored settings) link mirror
    → AllByRecursion (WillGo settings link) mirror
all_go settings link [] upright lawful clean = tt
all_go settings link (m ∷ older) upright lawful clean = (here, all_go settings link older upright lawful.0 clean.0)
  where
    here : WillGo settings link m
    here seconds fraction frame packet relays =
        let s = mirrored settings in
        let r = record_of seconds fraction frame in
        goes s link older r m (lawful.1 ∙ ap (item_of s link older) packet) (untouched settings link seconds fraction frame upright relays older)
        (subst (λ x. is_clean s link older x ≡ true → KeepsPayload link m) packet clean.1)

-- lists in two parts

all_behind : {X : Type 0} (P : X → Type 0) (n : ℕ) (xs : List X) → AllByRecursion P xs → AllByRecursion P (drop n xs)
all_behind P zero xs all = all
all_behind P (suc n) [] all = tt
all_behind P (suc n) (x ∷ xs) all = all_behind P n xs all.1

one_more : {X : Type 0} (P : X → Type 0) (n : ℕ) (xs : List X) (y : X) (ys : List X) → drop n xs ≡ y ∷ ys → AllByRecursion P (take n xs) → P y → AllByRecursion P (take (suc n) xs)
one_more P zero [] y ys e all here = absurd (cc)
one_more P zero (x ∷ xs) y ys e all here = let same : y ≡ x = cc in (subst P same here, tt)
one_more P (suc n) [] y ys e all here = absurd (cc)
one_more P (suc n) (x ∷ xs) y ys e all here = (all.0, one_more P n xs y ys e all.1 here)

one_behind : {X : Type 0} (n : ℕ) (xs : List X) (y : X) (ys : List X) → drop n xs ≡ y ∷ ys → drop (suc n) xs ≡ ys
one_behind zero [] y ys e = absurd (cc)
one_behind zero (x ∷ xs) y ys e = cc
one_behind (suc n) [] y ys e = absurd (cc)
one_behind (suc n) (x ∷ xs) y ys e = one_behind n xs y ys e

-- the first item and those after it, if its record is known
record IsNext (items : List Item) (r : Record) (older : List Record) : Type 0 where
  item : Item
  rest : List Item
  is : items ≡ item ∷ rest
  packet : item.packet ≡ r
  others : packets rest ≡ older

next_of : (items : List Item) (r : Record) (older : List Record) → packets items ≡ r ∷ older → IsNext items r older
next_of [] r older e = absurd (cc)
next_of (m ∷ rest) r older e = record { item = m; rest = rest; is = refl; packet = cc; others = cc }

-- the items before those of the frames
older_items : (seconds fraction : ℕ) (frames : List (List ℕ)) (rest : List Record) (mirror : List Item) → packets mirror ≡ records_behind (map (record_of seconds fraction) frames) rest
    → packets (drop (length frames) mirror) ≡ rest
older_items seconds fraction [] rest mirror same = same
older_items seconds fraction (frame ∷ more) rest mirror same =
    let next = next_of (drop (length more) mirror) (record_of seconds fraction frame) rest (older_items seconds fraction more (record_of seconds fraction frame ∷ rest) mirror same) in
    ap packets (one_behind (length more) mirror next.item next.rest next.is) ∙ next.others

-- the items of the frames
items_go : (settings : PlainSettings) (link : Link) (seconds fraction : ℕ) (frames : List (List ℕ)) (rest : List Record) (mirror : List Item)
    → packets mirror ≡ records_behind (map (record_of seconds fraction) frames) rest → AllByRecursion (WillGo settings link) mirror → AllByRecursion (Relays settings link) frames
    → AllByRecursion GoesThrough (take (length frames) mirror)
items_go settings link seconds fraction [] rest mirror same will relays = tt
items_go settings link seconds fraction (frame ∷ more) rest mirror same will relays =
    let next = next_of (drop (length more) mirror) (record_of seconds fraction frame) rest (older_items seconds fraction more (record_of seconds fraction frame ∷ rest) mirror same) in
    let its : WillGo settings link next.item = (subst (AllByRecursion (WillGo settings link)) next.is (all_behind (WillGo settings link) (length more) mirror will)).0 in
    one_more GoesThrough (length more) mirror next.item next.rest next.is (items_go settings link seconds fraction more (record_of seconds fraction frame ∷ rest) mirror same will relays.1)
    (its seconds fraction frame next.packet relays.0)

-- each frame that is written for a record which does not go outwards passes
abbrev pub FramesRelay : PlainSettings → Link → List Item → Type 0
FramesRelay settings link [] = Unit {0}
FramesRelay settings link (item ∷ older) = FramesRelay settings link older × (is_outward item.entry.side ≡ false → AllByRecursion (Relays settings link) item.frames)

through : (settings : PlainSettings) (link : Link) (trace mirror : List Item) → FramesRelay settings link trace → AllByRecursion (WillGo settings link) mirror
    → packets mirror ≡ records_of trace → InwardGoesThrough trace mirror
through settings link [] mirror relays will same = tt
through settings link (item ∷ older) mirror relays will same =
    let seconds = item.packet.seconds in
    let fraction = item.packet.fraction in
    let count = length item.frames in (
      through settings link older (drop count mirror) relays.0 (all_behind (WillGo settings link) count mirror will) (older_items seconds fraction item.frames (records_of older) mirror same),
      λ inward. items_go settings link seconds fraction item.frames (records_of older) mirror same will (relays.1 inward),
    )

pub goes_through : (settings : PlainSettings) (link : Link) (trace mirror : List Item) → settings.mirror ≡ false → FramesRelay settings link trace
    → Lawful (mirrored settings) link mirror → CleanIsKept (mirrored settings) link mirror → packets mirror ≡ records_of trace → InwardGoesThrough trace mirror
goes_through settings link trace mirror upright relays lawful clean same = through settings link trace mirror relays (all_go settings link mirror upright lawful clean) same

-- The frames that the first engine writes for a record that does not go outwards: plain packets,
-- whose addresses and kind of message no rule drops, or ARP.

-- if no rule rewrites it, its frame is the record's
same_frame : (settings : PlainSettings) (link : Link) (calls : List reassembly.Call) (r : records.Packet) (d : Datagram) → datagram_by settings link calls r ≡ Some d → d.fixes ≡ []
    → r.octets ≡ frame_of (link_octets link r.octets) (as_read d)
same_frame settings link calls r d h none = by (either_of settings link calls r d h)
  where
    by : IsEither settings link calls r d → r.octets ≡ frame_of (link_octets link r.octets) (as_read d)
    by (carried c) =
        whole_frame settings link r (record { undropped = c.undropped; carries = c.carried }) (ap (λ (e : Datagram). e.fixes) c.is ∙ none)
        ∙ ap (λ (e : Datagram). link_octets link r.octets ++ e.header ++ e.octets) c.is
    by (joined j) = absurd (not_nil _ rules.FDone (ap (λ (e : Datagram). e.fixes) j.is ∙ none))

-- no datagram is made of a record that no rule drops and that is not held: it carries ARP
addressed : (settings : PlainSettings) (link : Link) (past : Past) (r : records.Packet) → datagram_by settings link past.pieces r ≡ None
    → dropped_by settings link (read_with settings link past r) r ≡ None → is_held (read_with settings link past r) ≡ false → IsAddressed link r.octets
addressed settings link past r none undropped unheld =
    let kept = (first_none _ _ (sym (bare_row settings link past r none) ∙ undropped)).0 in
    let type = type_kept settings link r kept in
    let no_ip = carries_none settings link past r none undropped unheld (carries_ip link r.octets) refl in
    record {
      long = link_kept settings link r kept;
      type = type;
      carries = arp_of (carries_ip link r.octets) (carries_arp link r.octets) (nat_le (length r.octets) 65549) type no_ip;
      no_ip = no_ip;
    }

-- the frames of one record

pub record FrameLaws : Type 0 where
  pub known : DatagramsAreKnown
  pub fresh : AnewIsPacket
  pub own : PacketsAreItsOwn
  pub plain : PacketsArePlain

not_six : (six none : Bool) → (six && none) ≡ false → none ≡ true → six ≡ false
not_six true true h n = absurd (cc)
not_six true false h n = absurd (cc)
not_six false none h n = refl

module _ (laws : FrameLaws) (settings : PlainSettings) (link : Link) (older : List Item) (r : records.Packet) (hops : settings.hops ≤ 254) (before : HaveOctets older) (octets : HasOctets r)
    (sideless : r.side ≡ None) where
  abbrev read : Read
  read = read_after settings link older r

  abbrev item : Item
  item = item_of settings link older r

  of_segment : (d : Datagram) → segment_after settings link older r ≡ Some d → is_outward item.entry.side ≡ false → AllByRecursion (Relays settings link) item.frames
  of_segment d h inward =
      let past = past_of settings link older r in
      let t = segment_rows_are settings link past r d h in
      let datagram = (both_of (is_segment settings) (datagram_after settings link older r) d h).0 in
      let told = sides (dropped_by settings link read r) (side_of_record settings link r) (λ rule dropped. era_told settings read.past.calls d rule (sym t.dropped ∙ dropped)) in
      let side = (made_of settings link past r d datagram).told in
      let g = goes_in_of settings link past.pieces r d datagram (sym (ap is_outward (told ∙ side)) ∙ inward) in
      let s = segment_is laws.known settings link older r d before octets h in
      let v = view_of settings read.past.calls d in
      subst (AllByRecursion (Relays settings link)) (sym (segment_frames settings link read r d t))
      (all_relayed settings link r d (outcome_of settings read d).packets sideless g s.protocol (laws.own settings v d hops s) (laws.plain settings v d hops s g.inward))

  -- a datagram that is not a segment, rewritten by these rules
  of_message : (d : Datagram) (named : List Rule) → datagram_after settings link older r ≡ Some d → is_segment settings d ≡ false → dropped_by settings link read r ≡ None
      → named_rows settings link read r ≡ named → is_outward item.entry.side ≡ false → Relays settings link (frame_by settings (link_octets link r.octets) r.octets (Some d) named)
  of_message d named datagram other undropped is inward =
      let past = past_of settings link older r in
      let live = is_quoted_live past.calls (quoted_in d.octets) in
      let made = made_of settings link past r d datagram in
      let rows = first_none _ _ (sym (datagram_row_is settings link past r d made other) ∙ undropped) in
      let side : item.entry.side ≡ Some d.side = ap (λ x. side_by x (side_of_record settings link r)) undropped ∙ made.told in
      let g = goes_in_of settings link past.pieces r d datagram (sym (ap is_outward side) ∙ inward) in
      let known = datagram_known laws.known settings link older r d before octets datagram in
      let six : (d.head.protocol == 6) ≡ false = not_six (is_tcp d) (is_none (find (holds_tcp settings d) segment_rows)) other (ap is_none rows.1) in
      let says = message_of settings live d known g.inward six rows.0 in
      by named is g known says
    where
      by : (named : List Rule) → named_rows settings link read r ≡ named → GoesIn settings link r d → IsKnown settings d → IsMessage d
          → Relays settings link (frame_by settings (link_octets link r.octets) r.octets (Some d) named)
      by [] is g known says =
          let past = past_of settings link older r in
          let none = (empty_left d.fixes _ (sym (datagram_named_is settings link past r d (made_of settings link past r d datagram) other) ∙ is)).0 in
          inl (subst (IsRelayed settings link) (sym (same_frame settings link past.pieces r d datagram none))
          (message_relays settings link r d (as_read d) sideless g says (known.whole none) refl))
      by (rule ∷ more) is g known says =
          let body = sent_is_read settings d g.inward in
          inl (message_relays settings link r d (anew settings d (octets_sent settings d)) sideless g says
          (laws.fresh settings d (octets_sent settings d) hops known.sizes (subst (λ m. length m ≤ 65515) (sym body) known.short)) body)

  of_other : read.segment ≡ None → is_outward item.entry.side ≡ false → AllByRecursion (Relays settings link) item.frames
  of_other none inward =
      subst (AllByRecursion (Relays settings link)) (sym (plain_frames settings link read r none)) (by (dropped_by settings link read r) (is_held read) refl refl)
    where
      frame : List ℕ
      frame = frame_by settings (link_octets link r.octets) r.octets read.datagram (named_rows settings link read r)

      one : (datagram : Option Datagram) → read.datagram ≡ datagram → dropped_by settings link read r ≡ None → is_held read ≡ false
          → Relays settings link (frame_by settings (link_octets link r.octets) r.octets datagram (named_rows settings link read r))
      one None empty undropped unheld = inr (addressed settings link (past_of settings link older r) r empty undropped unheld)
      one (Some d) datagram undropped unheld =
          let other = no_pass (is_segment settings d) d (sym (ap (where_passes (is_segment settings)) datagram) ∙ none) in
          of_message d (named_rows settings link read r) datagram other undropped refl inward

      by : (dropped : Option Rule) (held : Bool) → dropped_by settings link read r ≡ dropped → is_held read ≡ held
          → AllByRecursion (Relays settings link) (frames_by dropped held (frame_by settings (link_octets link r.octets) r.octets read.datagram (named_rows settings link read r)))
      by (Some rule) held d h = tt
      by None true d h = tt
      by None false d h = (one read.datagram refl d h, tt)

  pub frames_relay_of : is_outward item.entry.side ≡ false → AllByRecursion (Relays settings link) item.frames
  frames_relay_of inward = by (segment_after settings link older r) refl
    where
      by : (segment : Option Datagram) → segment_after settings link older r ≡ segment → AllByRecursion (Relays settings link) item.frames
      by None h = of_other h inward
      by (Some d) h = of_segment d h inward

-- the frames of a lawful trace
pub frames_relay : FrameLaws → (settings : PlainSettings) (link : Link) (trace : List Item) → settings.hops ≤ 254 → HaveOctets trace → HaveNoSide trace → Lawful settings link trace
    → FramesRelay settings link trace
frames_relay laws settings link [] hops octets sideless lawful = tt
frames_relay laws settings link (item ∷ older) hops octets sideless lawful = (
  frames_relay laws settings link older hops octets.0 sideless.0 lawful.0,
  subst (λ (x : Item). is_outward x.entry.side ≡ false → AllByRecursion (Relays settings link) x.frames) (sym lawful.1)
      (frames_relay_of laws settings link older item.packet hops octets.0 octets.1 sideless.1),
)
