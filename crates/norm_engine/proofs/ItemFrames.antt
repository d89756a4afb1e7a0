-- The frames of an item: ARP or unfragmented packets, none too long, those inwards plain and read
-- alike.
use Rattle.std.proofs.Common.{◌≡◌, ℕ, ◌≤◌, ◌==◌, ◌&&◌, ◌||◌, not, Bool, true, false, cond, List, ◌∷◌, ◌++◌, length, take, drop, find, Option, Some, None, is_none, inl, inr, refl, sym, ap, subst, ◌∙◌, arith, option_map, length-append, length-take, length-drop, []}
use Rattle.std.specs.List.{AllByRecursion}
use Rattle.std.specs.Option.{option_or}
use Rattle.wire_base.specs.declared.address.Link.{Link}
use Rattle.wire_base.specs.declared.address.Side.{Side}
use Rattle.wire_base.specs.declared.frame.FrameKind.TheVariants.{Arp}
use Rattle.wire_base.specs.Numbers.{u16_octets, with_u16}
use Rattle.wire_base.specs.Ipv4 as ip
use Rattle.wire_base.specs.Frames.{kind_of, link_octets, packet_in}
use Rattle.icmp_codec.specs.QuotedPacket.{quoted_in}
use Rattle.pcap_file.specs.Records as records
use Rattle.rule_book.specs.declared.rule.Rule.{Rule}
use Rattle.rule_book.specs.declared.rule.Rule.TheVariants as rules
use Rattle.rule_book.specs.Rules.{segment_rows}
use Rattle.norm_settings.specs.SettingValues.{PlainSettings}
use Rattle.udp_codec.specs.WrittenChecksum as udp
use Rattle.ip_rules.specs.RuleRows.{carries_arp, carries_ip, l_short, side_in, holds_ip, ip_drop_rows, ip_dropped_by, ip_fixes, piece_fix_rows, whole_fix_rows, l_type}
use Rattle.ip_rules.specs.Datagrams.{AnewIsPacket, Datagram, DatagramsAreKnown, Packet, IsKnown, IsPacketOf, anew, as_read, datagram_in, datagram_of, frame_of, frames_of}
use Rattle.ip_rules.proofs.Lists.{none_found}
use Rattle.dgram_rules.specs.RuleRows.{pseudo_of, holds_dgram, dgram_dropped_by}
use Rattle.ipv4_codec.specs.HeaderFields.{fields_of}
use Rattle.reassembly.specs.Calls as reassembly
use Rattle.reassembly.specs.DatagramFragments.{datagram_octets, is_whole, whole_of}
use Rattle.reassembly.specs.RuleRows as fragments
use Rattle.reassembly.specs.RuleRows.{answer_at, answer_by}
use Rattle.tcp_norm.specs.RuleViews.{view_of}
use Rattle.tcp_norm.specs.Outcomes.{outcome_at}
use Rattle.wire_base.specs.Plain.{Plain}
use Rattle.tcp_norm.specs.RuleRows as era
use Rattle.tcp_norm.specs.SegmentPackets.{PacketsAreItsOwn}
use Rattle.tcp_norm.proofs.Packets.{each_packet}
use Rattle.tcp_norm.proofs.StreamFrames.{empty_left}
use Rattle.receiver_model.specs.Messages as receivers
use Rattle.norm_engine.specs.Items.{Item}
use Rattle.norm_engine.specs.Fragments.{Offering, completes, datagram_made, head_of_whole, holds_offered, pieces_with, joined_in, offering_in, offering_of, pieces_before}
use Rattle.norm_engine.specs.MessageFrames.{octets_sent, frame_by}
use Rattle.norm_engine.specs.RuleRows.{holds_tcp, is_segment, is_tcp, side_of_record}
use Rattle.norm_engine.specs.Calls.{Past, datagram_after, datagram_by, past_of, segment_after, where_passes}
use Rattle.norm_engine.specs.Trace.{Read, read_after, is_held, is_quoted_live, dropped_by, named_rows, outcome_of, frames_by, era_by, item_of, side_by}
use Rattle.norm_engine.specs.CleanRecords.{HasOctets, HaveOctets}
use Rattle.norm_engine.specs.working.EngineAnswers.{datagram_row, read_with}
use Rattle.norm_engine.specs.OutgoingFrames.{IsWholePacket, CarriesWhole, GoesOut, ItemsGoOut}
use Rattle.norm_engine.specs.CertainReading.{ItemsAreCertain}
use Rattle.norm_engine.specs.TraceLaws.{IsSound}
use Rattle.norm_engine.specs.SentFrames.{HasShortFrames, IsPlainInwards, LawfulIsPlainInwards, LawfulIsShort, PlainIsReadAlike}
use Rattle.norm_engine.proofs.Frames.{kind_arp, whole_frame, behind_frames, frames_go, go_out, packet_goes, whole, anew_is_short, written_is_short, frames_are_short, own_is_short, read_is_short, type_kept}
use Rattle.norm_engine.proofs.Items.{segment_frames, plain_frames, AreOfEra, era_told, sides}
use Rattle.norm_engine.proofs.Datagrams.{carried, joined, IsEither, IsMade, either_of, fragment_by, fragment_is, made_of, row_of_piece, first_none, no_pass}
use Rattle.norm_engine.proofs.Layers.{bare_row, datagram_named_is, datagram_row_is}
use Rattle.norm_engine.proofs.Judgments.{kept_as, not_nil}
use Rattle.norm_engine.proofs.Traces.{RowsAreOfEras, both_of, datagram_known, link_kept, long_enough, segment_is, rows_are_of_eras}
use Rattle.norm_engine.proofs.SegmentPackets.{SegmentLaws, behind_first, faultless, wholes}

-- What is written for a record: ARP, or unfragmented packets, with at most a probe after the first;
-- and the number of rules in its entry.

-- ---- a datagram that is not a segment

carries_of : (settings : PlainSettings) (link : Link) (calls : List reassembly.Call) (r : records.Packet) (d : Datagram) → IsEither settings link calls r d → carries_ip link r.octets ≡ true
carries_of settings link calls r d (carried c) = c.carried
carries_of settings link calls r d (joined j) = (fragment_is settings link r j.piece j.offered).carried

-- one of TCP that no rule drops is a segment
no_tcp : (settings : PlainSettings) (live : Bool) (d : Datagram) → is_segment settings d ≡ false → datagram_row settings live d ≡ None → d.head.protocol ≡ 6 → ⊥
no_tcp settings live d other row six =
    let none = (first_none (dgram_dropped_by settings live d) (find (holds_tcp settings d) segment_rows) row).1 in
    let tcp : is_tcp d ≡ true = ap (λ n. n == 6) six in
    let e : true ≡ false = sym (λ i. tcp i && is_none (none i)) ∙ other in
    cc

other_whole : (settings : PlainSettings) (d : Datagram) (p : Packet) → IsPacketOf settings d p → (d.head.protocol ≡ 6 → ⊥) → IsWholePacket (whole p)
other_whole settings d p is other = record { header = is.header; segment = λ six. absurd (other (sym is.protocol ∙ six)) }

mended_short : (m : List ℕ) (value : ℕ) → length m ≤ 65515 → length (with_u16 m 6 value) ≤ 65515
mended_short m value short =
    let front = length-append (take 6 m) (u16_octets value) in
    let all = length-append (take 6 m ++ u16_octets value) (drop 8 m) in
    omega (arith, front, all, length-take 6 m, length-drop 8 m, short)

pub sent_short : (settings : PlainSettings) (d : Datagram) → length d.octets ≤ 65515 → length (octets_sent settings d) ≤ 65515
sent_short settings d short = by (holds_dgram settings false d rules.USumOut)
  where
    by : (mend : Bool) → length (cond mend (udp.mended (pseudo_of d) d.octets) d.octets) ≤ 65515
    by true = mended_short d.octets _ short
    by false = short

module _ (known : DatagramsAreKnown) (fresh : AnewIsPacket) (settings : PlainSettings) (link : Link) (history : List Item) (r : records.Packet)
    (hops : settings.hops ≤ 254) (older : HaveOctets history) (octets : HasOctets r) where
  abbrev read : Read
  read = read_after settings link history r

  abbrev past : Past
  past = past_of settings link history r

  abbrev before : List reassembly.Call
  before = pieces_before settings link history r

  module _ (d : Datagram) (h : read.datagram ≡ Some d) (none : read.segment ≡ None) (undropped : dropped_by settings link read r ≡ None) where
    other : is_segment settings d ≡ false
    other = no_pass (is_segment settings d) d (sym (ap (where_passes (is_segment settings)) h) ∙ none)

    made : IsMade settings link read r d
    made = made_of settings link past r d h

    no_six : d.head.protocol ≡ 6 → ⊥
    no_six = no_tcp settings (is_quoted_live past.calls (quoted_in d.octets)) d other (sym (datagram_row_is settings link past r d made other) ∙ undropped)

    long : l_short link r.octets ≡ false
    long = link_kept settings link r made.undropped

    four : carries_ip link r.octets ≡ true
    four = carries_of settings link before r d (either_of settings link before r d h)

    its : IsKnown settings d
    its = datagram_known known settings link history r d older octets h

    unmended : d.fixes ≡ [] → IsEither settings link before r d → GoesOut link r.octets
    unmended bare (joined j) = absurd (not_nil _ rules.FDone (ap (λ (e : Datagram). e.fixes) j.is ∙ bare))
    unmended bare (carried c) =
        let p = packet_in link r.octets in
        let header : d.header ≡ ip.header p = sym (ap (λ (e : Datagram). e.header) c.is) in
        let body : d.octets ≡ ip.payload p = sym (ap (λ (e : Datagram). e.octets) c.is) in
        let frame : frame_of (link_octets link r.octets) (as_read d) ≡ r.octets =
        (λ i. link_octets link r.octets ++ header i ++ body i)
        ∙ sym (whole_frame settings link r (record { undropped = c.undropped; carries = c.carried }) (ap (λ (e : Datagram). e.fixes) c.is ∙ bare)) in
        inr (subst (CarriesWhole link) frame (packet_goes link r.octets (as_read d) long four (other_whole settings d (as_read d) (its.whole bare) no_six)))

    datagram_goes : (named : List Rule) → named_rows settings link read r ≡ named → GoesOut link (frame_by settings (link_octets link r.octets) r.octets (Some d) named)
    datagram_goes [] is =
        unmended (empty_left d.fixes _ (sym (datagram_named_is settings link past r d made other) ∙ is)).0 (either_of settings link before r d h)
    datagram_goes (rule ∷ more) is =
        inr (packet_goes link r.octets (anew settings d (octets_sent settings d)) long four
        (other_whole settings d _ (fresh settings d (octets_sent settings d) hops its.sizes (sent_short settings d its.short)) no_six))

-- ---- a record that makes no datagram

done_by : (row : Option Rule) (whole : Bool) → row ≡ None → fragments.is_held (answer_by row whole) ≡ false → fragments.is_done (answer_by row whole) ≡ true
done_by None true none held = refl
done_by None false none held = absurd (cc)
done_by (Some rule) whole none held = absurd (cc)

pub arp_of : (ip arp fits : Bool) → not (ip || (arp && fits)) ≡ false → ip ≡ false → arp ≡ true
arp_of false true fits h none = refl
arp_of false false fits h none = absurd (cc)
arp_of true arp fits h none = absurd (cc)

module _ (settings : PlainSettings) (link : Link) (past : Past) (r : records.Packet) (none : datagram_by settings link past.pieces r ≡ None)
    (undropped : dropped_by settings link (read_with settings link past r) r ≡ None) (unheld : is_held (read_with settings link past r) ≡ false) where
  abbrev p : List ℕ
  p = packet_in link r.octets

  kept : (ip_dropped_by settings link r ≡ None) × (row_of_piece (read_with settings link past r).piece ≡ None)
  kept = first_none _ _ (sym (bare_row settings link past r none) ∙ undropped)

  undone : (datagram_in settings link r ≡ None) × (joined_in settings link r (offering_in settings link past.pieces r) ≡ None)
  undone = first_none _ _ none

  link_rows_none : AllByRecursion (λ rule. holds_ip settings link r rule ≡ false) ip_drop_rows
  unfolding ip_dropped_by
  link_rows_none = none_found (holds_ip settings link r) ip_drop_rows kept.0

  -- one that carries a packet makes a datagram, or is held, or a rule drops it
  sided : carries_ip link r.octets ≡ true → side_in settings r.side p ≡ None → ⊥
  sided four told =
      let e : true ≡ false = sym (λ i. four i && is_none (told i)) ∙ link_rows_none.1.1.1.1.1.1.1.1.1.1.0 in
      cc

  is_carried : carries_ip link r.octets ≡ true → ip.is_fragment p ≡ false → (side : Side) → side_in settings r.side p ≡ Some side → ⊥
  is_carried four part side told =
      let e = sym undone.0 ∙ (kept_as settings link r None true false kept.0 four part ∙ ap (option_map (datagram_of p (ip_fixes settings link r whole_fix_rows))) told) in
      absurd (cc)

  is_joined : (o : Offering) → offering_in settings link past.pieces r ≡ Some o → (side : Side) → side_in settings r.side p ≡ Some side → ⊥
  is_joined o offered side told =
      let row : fragments.dropped_by o.view o.piece ≡ None = sym (ap row_of_piece offered) ∙ kept.1 in
      let held : fragments.is_held (answer_at o.view o.piece) ≡ false = sym (ap (λ x. holds_offered x rules.FHeld) offered) ∙ unheld in
      let done : completes o ≡ true = done_by (fragments.dropped_by o.view o.piece) (is_whole (o.piece ∷ o.view.pieces)) row held in
      let made = ap (joined_in settings link r) offered ∙ (λ i. cond (done i) (option_map (datagram_made settings (ip_fixes settings link r piece_fix_rows) (head_of_whole (fields_of p) (whole_of (pieces_with o))) (datagram_octets (pieces_with o))) (told i)) None) in
      let e = sym undone.1 ∙ made in
      absurd (cc)

  no_packet : (part : Bool) → ip.is_fragment p ≡ part → (side : Option Side) → side_in settings r.side p ≡ side → carries_ip link r.octets ≡ true → ⊥
  no_packet part is None told four = sided four told
  no_packet false is (Some side) told four = is_carried four is side told
  no_packet true is (Some side) told four =
      is_joined _ (ap (option_map (offering_of settings past.pieces)) (fragment_by settings link r None true true kept.0 four is)) side told

  pub carries_none : (four : Bool) → carries_ip link r.octets ≡ four → four ≡ false
  carries_none false is = refl
  carries_none true is = absurd (no_packet (ip.is_fragment p) refl (side_in settings r.side p) refl is)

  pub carries_arp_then : kind_of link r.octets ≡ Arp
  carries_arp_then =
      let none = carries_none (carries_ip link r.octets) refl in
      kind_arp link r.octets link_rows_none.1.0 none (arp_of (carries_ip link r.octets) (carries_arp link r.octets) _ link_rows_none.1.1.0 none)

  arp_goes : GoesOut link r.octets
  arp_goes = inl carries_arp_then

-- ---- the frames of a record

one_frame : (link : Link) (dropped : Option Rule) (held : Bool) (frame : List ℕ) → (dropped ≡ None → held ≡ false → GoesOut link frame) → AllByRecursion (GoesOut link) (frames_by dropped held frame)
one_frame link (Some rule) held frame goes = tt
one_frame link None true frame goes = tt
one_frame link None false frame goes = (goes refl refl, tt)

no_more : (link : Link) (dropped : Option Rule) (held : Bool) (frame : List ℕ) → AllByRecursion (λ f. length (packet_in link f) ≡ 40) (drop 1 (frames_by dropped held frame))
no_more link (Some rule) held frame = tt
no_more link None true frame = tt
no_more link None false frame = tt

-- the frames of a record with this era
pub record Goes (link : Link) (era : Option ℕ) (frames : List (List ℕ)) : Type 0 where
  pub each : AllByRecursion (GoesOut link) frames
  pub of_era : (n : ℕ) → era ≡ Some n → AllByRecursion (CarriesWhole link) frames
  pub behind : AllByRecursion (λ f. length (packet_in link f) ≡ 40) (drop 1 frames)

pub frames_go_out : RowsAreOfEras → DatagramsAreKnown → AnewIsPacket → SegmentLaws → (settings : PlainSettings) (link : Link) (history : List Item) (r : records.Packet)
    → settings.hops ≤ 254 → HaveOctets history → HasOctets r → Goes link (item_of settings link history r).entry.era (item_of settings link history r).frames
frames_go_out rows known fresh laws settings link history r hops older octets = by (segment_after settings link history r) refl
  where
    read : Read
    read = read_after settings link history r

    plain : read.segment ≡ None → (datagram : Option Datagram) → read.datagram ≡ datagram
        → dropped_by settings link read r ≡ None → is_held read ≡ false → GoesOut link (frame_by settings (link_octets link r.octets) r.octets datagram (named_rows settings link read r))
    plain none None h undropped unheld = arp_goes settings link (past_of settings link history r) r h undropped unheld
    plain none (Some d) h undropped unheld = datagram_goes known fresh settings link history r hops older octets d h none undropped (named_rows settings link read r) refl

    by : (segment : Option Datagram) → segment_after settings link history r ≡ segment → Goes link (item_of settings link history r).entry.era (item_of settings link history r).frames
    by None h =
        let frames = plain_frames settings link read r h in
        let frame = frame_by settings (link_octets link r.octets) r.octets read.datagram (named_rows settings link read r) in
        let nothing : era_by (option_map (outcome_of settings read) read.segment) ≡ None = ap (λ o. era_by (option_map (outcome_of settings read) o)) h in
        subst (Goes link (item_of settings link history r).entry.era) (sym frames) (record {
          each = one_frame link (dropped_by settings link read r) (is_held read) frame (plain h read.datagram refl);
          of_era = λ n e. let f = sym nothing ∙ e in absurd (cc);
          behind = no_more link (dropped_by settings link read r) (is_held read) frame;
        })
    by (Some d) h =
        let v = view_of settings read.past.calls d in
        let s = segment_is known settings link history r d older octets h in
        let long = long_enough settings link history r d h in
        let calls = pieces_before settings link history r in
        let four = carries_of settings link calls r d (either_of settings link calls r d (both_of (is_segment settings) (datagram_after settings link history r) d h).0) in
        let packets = (outcome_at settings v d).packets in
        let go = frames_go link r.octets packets long four (wholes settings d packets (laws.own settings v d hops s) (faultless laws settings v d s)) in
        subst (Goes link (item_of settings link history r).entry.era) (sym (segment_frames settings link read r d (rows settings link history r d h))) (record {
          each = go_out link (frames_of (link_octets link r.octets) packets) go;
          of_era = λ n e. go;
          behind = behind_frames link r.octets packets long (behind_first settings v d);
        })

-- The frames of lawful traces: how long they are, and that those written inwards are plain.

-- ---- the frames of a record

first_not : {A : Type 0} (one other : Option A) → option_or one other ≡ None → one ≡ None
first_not None other h = refl
first_not (Some x) other h = absurd (cc)

module _ (known : DatagramsAreKnown) (settings : PlainSettings) (link : Link) (history : List Item) (r : records.Packet)
    (hops : settings.hops ≤ 254) (older : HaveOctets history) (octets : HasOctets r) where
  abbrev read_here : Read
  read_here = read_after settings link history r

  abbrev past_here : Past
  past_here = past_of settings link history r

  abbrev frame_named : Option Datagram → List Rule → List ℕ
  frame_named made named = frame_by settings (link_octets link r.octets) r.octets made named

  -- a rule before that on its type drops none that is written
  typed : (made : Option Datagram) → read_here.datagram ≡ made → dropped_by settings link read_here r ≡ None → l_type link r.octets ≡ false
  typed None m undropped = type_kept settings link r (first_not (ip_dropped_by settings link r) _ (sym (bare_row settings link past_here r m) ∙ undropped))
  typed (Some d) m undropped = type_kept settings link r (made_of settings link past_here r d m).undropped

  mended_is_short : (d : Datagram) → read_here.datagram ≡ Some d → length (frame_of (link_octets link r.octets) (anew settings d (octets_sent settings d))) ≤ 65549
  mended_is_short d m =
      let sent = sent_short settings d (datagram_known known settings link history r d older octets m).short in
      let head = (anew settings d (octets_sent settings d)).header in
      let size = length-append head (octets_sent settings d) in
      let long : length head ≡ 20 = refl in
      written_is_short link r.octets (anew settings d (octets_sent settings d)) (omega (arith, size, long, sent))

  -- a record that is not a segment
  other_is_short : (row : Option Rule) → dropped_by settings link read_here r ≡ row → (held : Bool) → (made : Option Datagram) → read_here.datagram ≡ made → (named : List Rule)
      → AllByRecursion (GoesOut link) (frames_by row held (frame_named made named)) → AllByRecursion (λ f. length f ≤ 65549) (frames_by row held (frame_named made named))
  other_is_short (Some rule) d held made m named go = tt
  other_is_short None d true made m named go = tt
  other_is_short None d false None m named go = (read_is_short link r.octets octets (typed None m d) go.0, tt)
  other_is_short None d false (Some e) m [] go = (read_is_short link r.octets octets (typed (Some e) m d) go.0, tt)
  other_is_short None d false (Some e) m (rule ∷ more) go = (mended_is_short e m, tt)

  item_is_short : PacketsAreItsOwn → ItemsGoOut → AllByRecursion (λ f. length f ≤ 65549) (item_of settings link history r).frames
  item_is_short own goes = by (segment_after settings link history r) refl
    where
      by : (segment : Option Datagram) → segment_after settings link history r ≡ segment → AllByRecursion (λ f. length f ≤ 65549) (item_of settings link history r).frames
      by None none =
          let frames = plain_frames settings link read_here r none in
          let go = subst (AllByRecursion (GoesOut link)) frames (goes settings link history r hops older octets).each in
          subst (AllByRecursion (λ f. length f ≤ 65549)) (sym frames)
          (other_is_short (dropped_by settings link read_here r) refl (is_held read_here) read_here.datagram refl (named_rows settings link read_here r) go)
      by (Some d) h =
          let v = view_of settings read_here.past.calls d in
          let s = segment_is known settings link history r d older octets h in
          let frames = segment_frames settings link read_here r d (rows_are_of_eras settings link history r d h) in
          subst (AllByRecursion (λ f. length f ≤ 65549)) (sym frames)
          (frames_are_short settings link r.octets d (outcome_at settings v d).packets (own settings v d hops s)
          (each_packet (λ p. IsPacketOf settings d p → length (whole p) ≤ 65535) settings v d (λ probe. anew_is_short settings d _)
          (own_is_short settings v.segments d s d.fixes (era.mended_by settings v d))))

  -- ---- an item without a side

  sideless_other : (row : Option Rule) → dropped_by settings link read_here r ≡ row → (held : Bool) → is_held read_here ≡ held → (made : Option Datagram) → read_here.datagram ≡ made → (named : List Rule)
      → side_by row (side_of_record settings link r) ≡ None → AllByRecursion (λ f. kind_of link f ≡ Arp) (frames_by row held (frame_named made named))
  sideless_other (Some rule) d held h made m named side = tt
  sideless_other None d true h made m named side = tt
  sideless_other None d false h None m named side = (carries_arp_then settings link past_here r m d h, tt)
  sideless_other None d false h (Some e) m named side = let told = sym (made_of settings link past_here r e m).told ∙ side in absurd (cc)

  item_is_arp : (item_of settings link history r).entry.side ≡ None → AllByRecursion (λ f. kind_of link f ≡ Arp) (item_of settings link history r).frames
  item_is_arp side = by (segment_after settings link history r) refl
    where
      by : (segment : Option Datagram) → segment_after settings link history r ≡ segment → AllByRecursion (λ f. kind_of link f ≡ Arp) (item_of settings link history r).frames
      by None none =
          subst (AllByRecursion (λ f. kind_of link f ≡ Arp)) (sym (plain_frames settings link read_here r none))
          (sideless_other (dropped_by settings link read_here r) refl (is_held read_here) refl read_here.datagram refl (named_rows settings link read_here r) side)
      by (Some d) h =
          let rows : AreOfEra settings link read_here r d = rows_are_of_eras settings link history r d h in
          let told : (item_of settings link history r).entry.side ≡ Some d.side =
          sides (dropped_by settings link read_here r) (side_of_record settings link r) (λ rule dropped. era_told settings read_here.past.calls d rule (sym rows.dropped ∙ dropped))
          ∙ (made_of settings link past_here r d (both_of (is_segment settings) (datagram_after settings link history r) d h).0).told in
          let e = sym told ∙ side in
          absurd (cc)

-- ---- each item of a lawful trace

pub none_before : (settings : PlainSettings) (link : Link) (item : Item) (older : List Item) → IsSound settings link (item ∷ older) → IsSound settings link older
none_before settings link item older sound = record { hops = sound.hops; octets = sound.octets.0; lawful = sound.lawful.0 }

pub lawful_short : DatagramsAreKnown → PacketsAreItsOwn → ItemsGoOut → LawfulIsShort
lawful_short known own goes settings link [] sound = tt
lawful_short known own goes settings link (item ∷ older) sound = (
  subst HasShortFrames (sym sound.lawful.1) (item_is_short known settings link older item.packet sound.hops sound.octets.0 sound.octets.1 own goes),
  lawful_short known own goes settings link older (none_before settings link item older sound),
)

pub lawful_plain_inwards : DatagramsAreKnown → ItemsAreCertain → LawfulIsPlainInwards
lawful_plain_inwards known certain settings link [] sound = tt
lawful_plain_inwards known certain settings link (item ∷ older) sound = (
  subst (IsPlainInwards settings.hops link) (sym sound.lawful.1) (record {
    inward = (certain settings link older item.packet sound.hops sound.octets.0 sound.octets.1).plain;
    sideless = item_is_arp known settings link older item.packet sound.hops sound.octets.0 sound.octets.1;
  }),
  lawful_plain_inwards known certain settings link older (none_before settings link item older sound),
)

-- ---- plain packets are read alike

frames_alike : receivers.PlainIsReadAlike → (hops : ℕ) (link : Link) (frames : List (List ℕ)) → AllByRecursion (λ frame. Plain hops (packet_in link frame)) frames
    → AllByRecursion (λ frame. receivers.IsReadAlike hops (packet_in link frame)) frames
frames_alike alike hops link [] plain = tt
frames_alike alike hops link (frame ∷ frames) plain = (alike hops (packet_in link frame) plain.0, frames_alike alike hops link frames plain.1)

pub read_alike : receivers.PlainIsReadAlike → PlainIsReadAlike
read_alike alike hops link [] plain = tt
read_alike alike hops link (item ∷ older) plain = (λ side. frames_alike alike hops link item.frames (plain.0.inward side), read_alike alike hops link older plain.1)
