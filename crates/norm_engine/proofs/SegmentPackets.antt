-- Packets written for a segment: whole headers, no fault but the checksum, and at most one probe at
-- the end.
use Rattle.std.proofs.Common.{◌≡◌, ℕ, ◌+◌, ◌*◌, ◌/◌, ◌≤◌, Bool, true, false, cond, List, ◌∷◌, ◌++◌, length, take, drop, get_or, find, Option, None, refl, sym, ap, ◌∙◌, subst, arith, slice_index, append_assoc, length-take-le, get_or-take, length-append, [], Some}
use Rattle.std.specs.List.{AllByRecursion}
use Rattle.std.proofs.Math.ListN.{get_or-append}
use Rattle.wire_base.specs.declared.address.Link.{Link}
use Rattle.wire_base.specs.declared.address.Side.{Side}
use Rattle.wire_base.specs.declared.address.Side.TheVariants.{Outward, Inward}
use Rattle.wire_base.specs.Ipv4 as ip
use Rattle.wire_base.specs.Tcp as tcp
use Rattle.wire_base.specs.Numbers.{u16_octets, with_u16}
use Rattle.wire_base.specs.Options.{are_well_formed}
use Rattle.wire_base.specs.Checksums.{word_sum, checksum_for}
use Rattle.wire_base.specs.Plain.{Plain}
use Rattle.wire_base.specs.Segments.{Written}
use Rattle.wire_base.specs.Frames.{link_octets, packet_in}
use Rattle.ipv4_codec.specs.declared.header.Ipv4.{Ipv4}
use Rattle.tcp_codec.specs.MendedSegment.{MendedSayTheSame}
use Rattle.tcp_codec.specs.WrittenSegment.{segment_octets, AreReadBack}
use Rattle.rule_book.specs.declared.rule.Rule.{Rule}
use Rattle.rule_book.specs.Rules.{era_rows}
use Rattle.norm_settings.specs.SettingValues.{PlainSettings}
use Rattle.ip_rules.specs.RuleRows.{l_short}
use Rattle.ip_rules.specs.Datagrams.{Datagram, Packet, IsPacketOf, frame_of, frames_of, goes_in}
use Rattle.tcp_norm.specs.Calls.{is_written, Outcome}
use Rattle.tcp_norm.specs.RuleViews.{View}
use Rattle.tcp_norm.specs.RuleRows.{pseudo_of, holds_era, mended_by}
use Rattle.tcp_norm.specs.EmittedPackets.{packet_by, segment_anew, segment_sent, sum_mended, probe_packets}
use Rattle.tcp_norm.specs.Outcomes.{outcome_at, outcome_by}
use Rattle.tcp_norm.specs.SegmentPackets.{IsSegment, PacketsAreItsOwn}
use Rattle.tcp_norm.proofs.EraWrites.{fixed_or_passed}
use Rattle.tcp_codec.specs.declared.header.SumRule.TheVariants.{Skip}
use Rattle.tcp_codec.specs.CleanedOptions.{CleansOctets, CleansOnce, StaysWellFormed}
use Rattle.tcp_codec.specs.HeaderFields.{fault_of}
use Rattle.tcp_codec.proofs.Segments.{fault_of-options}
use Rattle.era_state.specs.declared.probe.Probe.{Probe}
use Rattle.tcp_norm.specs.RuleRows as era
use Rattle.tcp_norm.proofs.Packets.{each_packet, IsPlainSegment, own_plain, sent_is}
use Rattle.norm_engine.specs.CertainReading.{IsWholeSegment}
use Rattle.norm_engine.specs.OutgoingFrames.{IsWholePacket}
use Rattle.norm_engine.proofs.Frames.{packet_behind, whole}
use Rattle.norm_engine.proofs.Receivers.{AreOf}

-- The packets that are written for a segment have whole headers.

-- a fact of the packets that are written is one of those in the frames
pub each_frame : (P : List ℕ → Type 0) (link : Link) (frame : List ℕ) (packets : List Packet) → l_short link frame ≡ false
    → AllByRecursion (λ p. P (p.header ++ p.octets)) packets → AllByRecursion (λ f. P (packet_in link f)) (frames_of (link_octets link frame) packets)
each_frame P link frame [] long all = tt
each_frame P link frame (p ∷ ps) long all =
    let here : packet_in link (frame_of (link_octets link frame) p) ≡ p.header ++ p.octets =
    ap (packet_in link) (append_assoc (link_octets link frame) p.header p.octets) ∙ packet_behind link frame (p.header ++ p.octets) long in
    (subst P (sym here) all.0, each_frame P link frame ps long all.1)

-- segments

-- the parts of a segment's header that are judged whatever its checksum
record IsHeaded (m : List ℕ) : Type 0 where
  least : 20 ≤ tcp.header_length m
  inside : tcp.header_length m ≤ length m
  legal : tcp.are_legal (tcp.flags m) ≡ true
  formed : are_well_formed (tcp.options m) ≡ true

whole_of_plain : (hops : ℕ) (p : List ℕ) → Plain hops p → ip.protocol p ≡ 6 → IsWholeSegment p
whole_of_plain hops p plain six =
    let t = plain.message.tcp six in
    record { header = plain.header; protocol = six; least = t.data_offset; inside = t.inside; legal = t.flags; formed = t.options }

whole_packet : (settings : PlainSettings) (d : Datagram) (p : Packet) → IsPacketOf settings d p → d.head.protocol ≡ 6 → IsHeaded p.octets → IsWholeSegment (p.header ++ p.octets)
whole_packet settings d p i six h =
    let back = sym i.carries in
    record {
      header = i.header;
      protocol = i.protocol ∙ six;
      least = subst (λ m. 20 ≤ tcp.header_length m) back h.least;
      inside = subst (λ m. tcp.header_length m ≤ length m) back h.inside;
      legal = ap (λ m. tcp.are_legal (tcp.flags m)) i.carries ∙ h.legal;
      formed = ap (λ m. are_well_formed (tcp.options m)) i.carries ∙ h.formed;
    }

headed_read : (settings : PlainSettings) (d : Datagram) → IsSegment settings d → IsHeaded d.octets
headed_read settings d s = record { least = s.least; inside = s.inside; legal = s.legal; formed = s.formed }

-- a segment with a corrected checksum has a header as long as before
same_header : (m : List ℕ) (value : ℕ) → 16 ≤ length m → tcp.header_length (with_u16 m 16 value) ≡ tcp.header_length m
same_header m value long =
    let size : length (take 16 m) ≡ 16 = length-take-le 16 m long in
    ap (λ x. 4 * (get_or x 12 0 / 16)) (append_assoc (take 16 m) (u16_octets value) (drop 18 m))
    ∙ ap (λ n. 4 * (n / 16)) (get_or-append (take 16 m) (u16_octets value ++ drop 18 m) 0 12 (omega (arith, size)) ∙ get_or-take 16 m 12 0 (omega arith))

headed_mended : MendedSayTheSame → (settings : PlainSettings) (d : Datagram) → IsSegment settings d → IsHeaded (sum_mended d)
headed_mended mends settings d s =
    let m = d.octets in
    let least = s.least in
    let inside = s.inside in
    let same = mends (pseudo_of d) m (omega (arith, least, inside)) least in
    let header : tcp.header_length (sum_mended d) ≡ tcp.header_length m = same_header m (checksum_for (pseudo_of d + word_sum (with_u16 m 16 0))) (omega (arith, least, inside)) in
    let size = same.size in
    record {
      least = omega (arith, header, least);
      inside = omega (arith, header, size, inside);
      legal = ap tcp.are_legal same.flags ∙ s.legal;
      formed = ap are_well_formed same.options ∙ s.formed;
    }

module _ (mends : MendedSayTheSame) (settings : PlainSettings) (ws : List Written) (d : Datagram) (s : IsSegment settings d) (outward : goes_in d.side ≡ false) where
  headed_sent : (mended : List Rule) → IsHeaded (segment_sent ws d mended)
  headed_sent [] = headed_read settings d s
  headed_sent (rule ∷ more) = subst IsHeaded (sym (ap (λ b. cond b (segment_octets (segment_anew ws d)) (sum_mended d)) outward)) (headed_mended mends settings d s)

  headed_own : (fixes mended : List Rule) → IsHeaded (packet_by settings ws d fixes mended).octets
  headed_own [] [] = headed_read settings d s
  headed_own [] (rule ∷ more) = headed_sent (rule ∷ more)
  headed_own (fix ∷ others) mended = headed_sent mended

-- no rule drops an outward segment, and it is written alone

not_dropped : (settings : PlainSettings) (v : View) (d : Datagram) → goes_in d.side ≡ false → outcome_at settings v d ≡ outcome_by settings v d None (mended_by settings v d)
not_dropped settings v d outward = ap (λ b. outcome_by settings v d (cond b (find (holds_era settings v d) era_rows) None) (mended_by settings v d)) outward

alone : (settings : PlainSettings) (v : View) (live : Option ℕ) (head : Ipv4) (header octets : List ℕ) (fixes mended : List Rule)
    → let d : Datagram = record { side = Outward; head = head; header = header; octets = octets; fixes = fixes } in
    (outcome_by settings (record v { era = live }) d None mended).packets ≡ packet_by settings v.segments d fixes mended ∷ []
alone settings v None head header octets fixes mended = refl
alone settings v (Some era) head header octets fixes mended = refl

goes_out : (side : Side) → goes_in side ≡ false → side ≡ Outward
goes_out Inward h = absurd (cc)
goes_out Outward h = refl

outward_packets : (settings : PlainSettings) (v : View) (d : Datagram) → goes_in d.side ≡ false
    → (outcome_at settings v d).packets ≡ packet_by settings v.segments d d.fixes (mended_by settings v d) ∷ []
outward_packets settings v d outward =
    let P : Side → Type 0 = λ side.
    (outcome_at settings v (record d { side = side })).packets
    ≡ packet_by settings v.segments (record d { side = side }) d.fixes (mended_by settings v (record d { side = side })) ∷ [] in
    subst P (sym (goes_out d.side outward)) (alone settings v v.era d.head d.header d.octets d.fixes (mended_by settings v (record d { side = Outward })))

pub outward_written : (settings : PlainSettings) (v : View) (d : Datagram) → goes_in d.side ≡ false → is_written (outcome_at settings v d).verdict ≡ true
outward_written settings v d outward = ap (λ (o : Outcome). is_written o.verdict) (not_dropped settings v d outward) ∙ fixed_or_passed (d.fixes ++ mended_by settings v d)

-- inward ones are plain
whole_of_all : (settings : PlainSettings) (d : Datagram) (packets : List Packet) → d.head.protocol ≡ 6 → AllByRecursion (IsPacketOf settings d) packets
    → AllByRecursion (λ p. Plain settings.hops (p.header ++ p.octets)) packets → AllByRecursion (λ p. IsWholeSegment (p.header ++ p.octets)) packets
whole_of_all settings d [] six own plain = tt
whole_of_all settings d (p ∷ ps) six own plain =
    (whole_of_plain settings.hops (p.header ++ p.octets) plain.0 (own.0.protocol ∙ six), whole_of_all settings d ps six own.1 plain.1)

pub whole_segments : MendedSayTheSame → (settings : PlainSettings) (v : View) (d : Datagram) → IsSegment settings d → AreOf settings d (outcome_at settings v d)
    → (inward : Bool) → goes_in d.side ≡ inward → AllByRecursion (λ p. IsWholeSegment (p.header ++ p.octets)) (outcome_at settings v d).packets
whole_segments mends settings v d s known true goes = whole_of_all settings d (outcome_at settings v d).packets s.protocol known.own (known.plain goes)
whole_segments mends settings v d s known false goes =
    let packets = outward_packets settings v d goes in
    let own = (subst (AllByRecursion (IsPacketOf settings d)) packets known.own).0 in
    subst (AllByRecursion (λ p. IsWholeSegment (p.header ++ p.octets))) (sym packets)
    (whole_packet settings d (packet_by settings v.segments d d.fixes (mended_by settings v d)) own s.protocol (headed_own mends settings v.segments d s goes d.fixes (mended_by settings v d)), tt)

-- The packets that are written for a segment have no fault but in the checksum; after the first
-- there is at most a probe.

-- ---- the packets of a segment

-- a segment that is plain, that was read, or that is one of these with its checksum corrected, has
-- no fault except its checksum
plain_faultless : (d : Datagram) (m : List ℕ) → IsPlainSegment d m → fault_of Skip 0 m ≡ None
plain_faultless d m s = fault_of-options Skip 0 m true s.whole_header s.data_offset s.inside refl s.flags s.options

read_faultless : (settings : PlainSettings) (d : Datagram) → IsSegment settings d → fault_of Skip 0 d.octets ≡ None
read_faultless settings d s =
    let least = s.least in
    let inside = s.inside in
    fault_of-options Skip 0 d.octets true (omega (arith, least, inside)) least inside refl s.legal s.formed

same_word : (m : List ℕ) (value : ℕ) → 20 ≤ length m → slice_index (with_u16 m 16 value) 12 ≡ slice_index m 12
same_word m value long =
    let size : length (take 16 m) ≡ 16 = length-take-le 16 m (omega arith) in
    let more = length-append (take 16 m) (u16_octets value) in
    get_or-append (take 16 m ++ u16_octets value) (drop 18 m) 0 12 (omega (arith, size, more))
    ∙ (get_or-append (take 16 m) (u16_octets value) 0 12 (omega (arith, size)) ∙ get_or-take 16 m 12 0 (omega arith))

mended_faultless : MendedSayTheSame → (settings : PlainSettings) (d : Datagram) → IsSegment settings d → fault_of Skip 0 (sum_mended d) ≡ None
mended_faultless mends settings d s =
    let least = s.least in
    let inside = s.inside in
    let long : 20 ≤ length d.octets = omega (arith, least, inside) in
    let same = mends (era.pseudo_of d) d.octets long least in
    let size = same.size in
    let header : tcp.header_length (sum_mended d) ≡ tcp.header_length d.octets = ap (λ n. 4 * (n / 16)) (same_word d.octets _ long) in
    fault_of-options Skip 0 (sum_mended d) true (omega (arith, size, long)) (omega (arith, header, least)) (omega (arith, header, size, inside)) refl
    (ap tcp.are_legal same.flags ∙ s.legal) (ap are_well_formed same.options ∙ s.formed)

-- the laws of segments that this is based on
pub record SegmentLaws : Type 0 where
  pub back : AreReadBack
  pub octets : CleansOctets
  pub once : CleansOnce
  pub formed : StaysWellFormed
  pub mends : MendedSayTheSame
  pub own : PacketsAreItsOwn

outward_faultless : MendedSayTheSame → (settings : PlainSettings) (ws : List Written) (d : Datagram) → IsSegment settings d → goes_in d.side ≡ false → (mended : List Rule)
    → fault_of Skip 0 (segment_sent ws d mended) ≡ None
outward_faultless mends settings ws d s out [] = read_faultless settings d s
outward_faultless mends settings ws d s out (rule ∷ more) =
    subst (λ b. fault_of Skip 0 (cond b (segment_octets (segment_anew ws d)) (sum_mended d)) ≡ None) (sym out) (mended_faultless mends settings d s)

own_faultless : SegmentLaws → (settings : PlainSettings) (v : View) (d : Datagram) → IsSegment settings d → (inward : Bool) → goes_in d.side ≡ inward
    → fault_of Skip 0 (packet_by settings v.segments d d.fixes (era.mended_by settings v d)).octets ≡ None
own_faultless laws settings v d s true side = plain_faultless d _ (own_plain laws.back laws.octets laws.once laws.formed settings v d s side)
own_faultless laws settings v d s false side =
    subst (λ m. fault_of Skip 0 m ≡ None) (sent_is settings v.segments d d.fixes (era.mended_by settings v d))
    (outward_faultless laws.mends settings v.segments d s side (era.mended_by settings v d))

pub faultless : SegmentLaws → (settings : PlainSettings) (v : View) (d : Datagram) → IsSegment settings d → AllByRecursion (λ p. fault_of Skip 0 p.octets ≡ None) (outcome_at settings v d).packets
faultless laws settings v d s =
    each_packet (λ p. fault_of Skip 0 p.octets ≡ None) settings v d (λ probe. refl) (own_faultless laws settings v d s (goes_in d.side) refl)

pub wholes : (settings : PlainSettings) (d : Datagram) (packets : List Packet) → AllByRecursion (IsPacketOf settings d) packets → AllByRecursion (λ p. fault_of Skip 0 p.octets ≡ None) packets
    → AllByRecursion (λ p. IsWholePacket (whole p)) packets
wholes settings d [] own none = tt
wholes settings d (p ∷ ps) own none = (record { header = own.0.header; segment = λ six. ap (fault_of Skip 0) own.0.carries ∙ none.0 }, wholes settings d ps own.1 none.1)

-- after the first packet of a segment there is at most a probe
pub behind_first : (settings : PlainSettings) (v : View) (d : Datagram) → AllByRecursion (λ p. length (whole p) ≡ 40) (drop 1 (outcome_at settings v d).packets)
behind_first settings v d = by (era.dropped_by settings v d)
  where
    probe : (probe : Option Probe) → AllByRecursion (λ p. length (whole p) ≡ 40) (probe_packets settings d probe)
    probe None = tt
    probe (Some p) = (refl, tt)

    none : (probe : Option Probe) → AllByRecursion (λ p. length (whole p) ≡ 40) (drop 1 (probe_packets settings d probe))
    none None = tt
    none (Some p) = tt

    passed : (asked reset : Bool) (own : Packet) (cold : Packet) (probe_of : Option Probe)
        → AllByRecursion (λ p. length (whole p) ≡ 40) (drop 1 (cond asked (cold ∷ []) (own ∷ cond reset (probe_packets settings d probe_of) [])))
    passed true reset own cold probe_of = tt
    passed false true own cold probe_of = probe probe_of
    passed false false own cold probe_of = tt

    by : (rule : Option Rule) → AllByRecursion (λ p. length (whole p) ≡ 40) (drop 1 (outcome_by settings v d rule (era.mended_by settings v d)).packets)
    by None = passed _ _ _ _ _
    by (Some rule) = none _
