-- The packets sent for a datagram, probes and its own: fields fit their widths, those inwards are
-- plain.
use Rattle.std.proofs.Common.{◌≡◌, ℕ, ◌+◌, ◌-◌, ◌%◌, ◌^◌, ◌<◌, ◌≤◌, Bool, cond, List, length, pos, ◌+ℤ◌, arith, ◌&&◌, not, true, false, [], ◌∷◌, ◌++◌, Option, Some, None, refl, ◌||◌, take, max, min, ℤ, negsuc, inl, inr, sym, ap, ap₂, subst, ◌∙◌, slice_index, nat_lt, length-take-le, length-drop}
use Rattle.std.specs.List.{AllByRecursion}
use Rattle.std.proofs.lemmas.Int.{ints}
use Rattle.std.proofs.lemmas.Bool.{or_parts}
use Rattle.wire_base.specs.Tcp as tcp
use Rattle.wire_base.specs.Numbers.{u16_at, u32_at}
use Rattle.wire_base.specs.Segments.{Written}
use Rattle.tcp_codec.specs.WrittenSegment.{Fits, segment_octets, AreReadBack}
use Rattle.era_state.specs.Offsets.{nat_of}
use Rattle.era_state.specs.Quantities.{base_at}
use Rattle.era_state.specs.ForwardedOctets.{bounds_of, offset_of, low, high, keeps_fin, frame_sequence_of, Bounds, reach}
use Rattle.ip_rules.specs.Datagrams.{Datagram, Packet, AnewIsPacket, IsPacketOf, goes_in}
use Rattle.rule_book.specs.declared.rule.Rule.{Rule}
use Rattle.norm_settings.specs.SettingValues.{PlainSettings}
use Rattle.era_state.specs.declared.probe.Probe.{Probe}
use Rattle.cold_start.specs.Rules.{cold_probe_of, is_asked}
use Rattle.reset_probe.specs.Rules.{era_probe}
use Rattle.tcp_codec.specs.CleanedOptions.{CleansOctets, CleansOnce, StaysWellFormed}
use Rattle.tcp_codec.specs.MendedSegment.{MendedSayTheSame}
use Rattle.wire_base.specs.Checksums.{sum_is_right, pseudo_sum}
use Rattle.wire_base.specs.Options.{are_well_formed, cleaned}
use Rattle.wire_base.specs.Plain.{Plain, IsPlainTcp}
use Rattle.tcp_codec.specs.declared.header.Tcp.{Tcp}
use Rattle.ip_rules.proofs.Lists.{none_named}
use Rattle.tcp_norm.specs.working.ReadHeads.{AreBits}
use Rattle.tcp_norm.specs.Calls.{segment_in, is_written}
use Rattle.tcp_norm.specs.RuleRows.{options_sent, is_live, dropped_by, mended_by, pseudo_of, mends, holds_era, bare_mends, header_mends, stream_mends}
use Rattle.tcp_norm.specs.EmittedPackets.{without_flag, segment_with, bare_segment, stream_segment, is_fin_kept, octets_sent, packet_by, probe_packet, probe_packets, probe_dropped, segment_sent, segment_anew, sum_mended, flags_cleared}
use Rattle.tcp_norm.specs.RuleViews.{View}
use Rattle.tcp_norm.specs.Outcomes.{outcome_at, outcome_by}
use Rattle.tcp_norm.specs.SegmentPackets.{ProbesAreSilent, IsSilentPacket, IsSegment}
use Rattle.tcp_norm.proofs.EraWrites.{fixed_or_passed}
use Rattle.tcp_norm.proofs.BareSegments.{written_long, behind, empty}
use Rattle.tcp_norm.proofs.SegmentRules.{sent_long, flags_stay, header_stays, legal_stays, less, other_flag}
use Rattle.linked_table.proofs.Lists.{all_after, all_before}

-- The fields of a rewritten segment fit their widths.

-- The fields of a rewritten segment fit their widths.

two : (m : List ℕ) (at : ℕ) → ((i : ℕ) → slice_index m i < 256) → u16_at m at < 2 ^ 16
two m at fits = let a = fits at in let b = fits (at + 1) in omega (arith, a, b)

four : (m : List ℕ) (at : ℕ) → ((i : ℕ) → slice_index m i < 256) → u32_at m at < 2 ^ 32
four m at fits = let a = two m at fits in let b = two m (at + 2) fits in omega (arith, a, b)

pub number_fits : (d : Datagram) → AreBits d.head d.octets → (segment_in d).seq < 2 ^ 32
number_fits d real = four d.octets 4 real.each

fits_with : (d : Datagram) (sequence flags : ℕ) (octets : List ℕ) → AreBits d.head d.octets → sequence < 2 ^ 32 → flags < 256 → length (options_sent d) % 4 ≡ 0 → length (options_sent d) ≤ 40
    → 20 + length (options_sent d) + length octets ≤ 65515 → Fits (segment_with d sequence flags octets)
fits_with d sequence flags octets real number marks words few size = record {
  source = real.source;
  destination = real.destination;
  source_port = two d.octets 0 real.each;
  destination_port = two d.octets 2 real.each;
  sequence = number;
  acknowledgment = four d.octets 8 real.each;
  flags = (flags_stay flags).fits marks;
  window = two d.octets 14 real.each;
  words = words;
  room = few;
  size = size;
}

pub bare_fits : (d : Datagram) → AreBits d.head d.octets → length (options_sent d) % 4 ≡ 0 → length (options_sent d) ≤ 40 → Fits (bare_segment d)
bare_fits d real words few = fits_with d (segment_in d).seq (segment_in d).flags [] real (number_fits d real) (real.each 13) words few (omega (arith, few))

sequence_fits : (ws : List Written) (w : Written) → w.seq < 2 ^ 32 → frame_sequence_of ws w < 2 ^ 32
sequence_fits ws w fits =
    cases (nat_lt (low (bounds_of ws) (offset_of ws w.seq)) (high (bounds_of ws) (offset_of ws w.seq) (length w.octets)))
    (keeps_fin (bounds_of ws) (offset_of ws w.seq) (length w.octets) (tcp.has_fin w.flags))
  where
    cases : (a b : Bool) → cond a ((base_at ws + low (bounds_of ws) (offset_of ws w.seq)) % 2 ^ 32) (cond b ((base_at ws + nat_of (offset_of ws w.seq +ℤ pos (length w.octets))) % 2 ^ 32) w.seq) < 2 ^ 32
    cases true b = omega arith
    cases false true = omega arith
    cases false false = fits

pub stream_fits : (ws : List Written) (d : Datagram) → AreBits d.head d.octets → length (options_sent d) % 4 ≡ 0 → length (options_sent d) ≤ 40
    → 20 + length (options_sent d) + length (octets_sent ws (segment_in d)) ≤ 65515 → Fits (stream_segment ws d)
stream_fits ws d real words few size =
    fits_with d (frame_sequence_of ws (segment_in d)) _ (octets_sent ws (segment_in d)) real (sequence_fits ws (segment_in d) (number_fits d real)) (flags (is_fin_kept ws (segment_in d))) words few size
  where
    flags : (b : Bool) → cond b (segment_in d).flags (without_flag 1 (segment_in d).flags) < 256
    flags true = real.each 13
    flags false = less 1 (segment_in d).flags (real.each 13)

-- The packets sent for a datagram: probes and its own; those that go inwards are plain.

-- What holds for each packet that goes out for a datagram: probes, and its own.

of_probe : (P : Packet → Type 0) (settings : PlainSettings) (d : Datagram) → ((probe : Probe) → P (probe_packet settings d probe)) → (probe : Option Probe) → AllByRecursion P (probe_packets settings d probe)
of_probe P settings d probes None = tt
of_probe P settings d probes (Some probe) = (probes probe, tt)

pub each_packet : (P : Packet → Type 0) (settings : PlainSettings) (v : View) (d : Datagram) → ((probe : Probe) → P (probe_packet settings d probe))
    → P (packet_by settings v.segments d d.fixes (mended_by settings v d)) → AllByRecursion P (outcome_at settings v d).packets
each_packet P settings v d probes own = by (dropped_by settings v d)
  where
    passed : (asked reset : Bool)
        → AllByRecursion P (cond asked (probe_packet settings d (cold_probe_of (segment_in d)) ∷ [])
        (packet_by settings v.segments d d.fixes (mended_by settings v d) ∷ cond reset (probe_packets settings d (era_probe v.segments (segment_in d))) []))
    passed true reset = (probes (cold_probe_of (segment_in d)), tt)
    passed false true = (own, of_probe P settings d probes (era_probe v.segments (segment_in d)))
    passed false false = (own, tt)

    by : (rule : Option Rule) → AllByRecursion P (outcome_by settings v d rule (mended_by settings v d)).packets
    by None = passed (not (is_live v) && is_asked (segment_in d)) (is_live v && (segment_in d).inward && tcp.has_rst (segment_in d).flags)
    by (Some rule) = of_probe P settings d probes (probe_dropped v d rule)

silent : (settings : PlainSettings) (v : View) (d : Datagram) (rule : Option Rule) (mended : List Rule)
    → is_written (outcome_by settings v d rule mended).verdict ≡ false → AllByRecursion IsSilentPacket (outcome_by settings v d rule mended).packets
silent settings v d None mended e = let written = fixed_or_passed (d.fixes ++ mended) in cc
silent settings v d (Some rule) mended e = of_probe IsSilentPacket settings d (λ probe. record { octets = refl; no_syn = refl; no_fin = refl }) (probe_dropped v d rule)

pub probes_silent : ProbesAreSilent
probes_silent settings v d unwritten = silent settings v d (dropped_by settings v d) (mended_by settings v d) unwritten

-- The packet of a datagram itself is one of it.

-- no more octets are sent than arrived
kept_few : (b : Bounds) (at : ℤ) (len : ℕ) → high b at len - low b at ≤ len
kept_few b (pos n) len = omega arith
kept_few b (negsuc n) len = span (low b (negsuc n)) (nat_of (negsuc n +ℤ pos len)) (reach b) (ends_near (negsuc n +ℤ pos len) refl)
  where
    ends_near : (z : ℤ) → (negsuc n +ℤ pos len) ≡ z → nat_of z ≤ len
    ends_near (pos k) is = omega (arith, ints)
    ends_near (negsuc k) is = omega arith

    span : (from end most : ℕ) → end ≤ len → max from (min end most) - from ≤ len
    span from end most near = omega arith

pub sent_few : (ws : List Written) (w : Written) → length (octets_sent ws w) ≤ length w.octets
sent_few ws w =
    let long = sent_long ws w in
    let few = kept_few (bounds_of ws) (offset_of ws w.seq) (length w.octets) in
    omega (arith, long, few)

-- the sizes of the parts of a segment, of its cleaned options, and of its octets
pub record AreParted (d : Datagram) : Type 0 where
  pub words : length (options_sent d) % 4 ≡ 0
  pub few : length (options_sent d) ≤ 40
  pub whole : 20 + length (options_sent d) + length (tcp.payload d.octets) ≡ length d.octets

pub parted : CleansOctets → (settings : PlainSettings) (d : Datagram) → IsSegment settings d → AreParted d
parted cleans settings d s =
    let m = d.octets in
    let cleaned = (cleans (tcp.has_syn (tcp.flags m)) (tcp.options m)).size in
    let front = length-take-le (tcp.header_length m) m s.inside in
    let options = length-drop 20 (take (tcp.header_length m) m) in
    let octets = length-drop (tcp.header_length m) m in
    let word = s.known.each 12 in
    let least = s.least in
    let inside = s.inside in
    record {
      words = omega (arith, cleaned, front, options, least);
      few = omega (arith, cleaned, front, options, word);
      whole = omega (arith, cleaned, front, options, octets, least, inside);
    }

pub bits : (settings : PlainSettings) (d : Datagram) → IsSegment settings d → AreBits d.head d.octets
bits settings d s = record { source = s.known.sizes.source; destination = s.known.sizes.destination; each = s.known.each }

pub bare_fits_here : CleansOctets → (settings : PlainSettings) (d : Datagram) → IsSegment settings d → Fits (bare_segment d)
bare_fits_here cleans settings d s = let p = parted cleans settings d s in bare_fits d (bits settings d s) p.words p.few

pub stream_fits_here : CleansOctets → (settings : PlainSettings) (ws : List Written) (d : Datagram) → IsSegment settings d → Fits (stream_segment ws d)
stream_fits_here cleans settings ws d s =
    let p = parted cleans settings d s in
    let few = sent_few ws (segment_in d) in
    let short = s.known.short in
    stream_fits ws d (bits settings d s) p.words p.few (omega (arith, p.whole, few, short))

-- what goes out of the segment fits after a header of 20 octets
sent_short : CleansOctets → MendedSayTheSame → (settings : PlainSettings) (ws : List Written) (d : Datagram) → IsSegment settings d → (mended : List Rule) → length (segment_sent ws d mended) ≤ 65515
sent_short cleans mends settings ws d s [] = s.known.short
sent_short cleans mends settings ws d s (rule ∷ more) = side (goes_in d.side)
  where
    short : length d.octets ≤ 65515
    short = s.known.short

    anew : (marked : Bool) → length (segment_octets (cond marked (bare_segment d) (stream_segment ws d))) ≤ 65515
    anew true = let fits = (bare_fits_here cleans settings d s).size in omega (arith, fits, written_long (bare_segment d))
    anew false = let fits = (stream_fits_here cleans settings ws d s).size in omega (arith, fits, written_long (stream_segment ws d))

    side : (inward : Bool) → length (cond inward (segment_octets (segment_anew ws d)) (sum_mended d)) ≤ 65515
    side true = anew (tcp.has_syn (segment_in d).flags || tcp.has_rst (segment_in d).flags)
    side false =
        let least = s.least in
        let inside = s.inside in
        let same = (mends (pseudo_of d) d.octets (omega (arith, least, inside)) least).size in
        omega (arith, same, short)

pub own_packet : AnewIsPacket → CleansOctets → MendedSayTheSame → (settings : PlainSettings) (ws : List Written) (d : Datagram) → settings.hops ≤ 254 → IsSegment settings d
    → (fixes mended : List Rule) → d.fixes ≡ fixes → IsPacketOf settings d (packet_by settings ws d fixes mended)
own_packet anews cleans mends settings ws d hops s [] [] is = s.known.whole is
own_packet anews cleans mends settings ws d hops s [] (rule ∷ more) is = anews settings d (segment_sent ws d (rule ∷ more)) hops s.known.sizes (sent_short cleans mends settings ws d s (rule ∷ more))
own_packet anews cleans mends settings ws d hops s (fix ∷ others) mended is = anews settings d (segment_sent ws d mended) hops s.known.sizes (sent_short cleans mends settings ws d s mended)

-- What goes inwards of a segment is read alike by every host.

-- a segment between the addresses of the datagram that is plain
pub record IsPlainSegment (d : Datagram) (m : List ℕ) : Type 0 where
  pub whole_header : 20 ≤ length m
  pub data_offset : 20 ≤ tcp.header_length m
  pub inside : tcp.header_length m ≤ length m
  pub sum : sum_is_right m (pseudo_sum d.head.src.0 d.head.dst.0 6 (length m)) ≡ true
  pub flags : tcp.are_legal (tcp.flags m) ≡ true
  pub reserved : tcp.reserved m ≡ 0
  pub urgent : tcp.has_urg (tcp.flags m) ≡ false
  pub pointer : tcp.urgent_pointer m ≡ 0
  pub options : are_well_formed (tcp.options m) ≡ true
  pub kept : cleaned (tcp.has_syn (tcp.flags m)) (tcp.options m) ≡ tcp.options m
  pub bare : (tcp.has_syn (tcp.flags m) || tcp.has_rst (tcp.flags m)) ≡ true → tcp.payload m ≡ []

tcp_plain : (settings : PlainSettings) (d : Datagram) (p : Packet) → IsPacketOf settings d p → d.head.protocol ≡ 6 → IsPlainSegment d p.octets → IsPlainTcp (p.header ++ p.octets)
tcp_plain settings d p i six s =
    let back = sym i.carries in
    record {
      whole_header = subst (λ m. 20 ≤ length m) back s.whole_header;
      data_offset = subst (λ m. 20 ≤ tcp.header_length m) back s.data_offset;
      inside = subst (λ m. tcp.header_length m ≤ length m) back s.inside;
      sum = (λ k. sum_is_right (i.carries k) (pseudo_sum (i.source k) (i.destination k) ((i.protocol ∙ six) k) (length (i.carries k)))) ∙ s.sum;
      flags = ap (λ m. tcp.are_legal (tcp.flags m)) i.carries ∙ s.flags;
      reserved = ap tcp.reserved i.carries ∙ s.reserved;
      urgent = ap (λ m. tcp.has_urg (tcp.flags m)) i.carries ∙ s.urgent;
      pointer = ap tcp.urgent_pointer i.carries ∙ s.pointer;
      options = ap (λ m. are_well_formed (tcp.options m)) i.carries ∙ s.options;
      kept = subst (λ m. cleaned (tcp.has_syn (tcp.flags m)) (tcp.options m) ≡ tcp.options m) back s.kept;
      bare = λ marked. ap tcp.payload i.carries ∙ s.bare (ap (λ m. tcp.has_syn (tcp.flags m) || tcp.has_rst (tcp.flags m)) back ∙ marked);
    }

pub plain_packet : (settings : PlainSettings) (d : Datagram) (p : Packet) → IsPacketOf settings d p → d.head.protocol ≡ 6 → goes_in d.side ≡ true → IsPlainSegment d p.octets
    → Plain settings.hops (p.header ++ p.octets)
plain_packet settings d p i six side s =
    let protocol = i.protocol ∙ six in
    record {
      header = i.header;
      passes = i.passes side;
      message = record {
        protocol = inr (inl protocol);
        icmp = λ f. absurd (omega (arith, protocol, f));
        tcp = λ f. tcp_plain settings d p i six s;
        udp = λ f. absurd (omega (arith, protocol, f));
      };
    }

-- as it was read, where no rule rewrites it
read_plain : (settings : PlainSettings) (v : View) (d : Datagram) → IsSegment settings d → goes_in d.side ≡ true → mended_by settings v d ≡ [] → IsPlainSegment d d.octets
read_plain settings v d s side none =
    let m = d.octets in
    let rows = none_named (holds_era settings v d) mends none in
    let holds_not : Rule → Type 0 = λ rule. holds_era settings v d rule ≡ false in
    let stays = header_stays settings v d side (all_before holds_not header_mends (bare_mends ++ stream_mends) rows.1) in
    let strip = (all_after holds_not header_mends (bare_mends ++ stream_mends) rows.1).0 in
    let marked = tcp.has_syn (tcp.flags m) || tcp.has_rst (tcp.flags m) in
    let least = s.least in
    let inside = s.inside in
    record {
      whole_header = omega (arith, least, inside);
      data_offset = s.least;
      inside = s.inside;
      sum = s.sum side;
      flags = s.legal;
      reserved = stays.reserved;
      urgent = stays.urgent;
      pointer = stays.pointer;
      options = s.formed;
      kept = stays.options;
      bare = λ is. empty (tcp.payload m) (behind (goes_in d.side && marked) _ (ap₂ (λ a b. a && b) side is) strip);
    }

-- what is kept of flags with neither SYN nor RST
pub record GoOn (x y : ℕ) : Type 0 where
  pub legal : tcp.are_legal y ≡ tcp.are_legal x
  pub syn : tcp.has_syn y ≡ false
  pub rst : tcp.has_rst y ≡ false

ended : (x : ℕ) → tcp.has_syn x ≡ false → tcp.has_rst x ≡ false → GoOn x (without_flag 1 x)
ended x no_syn no_rst =
    let syn = other_flag 1 2 x (λ h. omega arith) ∙ no_syn in
    let rst = other_flag 1 4 x (λ h. omega arith) ∙ no_rst in
    let ack = other_flag 1 16 x (λ h. omega arith) in
    record {
      legal = (λ k. tcp.go_together (syn k) (tcp.has_fin (without_flag 1 x)) (rst k) (ack k)) ∙ (λ k. tcp.go_together (sym no_syn k) (tcp.has_fin x) (sym no_rst k) (tcp.has_ack x));
      syn = syn;
      rst = rst;
    }

flags_kept : (kept : Bool) (x : ℕ) → tcp.has_syn x ≡ false → tcp.has_rst x ≡ false → GoOn x (cond kept x (without_flag 1 x))
flags_kept true x no_syn no_rst = record { legal = refl; syn = no_syn; rst = no_rst }
flags_kept false x no_syn no_rst = ended x no_syn no_rst

-- a segment that is rewritten, with flags that go together
written_plain : AreReadBack → CleansOnce → StaysWellFormed → (settings : PlainSettings) (d : Datagram) (sequence flags : ℕ) (octets : List ℕ) → IsSegment settings d
    → Fits (segment_with d sequence flags octets) → tcp.are_legal flags ≡ true → tcp.has_syn flags ≡ tcp.has_syn (tcp.flags d.octets)
    → ((tcp.has_syn flags || tcp.has_rst flags) ≡ true → octets ≡ []) → IsPlainSegment d (segment_octets (segment_with d sequence flags octets))
written_plain back once stays settings d sequence flags octets s fits legal syn bare =
    let g = segment_with d sequence flags octets in
    let m = segment_octets g in
    let it = back g fits in
    let long = written_long g in
    let header : tcp.header_length m ≡ 20 + length (options_sent d) = ap (λ (h : Tcp). h.header) it.header in
    let sent : tcp.flags m ≡ flags_cleared flags = ap (λ (h : Tcp). h.flags.0) it.header in
    let syn_sent : tcp.has_syn (tcp.flags m) ≡ tcp.has_syn flags = ap tcp.has_syn sent ∙ (flags_stay flags).syn in
    let rst_sent : tcp.has_rst (tcp.flags m) ≡ tcp.has_rst flags = ap tcp.has_rst sent ∙ (flags_stay flags).rst in
    record {
      whole_header = omega (arith, long);
      data_offset = omega (arith, header);
      inside = omega (arith, header, long);
      sum = ap (λ n. sum_is_right m (pseudo_sum d.head.src.0 d.head.dst.0 6 n)) long ∙ ap (λ (h : Tcp). h.sum_right) it.header;
      flags = ap tcp.are_legal sent ∙ (legal_stays flags ∙ legal);
      reserved = ap (λ (h : Tcp). h.reserved) it.header;
      urgent = ap tcp.has_urg sent ∙ (flags_stay flags).urgent;
      pointer = ap (λ (h : Tcp). h.urgent) it.header;
      options = ap are_well_formed it.options ∙ stays (tcp.has_syn (tcp.flags d.octets)) (tcp.options d.octets) s.formed;
      kept = (λ k. cleaned ((syn_sent ∙ syn) k) (it.options k)) ∙ (once (tcp.has_syn (tcp.flags d.octets)) (tcp.options d.octets) ∙ sym it.options);
      bare = λ marked. it.octets ∙ bare (ap₂ (λ a b. a || b) (sym syn_sent) (sym rst_sent) ∙ marked);
    }

anew_plain : AreReadBack → CleansOctets → CleansOnce → StaysWellFormed → (settings : PlainSettings) (ws : List Written) (d : Datagram) → IsSegment settings d
    → IsPlainSegment d (segment_octets (segment_anew ws d))
anew_plain back cleans once stays settings ws d s = cases (tcp.has_syn (tcp.flags d.octets) || tcp.has_rst (tcp.flags d.octets)) refl
  where
    cases : (marked : Bool) → (tcp.has_syn (tcp.flags d.octets) || tcp.has_rst (tcp.flags d.octets)) ≡ marked
        → IsPlainSegment d (segment_octets (cond marked (bare_segment d) (stream_segment ws d)))
    cases true is =
        written_plain back once stays settings d (tcp.sequence d.octets) (tcp.flags d.octets) [] s (bare_fits_here cleans settings d s) s.legal refl (λ marked. refl)
    cases false is =
        let none = or_parts (tcp.has_syn (tcp.flags d.octets)) (tcp.has_rst (tcp.flags d.octets)) is in
        let go = flags_kept (is_fin_kept ws (segment_in d)) (tcp.flags d.octets) none.0 none.1 in
        written_plain back once stays settings d _ _ (octets_sent ws (segment_in d)) s (stream_fits_here cleans settings ws d s) (go.legal ∙ s.legal) (go.syn ∙ sym none.0)
        (λ marked. let unmarked = ap₂ (λ a b. a || b) go.syn go.rst in cc)

-- what goes inwards of the segment
sent_plain : AreReadBack → CleansOctets → CleansOnce → StaysWellFormed → (settings : PlainSettings) (v : View) (d : Datagram) → IsSegment settings d → goes_in d.side ≡ true
    → (mended : List Rule) → mended_by settings v d ≡ mended → IsPlainSegment d (segment_sent v.segments d mended)
sent_plain back cleans once stays settings v d s side [] none = read_plain settings v d s side none
sent_plain back cleans once stays settings v d s side (rule ∷ more) some =
    subst (λ b. IsPlainSegment d (cond b (segment_octets (segment_anew v.segments d)) (sum_mended d))) (sym side) (anew_plain back cleans once stays settings v.segments d s)

pub sent_is : (settings : PlainSettings) (ws : List Written) (d : Datagram) (fixes mended : List Rule) → segment_sent ws d mended ≡ (packet_by settings ws d fixes mended).octets
sent_is settings ws d [] [] = refl
sent_is settings ws d [] (rule ∷ more) = refl
sent_is settings ws d (fix ∷ others) mended = refl

pub own_plain : AreReadBack → CleansOctets → CleansOnce → StaysWellFormed → (settings : PlainSettings) (v : View) (d : Datagram) → IsSegment settings d → goes_in d.side ≡ true
    → IsPlainSegment d (packet_by settings v.segments d d.fixes (mended_by settings v d)).octets
own_plain back cleans once stays settings v d s side =
    subst (IsPlainSegment d) (sent_is settings v.segments d d.fixes (mended_by settings v d)) (sent_plain back cleans once stays settings v d s side (mended_by settings v d) refl)
