-- An outbound datagram goes out, with its checksum corrected if that is left to the sender's card.
use Rattle.std.proofs.Common.{◌≡◌, ℕ, ◌&&◌, ◌≤◌, not, Bool, true, false, cond, List, [], ◌∷◌, ◌++◌, length, None, refl, sym, ap, ap₂, subst, ◌∙◌, ◌==◌, find, append-nil, Option, Some}
use Rattle.wire_base.specs.Tcp as tcp
use Rattle.wire_base.specs.Segments.{Written}
use Rattle.wire_base.specs.Options.{scale_of}
use Rattle.wire_base.specs.Checksums.{pseudo_sum, sum_is_right}
use Rattle.wire_base.specs.declared.address.Side.TheVariants.{Outward, Inward}
use Rattle.wire_base.specs.declared.address.FlowKey.{FlowKey}
use Rattle.ip_rules.specs.declared.rows.IpPacket.{IpPacket}
use Rattle.tcp_codec.specs.declared.header.Tcp.{Tcp}
use Rattle.tcp_codec.specs.HeaderFields.{fields_of}
use Rattle.era_state.specs.declared.segment.Seg.{Seg}
use Rattle.era_state.specs.SegmentFields.{sent}
use Rattle.ip_rules.specs.Datagrams.{Datagram, goes_in, IsDatagram, head_sent, anew, frames_of}
use Rattle.rule_book.specs.declared.rule.Rule.{Rule}
use Rattle.rule_book.specs.declared.rule.Rule.TheVariants as rules
use Rattle.rule_book.specs.Rules.{era_rows}
use Rattle.norm_settings.specs.SettingValues.{PlainSettings}
use Rattle.tcp_codec.specs.MendedSegment.{SaysTheSame, MendedSayTheSame, mended}
use Rattle.era_state.specs.Quantities.{out}
use Rattle.cold_start.specs.Rules.{is_asked, cold_probe_of}
use Rattle.reset_probe.specs.Rules.{era_probe}
use Rattle.ip_rules.specs.JudgedRecord.{where_holds}
use Rattle.ipv4_codec.specs.declared.header.Ipv4.{Ipv4}
use Rattle.ipv4_codec.specs.WrittenHeader.{plain_header}
use Rattle.tcp_codec.specs.WrittenSegment.{segment_octets}
use Rattle.tcp_norm.specs.declared.step.Step.{Step}
use Rattle.tcp_norm.specs.Calls.{read, segment_in, key_at}
use Rattle.tcp_norm.specs.RuleViews.{View}
use Rattle.tcp_norm.specs.RuleRows.{is_live, holds_era, dropped_by, mended_by, noted, t_sum_out, pseudo_of, bare_mends, header_mends, stream_mends}
use Rattle.tcp_norm.specs.EmittedPackets.{packet_by, packets_passed, probe_packet, probe_packets, segment_sent, sum_mended, segment_anew}
use Rattle.tcp_norm.specs.Outcomes.{outcome_at, outcome_by, verdict_of}
use Rattle.tcp_norm.specs.working.EraSteps.{IsStep, Does, Sends}
use Rattle.tcp_norm.specs.working.InwardSegments.{passed}
use Rattle.tcp_norm.specs.SegmentHeads.{IsHead}
use Rattle.tcp_norm.specs.working.ReadHeads.{IsRead}
use Rattle.tcp_norm.proofs.EraWrites.{fixed_or_passed}
use Rattle.tcp_norm.proofs.InboundSegments.{not_empty}
use Rattle.wire_base.specs.declared.address.Side.{Side}
use Rattle.std.specs.Prelude.{filter}
use Rattle.tcp_norm.proofs.SegmentRules.{one_more}

-- What becomes of an outbound datagram: it goes out, with its checksum corrected where that is
-- wrong and left to the sender's interface.

-- of the rules that rewrite only T_SUM_OUT may hold
others : (settings : PlainSettings) (v : View) (d : Datagram) → goes_in d.side ≡ false → filter (holds_era settings v d) (header_mends ++ (bare_mends ++ stream_mends)) ≡ []
others settings v d out = by d.side v.era out
  where
    by : (side : Side) (live : Option ℕ) → goes_in side ≡ false
        → filter (holds_era settings (record v { era = live }) (record d { side = side })) (header_mends ++ (bare_mends ++ stream_mends)) ≡ []
    by Inward live out = cc
    by Outward None out = refl
    by Outward (Some era) out = refl

pub out_mended : (settings : PlainSettings) (v : View) (d : Datagram) (wrong : Bool) → goes_in d.side ≡ false → t_sum_out settings d ≡ wrong
    → mended_by settings v d ≡ where_holds wrong rules.TSumOut
out_mended settings v d wrong side sum =
    one_more (holds_era settings v d) rules.TSumOut (header_mends ++ (bare_mends ++ stream_mends))
    ∙ (ap₂ (λ b l. where_holds b rules.TSumOut ++ l) sum (others settings v d side) ∙ append-nil (where_holds wrong rules.TSumOut))

-- its packets: its own alone
own_alone : (settings : PlainSettings) (v : View) (d : Datagram) (named : List Rule) → goes_in d.side ≡ false
    → packets_passed settings v d named ≡ packet_by settings v.segments d d.fixes named ∷ []
own_alone settings v d named side = cases (is_live v) (is_asked (segment_in d)) (segment_in d).inward asked side
  where
    asked : is_asked (segment_in d) ≡ false
    asked = rw side refl

    cases : (l x i : Bool) → x ≡ false → i ≡ false
        → cond (not l && x) (probe_packet settings d (cold_probe_of (segment_in d)) ∷ [])
        (packet_by settings v.segments d d.fixes named ∷ cond (l && i && tcp.has_rst (segment_in d).flags) (probe_packets settings d (era_probe v.segments (segment_in d))) [])
        ≡ packet_by settings v.segments d d.fixes named ∷ []
    cases true x i e f = rw f refl
    cases false x i e f = rw e refl

-- its outcome, by what it does to the eras
pub out_outcome : (settings : PlainSettings) (v : View) (d : Datagram) (s : Step) (wrong : Bool) → goes_in d.side ≡ false → t_sum_out settings d ≡ wrong → IsStep v (segment_in d) s
    → outcome_at settings v d ≡ passed s d.fixes (where_holds wrong rules.TSumOut) (packet_by settings v.segments d d.fixes (where_holds wrong rules.TSumOut) ∷ [])
out_outcome settings v d s wrong side sum is =
    let named = where_holds wrong rules.TSumOut in
    let dropped : dropped_by settings v d ≡ None = ap (λ b. cond b (find (holds_era settings v d) era_rows) None) side in
    let note : noted v d ≡ where_holds s.full rules.TFull = ap₂ (λ b f. cond (not b && f) (rules.TFull ∷ []) []) side (sym is.full_is) in
    ap₂ (outcome_by settings v d) dropped (out_mended settings v d wrong side sum)
    ∙ (λ k. record {
      verdict = verdict_of (d.fixes ++ named);
      rules = note k ++ d.fixes ++ named;
      era = (sym is.era_is) k;
      begun = (sym is.begun_is) k;
      ended = (sym is.ended_is) k;
      packets = own_alone settings v d named side k;
    })

-- a segment that says the same is read the same
read_same : (inward : Bool) (a b : List ℕ) → SaysTheSame a b → read inward a ≡ read inward b
read_same inward a b same = λ k. record {
  inward = inward;
  seq = same.sequence k;
  ack = same.acknowledgment k;
  flags = same.flags k;
  window = same.window k;
  scale = scale_of (same.options k);
  octets = same.payload k;
}

-- what is read of its packet is its segment
sent_segment : MendedSayTheSame → (settings : PlainSettings) (ws : List Written) (d : Datagram) (wrong : Bool) → goes_in d.side ≡ false → 20 ≤ length d.octets → 20 ≤ tcp.header_length d.octets
    → read false (packet_by settings ws d d.fixes (where_holds wrong rules.TSumOut)).octets ≡ read false d.octets
sent_segment law settings ws d wrong side long words = cases d.fixes wrong
  where
    summed : segment_sent ws d (rules.TSumOut ∷ []) ≡ sum_mended d
    summed = rw side refl

    cases : (fixes : List Rule) (b : Bool) → read false (packet_by settings ws d fixes (where_holds b rules.TSumOut)).octets ≡ read false d.octets
    cases [] false = refl
    cases (x ∷ xs) false = refl
    cases [] true = ap (read false) summed ∙ read_same false (sum_mended d) d.octets (law (pseudo_of d) d.octets long words)
    cases (x ∷ xs) true = ap (read false) summed ∙ read_same false (sum_mended d) d.octets (law (pseudo_of d) d.octets long words)

pub out_does : MendedSayTheSame → (settings : PlainSettings) (v : View) (d : Datagram) (s : Step) (wrong : Bool) → goes_in d.side ≡ false → t_sum_out settings d ≡ wrong → IsStep v (segment_in d) s
    → 20 ≤ length d.octets → 20 ≤ tcp.header_length d.octets → Does d (segment_in d) s (outcome_at settings v d)
out_does law settings v d s wrong side sum is long words =
    subst (Does d (segment_in d) s) (sym (out_outcome settings v d s wrong side sum is))
    (record {
      written = fixed_or_passed (d.fixes ++ where_holds wrong rules.TSumOut);
      era_is = refl;
      begun_is = refl;
      ended_are = refl;
      packets_are = ap (λ w. w ∷ []) (ap (λ b. read b (packet_by settings v.segments d d.fixes (where_holds wrong rules.TSumOut)).octets) side
          ∙ (sent_segment law settings v.segments d wrong side long words ∙ ap (λ b. read b d.octets) (sym side)));
    })

-- the packet carries what is asked of the eras
pub sends_it : (packet : IpPacket) (link : List ℕ) (d : Datagram) (s : Seg) (key : FlowKey) → packet.side ≡ Outward → IsDatagram packet link d
    → key ≡ key_at Outward packet.head packet.payload.now → sent s (tcp.payload packet.payload.now) ≡ read false packet.payload.now → Sends d key s (tcp.payload packet.payload.now)
sends_it packet link d s key out is keyed reads =
    let side : goes_in d.side ≡ false = ap goes_in (is.side ∙ out) in
    record {
      side = side;
      key_is = (λ k. key_at ((is.side ∙ out) k) (is.head k) (is.octets k)) ∙ sym keyed;
      segment_is = ap₂ read side is.octets ∙ sym reads;
    }

-- the checksum is wrong where the header's fields report it
pub sum_wrong : (settings : PlainSettings) (offload : Bool) (packet : IpPacket) (link : List ℕ) (d : Datagram) (head : Tcp) → offload ≡ settings.offload → packet.side ≡ Outward → IsDatagram packet link d
    → head ≡ fields_of (pseudo_sum packet.head.src.0 packet.head.dst.0 6 (length packet.payload.now)) packet.payload.now
    → t_sum_out settings d ≡ (offload && not head.sum_right)
sum_wrong settings offload packet link d head same out is fields =
    let side : goes_in d.side ≡ false = ap goes_in (is.side ∙ out) in
    ap (λ b. not b && settings.offload && tcp.has_wrong_sum (pseudo_of d) d.octets) side
    ∙ (λ k. (sym same) k && not (sum_is_right (is.octets k) (pseudo_sum (is.head k).src.0 (is.head k).dst.0 6 (length (is.octets k)))))
    ∙ ap (λ (h : Tcp). offload && not h.sum_right) (sym fields)

-- The frame of a datagram that passes: an outbound one with its checksum corrected, and one that no
-- rule rewrites.

pub frame_mended : (settings : PlainSettings) (d : Datagram) (ws : List Written) (packet : IpPacket) (link : List ℕ) (rows : List Rule) (ip : Ipv4) → goes_in d.side ≡ false → IsDatagram packet link d
    → ip ≡ head_sent settings d → (length rows == 0) ≡ false
    → (link ++ plain_header ip (length (mended (pseudo_sum ip.src.0 ip.dst.0 6 (length packet.payload.now)) packet.payload.now)) ++ mended (pseudo_sum ip.src.0 ip.dst.0 6 (length packet.payload.now)) packet.payload.now) ∷ []
    ≡ frames_of link (packet_by settings ws d d.fixes rows ∷ [])
frame_mended settings d ws packet link [] ip side is head some = cc
frame_mended settings d ws packet link (rule ∷ more) ip side is head some =
    (λ k. (link ++ plain_header (head k) (length (same k)) ++ same k) ∷ [])
    ∙ (ap (λ m. frames_of link (anew settings d m ∷ [])) (sym summed) ∙ ap (λ p. frames_of link (p ∷ [])) (sym (rewritten d.fixes)))
  where
    same : mended (pseudo_sum ip.src.0 ip.dst.0 6 (length packet.payload.now)) packet.payload.now ≡ sum_mended d
    same = λ k. mended (pseudo_sum (head k).src.0 (head k).dst.0 6 (length ((sym is.octets) k))) ((sym is.octets) k)

    summed : segment_sent ws d (rule ∷ more) ≡ sum_mended d
    summed = ap (λ b. cond b (segment_octets (segment_anew ws d)) (sum_mended d)) side

    rewritten : (fixes : List Rule) → packet_by settings ws d fixes (rule ∷ more) ≡ anew settings d (segment_sent ws d (rule ∷ more))
    rewritten [] = refl
    rewritten (x ∷ xs) = refl

pub frame_read : (settings : PlainSettings) (d : Datagram) (ws : List Written) (packet : IpPacket) (link : List ℕ) (rows : List Rule) → IsDatagram packet link d
    → (length rows == 0) ≡ true → (length packet.fixes.items == 0) ≡ true → packet.frame.now ∷ [] ≡ frames_of link (packet_by settings ws d d.fixes rows ∷ [])
frame_read settings d ws packet link rows is none read =
    let rows_none = empty rows none in
    let none_fixed = empty packet.fixes.items read in
    ap (λ f. f ∷ []) (is.frame none_fixed) ∙ sym (λ k. frames_of link (packet_by settings ws d ((is.fixes ∙ none_fixed) k) (rows_none k) ∷ []))
  where
    empty : (rules : List Rule) → (length rules == 0) ≡ true → rules ≡ []
    empty [] e = refl
    empty (x ∷ xs) e = absurd (not_empty x xs e)

-- What is known of a header that was read, whatever was summed before its segment.

pub is_read : {octets : List ℕ} {head : Tcp} → IsHead octets head → IsRead octets head
is_read {octets} {head} h =
    record {
      fields = λ k. record {
        sport = (h.fields k).sport;
        dport = (h.fields k).dport;
        seq = (h.fields k).seq;
        ack = (h.fields k).ack;
        header = (h.fields k).header;
        reserved = (h.fields k).reserved;
        flags = (h.fields k).flags;
        window = (h.fields k).window;
        sum_right = head.sum_right;
        urgent = (h.fields k).urgent;
      };
      least = h.least;
      most = h.most;
      inside = h.inside;
      legal = h.legal;
      formed = h.formed;
      area = h.area;
    }
