-- What becomes of an inbound datagram: dropped, passed or rewritten, with its frames and its
-- probes.
use Rattle.std.proofs.Common.{◌≡◌, ℕ, ◌+◌, Bool, true, false, cond, List, ◌||◌, ◌++◌, map, Some, None, is_some, refl, sym, ap, ap₂, ◌∙◌, ◌==◌, length, ◌&&◌, not, ◌∷◌, Option, subst, ◌≢◌, append_assoc, arith, ◌<◌, nat_le, All, AllPairs, []}
use Rattle.std.specs.Option.{option_or}
use Rattle.std.proofs.lemmas.Bool.{and_parts}
use Rattle.wire_base.specs.Tcp as tcp
use Rattle.wire_base.specs.Segments.{Written, Segment}
use Rattle.era_state.specs.ForwardedOctets.{frame_sequence_of}
use Rattle.ip_rules.specs.Datagrams.{Datagram, Packet, goes_in, IsDatagram, raised, head_at, head_sent, anew, frames_of}
use Rattle.wire_base.specs.Options.{cleaned}
use Rattle.ip_rules.specs.declared.rows.IpPacket.{IpPacket}
use Rattle.rule_book.specs.declared.rule.Rule.{Rule}
use Rattle.rule_book.specs.declared.rule.Rule.TheVariants as rules
use Rattle.norm_settings.specs.SettingValues.{PlainSettings}
use Rattle.era_state.specs.States.{state_of, is_acknowledged, State, called, offered, warm, closed}
use Rattle.era_state.specs.Rules as era
use Rattle.wire_base.specs.declared.address.Side.TheVariants.{Inward}
use Rattle.wire_base.specs.declared.address.FlowKey.{FlowKey}
use Rattle.rule_book.specs.declared.entry.Verdict.TheVariants as verdicts
use Rattle.era_state.specs.Quantities.{iss}
use Rattle.era_state.specs.Rules.{t_state, is_early_at}
use Rattle.cold_start.specs.Rules.{is_asked, cold_probe_of}
use Rattle.reset_probe.specs.Rules.{era_probe}
use Rattle.ip_rules.specs.JudgedRecord.{where_holds}
use Rattle.ipv4_codec.specs.declared.header.Ipv4.{Ipv4}
use Rattle.ipv4_codec.specs.WrittenHeader.{plain_header}
use Rattle.edge_io.specs.Outboxes.{extended, last_frame}
use Rattle.tcp_codec.specs.WrittenSegment.{segment_octets}
use Rattle.era_state.specs.declared.probe.Probe.{Probe}
use Rattle.reset_probe.specs.ProbePackets.{probe_octets, probe_segment}
use Rattle.linked_table.specs.declared.table.Slot.{Slot}
use Rattle.linked_table.specs.EntryTable as table
use Rattle.era_state.specs.declared.segment.Seg.{Seg}
use Rattle.era_state.specs.Eras as eras
use Rattle.era_state.specs.SegmentFields.{came}
use Rattle.tcp_norm.specs.working.ReadHeads.{IsRead, seen}
use Rattle.tcp_norm.specs.Calls.{segment_in, read, key_of, key_at, Call, segments, eras}
use Rattle.tcp_norm.specs.RuleRows.{is_live, t_quota, t_room, dropped_by, holds_era, mended_by}
use Rattle.tcp_norm.specs.EmittedPackets.{without_flag, bare_segment, stream_segment, is_fin_kept, octets_sent, probe_packets, probe_dropped, segment_anew, packet_by, packets_passed, probe_packet, segment_sent, sum_mended, flags_cleared}
use Rattle.tcp_norm.specs.RuleViews.{View, view_of}
use Rattle.tcp_norm.specs.working.InwardSegments.{passed, bare_read}
use Rattle.tcp_norm.specs.working.RewrittenSegments.{anew_segment}
use Rattle.tcp_norm.specs.working.EraSteps.{IsStep, listed, Does}
use Rattle.tcp_norm.specs.working.LiveWrites.{WritesAll}
use Rattle.tcp_norm.specs.declared.step.Step.{Step}
use Rattle.tcp_norm.specs.Outcomes.{call_of, outcome_at, outcome_by, outcome_dropped, verdict_of}
use Rattle.tcp_norm.specs.declared.key.Flow.{Flow}
use Rattle.tcp_norm.specs.declared.arrival.Arrival.{Arrival}
use Rattle.tcp_norm.specs.working.LiveSlots.{Live}
use Rattle.tcp_norm.specs.declared.state.TcpNorm.{TcpNorm}
use Rattle.rule_book.specs.declared.entry.Entry.{Entry}
use Rattle.tcp_norm.specs.declared.step.Ruling.{Ruling}
use Rattle.tcp_norm.specs.declared.step.Ruling.TheVariants.{Drop}
use Rattle.tcp_norm.specs.working.Rulings.{Answers, CarriesOut, IsCounted, IsFound, IsHeld, IsLiveIn, IsRuling, Shows}
use Rattle.tcp_norm.specs.PassedPackets.{Reports}
use Rattle.tcp_norm.specs.TableAndStore.{StandsFor}
use Rattle.tcp_norm.proofs.SegmentRules.{OfStream, stream_dropped, stream_begins_none, stream_ends_none, not_true, dropped_is}
use Rattle.tcp_norm.proofs.EraWrites.{fixed_or_passed, no_note}
use Rattle.tcp_norm.proofs.BareSegments.{Comes, comes_bare}
use Rattle.tcp_norm.proofs.Connections.{IsLive, view_live}
use Rattle.tcp_norm.proofs.EraTable.{AtSlot, at_slot}
use Rattle.tcp_codec.specs.declared.header.Tcp.{Tcp}
use Rattle.tcp_norm.specs.working.ColdDatagrams.{IsUnheard}

-- A segment of the stream of a live era.

-- the flags of the segment are those of its header
pub flags_are : (packet : IpPacket) (link : List ℕ) (d : Datagram) (head : Tcp) → IsDatagram packet link d → IsRead packet.payload.now head → head.flags.0 ≡ (segment_in d).flags
flags_are packet link d head is h = ap (λ (x : Tcp). x.flags.0) h.fields ∙ ap tcp.flags (sym is.octets)

-- a segment of the stream of an era of which an offset is acknowledged
pub stream_is : (ws : List Written) (w : Written) → is_acknowledged (state_of ws) ≡ true → w.inward ≡ true → tcp.has_syn w.flags ≡ false → tcp.has_rst w.flags ≡ false
    → era.is_of_stream ws w ≡ true
stream_is ws w settled inward syn rst = rw (inward, syn, rst) settled

pub step_stream : (v : View) (w : Written) (n : ℕ) → v.era ≡ Some n → OfStream v.segments w → IsStep v w (record { era = Some n; begun = None; ended = None; full = false })
step_stream v w n live f =
    let none = stream_begins_none v w (ap is_some live) f in
    record {
      era_is = sym (ap₂ option_or none live);
      begun_is = sym none;
      ended_is = sym (stream_ends_none v w (ap is_some live) f);
      full_is = rw live refl;
    }

-- it is rewritten from the fields of its header
pub stream_anew : (ws : List Written) (d : Datagram) (packet : IpPacket) (link : List ℕ) (head : Tcp) (seq : ℕ) (fin : Bool) (octets : List ℕ)
    → IsDatagram packet link d → IsRead packet.payload.now head → tcp.has_syn (segment_in d).flags ≡ false → tcp.has_rst (segment_in d).flags ≡ false
    → seq ≡ frame_sequence_of ws (segment_in d) → fin ≡ is_fin_kept ws (segment_in d) → octets ≡ octets_sent ws (segment_in d)
    → segment_anew ws d ≡ anew_segment packet.head head seq fin (cleaned (tcp.has_syn head.flags.0) (tcp.options packet.payload.now)) octets
stream_anew ws d packet link head seq fin octets is h syn rst seq_is fin_is sent =
    let m = sym is.octets in
    let whole : segment_anew ws d ≡ stream_segment ws d = ap₂ (λ a b. cond (a || b) (bare_segment d) (stream_segment ws d)) syn rst in
    whole ∙ sym (λ k. record {
      source = ((sym is.head) k).src.0;
      destination = ((sym is.head) k).dst.0;
      source_port = (ap (λ (x : Tcp). x.sport) h.fields ∙ ap tcp.source_port m) k;
      destination_port = (ap (λ (x : Tcp). x.dport) h.fields ∙ ap tcp.destination_port m) k;
      sequence = seq_is k;
      acknowledgment = (ap (λ (x : Tcp). x.ack) h.fields ∙ ap tcp.acknowledgment m) k;
      flags = flags_cleared (cond (fin_is k) (flags_are packet link d head is h k) (without_flag 1 (flags_are packet link d head is h k)));
      window = (ap (λ (x : Tcp). x.window) h.fields ∙ ap tcp.window m) k;
      options = (ap (λ (x : Tcp). cleaned (tcp.has_syn x.flags.0) (tcp.options packet.payload.now)) h.fields ∙ ap (λ o. cleaned (tcp.has_syn (tcp.flags o)) (tcp.options o)) m) k;
      octets = sent k;
    })

-- an outcome that writes in a live era alone
pub writes_all : (d : Datagram) (n : ℕ) (s : Step) (fixes named : List Rule) (packets : List Packet) → s ≡ record { era = Some n; begun = None; ended = None; full = false }
    → WritesAll d n (map (λ p. read (goes_in d.side) p.octets) packets) (passed s fixes named packets)
writes_all d n s fixes named packets is = record {
  written = fixed_or_passed (fixes ++ named);
  era_is = ap (λ (x : Step). x.era) is;
  begun_is = ap (λ (x : Step). x.begun) is;
  ended_are = ap (λ (x : Step). listed x.ended) is;
  packets_are = refl;
}

-- no probe is sent for one that a rule drops
pub no_probe_behind : (settings : PlainSettings) (v : View) (d : Datagram) (rule : Rule) → dropped_by settings v d ≡ Some rule → is_live v ≡ true → OfStream v.segments (segment_in d)
    → probe_packets settings d (probe_dropped v d rule) ≡ []
no_probe_behind settings v d rule drops live f = cases (t_quota settings v (segment_in d)) (t_room v (segment_in d)) (sym drops ∙ stream_dropped settings v d live f)
  where
    got : {x y : Rule} → Some x ≡ Some y → x ≡ y
    got e = cc

    cases : (a b : Bool) → Some rule ≡ cond a (Some rules.TQuota) (cond b (Some rules.TRoom) None) → probe_packets settings d (probe_dropped v d rule) ≡ []
    cases true b e = ap (λ r. probe_packets settings d (probe_dropped v d r)) (got e)
    cases false true e = ap (λ r. probe_packets settings d (probe_dropped v d r)) (got e)
    cases false false e = cc

-- What becomes of an inbound datagram, and its probes.

-- What becomes of an inbound datagram, by the rule that drops it, or by what it does to the eras.

-- one that a rule drops
pub in_dropped : (settings : PlainSettings) (v : View) (d : Datagram) (rule : Rule) (era : Option ℕ) (packets : List Packet) → dropped_by settings v d ≡ Some rule → v.era ≡ era
    → probe_packets settings d (probe_dropped v d rule) ≡ packets
    → outcome_at settings v d ≡ record { verdict = verdicts.Drop; rules = rule ∷ []; era = era; begun = None; ended = []; packets = packets }
in_dropped settings v d rule era packets drops live sends =
    ap (λ r. outcome_by settings v d r (mended_by settings v d)) drops
    ∙ (λ k. record { verdict = verdicts.Drop; rules = rule ∷ []; era = live k; begun = None; ended = []; packets = sends k })

pub in_unheard : (settings : PlainSettings) (v : View) (d : Datagram) (rule : Rule) → dropped_by settings v d ≡ Some rule → IsUnheard (outcome_at settings v d)
in_unheard settings v d rule drops =
    let is : outcome_at settings v d ≡ outcome_dropped settings v d rule = ap (λ r. outcome_by settings v d r (mended_by settings v d)) drops in
    subst IsUnheard (sym is) (record { era = λ written. cc; begun = refl; ended = refl })

-- one that no rule drops
pub in_outcome : (settings : PlainSettings) (v : View) (d : Datagram) (s : Step) (fixes named : List Rule) (packets : List Packet) → goes_in d.side ≡ true → d.fixes ≡ fixes → dropped_by settings v d ≡ None
    → mended_by settings v d ≡ named → IsStep v (segment_in d) s → s.full ≡ false → packets_passed settings v d named ≡ packets
    → outcome_at settings v d ≡ passed s fixes named packets
in_outcome settings v d s fixes named packets side fixed none mends is full sends =
    ap₂ (outcome_by settings v d) none mends
    ∙ (λ k. record {
      verdict = verdict_of (fixed k ++ named);
      rules = (no_note v d side ∙ ap (λ b. where_holds b rules.TFull) (sym full)) k ++ fixed k ++ named;
      era = (sym is.era_is) k;
      begun = (sym is.begun_is) k;
      ended = (sym is.ended_is) k;
      packets = sends k;
    })

-- an outcome does what it says
pub in_does : (d : Datagram) (w : Written) (s : Step) (fixes named : List Rule) (packets : List Packet) → map (λ p. read (goes_in d.side) p.octets) packets ≡ w ∷ []
    → Does d w s (passed s fixes named packets)
in_does d w s fixes named packets writes = record {
  written = fixed_or_passed (fixes ++ named);
  era_is = refl;
  begun_is = refl;
  ended_are = refl;
  packets_are = writes;
}

-- a host is asked about a datagram without an era
pub record Asks (w : Written) : Type 0 where
  pub inward : w.inward ≡ true
  pub no_syn : tcp.has_syn w.flags ≡ false
  pub no_rst : tcp.has_rst w.flags ≡ false

pub asks : (w : Written) → is_asked w ≡ true → Asks w
asks w is =
    let last = and_parts (w.inward && not (tcp.has_syn w.flags)) (not (tcp.has_rst w.flags)) is in
    let second = and_parts w.inward (not (tcp.has_syn w.flags)) last.0 in
    record { inward = second.0; no_syn = not_true (tcp.has_syn w.flags) second.1; no_rst = not_true (tcp.has_rst w.flags) last.1 }

pub step_asked : (v : View) (w : Written) → v.era ≡ None → Asks w → IsStep v w (record { era = None; begun = None; ended = None; full = false })
step_asked v w none a = record {
  era_is = rw (none, a.inward, a.no_syn) refl;
  begun_is = rw (none, a.inward, a.no_syn) refl;
  ended_is = rw (none, a.inward, a.no_syn) refl;
  full_is = rw (none, a.inward, a.no_syn) refl;
}

pub packets_asked : (settings : PlainSettings) (v : View) (d : Datagram) (named : List Rule) → v.era ≡ None → is_asked (segment_in d) ≡ true
    → packets_passed settings v d named ≡ probe_packet settings d (cold_probe_of (segment_in d)) ∷ []
packets_asked settings v d named none asked = rw (none, asked) refl

-- the packet of the datagram alone: where an era begins; a SYN of a live era
pub packets_begun : (settings : PlainSettings) (v : View) (d : Datagram) (named : List Rule) → v.era ≡ None → is_asked (segment_in d) ≡ false
    → packets_passed settings v d named ≡ packet_by settings v.segments d d.fixes named ∷ []
packets_begun settings v d named none asked = rw (none, asked) refl

pub packets_live : (settings : PlainSettings) (v : View) (d : Datagram) (named : List Rule) (n : ℕ) → v.era ≡ Some n → tcp.has_rst (segment_in d).flags ≡ false
    → packets_passed settings v d named ≡ packet_by settings v.segments d d.fixes named ∷ []
packets_live settings v d named n live rst = cases (segment_in d).inward
  where
    cases : (i : Bool) → cond (not (is_live v) && is_asked (segment_in d)) (probe_packet settings d (cold_probe_of (segment_in d)) ∷ [])
        (packet_by settings v.segments d d.fixes named ∷ cond (is_live v && i && tcp.has_rst (segment_in d).flags) (probe_packets settings d (era_probe v.segments (segment_in d))) [])
        ≡ packet_by settings v.segments d d.fixes named ∷ []
    cases true = rw (live, rst) refl
    cases false = rw live refl

-- a RST, and after it the probe of the era
pub packets_reset : (settings : PlainSettings) (v : View) (d : Datagram) (named : List Rule) (n : ℕ) → v.era ≡ Some n → goes_in d.side ≡ true → tcp.has_rst (segment_in d).flags ≡ true
    → packets_passed settings v d named ≡ packet_by settings v.segments d d.fixes named ∷ probe_packets settings d (era_probe v.segments (segment_in d))
packets_reset settings v d named n live side rst = rw (live, side, rst) refl

-- the four-tuple of the packet
pub keyed : (packet : IpPacket) (link : List ℕ) (d : Datagram) (key : FlowKey) → packet.side ≡ Inward → IsDatagram packet link d → key ≡ key_at Inward packet.head packet.payload.now → key_of d ≡ key
keyed packet link d key side is same = (λ k. key_at ((is.side ∙ side) k) (is.head k) (is.octets k)) ∙ sym same

-- T_STATE holds for a segment with neither SYN nor RST of an era of which no offset is acknowledged
pub early_now : (ws : List Written) (w : Written) (s : State) → s ≡ state_of ws → is_acknowledged s ≡ false → w.inward ≡ true → tcp.has_syn w.flags ≡ false → tcp.has_rst w.flags ≡ false
    → t_state ws w ≡ true
early_now ws w called is early inward syn rst = ap (λ s. is_early_at s (iss ws) w) (sym is) ∙ rw (inward, syn, rst) refl
early_now ws w offered is early inward syn rst = ap (λ s. is_early_at s (iss ws) w) (sym is) ∙ rw (inward, syn, rst) refl
early_now ws w warm is early inward syn rst = cc
early_now ws w closed is early inward syn rst = cc

pub early_dropped : (settings : PlainSettings) (v : View) (d : Datagram) (n : ℕ) → goes_in d.side ≡ true → v.era ≡ Some n → t_state v.segments (segment_in d) ≡ true
    → dropped_by settings v d ≡ Some rules.TState
early_dropped settings v d n side live early =
    let cold : holds_era settings v d rules.TCold ≡ false = rw live refl in
    let state : holds_era settings v d rules.TState ≡ true = ap₂ (λ a b. a && b) (ap is_some live) early in
    dropped_is settings v d false true _ _ _ _ _ side cold state refl refl refl refl refl

-- rules on the header rewrite it
pub fix_is : (fixes rows : List Rule) → (length fixes == 0) ≡ false → verdicts.Fix ≡ verdict_of (fixes ++ rows)
fix_is [] rows never = cc
fix_is (x ∷ xs) rows never = refl

-- The frames of inbound datagrams and of probes.

pub side_is : (packet : IpPacket) (link : List ℕ) (d : Datagram) → packet.side ≡ Inward → IsDatagram packet link d → goes_in d.side ≡ true
side_is packet link d side is = ap goes_in (is.side ∙ side)

-- the header that goes inwards
pub head_is : (settings : PlainSettings) (hops : ℕ) (packet : IpPacket) (link : List ℕ) (d : Datagram) → hops ≡ settings.hops → packet.side ≡ Inward → IsDatagram packet link d
    → raised hops packet.head ≡ head_sent settings d
head_is settings hops packet link d same side is =
    (λ k. raised (same k) ((sym is.head) k))
    ∙ ap (λ b. record d.head { ttl = cond (b && nat_le d.head.ttl settings.hops) (settings.hops + 1) d.head.ttl }) (sym (side_is packet link d side is))

pub head_given : (settings : PlainSettings) (hops : ℕ) (packet : IpPacket) (link : List ℕ) (d : Datagram) → hops ≡ settings.hops → IsDatagram packet link d
    → head_at packet.side hops packet.head ≡ head_sent settings d
head_given settings hops packet link d same is = λ k. head_at ((sym is.side) k) (same k) ((sym is.head) k)

-- the frame of a probe
pub frame_probe : (settings : PlainSettings) (d : Datagram) (link : List ℕ) (ip : Ipv4) (source destination : ℕ) (probe : Probe) → ip ≡ head_sent settings d
    → source ≡ tcp.source_port d.octets → destination ≡ tcp.destination_port d.octets
    → (link ++ probe_octets ip source destination probe) ∷ [] ≡ frames_of link (probe_packet settings d probe ∷ [])
frame_probe settings d link ip source destination probe head from to =
    (λ k. (link ++ probe_octets (head k) (from k) (to k) probe) ∷ [])
    ∙ ap (λ l. l ∷ []) (sym (append_assoc link (plain_header (head_sent settings d) 20) (segment_octets (probe_segment (head_sent settings d) (tcp.source_port d.octets) (tcp.destination_port d.octets) probe))))

-- the frame begun last gets more octets
pub extended_last : (frames : List (List ℕ)) (frame octets : List ℕ) → extended (frames ++ frame ∷ []) octets ≡ frames ++ (frame ++ octets) ∷ []
extended_last [] frame octets = refl
extended_last (x ∷ []) frame octets = refl
extended_last (x ∷ y ∷ frames) frame octets = ap (λ l. x ∷ l) (extended_last (y ∷ frames) frame octets)

pub last_of : (frames : List (List ℕ)) (frame : List ℕ) → last_frame (frames ++ frame ∷ []) ≡ frame
last_of [] frame = refl
last_of (x ∷ []) frame = refl
last_of (x ∷ y ∷ frames) frame = last_of (y ∷ frames) frame

-- the frame of the datagram itself: rewritten, as it arrived, and with its header rewritten
pub frame_rewritten : (settings : PlainSettings) (d : Datagram) (ws : List Written) (packet : IpPacket) (link : List ℕ) (rows : List Rule) (s : Segment) (ip : Ipv4) → goes_in d.side ≡ true
    → ip ≡ head_sent settings d → (length rows == 0) ≡ false → segment_anew ws d ≡ s
    → (link ++ plain_header ip (length (segment_octets s)) ++ segment_octets s) ∷ [] ≡ frames_of link (packet_by settings ws d d.fixes rows ∷ [])
frame_rewritten settings d ws packet link [] s ip side head some anews = cc
frame_rewritten settings d ws packet link (rule ∷ more) s ip side head some anews =
    (λ k. (link ++ plain_header (head k) (length (segment_octets s)) ++ segment_octets s) ∷ [])
    ∙ (ap (λ m. frames_of link (anew settings d m ∷ [])) (ap segment_octets (sym anews) ∙ sym (ap (λ b. cond b (segment_octets (segment_anew ws d)) (sum_mended d)) side))
    ∙ ap (λ p. frames_of link (p ∷ [])) (sym (mended d.fixes)))
  where
    mended : (fixes : List Rule) → packet_by settings ws d fixes (rule ∷ more) ≡ anew settings d (segment_sent ws d (rule ∷ more))
    mended [] = refl
    mended (x ∷ xs) = refl

pub not_empty : {X : Type 0} (x : X) (xs : List X) → (length (x ∷ xs) == 0) ≢ true
not_empty x xs e = let none : length (x ∷ xs) ≡ 0 = grind arith in absurd (omega (arith, none))

pub frame_headed : (settings : PlainSettings) (d : Datagram) (ws : List Written) (packet : IpPacket) (link : List ℕ) (rows : List Rule) (ip : Ipv4) → IsDatagram packet link d
    → ip ≡ head_sent settings d → (length rows == 0) ≡ true → (length packet.fixes.items == 0) ≡ false
    → (link ++ plain_header ip (length packet.payload.now) ++ packet.payload.now) ∷ [] ≡ frames_of link (packet_by settings ws d d.fixes rows ∷ [])
frame_headed settings d ws packet link (x ∷ xs) ip is head none fixed = absurd (not_empty x xs none)
frame_headed settings d ws packet link [] ip is head none fixed =
    (λ k. (link ++ plain_header (head k) (length ((sym is.octets) k)) ++ (sym is.octets) k) ∷ [])
    ∙ ap (λ p. frames_of link (p ∷ [])) (sym (headed d.fixes (ap (λ l. length l == 0) is.fixes ∙ fixed)))
  where
    headed : (fixes : List Rule) → (length fixes == 0) ≡ false → packet_by settings ws d fixes [] ≡ anew settings d d.octets
    headed [] never = cc
    headed (x ∷ xs) never = refl

pub probe_is : (settings : PlainSettings) (d : Datagram) (packet : IpPacket) (link : List ℕ) (head : Tcp) (hops : ℕ) (ip : Ipv4) (probe : Probe)
    → hops ≡ settings.hops → packet.side ≡ Inward → IsDatagram packet link d → head ≡ seen packet.payload.now head → ip ≡ raised hops packet.head
    → (link ++ probe_octets ip head.sport head.dport probe) ∷ [] ≡ frames_of link (probe_packet settings d probe ∷ [])
probe_is settings d packet link head hops ip probe same side is fields raises =
    frame_probe settings d link ip head.sport head.dport probe (raises ∙ head_is settings hops packet link d same side is)
    (ap (λ (h : Tcp). h.sport) fields ∙ ap tcp.source_port (sym is.octets)) (ap (λ (h : Tcp). h.dport) fields ∙ ap tcp.destination_port (sym is.octets))

-- What holds for an inbound segment of a live era.

-- what is found in a slot is a live era of the segment's connection
pub found_in : (a : Arrival) (norm : TcpNorm) (slot : Slot) (flow : Flow) (live : IsLiveIn norm a slot) → table.Wherever norm.table.entries slot (λ e. flow ≡ e.value)
    → All (λ e. e.slot.0 < norm.table.max) norm.table.entries → AllPairs (λ e f. e.slot ≢ f.slot) norm.table.entries → AllPairs (λ e f. e.key ≢ f.key) norm.table.entries
    → IsFound norm a (record { key = live.key; slot = slot; flow = flow })
found_in a norm slot flow live was below slots keys = record {
  held = record { inside = live.inside; entry = λ k x lt same. sym (was k x lt same); keyed = live.of_key; below = below; slots_apart = slots; keys_apart = keys };
  keyed = live.keyed;
}

-- the ruling on a datagram, and the eras after it
pub record IsJudged (settings : PlainSettings) (calls : List Call) (d : Datagram) (a : Arrival) (norm : TcpNorm) (r : Ruling) : Type 0 where
  pub stands : StandsFor settings norm (call_of settings calls a.time d ∷ calls)
  pub rules : IsRuling settings (view_of settings calls d) d a norm.scratch.items r

-- the same after any calls
abbrev pub Judges : Arrival → (old new : TcpNorm) → Ruling → Type 0
Judges a old new r =
    (settings : PlainSettings) (calls : List Call) (d : Datagram) → StandsFor settings old calls → IsDatagram a.packet.now a.link.now d
    → IsJudged settings calls d a new r

-- a datagram is answered by a right ruling that is carried out
pub says : (a : Arrival) (old mid new : TcpNorm) (before after : Entry) (out : List (List ℕ)) (as_read : Bool) (r : Ruling)
    → CarriesOut a mid new before after out as_read r → Judges a old mid r → Answers a old new before after out as_read
says a old mid new before after out as_read r carries judges = record {
  unsent = carries.unsent;
  answered = λ settings calls d st is.
      let j = judges settings calls d st is in
      record {
        stands = carries.same.stays settings _ j.stands;
        shows = subst (Shows a before after out as_read) (sym j.rules.outcome_is) (carries.shows settings (view_of settings calls d).segments d j.stands.opened is j.rules.carried);
      };
}

-- if a rule drops a datagram and nothing is sent, only its entry is written
pub refused : (a : Arrival) (norm : TcpNorm) (before after : Entry) (out : List (List ℕ)) (rule : Rule) (era : Option ℕ) → out ≡ []
    → Reports before after (record { verdict = verdicts.Drop; rules = rule ∷ []; era = era; begun = None; ended = []; packets = [] })
    → CarriesOut a norm norm before after out false (Drop (record { rule = rule; era = era; probe = None }))
refused a norm before after out rule era blank reports = record {
  same = record { table_is = refl; stays = λ settings calls st. st; calls_are = refl; latest_is = refl };
  unsent = tt;
  shows = λ settings ws d opened is carried. record { entry = reports; frames = blank };
}

-- the ruling is that of the rule table, and the datagram is counted
pub judged : (settings : PlainSettings) (calls : List Call) (d : Datagram) (a : Arrival) (old new : TcpNorm) (r : Ruling) → IsRuling settings (view_of settings calls d) d a old.scratch.items r
    → IsCounted settings calls d (outcome_at settings (view_of settings calls d) d) a.time old new → IsJudged settings calls d a new r
judged settings calls d a old new r ruled counted = record {
  stands = counted.stands;
  rules = subst (λ s. IsRuling settings (view_of settings calls d) d a s.items r) (sym counted.scratch_is) ruled;
}

-- what was asked of the calls before, of a connection whose live era the table has
pub record HeldLive (settings : PlainSettings) (calls : List Call) (d : Datagram) (norm : TcpNorm) (here : Live) : Type 0 where
  pub live : IsLive settings calls d here.flow.number
  pub at : AtSlot (λ m. segments m calls) norm.begun norm.store here.slot here.flow

pub held_live : (settings : PlainSettings) (calls : List Call) (d : Datagram) (norm : TcpNorm) (here : Live) → StandsFor settings norm calls → IsHeld norm.table here → key_of d ≡ here.key → HeldLive settings calls d norm here
held_live settings calls d norm here st h key_is = record {
  live = view_live settings calls _ _ _ here.slot here.flow _ d st.holds h.inside h.slots_apart h.keys_apart h.entry h.keyed key_is;
  at = at_slot (eras calls) (λ m. segments m calls) _ _ _ here.slot here.flow st.holds h.inside h.slots_apart h.keys_apart h.entry;
}

pub record OfLive (settings : PlainSettings) (calls : List Call) (d : Datagram) (a : Arrival) (norm : TcpNorm) (here : Live) : Type 0 where
  pub side : goes_in d.side ≡ true
  pub key_is : key_of d ≡ here.key
  pub live : IsLive settings calls d here.flow.number
  pub at : AtSlot (λ m. segments m calls) norm.begun norm.store here.slot here.flow
  pub stood : eras.StandsFor here.flow.era (segments here.flow.number calls)
  pub flags : a.head.now.flags.0 ≡ (segment_in d).flags
  pub comes : (s : Seg) → came s ≡ bare_read a.packet.now.payload.now → Comes d here.key s

pub of_live : (settings : PlainSettings) (calls : List Call) (d : Datagram) (a : Arrival) (norm : TcpNorm) (here : Live)
    → StandsFor settings norm calls → IsDatagram a.packet.now a.link.now d → IsFound norm a here → OfLive settings calls d a norm here
of_live settings calls d a norm here st is f =
    let side = side_is a.packet.now a.link.now d f.keyed.side is in
    let key_is = keyed a.packet.now a.link.now d here.key f.keyed.side is f.keyed.key_is in
    let h = held_live settings calls d norm here st f.held key_is in
    record {
      side = side;
      key_is = key_is;
      live = h.live;
      at = h.at;
      stood = h.at.era;
      flags = flags_are a.packet.now a.link.now d a.head.now is a.read;
      comes = λ s reads. comes_bare d here.key s side key_is (reads ∙ ap bare_read (sym is.octets));
    }
