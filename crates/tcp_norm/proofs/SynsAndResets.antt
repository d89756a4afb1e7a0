-- An inbound SYN or RST: what is ruled of it, reported and written, by what is live of its
-- connection.
use Rattle.std.proofs.Common.{◌≡◌, ℕ, ◌+◌, ◌%◌, Bool, true, false, List, length, arith, ◌&&◌, ◌||◌, not, ◌∷◌, map, Option, Some, None, is_some, refl, sym, ap, ap₂, subst, ◌∙◌, ◌==◌, cond, [], take, ◌-◌, nat_lt}
use Rattle.std.specs.List.{AllByRecursion}
use Rattle.wire_base.specs.Tcp as tcp
use Rattle.wire_base.specs.Segments.{Written}
use Rattle.tcp_codec.specs.WrittenSegment.{AreReadBack}
use Rattle.era_state.specs.Quantities.{out, base_of, octets_of}
use Rattle.ip_rules.specs.Datagrams.{Datagram, goes_in, IsDatagram, Packet, raised, frames_of}
use Rattle.wire_base.specs.Options.{cleaned}
use Rattle.ip_rules.specs.declared.rows.IpPacket.{IpPacket}
use Rattle.rule_book.specs.declared.rule.Rule.{Rule}
use Rattle.norm_settings.specs.SettingValues.{PlainSettings}
use Rattle.era_state.specs.declared.segment.Seg.{Seg}
use Rattle.era_state.specs.SegmentFields.{came}
use Rattle.era_state.specs.declared.probe.Probe.{Probe}
use Rattle.era_state.specs.SilentSegments.{IsSilent}
use Rattle.era_state.specs.States.{state_of, is_closed}
use Rattle.era_state.specs.Rules as era
use Rattle.reset_probe.specs.Rules.{era_probe, probe_with, awaited_number}
use Rattle.cold_start.specs.Rules.{is_asked, cold_probe_of}
use Rattle.wire_base.specs.declared.address.Side.{Side}
use Rattle.wire_base.specs.declared.address.Side.TheVariants.{Inward, Outward}
use Rattle.ipv4_codec.specs.declared.header.Ipv4.{Ipv4}
use Rattle.tcp_codec.specs.declared.header.Tcp.{Tcp}
use Rattle.wire_base.specs.declared.address.FlowKey.{FlowKey}
use Rattle.rule_book.specs.declared.rule.Rule.TheVariants as rules
use Rattle.rule_book.specs.declared.entry.Verdict.TheVariants as verdicts
use Rattle.era_state.specs.Rules.{t_state, t_syn, reopens_inward}
use Rattle.era_state.specs.Eras as eras
use Rattle.tcp_norm.specs.working.ReadHeads.{AreBits, IsRead, seen}
use Rattle.tcp_norm.specs.Calls.{segment_in, read, Call, segments, key_of}
use Rattle.tcp_norm.specs.RuleRows.{options_sent, is_live, c_probe, mended_by, dropped_by, differ}
use Rattle.tcp_norm.specs.EmittedPackets.{packet_by, probe_packets, segment_anew, bare_segment, flags_cleared}
use Rattle.tcp_norm.specs.RuleViews.{View, view_of}
use Rattle.tcp_norm.specs.working.InwardSegments.{bare_read, passed}
use Rattle.tcp_norm.specs.working.RewrittenSegments.{anew_segment}
use Rattle.tcp_norm.specs.working.Rulings.{probe_frames, IsRewritten, refused_by, IsFound}
use Rattle.tcp_norm.specs.PassedPackets.{given}
use Rattle.tcp_norm.specs.declared.arrival.Arrival.{Arrival}
use Rattle.tcp_norm.specs.declared.step.Passage.{Passage}
use Rattle.tcp_norm.specs.working.LiveSlots.{Live}
use Rattle.tcp_norm.specs.declared.step.Refusal.{Refusal}
use Rattle.tcp_norm.specs.declared.state.TcpNorm.{TcpNorm}
use Rattle.tcp_norm.specs.declared.step.Step.{Step}
use Rattle.tcp_norm.specs.Outcomes.{outcome_at}
use Rattle.tcp_norm.specs.TableAndStore.{StandsFor}
use Rattle.tcp_norm.specs.working.EraSteps.{IsStep, Does, continued_in, reopened_by}
use Rattle.tcp_norm.specs.working.RewriteTests.{bare_rows, header_rows}
use Rattle.tcp_norm.proofs.SegmentRules.{not_true}
use Rattle.tcp_norm.proofs.BareSegments.{bare_is_read, bare_anew, bare_mended, Comes, beside_are}
use Rattle.tcp_norm.proofs.Packets.{bare_fits}
use Rattle.tcp_norm.proofs.InboundSegments.{probe_is, in_dropped, in_outcome, in_does, packets_live, of_live, flags_are}
use Rattle.tcp_norm.proofs.Connections.{state_same, syn_same, again_same, called_dropped, step_seen, step_recalled, no_reset, probe_same}
use Rattle.tcp_norm.proofs.Connections as connections

-- An inbound SYN or RST as it is written.

-- An inbound SYN or RST as it is written, and what holds for it by what was asked of the calls
-- before.

-- where no host is asked about it, it has SYN or RST
pub called_marked : (v : View) (w : Written) → w.inward ≡ true → is_asked w ≡ false → (tcp.has_syn w.flags || tcp.has_rst w.flags) ≡ true
called_marked v w inward none = cases w.inward (tcp.has_syn w.flags) (tcp.has_rst w.flags) inward none
  where
    cases : (i s r : Bool) → i ≡ true → (i && not s && not r) ≡ false → (s || r) ≡ true
    cases true true r e f = refl
    cases true false true e f = refl
    cases true false false e f = cc
    cases false s r e f = cc

-- it is of no stream, and a probe goes out where a host is asked about it
pub cold_stream : (v : View) (w : Written) → v.era ≡ None → (is_live v && era.is_of_stream v.segments w) ≡ false
cold_stream v w none = rw none refl

pub cold_probes : (v : View) (w : Written) → v.era ≡ None → is_asked w ≡ true → c_probe v w ≡ true
cold_probes v w none asked = rw (none, asked) refl

pub begun_probes : (v : View) (w : Written) → v.era ≡ None → is_asked w ≡ false → c_probe v w ≡ false
begun_probes v w none asked = rw (none, asked) refl

-- what is read of its packet is what the era was asked about
pub bare_writes : AreReadBack → (settings : PlainSettings) (v : View) (d : Datagram) (packet : IpPacket) (link : List ℕ) (head : Tcp) (probe : Bool) (rows : List Rule) (s : Seg)
    → goes_in d.side ≡ true → IsDatagram packet link d → AreBits packet.head packet.payload.now → IsRead packet.payload.now head
    → (options : List ℕ) → options ≡ cleaned (tcp.has_syn head.flags.0) (tcp.options packet.payload.now) → length options % 4 ≡ 0 → 20 + length options ≡ head.header
    → (tcp.has_syn (segment_in d).flags || tcp.has_rst (segment_in d).flags) ≡ true → (is_live v && era.is_of_stream v.segments (segment_in d)) ≡ false → c_probe v (segment_in d) ≡ probe
    → mended_by settings v d ≡ rows → came s ≡ bare_read packet.payload.now
    → map (λ p. read (goes_in d.side) p.octets) (packet_by settings v.segments d d.fixes rows ∷ []) ≡ came s ∷ []
bare_writes back settings v d packet link head probe rows s side is bits h options exact words size marked stream probes mends reads =
    let cleans : options ≡ options_sent d =
    exact ∙ (ap (λ (x : Tcp). cleaned (tcp.has_syn x.flags.0) (tcp.options packet.payload.now)) h.fields ∙ ap (λ m. cleaned (tcp.has_syn (tcp.flags m)) (tcp.options m)) (sym is.octets)) in
    let here : AreBits d.head d.octets = subst (λ m. AreBits d.head m) (sym is.octets) (subst (λ (x : Ipv4). AreBits x packet.payload.now) (sym is.head) bits) in
    let long = ap length cleans in
    let fits = bare_fits d here (ap (λ n. n % 4) (sym long) ∙ words) (omega (arith, long, size, h.most)) in
    ap (λ w. w ∷ []) (ap (λ b. read b (packet_by settings v.segments d d.fixes rows).octets) side
    ∙ (bare_is_read back settings v d probe rows side fits (bare_anew v.segments d marked) marked (sym (bare_mended settings v d probe side stream probes) ∙ mends)
    ∙ (ap bare_read is.octets ∙ sym reads)))

-- of a live era
pub call_stream : (v : View) (w : Written) (n : ℕ) → v.era ≡ Some n → w.inward ≡ true → tcp.has_syn w.flags ≡ true → (is_live v && era.is_of_stream v.segments w) ≡ false
call_stream v w n live inward syn = rw (live, inward, syn) refl

pub reset_stream : (v : View) (w : Written) (n : ℕ) → v.era ≡ Some n → w.inward ≡ true → tcp.has_syn w.flags ≡ false → tcp.has_rst w.flags ≡ true → (is_live v && era.is_of_stream v.segments w) ≡ false
reset_stream v w n live inward syn rst = rw (live, inward, syn, rst) refl

pub call_probes : (v : View) (w : Written) (n : ℕ) → v.era ≡ Some n → w.inward ≡ true → tcp.has_rst w.flags ≡ false → c_probe v w ≡ false
call_probes v w n live inward rst = rw (live, inward, rst) refl

pub reset_probes : (v : View) (w : Written) (n : ℕ) (probe : Option Probe) → v.era ≡ Some n → w.inward ≡ true → tcp.has_rst w.flags ≡ true → probe ≡ era_probe v.segments w → c_probe v w ≡ is_some probe
reset_probes v w n probe live inward rst is =
    let here : c_probe v w ≡ is_some (out v.segments) = rw (live, inward, rst) refl in
    here ∙ (cases (out v.segments) ∙ ap is_some (sym is))
  where
    cases : (o : Option ℕ) → is_some o ≡ is_some (probe_with (awaited_number v.segments w) o w)
    cases None = refl
    cases (Some x) = refl

pub syn_marked : (w : Written) → tcp.has_syn w.flags ≡ true → (tcp.has_syn w.flags || tcp.has_rst w.flags) ≡ true
syn_marked w syn = rw syn refl

pub rst_marked : (w : Written) → tcp.has_syn w.flags ≡ false → tcp.has_rst w.flags ≡ true → (tcp.has_syn w.flags || tcp.has_rst w.flags) ≡ true
rst_marked w syn rst = rw (syn, rst) refl

-- what goes inwards with a RST brings its era nothing
pub reset_silent : (s : Seg) → tcp.are_legal s.flags.0 ≡ true → tcp.has_syn s.flags.0 ≡ false → tcp.has_rst s.flags.0 ≡ true → IsSilent (came s)
reset_silent s legal syn rst = record { inward = refl; no_syn = syn; no_fin = not_true (tcp.has_fin s.flags.0) (ap₂ (λ x y. tcp.go_together x (tcp.has_fin s.flags.0) y (tcp.has_ack s.flags.0)) (sym syn) (sym rst) ∙ legal); no_octets = refl }

pub probes_silent : (settings : PlainSettings) (d : Datagram) (probe : Option Probe) → goes_in d.side ≡ true
    → AllByRecursion IsSilent (map (λ p. read (goes_in d.side) p.octets) (probe_packets settings d probe))
probes_silent settings d None side = tt
probes_silent settings d (Some probe) side = (record { inward = side; no_syn = refl; no_fin = refl; no_octets = refl }, tt)

pub first_is : {X : Type 0} {x y : X} → x ∷ [] ≡ y ∷ [] → x ≡ y
first_is e = cc

-- a RST reopens nothing
pub no_recall : (ws : List Written) (w : Written) → w.inward ≡ true → tcp.has_syn w.flags ≡ false → era.reopens_inward ws w ≡ false
no_recall ws w inward syn = stays (is_closed (state_of ws)) ((w.inward && tcp.has_syn w.flags) && not (tcp.has_ack w.flags)) (not (era.precedes (base_of ws) w.seq)) (rw (inward, syn) refl)
  where
    stays : (a b c : Bool) → b ≡ false → (a && b && c) ≡ false
    stays true b c e = rw e refl
    stays false b c e = refl

-- A SYN of a connection that has a live era: what is ruled of it, reported and sent.

-- What is ruled of an inbound datagram, as it is reported and sent.

pub probes_long : (settings : PlainSettings) (d : Datagram) (probe : Option Probe) → length (probe_packets settings d probe) ≡ cond {A = ℕ} (is_some probe) 1 0
probes_long settings d None = refl
probes_long settings d (Some probe) = refl

pub packets_long : (settings : PlainSettings) (d : Datagram) (own : Packet) (probe : Option Probe) → length (own ∷ probe_packets settings d probe) ≡ cond {A = ℕ} (is_some probe) 2 1
packets_long settings d own None = refl
packets_long settings d own (Some probe) = refl

-- the frames of a probe, if there is one
pub probes_are : (settings : PlainSettings) (d : Datagram) (packet : IpPacket) (link : List ℕ) (head : Tcp) (hops : ℕ) (ip : Ipv4) (probe : Option Probe)
    → hops ≡ settings.hops → packet.side ≡ Inward → IsDatagram packet link d → head ≡ seen packet.payload.now head → ip ≡ raised hops packet.head
    → probe_frames link ip head.sport head.dport probe ≡ frames_of link (probe_packets settings d probe)
probes_are settings d packet link head hops ip None same side is fields raises = refl
probes_are settings d packet link head hops ip (Some probe) same side is fields raises = probe_is settings d packet link head hops ip probe same side is fields raises

-- a SYN or a RST is rewritten from the fields of its header
pub bare_carried : (ws : List Written) (d : Datagram) (packet : IpPacket) (link : List ℕ) (head : Tcp) → IsDatagram packet link d → IsRead packet.payload.now head
    → segment_anew ws d ≡ bare_segment d
    → segment_anew ws d ≡ anew_segment packet.head head head.seq true (cleaned (tcp.has_syn head.flags.0) (tcp.options packet.payload.now)) []
bare_carried ws d packet link head is h bare =
    let m = sym is.octets in
    bare ∙ sym (λ k. record {
      source = ((sym is.head) k).src.0;
      destination = ((sym is.head) k).dst.0;
      source_port = (ap (λ (x : Tcp). x.sport) h.fields ∙ ap tcp.source_port m) k;
      destination_port = (ap (λ (x : Tcp). x.dport) h.fields ∙ ap tcp.destination_port m) k;
      sequence = (ap (λ (x : Tcp). x.seq) h.fields ∙ ap tcp.sequence m) k;
      acknowledgment = (ap (λ (x : Tcp). x.ack) h.fields ∙ ap tcp.acknowledgment m) k;
      flags = flags_cleared (flags_are packet link d head is h k);
      window = (ap (λ (x : Tcp). x.window) h.fields ∙ ap tcp.window m) k;
      options = (ap (λ (x : Tcp). cleaned (tcp.has_syn x.flags.0) (tcp.options packet.payload.now)) h.fields ∙ ap (λ o. cleaned (tcp.has_syn (tcp.flags o)) (tcp.options o)) m) k;
      octets = [];
    })

-- of an inbound datagram
pub rewritten_if : (ws : List Written) (d : Datagram) (a : Arrival) (scratch : List ℕ) (p : Passage) → goes_in d.side ≡ true
    → ((length p.rows.items == 0) ≡ false → segment_anew ws d ≡ anew_segment a.packet.now.head a.head.now p.seq p.fin (cleaned (tcp.has_syn a.head.now.flags.0) (tcp.options a.packet.now.payload.now)) (take p.size scratch))
    → IsRewritten ws d a scratch p
rewritten_if ws d a scratch p side is = record { anew = λ inward. is; alone = λ out. cc (sym side ∙ out) }

pub rewritten_in : (ws : List Written) (d : Datagram) (a : Arrival) (scratch : List ℕ) (p : Passage) → goes_in d.side ≡ true
    → segment_anew ws d ≡ anew_segment a.packet.now.head a.head.now p.seq p.fin (cleaned (tcp.has_syn a.head.now.flags.0) (tcp.options a.packet.now.payload.now)) (take p.size scratch)
    → IsRewritten ws d a scratch p
rewritten_in ws d a scratch p side is = rewritten_if ws d a scratch p side (λ some. is)

-- the packet is the only one
pub given_one : (as_read : Bool) (frame : List ℕ) (out : List (List ℕ)) → (as_read ≡ false → length out ≡ 1) → length (given as_read frame out) ≡ 1
given_one true frame out one = refl
given_one false frame out one = one refl

-- a probe follows an inbound datagram alone
pub inward_of : (side : Side) (probe : Option Probe) (some : Probe) → probe ≡ Some some → (goes_in side ≡ false → probe ≡ None) → side ≡ Inward
inward_of Inward probe some is alone = refl
inward_of Outward probe some is alone = cc (sym is ∙ alone refl)

-- A SYN of a connection that has a live era: T_STATE or T_SYN drops it, or it is written.

-- the rule table says the same of it as this refusal
pub record Drops (settings : PlainSettings) (v : View) (d : Datagram) (r : Refusal) : Type 0 where
  pub drops : dropped_by settings v d ≡ Some r.rule
  pub outcome_is : outcome_at settings v d ≡ record { verdict = verdicts.Drop; rules = r.rule ∷ []; era = r.era; begun = None; ended = []; packets = probe_packets settings d r.probe }

abbrev pub Refuses : PlainSettings → View → Datagram → Option Refusal → Type 0
Refuses settings v d None = dropped_by settings v d ≡ None
Refuses settings v d (Some r) = Drops settings v d r

pub syn_refused : (settings : PlainSettings) (v : View) (d : Datagram) (n : ℕ) (ws : List Written) (key : FlowKey) (s : Seg) (r : Option Refusal)
    → v.era ≡ Some n → v.segments ≡ ws → Comes d key s → tcp.has_syn (segment_in d).flags ≡ true → tcp.has_rst (segment_in d).flags ≡ false
    → r ≡ refused_by ws (came s) n → Refuses settings v d r
syn_refused settings v d n ws key s r live segments is syn rst found = subst (Refuses settings v d) (sym found) (cases (t_state ws (came s)) (t_syn ws (came s)) refl refl)
  where
    state : t_state v.segments (segment_in d) ≡ t_state ws (came s)
    state = sym (state_same v.segments d key s is) ∙ ap (λ l. t_state l (came s)) segments

    stray : t_syn v.segments (segment_in d) ≡ t_syn ws (came s)
    stray = sym (syn_same v.segments d key s is) ∙ ap (λ l. t_syn l (came s)) segments

    rule : (a b : Bool) → t_state ws (came s) ≡ a → t_syn ws (came s) ≡ b → dropped_by settings v d ≡ cond a (Some rules.TState) (cond b (Some rules.TSyn) None)
    rule a b e t = called_dropped settings v d n is.side live syn rst ∙ ap₂ (λ x y. cond x (Some rules.TState) (cond y (Some rules.TSyn) None)) (state ∙ e) (stray ∙ t)

    probe : era_probe v.segments (segment_in d) ≡ era_probe ws (came s)
    probe = ap (λ l. era_probe l (segment_in d)) segments ∙ sym (probe_same ws d key s is)

    cases : (a b : Bool) → t_state ws (came s) ≡ a → t_syn ws (came s) ≡ b
        → Refuses settings v d (cond a (Some (record { rule = rules.TState; era = Some n; probe = Some (cold_probe_of (came s)) })) (cond b (Some (record { rule = rules.TSyn; era = Some n; probe = era_probe ws (came s) })) None))
    cases true b e t = record {
      drops = rule true b e t;
      outcome_is = in_dropped settings v d rules.TState (Some n) _ (rule true b e t) live (ap (λ p. probe_packets settings d (Some p)) (sym (connections.cold_probe_same d key s is)));
    }
    cases false true e t = record {
      drops = rule false true e t;
      outcome_is = in_dropped settings v d rules.TSyn (Some n) _ (rule false true e t) live (ap (probe_packets settings d) probe);
    }
    cases false false e t = rule false false e t

-- one that passes continues the era, or ends it and begins the next
step_by : (v : View) (w : Written) (n : ℕ) (again : Bool) → v.era ≡ Some n → w.inward ≡ true → reopens_inward v.segments w ≡ again
    → IsStep v w (cond again (reopened_by n v.next (octets_of v.segments)) (continued_in n))
step_by v w n true live inward is = step_recalled v w n live inward is
step_by v w n false live inward is = step_seen v w n live inward is

by_full : (again : Bool) (n next octets : ℕ) → (λ (x : Step). x.full) (cond again (reopened_by n next octets) (continued_in n)) ≡ false
by_full true n next octets = refl
by_full false n next octets = refl

-- it is written, with these rules, as a segment without octets
pub record OfSyn (settings : PlainSettings) (calls : List Call) (d : Datagram) (a : Arrival) (here : Live) (s : Seg) (named : List Rule) (step : Step) : Type 0 where
  pub outcome_is : outcome_at settings (view_of settings calls d) d ≡ passed step d.fixes named (packet_by settings (view_of settings calls d).segments d d.fixes named ∷ [])
  pub does : Does d (came s) step (outcome_at settings (view_of settings calls d) d)
  pub carried : segment_anew (view_of settings calls d).segments d
      ≡ anew_segment a.packet.now.head a.head.now a.head.now.seq true (cleaned (tcp.has_syn a.head.now.flags.0) (tcp.options a.packet.now.payload.now)) []
  pub side : goes_in d.side ≡ true
  pub key_is : here.key ≡ key_of d
  pub stood : eras.StandsFor here.flow.era (segments here.flow.number calls)

pub of_syn : AreReadBack → (settings : PlainSettings) (calls : List Call) (d : Datagram) (a : Arrival) (norm : TcpNorm) (here : Live) (s : Seg) (changed again : Bool) (named : List Rule) (step : Step)
    → StandsFor settings norm calls → IsDatagram a.packet.now a.link.now d → IsFound norm a here → AreBits a.packet.now.head a.packet.now.payload.now
    → tcp.has_syn a.head.now.flags.0 ≡ true → came s ≡ bare_read a.packet.now.payload.now
    → changed ≡ differ (cleaned (tcp.has_syn a.head.now.flags.0) (tcp.options a.packet.now.payload.now)) (tcp.options a.packet.now.payload.now)
    → length (cleaned (tcp.has_syn a.head.now.flags.0) (tcp.options a.packet.now.payload.now)) % 4 ≡ 0
    → 20 + length (cleaned (tcp.has_syn a.head.now.flags.0) (tcp.options a.packet.now.payload.now)) ≡ a.head.now.header
    → named ≡ bare_rows (header_rows a.head.now changed)
    ((tcp.has_syn a.head.now.flags.0 || tcp.has_rst a.head.now.flags.0) && nat_lt 0 (length a.packet.now.payload.now - a.head.now.header)) false
    → ((ws : List Written) → eras.StandsFor here.flow.era ws → None ≡ refused_by ws (came s) here.flow.number)
    → ((ws : List Written) → eras.StandsFor here.flow.era ws → again ≡ reopens_inward ws (came s))
    → ((ws : List Written) → eras.StandsFor here.flow.era ws → step ≡ cond again (reopened_by here.flow.number (norm.begun + 1) (octets_of ws)) (continued_in here.flow.number))
    → OfSyn settings calls d a here s named step
of_syn back settings calls d a norm here s changed again named step st is found bits has reads cleans words size rows refuses reopens steps =
    let n = here.flow.number in
    let v = view_of settings calls d in
    let w = segment_in d in
    let l = of_live settings calls d a norm here st is found in
    let ws = segments n calls in
    let live = l.live.era_is in
    let comes = l.comes s reads in
    let syn : tcp.has_syn w.flags ≡ true = sym (ap tcp.has_syn l.flags) ∙ has in
    let rst = no_reset w.flags (sym (ap tcp.are_legal l.flags) ∙ a.read.legal) syn in
    let none = syn_refused settings v d n ws here.key s None live l.live.segments_are comes syn rst (refuses ws l.stood) in
    let recalls = sym (again_same v.segments d here.key s comes) ∙ (ap (λ x. reopens_inward x (came s)) l.live.segments_are ∙ sym (reopens ws l.stood)) in
    let next : norm.begun + 1 ≡ v.next = omega (arith, st.begun_is) in
    let made : step ≡ cond again (reopened_by n v.next (octets_of v.segments)) (continued_in n) =
    steps ws l.stood ∙ ap₂ (λ k o. cond again (reopened_by n k o) (continued_in n)) next (sym (ap octets_of l.live.segments_are)) in
    let stream = call_stream v w n live l.side syn in
    let probes = call_probes v w n live l.side rst in
    let marked = syn_marked w syn in
    let mends = beside_are settings v d a.packet.now.payload.now a.head.now changed false named a.read.fields is.octets l.side stream probes cleans rows in
    let writes = bare_writes back settings v d a.packet.now a.link.now a.head.now false named s l.side is bits a.read _ refl words size marked stream probes mends reads in
    let outcome = in_outcome settings v d step d.fixes named _ l.side refl none mends (subst (IsStep v w) (sym made) (step_by v w n again live l.side recalls))
    (ap (λ (x : Step). x.full) made ∙ by_full again n v.next (octets_of v.segments)) (packets_live settings v d named n live rst) in
    record {
      outcome_is = outcome;
      does = subst (Does d (came s) step) (sym outcome) (in_does d (came s) step d.fixes named _ writes);
      carried = bare_carried v.segments d a.packet.now a.link.now a.head.now is a.read (bare_anew v.segments d marked);
      side = l.side;
      key_is = sym l.key_is;
      stood = l.stood;
    }
