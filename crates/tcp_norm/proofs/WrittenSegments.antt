-- What is written of a datagram: no octet of the stream, or the frame of its segment.
use Rattle.std.proofs.Common.{◌≡◌, ◌≢◌, ℕ, ◌+◌, ◌-◌, ◌&&◌, ◌||◌, Bool, true, false, cond, if◌then◌else◌, List, [], ◌∷◌, ◌++◌, length, ℤ, pos, ◌+ℤ◌, ◌-ℤ◌, Option, Some, None, is_some, refl, sym, ap, subst, ◌∙◌, append-nil}
use Rattle.std.specs.List.{AllByRecursion}
use Rattle.std.specs.Option.{option_or}
use Rattle.std.proofs.lemmas.Bool.{false≢true, false_from_ne_true, true_from_ne_false}
use Rattle.wire_base.specs.Tcp as tcp
use Rattle.wire_base.specs.Segments.{Written}
use Rattle.rule_book.specs.declared.rule.Rule.{Rule}
use Rattle.norm_settings.specs.SettingValues.{PlainSettings}
use Rattle.era_state.specs.Offsets.{off, natural}
use Rattle.era_state.specs.SegmentMarks.{octet_at, get_at, fin_place}
use Rattle.era_state.specs.Quantities.{base_of, base_at, acked, first, end_of}
use Rattle.era_state.specs.States.{state_of, is_acknowledged}
use Rattle.era_state.specs.Rules as era
use Rattle.era_state.specs.SilentSegments.{IsSilent}
use Rattle.era_state.specs.Emission.{AreEmitted}
use Rattle.era_state.proofs.Quantities.{end_push, octet_push, or_none}
use Rattle.era_state.proofs.SameNumbers.{no_end, no_octet, pushed}
use Rattle.cold_start.specs.Rules.{is_asked}
use Rattle.reset_probe.specs.Rules.{era_probe}
use Rattle.ip_rules.specs.Datagrams.{Datagram, Packet, goes_in}
use Rattle.tcp_norm.specs.Calls.{Call, datagram, Outcome, read, segment_in, is_era, is_written, written_by, segments, live}
use Rattle.tcp_norm.specs.RuleViews.{View, view_of}
use Rattle.tcp_norm.specs.RuleRows.{is_live, dropped_by, mended_by}
use Rattle.tcp_norm.specs.EmittedPackets.{packet_by, probe_packets, packets_passed}
use Rattle.tcp_norm.specs.Outcomes.{outcome_at, outcome_by, call_of}
use Rattle.tcp_norm.specs.LiveEras.{AreMade}
use Rattle.tcp_norm.specs.CallLaws.{WritesFrame}
use Rattle.tcp_norm.specs.SegmentPackets.{IsSegment}
use Rattle.tcp_norm.proofs.Lists.{some_none}
use Rattle.tcp_norm.proofs.SegmentRules.{flags_stay, OfStream, of_stream, stream_begins_none}
use Rattle.tcp_norm.proofs.InboundSegments.{asks, step_asked, packets_begun, packets_live, packets_reset, early_now, stream_is}
use Rattle.tcp_norm.proofs.SynsAndResets.{called_marked, cold_stream, call_stream, reset_stream, syn_marked, rst_marked, probes_silent}
use Rattle.tcp_norm.proofs.EmittedSegments.{interval_of, acknowledged_based, bare_read_is, no_fin, stream_framed}
use Rattle.tcp_norm.proofs.EmittedCalls.{Below, Enters, begun, within, written, no_rst, passed_rows, live_row, enters_of, named_era}

-- What is written of a datagram: no octet, or the frame of its segment.

-- the segment has neither an octet of the stream nor its end
pub record AddsNone (w : Written) : Type 0 where
  octets : (base at : ℕ) (offset : ℤ) → octet_at base at offset w ≡ None
  end : (base at : ℕ) → fin_place base at w ≡ None

-- this holds for each of these
abbrev pub AddNone : List Written → Type 0
AddNone ws = AllByRecursion AddsNone ws

outward_none : (w : Written) → w.inward ≡ false → AddsNone w
outward_none w out = record {
  octets = λ base at offset. (λ j. if out j then get_at w.octets (natural (offset -ℤ off base at w.seq)) else None);
  end = λ base at. (λ j. if out j && tcp.has_fin w.flags then Some (off base at w.seq +ℤ pos (length w.octets)) else None);
}

outward_nones : (d : Datagram) (packets : List Packet) → goes_in d.side ≡ false → AddNone (written d packets)
outward_nones d [] out = tt
outward_nones d (p ∷ ps) out = (outward_none (read (goes_in d.side) p.octets) out, outward_nones d ps out)

-- an inward segment without octets and FIN
bare_none : (w : Written) → w.octets ≡ [] → tcp.has_fin w.flags ≡ false → AddsNone w
bare_none w octets fin = record { octets = λ base at offset. no_octet base at w offset octets; end = λ base at. no_end base at w fin }

silent_nones : (ws : List Written) → AllByRecursion IsSilent ws → AddNone ws
silent_nones [] silent = tt
silent_nones (w ∷ ws) silent = (bare_none w silent.0.no_octets silent.0.no_fin, silent_nones ws silent.1)

-- they change neither
pub none_added : (base : ℕ) (ws more : List Written) (offset : ℤ) → AddNone more → first base (ws ++ more) offset ≡ first base ws offset
none_added base ws [] offset none = ap (λ xs. first base xs offset) (append-nil ws)
none_added base ws (w ∷ more) offset none =
    ap (λ xs. first base xs offset) (pushed ws w more)
    ∙ (none_added base (ws ++ w ∷ []) more offset none.1
    ∙ (octet_push base ws w offset
    ∙ (ap (option_or (first base ws offset)) (none.0.octets base (acked base ws) offset) ∙ or_none (first base ws offset))))

pub no_end_added : (base : ℕ) (ws more : List Written) → AddNone more → end_of base (ws ++ more) ≡ end_of base ws
no_end_added base ws [] none = ap (end_of base) (append-nil ws)
no_end_added base ws (w ∷ more) none =
    ap (end_of base) (pushed ws w more)
    ∙ (no_end_added base (ws ++ w ∷ []) more none.1
    ∙ (end_push base ws w
    ∙ (ap (option_or (end_of base ws)) (none.0.end base (acked base ws)) ∙ or_none (end_of base ws))))

-- the frame of a segment of the stream
pub record StreamFrame (d : Datagram) (ws : List Written) (w : Written) : Type 0 where
  pub stream : OfStream ws (segment_in d)
  pub based : base_of ws ≡ Some (base_at ws)
  pub frame : WritesFrame ws (segment_in d) (interval_of ws (segment_in d)) w

data Adds (d : Datagram) (ws more : List Written) : Type 0 where
  nothing : AddNone more → Adds d ws more
  framed : (w : Written) → more ≡ w ∷ [] → StreamFrame d ws w → Adds d ws more

-- a SYN or a RST, and what is sent with it
marked_none : Below → (settings : PlainSettings) (v : View) (d : Datagram) (behind : List Packet) → IsSegment settings d → goes_in d.side ≡ true
    → (tcp.has_syn (segment_in d).flags || tcp.has_rst (segment_in d).flags) ≡ true → (is_live v && era.is_of_stream v.segments (segment_in d)) ≡ false
    → AllByRecursion IsSilent (written d behind) → AddNone (written d (packet_by settings v.segments d d.fixes (mended_by settings v d) ∷ behind))
marked_none b settings v d behind h side marked stream silent =
    let is = bare_read_is b.cleans b.back settings v d h side marked stream in
    let f = tcp.flags d.octets in
    let fin = (flags_stay f).fin ∙ no_fin (tcp.has_syn f) (tcp.has_fin f) (tcp.has_rst f) (tcp.has_ack f) h.legal marked in
    (bare_none (read (goes_in d.side) (packet_by settings v.segments d d.fixes (mended_by settings v d)).octets) (ap (λ (w : Written). w.octets) is) (ap (λ (w : Written). tcp.has_fin w.flags) is ∙ fin), silent_nones (written d behind) silent)

adds_cold : Below → (settings : PlainSettings) (v : View) (d : Datagram) (ws : List Written) → IsSegment settings d → goes_in d.side ≡ true → v.era ≡ None → Enters v (segment_in d) ws
    → Adds d ws (written d (packets_passed settings v d (mended_by settings v d)))
adds_cold b settings v d ws h side none (within n live begins same) = absurd (some_none (sym none ∙ live))
adds_cold b settings v d ws h side none (begun n begins empty) =
    let w = segment_in d in
    let asked : is_asked w ≡ false = false_from_ne_true (is_asked w) (λ e. some_none ((step_asked v w none (asks w e)).begun_is ∙ begins)) in
    subst (λ ps. Adds d ws (written d ps)) (sym (packets_begun settings v d (mended_by settings v d) none asked))
    (nothing (marked_none b settings v d [] h side (called_marked v w side asked) (cold_stream v w none) tt))

adds_call : Below → (settings : PlainSettings) (v : View) (d : Datagram) (ws : List Written) (n : ℕ) → IsSegment settings d → goes_in d.side ≡ true → v.era ≡ Some n
    → tcp.has_syn (segment_in d).flags ≡ true → Adds d ws (written d (packets_passed settings v d (mended_by settings v d)))
adds_call b settings v d ws n h side live syn =
    let w = segment_in d in
    subst (λ ps. Adds d ws (written d ps)) (sym (packets_live settings v d (mended_by settings v d) n live (no_rst (tcp.has_syn w.flags) (tcp.has_fin w.flags) (tcp.has_rst w.flags) (tcp.has_ack w.flags) syn h.legal)))
    (nothing (marked_none b settings v d [] h side (syn_marked w syn) (call_stream v w n live side syn) tt))

adds_reset : Below → (settings : PlainSettings) (v : View) (d : Datagram) (ws : List Written) (n : ℕ) → IsSegment settings d → goes_in d.side ≡ true → v.era ≡ Some n
    → tcp.has_syn (segment_in d).flags ≡ false → tcp.has_rst (segment_in d).flags ≡ true → Adds d ws (written d (packets_passed settings v d (mended_by settings v d)))
adds_reset b settings v d ws n h side live syn rst =
    let w = segment_in d in
    subst (λ ps. Adds d ws (written d ps)) (sym (packets_reset settings v d (mended_by settings v d) n live side rst))
    (nothing (marked_none b settings v d (probe_packets settings d (era_probe v.segments w)) h side (rst_marked w syn rst) (reset_stream v w n live side syn rst)
    (probes_silent settings d (era_probe v.segments w) side)))

adds_stream : Below → (settings : PlainSettings) (v : View) (d : Datagram) (ws : List Written) (n : ℕ) → IsSegment settings d → goes_in d.side ≡ true → v.era ≡ Some n → dropped_by settings v d ≡ None
    → tcp.has_syn (segment_in d).flags ≡ false → tcp.has_rst (segment_in d).flags ≡ false → Enters v (segment_in d) ws → AreEmitted [] ws
    → Adds d ws (written d (packets_passed settings v d (mended_by settings v d)))
adds_stream b settings v d ws n h side live none syn rst enters emitted =
    subst (λ ps. Adds d ws (written d ps)) (sym (packets_live settings v d (mended_by settings v d) n live rst)) (by enters)
  where
    w : Written
    w = segment_in d

    settled : is_acknowledged (state_of v.segments) ≡ true
    settled = true_from_ne_false (is_acknowledged (state_of v.segments)) (λ early.
        false≢true (sym (live_row v (era.t_state v.segments w) n live (passed_rows settings v d side none).1.0) ∙ early_now v.segments w (state_of v.segments) refl early side syn rst))

    stream : era.is_of_stream v.segments w ≡ true
    stream = stream_is v.segments w settled side syn rst

    here : AreEmitted [] v.segments
        → Adds d v.segments (written d (packet_by settings v.segments d d.fixes (mended_by settings v d) ∷ []))
    here emitted = framed (read (goes_in d.side) (packet_by settings v.segments d d.fixes (mended_by settings v d)).octets) refl (record {
      stream = of_stream v.segments w stream;
      based = acknowledged_based v.segments settled;
      frame = stream_framed b.cleans b.reads b.back settings v d h emitted (ap is_some live) stream;
    })

    by : Enters v w ws → Adds d ws (written d (packet_by settings v.segments d d.fixes (mended_by settings v d) ∷ []))
    by (begun m begins empty) = absurd (some_none (sym (stream_begins_none v w (ap is_some live) (of_stream v.segments w stream)) ∙ begins))
    by (within m is begins same) =
        subst (λ us. Adds d us (written d (packet_by settings v.segments d d.fixes (mended_by settings v d) ∷ []))) same
        (here (subst (AreEmitted []) (sym same) emitted))

adds : Below → (settings : PlainSettings) (v : View) (d : Datagram) (ws : List Written) → IsSegment settings d → dropped_by settings v d ≡ None → Enters v (segment_in d) ws → AreEmitted [] ws
    → Adds d ws (written d (packets_passed settings v d (mended_by settings v d)))
adds b settings v d ws h none enters emitted = by (goes_in d.side) v.era (tcp.has_syn (segment_in d).flags) (tcp.has_rst (segment_in d).flags) refl refl refl refl
  where
    by : (side : Bool) (live : Option ℕ) (syn rst : Bool) → goes_in d.side ≡ side → v.era ≡ live → tcp.has_syn (segment_in d).flags ≡ syn → tcp.has_rst (segment_in d).flags ≡ rst
        → Adds d ws (written d (packets_passed settings v d (mended_by settings v d)))
    by false live syn rst out l s r = nothing (outward_nones d (packets_passed settings v d (mended_by settings v d)) out)
    by true None syn rst side l s r = adds_cold b settings v d ws h side l enters
    by true (Some n) true rst side l s r = adds_call b settings v d ws n h side l s
    by true (Some n) false true side l s r = adds_reset b settings v d ws n h side l s r
    by true (Some n) false false side l s r = adds_stream b settings v d ws n h side l none s r enters emitted

-- The same of the call of a datagram, in one era.
pub data Writes (era : ℕ) (d : Datagram) (ws : List Written) (o : Outcome) (more : List Written) : Type 0 where
  silent : AddNone more → Writes era d ws o more
  frames : (w : Written) → more ≡ w ∷ [] → o.era ≡ Some era → is_written o.verdict ≡ true → StreamFrame d ws w → Writes era d ws o more

pub writes : Below → (settings : PlainSettings) (cs : List Call) (now : ℕ) (d : Datagram) (era : ℕ) → AreMade settings cs → IsSegment settings d → AreEmitted [] (segments era cs)
    → Writes era d (segments era cs) (outcome_at settings (view_of settings cs d) d) (written_by era (call_of settings cs now d))
writes b settings cs now d era made h emitted = by (dropped_by settings v d) refl
  where
    v : View
    v = view_of settings cs d

    ws : List Written
    ws = segments era cs

    never : (a : Bool) (more : List Written) → AddNone (cond (a && false) more [])
    never true more = tt
    never false more = tt

    passed : (a p : Bool) (o : Outcome) → is_era era o.era ≡ a → is_written o.verdict ≡ p → (o.era ≡ Some era → Adds d ws (written d o.packets))
        → Writes era d ws o (cond (a && p) (written d o.packets) [])
    passed false p o e f goes = silent tt
    passed true false o e f goes = silent tt
    passed true true o e f goes = at (goes (named_era era o.era e))
      where
        at : Adds d ws (written d o.packets) → Writes era d ws o (written d o.packets)
        at (nothing none) = silent none
        at (framed w is frame) = frames w is (named_era era o.era e) f frame

    by : (rule : Option Rule) → dropped_by settings v d ≡ rule
        → Writes era d ws (outcome_by settings v d rule (mended_by settings v d)) (written_by era (datagram now d (outcome_by settings v d rule (mended_by settings v d))))
    by (Some rule) drops = silent (never (is_era era v.era) _)
    by None none =
        passed _ _ (outcome_by settings v d None (mended_by settings v d)) refl refl
        (λ is. adds b settings v d ws h none (enters_of settings cs d era made is) emitted)
