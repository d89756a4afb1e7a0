-- In calls that the rules make of segments, all that is written of each era is emitted.
use Rattle.std.proofs.Common.{◌≡◌, ℕ, ◌+◌, ◌%◌, ◌^◌, ◌<◌, ◌≤◌, ◌&&◌, ◌||◌, not, Bool, true, false, cond, List, [], ◌∷◌, ◌++◌, map, find, Option, Some, None, is_some, inl, inr, refl, sym, ap, ap₂, subst, ◌∙◌, arith}
use Rattle.std.specs.List.{AllByRecursion}
use Rattle.std.specs.Option.{option_or}
use Rattle.std.proofs.lemmas.Bool.{false≢true, false_from_ne_true, true_from_ne_false}
use Rattle.wire_base.specs.Tcp as tcp
use Rattle.wire_base.specs.Segments.{Written}
use Rattle.tcp_codec.specs.CleanedOptions.{CleansOctets}
use Rattle.tcp_codec.specs.MendedSegment.{MendedSayTheSame}
use Rattle.tcp_codec.specs.WrittenSegment.{AreReadBack}
use Rattle.rule_book.specs.declared.rule.Rule.{Rule}
use Rattle.rule_book.specs.Rules.{era_rows}
use Rattle.norm_settings.specs.SettingValues.{PlainSettings}
use Rattle.era_state.specs.Offsets.{OffsetsAreRead}
use Rattle.era_state.specs.Quantities.{base_of}
use Rattle.era_state.specs.States.{state_of, is_acknowledged}
use Rattle.era_state.specs.Rules as era
use Rattle.era_state.specs.SilentSegments.{IsSilent}
use Rattle.era_state.specs.Emission.{AreEmitted}
use Rattle.era_state.specs.EmissionLaws.{WrittenRemains, EmittedJoins}
use Rattle.reset_probe.specs.Rules.{era_probe}
use Rattle.cold_start.specs.Rules.{is_asked}
use Rattle.ip_rules.specs.Datagrams.{Datagram, Packet, goes_in}
use Rattle.linked_table.proofs.Lists.{all_weaker}
use Rattle.ip_rules.proofs.Lists.{none_found}
use Rattle.tcp_norm.specs.Calls.{Call, expiry, datagram, Alive, read, segment_in, key_of, is_era, written_by, segments, live, begun_in, touched_by, numbers_of}
use Rattle.tcp_norm.specs.RuleViews.{View, view_of, number_of, segments_of}
use Rattle.tcp_norm.specs.RuleRows.{is_live, t_full, reopens, begins, holds_era, dropped_by, mended_by}
use Rattle.tcp_norm.specs.EmittedPackets.{packet_by, probe_packets, packets_passed}
use Rattle.tcp_norm.specs.working.InwardSegments.{bare_read}
use Rattle.tcp_norm.specs.Outcomes.{begun_with, outcome_by, call_of}
use Rattle.tcp_norm.specs.LiveEras.{AreMade, last_begun, writes_in, made_of}
use Rattle.tcp_norm.specs.SegmentPackets.{IsSegment, AsksSegment, CallsAreEmitted}
use Rattle.tcp_norm.proofs.Lists.{all_map, some_same, among_is, some_none}
use Rattle.tcp_norm.proofs.SegmentRules.{of_stream, stream_begins_none}
use Rattle.tcp_norm.proofs.InboundSegments.{asks, step_asked, packets_begun, packets_live, packets_reset, early_now, stream_is}
use Rattle.tcp_norm.proofs.SynsAndResets.{called_marked, cold_stream, call_stream, reset_stream, syn_marked, rst_marked, probes_silent}
use Rattle.tcp_norm.proofs.LiveEras.{Lasts, Effect}
use Rattle.tcp_norm.proofs.CallKinds.{effect_made}
use Rattle.tcp_norm.proofs.EraCounts.{lasts_made}
use Rattle.tcp_norm.proofs.EmittedSegments.{outward_emitted, bare_read_is, is_bare, fixes_base, keeps_base, silent_emitted, stream_emitted}

-- the laws of the crates below
pub record Below : Type 0 where
  pub joins : EmittedJoins
  pub remains : WrittenRemains
  pub reads : OffsetsAreRead
  pub back : AreReadBack
  pub same : MendedSayTheSame
  pub cleans : CleansOctets

-- The era in which a segment that no rule drops is written: one that it begins, of which nothing
-- was written, or the live one.
pub data Enters (v : View) (w : Written) (ws : List Written) : Type 0 where
  begun : (n : ℕ) → begun_with v w ≡ Some n → ws ≡ [] → Enters v w ws
  within : (n : ℕ) → v.era ≡ Some n → begun_with v w ≡ None → v.segments ≡ ws → Enters v w ws

-- what is written to one side
abbrev pub written : Datagram → List Packet → List Written
written d packets = map (λ p. read (goes_in d.side) p.octets) packets

-- one that goes outwards
passes_out : Below → (settings : PlainSettings) (v : View) (d : Datagram) (ws : List Written) → IsSegment settings d → goes_in d.side ≡ false
    → AreEmitted ws (written d (packets_passed settings v d (mended_by settings v d)))
passes_out b settings v d ws h out =
    subst (λ ps. AreEmitted ws (written d ps)) (sym (alone (is_live v) refl)) (inl (outward_emitted b.cleans b.same settings v.segments d (mended_by settings v d) h out), tt)
  where
    alone : (live : Bool) → is_live v ≡ live → packets_passed settings v d (mended_by settings v d) ≡ packet_by settings v.segments d d.fixes (mended_by settings v d) ∷ []
    alone true e = rw (e, out) refl
    alone false e = rw (e, out) refl

-- a SYN or a RST, and what goes in after it
marked_in : Below → (settings : PlainSettings) (v : View) (d : Datagram) (ws : List Written) (behind : List Packet) → IsSegment settings d → goes_in d.side ≡ true
    → (tcp.has_syn (segment_in d).flags || tcp.has_rst (segment_in d).flags) ≡ true → (is_live v && era.is_of_stream v.segments (segment_in d)) ≡ false
    → (tcp.has_syn (segment_in d).flags ≡ true → base_of (ws ++ bare_read d.octets ∷ []) ≡ Some (((segment_in d).seq + 1) % 2 ^ 32)) → AllByRecursion IsSilent (written d behind)
    → AreEmitted ws (written d (packet_by settings v.segments d d.fixes (mended_by settings v d) ∷ behind))
marked_in b settings v d ws behind h side marked stream based silent =
    subst (λ w. AreEmitted ws (w ∷ written d behind)) (sym (bare_read_is b.cleans b.back settings v d h side marked stream))
    (inr (inl (is_bare settings ws d h marked based)), silent_emitted (ws ++ bare_read d.octets ∷ []) (written d behind) silent)

-- an inbound one, where no era is live
passes_cold : Below → (settings : PlainSettings) (v : View) (d : Datagram) (ws : List Written) → IsSegment settings d → goes_in d.side ≡ true → v.era ≡ None → Enters v (segment_in d) ws
    → AreEmitted ws (written d (packets_passed settings v d (mended_by settings v d)))
passes_cold b settings v d ws h side none (within n live begins same) = absurd (some_none (sym none ∙ live))
passes_cold b settings v d ws h side none (begun n begins empty) =
    let w = segment_in d in
    let asked : is_asked w ≡ false = false_from_ne_true (is_asked w) (λ e. some_none ((step_asked v w none (asks w e)).begun_is ∙ begins)) in
    subst (λ ps. AreEmitted ws (written d ps)) (sym (packets_begun settings v d (mended_by settings v d) none asked))
    (marked_in b settings v d ws [] h side (called_marked v w side asked) (cold_stream v w none) (fixes_base ws d.octets (ap base_of empty)) tt)

-- the rules on its era apply to none that passes
pub passed_rows : (settings : PlainSettings) (v : View) (d : Datagram) → goes_in d.side ≡ true → dropped_by settings v d ≡ None → AllByRecursion (λ r. holds_era settings v d r ≡ false) era_rows
passed_rows settings v d side none = none_found (holds_era settings v d) era_rows (ap (λ b. cond b (find (holds_era settings v d) era_rows) None) (sym side) ∙ none)

pub live_row : (v : View) (row : Bool) (n : ℕ) → v.era ≡ Some n → (is_live v && row) ≡ false → row ≡ false
live_row v row n live e = sym (ap (λ o. is_some o && row) live) ∙ e

-- none reopens where none begins
none_reopens : (a r : Bool) (n : ℕ) → cond (a || r) (Some n) None ≡ None → r ≡ false
none_reopens true r n e = cc
none_reopens false true n e = cc
none_reopens false false n e = refl

left_false : (a b : Bool) → (a || b) ≡ false → a ≡ false
left_false true b e = cc
left_false false b e = refl

-- with SYN, RST is not set
pub no_rst : (syn fin rst ack : Bool) → syn ≡ true → tcp.go_together syn fin rst ack ≡ true → rst ≡ false
no_rst true true rst ack e legal = cc
no_rst true false true ack e legal = cc
no_rst true false false ack e legal = refl
no_rst false fin rst ack e legal = cc

-- a call of a live era
passes_call : Below → (settings : PlainSettings) (v : View) (d : Datagram) (ws : List Written) (n : ℕ) → IsSegment settings d → goes_in d.side ≡ true → v.era ≡ Some n → dropped_by settings v d ≡ None
    → tcp.has_syn (segment_in d).flags ≡ true → Enters v (segment_in d) ws → AreEmitted ws (written d (packets_passed settings v d (mended_by settings v d)))
passes_call b settings v d ws n h side live none syn enters =
    let w = segment_in d in
    let rows = passed_rows settings v d side none in
    let stray : era.t_syn v.segments w ≡ false = live_row v _ n live rows.1.1.0 in
    subst (λ ps. AreEmitted ws (written d ps)) (sym (packets_live settings v d (mended_by settings v d) n live (no_rst (tcp.has_syn w.flags) (tcp.has_fin w.flags) (tcp.has_rst w.flags) (tcp.has_ack w.flags) syn h.legal)))
    (marked_in b settings v d ws [] h side (syn_marked w syn) (call_stream v w n live side syn) (λ _. based stray enters) tt)
  where
    based : era.t_syn v.segments (segment_in d) ≡ false → Enters v (segment_in d) ws → base_of (ws ++ bare_read d.octets ∷ []) ≡ Some (((segment_in d).seq + 1) % 2 ^ 32)
    based stray (begun m some empty) = fixes_base ws d.octets (ap base_of empty) syn
    based stray (within m is none same) =
        let w = segment_in d in
        let reopening : reopens v w ≡ false = none_reopens (begins v w && not (t_full v w)) (reopens v w) v.next none in
        subst (λ us. base_of (us ++ bare_read d.octets ∷ []) ≡ Some ((w.seq + 1) % 2 ^ 32)) same
        (keeps_base b.remains v.segments d side syn stray (left_false (era.reopens_inward v.segments w) (era.reopens_outward v.segments w) (live_row v _ n live reopening)))

-- a reset of one, and its probe
passes_reset : Below → (settings : PlainSettings) (v : View) (d : Datagram) (ws : List Written) (n : ℕ) → IsSegment settings d → goes_in d.side ≡ true → v.era ≡ Some n
    → tcp.has_syn (segment_in d).flags ≡ false → tcp.has_rst (segment_in d).flags ≡ true → AreEmitted ws (written d (packets_passed settings v d (mended_by settings v d)))
passes_reset b settings v d ws n h side live syn rst =
    let w = segment_in d in
    subst (λ ps. AreEmitted ws (written d ps)) (sym (packets_reset settings v d (mended_by settings v d) n live side rst))
    (marked_in b settings v d ws (probe_packets settings d (era_probe v.segments w)) h side (rst_marked w syn rst) (reset_stream v w n live side syn rst)
    (λ e. absurd (false≢true (sym syn ∙ e))) (probes_silent settings d (era_probe v.segments w) side))

-- a segment of its stream
passes_stream : Below → (settings : PlainSettings) (v : View) (d : Datagram) (ws : List Written) (n : ℕ) → IsSegment settings d → goes_in d.side ≡ true → v.era ≡ Some n → dropped_by settings v d ≡ None
    → tcp.has_syn (segment_in d).flags ≡ false → tcp.has_rst (segment_in d).flags ≡ false → Enters v (segment_in d) ws → AreEmitted [] ws
    → AreEmitted ws (written d (packets_passed settings v d (mended_by settings v d)))
passes_stream b settings v d ws n h side live none syn rst enters emitted =
    subst (λ ps. AreEmitted ws (written d ps)) (sym (packets_live settings v d (mended_by settings v d) n live rst)) (by enters)
  where
    w : Written
    w = segment_in d

    settled : is_acknowledged (state_of v.segments) ≡ true
    settled = true_from_ne_false (is_acknowledged (state_of v.segments)) (λ early.
        false≢true (sym (live_row v (era.t_state v.segments w) n live (passed_rows settings v d side none).1.0) ∙ early_now v.segments w (state_of v.segments) refl early side syn rst))

    stream : era.is_of_stream v.segments w ≡ true
    stream = stream_is v.segments w settled side syn rst

    by : Enters v w ws → AreEmitted ws (written d (packet_by settings v.segments d d.fixes (mended_by settings v d) ∷ []))
    by (begun m begins empty) = absurd (some_none (sym (stream_begins_none v w (ap is_some live) (of_stream v.segments w stream)) ∙ begins))
    by (within m is begins same) =
        subst (λ us. AreEmitted us (written d (packet_by settings v.segments d d.fixes (mended_by settings v d) ∷ []))) same
        (inr (inr (stream_emitted b.cleans b.reads b.back settings v d h (subst (AreEmitted []) (sym same) emitted) (ap is_some live) stream)), tt)

-- what is sent for a segment that no rule drops is emitted in its era
passes_emitted : Below → (settings : PlainSettings) (v : View) (d : Datagram) (ws : List Written) → IsSegment settings d → dropped_by settings v d ≡ None → Enters v (segment_in d) ws → AreEmitted [] ws
    → AreEmitted ws (written d (packets_passed settings v d (mended_by settings v d)))
passes_emitted b settings v d ws h none enters emitted = by (goes_in d.side) v.era (tcp.has_syn (segment_in d).flags) (tcp.has_rst (segment_in d).flags) refl refl refl refl
  where
    by : (side : Bool) (live : Option ℕ) (syn rst : Bool) → goes_in d.side ≡ side → v.era ≡ live → tcp.has_syn (segment_in d).flags ≡ syn → tcp.has_rst (segment_in d).flags ≡ rst
        → AreEmitted ws (written d (packets_passed settings v d (mended_by settings v d)))
    by false live syn rst out l s r = passes_out b settings v d ws h out
    by true None syn rst side l s r = passes_cold b settings v d ws h side l enters
    by true (Some n) true rst side l s r = passes_call b settings v d ws n h side l none s enters
    by true (Some n) false true side l s r = passes_reset b settings v d ws n h side l s r
    by true (Some n) false false side l s r = passes_stream b settings v d ws n h side l none s r enters emitted

-- nothing is written in a later era
pub unwritten : (era : ℕ) (c : Call) → writes_in era c ≡ false → written_by era c ≡ []
unwritten era (expiry now ended) e = refl
unwritten era (datagram now d o) e = ap (λ b. cond b (written d o.packets) []) e

touched_given : (cs : List Call) (c : Call) → Effect cs c → Lasts (c ∷ cs) → AllByRecursion (λ n. n ≤ begun_in (c ∷ cs)) (numbers_of (touched_by c))
touched_given cs c f s =
    all_map (λ n. n ≤ begun_in (c ∷ cs)) (λ (a : Alive). a.number) (touched_by c)
    (all_weaker (λ (a : Alive). last_begun a.key (c ∷ cs) ≡ Some a.number) (λ (a : Alive). a.number ≤ begun_in (c ∷ cs)) (λ a last. s.given a.key a.number last) (touched_by c) f.last)

pub none_to_come : (settings : PlainSettings) (cs : List Call) → AreMade settings cs → (era : ℕ) → begun_in cs < era → segments era cs ≡ []
none_to_come settings [] made era above = refl
none_to_come settings (c ∷ cs) made era above =
    let f = effect_made settings cs c made.0 (lasts_made settings cs made.1) in
    let s = lasts_made settings (c ∷ cs) made in
    let none : writes_in era c ≡ false = false_from_ne_true (writes_in era c) (λ e.
    let le = among_is (λ n. n ≤ begun_in (c ∷ cs)) (numbers_of (touched_by c)) era (touched_given cs c f s) (sym (f.writes era) ∙ e) in
    omega (arith, le)) in
    ap₂ (λ a b. a ++ b) (none_to_come settings cs made.1 era (omega arith)) (unwritten era c none)

-- the era of a segment that no rule drops
pub enters_of : (settings : PlainSettings) (cs : List Call) (d : Datagram) (era : ℕ) → AreMade settings cs → option_or (begun_with (view_of settings cs d) (segment_in d)) (view_of settings cs d).era ≡ Some era
    → Enters (view_of settings cs d) (segment_in d) (segments era cs)
enters_of settings cs d era made is = by (begun_with v (segment_in d)) refl is
  where
    v : View
    v = view_of settings cs d

    next : (t : Bool) (n : ℕ) → cond t (Some v.next) None ≡ Some n → v.next ≡ n
    next true n e = cc
    next false n e = cc

    same : (l : Option Alive) → number_of l ≡ Some era → segments_of (λ n. segments n cs) l ≡ segments era cs
    same None e = cc
    same (Some a) e = ap (λ n. segments n cs) (some_same e)

    by : (o : Option ℕ) → begun_with v (segment_in d) ≡ o → option_or o v.era ≡ Some era → Enters v (segment_in d) (segments era cs)
    by (Some n) begins e =
        let number : begun_in cs + 1 ≡ n = next _ n begins in
        let here : n ≡ era = some_same e in
        begun n begins (none_to_come settings cs made era (omega (arith, number, here)))
    by None begins e = within era e begins (same (live cs (key_of d)) e)

pub named_era : (era : ℕ) (o : Option ℕ) → is_era era o ≡ true → o ≡ Some era
named_era era None e = absurd (false≢true e)
named_era era (Some n) e = let same : n ≡ era = grind (arith, e) in ap Some same

-- the segments that the call of a datagram writes in an era
call_emitted : Below → (settings : PlainSettings) (cs : List Call) (now : ℕ) (d : Datagram) (era : ℕ) → AreMade settings cs → IsSegment settings d → AreEmitted [] (segments era cs)
    → AreEmitted (segments era cs) (written_by era (call_of settings cs now d))
call_emitted b settings cs now d era made h emitted = by (dropped_by settings v d) refl
  where
    v : View
    v = view_of settings cs d

    -- what is not written
    never : (a : Bool) (ws : List Written) → AreEmitted (segments era cs) (cond (a && false) ws [])
    never true ws = tt
    never false ws = tt

    passed : (a p : Bool) (o : Option ℕ) (ps : List Packet) → is_era era o ≡ a → (o ≡ Some era → AreEmitted (segments era cs) (written d ps))
        → AreEmitted (segments era cs) (cond (a && p) (written d ps) [])
    passed false p o ps e goes = tt
    passed true false o ps e goes = tt
    passed true true o ps e goes = goes (named_era era o e)

    by : (rule : Option Rule) → dropped_by settings v d ≡ rule → AreEmitted (segments era cs) (written_by era (datagram now d (outcome_by settings v d rule (mended_by settings v d))))
    by (Some rule) drops = never (is_era era v.era) _
    by None none =
        passed _ _ (option_or (begun_with v (segment_in d)) v.era) (packets_passed settings v d (mended_by settings v d)) refl
        (λ is. passes_emitted b settings v d (segments era cs) h none (enters_of settings cs d era made is) emitted)

emitted_next : Below → (settings : PlainSettings) (cs : List Call) (c : Call) (era : ℕ) → AreMade settings cs → c ≡ made_of settings cs c → AsksSegment settings c → AreEmitted [] (segments era cs)
    → AreEmitted (segments era cs) (written_by era c)
emitted_next b settings cs (expiry now ended) era made is asks emitted = tt
emitted_next b settings cs (datagram now d o) era made is asks emitted =
    subst (λ c. AreEmitted (segments era cs) (written_by era c)) (sym is) (call_emitted b settings cs now d era made asks emitted)

pub calls_are_emitted : Below → CallsAreEmitted
calls_are_emitted b settings cs h era = by cs h.made h.asked
  where
    by : (cs : List Call) → AreMade settings cs → AllByRecursion (AsksSegment settings) cs → AreEmitted [] (segments era cs)
    by [] made asked = tt
    by (c ∷ cs) made asked =
        let before = by cs made.1 asked.1 in
        (b.joins [] (segments era cs) (written_by era c)).1 (before, emitted_next b settings cs c era made.1 made.0 asked.0 before)
