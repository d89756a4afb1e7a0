-- What is written of one datagram is emitted in its era: outbound, a SYN or RST, or of the stream.
use Rattle.std.proofs.Common.{◌≤◌, ◌≡◌, inl, inr, ℕ, ◌+◌, ◌%◌, ◌^◌, ◌<◌, ◌&&◌, ◌||◌, not, Bool, true, false, cond, List, [], ◌∷◌, ◌++◌, Option, Some, None, refl, sym, ap, subst, ◌∙◌, arith, zero, suc, ◌-◌, length, map, ℤ, pos, negsuc, nat_eq, slice_get}
use Rattle.std.specs.List.{AllByRecursion, range_with_len}
use Rattle.std.specs.Option.{option_or, unwrap_or}
use Rattle.std.proofs.lemmas.Bool.{false≢true, and_parts}
use Rattle.std.proofs.lemmas.Bool.Decides.{nat_tests}
use Rattle.wire_base.specs.Tcp as tcp
use Rattle.wire_base.specs.Segments.{Written}
use Rattle.tcp_codec.specs.CleanedOptions.{CleansOctets}
use Rattle.tcp_codec.specs.MendedSegment.{MendedSayTheSame}
use Rattle.tcp_codec.specs.WrittenSegment.{AreReadBack, segment_octets}
use Rattle.rule_book.specs.declared.rule.Rule.{Rule}
use Rattle.norm_settings.specs.SettingValues.{PlainSettings}
use Rattle.era_state.specs.SegmentMarks.{is_inbound_syn, fixes}
use Rattle.era_state.specs.Quantities.{base_of, acked, end_of, out_fin, is_opened, is_over, base_at, edge, top}
use Rattle.era_state.specs.States.{State, offered, warm, closed, state_of, state_at, state_with, is_called, is_closed, is_acknowledged}
use Rattle.era_state.specs.Rules as era
use Rattle.era_state.specs.SilentSegments.{IsSilent}
use Rattle.era_state.specs.Emission.{IsOutward, IsBare, AreEmitted, IsKeptFrame}
use Rattle.era_state.specs.EmissionLaws.{WrittenRemains}
use Rattle.era_state.proofs.Quantities.{base_push}
use Rattle.ip_rules.specs.Datagrams.{Datagram, goes_in}
use Rattle.era_state.specs.Offsets.{OffsetsAreRead, number_in, whole}
use Rattle.era_state.specs.declared.offset.Interval.{Interval}
use Rattle.era_state.specs.ForwardedOctets.{bounds_of, offset_of, keeps_fin}
use Rattle.era_state.specs.KeptIntervals.{KeptOf}
use Rattle.era_state.proofs.Frames.{EndLies}
use Rattle.era_state.proofs.EmittedSegments.{bounded}
use Rattle.tcp_norm.specs.Calls.{read, segment_in}
use Rattle.tcp_norm.specs.RuleViews.{View}
use Rattle.tcp_norm.specs.RuleRows.{is_live, c_probe, mended_by, pseudo_of, clashes, low_of, high_of, own_octet, octet_sent, header_mends, holds_era, t_strip}
use Rattle.tcp_norm.specs.EmittedPackets.{packet_by, segment_sent, segment_anew, sum_mended}
use Rattle.tcp_norm.specs.working.InwardSegments.{bare_read}
use Rattle.tcp_norm.specs.SegmentPackets.{IsSegment}
use Rattle.tcp_norm.specs.CallLaws.{WritesFrame}
use Rattle.tcp_norm.proofs.SegmentRules.{of_stream, stream_mended, flags_stay, header_mended, those_few}
use Rattle.tcp_norm.proofs.BareSegments.{bare_mended, bare_is_read, bare_anew}
use Rattle.tcp_norm.proofs.Packets.{bare_fits_here, bits, stream_fits_here, number_fits}
use Rattle.tcp_norm.proofs.StreamFrames.{writes_frame}
use Rattle.tcp_norm.specs.working.RewriteTests.{bare_tests, stream_tests}
use Rattle.std.proofs.lemmas.List.Sums.{count_by-le-length, length-filter}

-- What is emitted of an outbound datagram, and of an inbound one that brings no octet of the
-- stream.

-- what its own packet carries
pub packet_sent : (settings : PlainSettings) (ws : List Written) (d : Datagram) (fixes named : List Rule) → (packet_by settings ws d fixes named).octets ≡ segment_sent ws d named
packet_sent settings ws d [] [] = refl
packet_sent settings ws d [] (rule ∷ more) = refl
packet_sent settings ws d (fix ∷ others) named = refl

-- an outbound segment goes out with the window that it had
pub outward_emitted : CleansOctets → MendedSayTheSame → (settings : PlainSettings) (ws : List Written) (d : Datagram) (named : List Rule) → IsSegment settings d → goes_in d.side ≡ false
    → IsOutward (read (goes_in d.side) (packet_by settings ws d d.fixes named).octets)
outward_emitted cleans same settings ws d named h out =
    record { outward = out; window = subst (λ m. tcp.window m < 2 ^ 16) (sym (packet_sent settings ws d d.fixes named)) (small named) }
  where
    own : tcp.window d.octets < 2 ^ 16
    own = (bare_fits_here cleans settings d h).window

    mends : tcp.window (sum_mended d) ≡ tcp.window d.octets
    mends = let least = h.least in let inside = h.inside in (same (pseudo_of d) d.octets (omega (arith, least, inside)) least).window

    small : (named : List Rule) → tcp.window (segment_sent ws d named) < 2 ^ 16
    small [] = own
    small (rule ∷ more) = subst (λ n. n < 2 ^ 16) (sym (ap (λ b. tcp.window (cond b (segment_octets (segment_anew ws d)) (sum_mended d))) out ∙ mends)) own

-- where SYN or RST is set, FIN is not
pub no_fin : (syn fin rst ack : Bool) → tcp.go_together syn fin rst ack ≡ true → (syn || rst) ≡ true → fin ≡ false
no_fin true true rst ack e marked = cc
no_fin true false rst ack e marked = refl
no_fin false true true ack e marked = cc
no_fin false false true ack e marked = refl
no_fin false fin false ack e marked = cc

-- what is read of a SYN or a RST that goes inwards
pub bare_read_is : CleansOctets → AreReadBack → (settings : PlainSettings) (v : View) (d : Datagram) → IsSegment settings d → goes_in d.side ≡ true
    → (tcp.has_syn (segment_in d).flags || tcp.has_rst (segment_in d).flags) ≡ true → (is_live v && era.is_of_stream v.segments (segment_in d)) ≡ false
    → read (goes_in d.side) (packet_by settings v.segments d d.fixes (mended_by settings v d)).octets ≡ bare_read d.octets
bare_read_is cleans back settings v d h side marked stream =
    ap (λ b. read b (packet_by settings v.segments d d.fixes (mended_by settings v d)).octets) side
    ∙ bare_is_read back settings v d (c_probe v (segment_in d)) (mended_by settings v d) side (bare_fits_here cleans settings d h) (bare_anew v.segments d marked) marked
    (sym (bare_mended settings v d (c_probe v (segment_in d)) side stream refl))

-- it is bare, where its SYN has the number before the base, or sets it
pub is_bare : (settings : PlainSettings) (ws : List Written) (d : Datagram) → IsSegment settings d → (tcp.has_syn (segment_in d).flags || tcp.has_rst (segment_in d).flags) ≡ true
    → (tcp.has_syn (segment_in d).flags ≡ true → base_of (ws ++ bare_read d.octets ∷ []) ≡ Some (((segment_in d).seq + 1) % 2 ^ 32)) → IsBare ws (bare_read d.octets)
is_bare settings ws d h marked based =
    let f = tcp.flags d.octets in
    record {
      inward = refl;
      no_fin = (flags_stay f).fin ∙ no_fin (tcp.has_syn f) (tcp.has_fin f) (tcp.has_rst f) (tcp.has_ack f) h.legal marked;
      no_octets = refl;
      syn = λ e. based (sym (flags_stay f).syn ∙ e);
    }

-- the base that it fixes
bare_fixes : (m : List ℕ) → tcp.has_syn (tcp.flags m) ≡ true → fixes (bare_read m) ≡ Some ((tcp.sequence m + 1) % 2 ^ 32)
bare_fixes m syn = ap (λ b. cond b (Some ((tcp.sequence m + 1) % 2 ^ 32)) None) ((flags_stay (tcp.flags m)).syn ∙ syn)

pub fixes_base : (ws : List Written) (m : List ℕ) → base_of ws ≡ None → tcp.has_syn (tcp.flags m) ≡ true → base_of (ws ++ bare_read m ∷ []) ≡ Some ((tcp.sequence m + 1) % 2 ^ 32)
fixes_base ws m none syn = base_push ws (bare_read m) ∙ (ap (λ o. option_or o (fixes (bare_read m))) none ∙ bare_fixes m syn)

-- a SYN that is neither dropped nor reopens has the number before the base, where one is fixed
precedes_base : (s : State) (o : Option ℕ) (w : Written) → is_called s ≡ false → is_inbound_syn w ≡ true → era.is_stray_at s o w ≡ false → era.reopens_inward_at s o w ≡ false → era.precedes o w.seq ≡ true
precedes_base s o w = by (is_inbound_syn w) (era.precedes o w.seq) (is_called s) (is_closed s) (tcp.has_ack w.flags)
  where
    by : (syn before waits over ack : Bool) → waits ≡ false → syn ≡ true → (syn && not before && not waits && (not over || ack)) ≡ false → (over && (syn && not ack) && not before) ≡ false → before ≡ true
    by syn true waits over ack c e stray reopens = refl
    by syn false true over ack c e stray reopens = cc
    by false false false over ack c e stray reopens = cc
    by true false false false ack c e stray reopens = cc
    by true false false true true c e stray reopens = cc
    by true false false true false c e stray reopens = cc

never_called : (base : ℕ) (ws : List Written) → is_called (state_at base ws) ≡ false
never_called base ws = by (is_opened base ws) (is_over (acked base ws) (end_of base ws) (out_fin ws))
  where
    by : (opened over : Bool) → is_called (cond opened (cond over closed warm) offered) ≡ false
    by true true = refl
    by true false = refl
    by false over = refl

pub keeps_base : WrittenRemains → (ws : List Written) (d : Datagram) → goes_in d.side ≡ true → tcp.has_syn (segment_in d).flags ≡ true → era.t_syn ws (segment_in d) ≡ false
    → era.reopens_inward ws (segment_in d) ≡ false → base_of (ws ++ bare_read d.octets ∷ []) ≡ Some (((segment_in d).seq + 1) % 2 ^ 32)
keeps_base remains ws d side syn stray reopens = by (base_of ws) refl
  where
    w : Written
    w = segment_in d

    called : is_inbound_syn w ≡ true
    called = ap (λ b. b && tcp.has_syn w.flags) side ∙ syn

    by : (o : Option ℕ) → base_of ws ≡ o → base_of (ws ++ bare_read d.octets ∷ []) ≡ Some ((w.seq + 1) % 2 ^ 32)
    by None none = fixes_base ws d.octets none syn
    by (Some base) is =
        let before : era.precedes (base_of ws) w.seq ≡ true = precedes_base (state_of ws) (base_of ws) w (ap (λ o. is_called (state_with o ws)) is ∙ never_called base ws) called stray reopens in
        let test : nat_eq ((w.seq + 1) % 2 ^ 32) base ≡ true = sym (ap (λ o. era.precedes o w.seq) is) ∙ before in
        let same : base ≡ (w.seq + 1) % 2 ^ 32 = grind (arith, nat_tests, test) in
        (remains 0 ws (bare_read d.octets ∷ [])).base_is base is ∙ ap Some same

-- silent segments are emitted
pub silent_emitted : (before ws : List Written) → AllByRecursion IsSilent ws → AreEmitted before ws
silent_emitted before [] all = tt
silent_emitted before (w ∷ ws) all =
    (inr (inl (record { inward = all.0.inward; no_fin = all.0.no_fin; no_octets = all.0.no_octets; syn = λ e. absurd (false≢true (sym all.0.no_syn ∙ e)) })), silent_emitted (before ++ w ∷ []) ws all.1)

-- What is emitted of an inbound segment of the stream.

-- the interval that is kept of a segment
abbrev pub interval_of : List Written → Written → Interval
interval_of ws w =
    record {
      lo = low_of ws w;
      hi = high_of ws w;
      fin = keeps_fin (bounds_of ws) (offset_of ws w.seq) (length w.octets) (tcp.has_fin w.flags);
      below = era.t_old ws w;
      window = era.t_window ws w;
      end = era.t_end ws w;
    }

pub kept_of : (ws : List Written) (w : Written) → KeptOf ws w (interval_of ws w)
kept_of ws w = record { spans = record { lo_is = refl; hi_is = refl; fin_is = refl }; below_is = refl; window_is = refl; end_is = refl }

-- an era of which an offset is acknowledged has a base
pub acknowledged_based : (ws : List Written) → is_acknowledged (state_of ws) ≡ true → base_of ws ≡ Some (base_at ws)
acknowledged_based ws = by (base_of ws)
  where
    by : (o : Option ℕ) → is_acknowledged (state_with o ws) ≡ true → o ≡ Some (number_in o)
    by None e = cc
    by (Some base) e = refl

-- the end of emitted segments is an offset
end_is_place : (ws : List Written) → base_of ws ≡ Some (base_at ws) → AreEmitted [] ws → (end : Option ℕ) × (whole end ≡ end_of (base_at ws) ws)
end_is_place ws based emitted = by (end_of (base_at ws) ws) (bounded (base_at ws) ws (λ number e. cc (based, e)) emitted).end_lies
  where
    by : (o : Option ℤ) → EndLies o (top (base_at ws) ws) (edge (base_at ws) ws) → (end : Option ℕ) × (whole end ≡ o)
    by None lies = (None, refl)
    by (Some (pos place)) lies = (Some place, refl)
    by (Some (negsuc n)) lies = absurd lies

-- an element of what a function makes of a range
pub range_at : (f : ℕ → ℕ) (from len index octet : ℕ) → slice_get (map f (range_with_len from len)) index ≡ Some octet → f (from + index) ≡ octet
range_at f from zero index octet e = cc
range_at f from (suc len) zero octet e = let same : from + 0 ≡ from = omega arith in ap f same ∙ cc
range_at f from (suc len) (suc index) octet e = let same : from + suc index ≡ from + 1 + index = omega arith in ap f same ∙ range_at f (from + 1) len index octet e

-- a frame that is written is kept
kept_frame : (ws : List Written) (w frame : Written) → base_of ws ≡ Some (base_at ws) → WritesFrame ws w (interval_of ws w) frame → IsKeptFrame ws frame
kept_frame ws w frame based f = record {
  base = base_at ws;
  based = based;
  came = w;
  interval = interval_of ws w;
  kept = kept_of ws w;
  framed = f.framed;
  stays = λ index octet other has e.
      sym (range_at (octet_sent ws w) (low_of ws w) (high_of ws w - low_of ws w) index octet (sym (ap (λ (os : List ℕ). slice_get os index) f.octets_are) ∙ has))
      ∙ ap (λ o. unwrap_or o (own_octet ws w (low_of ws w + index))) e;
}

-- at most nine rules rewrite an inbound segment: those on its header, and those on one of the
-- stream or on another
pub inward_few : (settings : PlainSettings) (v : View) (d : Datagram) → goes_in d.side ≡ true → length (mended_by settings v d) ≤ 9
inward_few settings v d side = cases (is_live v && era.is_of_stream v.segments (segment_in d)) refl
  where
    few : length (header_mended settings v d) ≤ 5
    few = let long = length-filter (holds_era settings v d) header_mends in let most = count_by-le-length (holds_era settings v d) header_mends in omega (arith, long, most)

    cases : (stream : Bool) → (is_live v && era.is_of_stream v.segments (segment_in d)) ≡ stream → length (mended_by settings v d) ≤ 9
    cases false none =
        let probe = c_probe v (segment_in d) in
        let long = those_few (header_mended settings v d) (bare_tests (t_strip (segment_in d)) probe) in
        subst (λ l. length l ≤ 9) (sym (bare_mended settings v d probe side none refl)) (omega (arith, long, few))
    cases true is =
        let both = and_parts (is_live v) (era.is_of_stream v.segments (segment_in d)) is in
        let i = interval_of v.segments (segment_in d) in
        let clash = clashes v.segments (segment_in d) in
        let long = those_few (header_mended settings v d) (stream_tests i clash) in
        subst (λ l. length l ≤ 9) (sym (stream_mended settings v d i clash both.0 (of_stream v.segments (segment_in d) both.1) (kept_of v.segments (segment_in d)) refl)) (omega (arith, long, few))

-- what is written of it is the frame of its interval
pub stream_framed : CleansOctets → OffsetsAreRead → AreReadBack → (settings : PlainSettings) (v : View) (d : Datagram) → IsSegment settings d → AreEmitted [] v.segments
    → is_live v ≡ true → era.is_of_stream v.segments (segment_in d) ≡ true
    → WritesFrame v.segments (segment_in d) (interval_of v.segments (segment_in d)) (read (goes_in d.side) (packet_by settings v.segments d d.fixes (mended_by settings v d)).octets)
stream_framed cleans reads back settings v d h emitted live stream =
    let ws = v.segments in
    let w = segment_in d in
    let f = of_stream ws w stream in
    let based = acknowledged_based ws (and_parts _ (is_acknowledged (state_of ws)) stream).1 in
    let end = end_is_place ws based emitted in
    let i = interval_of ws w in
    let named = stream_mended settings v d i (clashes ws w) live f (kept_of ws w) refl in
    let frame = writes_frame reads back settings end.0 ws d i (clashes ws w) end.1 f (kept_of ws w) refl (number_fits d (bits settings d h)) (stream_fits_here cleans settings ws d h) _ _ (sym named) in
    subst (λ b. WritesFrame ws w i (read b (packet_by settings ws d d.fixes (mended_by settings v d)).octets)) (sym f.inward) frame

pub stream_emitted : CleansOctets → OffsetsAreRead → AreReadBack → (settings : PlainSettings) (v : View) (d : Datagram) → IsSegment settings d → AreEmitted [] v.segments
    → is_live v ≡ true → era.is_of_stream v.segments (segment_in d) ≡ true
    → IsKeptFrame v.segments (read (goes_in d.side) (packet_by settings v.segments d d.fixes (mended_by settings v d)).octets)
stream_emitted cleans reads back settings v d h emitted live stream =
    let based = acknowledged_based v.segments (and_parts _ (is_acknowledged (state_of v.segments)) stream).1 in
    kept_frame v.segments (segment_in d) _ based (stream_framed cleans reads back settings v d h emitted live stream)
