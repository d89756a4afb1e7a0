-- Each clash of a datagram contradicts an octet that was sent, and each contradiction is a clash.
use Rattle.std.proofs.Common.{◌≡◌, ◌≢◌, ℕ, ◌+◌, ◌-◌, ◌<◌, ◌≤◌, ◌==◌, ◌&&◌, ◌||◌, not, Bool, true, false, List, [], ◌∷◌, ◌++◌, length, ℤ, pos, negsuc, ◌+ℤ◌, ◌-ℤ◌, ◌≤ℤ◌, ◌<ℤ◌, Option, Some, None, is_some, is_none, refl, sym, ap, ap₂, subst, ◌∙◌, arith, zero, suc, slice_get, slice_index, nat_lt}
use Rattle.std.specs.List.{list_any, range_with_len}
use Rattle.std.specs.Option.{option_or, unwrap_or}
use Rattle.std.proofs.lemmas.Bool.{false≢true, true_from_ne_false, and_parts}
use Rattle.std.proofs.lemmas.Bool.Decides.{nat_tests}
use Rattle.std.proofs.lemmas.Int.{ints}
use Rattle.std.proofs.lemmas.Option.{slice_get_past}
use Rattle.wire_base.specs.Segments.{Written}
use Rattle.rule_book.specs.declared.rule.Rule.{Rule}
use Rattle.norm_settings.specs.SettingValues.{PlainSettings}
use Rattle.era_state.specs.Offsets.{nat_of, number_in}
use Rattle.era_state.specs.Quantities.{base_of, base_at, acked, edge, first, end_of}
use Rattle.era_state.specs.States.{state_of, is_acknowledged}
use Rattle.era_state.specs.Rules as era
use Rattle.era_state.specs.ForwardedOctets.{Bounds, bounds_of, offset_of, up_to_end, reach, low, high}
use Rattle.era_state.specs.QuantityLaws.{IntervalsFit}
use Rattle.era_state.specs.Emission.{AreEmitted}
use Rattle.era_state.proofs.EmittedSegments.{bounded, octets_are_places}
use Rattle.ip_rules.specs.Datagrams.{Datagram, goes_in}
use Rattle.tcp_norm.specs.Calls.{Call, Outcome, Alive, segment_in, is_written, segments, live, key_of}
use Rattle.tcp_norm.specs.RuleViews.{View, view_of, number_of, segments_of}
use Rattle.tcp_norm.specs.RuleRows.{is_live, low_of, high_of, own_octet, octet_sent, clashes, t_clash, dropped_by, mended_by}
use Rattle.tcp_norm.specs.Outcomes.{begun_with, verdict_of, outcome_at, outcome_by, call_of}
use Rattle.tcp_norm.specs.SegmentPackets.{AreOfSegments, CallsAreEmitted}
use Rattle.tcp_norm.specs.BroughtOctets.{HasAt, Contradicts, is_clashing, ClashesAreReal}
use Rattle.tcp_norm.proofs.Lists.{some_same, some_none}
use Rattle.tcp_norm.proofs.SegmentRules.{OfStream, of_stream, stream_begins_none}
use Rattle.tcp_norm.proofs.InboundSegments.{early_now, stream_is}
use Rattle.tcp_norm.proofs.EmittedSegments.{interval_of, kept_of, acknowledged_based}
use Rattle.tcp_norm.proofs.EmittedCalls.{Enters, begun, within, passed_rows, live_row, enters_of}
use Rattle.tcp_norm.proofs.BroughtOctets.{own_has, calls_before}

-- Each clash is real.

-- an element of a range that passes
found_at : (f : ℕ → Bool) (from len : ℕ) → list_any f (range_with_len from len) ≡ true → (n : ℕ) × (from ≤ n) × (n < from + len) × (f n ≡ true)
found_at f from zero e = absurd (false≢true e)
found_at f from (suc len) e = by (f from) refl (λ rest. found_at f (from + 1) len rest)
  where
    by : (b : Bool) → f from ≡ b → (list_any f (range_with_len (from + 1) len) ≡ true → (n : ℕ) × (from + 1 ≤ n) × (n < from + 1 + len) × (f n ≡ true))
        → (n : ℕ) × (from ≤ n) × (n < from + suc len) × (f n ≡ true)
    by true is more = (from, omega arith, omega arith, is)
    by false none more =
        let rest = more (sym (ap (λ b. b || list_any f (range_with_len (from + 1) len)) none) ∙ e) in
        let low = rest.1 in
        let high = rest.2 in
        (rest.0, omega (arith, low), omega (arith, high), rest.3)

apart : (m n : ℕ) → not (m == n) ≡ true → m ≢ n
apart m n e same = let test : (m == n) ≡ true = grind (arith, same) in false≢true (sym (ap not test) ∙ e)

-- an octet that clashes
record Clash (ws : List Written) (w : Written) : Type 0 where
  offset : ℕ
  octet : ℕ
  was : first (base_at ws) ws (pos offset) ≡ Some octet
  above : acked (base_at ws) ws ≤ offset
  has : HasAt (base_at ws) (pos offset) (own_octet ws w offset) ws w
  differ : octet ≢ own_octet ws w offset

clash_in : IntervalsFit → (ws : List Written) (w : Written) → OfStream ws w → base_of ws ≡ Some (base_at ws) → clashes ws w ≡ true → Clash ws w
clash_in fits ws w stream based e = by (first (base_at ws) ws (pos found.0)) refl
  where
    found : (n : ℕ) × (low_of ws w ≤ n) × (n < low_of ws w + (high_of ws w - low_of ws w)) × (not (octet_sent ws w n == own_octet ws w n) ≡ true)
    found = found_at (λ offset. not (octet_sent ws w offset == own_octet ws w offset)) (low_of ws w) (high_of ws w - low_of ws w) e

    has : HasAt (base_at ws) (pos found.0) (own_octet ws w found.0) ws w
    has = let low = found.1 in let high = found.2 in own_has fits ws w found.0 stream based low (omega (arith, low, high))

    above : acked (base_at ws) ws ≤ found.0
    above = let low = found.1 in let least = (fits ws w (interval_of ws w) (kept_of ws w)).above in omega (arith, low, least)

    differ : octet_sent ws w found.0 ≢ own_octet ws w found.0
    differ = apart (octet_sent ws w found.0) (own_octet ws w found.0) found.3

    by : (o : Option ℕ) → first (base_at ws) ws (pos found.0) ≡ o → Clash ws w
    by None none = absurd (differ (ap (λ o. unwrap_or o (own_octet ws w found.0)) none))
    by (Some octet) is = record { offset = found.0; octet = octet; was = is; above = above; has = has; differ = λ same. differ (ap (λ o. unwrap_or o (own_octet ws w found.0)) is ∙ same) }

verdict_written : (rows : List Rule) → is_written (verdict_of rows) ≡ true
verdict_written [] = refl
verdict_written (rule ∷ more) = refl

none_is : {A : Type 0} (o : Option A) → is_none o ≡ true → o ≡ None
none_is None e = refl
none_is (Some x) e = absurd (false≢true e)

contradicts : IntervalsFit → (settings : PlainSettings) (cs : List Call) (d : Datagram) → dropped_by settings (view_of settings cs d) d ≡ None → t_clash (view_of settings cs d) (segment_in d) ≡ true
    → Contradicts d (outcome_at settings (view_of settings cs d) d) cs
contradicts fits settings cs d none clash = by (live cs (key_of d)) refl
  where
    v : View
    v = view_of settings cs d

    w : Written
    w = segment_in d

    both : (is_live v ≡ true) × (era.is_of_stream v.segments w ≡ true) × (clashes v.segments w ≡ true)
    both =
        let outer = and_parts (is_live v && era.is_of_stream v.segments w) (clashes v.segments w) clash in
        let inner = and_parts (is_live v) (era.is_of_stream v.segments w) outer.0 in
        (inner.0, inner.1, outer.1)

    based : base_of v.segments ≡ Some (base_at v.segments)
    based = acknowledged_based v.segments (and_parts _ (is_acknowledged (state_of v.segments)) both.1).1

    passed : outcome_at settings v d ≡ outcome_by settings v d None (mended_by settings v d)
    passed = ap (λ r. outcome_by settings v d r (mended_by settings v d)) none

    by : (l : Option Alive) → live cs (key_of d) ≡ l → Contradicts d (outcome_at settings v d) cs
    by None is = absurd (false≢true (sym (ap (λ o. is_some (number_of o)) is) ∙ both.0))
    by (Some a) is =
        let stream = of_stream v.segments w both.1 in
        let same : v.segments ≡ segments a.number cs = ap (segments_of (λ n. segments n cs)) is in
        let named : (outcome_at settings v d).era ≡ Some a.number =
        ap (λ (o : Outcome). o.era) passed ∙ (ap (λ o. option_or o v.era) (stream_begins_none v w both.0 stream) ∙ ap number_of is) in
        let writes : is_written (outcome_at settings v d).verdict ≡ true = ap (λ (o : Outcome). is_written o.verdict) passed ∙ verdict_written (d.fixes ++ mended_by settings v d) in
        let c = clash_in fits v.segments w stream based both.2 in
        let above = c.above in
        let past : pos (acked (base_at v.segments) v.segments) ≤ℤ pos c.offset = omega (arith, ints, above) in
        record {
          era = a.number;
          base = base_at v.segments;
          offset = pos c.offset;
          octet = c.octet;
          other = own_octet v.segments w c.offset;
          was = sym (ap (λ ws. first (base_at v.segments) ws (pos c.offset)) same) ∙ c.was;
          unacknowledged = subst (λ ws. pos (acked (base_at v.segments) ws) ≤ℤ pos c.offset) same past;
          brings = record { inward = stream.inward; named = named; written = writes; has = subst (λ ws. HasAt (base_at v.segments) (pos c.offset) (own_octet v.segments w c.offset) ws w) same c.has };
          differ = c.differ;
        }

-- Each contradiction is a clash.

-- an element of a range that passes is found
passes_at : (f : ℕ → Bool) (from len n : ℕ) → from ≤ n → n < from + len → f n ≡ true → list_any f (range_with_len from len) ≡ true
passes_at f from zero n low high e = absurd (omega arith)
passes_at f from (suc len) n low high e = by (f from) refl (λ more. passes_at f (from + 1) len n more (omega arith) e)
  where
    by : (b : Bool) → f from ≡ b → (from + 1 ≤ n → list_any f (range_with_len (from + 1) len) ≡ true) → (f from || list_any f (range_with_len (from + 1) len)) ≡ true
    by true is rest = ap (λ b. b || list_any f (range_with_len (from + 1) len)) is
    by false is rest =
        let other : from ≢ n = λ same. false≢true (sym is ∙ (ap f same ∙ e)) in
        ap (λ b. b || list_any f (range_with_len (from + 1) len)) is ∙ rest (omega (arith, other, low))

differs : (m n : ℕ) → m ≢ n → not (m == n) ≡ true
differs m n e = by (m == n) refl
  where
    by : (b : Bool) → (m == n) ≡ b → not (m == n) ≡ true
    by false is = ap not is
    by true is = let same : m ≡ n = grind (arith, is) in absurd (e same)

index_is : (xs : List ℕ) (i x : ℕ) → slice_get xs i ≡ Some x → (i < length xs) × (slice_index xs i ≡ x)
index_is [] i x e = let none : slice_get [] i ≡ None = slice_get_past [] i (omega arith) in absurd (some_none (sym none ∙ e))
index_is (y ∷ ys) zero x e = (omega arith, some_same e)
index_is (y ∷ ys) (suc i) x e = let rest = index_is ys i x e in let less = rest.0 in (omega (arith, less), rest.1)

-- an offset below the end and in the window
reach_is : (end : Option ℤ) (edge n : ℕ) → n < edge + 1 → ((z : ℤ) → end ≡ Some z → pos n <ℤ z) → n < up_to_end end (edge + 1)
reach_is None edge n less below = less
reach_is (Some (pos p)) edge n less below = let under = below (pos p) refl in let small : n < p = omega (arith, ints, under) in omega (arith, small, less)
reach_is (Some (negsuc p)) edge n less below = let under = below (negsuc p) refl in absurd (omega (arith, ints, under))

kept_here : (b : Bounds) (at : ℤ) (len index n : ℕ) → b.acked ≤ n → n < reach b → index < len → pos n ≡ (at +ℤ pos index) → (low b at ≤ n) × (n < high b at len)
kept_here b (pos a) len index n above less inside is =
    let place : n ≡ a + index = omega (arith, ints, is) in
    (omega (arith, place, above), omega (arith, place, above, less, inside))
kept_here b (negsuc a) len index n above less inside is =
    let far : nat_of (negsuc a +ℤ pos len) ≡ len - (a + 1) = further a len in
    let place : n + (a + 1) ≡ index = omega (arith, ints, is) in
    (omega (arith, above), omega (arith, place, above, less, inside, far))
  where
    further : (a len : ℕ) → nat_of (negsuc a +ℤ pos len) ≡ len - (a + 1)
    further a len = by (nat_lt a len) refl
      where
        by : (t : Bool) → nat_lt a len ≡ t → nat_of (negsuc a +ℤ pos len) ≡ len - (a + 1)
        by true e = let less : a < len = grind (arith, nat_tests, e) in let is : (negsuc a +ℤ pos len) ≡ pos (len - (a + 1)) = omega (arith, ints, less) in ap nat_of is
        by false e =
            let less : len ≤ a = grind (arith, nat_tests, e) in
            let is : (negsuc a +ℤ pos len) ≡ negsuc (a - len) = omega (arith, ints, less) in
            let zero_is : 0 ≡ len - (a + 1) = omega (arith, less) in
            ap nat_of is ∙ zero_is

-- a segment clashes whose octet, at an offset at or past Acked, differs from the first
clashes_at : (ws : List Written) (w : Written) (n octet other : ℕ) → AreEmitted [] ws → base_of ws ≡ Some (base_at ws) → first (base_at ws) ws (pos n) ≡ Some octet → acked (base_at ws) ws ≤ n
    → HasAt (base_at ws) (pos n) other ws w → octet ≢ other → clashes ws w ≡ true
clashes_at ws w n octet other emitted based was above has differ =
    let base = base_at ws in
    let h = bounded base ws (λ number e. cc (based, e)) emitted in
    let places = octets_are_places base ws based emitted in
    let top = places.below_top (pos n) octet was in
    let top_place = top.1 in
    let top_less = top.2 in
    let window = h.top_in_window in
    let less : n < edge base ws + 1 = omega (arith, ints, top_place, top_less, window) in
    let reached = reach_is (end_of base ws) (edge base ws) n less (λ z is. places.below_end (pos n) z octet was is) in
    let own = index_is w.octets has.index other has.has in
    let kept = kept_here (bounds_of ws) (offset_of ws w.seq) (length w.octets) has.index n above reached own.0 has.offset_is in
    let low = kept.0 in
    let high = kept.1 in
    let place : (pos n -ℤ offset_of ws w.seq) ≡ pos has.index = let is = has.offset_is in omega (arith, ints, is) in
    let own_is : own_octet ws w n ≡ other = ap (λ z. slice_index w.octets (nat_of z)) place ∙ own.1 in
    let sent_is : octet_sent ws w n ≡ octet = ap (λ o. unwrap_or o (own_octet ws w n)) was in
    passes_at (λ offset. not (octet_sent ws w offset == own_octet ws w offset)) (low_of ws w) (high_of ws w - low_of ws w) n low (omega (arith, low, high))
    (differs (octet_sent ws w n) (own_octet ws w n) (λ same. differ (sym sent_is ∙ (same ∙ own_is))))

undropped : (settings : PlainSettings) (v : View) (d : Datagram) (rule : Option Rule) → is_written (outcome_by settings v d rule (mended_by settings v d)).verdict ≡ true → rule ≡ None
undropped settings v d None e = refl
undropped settings v d (Some rule) e = absurd (false≢true e)

no_base_there : {ws : List Written} {base : ℕ} → ws ≡ [] → base_of ws ≡ Some base → ⊥
no_base_there empty based = some_none (sym (ap base_of empty) ∙ based)

clashing : CallsAreEmitted → (settings : PlainSettings) (cs : List Call) (d : Datagram) → AreOfSegments settings cs
    → Contradicts d (outcome_at settings (view_of settings cs d) d) cs → is_clashing settings (view_of settings cs d) d ≡ true
clashing emits settings cs d h c = at c.offset refl
  where
    v : View
    v = view_of settings cs d

    w : Written
    w = segment_in d

    none : dropped_by settings v d ≡ None
    none = undropped settings v d (dropped_by settings v d) c.brings.written

    named : option_or (begun_with v w) v.era ≡ Some c.era
    named = sym (ap (λ r. (outcome_by settings v d r (mended_by settings v d)).era) none) ∙ c.brings.named

    in_era : (v.era ≡ Some c.era) × (v.segments ≡ segments c.era cs)
    in_era = by (enters_of settings cs d c.era h.made named) named
      where
        by : Enters v w (segments c.era cs) → option_or (begun_with v w) v.era ≡ Some c.era → (v.era ≡ Some c.era) × (v.segments ≡ segments c.era cs)
        by (begun n begins empty) e = absurd (no_base_there empty c.brings.has.based)
        by (within n live begins same) e = (sym (ap (λ o. option_or o v.era) begins) ∙ e, same)

    side : goes_in d.side ≡ true
    side = c.brings.inward

    settled : is_acknowledged (state_of v.segments) ≡ true
    settled = true_from_ne_false (is_acknowledged (state_of v.segments)) (λ early.
        false≢true (sym (live_row v (era.t_state v.segments w) c.era in_era.0 (passed_rows settings v d side none).1.0) ∙ early_now v.segments w (state_of v.segments) refl early side c.brings.has.no_syn c.brings.has.no_rst))

    stream : era.is_of_stream v.segments w ≡ true
    stream = stream_is v.segments w settled side c.brings.has.no_syn c.brings.has.no_rst

    all : clashes v.segments w ≡ true → is_clashing settings v d ≡ true
    all clash = λ i. is_none (none i) && (is_some (in_era.0 i) && stream i && clash i)

    ws : List Written
    ws = segments c.era cs

    base_is : base_at ws ≡ c.base
    base_is = ap number_in c.brings.has.based

    emitted : AreEmitted [] ws
    emitted = emits settings cs h c.era

    based : base_of ws ≡ Some (base_at ws)
    based = c.brings.has.based ∙ ap Some (sym base_is)

    at : (z : ℤ) → c.offset ≡ z → is_clashing settings v d ≡ true
    at (negsuc n) is = let low = c.unacknowledged in absurd (omega (arith, ints, low, is))
    at (pos n) is =
        let was : first (base_at ws) ws (pos n) ≡ Some c.octet = ap₂ (λ b z. first b ws z) base_is (sym is) ∙ c.was in
        let low = c.unacknowledged in
        let above_here : acked c.base ws ≤ n = omega (arith, ints, low, is) in
        let above = subst (λ b. acked b ws ≤ n) (sym base_is) above_here in
        let has = subst (λ b. HasAt b (pos n) c.other ws w) (sym base_is) (subst (λ z. HasAt c.base z c.other ws w) is c.brings.has) in
        let clash = clashes_at ws w n c.octet c.other emitted based was above has c.differ in
        all (subst (λ us. clashes us w ≡ true) (sym in_era.1) clash)

pub clashes_are_real : IntervalsFit → CallsAreEmitted → ClashesAreReal
clashes_are_real fits emits settings cs now d h = (
  λ e. let both = and_parts (is_none (dropped_by settings (view_of settings cs d) d)) (t_clash (view_of settings cs d) (segment_in d)) e in
      contradicts fits settings cs d (none_is (dropped_by settings (view_of settings cs d) d) both.0) both.1,
  clashing emits settings cs d (calls_before settings (call_of settings cs now d) cs h),
)
