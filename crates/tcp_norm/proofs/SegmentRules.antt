-- Which rules apply to an inbound segment, on its header and as one of the stream, which drops it,
-- and what is rewritten under them.
use Rattle.std.proofs.Common.{◌≡◌, ℕ, ◌+◌, ◌-◌, ◌/◌, ◌%◌, ◌==◌, ◌<◌, ◌≤◌, ◌&&◌, ◌||◌, not, Bool, true, false, cond, List, [], ◌∷◌, ◌++◌, length, map, refl, sym, ap, ap₂, ◌∙◌, arith, append_assoc, filter, Some, None, zero, suc, ◌^◌, subst}
use Rattle.std.specs.List.{AllByRecursion, range_with_len}
use Rattle.std.proofs.lemmas.Bool.{not-false, eqb-true, or_parts, and_parts}
use Rattle.std.proofs.lemmas.List.{append-nil, length-append}
use Rattle.wire_base.specs.Tcp as tcp
use Rattle.wire_base.specs.Options.{cleaned}
use Rattle.rule_book.specs.declared.rule.Rule.{Rule}
use Rattle.rule_book.specs.declared.rule.Rule.TheVariants as rules
use Rattle.norm_settings.specs.SettingValues.{PlainSettings}
use Rattle.tcp_codec.specs.declared.header.Tcp.{Tcp}
use Rattle.ip_rules.specs.Datagrams.{Datagram, goes_in}
use Rattle.ip_rules.specs.JudgedRecord.{where_holds}
use Rattle.tcp_norm.specs.working.ReadHeads.{seen}
use Rattle.tcp_norm.specs.RuleViews.{View}
use Rattle.tcp_norm.specs.RuleRows.{header_mends, holds_era, options_sent, differ, t_res, t_urg, t_opt, is_live, dropped_by, mended_by, t_quota, t_room, clashes, begins, reopens, t_full, low_of, high_of, octet_sent, kept_offsets, bare_mends, stream_mends}
use Rattle.tcp_norm.specs.EmittedPackets.{without_flag, flags_cleared, stream_segment, is_fin_kept, octets_sent}
use Rattle.tcp_norm.specs.working.RewriteTests.{and_those, header_rows, stream_rows}
use Rattle.tcp_norm.proofs.Lists.{differ_not}
use Rattle.wire_base.specs.Segments.{Written}
use Rattle.era_state.specs.declared.offset.Interval.{Interval}
use Rattle.era_state.specs.States.{State, called, offered, warm, closed, state_of, is_called, is_offered, is_closed, is_acknowledged}
use Rattle.era_state.specs.Rules as era
use Rattle.era_state.specs.KeptIntervals.{KeptOf}
use Rattle.rule_book.specs.declared.entry.Reason.TheVariants as reasons
use Rattle.era_state.specs.Quantities.{base_of, octets_of}
use Rattle.tcp_codec.specs.WrittenSegment.{Fits, AreReadBack, segment_octets}
use Rattle.era_state.specs.WrittenFrames.{IsFrame}
use Rattle.era_state.specs.declared.warm.Warm.{Warm}
use Rattle.era_state.specs.Rules.{is_of_stream}
use Rattle.era_state.specs.EraFields.{WarmFor}
use Rattle.tcp_norm.specs.Calls.{segment_in, read, datagram, key_of}
use Rattle.tcp_norm.specs.Outcomes.{begun_with, ended_with, ends, outcome_at}
use Rattle.tcp_norm.specs.EraWrites.{WritesIn}
use Rattle.tcp_norm.specs.CallLaws.{StreamsAreWritten}
use Rattle.std.proofs.lemmas.List.Elements.{filter-append}
use Rattle.linked_table.proofs.Lists.{filter_none}

-- The rules on the header, and the flags that go inwards.

-- the rules on its header that rewrite a datagram
abbrev pub header_mended : PlainSettings → View → Datagram → List Rule
header_mended settings v d = filter (holds_era settings v d) header_mends

-- rules by their tests are those that a filter keeps
pub one_more : (p : Rule → Bool) (x : Rule) (xs : List Rule) → filter p (x ∷ xs) ≡ where_holds (p x) x ++ filter p xs
one_more p x xs = elim (p x) as (λ b. cond b (x ∷ filter p xs) (filter p xs) ≡ where_holds b x ++ filter p xs) [ true ↦ refl | false ↦ refl ]

pub those_are : (p : Rule → Bool) (rows xs : List Rule) → and_those rows (map (λ x. (x, p x)) xs) ≡ rows ++ filter p xs
those_are p rows [] = sym (append-nil rows)
those_are p rows (x ∷ xs) =
    those_are p (rows ++ where_holds (p x) x) xs ∙ (append_assoc rows (where_holds (p x) x) (filter p xs) ∙ ap (λ l. rows ++ l) (sym (one_more p x xs)))

few_more : (b : Bool) (x : Rule) → length (where_holds b x) ≤ 1
few_more true x = omega arith
few_more false x = omega arith

pub those_few : (rows : List Rule) (tests : List (Rule × Bool)) → length (and_those rows tests) ≤ length rows + length tests
those_few rows [] = omega arith
those_few rows (test ∷ more) =
    let later = those_few (rows ++ where_holds test.1 test.0) more in
    omega (arith, later, length-append rows (where_holds test.1 test.0), few_more test.1 test.0)

-- the rules by the fields of the header are those of the datagram
pub header_are : (settings : PlainSettings) (v : View) (d : Datagram) (m : List ℕ) (head : Tcp) (changed : Bool) → head ≡ seen m head → d.octets ≡ m → goes_in d.side ≡ true
    → changed ≡ differ (cleaned (tcp.has_syn head.flags.0) (tcp.options m)) (tcp.options m)
    → header_rows head changed ≡ header_mended settings v d
header_are settings v d m head changed fields octets side cleans =
    let here = sym octets in
    let res : not (head.reserved == 0) ≡ t_res d =
    ap (λ (h : Tcp). not (h.reserved == 0)) fields ∙ ap₂ (λ b l. b && not (tcp.reserved l == 0)) (sym side) here in
    let urg : (tcp.has_urg head.flags.0 || not (head.urgent == 0)) ≡ t_urg d =
    ap (λ (h : Tcp). tcp.has_urg h.flags.0 || not (h.urgent == 0)) fields ∙ ap₂ (λ b l. b && (tcp.has_urg (tcp.flags l) || not (tcp.urgent_pointer l == 0))) (sym side) here in
    let opt : changed ≡ t_opt d =
    cleans ∙ (ap (λ (h : Tcp). differ (cleaned (tcp.has_syn h.flags.0) (tcp.options m)) (tcp.options m)) fields
    ∙ ap₂ (λ b l. b && differ (cleaned (tcp.has_syn (tcp.flags l)) (tcp.options l)) (tcp.options l)) (sym side) here) in
    (λ k. and_those [] ((rules.TRes, res k) ∷ (rules.TUrg, urg k) ∷ (rules.TOpt, opt k) ∷ [])) ∙ those_are (holds_era settings v d) [] header_mends

-- a flag is as it was without another
pub other_flag : (weight other x : ℕ) → (x / weight % 2 ≡ 1 → (x - weight) / other % 2 ≡ x / other % 2) → tcp.has_flag other (without_flag weight x) ≡ tcp.has_flag other x
other_flag weight other x stays = cases (tcp.has_flag weight x) refl
  where
    cases : (b : Bool) → tcp.has_flag weight x ≡ b → tcp.has_flag other (cond b (x - weight) x) ≡ tcp.has_flag other x
    cases false e = refl
    cases true e = ap (λ n. n == 1) (stays (eqb-true (x / weight % 2) 1 e))

no_flag : (weight x : ℕ) → (x / weight % 2 ≡ 1 → (x - weight) / weight % 2 ≡ 0) → tcp.has_flag weight (without_flag weight x) ≡ false
no_flag weight x gone = cases (tcp.has_flag weight x) refl
  where
    cases : (b : Bool) → tcp.has_flag weight x ≡ b → tcp.has_flag weight (cond b (x - weight) x) ≡ false
    cases false e = e
    cases true e = ap (λ n. n == 1) (gone (eqb-true (x / weight % 2) 1 e))

pub less : (weight x : ℕ) → x < 256 → without_flag weight x < 256
less weight x lt = cases (tcp.has_flag weight x)
  where
    cases : (b : Bool) → cond b (x - weight) x < 256
    cases true = omega arith
    cases false = lt

-- what the flags that go inwards say of those that were read
pub record FlagsStay (read sent : ℕ) : Type 0 where
  pub syn : tcp.has_syn sent ≡ tcp.has_syn read
  pub fin : tcp.has_fin sent ≡ tcp.has_fin read
  pub rst : tcp.has_rst sent ≡ tcp.has_rst read
  pub ack : tcp.has_ack sent ≡ tcp.has_ack read
  pub urgent : tcp.has_urg sent ≡ false
  pub fits : read < 256 → sent < 256

pub flags_stay : (x : ℕ) → FlagsStay x (flags_cleared x)
flags_stay x = record {
  syn = other_flag 32 2 x (λ h. omega arith);
  fin = other_flag 32 1 x (λ h. omega arith);
  rst = other_flag 32 4 x (λ h. omega arith);
  ack = other_flag 32 16 x (λ h. omega arith);
  urgent = no_flag 32 x (λ h. omega arith);
  fits = less 32 x;
}

pub legal_stays : (x : ℕ) → tcp.are_legal (flags_cleared x) ≡ tcp.are_legal x
legal_stays x = let f = flags_stay x in λ k. tcp.go_together (f.syn k) (f.fin k) (f.rst k) (f.ack k)

-- what the header of an inbound segment says where none of its rules holds
pub record HeaderStays (d : Datagram) : Type 0 where
  pub reserved : tcp.reserved d.octets ≡ 0
  pub urgent : tcp.has_urg (tcp.flags d.octets) ≡ false
  pub pointer : tcp.urgent_pointer d.octets ≡ 0
  pub options : options_sent d ≡ tcp.options d.octets
  pub flags : flags_cleared (tcp.flags d.octets) ≡ tcp.flags d.octets

pub header_stays : (settings : PlainSettings) (v : View) (d : Datagram) → goes_in d.side ≡ true → AllByRecursion (λ rule. holds_era settings v d rule ≡ false) header_mends → HeaderStays d
header_stays settings v d side none =
    let m = d.octets in
    let inbound : (b : Bool) → (goes_in d.side && b) ≡ false → b ≡ false = λ b e. sym (ap (λ s. s && b) side) ∙ e in
    let urg = or_parts (tcp.has_urg (tcp.flags m)) (not (tcp.urgent_pointer m == 0)) (inbound _ none.1.0) in
    record {
      reserved = eqb-true (tcp.reserved m) 0 (not-false (tcp.reserved m == 0) (inbound _ none.0));
      urgent = urg.0;
      pointer = eqb-true (tcp.urgent_pointer m) 0 (not-false (tcp.urgent_pointer m == 0) urg.1);
      options = differ_not (options_sent d) (tcp.options m) (inbound _ none.1.1.0);
      flags = ap (λ b. cond b (tcp.flags m - 32) (tcp.flags m)) urg.0;
    }

-- What the rules say of an inbound segment of the stream: T_QUOTA or T_ROOM alone may drop it, and
-- those that may rewrite it are seven.

-- what is known of a segment of the stream
pub record OfStream (ws : List Written) (w : Written) : Type 0 where
  pub inward : w.inward ≡ true
  pub no_syn : tcp.has_syn w.flags ≡ false
  pub no_rst : tcp.has_rst w.flags ≡ false
  pub not_called : is_called (state_of ws) ≡ false
  pub not_offered : is_offered (state_of ws) ≡ false
  pub whole : era.is_of_stream ws w ≡ true

pub not_true : (a : Bool) → not a ≡ true → a ≡ false
not_true false e = refl
not_true true e = cc

known : (s : State) → is_acknowledged s ≡ true → (is_called s ≡ false) × (is_offered s ≡ false)
known called e = cc
known offered e = cc
known warm e = (refl, refl)
known closed e = (refl, refl)

pub of_stream : (ws : List Written) (w : Written) → era.is_of_stream ws w ≡ true → OfStream ws w
of_stream ws w whole =
    let last = and_parts (w.inward && not (tcp.has_syn w.flags) && not (tcp.has_rst w.flags)) (is_acknowledged (state_of ws)) whole in
    let third = and_parts (w.inward && not (tcp.has_syn w.flags)) (not (tcp.has_rst w.flags)) last.0 in
    let second = and_parts w.inward (not (tcp.has_syn w.flags)) third.0 in
    let state = known (state_of ws) last.1 in
    record {
      inward = second.0;
      no_syn = not_true (tcp.has_syn w.flags) second.1;
      no_rst = not_true (tcp.has_rst w.flags) third.1;
      not_called = state.0;
      not_offered = state.1;
      whole = whole;
    }

no_state : (ws : List Written) (w : Written) → OfStream ws w → era.t_state ws w ≡ false
no_state ws w f = rw (f.inward, f.no_rst, f.not_called, f.not_offered) refl

no_stray : (ws : List Written) (w : Written) → OfStream ws w → era.t_syn ws w ≡ false
no_stray ws w f = rw (f.inward, f.no_syn) refl

no_reset : (ws : List Written) (w : Written) → OfStream ws w → era.t_rst ws w ≡ false
no_reset ws w f = rw (f.inward, f.no_rst) refl

-- the rule that drops a datagram, by which rules hold
pub dropped_is : (settings : PlainSettings) (v : View) (d : Datagram) (cold state syn rst full quota room : Bool) → goes_in d.side ≡ true
    → holds_era settings v d rules.TCold ≡ cold → holds_era settings v d rules.TState ≡ state → holds_era settings v d rules.TSyn ≡ syn → holds_era settings v d rules.TRst ≡ rst
    → holds_era settings v d rules.TFull ≡ full → holds_era settings v d rules.TQuota ≡ quota → holds_era settings v d rules.TRoom ≡ room
    → dropped_by settings v d ≡ cond cold (Some rules.TCold) (cond state (Some rules.TState) (cond syn (Some rules.TSyn) (cond rst (Some rules.TRst)
    (cond full (Some rules.TFull) (cond quota (Some rules.TQuota) (cond room (Some rules.TRoom) None))))))
dropped_is settings v d cold state syn rst full quota room side a b c e f g h = λ k.
    cond (side k) (cond (a k) (Some rules.TCold) (cond (b k) (Some rules.TState) (cond (c k) (Some rules.TSyn) (cond (e k) (Some rules.TRst)
    (cond (f k) (Some rules.TFull) (cond (g k) (Some rules.TQuota) (cond (h k) (Some rules.TRoom) None))))))) None

-- it is dropped where the cells of its era, or those that are free, are too few, and else not
pub stream_dropped : (settings : PlainSettings) (v : View) (d : Datagram) → is_live v ≡ true → OfStream v.segments (segment_in d)
    → dropped_by settings v d ≡ cond (t_quota settings v (segment_in d)) (Some rules.TQuota) (cond (t_room v (segment_in d)) (Some rules.TRoom) None)
stream_dropped settings v d live f =
    let cold : holds_era settings v d rules.TCold ≡ false = rw live refl in
    let early : holds_era settings v d rules.TState ≡ false = ap₂ (λ a b. a && b) live (no_state v.segments (segment_in d) f) in
    let again : holds_era settings v d rules.TSyn ≡ false = ap₂ (λ a b. a && b) live (no_stray v.segments (segment_in d) f) in
    let ended : holds_era settings v d rules.TRst ≡ false = ap₂ (λ a b. a && b) live (no_reset v.segments (segment_in d) f) in
    let full : holds_era settings v d rules.TFull ≡ false = rw live refl in
    dropped_is settings v d false false false false false (t_quota settings v (segment_in d)) (t_room v (segment_in d)) f.inward cold early again ended full refl refl

-- the rules that rewrite it, by where they stand
pub mended_parts : (settings : PlainSettings) (v : View) (d : Datagram) (b : Bool) (bare stream : List Rule) → holds_era settings v d rules.TSumOut ≡ b
    → filter (holds_era settings v d) bare_mends ≡ bare → filter (holds_era settings v d) stream_mends ≡ stream
    → mended_by settings v d ≡ where_holds b rules.TSumOut ++ (header_mended settings v d ++ (bare ++ stream))
mended_parts settings v d b bare stream sum is_bare is_stream =
    let p = holds_era settings v d in
    one_more p rules.TSumOut (header_mends ++ (bare_mends ++ stream_mends))
    ∙ ap₂ (λ c l. where_holds c rules.TSumOut ++ l) sum (filter-append p header_mends (bare_mends ++ stream_mends)
    ∙ ap (λ l. header_mended settings v d ++ l) (filter-append p bare_mends stream_mends ∙ ap₂ (λ x y. x ++ y) is_bare is_stream))

pub stream_mended : (settings : PlainSettings) (v : View) (d : Datagram) (i : Interval) (clash : Bool) → is_live v ≡ true → OfStream v.segments (segment_in d)
    → KeptOf v.segments (segment_in d) i → clash ≡ clashes v.segments (segment_in d)
    → mended_by settings v d ≡ stream_rows (header_mended settings v d) i clash
stream_mended settings v d i clash live f is clash_is =
    let p = holds_era settings v d in
    let side : goes_in d.side ≡ true = f.inward in
    let sum : p rules.TSumOut ≡ false = rw side refl in
    let strip : p rules.TStrip ≡ false = rw (f.inward, f.no_syn, f.no_rst) refl in
    let probe : p rules.CProbe ≡ false = rw (live, f.inward, f.no_rst) refl in
    let old : p rules.TOld ≡ i.below = ap₂ (λ a b. a && b) live (sym is.below_is) in
    let window : p rules.TWindow ≡ i.window = ap₂ (λ a b. a && b) live (sym is.window_is) in
    let end : p rules.TEnd ≡ i.end = ap₂ (λ a b. a && b) live (sym is.end_is) in
    let clashed : p rules.TClash ≡ clash = ap₂ (λ a b. a && b && clashes v.segments (segment_in d)) live f.whole ∙ sym clash_is in
    mended_parts settings v d false [] (filter p stream_mends) sum (filter_none p bare_mends (strip, (probe, tt))) refl
    ∙ (sym (those_are p (header_mended settings v d) stream_mends)
    ∙ (λ k. and_those (header_mended settings v d) ((rules.TOld, old k) ∷ (rules.TWindow, window k) ∷ (rules.TEnd, end k) ∷ (rules.TClash, clashed k) ∷ [])))

-- no era begins or ends with it
no_call : (ws : List Written) (w : Written) → OfStream ws w → era.reopens_inward ws w ≡ false
no_call ws w f = stays (is_closed (state_of ws)) ((w.inward && tcp.has_syn w.flags) && not (tcp.has_ack w.flags)) (not (era.precedes (base_of ws) w.seq)) (rw (f.inward, f.no_syn) refl)
  where
    stays : (a b c : Bool) → b ≡ false → (a && b && c) ≡ false
    stays true b c e = rw e refl
    stays false b c e = refl

no_call_out : (ws : List Written) (w : Written) → OfStream ws w → era.reopens_outward ws w ≡ false
no_call_out ws w f = rw f.inward refl

no_reopening : (v : View) (w : Written) → OfStream v.segments w → reopens v w ≡ false
no_reopening v w f = stays (is_live v) (era.reopens_inward v.segments w) (era.reopens_outward v.segments w) (no_call v.segments w f) (no_call_out v.segments w f)
  where
    stays : (a b c : Bool) → b ≡ false → c ≡ false → (a && (b || c)) ≡ false
    stays true b c e g = rw (e, g) refl
    stays false b c e g = refl

no_begin : (v : View) (w : Written) → is_live v ≡ true → begins v w ≡ false
no_begin v w live = rw live refl

pub stream_begins_none : (v : View) (w : Written) → is_live v ≡ true → OfStream v.segments w → begun_with v w ≡ None
stream_begins_none v w live f = begun (begins v w) (not (t_full v w)) (reopens v w) (no_begin v w live) (no_reopening v w f)
  where
    begun : (a b c : Bool) → a ≡ false → c ≡ false → cond ((a && b) || c) (Some v.next) None ≡ None
    begun a b c e g = rw (e, g) refl

pub stream_ends_none : (v : View) (w : Written) → is_live v ≡ true → OfStream v.segments w → ended_with v w ≡ []
stream_ends_none v w live f =
    ap (λ b. cond b (ends v.era (octets_of v.segments) reasons.Reopened) (cond (begins v w && v.is_full) (ends v.evictable v.evictable_octets reasons.Evicted) (cond (not w.inward && tcp.has_rst w.flags) (ends v.era (octets_of v.segments) reasons.Reset) []))) (no_reopening v w f)
    ∙ (ap (λ b. cond (b && v.is_full) (ends v.evictable v.evictable_octets reasons.Evicted) (cond (not w.inward && tcp.has_rst w.flags) (ends v.era (octets_of v.segments) reasons.Reset) [])) (no_begin v w live)
    ∙ ap (λ b. cond (not b && tcp.has_rst w.flags) (ends v.era (octets_of v.segments) reasons.Reset) []) f.inward)

-- The segment of the stream that is rewritten is the frame of its interval.

-- without FIN SYN is set as it was
bits_fin_1 : (x : ℕ) → x / 1 % 2 ≡ 1 → (x - 1) / 1 % 2 ≡ 0
bits_fin_1 x h = omega arith

pub is_one : (n : ℕ) → (n == 1) ≡ true → n ≡ 1
is_one n e = grind arith

syn_without_1 : (x : ℕ) → tcp.has_syn (without_flag 1 x) ≡ tcp.has_syn x
syn_without_1 x = other_flag 1 2 x (λ h. omega arith)

fin_without_1 : (x : ℕ) → tcp.has_fin (without_flag 1 x) ≡ false
fin_without_1 x = cases (tcp.has_flag 1 x) refl
  where
    cases : (b : Bool) → tcp.has_flag 1 x ≡ b → tcp.has_fin (cond b (x - 1) x) ≡ false
    cases false e = e
    cases true e = ap (λ n. n == 1) (bits_fin_1 x (is_one (x / 1 % 2) e))

syn_sent : (kept : Bool) (x : ℕ) → tcp.has_syn (flags_cleared (cond kept x (without_flag 1 x))) ≡ tcp.has_syn x
syn_sent true x = (flags_stay x).syn
syn_sent false x = (flags_stay (without_flag 1 x)).syn ∙ syn_without_1 x

fin_sent : (kept : Bool) (x : ℕ) → (kept ≡ true → tcp.has_fin x ≡ true) → tcp.has_fin (flags_cleared (cond kept x (without_flag 1 x))) ≡ kept
fin_sent true x goes = (flags_stay x).fin ∙ goes refl
fin_sent false x goes = (flags_stay (without_flag 1 x)).fin ∙ fin_without_1 x

first_true : (a b : Bool) → (a && b) ≡ true → a ≡ true
first_true true b e = refl
first_true false b e = cc

length_range : (a n : ℕ) → length (range_with_len a n) ≡ n
length_range a zero = refl
length_range a (suc n) = let rest = length_range (a + 1) n in omega arith

length_of : (f : ℕ → ℕ) (xs : List ℕ) → length (map f xs) ≡ length xs
length_of f [] = refl
length_of f (x ∷ xs) = let rest = length_of f xs in omega arith

pub sent_long : (ws : List Written) (w : Written) → length (octets_sent ws w) ≡ high_of ws w - low_of ws w
sent_long ws w = length_of (octet_sent ws w) (kept_offsets ws w) ∙ length_range (low_of ws w) (high_of ws w - low_of ws w)

pub anew_is_frame : AreReadBack → (ws : List Written) (d : Datagram) (i : Interval) → KeptOf ws (segment_in d) i → OfStream ws (segment_in d) → Fits (stream_segment ws d)
    → IsFrame ws (segment_in d) i (read true (segment_octets (stream_segment ws d)))
anew_is_frame reads ws d i is f fits =
    let w = segment_in d in
    let back = reads (stream_segment ws d) fits in
    let flags = ap (λ (h : Tcp). h.flags.0) back.header in
    let kept = is_fin_kept ws w in
    record {
      inward = refl;
      no_syn = ap tcp.has_syn flags ∙ (syn_sent kept w.flags ∙ f.no_syn);
      fin_is = ap tcp.has_fin flags ∙ (fin_sent kept w.flags (first_true (tcp.has_fin w.flags) _) ∙ sym is.spans.fin_is);
      long = ap (λ l. i.lo + length l) back.octets ∙ (ap (λ n. i.lo + n) (sent_long ws w) ∙ ends);
      sequence_is = ap (λ (h : Tcp). h.seq) back.header;
    }
  where
    ends : i.lo + (high_of ws (segment_in d) - low_of ws (segment_in d)) ≡ i.hi
    ends = omega (arith, is.spans.lo_is, is.spans.hi_is)

-- A segment of the stream that passes, for whatever follows from its frame.

pub passes : StreamsAreWritten → (settings : PlainSettings) (v : View) (d : Datagram) (e : Warm) (i : Interval) (n now : ℕ) (ws : List Written) (sent : List ℕ)
    → v.era ≡ Some n → v.segments ≡ ws → WarmFor e v.segments → is_of_stream v.segments (segment_in d) ≡ true → KeptOf v.segments (segment_in d) i
    → t_quota settings v (segment_in d) ≡ false → t_room v (segment_in d) ≡ false → (segment_in d).seq < 2 ^ 32 → Fits (stream_segment v.segments d) → sent ≡ octets_sent v.segments (segment_in d)
    → (Goal : Type 0)
    → ((frame : Written) → WarmFor e ws → KeptOf ws (segment_in d) i → IsFrame ws (segment_in d) i frame → frame.octets ≡ sent
    → WritesIn (datagram now d (outcome_at settings v d)) n (key_of d) now (frame ∷ []) → Goal)
    → Goal
passes law settings v d e i n now ws sent live segs was stream kept quota room number fits sends Goal goes =
    let it = law settings v d e i n now live was stream kept quota room number fits in
    goes it.0 (subst (WarmFor e) segs was) (subst (λ (l : List Written). KeptOf l (segment_in d) i) segs kept)
    (subst (λ (l : List Written). IsFrame l (segment_in d) i it.0) segs it.2.framed) (it.2.octets_are ∙ sym sends) it.1

-- the rules by the fields of the header are those of the datagram
pub rows_are : (settings : PlainSettings) (v : View) (d : Datagram) (m : List ℕ) (head : Tcp) (i : Interval) (clash changed : Bool) (rows : List Rule)
    → head ≡ seen m head → d.octets ≡ m → goes_in d.side ≡ true → is_live v ≡ true → OfStream v.segments (segment_in d) → KeptOf v.segments (segment_in d) i
    → clash ≡ clashes v.segments (segment_in d) → changed ≡ differ (cleaned (tcp.has_syn head.flags.0) (tcp.options m)) (tcp.options m)
    → rows ≡ stream_rows (header_rows head changed) i clash
    → rows ≡ mended_by settings v d
rows_are settings v d m head i clash changed rows fields octets side live f kept clashed cleans listed =
    listed ∙ (ap (λ l. stream_rows l i clash) (header_are settings v d m head changed fields octets side cleans) ∙ sym (stream_mended settings v d i clash live f kept clashed))
