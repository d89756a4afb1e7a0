-- Each octet of an era's stream, and its end, is one that a datagram brought.
use Rattle.std.proofs.Common.{◌≡◌, ℕ, ◌+◌, ◌-◌, ◌<◌, ◌≤◌, ◌&&◌, Bool, true, false, cond, List, [], ◌∷◌, ◌++◌, length, ℤ, pos, negsuc, ◌+ℤ◌, ◌-ℤ◌, ◌≤ℤ◌, Option, Some, None, refl, sym, ap, subst, ◌∙◌, arith, zero, suc, append-nil, slice_get, slice_index, nat_lt, nat_le, int_le, int_lt}
use Rattle.std.specs.Option.{option_or, unwrap_or}
use Rattle.std.proofs.lemmas.Bool.{and_parts}
use Rattle.std.proofs.lemmas.Bool.Decides.{nat_tests}
use Rattle.std.proofs.lemmas.Int.{ints}
use Rattle.wire_base.specs.Tcp as tcp
use Rattle.wire_base.specs.Segments.{Written}
use Rattle.norm_settings.specs.SettingValues.{PlainSettings}
use Rattle.era_state.specs.declared.offset.Interval.{Interval}
use Rattle.era_state.specs.Offsets.{nat_of}
use Rattle.era_state.specs.SegmentMarks.{octet_at, fin_place}
use Rattle.era_state.specs.Quantities.{base_of, base_at, acked, first, end_of}
use Rattle.era_state.specs.ForwardedOctets.{bounds, bounds_of, offset_of, low, high, is_kept_fin}
use Rattle.era_state.specs.QuantityLaws.{IntervalsFit}
use Rattle.era_state.specs.Emission.{AreEmitted}
use Rattle.era_state.specs.EmissionLaws.{HasNoOtherBase}
use Rattle.era_state.proofs.Quantities.{end_push, octet_push}
use Rattle.era_state.proofs.SameNumbers.{no_end}
use Rattle.era_state.proofs.Frames.{FrameIn, fin_place_is, frame_in, octets_in, stands}
use Rattle.era_state.proofs.EmittedSegments.{bounded, lie, other_before}
use Rattle.ip_rules.specs.Datagrams.{Datagram}
use Rattle.tcp_norm.specs.Calls.{Call, expiry, datagram, Outcome, segment_in, written_by, segments}
use Rattle.tcp_norm.specs.RuleViews.{view_of}
use Rattle.tcp_norm.specs.RuleRows.{low_of, high_of, own_octet, octet_sent}
use Rattle.tcp_norm.specs.Outcomes.{outcome_at, call_of}
use Rattle.tcp_norm.specs.LiveEras.{made_of}
use Rattle.tcp_norm.specs.CallLaws.{WritesFrame}
use Rattle.tcp_norm.specs.SegmentPackets.{AreOfSegments, CallsAreEmitted}
use Rattle.tcp_norm.specs.BroughtOctets.{HasAt, EndsAt, Brings, IsBrought, BringsNew, NewIsBrought, NothingIsInvented}
use Rattle.tcp_norm.proofs.Lists.{some_none, some_same}
use Rattle.tcp_norm.proofs.SegmentRules.{OfStream}
use Rattle.tcp_norm.proofs.EmittedSegments.{interval_of, kept_of, range_at}
use Rattle.tcp_norm.proofs.EmittedCalls.{Below}
use Rattle.tcp_norm.proofs.WrittenSegments.{none_added, no_end_added, Writes, silent, frames, writes}

-- The octets of a frame at offsets that had none are those of the segment.

index_has : (xs : List ℕ) (i : ℕ) → i < length xs → slice_get xs i ≡ Some (slice_index xs i)
index_has [] i lt = absurd (omega arith)
index_has (x ∷ xs) zero lt = refl
index_has (x ∷ xs) (suc i) lt = index_has xs i (omega arith)

natural_is : (z : ℤ) → pos 0 ≤ℤ z → pos (nat_of z) ≡ z
natural_is (pos n) le = refl
natural_is (negsuc n) le = absurd (omega (arith, ints, le))

-- the segment's own octet at a kept offset
pub own_has : IntervalsFit → (ws : List Written) (w : Written) (n : ℕ) → OfStream ws w → base_of ws ≡ Some (base_at ws) → low_of ws w ≤ n → n < high_of ws w
    → HasAt (base_at ws) (pos n) (own_octet ws w n) ws w
own_has fits ws w n stream based low high =
    let f = fits ws w (interval_of ws w) (kept_of ws w) in
    let some : low_of ws w < high_of ws w = omega (arith, low, high) in
    let begins = f.begins some in
    let ends = f.ends some in
    let at = offset_of ws w.seq in
    let from : pos 0 ≤ℤ (pos n -ℤ at) = omega (arith, ints, begins, low) in
    let is = natural_is (pos n -ℤ at) from in
    let less : nat_of (pos n -ℤ at) < length w.octets = omega (arith, ints, is, ends, high) in
    record {
      based = based;
      no_syn = stream.no_syn;
      no_rst = stream.no_rst;
      index = nat_of (pos n -ℤ at);
      has = index_has w.octets (nat_of (pos n -ℤ at)) less;
      offset_is = omega (arith, ints, is);
    }

frame_has : IntervalsFit → (ws : List Written) (came w : Written) (offset : ℤ) (octet : ℕ) → OfStream ws came → base_of ws ≡ Some (base_at ws) → AreEmitted [] ws
    → WritesFrame ws came (interval_of ws came) w → first (base_at ws) ws offset ≡ None → octet_at (base_at ws) (acked (base_at ws) ws) offset w ≡ Some octet
    → HasAt (base_at ws) offset octet ws came
frame_has fits ws came w offset octet stream based emitted writes none has =
    by offset none (sym (octets_in base (bounds base ws) i w (frame_in base ws came i w refl (kept_of ws came) writes.framed) (lie base ws (bounded base ws (λ number e. cc (based, e)) emitted)) offset) ∙ has)
  where
    base : ℕ
    base = base_at ws

    i : Interval
    i = interval_of ws came

    inside : (n : ℕ) (a b : Bool) → nat_le (low_of ws came) n ≡ a → nat_lt n (high_of ws came) ≡ b → first base ws (pos n) ≡ None
        → cond (a && b) (slice_get w.octets (n - low_of ws came)) None ≡ Some octet → HasAt base (pos n) octet ws came
    inside n true true l h none e =
        let low : low_of ws came ≤ n = grind (arith, nat_tests, l) in
        let high : n < high_of ws came = grind (arith, nat_tests, h) in
        let place : low_of ws came + (n - low_of ws came) ≡ n = omega (arith, low) in
        let sent = range_at (octet_sent ws came) (low_of ws came) (high_of ws came - low_of ws came) (n - low_of ws came) octet (sym (ap (λ (os : List ℕ). slice_get os (n - low_of ws came)) writes.octets_are) ∙ e) in
        let own : own_octet ws came n ≡ octet = sym (ap (λ o. unwrap_or o (own_octet ws came n)) none) ∙ (sym (ap (octet_sent ws came) place) ∙ sent) in
        subst (λ x. HasAt base (pos n) x ws came) own (own_has fits ws came n stream based low high)
    inside n true false l h none e = cc
    inside n false b l h none e = cc

    by : (z : ℤ) → first base ws z ≡ None
        → cond (int_le (pos (low_of ws came)) z && int_lt z (pos (high_of ws came))) (slice_get w.octets (nat_of z - low_of ws came)) None ≡ Some octet
        → HasAt base z octet ws came
    by (pos n) none e = inside n (nat_le (low_of ws came) n) (nat_lt n (high_of ws came)) refl refl none e
    by (negsuc n) none e = cc

-- the FIN of a frame is that of the segment
frame_ends : (ws : List Written) (came w : Written) (offset : ℤ) → OfStream ws came → base_of ws ≡ Some (base_at ws) → AreEmitted [] ws
    → WritesFrame ws came (interval_of ws came) w → fin_place (base_at ws) (acked (base_at ws) ws) w ≡ Some offset → EndsAt (base_at ws) offset ws came
frame_ends ws came w offset stream based emitted writes has = by (tcp.has_fin w.flags) refl
  where
    base : ℕ
    base = base_at ws

    i : Interval
    i = interval_of ws came

    by : (b : Bool) → tcp.has_fin w.flags ≡ b → EndsAt base offset ws came
    by false fin = absurd (some_none (sym (no_end base (acked base ws) w fin) ∙ has))
    by true fin =
        let kept : i.fin ≡ true = sym writes.framed.fin_is ∙ fin in
        let shown = writes.framed in
        let f : FrameIn base (bounds base ws) i w = record {
          sequence = came.seq;
          len = length came.octets;
          fin = tcp.has_fin came.flags;
          spans = record { lo_is = refl; hi_is = refl; fin_is = refl };
          inward = shown.inward;
          no_syn = shown.no_syn;
          fin_is = shown.fin_is;
          long = shown.long;
          sequence_is = shown.sequence_is;
        } in
        let lies = lie base ws (bounded base ws (λ number e. cc (based, e)) emitted) in
        record {
          based = based;
          no_syn = stream.no_syn;
          no_rst = stream.no_rst;
          has_fin = (and_parts (tcp.has_fin came.flags) (is_kept_fin (end_of base ws) (bounds_of ws) (offset_of ws came.seq +ℤ pos (length came.octets))) kept).0;
          offset_is = some_same (sym has ∙ fin_place_is base (bounds base ws) i w f lies kept) ∙ sym (stands base (bounds base ws) i w f lies kept).is;
        }

-- Each octet, and the end, was brought.

-- the laws that this is based on
pub record Laws : Type 0 where
  pub below : Below
  pub fits : IntervalsFit
  pub emitted : CallsAreEmitted

-- the calls before
pub calls_before : (settings : PlainSettings) (c : Call) (cs : List Call) → AreOfSegments settings (c ∷ cs) → AreOfSegments settings cs
calls_before settings c cs h = record { made = h.made.1; asked = h.asked.1 }

-- what is new with what is written
brings_new : Laws → (era base : ℕ) (d : Datagram) (cs : List Call) (o : Outcome) (more : List Written) → AreEmitted [] (segments era cs) → HasNoOtherBase base (segments era cs ++ more)
    → Writes era d (segments era cs) o more → BringsNew era base d o cs more
brings_new l era base d cs o more emitted only (silent without) = record {
  octets = λ offset octet none has. absurd (some_none (sym none ∙ (sym (none_added base (segments era cs) more offset without) ∙ has)));
  end = λ offset none has. absurd (some_none (sym none ∙ (sym (no_end_added base (segments era cs) more without) ∙ has)));
}
brings_new l era base d cs o more emitted only (frames w is named passes f) = subst (λ b. BringsNew era b d o cs more) same at
  where
    ws : List Written
    ws = segments era cs

    same : base_at ws ≡ base
    same = only (base_at ws) ((l.below.remains 0 ws more).base_is (base_at ws) f.based)

    at : BringsNew era (base_at ws) d o cs more
    at = record {
      octets = λ offset octet none has.
          let with_frame = sym (octet_push (base_at ws) ws w offset) ∙ (sym (ap (λ xs. first (base_at ws) (ws ++ xs) offset) is) ∙ has) in
          let new : octet_at (base_at ws) (acked (base_at ws) ws) offset w ≡ Some octet = sym (ap (λ p. option_or p (octet_at (base_at ws) (acked (base_at ws) ws) offset w)) none) ∙ with_frame in
          record { inward = f.stream.inward; named = named; written = passes; has = frame_has l.fits ws (segment_in d) w offset octet f.stream f.based emitted f.frame none new };
      end = λ offset none has.
          let with_frame = sym (end_push (base_at ws) ws w) ∙ (sym (ap (λ xs. end_of (base_at ws) (ws ++ xs)) is) ∙ has) in
          let new : fin_place (base_at ws) (acked (base_at ws) ws) w ≡ Some offset = sym (ap (λ p. option_or p (fin_place (base_at ws) (acked (base_at ws) ws) w)) none) ∙ with_frame in
          record { inward = f.stream.inward; named = named; written = passes; has = frame_ends ws (segment_in d) w offset f.stream f.based emitted f.frame new };
    }

pub new_is_brought : Laws → NewIsBrought
new_is_brought l settings cs now d h era base only =
    let emitted = l.emitted settings cs (calls_before settings (call_of settings cs now d) cs h) era in
    brings_new l era base d cs (outcome_at settings (view_of settings cs d) d) (written_by era (call_of settings cs now d)) emitted only
    (writes l.below settings cs now d era h.made.1 h.asked.0 emitted)

-- with one call more
later : (era : ℕ) (Has : List Written → Written → Type 0) (c : Call) (cs : List Call) → IsBrought era Has cs → IsBrought era Has (c ∷ cs)
later era Has c cs b = record { newer = c ∷ b.newer; now = b.now; asked = b.asked; outcome = b.outcome; older = b.older; calls_are = ap (λ xs. c ∷ xs) b.calls_are; brings = b.brings }

-- a quantity of an era keeps its first value
abbrev pub Stays : {X : Type 0} → (List Written → Option X) → Type 0
Stays {X} q = (ws more : List Written) (x : X) → q ws ≡ Some x → q (ws ++ more) ≡ Some x

-- the call of a datagram brings a new value of it
abbrev pub Steps : {X : Type 0} → PlainSettings → (era base : ℕ) → (List Written → Option X) → X → (List Written → Written → Type 0) → Type 0
Steps settings era base q x Has =
    (cs : List Call) (now : ℕ) (d : Datagram) → AreOfSegments settings (call_of settings cs now d ∷ cs) → HasNoOtherBase base (segments era (call_of settings cs now d ∷ cs))
    → q (segments era cs) ≡ None → q (segments era (call_of settings cs now d ∷ cs)) ≡ Some x → Brings era Has d (outcome_at settings (view_of settings cs d) d) cs

-- so the value was brought
new_by : {X : Type 0} (settings : PlainSettings) (era base : ℕ) (q : List Written → Option X) (x : X) (Has : List Written → Written → Type 0) → Steps settings era base q x Has
    → (c : Call) (cs : List Call) → c ≡ made_of settings cs c → AreOfSegments settings (c ∷ cs) → HasNoOtherBase base (segments era (c ∷ cs))
    → q (segments era cs) ≡ None → q (segments era (c ∷ cs)) ≡ Some x → IsBrought era Has (c ∷ cs)
new_by settings era base q x Has step (expiry now ended) cs made h only none has = absurd (some_none (sym none ∙ (sym (ap q (append-nil (segments era cs))) ∙ has)))
new_by settings era base q x Has step (datagram now d o) cs made h only none has = record {
  newer = [];
  now = now;
  asked = d;
  outcome = outcome_at settings (view_of settings cs d) d;
  older = cs;
  calls_are = ap (λ y. y ∷ cs) made;
  brings = step cs now d (subst (λ y. AreOfSegments settings (y ∷ cs)) made h) (subst (λ y. HasNoOtherBase base (segments era (y ∷ cs))) made only) none (subst (λ y. q (segments era (y ∷ cs)) ≡ Some x) made has);
}

-- the value after one segment more is the one before it, or is new
pub either_way : {X : Type 0} {R : Type 0} (q : List Written → Option X) (x : X) (ws more : List Written) → Stays q → q (ws ++ more) ≡ Some x
    → (q ws ≡ Some x → R) → (q ws ≡ None → R) → R
either_way {X} {R} q x ws more stays has earlier new = by (q ws) refl
  where
    by : (o : Option X) → q ws ≡ o → R
    by None none = new none
    by (Some y) is = earlier (is ∙ ap Some (some_same (sym (stays ws more y is) ∙ has)))

brought_by : {X : Type 0} (settings : PlainSettings) (era base : ℕ) (q : List Written → Option X) (x : X) (Has : List Written → Written → Type 0) → q [] ≡ None → Stays q
    → Steps settings era base q x Has → (cs : List Call) → AreOfSegments settings cs → HasNoOtherBase base (segments era cs) → q (segments era cs) ≡ Some x → IsBrought era Has cs
brought_by settings era base q x Has empty stays step [] h only has = absurd (some_none (sym empty ∙ has))
brought_by settings era base q x Has empty stays step (c ∷ cs) h only has =
    either_way q x (segments era cs) (written_by era c) stays has
    (λ before. later era Has c cs
    (brought_by settings era base q x Has empty stays step cs (calls_before settings c cs h) (other_before base (segments era cs) (written_by era c) only) before))
    (λ none. new_by settings era base q x Has step c cs h.made.0 h only none has)

pub nothing_is_invented : Laws → NothingIsInvented
nothing_is_invented l settings cs h era base based =
    let only : HasNoOtherBase base (segments era cs) = λ number e. some_same (sym e ∙ based) in
    record {
      octets = λ offset octet has.
          brought_by settings era base (λ ws. first base ws offset) octet (HasAt base offset octet) refl (λ ws more y e. (l.below.remains base ws more).octet_is offset y e)
          (λ older now d made alone none new. (new_is_brought l settings older now d made era base alone).octets offset octet none new) cs h only has;
      end = λ offset has.
          brought_by settings era base (λ ws. end_of base ws) offset (EndsAt base offset) refl (λ ws more y e. (l.below.remains base ws more).end_is y e)
          (λ older now d made alone none new. (new_is_brought l settings older now d made era base alone).end offset none new) cs h only has;
    }
