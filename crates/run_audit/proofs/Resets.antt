-- Nothing is written in an era after an outbound RST, and none acknowledges before the base is
-- fixed.
use Rattle.std.proofs.Common.{◌≡◌, ◌⊎◌, inl, inr, ℕ, ◌+◌, ◌%◌, ◌^◌, ◌==◌, ◌&&◌, ◌||◌, not, cond, Bool, true, false, List, [], ◌∷◌, ◌++◌, map, Option, Some, None, refl, sym, ap, ap₂, ◌∙◌, subst, arith, append-nil, eq-eqb}
use Rattle.std.specs.List.{AllByRecursion, list_any}
use Rattle.std.specs.Option.{option_or}
use Rattle.std.proofs.Math.Bool.{or-false}
use Rattle.std.proofs.lemmas.Bool.{false≢true, or_left, or_right, or_parts, or_from}
use Rattle.std.proofs.lemmas.List.Folds.{list_any-append}
use Rattle.wire_base.specs.Tcp as tcp
use Rattle.wire_base.specs.Segments.{Written}
use Rattle.tcp_codec.specs.MendedSegment.{MendedSayTheSame}
use Rattle.rule_book.specs.declared.entry.Ended.{Ended}
use Rattle.rule_book.specs.declared.entry.Reason.{Reason}
use Rattle.rule_book.specs.declared.entry.Reason.TheVariants as reasons
use Rattle.norm_settings.specs.SettingValues.{PlainSettings}
use Rattle.era_state.specs.SegmentMarks.{acknowledges, fixes}
use Rattle.era_state.specs.Quantities.{base_of, iss, octets_of}
use Rattle.era_state.specs.States.{is_closed, state_of}
use Rattle.era_state.specs.Rules as rules
use Rattle.ip_rules.specs.Datagrams.{Datagram, Packet, goes_in}
use Rattle.tcp_norm.specs.declared.step.Step.{Step}
use Rattle.tcp_norm.specs.Calls.{Call, expiry, datagram, Alive, Outcome, read, segment_in, is_era, is_among, is_written, ended_by, numbers_of, segments, touched_by, written_by}
use Rattle.tcp_norm.specs.RuleViews.{View, view_of}
use Rattle.tcp_norm.specs.RuleRows.{begins, is_live, reopens, t_full, t_sum_out}
use Rattle.tcp_norm.specs.Outcomes.{begun_with, call_of, ended_with, ends, outcome_at}
use Rattle.tcp_norm.specs.LiveEras.{AreMade, has_ended, made_of, writes_in}
use Rattle.tcp_norm.specs.SegmentPackets.{AsksSegment, IsSegment}
use Rattle.tcp_norm.specs.working.EraSteps.{Does, IsStep, listed}
use Rattle.tcp_norm.proofs.EmittedCalls.{unwritten}
use Rattle.tcp_norm.proofs.CallKinds.{effect_made}
use Rattle.tcp_norm.proofs.EraCounts.{lasts_made}
use Rattle.tcp_norm.proofs.Lists.{among_is, all_map}
use Rattle.tcp_norm.proofs.OutboundSegments.{out_does}
use Rattle.norm_engine.specs.Calls.{flow_calls}
use Rattle.norm_engine.specs.TraceLaws.{LawfulCallsAreMade}
use Rattle.norm_engine.proofs.Receivers.{PacketLaws, written_is}
use Rattle.run_audit.specs.EmittedFrames.{NoneAcksUnbased}
use Rattle.run_audit.specs.LawfulFiles.{is_outbound_reset, NoneBehindReset, ResetsAreLast}

-- the changes of the eras by the call of an outbound datagram

abbrev head_of : List Ended → Option Ended
head_of [] = None
head_of (e ∷ more) = Some e

abbrev step_of : View → Written → Step
step_of v w = record { era = option_or (begun_with v w) v.era; begun = begun_with v w; ended = head_of (ended_with v w); full = t_full v w }

-- at most one era ends
one_ends : (v : View) (w : Written) → listed (head_of (ended_with v w)) ≡ ended_with v w
one_ends v w = by (reopens v w) (begins v w && v.is_full) (not w.inward && tcp.has_rst w.flags)
  where
    one : (o : Option ℕ) (octets : ℕ) (reason : Reason) → listed (head_of (ends o octets reason)) ≡ ends o octets reason
    one None octets reason = refl
    one (Some n) octets reason = refl

    by : (again taken reset : Bool) → let all = cond again (ends v.era (octets_of v.segments) reasons.Reopened) (cond taken (ends v.evictable v.evictable_octets reasons.Evicted) (cond reset (ends v.era (octets_of v.segments) reasons.Reset) [])) in listed (head_of all) ≡ all
    by true taken reset = one v.era (octets_of v.segments) reasons.Reopened
    by false true reset = one v.evictable v.evictable_octets reasons.Evicted
    by false false true = one v.era (octets_of v.segments) reasons.Reset
    by false false false = refl

step_is : (v : View) (w : Written) → IsStep v w (step_of v w)
step_is v w = record { era_is = refl; begun_is = refl; ended_is = one_ends v w; full_is = refl }

does : MendedSayTheSame → (settings : PlainSettings) (v : View) (d : Datagram) → IsSegment settings d → goes_in d.side ≡ false → Does d (segment_in d) (step_of v (segment_in d)) (outcome_at settings v d)
does law settings v d h out =
    let least = h.least in
    let inside = h.inside in
    out_does law settings v d (step_of v (segment_in d)) (t_sum_out settings d) out refl (step_is v (segment_in d)) (omega (arith, least, inside)) least

-- a RST begins no era and reopens none, so it ends the one that is live
record EndsLive (v : View) (w : Written) : Type 0 where
  begins_none : begun_with v w ≡ None
  ends_it : ended_with v w ≡ ends v.era (octets_of v.segments) reasons.Reset

ends_live : (v : View) (w : Written) → w.inward ≡ false → tcp.has_rst w.flags ≡ true → tcp.are_legal w.flags ≡ true → EndsLive v w
ends_live v w out rst legal = record {
  begins_none = (λ i. cond ((starts i && not (t_full v w)) || again i) (Some v.next) None);
  ends_it =
      (λ i. cond (again i) (ends v.era (octets_of v.segments) reasons.Reopened) (cond (starts i && v.is_full) (ends v.evictable v.evictable_octets reasons.Evicted) (cond (not (out i) && rst i) (ends v.era (octets_of v.segments) reasons.Reset) [])));
}
  where
    no_syn : (syn fin reset ack : Bool) → reset ≡ true → tcp.go_together syn fin reset ack ≡ true → syn ≡ false
    no_syn false fin reset ack r e = refl
    no_syn true fin false ack r e = absurd (cc r)
    no_syn true true true ack r e = absurd (cc e)
    no_syn true false true ack r e = absurd (cc e)

    syn : tcp.has_syn w.flags ≡ false
    syn = no_syn (tcp.has_syn w.flags) (tcp.has_fin w.flags) (tcp.has_rst w.flags) (tcp.has_ack w.flags) rst legal

    never : (live : Bool) → (not live && false) ≡ false
    never true = refl
    never false = refl

    starts : begins v w ≡ false
    starts =
        (λ i. not (is_live v) && (((out i && tcp.has_syn w.flags) && not (tcp.has_ack w.flags)) || (not (out i) && not (rst i))))
        ∙ never (is_live v)

    neither : (live closed other : Bool) → (live && ((closed && false && other) || false)) ≡ false
    neither true true other = refl
    neither true false other = refl
    neither false closed other = refl

    again : reopens v w ≡ false
    again =
        (λ i. is_live v
        && ((is_closed (state_of v.segments) && ((out i && tcp.has_syn w.flags) && not (tcp.has_ack w.flags)) && not (rules.precedes (base_of v.segments) w.seq))
        || ((not (out i) && syn i) && rules.is_another (iss v.segments) (state_of v.segments) w.seq)))
        ∙ neither (is_live v) (is_closed (state_of v.segments)) (not (rules.precedes (base_of v.segments) w.seq))

-- A call writes no outbound RST in an era, or one alone, and then the era ends.
abbrev Writes : (era : ℕ) → Call → Type 0
Writes era c =
    (list_any is_outbound_reset (written_by era c) ≡ false)
    ⊎ ((w : Written) × (written_by era c ≡ w ∷ []) × (is_outbound_reset w ≡ true → is_among (ended_by c) era ≡ true))

none_inward : (inward : Bool) (ps : List Packet) → inward ≡ true → list_any is_outbound_reset (map (λ p. read inward p.octets) ps) ≡ false
none_inward true [] e = refl
none_inward true (p ∷ ps) e = none_inward true ps e
none_inward false ps e = absurd (cc e)

writes_inward : (era : ℕ) (now : ℕ) (d : Datagram) (o : Outcome) → goes_in d.side ≡ true → Writes era (datagram now d o)
writes_inward era now d o side = by (is_era era o.era && is_written o.verdict) refl
  where
    wrote : List Written
    wrote = map (λ p. read (goes_in d.side) p.octets) o.packets

    by : (b : Bool) → (is_era era o.era && is_written o.verdict) ≡ b → Writes era (datagram now d o)
    by true e = inl (ap (λ b. list_any is_outbound_reset (cond b wrote [])) e ∙ none_inward (goes_in d.side) o.packets side)
    by false e = inl (ap (λ b. list_any is_outbound_reset (cond b wrote [])) e)

named_era : (era : ℕ) (o : Option ℕ) → is_era era o ≡ true → o ≡ Some era
named_era era None e = absurd (false≢true e)
named_era era (Some n) e = let same : n ≡ era = grind (arith, e) in ap (λ m. Some m) same

right_of : (a b : Bool) → (a && b) ≡ true → b ≡ true
right_of true b e = e
right_of false b e = absurd (cc e)

left_of : (a b : Bool) → (a && b) ≡ true → a ≡ true
left_of true b e = refl
left_of false b e = absurd (cc e)

writes_outward : MendedSayTheSame → (settings : PlainSettings) (v : View) (d : Datagram) (era now : ℕ) → IsSegment settings d → goes_in d.side ≡ false → Writes era (datagram now d (outcome_at settings v d))
writes_outward law settings v d era now h out = by (is_era era o.era && is_written o.verdict) refl
  where
    w : Written
    w = segment_in d

    o : Outcome
    o = outcome_at settings v d

    is : Does d w (step_of v w) o
    is = does law settings v d h out

    wrote : List Written
    wrote = map (λ p. read (goes_in d.side) p.octets) o.packets

    ended : is_era era o.era ≡ true → is_outbound_reset w ≡ true → is_among (map (λ (e : Ended). e.era) o.ended) era ≡ true
    ended names reset =
        let live = ends_live v w out (right_of (not w.inward) (tcp.has_rst w.flags) reset) h.legal in
        let here : v.era ≡ Some era = sym (is.era_is ∙ ap (λ b. option_or b v.era) live.begins_none) ∙ named_era era o.era names in
        ap (λ (es : List Ended). is_among (map (λ (e : Ended). e.era) es) era) (is.ended_are ∙ one_ends v w ∙ live.ends_it ∙ ap (λ n. ends n (octets_of v.segments) reasons.Reset) here)
        ∙ or_left (era == era) false (eq-eqb era era refl)

    by : (b : Bool) → (is_era era o.era && is_written o.verdict) ≡ b → Writes era (datagram now d o)
    by true e = inr (w, ap (λ b. cond b wrote []) e ∙ is.packets_are, ended (left_of (is_era era o.era) (is_written o.verdict) e))
    by false e = inl (ap (λ b. list_any is_outbound_reset (cond b wrote [])) e)

writes_of : MendedSayTheSame → (settings : PlainSettings) (cs : List Call) (c : Call) (era : ℕ) → c ≡ made_of settings cs c → AsksSegment settings c → Writes era c
writes_of law settings cs (expiry now ended) era is asks = inl refl
writes_of law settings cs (datagram now d o) era is asks = subst (Writes era) (sym is) (by (goes_in d.side) refl)
  where
    by : (inward : Bool) → goes_in d.side ≡ inward → Writes era (call_of settings cs now d)
    by true side = writes_inward era now d (outcome_at settings (view_of settings cs d) d) side
    by false side = writes_outward law settings (view_of settings cs d) d era now asks side

-- an era in which an outbound RST was written has ended
has_ended_by : MendedSayTheSame → (settings : PlainSettings) (cs : List Call) → AreMade settings cs → AllByRecursion (AsksSegment settings) cs → (era : ℕ)
    → list_any is_outbound_reset (segments era cs) ≡ true → has_ended era cs ≡ true
has_ended_by law settings [] made asked era e = absurd (false≢true e)
has_ended_by law settings (c ∷ cs) made asked era e = by (has_ended_by law settings cs made.1 asked.1 era) (list_any is_outbound_reset (segments era cs)) refl
  where
    here : list_any is_outbound_reset (segments era cs) ≡ false → list_any is_outbound_reset (written_by era c) ≡ true
    here none =
        ap (λ b. b || list_any is_outbound_reset (written_by era c)) (sym none)
        ∙ sym (list_any-append is_outbound_reset (segments era cs) (written_by era c))
        ∙ e

    ends_here : Writes era c → list_any is_outbound_reset (written_by era c) ≡ true → is_among (ended_by c) era ≡ true
    ends_here (inl none) some = absurd (false≢true (sym none ∙ some))
    ends_here (inr (w, one, ended)) some = ended (sym (ap (list_any is_outbound_reset) one ∙ or-false (is_outbound_reset w)) ∙ some)

    by : (list_any is_outbound_reset (segments era cs) ≡ true → has_ended era cs ≡ true) → (b : Bool) → list_any is_outbound_reset (segments era cs) ≡ b → has_ended era (c ∷ cs) ≡ true
    by go true before = or_right (is_among (ended_by c) era) (has_ended era cs) (go before)
    by go false none = or_left (is_among (ended_by c) era) (has_ended era cs) (ends_here (writes_of law settings cs c era made.0 asked.0) (here none))

-- an era in which a call writes has not ended, so no outbound RST was written in it
none_before : MendedSayTheSame → (settings : PlainSettings) (cs : List Call) (c : Call) (era : ℕ) → c ≡ made_of settings cs c → AreMade settings cs → AllByRecursion (AsksSegment settings) cs
    → writes_in era c ≡ true → list_any is_outbound_reset (segments era cs) ≡ false
none_before law settings cs c era is made asked writes = by (list_any is_outbound_reset (segments era cs)) refl
  where
    goes_on : has_ended era cs ≡ false
    goes_on =
        let f = effect_made settings cs c is (lasts_made settings cs made) in
        among_is (λ n. has_ended n cs ≡ false) (numbers_of (touched_by c)) era (all_map (λ n. has_ended n cs ≡ false) (λ (a : Alive). a.number) (touched_by c) f.goes_on) (sym (f.writes era) ∙ writes)

    by : (b : Bool) → list_any is_outbound_reset (segments era cs) ≡ b → b ≡ false
    by false e = refl
    by true e = absurd (false≢true (sym goes_on ∙ has_ended_by law settings cs made asked era e))

-- a front of two joined lists ends in the first or in the second
data Parts (xs ys before rest : List Written) : Type 0 where
  inside : (more : List Written) → xs ≡ before ++ more → rest ≡ more ++ ys → Parts xs ys before rest
  past : (more : List Written) → before ≡ xs ++ more → ys ≡ more ++ rest → Parts xs ys before rest

parts : (xs ys before rest : List Written) → xs ++ ys ≡ before ++ rest → Parts xs ys before rest
parts [] ys before rest e = past before refl e
parts (x ∷ xs) ys [] rest e = inside (x ∷ xs) refl (sym e)
parts (x ∷ xs) ys (b ∷ before) rest e = by (parts xs ys before rest (cc e))
  where
    same : x ≡ b
    same = cc e

    by : Parts xs ys before rest → Parts (x ∷ xs) ys (b ∷ before) rest
    by (inside more p q) = inside more (ap₂ (λ y zs. y ∷ zs) same p) q
    by (past more p q) = past more (ap₂ (λ y zs. y ∷ zs) (sym same) p) q

some_left : (before : List Written) (w : Written) (later : List Written) → [] ≡ before ++ (w ∷ later) → ⊥
some_left [] w later e = cc e
some_left (b ∷ before) w later e = cc e

-- nothing is written after an outbound RST
none_behind : MendedSayTheSame → (settings : PlainSettings) (cs : List Call) → AreMade settings cs → AllByRecursion (AsksSegment settings) cs → (era : ℕ) → NoneBehindReset (segments era cs)
none_behind law settings [] made asked era before w later e = absurd (some_left before w later e)
none_behind law settings (c ∷ cs) made asked era before w later e = by (none_behind law settings cs made.1 asked.1 era) (parts xs ys before (w ∷ later) e)
  where
    xs : List Written
    xs = segments era cs

    ys : List Written
    ys = written_by era c

    -- if the call writes, there is no outbound RST before it
    none : (more : List Written) → ys ≡ more ++ (w ∷ later) → list_any is_outbound_reset xs ≡ false
    none more some = at (writes_in era c) refl
      where
        at : (b : Bool) → writes_in era c ≡ b → list_any is_outbound_reset xs ≡ false
        at true writes = none_before law settings cs c era made.0 made.1 asked.1 writes
        at false idle = absurd (some_left more w later (sym (unwritten era c idle) ∙ some))

    -- and none among the segments that the call writes before another one
    alone : (more : List Written) → ys ≡ more ++ (w ∷ later) → Writes era c → list_any is_outbound_reset more ≡ false
    alone more some (inl quiet) =
        (or_parts (list_any is_outbound_reset more) (list_any is_outbound_reset (w ∷ later))
        (sym (list_any-append is_outbound_reset more (w ∷ later)) ∙ ap (list_any is_outbound_reset) (sym some) ∙ quiet)).0
    alone more some (inr (v, one, ended)) = first more (sym one ∙ some)
      where
        first : (more : List Written) → v ∷ [] ≡ more ++ (w ∷ later) → list_any is_outbound_reset more ≡ false
        first [] e = refl
        first (m ∷ more) e = let tail : [] ≡ more ++ (w ∷ later) = cc e in absurd (some_left more w later tail)

    within : NoneBehindReset xs → (more : List Written) → xs ≡ before ++ more → w ∷ later ≡ more ++ ys → list_any is_outbound_reset before ≡ false
    within go [] p q = ap (list_any is_outbound_reset) (sym (p ∙ append-nil before)) ∙ none [] (sym q)
    within go (v ∷ more) p q = go before v more p

    by : NoneBehindReset xs → Parts xs ys before (w ∷ later) → list_any is_outbound_reset before ≡ false
    by go (inside more p q) = within go more p q
    by go (past more p q) =
        ap (list_any is_outbound_reset) p
        ∙ list_any-append is_outbound_reset xs more
        ∙ or_from (list_any is_outbound_reset xs) (list_any is_outbound_reset more) (none more q) (alone more q (writes_of law settings cs c era made.0 asked.0))

pub resets_last : PacketLaws → MendedSayTheSame → LawfulCallsAreMade → ResetsAreLast
resets_last laws same made settings link trace sound era =
    let is = made settings link trace sound in
    subst NoneBehindReset (sym (written_is laws settings link era trace sound)) (none_behind same settings (flow_calls settings link trace) is.made is.asked era)

-- a segment that acknowledges and fixes no base is an outbound RST
none_acks : (ws : List Written) → list_any is_outbound_reset ws ≡ false → base_of ws ≡ None → list_any acknowledges ws ≡ false
none_acks [] resets unbased = refl
none_acks (w ∷ ws) resets unbased =
    let other = or_parts (is_outbound_reset w) (list_any is_outbound_reset ws) resets in
    let none = both (fixes w) (base_of ws) unbased in
    or_from (acknowledges w) (list_any acknowledges ws)
    (idle w.inward (tcp.has_ack w.flags) (tcp.has_rst w.flags) (if_syn w) w.ack other.0 none.0)
    (none_acks ws other.1 none.1)
  where
    both : (o p : Option ℕ) → option_or o p ≡ None → (o ≡ None) × (p ≡ None)
    both None p e = (refl, e)
    both (Some x) p e = absurd (cc e)

    if_syn : Written → Option ℕ
    if_syn w = cond (tcp.has_syn w.flags) (Some ((w.seq + 1) % 2 ^ 32)) None

    idle : (inward ack reset : Bool) (o : Option ℕ) (n : ℕ) → (not inward && reset) ≡ false → cond inward o (cond (ack && not reset) (Some n) None) ≡ None → (not inward && ack) ≡ false
    idle true ack reset o n quiet none = refl
    idle false false reset o n quiet none = refl
    idle false true true o n quiet none = absurd (cc quiet)
    idle false true false o n quiet none = absurd (cc none)

pub unbased_acks : (ws : List Written) → NoneBehindReset ws → NoneAcksUnbased ws
unbased_acks ws last before w later is unbased = none_acks before (last before w later is) unbased
