-- Rules and steps of RSTs, SYNs and datagrams without an era: which era they begin, reopen or end.
use Rattle.std.proofs.Common.{◌≡◌, ℕ, ◌+◌, ◌&&◌, not, Bool, true, false, cond, List, Option, Some, None, is_some, refl, sym, ap, ap₂, ◌∙◌, ◌≢◌, ◌||◌, [], subst, ◌∷◌, pos, ◌-ℤ◌, AllPairs, nat_lt, is_none}
use Rattle.std.specs.Option.{option_or}
use Rattle.std.proofs.lemmas.Bool.{and_parts}
use Rattle.wire_base.specs.Tcp as tcp
use Rattle.wire_base.specs.Segments.{Written}
use Rattle.wire_base.specs.declared.address.FlowKey.{FlowKey}
use Rattle.rule_book.specs.declared.rule.Rule.TheVariants as rules
use Rattle.norm_settings.specs.SettingValues.{PlainSettings}
use Rattle.era_state.specs.declared.segment.Seg.{Seg}
use Rattle.era_state.specs.SegmentFields.{came, sent}
use Rattle.era_state.specs.Rules.{t_rst, t_state, t_syn, is_of_stream, follows, is_awaited, reopens_inward, reopens_outward, precedes}
use Rattle.era_state.specs.Offsets.{number_before, off, natural}
use Rattle.era_state.specs.Quantities.{base_at, acked, next, iss, out, base_of, octets_of, first}
use Rattle.era_state.specs.States.{state_of, is_called, is_closed, is_offered}
use Rattle.era_state.specs.declared.probe.Probe.{Probe}
use Rattle.reset_probe.specs.declared.reset.ResetAnswer.TheVariants.{Pass, Refuse}
use Rattle.reset_probe.specs.Answers.{reset_answer}
use Rattle.reset_probe.specs.Rules.{era_probe, probe_with, awaited_number}
use Rattle.ip_rules.specs.Datagrams.{Datagram, goes_in}
use Rattle.rule_book.specs.declared.entry.Reason.TheVariants as reasons
use Rattle.linked_table.specs.declared.table.Slot.{Slot}
use Rattle.linked_table.specs.EntryTable.{Entry, IsIn, HasNone, Wherever}
use Rattle.retain_store.specs.Maps.{Store}
use Rattle.linked_table.proofs.Entries.{split_at, wherever}
use Rattle.era_state.specs.SegmentMarks.{get_at}
use Rattle.cold_start.specs.Rules.{is_asked, is_call, t_cold, cold_probe_of}
use Rattle.tcp_norm.specs.Calls.{segment_in, Call, segments, eras, key_of}
use Rattle.tcp_norm.specs.HeldOctets.{held_of, kept_at}
use Rattle.tcp_norm.specs.RuleViews.{View, view_of, number_of, segments_of}
use Rattle.tcp_norm.specs.RuleRows.{is_live, holds_era, dropped_by, exceeds, wanted_of, reopens, t_full}
use Rattle.tcp_norm.specs.declared.key.Flow.{Flow}
use Rattle.tcp_norm.specs.declared.key.EraKey.{EraKey}
use Rattle.tcp_norm.specs.declared.step.Place.{Place}
use Rattle.tcp_norm.specs.working.EraSteps.{IsStep, began, evicted, place_of, place_in}
use Rattle.tcp_norm.specs.TableAndStore.{HoldsFor}
use Rattle.tcp_norm.specs.working.EmptySegments.{BringsNone}
use Rattle.tcp_norm.specs.working.ColdDatagrams.{are_of_call}
use Rattle.tcp_norm.specs.EmittedPackets.{flags_cleared}
use Rattle.tcp_norm.proofs.SegmentRules.{flags_stay, dropped_is}
use Rattle.tcp_norm.proofs.BareSegments.{Comes}
use Rattle.tcp_norm.proofs.LiveEras.{live_here, live_nowhere}

-- The rules of an inbound RST of a connection that has a live era, and the calls with it.

-- what is asked of it is asked of what goes inwards
pub rst_same : (ws : List Written) (d : Datagram) (key : FlowKey) (s : Seg) → Comes d key s → t_rst ws (came s) ≡ t_rst ws (segment_in d)
rst_same ws d key s is = λ k.
    (sym is.side) k && is.rst k
    && not (cond (is_called (state_of ws)) (is.ack_flag k && follows (iss ws) (is.ack k)) (is_awaited (base_at ws) (acked (base_at ws) ws) (next (base_at ws) ws) (is.seq k)))

-- a probe reads the window of the segment alone
probe_at : (number : ℕ) (out : Option ℕ) (w v : Written) → w.window ≡ v.window → probe_with number out w ≡ probe_with number out v
probe_at number None w v same = refl
probe_at number (Some out) w v same = ap (λ window. Some (record { seq = number_before number; ack = out; window = window })) same

pub probe_same : (ws : List Written) (d : Datagram) (key : FlowKey) (s : Seg) → Comes d key s → era_probe ws (came s) ≡ era_probe ws (segment_in d)
probe_same ws d key s is =
    ap (λ number. probe_with number (out ws) (came s)) (λ k. cond (is_called (state_of ws)) (is.seq k) (base_at ws + acked (base_at ws) ws))
    ∙ probe_at (awaited_number ws (segment_in d)) (out ws) (came s) (segment_in d) is.window

-- T_RST drops it, or none
pub reset_dropped : (settings : PlainSettings) (v : View) (d : Datagram) (n : ℕ) → goes_in d.side ≡ true → v.era ≡ Some n → tcp.has_rst (segment_in d).flags ≡ true → tcp.has_syn (segment_in d).flags ≡ false
    → dropped_by settings v d ≡ cond (t_rst v.segments (segment_in d)) (Some rules.TRst) None
reset_dropped settings v d n side live rst syn =
    let w = segment_in d in
    let named : is_live v ≡ true = ap is_some live in
    let state : t_state v.segments w ≡ false = rw (side, rst) refl in
    let stray : t_syn v.segments w ≡ false = rw (side, syn) refl in
    let stream : is_of_stream v.segments w ≡ false = rw (side, syn, rst) refl in
    let cold : holds_era settings v d rules.TCold ≡ false = rw named refl in
    let full : holds_era settings v d rules.TFull ≡ false = rw named refl in
    dropped_is settings v d false false false (t_rst v.segments w) false false false side
    cold (ap₂ (λ a b. a && b) named state) (ap₂ (λ a b. a && b) named stray) (ap (λ b. b && t_rst v.segments w) named)
    full (ap₂ (λ a b. a && b && exceeds settings.quota (held_of v.segments + wanted_of v.segments w)) named stream)
    (ap₂ (λ a b. a && b && nat_lt v.room (wanted_of v.segments w)) named stream)

-- a RST is no SYN
pub no_call : (f : ℕ) → tcp.are_legal f ≡ true → tcp.has_rst f ≡ true → tcp.has_syn f ≡ false
no_call f legal rst = cases (tcp.has_syn f) refl
  where
    never : (b : Bool) → (b && false) ≡ true → true ≡ false
    never true e = sym e
    never false e = sym e

    cases : (b : Bool) → tcp.has_syn f ≡ b → b ≡ false
    cases false e = refl
    cases true e = never (not (tcp.has_fin f)) (ap₂ (λ x y. tcp.go_together x (tcp.has_fin f) y (tcp.has_ack f)) (sym e) (sym rst) ∙ legal)

-- the answer shows whether the rule holds
pub refused_alone : (ws : List Written) (w : Written) → reset_answer ws w ≡ Refuse → t_rst ws w ≡ true
refused_alone ws w = cases (t_rst ws w)
  where
    cases : (b : Bool) → cond b Refuse (Pass (era_probe ws w)) ≡ Refuse → b ≡ true
    cases true e = refl
    cases false e = cc

pub passed_alone : (ws : List Written) (w : Written) (probe : Option Probe) → reset_answer ws w ≡ Pass probe → (t_rst ws w ≡ false) × (probe ≡ era_probe ws w)
passed_alone ws w probe = cases (t_rst ws w)
  where
    cases : (b : Bool) → cond b Refuse (Pass (era_probe ws w)) ≡ Pass probe → (b ≡ false) × (probe ≡ era_probe ws w)
    cases true e = cc
    cases false e = (refl, cc)

-- What an outbound segment does to the eras, by what was asked of the calls before.

-- what is asked of the calls before, of a connection with this live era
pub record IsLive (settings : PlainSettings) (cs : List Call) (d : Datagram) (n : ℕ) : Type 0 where
  pub era_is : (view_of settings cs d).era ≡ Some n
  pub segments_are : (view_of settings cs d).segments ≡ segments n cs

pub view_live : (settings : PlainSettings) (cs : List Call) (begun : ℕ) (entries : List (Entry EraKey Flow)) (store : Store) (slot : Slot) (flow : Flow) (key : FlowKey) (d : Datagram)
    → HoldsFor (eras cs) (λ n. segments n cs) begun entries store → IsIn entries slot → AllPairs (λ e f. e.slot ≢ f.slot) entries → AllPairs (λ e f. e.key ≢ f.key) entries
    → Wherever entries slot (λ e. e.value ≡ flow) → Wherever entries slot (λ e. e.key.0 ≡ key) → key_of d ≡ key → IsLive settings cs d flow.number
view_live settings cs begun entries store slot flow key d h inside slots keys valued keyed same =
    let a = split_at entries slot inside slots keys in
    let is = wherever (λ (e : Entry EraKey Flow). e.value ≡ flow) entries slot a valued in
    let key_is = wherever (λ (e : Entry EraKey Flow). e.key.0 ≡ key) entries slot a keyed in
    let live = live_here entries (eras cs) slot (key_of d) a h.eras_are (key_is ∙ sym same) in
    let number : a.here.value.number ≡ flow.number = ap (λ (f : Flow). f.number) is in
    record {
      era_is = ap number_of live ∙ ap Some number;
      segments_are = ap (segments_of (λ n. segments n cs)) live ∙ ap (λ n. segments n cs) number;
    }

pub view_cold : (settings : PlainSettings) (cs : List Call) (begun : ℕ) (entries : List (Entry EraKey Flow)) (store : Store) (key : FlowKey) (d : Datagram)
    → HoldsFor (eras cs) (λ n. segments n cs) begun entries store → HasNone entries (record { 0 = key }) → key_of d ≡ key → (view_of settings cs d).era ≡ None
view_cold settings cs begun entries store key d h none same =
    ap number_of (live_nowhere entries (eras cs) (key_of d) h.eras_are (subst (λ k. HasNone entries (record { 0 = k })) (sym same) none))

-- an outbound segment reopens nothing as an inbound one does
not_inward : (ws : List Written) (w : Written) → w.inward ≡ false → reopens_inward ws w ≡ false
not_inward ws w out = stays (is_closed (state_of ws)) ((w.inward && tcp.has_syn w.flags) && not (tcp.has_ack w.flags)) (not (precedes (base_of ws) w.seq)) (rw out refl)
  where
    stays : (a b c : Bool) → b ≡ false → (a && b && c) ≡ false
    stays true b c e = rw e refl
    stays false b c e = refl

reopens_is : (v : View) (w : Written) (n : ℕ) (b : Bool) → v.era ≡ Some n → w.inward ≡ false → reopens_outward v.segments w ≡ b → reopens v w ≡ b
reopens_is v w n b live out is = ap₂ (λ x y. x && (y || reopens_outward v.segments w)) (ap is_some live) (not_inward v.segments w out) ∙ is

-- the segment goes on in its live era
pub step_next : (v : View) (s : Seg) (octets : List ℕ) (n : ℕ) → v.era ≡ Some n → tcp.has_rst s.flags.0 ≡ false → reopens_outward v.segments (sent s []) ≡ false
    → IsStep v (sent s octets) (record { era = Some n; begun = None; ended = None; full = false })
step_next v s octets n live rst none =
    let again : reopens v (sent s octets) ≡ false = reopens_is v (sent s octets) n false live refl none in
    record { era_is = rw (again, live) refl; begun_is = rw (again, live) refl; ended_is = rw (again, live, rst) refl; full_is = rw live refl }

-- it ends, and another era begins
pub step_reopened : (v : View) (s : Seg) (octets : List ℕ) (n : ℕ) → v.era ≡ Some n → reopens_outward v.segments (sent s []) ≡ true
    → IsStep v (sent s octets) (record { era = Some v.next; begun = Some v.next; ended = Some (record { era = n; reason = reasons.Reopened; octets = Some (octets_of v.segments) }); full = false })
step_reopened v s octets n live some =
    let again : reopens v (sent s octets) ≡ true = reopens_is v (sent s octets) n true live refl some in
    record { era_is = rw (again, live) refl; begun_is = rw (again, live) refl; ended_is = rw (again, live) refl; full_is = rw live refl }

-- a reset ends its live era
pub step_reset : (v : View) (s : Seg) (octets : List ℕ) (n : ℕ) → v.era ≡ Some n → tcp.are_legal s.flags.0 ≡ true → tcp.has_rst s.flags.0 ≡ true
    → IsStep v (sent s octets) (record { era = Some n; begun = None; ended = Some (record { era = n; reason = reasons.Reset; octets = Some (octets_of v.segments) }); full = false })
step_reset v s octets n live legal rst =
    let syn = no_call s.flags.0 legal rst in
    let none : reopens_outward v.segments (sent s octets) ≡ false = rw syn refl in
    let again : reopens v (sent s octets) ≡ false = reopens_is v (sent s octets) n false live refl none in
    record { era_is = rw (again, live) refl; begun_is = rw (again, live) refl; ended_is = rw (again, live, rst) refl; full_is = rw live refl }

-- a reset of a connection that has no live era belongs to none
pub step_stray : (v : View) (s : Seg) (octets : List ℕ) → v.era ≡ None → tcp.has_rst s.flags.0 ≡ true
    → IsStep v (sent s octets) (record { era = None; begun = None; ended = None; full = false })
step_stray v s octets none rst = record { era_is = rw (none, rst) refl; begun_is = rw (none, rst) refl; ended_is = rw (none, rst) refl; full_is = rw (none, rst) refl }

pub placed : (v : View) (full : Bool) (first : Option ℕ) → v.is_full ≡ full → v.evictable ≡ first → place_in v ≡ place_of full (evicted first v.evictable_octets) v.next
placed v full first f e = ap₂ (λ a b. place_of a (evicted b v.evictable_octets) v.next) f e

pub got : {q r : Place} → Some q ≡ Some r → q ≡ r
got e = cc

-- another segment of one begins an era, where there is a slot for it
pub step_begun : (v : View) (s : Seg) (octets : List ℕ) (p : Place) → v.era ≡ None → tcp.has_rst s.flags.0 ≡ false → place_in v ≡ Some p
    → IsStep v (sent s octets) (began p)
step_begun v s octets p none rst found = cases v.is_full v.evictable refl refl (sym found)
  where
    cases : (full : Bool) (first : Option ℕ) → v.is_full ≡ full → v.evictable ≡ first → Some p ≡ place_in v → IsStep v (sent s octets) (began p)
    cases false first f e is =
        let p_is : p ≡ record { begun = v.next; evicted = None } = got (is ∙ placed v false first f e) in
        subst (λ q. IsStep v (sent s octets) (began q)) (sym p_is)
        (record { era_is = rw (none, rst, f) refl; begun_is = rw (none, rst, f) refl; ended_is = rw (none, rst, f) refl; full_is = rw (none, rst, f) refl })
    cases true None f e is = cc (is ∙ placed v true None f e)
    cases true (Some k) f e is =
        let p_is : p ≡ record { begun = v.next; evicted = evicted (Some k) v.evictable_octets } = got (is ∙ placed v true (Some k) f e) in
        subst (λ q. IsStep v (sent s octets) (began q)) (sym p_is)
        (record { era_is = rw (none, rst, f, e) refl; begun_is = rw (none, rst, f, e) refl; ended_is = rw (none, rst, f, e) refl; full_is = rw (none, rst, f, e) refl })

-- and where it finds none it stays without one
pub step_full : (v : View) (s : Seg) (octets : List ℕ) → v.era ≡ None → tcp.has_rst s.flags.0 ≡ false → place_in v ≡ None
    → IsStep v (sent s octets) (record { era = None; begun = None; ended = None; full = true })
step_full v s octets none rst found = cases v.is_full v.evictable refl refl (sym found)
  where
    cases : (full : Bool) (first : Option ℕ) → v.is_full ≡ full → v.evictable ≡ first → None ≡ place_in v
        → IsStep v (sent s octets) (record { era = None; begun = None; ended = None; full = true })
    cases false first f e is = cc (is ∙ placed v false first f e)
    cases true None f e is = record { era_is = rw (none, rst, f, e) refl; begun_is = rw (none, rst, f, e) refl; ended_is = rw (none, rst, f, e) refl; full_is = rw (none, rst, f, e) refl }
    cases true (Some k) f e is = cc (is ∙ placed v true (Some k) f e)

-- The rules of an inbound datagram of a connection that has no live era.

pub cold_dropped : (settings : PlainSettings) (v : View) (d : Datagram) → goes_in d.side ≡ true → v.era ≡ None
    → dropped_by settings v d ≡ cond (t_cold (segment_in d)) (Some rules.TCold) (cond (t_full v (segment_in d)) (Some rules.TFull) None)
cold_dropped settings v d side none = rw (side, none) refl

-- what it says is what goes inwards says
pub cold_same : (d : Datagram) (key : FlowKey) (s : Seg) → Comes d key s → t_cold (came s) ≡ t_cold (segment_in d)
cold_same d key s is = (λ k. (sym is.side) k && (is.rst k || (is.syn k && is.ack_flag k)))

pub asked_same : (d : Datagram) (key : FlowKey) (s : Seg) → Comes d key s → is_asked (came s) ≡ is_asked (segment_in d)
asked_same d key s is = (λ k. (sym is.side) k && not (is.syn k) && not (is.rst k))

pub call_same : (d : Datagram) (key : FlowKey) (s : Seg) → Comes d key s → is_call (came s) ≡ is_call (segment_in d)
call_same d key s is = (λ k. ((sym is.side) k && is.syn k) && not (is.ack_flag k))

pub cold_probe_same : (d : Datagram) (key : FlowKey) (s : Seg) → Comes d key s → cold_probe_of (came s) ≡ cold_probe_of (segment_in d)
cold_probe_same d key s is = (λ k. cold_probe_of (record (came s) { inward = (sym is.side) k; seq = is.seq k; ack = is.ack k; window = is.window k }))

-- where T_FULL does not hold, and where it does
pub full_not : (v : View) (w : Written) (p : Place) → place_in v ≡ Some p → t_full v w ≡ false
full_not v w p found = cases v.is_full v.evictable refl refl (sym found)
  where
    last : (a b c : Bool) → c ≡ false → (a && b && c) ≡ false
    last true true c e = e
    last true false c e = refl
    last false b c e = refl

    middle : (a b c : Bool) → b ≡ false → (a && b && c) ≡ false
    middle true b c e = rw e refl
    middle false b c e = refl

    cases : (full : Bool) (first : Option ℕ) → v.is_full ≡ full → v.evictable ≡ first → Some p ≡ place_in v → t_full v w ≡ false
    cases false first f e is = middle _ v.is_full (is_none v.evictable) f
    cases true None f e is = cc (is ∙ placed v true None f e)
    cases true (Some k) f e is = last _ v.is_full (is_none v.evictable) (ap is_none e)

pub full_is : (v : View) (w : Written) → v.era ≡ None → is_call w ≡ true → place_in v ≡ None → t_full v w ≡ true
full_is v w none call found = cases v.is_full v.evictable refl refl (sym found)
  where
    cases : (full : Bool) (first : Option ℕ) → v.is_full ≡ full → v.evictable ≡ first → None ≡ place_in v → t_full v w ≡ true
    cases false first f e is = cc (is ∙ placed v false first f e)
    cases true None f e is = rw (none, call, f, e) refl
    cases true (Some k) f e is = cc (is ∙ placed v true (Some k) f e)

-- a call begins an era where there is a slot for it
pub step_called : (v : View) (w : Written) (p : Place) → w.inward ≡ true → v.era ≡ None → is_call w ≡ true → place_in v ≡ Some p → IsStep v w (began p)
step_called v w p inward none call found = cases v.is_full v.evictable refl refl (sym found)
  where
    cases : (full : Bool) (first : Option ℕ) → v.is_full ≡ full → v.evictable ≡ first → Some p ≡ place_in v → IsStep v w (began p)
    cases false first f e is =
        let p_is : p ≡ record { begun = v.next; evicted = None } = got (is ∙ placed v false first f e) in
        subst (λ q. IsStep v w (began q)) (sym p_is)
        (record { era_is = rw (none, call, f) refl; begun_is = rw (none, call, f) refl; ended_is = rw (none, call, f, inward) refl; full_is = rw (none, call, f) refl })
    cases true None f e is = cc (is ∙ placed v true None f e)
    cases true (Some k) f e is =
        let p_is : p ≡ record { begun = v.next; evicted = evicted (Some k) v.evictable_octets } = got (is ∙ placed v true (Some k) f e) in
        subst (λ q. IsStep v w (began q)) (sym p_is)
        (record { era_is = rw (none, call, f, e) refl; begun_is = rw (none, call, f, e) refl; ended_is = rw (none, call, f, e) refl; full_is = rw (none, call, f, e) refl })

-- none begins with what is no call
pub no_call_no_begin : (v : View) (w : Written) → w.inward ≡ true → is_call w ≡ false → t_full v w ≡ false
no_call_no_begin v w inward call = first (not (is_some v.era)) (is_call w || (not w.inward && not (tcp.has_rst w.flags))) v.is_full (is_none v.evictable) (rw (call, inward) refl)
  where
    first : (l x a b : Bool) → x ≡ false → ((l && x) && a && b) ≡ false
    first true x a b e = rw e refl
    first false x a b e = refl

-- the rule that drops it, or none
pub cold_refused : (settings : PlainSettings) (v : View) (d : Datagram) → goes_in d.side ≡ true → v.era ≡ None → t_cold (segment_in d) ≡ true → dropped_by settings v d ≡ Some rules.TCold
cold_refused settings v d side none is = cold_dropped settings v d side none ∙ ap (λ b. cond b (Some rules.TCold) (cond (t_full v (segment_in d)) (Some rules.TFull) None)) is

pub cold_full : (settings : PlainSettings) (v : View) (d : Datagram) → goes_in d.side ≡ true → v.era ≡ None → t_cold (segment_in d) ≡ false → t_full v (segment_in d) ≡ true → dropped_by settings v d ≡ Some rules.TFull
cold_full settings v d side none is full = cold_dropped settings v d side none ∙ ap₂ (λ b f. cond b (Some rules.TCold) (cond f (Some rules.TFull) None)) is full

pub cold_passes : (settings : PlainSettings) (v : View) (d : Datagram) → goes_in d.side ≡ true → v.era ≡ None → t_cold (segment_in d) ≡ false → t_full v (segment_in d) ≡ false → dropped_by settings v d ≡ None
cold_passes settings v d side none is full = cold_dropped settings v d side none ∙ ap₂ (λ b f. cond b (Some rules.TCold) (cond f (Some rules.TFull) None)) is full

-- of an era of one SYN without octets nothing is kept
pub get_none : (x : Option ℕ) → get_at [] x ≡ None
get_none None = refl
get_none (Some i) = refl

pub none_came : (s : Seg) (offset : ℕ) → kept_at (came s ∷ []) offset ≡ None
none_came s offset = cases (nat_lt offset (acked (base_at (came s ∷ [])) (came s ∷ [])))
  where
    nothing : first (base_at (came s ∷ [])) (came s ∷ []) (pos offset) ≡ None
    nothing = ap (λ x. option_or x None) (get_none (natural (pos offset -ℤ off (base_at (came s ∷ [])) (acked (base_at (came s ∷ [])) []) s.seq)))

    cases : (b : Bool) → cond b None (first (base_at (came s ∷ [])) (came s ∷ []) (pos offset)) ≡ None
    cases true = refl
    cases false = nothing

-- The rules of an inbound SYN of a connection that has a live era.

pub state_same : (ws : List Written) (d : Datagram) (key : FlowKey) (s : Seg) → Comes d key s → t_state ws (came s) ≡ t_state ws (segment_in d)
state_same ws d key s is = λ k.
    (sym is.side) k && not (is.rst k)
    && ((is_called (state_of ws) && (not (is.syn k) || (is.ack_flag k && not (follows (iss ws) (is.ack k)))))
    || (is_offered (state_of ws) && not (is.syn k)))

pub syn_same : (ws : List Written) (d : Datagram) (key : FlowKey) (s : Seg) → Comes d key s → t_syn ws (came s) ≡ t_syn ws (segment_in d)
syn_same ws d key s is = λ k.
    ((sym is.side) k && is.syn k) && not (precedes (base_of ws) (is.seq k)) && not (is_called (state_of ws)) && (not (is_closed (state_of ws)) || is.ack_flag k)

pub again_same : (ws : List Written) (d : Datagram) (key : FlowKey) (s : Seg) → Comes d key s → reopens_inward ws (came s) ≡ reopens_inward ws (segment_in d)
again_same ws d key s is = λ k. is_closed (state_of ws) && (((sym is.side) k && is.syn k) && not (is.ack_flag k)) && not (precedes (base_of ws) (is.seq k))

-- T_STATE or T_SYN drops it, or none
pub called_dropped : (settings : PlainSettings) (v : View) (d : Datagram) (n : ℕ) → goes_in d.side ≡ true → v.era ≡ Some n → tcp.has_syn (segment_in d).flags ≡ true → tcp.has_rst (segment_in d).flags ≡ false
    → dropped_by settings v d ≡ cond (t_state v.segments (segment_in d)) (Some rules.TState) (cond (t_syn v.segments (segment_in d)) (Some rules.TSyn) None)
called_dropped settings v d n side live syn rst = rw (side, live, syn, rst) refl

-- it reopens as an inbound one alone
again_is : (v : View) (w : Written) (n : ℕ) (b : Bool) → v.era ≡ Some n → w.inward ≡ true → reopens_inward v.segments w ≡ b → reopens v w ≡ b
again_is v w n b live inward is = ap₂ (λ x y. x && (y || reopens_outward v.segments w)) (ap is_some live) is ∙ last b (reopens_outward v.segments w) (rw inward refl)
  where
    last : (x y : Bool) → y ≡ false → (true && (x || y)) ≡ x
    last true y e = refl
    last false y e = e

pub step_seen : (v : View) (w : Written) (n : ℕ) → v.era ≡ Some n → w.inward ≡ true → reopens_inward v.segments w ≡ false → IsStep v w (record { era = Some n; begun = None; ended = None; full = false })
step_seen v w n live inward none =
    let again : reopens v w ≡ false = again_is v w n false live inward none in
    record { era_is = rw (again, live) refl; begun_is = rw (again, live) refl; ended_is = rw (again, live, inward) refl; full_is = rw live refl }

pub step_recalled : (v : View) (w : Written) (n : ℕ) → v.era ≡ Some n → w.inward ≡ true → reopens_inward v.segments w ≡ true
    → IsStep v w (record { era = Some v.next; begun = Some v.next; ended = Some (record { era = n; reason = reasons.Reopened; octets = Some (octets_of v.segments) }); full = false })
step_recalled v w n live inward some =
    let again : reopens v w ≡ true = again_is v w n true live inward some in
    record { era_is = rw (again, live) refl; begun_is = rw (again, live) refl; ended_is = rw (again, live) refl; full_is = rw live refl }

-- it brings no octet
pub came_brings_none : (s : Seg) → BringsNone (came s)
came_brings_none s base at offset = get_none (natural (pos offset -ℤ off base at s.seq))

-- a SYN is no reset
pub no_reset : (f : ℕ) → tcp.are_legal f ≡ true → tcp.has_syn f ≡ true → tcp.has_rst f ≡ false
no_reset f legal syn = cases (tcp.has_rst f) refl
  where
    never : (b : Bool) → (b && false) ≡ true → true ≡ false
    never true e = sym e
    never false e = sym e

    cases : (b : Bool) → tcp.has_rst f ≡ b → b ≡ false
    cases false e = refl
    cases true e = never (not (tcp.has_fin f)) (ap₂ (λ x y. tcp.go_together x (tcp.has_fin f) y (tcp.has_ack f)) (sym syn) (sym e) ∙ legal)

-- what is known of the datagram of a segment with the flags of a call
pub record IsCalling (d : Datagram) : Type 0 where
  pub call : is_call (segment_in d) ≡ true
  pub cold : t_cold (segment_in d) ≡ false
  pub asked : is_asked (segment_in d) ≡ false

is_not : (b : Bool) → not b ≡ true → b ≡ false
is_not true e = sym e
is_not false e = refl

pub calling : (d : Datagram) (f : ℕ) → goes_in d.side ≡ true → tcp.flags d.octets ≡ f → are_of_call f ≡ true → IsCalling d
calling d f side same called =
    let parts = and_parts (tcp.has_syn f && not (tcp.has_ack f)) (not (tcp.has_rst f)) called in
    let first = and_parts (tcp.has_syn f) (not (tcp.has_ack f)) parts.0 in
    let syn : tcp.has_syn (tcp.flags d.octets) ≡ true = ap tcp.has_syn same ∙ first.0 in
    let ack : tcp.has_ack (tcp.flags d.octets) ≡ false = ap tcp.has_ack same ∙ is_not (tcp.has_ack f) first.1 in
    let rst : tcp.has_rst (tcp.flags d.octets) ≡ false = ap tcp.has_rst same ∙ is_not (tcp.has_rst f) parts.1 in
    record {
      call = (λ k. (side k && syn k) && not (ack k));
      cold = (λ k. side k && (rst k || (syn k && ack k)));
      asked = (λ k. side k && not (syn k) && not (rst k));
    }

-- what goes inwards of a call is a SYN without ACK
pub call_sent : (f sent : ℕ) → sent ≡ flags_cleared f → are_of_call f ≡ true → (tcp.has_syn sent ≡ true) × (tcp.has_ack sent ≡ false)
call_sent f sent same called =
    let parts = and_parts (tcp.has_syn f && not (tcp.has_ack f)) (not (tcp.has_rst f)) called in
    let first = and_parts (tcp.has_syn f) (not (tcp.has_ack f)) parts.0 in
    let stays = flags_stay f in
    (ap tcp.has_syn same ∙ (stays.syn ∙ first.0), ap tcp.has_ack same ∙ (stays.ack ∙ is_not (tcp.has_ack f) first.1))

-- and what goes inwards as a SYN without ACK is of a call
pub sent_call : (f sent : ℕ) → sent ≡ flags_cleared f → tcp.are_legal f ≡ true → (tcp.has_syn sent && not (tcp.has_ack sent)) ≡ true → are_of_call f ≡ true
sent_call f sent same legal call =
    let parts = and_parts (tcp.has_syn sent) (not (tcp.has_ack sent)) call in
    let stays = flags_stay f in
    let syn : tcp.has_syn f ≡ true = sym stays.syn ∙ (ap tcp.has_syn (sym same) ∙ parts.0) in
    let ack : tcp.has_ack f ≡ false = sym stays.ack ∙ (ap tcp.has_ack (sym same) ∙ is_not (tcp.has_ack sent) parts.1) in
    let rst = no_reset f legal syn in
    λ k. (syn k && not (ack k)) && not (rst k)
