-- The kinds of calls: which era each writes in, begins, ends or evicts.
use Rattle.std.proofs.Common.{◌≡◌, ℕ, ◌+◌, ◌==◌, ◌&&◌, ◌||◌, not, Bool, true, false, cond, List, [], ◌∷◌, ◌++◌, map, filter, take, Option, Some, None, is_some, is_none, refl, sym, ap, ap₂, subst, ◌∙◌, zero, suc, ◌≤◌, arith, nat_lt}
use Rattle.std.proofs.lemmas.Bool.{not-true, and_parts, and_right, or_left, or_right, false_from_ne_true, true_from_ne_false}
use Rattle.std.specs.Option.{option_or}
use Rattle.std.specs.List.{AllByRecursion}
use Rattle.era_state.specs.Rules as era
use Rattle.wire_base.specs.Tcp as tcp
use Rattle.wire_base.specs.Segments.{Written}
use Rattle.wire_base.specs.declared.address.FlowKey.{FlowKey}
use Rattle.rule_book.specs.declared.rule.Rule.{Rule}
use Rattle.rule_book.specs.declared.entry.Reason.{Reason}
use Rattle.rule_book.specs.declared.entry.Ended.{Ended}
use Rattle.norm_settings.specs.SettingValues.{PlainSettings}
use Rattle.ip_rules.specs.Datagrams.{Datagram}
use Rattle.linked_table.specs.EntryTable.{Pairwise}
use Rattle.tcp_norm.specs.Calls.{Call, datagram, Outcome, Alive, eras, live, is_key, is_era, is_written, key_of, segment_in, ended_by, touched_by, begins_by, alive_at, numbers_of, is_among, expiry, begun_in, time_of}
use Rattle.tcp_norm.specs.HeldOctets.{evictable, held_in}
use Rattle.tcp_norm.specs.RuleViews.{View, view_of, number_of, head_of}
use Rattle.tcp_norm.specs.RuleRows.{begins, begins_cold, reopens, dropped_by, mended_by}
use Rattle.tcp_norm.specs.Outcomes.{ends, begun_with, ended_with, outcome_by, outcome_at, call_of, expiry_of}
use Rattle.tcp_norm.specs.working.EraSteps.{one}
use Rattle.tcp_norm.specs.LiveEras.{begun_for, writes_in, last_begun, has_ended, made_of}
use Rattle.tcp_norm.proofs.LiveEras.{key_is, key_same, Effect, Lasts, live_last, last_live, all_given}
use Rattle.tcp_norm.proofs.Lists.{all_map, some_same, all_filter, among_is, number_same}
use Rattle.tcp_norm.proofs.EraWrites.{fixed_or_passed}

-- What the calls that the rules make do to the eras: kind by kind, read off the outcome.

-- in these eras the call writes, it begins this one for the four-tuple, and these end with it
pub record Moves (c : Call) (key : FlowKey) (touched : List Alive) (begun : Option ℕ) (ended : List ℕ) : Type 0 where
  pub touched_is : touched_by c ≡ touched
  pub begun_is : (k : FlowKey) → begun_for k c ≡ cond (is_key key k) begun None
  pub begins_is : begins_by c ≡ cond (is_some begun) 1 0
  pub ended_is : ended_by c ≡ ended
  pub writes : (n : ℕ) → writes_in n c ≡ is_among (numbers_of touched) n

-- The kinds of calls of a datagram, by what was asked of the calls before.
pub data Kind (v : View) (c : Call) (key : FlowKey) (now : ℕ) : Type 0 where
  stays : Moves c key [] None [] → Kind v c key now
  goes_on : (m : ℕ) → v.era ≡ Some m → Moves c key (record { number = m; key = key; touched = now } ∷ []) None [] → Kind v c key now
  ends_own : (m : ℕ) → v.era ≡ Some m → Moves c key (record { number = m; key = key; touched = now } ∷ []) None (m ∷ []) → Kind v c key now
  begins_beside : v.era ≡ None → v.is_full ≡ false → Moves c key (record { number = v.next; key = key; touched = now } ∷ []) (Some v.next) [] → Kind v c key now
  evicts : (k : ℕ) → v.era ≡ None → v.evictable ≡ Some k → Moves c key (record { number = v.next; key = key; touched = now } ∷ []) (Some v.next) (k ∷ []) → Kind v c key now
  reopens_one : (m : ℕ) → v.era ≡ Some m → Moves c key (record { number = v.next; key = key; touched = now } ∷ []) (Some v.next) (m ∷ []) → Kind v c key now

pub never : (b : Bool) → cond {A = Option ℕ} b None None ≡ None
never true = refl
never false = refl

-- What a segment that no rule drops does to the eras, by what was asked of the calls before.
data Turn (era evictable : Option ℕ) (next : ℕ) (full : Bool) (begun : Option ℕ) (ended : List ℕ) : Type 0 where
  outside : era ≡ None → begun ≡ None → ended ≡ [] → Turn era evictable next full begun ended
  within : (m : ℕ) → era ≡ Some m → begun ≡ None → ended ≡ [] → Turn era evictable next full begun ended
  out : (m : ℕ) → era ≡ Some m → begun ≡ None → ended ≡ m ∷ [] → Turn era evictable next full begun ended
  beside : era ≡ None → full ≡ false → begun ≡ Some next → ended ≡ [] → Turn era evictable next full begun ended
  instead : (k : ℕ) → era ≡ None → evictable ≡ Some k → begun ≡ Some next → ended ≡ k ∷ [] → Turn era evictable next full begun ended
  again : (m : ℕ) → era ≡ Some m → begun ≡ Some next → ended ≡ m ∷ [] → Turn era evictable next full begun ended

-- the era that begins, and those that end, by the tests of the segment: whether one begins,
-- reopens, and is reset
abbrev begun_by : (evictable : Option ℕ) (next : ℕ) (begins reopens full : Bool) → Option ℕ
begun_by evictable next begins reopens full = cond ((begins && not (begins && full && is_none evictable)) || reopens) (Some next) None

abbrev ended_numbers : (era evictable : Option ℕ) (begins reopens full resets : Bool) → List ℕ
ended_numbers era evictable begins reopens full resets = cond reopens (one era) (cond (begins && full) (one evictable) (cond resets (one era) []))

turn_by : (era evictable : Option ℕ) (next : ℕ) (begins reopens full resets : Bool) → (begins ≡ true → is_some era ≡ false) → (reopens ≡ true → is_some era ≡ true)
    → Turn era evictable next full (begun_by evictable next begins reopens full) (ended_numbers era evictable begins reopens full resets)
turn_by None evictable next begins true full resets cold live = cc (live refl)
turn_by None evictable next false false full true cold live = outside refl refl refl
turn_by None evictable next false false full false cold live = outside refl refl refl
turn_by None evictable next true false false true cold live = beside refl refl refl refl
turn_by None evictable next true false false false cold live = beside refl refl refl refl
turn_by None None next true false true resets cold live = outside refl refl refl
turn_by None (Some k) next true false true resets cold live = instead k refl refl refl refl
turn_by (Some m) evictable next true reopens full resets cold live = cc (cold refl)
turn_by (Some m) evictable next false true full resets cold live = again m refl refl refl
turn_by (Some m) evictable next false false full true cold live = out m refl refl refl
turn_by (Some m) evictable next false false full false cold live = within m refl refl refl

ends_number : (era : Option ℕ) (octets : ℕ) (reason : Reason) → map (λ e. e.era) (ends era octets reason) ≡ one era
ends_number None octets reason = refl
ends_number (Some n) octets reason = refl

-- the numbers of the eras that end with a segment
ended_is : (v : View) (w : Written) → map (λ e. e.era) (ended_with v w) ≡ ended_numbers v.era v.evictable (begins v w) (reopens v w) v.is_full (not w.inward && tcp.has_rst w.flags)
ended_is v w = cases (reopens v w) (begins v w && v.is_full) (not w.inward && tcp.has_rst w.flags) _ _ _ (ends_number v.era _ _) (ends_number v.evictable _ _) (ends_number v.era _ _)
  where
    cases : (r b x : Bool) (reopened replaced reset : List Ended) → map (λ e. e.era) reopened ≡ one v.era → map (λ e. e.era) replaced ≡ one v.evictable → map (λ e. e.era) reset ≡ one v.era
        → map (λ e. e.era) (cond r reopened (cond b replaced (cond x reset []))) ≡ cond r (one v.era) (cond b (one v.evictable) (cond x (one v.era) []))
    cases true b x reopened replaced reset e f g = e
    cases false true x reopened replaced reset e f g = f
    cases false false true reopened replaced reset e f g = g
    cases false false false reopened replaced reset e f g = refl

turn : (v : View) (w : Written) → Turn v.era v.evictable v.next v.is_full (begun_with v w) (map (λ e. e.era) (ended_with v w))
turn v w =
    subst (Turn v.era v.evictable v.next v.is_full (begun_with v w)) (sym (ended_is v w))
    (turn_by v.era v.evictable v.next (begins v w) (reopens v w) v.is_full (not w.inward && tcp.has_rst w.flags)
    (λ e. not-true (is_some v.era) (and_parts (not (is_some v.era)) (begins_cold w) e).0)
    (λ e. (and_parts (is_some v.era) (era.reopens_inward v.segments w || era.reopens_outward v.segments w) e).0))

-- What an outcome says: it is dropped, or passes.
data Says (v : View) (w : Written) (o : Outcome) : Type 0 where
  dropped : is_written o.verdict ≡ false → o.begun ≡ None → map (λ e. e.era) o.ended ≡ [] → Says v w o
  passed : is_written o.verdict ≡ true → o.era ≡ option_or (begun_with v w) v.era → o.begun ≡ begun_with v w → o.ended ≡ ended_with v w → Says v w o

says : (settings : PlainSettings) (v : View) (d : Datagram) (rule : Option Rule) (mended : List Rule) → Says v (segment_in d) (outcome_by settings v d rule mended)
says settings v d (Some rule) mended = dropped refl refl refl
says settings v d None mended = passed (fixed_or_passed (d.fixes ++ mended)) refl refl refl

-- nothing is written, or in no era
moves_nothing : (now : ℕ) (d : Datagram) (o : Outcome) → is_written o.verdict ≡ false → o.begun ≡ None → map (λ e. e.era) o.ended ≡ [] → Moves (datagram now d o) (key_of d) [] None []
moves_nothing now d o unwritten begun ended = record {
  touched_is = ap (λ b. cond b (alive_at now (key_of d) o.era) []) unwritten;
  begun_is = λ k. ap (λ b. cond (is_key (key_of d) k) b None) begun;
  begins_is = ap (λ b. cond {A = ℕ} (is_some b) 1 0) begun;
  ended_is = ended;
  writes = λ n. and_right (is_era n o.era) (is_written o.verdict) unwritten;
}

moves_outside : (now : ℕ) (d : Datagram) (o : Outcome) → is_written o.verdict ≡ true → o.era ≡ None → o.begun ≡ None → map (λ e. e.era) o.ended ≡ [] → Moves (datagram now d o) (key_of d) [] None []
moves_outside now d o written none begun ended = record {
  touched_is = ap₂ (λ b e. cond b (alive_at now (key_of d) e) []) written none;
  begun_is = λ k. ap (λ b. cond (is_key (key_of d) k) b None) begun;
  begins_is = ap (λ b. cond {A = ℕ} (is_some b) 1 0) begun;
  ended_is = ended;
  writes = λ n. ap (λ e. is_era n e && is_written o.verdict) none;
}

-- it is written in this era
moves_in : (now n : ℕ) (d : Datagram) (o : Outcome) (begun : Option ℕ) (ended : List ℕ) → is_written o.verdict ≡ true → o.era ≡ Some n → o.begun ≡ begun → map (λ e. e.era) o.ended ≡ ended
    → Moves (datagram now d o) (key_of d) (record { number = n; key = key_of d; touched = now } ∷ []) begun ended
moves_in now n d o begun ended written named begins ends = record {
  touched_is = ap₂ (λ b e. cond b (alive_at now (key_of d) e) []) written named;
  begun_is = λ k. ap (λ b. cond (is_key (key_of d) k) b None) begins;
  begins_is = ap (λ b. cond {A = ℕ} (is_some b) 1 0) begins;
  ended_is = ends;
  writes = λ m. ap₂ (λ b e. is_era m e && b) written named ∙ last (n == m);
}
  where
    last : (b : Bool) → (b && true) ≡ (b || false)
    last true = refl
    last false = refl

kind_of : (v : View) (now : ℕ) (d : Datagram) (o : Outcome) → Says v (segment_in d) o → Kind v (datagram now d o) (key_of d) now
kind_of v now d o (dropped unwritten begun ended) = stays (moves_nothing now d o unwritten begun ended)
kind_of v now d o (passed written named begun ended) = cases (turn v (segment_in d))
  where
    era_is : (b e : Option ℕ) → begun_with v (segment_in d) ≡ b → v.era ≡ e → o.era ≡ option_or b e
    era_is b e begun is = named ∙ ap₂ option_or begun is

    ended_are : (ns : List ℕ) → map (λ e. e.era) (ended_with v (segment_in d)) ≡ ns → map (λ e. e.era) o.ended ≡ ns
    ended_are ns is = ap (map (λ e. e.era)) ended ∙ is

    cases : Turn v.era v.evictable v.next v.is_full (begun_with v (segment_in d)) (map (λ e. e.era) (ended_with v (segment_in d))) → Kind v (datagram now d o) (key_of d) now
    cases (outside none b e) = stays (moves_outside now d o written (era_is None None b none) (begun ∙ b) (ended_are [] e))
    cases (within m live b e) = goes_on m live (moves_in now m d o None [] written (era_is None (Some m) b live) (begun ∙ b) (ended_are [] e))
    cases (out m live b e) = ends_own m live (moves_in now m d o None (m ∷ []) written (era_is None (Some m) b live) (begun ∙ b) (ended_are (m ∷ []) e))
    cases (beside none full b e) = begins_beside none full (moves_in now v.next d o (Some v.next) [] written (era_is (Some v.next) None b none) (begun ∙ b) (ended_are [] e))
    cases (instead k none place b e) = evicts k none place (moves_in now v.next d o (Some v.next) (k ∷ []) written (era_is (Some v.next) None b none) (begun ∙ b) (ended_are (k ∷ []) e))
    cases (again m live b e) = reopens_one m live (moves_in now v.next d o (Some v.next) (m ∷ []) written (era_is (Some v.next) (Some m) b live) (begun ∙ b) (ended_are (m ∷ []) e))

-- the kind of the call that the rules make of a datagram
pub kind : (settings : PlainSettings) (cs : List Call) (now : ℕ) (d : Datagram) → Kind (view_of settings cs d) (call_of settings cs now d) (key_of d) now
kind settings cs now d = kind_of (view_of settings cs d) now d (outcome_at settings (view_of settings cs d) d)
    (says settings (view_of settings cs d) d (dropped_by settings (view_of settings cs d) d) (mended_by settings (view_of settings cs d) d))

-- the eras that are idle by a time, and end
abbrev pub idles : PlainSettings → (now : ℕ) → List Call → List Alive
idles settings now cs = take 2 (filter (λ a. nat_lt (a.touched + settings.idle) now) (eras cs))

-- no four-tuple is asked of
pub nowhere : FlowKey
nowhere = record { outside = record { 0 = 0 }; outside_port = 0; inside = record { 0 = 0 }; inside_port = 0 }

-- the call that the rules make of a time ends them, and does nothing else
pub idle_kind : (settings : PlainSettings) (cs : List Call) (now : ℕ) → Moves (expiry_of settings cs now) nowhere [] None (numbers_of (idles settings now cs))
idle_kind settings cs now = record { touched_is = refl; begun_is = λ k. sym (never (is_key nowhere k)); begins_is = refl; ended_is = refl; writes = λ n. refl }

-- What each kind of call does to the eras, where the live ones are those last begun.

-- these were given
abbrev Given : List Call → List ℕ → Type 0
Given cs ended = AllByRecursion (λ n. n ≤ begun_in cs) ended

ended_among : (cs : List Call) (c : Call) (key : FlowKey) (touched : List Alive) (begun : Option ℕ) (ended : List ℕ) → Moves c key touched begun ended → Given cs ended
    → (n : ℕ) → is_among (ended_by c) n ≡ true → n ≤ begun_in cs
ended_among cs c key touched begun ended m given n e = among_is (λ n. n ≤ begun_in cs) ended n given (ap (λ l. is_among l n) (sym m.ended_is) ∙ e)

-- a call that begins none
none_begun : (c : Call) (key : FlowKey) (touched : List Alive) (ended : List ℕ) → Moves c key touched None ended → (k : FlowKey) → begun_for k c ≡ None
none_begun c key touched ended m k = m.begun_is k ∙ never (is_key key k)

effect_still : (cs : List Call) (c : Call) (key : FlowKey) (ended : List ℕ) → Moves c key [] None ended → Given cs ended → Effect cs c
effect_still cs c key ended m given =
    let none : (k : FlowKey) (l : ℕ) → begun_for k c ≡ Some l → ⊥ = λ k l e. let is = none_begun c key [] ended m k in cc in
    record {
      ended_given = ended_among cs c key [] None ended m given;
      begun_next = λ k n e. absurd (none k n e);
      begun_more = λ k n e. absurd (none k n e);
      begun_once = λ j k n l e f. absurd (none j n e);
      begun_touched = λ k n e. absurd (none k n e);
      replaced = λ k n l e f. absurd (none k n e);
      alone = subst (Pairwise (λ (a b : Alive). ⊥)) (sym m.touched_is) tt;
      last = subst (AllByRecursion (λ (a : Alive). last_begun a.key (c ∷ cs) ≡ Some a.number)) (sym m.touched_is) tt;
      now = subst (AllByRecursion (λ (a : Alive). time_of c ≡ a.touched)) (sym m.touched_is) tt;
      goes_on = subst (AllByRecursion (λ (a : Alive). has_ended a.number cs ≡ false)) (sym m.touched_is) tt;
      writes = λ n. m.writes n ∙ ap (λ l. is_among (numbers_of l) n) (sym m.touched_is);
      among = subst (λ l. AllByRecursion (λ (a : Alive). is_among (numbers_of l) a.number ≡ true) l) (sym m.touched_is) tt;
    }

-- the call writes in the era of this number
abbrev at : (n : ℕ) → FlowKey → Call → Alive
at n key c = record { number = n; key = key; touched = time_of c }

here : (n : ℕ) → is_among (n ∷ []) n ≡ true
here n = or_left (n == n) false (number_same n)

effect_within : (cs : List Call) (c : Call) (key : FlowKey) (n : ℕ) (ended : List ℕ) → Moves c key (at n key c ∷ []) None ended → Given cs ended
    → last_begun key cs ≡ Some n → has_ended n cs ≡ false → Effect cs c
effect_within cs c key n ended m given last on =
    let none : (k : FlowKey) (l : ℕ) → begun_for k c ≡ Some l → ⊥ = λ k l e. let is = none_begun c key (at n key c ∷ []) ended m k in cc in
    record {
      ended_given = ended_among cs c key (at n key c ∷ []) None ended m given;
      begun_next = λ k n e. absurd (none k n e);
      begun_more = λ k n e. absurd (none k n e);
      begun_once = λ j k n l e f. absurd (none j n e);
      begun_touched = λ k n e. absurd (none k n e);
      replaced = λ k n l e f. absurd (none k n e);
      alone = subst (Pairwise (λ (a b : Alive). ⊥)) (sym m.touched_is) (tt, tt);
      last = subst (AllByRecursion (λ (a : Alive). last_begun a.key (c ∷ cs) ≡ Some a.number)) (sym m.touched_is)
          (ap (λ b. option_or b (last_begun key cs)) (none_begun c key (at n key c ∷ []) ended m key) ∙ last, tt);
      now = subst (AllByRecursion (λ (a : Alive). time_of c ≡ a.touched)) (sym m.touched_is) (refl, tt);
      goes_on = subst (AllByRecursion (λ (a : Alive). has_ended a.number cs ≡ false)) (sym m.touched_is) (on, tt);
      writes = λ n. m.writes n ∙ ap (λ l. is_among (numbers_of l) n) (sym m.touched_is);
      among = subst (λ l. AllByRecursion (λ (a : Alive). is_among (numbers_of l) a.number ≡ true) l) (sym m.touched_is) (here n, tt);
    }

-- the four-tuple for which a call begins an era, and its number
begun_at : (c : Call) (key : FlowKey) (n : ℕ) (touched : List Alive) (ended : List ℕ) → Moves c key touched (Some n) ended → (k : FlowKey) (l : ℕ) → begun_for k c ≡ Some l → (key ≡ k) × (n ≡ l)
begun_at c key n touched ended m k l e = cases (is_key key k) refl (sym (m.begun_is k) ∙ e)
  where
    cases : (b : Bool) → is_key key k ≡ b → cond b (Some n) None ≡ Some l → (key ≡ k) × (n ≡ l)
    cases true same is = (key_is key k same, cc)
    cases false other is = cc

effect_begins : (cs : List Call) (c : Call) (key : FlowKey) (ended : List ℕ) → Moves c key (at (begun_in cs + 1) key c ∷ []) (Some (begun_in cs + 1)) ended → Given cs ended → Lasts cs
    → ((l : ℕ) → last_begun key cs ≡ Some l → has_ended l (c ∷ cs) ≡ true) → Effect cs c
effect_begins cs c key ended m given s replaces =
    let n = begun_in cs + 1 in
    let touched = at n key c ∷ [] in
    let begun : (k : FlowKey) (l : ℕ) → begun_for k c ≡ Some l → (key ≡ k) × (n ≡ l) = begun_at c key n touched ended m in
    let first : begun_for key c ≡ Some n = m.begun_is key ∙ ap (λ b. cond b (Some n) None) (key_same key) in
    record {
      ended_given = ended_among cs c key touched (Some n) ended m given;
      begun_next = λ k l e. sym (begun k l e).1;
      begun_more = λ k l e. m.begins_is;
      begun_once = λ j k l o e f. sym (begun j l e).0 ∙ (begun k o f).0;
      begun_touched = λ k l e. subst (λ t. is_among (numbers_of t) l ≡ true) (sym m.touched_is) (subst (λ o. is_among (n ∷ []) o ≡ true) (begun k l e).1 (here n));
      replaced = λ k l o e f. replaces o (ap (λ j. last_begun j cs) (begun k l e).0 ∙ f);
      alone = subst (Pairwise (λ (a b : Alive). ⊥)) (sym m.touched_is) (tt, tt);
      last = subst (AllByRecursion (λ (a : Alive). last_begun a.key (c ∷ cs) ≡ Some a.number)) (sym m.touched_is) (ap (λ b. option_or b (last_begun key cs)) first, tt);
      now = subst (AllByRecursion (λ (a : Alive). time_of c ≡ a.touched)) (sym m.touched_is) (refl, tt);
      goes_on = subst (AllByRecursion (λ (a : Alive). has_ended a.number cs ≡ false)) (sym m.touched_is)
          (false_from_ne_true (has_ended n cs) (λ e. let le = s.ended n e in omega (arith, le)), tt);
      writes = λ l. m.writes l ∙ ap (λ t. is_among (numbers_of t) l) (sym m.touched_is);
      among = subst (λ l. AllByRecursion (λ (a : Alive). is_among (numbers_of l) a.number ≡ true) l) (sym m.touched_is) (here n, tt);
    }

all_taken : {X : Type 0} (P : X → Type 0) (n : ℕ) (xs : List X) → AllByRecursion P xs → AllByRecursion P (take n xs)
all_taken P zero xs all = tt
all_taken P (suc n) [] all = tt
all_taken P (suc n) (x ∷ xs) all = (all.0, all_taken P n xs all.1)

head_given : (cs : List Call) (xs : List Alive) (k : ℕ) → AllByRecursion (λ a. a.number ≤ begun_in cs) xs → number_of (head_of xs) ≡ Some k → k ≤ begun_in cs
head_given cs [] k all e = cc
head_given cs (x ∷ xs) k all e = let same : x.number ≡ k = cc in subst (λ n. n ≤ begun_in cs) same all.0

none_some : {n : ℕ} → None ≡ Some n → ⊥
none_some e = cc

-- the call of a datagram
pub effect_of : (settings : PlainSettings) (cs : List Call) (now : ℕ) (d : Datagram) → Lasts cs → Effect cs (call_of settings cs now d)
effect_of settings cs now d s = by (call_of settings cs now d) refl (kind settings cs now d)
  where
    key : FlowKey
    key = key_of d

    over : (c : Call) → number_of (live cs key) ≡ None → (l : ℕ) → last_begun key cs ≡ Some l → has_ended l (c ∷ cs) ≡ true
    over c cold l last = or_right (is_among (ended_by c) l) (has_ended l cs) (true_from_ne_false (has_ended l cs) (λ on. let is = last_live cs s key l last on in none_some (sym cold ∙ is)))

    by : (c : Call) → time_of c ≡ now → Kind (view_of settings cs d) c key now → Effect cs c
    by c time (stays m) = effect_still cs c key [] m tt
    by c time (goes_on n live m) =
        let is = live_last cs s key n live in
        effect_within cs c key n [] (subst (λ t. Moves c key (record { number = n; key = key; touched = t } ∷ []) None []) (sym time) m) tt is.0 is.1
    by c time (ends_own n live m) =
        let is = live_last cs s key n live in
        effect_within cs c key n (n ∷ []) (subst (λ t. Moves c key (record { number = n; key = key; touched = t } ∷ []) None (n ∷ [])) (sym time) m) (s.given key n is.0, tt) is.0 is.1
    by c time (begins_beside cold full m) =
        effect_begins cs c key [] (subst (λ t. Moves c key (record { number = begun_in cs + 1; key = key; touched = t } ∷ []) (Some (begun_in cs + 1)) []) (sym time) m) tt s (over c cold)
    by c time (evicts k cold place m) =
        effect_begins cs c key (k ∷ []) (subst (λ t. Moves c key (record { number = begun_in cs + 1; key = key; touched = t } ∷ []) (Some (begun_in cs + 1)) (k ∷ [])) (sym time) m)
        (head_given cs (evictable cs) k (all_filter (λ (a : Alive). a.number ≤ begun_in cs) (λ (a : Alive). held_in cs a == 0) (eras cs) (all_given cs s)) place, tt) s (over c cold)
    by c time (reopens_one n live m) =
        let is = live_last cs s key n live in
        effect_begins cs c key (n ∷ []) (subst (λ t. Moves c key (record { number = begun_in cs + 1; key = key; touched = t } ∷ []) (Some (begun_in cs + 1)) (n ∷ [])) (sym time) m)
        (s.given key n is.0, tt) s (λ l last. or_left (is_among (ended_by c) l) (has_ended l cs) (ap (λ e. is_among e l) m.ended_is ∙ subst (λ o. is_among (n ∷ []) o ≡ true) (some_same (sym is.0 ∙ last)) (here n)))

-- the call that ends idle eras
effect_idle : (settings : PlainSettings) (cs : List Call) (now : ℕ) → Lasts cs → Effect cs (expiry_of settings cs now)
effect_idle settings cs now s =
    effect_still cs (expiry_of settings cs now) _ (numbers_of (idles settings now cs)) (idle_kind settings cs now)
    (all_map (λ n. n ≤ begun_in cs) (λ (a : Alive). a.number) (idles settings now cs)
    (all_taken (λ (a : Alive). a.number ≤ begun_in cs) 2 (filter (λ a. nat_lt (a.touched + settings.idle) now) (eras cs))
    (all_filter (λ (a : Alive). a.number ≤ begun_in cs) (λ a. nat_lt (a.touched + settings.idle) now) (eras cs) (all_given cs s))))

pub effect_made : (settings : PlainSettings) (cs : List Call) (c : Call) → c ≡ made_of settings cs c → Lasts cs → Effect cs c
effect_made settings cs (expiry now ended) is s = subst (Effect cs) (sym is) (effect_idle settings cs now s)
effect_made settings cs (datagram now d o) is s = subst (Effect cs) (sym is) (effect_of settings cs now d s)
