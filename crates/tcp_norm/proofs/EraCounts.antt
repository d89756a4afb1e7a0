-- No more eras are live than the settings allow, and the idle ones are the first of them.
use Rattle.std.proofs.Common.{◌≢◌, List, [], ◌∷◌, Some, ap, ◌∙◌, ◌≡◌, ℕ, ◌+◌, ◌==◌, ◌<◌, ◌≤◌, not, Bool, true, false, cond, ◌++◌, length, filter, Option, None, refl, sym, subst, arith, ◌||◌, ◌&&◌, take, ap₂, nat_lt, append-nil, length-append}
use Rattle.std.proofs.lemmas.Bool.Decides.{nat_tests}
use Rattle.std.specs.List.{find, AllByRecursion}
use Rattle.std.proofs.lemmas.List.Elements.{recursion_from_All}
use Rattle.norm_settings.specs.SettingValues.{PlainSettings}
use Rattle.wire_base.specs.declared.address.FlowKey.{FlowKey}
use Rattle.ip_rules.specs.Datagrams.{Datagram}
use Rattle.wire_base.specs.Segments.{Written}
use Rattle.linked_table.specs.declared.table.Slot.{Slot}
use Rattle.linked_table.specs.EntryTable.{Entry, Wherever, first_slot, Pairwise}
use Rattle.retain_store.specs.Maps.{Store}
use Rattle.linked_table.proofs.Lists.{all_weaker, filter_all, filter_none}
use Rattle.tcp_norm.specs.Calls.{Call, Alive, eras, expiry, datagram, live, is_key, is_among, ended_by, begun_in, without, key_of, segments, numbers_of}
use Rattle.tcp_norm.specs.LiveEras.{AreMade, IsLast, LivesAre, made_of}
use Rattle.tcp_norm.specs.HeldOctets.{held_in}
use Rattle.tcp_norm.specs.RuleViews.{number_of, head_of, view_of, idle_at}
use Rattle.tcp_norm.specs.Outcomes.{call_of, expiry_of}
use Rattle.tcp_norm.specs.working.EraSteps.{one, first_old}
use Rattle.tcp_norm.specs.declared.key.Flow.{Flow}
use Rattle.tcp_norm.specs.declared.key.EraKey.{EraKey}
use Rattle.tcp_norm.specs.declared.state.TcpNorm.{TcpNorm}
use Rattle.tcp_norm.specs.TableAndStore.{HoldsFor, IsFor, IsTimely, StandsFor}
use Rattle.tcp_norm.specs.working.TableChanges.{Holds, ChangesTables}
use Rattle.tcp_norm.proofs.Lists.{fewer, pairs_weaker, found_is, number_same, number_other, everywhere, some_same}
use Rattle.tcp_norm.proofs.LiveEras.{Lasts, lasts_none, lasts_next, live_last, last_live, all_given}
use Rattle.tcp_norm.proofs.CallKinds.{effect_made, Moves, Kind, stays, goes_on, ends_own, begins_beside, evicts, reopens_one, kind}
use Rattle.tcp_norm.proofs.CallEffects.{without_none, lives_stay, lives_touch, lives_end, lives_begin, stands_next, relabel}

-- The live eras of calls that the rules make.

lives_are : (cs : List Call) → Lasts cs → LivesAre cs
lives_are cs s = record {
  live_is = λ key era. (live_last cs s key era, (λ p. last_live cs s key era p.0 p.1));
  each = s.each;
  keys_apart = s.keys;
  numbers_apart = pairs_weaker (IsLast cs) (λ (a b : Alive). a.key ≢ b.key) (λ (a b : Alive). a.number ≢ b.number)
      (λ a b la lb ne same. ne (s.once a.key b.key b.number (la.last ∙ ap Some same) lb.last)) (eras cs) s.each s.keys;
  in_order = s.order;
  given = all_given cs s;
}

pub lasts_made : (settings : PlainSettings) (cs : List Call) → AreMade settings cs → Lasts cs
lasts_made settings [] made = lasts_none
lasts_made settings (c ∷ cs) made =
    let s = lasts_made settings cs made.1 in
    lasts_next cs c (effect_made settings cs c made.0 s) s

pub lives_are_last : (settings : PlainSettings) (cs : List Call) → AreMade settings cs → LivesAre cs
lives_are_last settings cs made = lives_are cs (lasts_made settings cs made)

-- How many eras are live after a call.

-- one that is found goes
goes : (q : Alive → Bool) (n : ℕ) (xs : List Alive) → number_of (find q xs) ≡ Some n → length (without (n ∷ []) xs) < length xs
goes q n [] found = cc
goes q n (x ∷ xs) found = cases (q x) found (goes q n xs)
  where
    stays : Alive → Bool
    stays a = not (is_among (n ∷ []) a.number)

    kept : (b : Bool) → length (filter stays xs) < length xs → length (cond b (x ∷ filter stays xs) (filter stays xs)) < length (x ∷ xs)
    kept true lt = omega (arith, lt)
    kept false lt = omega (arith, lt)

    cases : (b : Bool) → number_of (cond b (Some x) (find q xs)) ≡ Some n → (number_of (find q xs) ≡ Some n → length (filter stays xs) < length xs) → length (filter stays (x ∷ xs)) < length (x ∷ xs)
    cases true is rest =
        let same : x.number ≡ n = cc in
        let out : stays x ≡ false = rw same (rw (number_same n) refl) in
        let le = fewer stays xs in
        rw out (omega (arith, le))
    cases false is rest = kept (stays x) (rest is)

-- the first that passes is the one that is found
head_found : (q : Alive → Bool) (xs : List Alive) → head_of (filter q xs) ≡ find q xs
head_found q [] = refl
head_found q (x ∷ xs) = cases (q x) (head_found q xs)
  where
    cases : (b : Bool) → head_of (filter q xs) ≡ find q xs → head_of (cond b (x ∷ filter q xs) (filter q xs)) ≡ cond b (Some x) (find q xs)
    cases true rest = refl
    cases false rest = rest

one_more : (xs : List Alive) (a : Alive) → length (xs ++ a ∷ []) ≡ length xs + 1
one_more xs a = omega (arith, length-append xs (a ∷ []))

-- an era replaces another
in_place : (xs ys : List Alive) (n : ℕ) (a : Alive) → ys ≡ without (n ∷ []) xs ++ a ∷ [] → length (without (n ∷ []) xs) < length xs → length ys ≤ length xs
in_place xs ys n a is lt = let l = ap length is in let m = one_more (without (n ∷ []) xs) a in omega (arith, l, m, lt)

found_given : (cs : List Call) → Lasts cs → (q : Alive → Bool) (n : ℕ) → number_of (find q (eras cs)) ≡ Some n → n ≤ begun_in cs
found_given cs s q n is = cases (find q (eras cs)) refl is
  where
    cases : (l : Option Alive) → find q (eras cs) ≡ l → number_of l ≡ Some n → n ≤ begun_in cs
    cases None e is = cc
    cases (Some a) e is =
        let number : a.number ≡ n = cc in
        subst (λ m. m ≤ begun_in cs) number (found_is (λ (b : Alive). b.number ≤ begun_in cs) q (eras cs) a (all_given cs s) e).0

count_of : (settings : PlainSettings) (cs : List Call) (now : ℕ) (d : Datagram) → Lasts cs → length (eras cs) ≤ settings.flows → length (eras (call_of settings cs now d ∷ cs)) ≤ settings.flows
count_of settings cs now d s le = by (call_of settings cs now d) (kind settings cs now d)
  where
    key : FlowKey
    key = key_of d

    other : (k : ℕ) → k ≤ begun_in cs → (l : ℕ) → Some k ≡ Some l → l ≢ begun_in cs + 1
    other k given l is same = let e : k ≡ l = cc in absurd (omega (arith, e, given, same))

    begun : (c : Call) (out : Option ℕ) → ((l : ℕ) → out ≡ Some l → l ≢ begun_in cs + 1)
        → Moves c key (record { number = begun_in cs + 1; key = key; touched = now } ∷ []) (Some (begun_in cs + 1)) (one out)
        → eras (c ∷ cs) ≡ without (one out) (eras cs) ++ record { number = begun_in cs + 1; key = key; touched = now } ∷ []
    begun c out others m =
        lives_begin c cs (record { number = begun_in cs + 1; key = key; touched = now }) (begun_in cs) out (all_given cs s) (omega arith) others m.ended_is m.touched_is

    by : (c : Call) → Kind (view_of settings cs d) c key now → length (eras (c ∷ cs)) ≤ settings.flows
    by c (stays m) = let is = ap length (lives_stay c cs m.ended_is m.touched_is) in omega (arith, is, le)
    by c (goes_on n live m) =
        let less = in_place (eras cs) (eras (c ∷ cs)) n (record { number = n; key = key; touched = now })
        (lives_touch c cs (record { number = n; key = key; touched = now }) m.ended_is m.touched_is) (goes (λ (a : Alive). is_key a.key key) n (eras cs) live) in
        omega (arith, less, le)
    by c (ends_own n live m) =
        let is = ap length (lives_end c cs (record { number = n; key = key; touched = now }) m.ended_is m.touched_is) in
        let less = fewer (λ (a : Alive). not (is_among (n ∷ []) a.number)) (eras cs) in
        omega (arith, is, less, le)
    by c (begins_beside cold full m) =
        let is = ap length (begun c None (λ l e. cc) m ∙ ap (λ l. l ++ record { number = begun_in cs + 1; key = key; touched = now } ∷ []) (without_none (eras cs))) in
        let more = one_more (eras cs) (record { number = begun_in cs + 1; key = key; touched = now }) in
        let room : length (eras cs) < settings.flows = grind (arith, nat_tests, full) in
        omega (arith, is, more, room)
    by c (evicts k cold place m) =
        let found : number_of (find (λ (a : Alive). held_in cs a == 0) (eras cs)) ≡ Some k = ap number_of (sym (head_found (λ (a : Alive). held_in cs a == 0) (eras cs))) ∙ place in
        let less = in_place (eras cs) (eras (c ∷ cs)) k (record { number = begun_in cs + 1; key = key; touched = now })
        (begun c (Some k) (other k (found_given cs s (λ (a : Alive). held_in cs a == 0) k found)) m) (goes (λ (a : Alive). held_in cs a == 0) k (eras cs) found) in
        omega (arith, less, le)
    by c (reopens_one n live m) =
        let less = in_place (eras cs) (eras (c ∷ cs)) n (record { number = begun_in cs + 1; key = key; touched = now })
        (begun c (Some n) (other n (found_given cs s (λ (a : Alive). is_key a.key key) n live)) m) (goes (λ (a : Alive). is_key a.key key) n (eras cs) live) in
        omega (arith, less, le)

count_idle : (settings : PlainSettings) (cs : List Call) (now : ℕ) → length (eras cs) ≤ settings.flows → length (eras (expiry_of settings cs now ∷ cs)) ≤ settings.flows
count_idle settings cs now le =
    let less = fewer (λ (a : Alive). not (is_among (ended_by (expiry_of settings cs now)) a.number)) (without [] (eras cs) ++ []) in
    let is = ap length (append-nil (without [] (eras cs)) ∙ without_none (eras cs)) in
    omega (arith, less, is, le)

count_next : (settings : PlainSettings) (cs : List Call) (c : Call) → c ≡ made_of settings cs c → Lasts cs → length (eras cs) ≤ settings.flows → length (eras (c ∷ cs)) ≤ settings.flows
count_next settings cs (expiry now ended) is s le = subst (λ c. length (eras (c ∷ cs)) ≤ settings.flows) (sym is) (count_idle settings cs now le)
count_next settings cs (datagram now d o) is s le = subst (λ c. length (eras (c ∷ cs)) ≤ settings.flows) (sym is) (count_of settings cs now d s le)

pub flows_are_bounded : (settings : PlainSettings) (cs : List Call) → AreMade settings cs → length (eras cs) ≤ settings.flows
flows_are_bounded settings [] made = omega arith
flows_are_bounded settings (c ∷ cs) made = count_next settings cs c made.0 (lasts_made settings cs made.1) (flows_are_bounded settings cs made.1)

-- Idle eras are a front of the live ones, since these rise by the time at which they were touched.

-- the oldest entry is the first of the live eras
pub oldest_first : (idle now : ℕ) (lives : List Alive) (segs : ℕ → List Written) (begun : ℕ) (entries : List (Entry EraKey Flow)) (store : Store) (slot : Slot) (flow : Flow)
    → HoldsFor lives segs begun entries store → Some slot ≡ first_slot entries → Wherever entries slot (λ e. e.value ≡ flow)
    → first_old idle now lives ≡ cond (nat_lt (flow.touched + idle) now) (Some flow.number) None
oldest_first idle now lives segs begun [] store slot flow h first valued = cc
oldest_first idle now lives segs begun (e ∷ es) store slot flow h first valued =
    let named : e.slot ≡ slot = cc in
    let is : e.value ≡ flow = (recursion_from_All (λ (f : Entry EraKey Flow). f.slot ≡ slot → f.value ≡ flow) (e ∷ es) valued).0 named in
    ap (first_old idle now) (sym h.eras_are) ∙ ap (λ (f : Flow). cond (nat_lt (f.touched + idle) now) (Some f.number) None) is

pub oldest_none : (idle now : ℕ) (lives : List Alive) (segs : ℕ → List Written) (begun : ℕ) (entries : List (Entry EraKey Flow)) (store : Store)
    → HoldsFor lives segs begun entries store → None ≡ first_slot entries → first_old idle now lives ≡ None
oldest_none idle now lives segs begun [] store h first = ap (first_old idle now) (sym h.eras_are)
oldest_none idle now lives segs begun (e ∷ es) store h first = cc

-- an era is idle
abbrev old : (idle now : ℕ) → Alive → Bool
old idle now a = nat_lt (a.touched + idle) now

none_later : (idle now t : ℕ) (xs : List Alive) → nat_lt (t + idle) now ≡ false → AllByRecursion (λ (a : Alive). t ≤ a.touched) xs → filter (old idle now) xs ≡ []
none_later idle now t xs e above =
    filter_none (old idle now) xs (all_weaker (λ (a : Alive). t ≤ a.touched) (λ (a : Alive). old idle now a ≡ false) (λ a le. later a.touched le) xs above)
  where
    later : (u : ℕ) → t ≤ u → nat_lt (u + idle) now ≡ false
    later u le = grind (arith, nat_tests, e, le)

-- where the first is not, none is
pub idle_nothing : (idle now : ℕ) (xs : List Alive) → Pairwise (λ (a b : Alive). a.touched ≤ b.touched) xs → first_old idle now xs ≡ None → filter (old idle now) xs ≡ []
idle_nothing idle now [] rises none = refl
idle_nothing idle now (x ∷ xs) rises none = cases (old idle now x) refl
  where
    cases : (b : Bool) → old idle now x ≡ b → cond b (x ∷ filter (old idle now) xs) (filter (old idle now) xs) ≡ []
    cases true e = cc (ap (λ b. cond b (Some x.number) None) (sym e) ∙ none)
    cases false e = none_later idle now x.touched xs e rises.0

-- where the first is, it is the first of those that are, and the others are those without it
pub record IdleFront (idle now n : ℕ) (xs : List Alive) : Type 0 where
  pub first : Alive
  pub rest : List Alive
  pub whole : xs ≡ first ∷ rest
  pub number : first.number ≡ n
  pub idles : filter (old idle now) xs ≡ first ∷ filter (old idle now) rest
  pub left : without (n ∷ []) xs ≡ rest
  pub rises : Pairwise (λ (a b : Alive). a.touched ≤ b.touched) rest

pub idle_front : (idle now n : ℕ) (xs : List Alive) → Pairwise (λ (a b : Alive). a.touched ≤ b.touched) xs → Pairwise (λ (a b : Alive). a.number ≢ b.number) xs
    → first_old idle now xs ≡ Some n → IdleFront idle now n xs
idle_front idle now n [] rises apart some = cc
idle_front idle now n (x ∷ xs) rises apart some = cases (old idle now x) refl
  where
    cases : (b : Bool) → old idle now x ≡ b → IdleFront idle now n (x ∷ xs)
    cases false e = cc (ap (λ b. cond b (Some x.number) None) (sym e) ∙ some)
    cases true e =
        let number : x.number ≡ n = some_same (ap (λ b. cond b (Some x.number) None) (sym e) ∙ some) in
        let others : without (n ∷ []) xs ≡ xs =
        filter_all (λ (a : Alive). not (is_among (n ∷ []) a.number)) xs (all_weaker (λ (a : Alive). x.number ≢ a.number) (λ (a : Alive). not (is_among (n ∷ []) a.number) ≡ true)
        (λ a ne. rw (number_other n a.number (λ same. ne (number ∙ same))) refl) xs apart.0) in
        record {
          first = x;
          rest = xs;
          whole = refl;
          number = number;
          idles = ap (λ b. cond b (x ∷ filter (old idle now) xs) (filter (old idle now) xs)) e;
          left = rw number (rw (number_same n) others);
          rises = rises.1;
        }

-- both left out
without_step : (x : Alive) (xs ys : List Alive) (p q r : Alive → Bool) (a b : Bool) → p x ≡ a → q x ≡ b → r x ≡ (a && b) → filter q (filter p xs) ≡ filter r xs
    → filter q (cond a (x ∷ filter p xs) (filter p xs)) ≡ cond (a && b) (x ∷ filter r xs) (filter r xs)
without_step x xs ys p q r true true pa qb rc same = ap (λ b. cond b (x ∷ filter q (filter p xs)) (filter q (filter p xs))) qb ∙ ap (λ l. x ∷ l) same
without_step x xs ys p q r true false pa qb rc same = ap (λ b. cond b (x ∷ filter q (filter p xs)) (filter q (filter p xs))) qb ∙ same
without_step x xs ys p q r false b pa qb rc same = same

among_two : (n m k : ℕ) → not (is_among (n ∷ m ∷ []) k) ≡ (not (is_among (n ∷ []) k) && not (is_among (m ∷ []) k))
among_two n m k = split (n == k) (m == k)
  where
    split : (a b : Bool) → not (a || (b || false)) ≡ (not (a || false) && not (b || false))
    split true b = refl
    split false true = refl
    split false false = refl

pub without_two : (n m : ℕ) (xs : List Alive) → without (m ∷ []) (without (n ∷ []) xs) ≡ without (n ∷ m ∷ []) xs
without_two n m [] = refl
without_two n m (x ∷ xs) =
    let p : Alive → Bool = λ a. not (is_among (n ∷ []) a.number) in
    let q : Alive → Bool = λ a. not (is_among (m ∷ []) a.number) in
    let r : Alive → Bool = λ a. not (is_among (n ∷ m ∷ []) a.number) in
    without_step x xs [] p q r (p x) (q x) refl refl (among_two n m x.number) (without_two n m xs)
    ∙ ap (λ b. cond b (x ∷ filter r xs) (filter r xs)) (sym (among_two n m x.number))

-- what was kept represents the calls with an expiry that ended these
pub expired : (settings : PlainSettings) (was counted new : TcpNorm) (cs : List Call) (now begun : ℕ) (numbers : List ℕ) (lives : List Alive) → StandsFor settings was cs → ChangesTables counted new begun → begun ≡ was.begun → IsFor settings counted
    → counted.calls ≡ was.calls → counted.latest ≡ now → was.latest ≤ now → without numbers (eras cs) ≡ lives → Holds new lives (λ m. segments m cs) → StandsFor settings new (expiry now numbers ∷ cs)
expired settings was counted new cs now begun numbers lives st changes same_begun opened calls latest later left holds =
    let c : Call = expiry now numbers in
    let same : (m : ℕ) → segments m (c ∷ cs) ≡ segments m cs = λ m. append-nil (segments m cs) in
    stands_next settings was new cs c lives st (changes.opened settings opened)
    (relabel lives (λ m. segments m cs) (λ m. segments m (c ∷ cs)) new.begun new.table.entries new.store (everywhere (λ (a : Alive). segments a.number (c ∷ cs) ≡ segments a.number cs) lives (λ a. same a.number)) (λ m above. same m ∙ holds.given.fresh m above) holds)
    (ap (without numbers) (append-nil (without [] (eras cs)) ∙ without_none (eras cs)) ∙ left)
    (omega (arith, changes.begun_is, same_begun)) (changes.latest_is ∙ latest) later (omega (arith, changes.calls_are, calls))

-- the eras that end: none, one or two
idles_at : (settings : PlainSettings) (now idle : ℕ) (cs : List Call) → idle ≡ settings.idle → idle_at settings now cs ≡ numbers_of (take 2 (filter (old idle now) (eras cs)))
idles_at settings now idle cs same = ap (λ i. numbers_of (take 2 (filter (old i now) (eras cs)))) (sym same)

pub idle_zero : (settings : PlainSettings) (now idle t : ℕ) (cs : List Call) → idle ≡ settings.idle → IsTimely t (eras cs) → None ≡ first_old idle now (eras cs) → idle_at settings now cs ≡ []
idle_zero settings now idle t cs same timely none =
    idles_at settings now idle cs same ∙ ap (λ l. numbers_of (take 2 l)) (idle_nothing idle now (eras cs) timely.rises (sym none))

pub idle_one : (settings : PlainSettings) (now idle t n : ℕ) (cs : List Call) → idle ≡ settings.idle → IsTimely t (eras cs) → Pairwise (λ (a b : Alive). a.number ≢ b.number) (eras cs)
    → Some n ≡ first_old idle now (eras cs) → None ≡ first_old idle now (without (n ∷ []) (eras cs)) → idle_at settings now cs ≡ n ∷ []
idle_one settings now idle t n cs same timely apart first second =
    let f = idle_front idle now n (eras cs) timely.rises apart (sym first) in
    let nothing = idle_nothing idle now f.rest f.rises (ap (first_old idle now) (sym f.left) ∙ sym second) in
    idles_at settings now idle cs same ∙ (ap (λ l. numbers_of (take 2 l)) (f.idles ∙ ap (λ l. f.first ∷ l) nothing) ∙ ap (λ k. k ∷ []) f.number)

pub idle_two : (settings : PlainSettings) (now idle t n m : ℕ) (cs : List Call) → idle ≡ settings.idle → IsTimely t (eras cs) → Pairwise (λ (a b : Alive). a.number ≢ b.number) (eras cs)
    → Some n ≡ first_old idle now (eras cs) → Some m ≡ first_old idle now (without (n ∷ []) (eras cs)) → idle_at settings now cs ≡ n ∷ m ∷ []
idle_two settings now idle t n m cs same timely apart first second =
    let f = idle_front idle now n (eras cs) timely.rises apart (sym first) in
    let g = idle_front idle now m f.rest f.rises (subst (Pairwise (λ (a b : Alive). a.number ≢ b.number)) f.whole apart).1 (ap (first_old idle now) (sym f.left) ∙ sym second) in
    idles_at settings now idle cs same ∙ (ap (λ l. numbers_of (take 2 l)) (f.idles ∙ ap (λ l. f.first ∷ l) g.idles) ∙ ap₂ (λ j k. j ∷ k ∷ []) f.number g.number)

pub if_is : (b : Bool) (n : ℕ) → b ≡ true → cond b (Some n) None ≡ Some n
if_is b n e = ap (λ c. cond c (Some n) None) e

pub if_is_not : (b : Bool) (n : ℕ) → b ≡ false → cond b (Some n) None ≡ None
if_is_not b n e = ap (λ c. cond c (Some n) None) e
