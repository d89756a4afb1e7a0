-- A four-tuple's live era is the one last begun for it and not ended, and the one that the table
-- finds.
use Rattle.std.proofs.Common.{◌≡◌, ◌≢◌, true, false, is_some, List, ◌∷◌, map, Option, Some, None, refl, sym, ap, ◌∙◌, arith, ℕ, ◌+◌, ◌==◌, ◌≤◌, ◌||◌, not, Bool, cond, length, ◌<◌, [], ◌++◌, filter, subst, IfSome, IsNone, ◌↔◌}
use Rattle.std.specs.List.{AllPairs, find, AllByRecursion}
use Rattle.std.proofs.lemmas.List.Elements.{recursion_from_All, filter-append}
use Rattle.std.proofs.lemmas.List.{map-append}
use Rattle.std.proofs.lemmas.Bool.{false≢true, not-true, not_from_false, or_from, or_parts, true_from_ne_false}
use Rattle.std.specs.Option.{option_or}
use Rattle.wire_base.specs.declared.address.FlowKey.{FlowKey}
use Rattle.linked_table.specs.declared.table.Slot.{Slot}
use Rattle.linked_table.specs.EntryTable.{Entry, IsIn, HasNone, SplitAt, Wherever, Pairwise}
use Rattle.linked_table.proofs.Entries.{split_at, wherever}
use Rattle.linked_table.proofs.Lists.{all_weaker, all_join, all_before, all_after}
use Rattle.ip_rules.proofs.Lists.{none_found}
use Rattle.tcp_norm.specs.declared.key.Flow.{Flow}
use Rattle.tcp_norm.specs.declared.key.EraKey.{EraKey}
use Rattle.tcp_norm.specs.Calls.{is_key, Call, Alive, eras, is_among, ended_by, begun_in, begins_by, touched_by, time_of, numbers_of, live}
use Rattle.tcp_norm.specs.TableAndStore.{alive_in}
use Rattle.tcp_norm.specs.LiveEras.{begun_for, last_begun, has_ended, writes_in, last_touch, touch_place, IsLast}
use Rattle.tcp_norm.specs.RuleViews.{number_of}
use Rattle.tcp_norm.proofs.Lists.{all_map, find_split, find_none, some_same, all_filter, all_passed, all_unfiltered, all_two, pairs_passed, pairs_join, pairs_weaker, pairs_alone, found_is, number_other}

-- What the table finds of a four-tuple is its live era.

-- What the table finds is what the calls say.

pub key_same : (a : FlowKey) → is_key a a ≡ true
key_same a = grind arith

pub key_is : (a b : FlowKey) → is_key a b ≡ true → a ≡ b
key_is a b e = grind arith

pub key_other : (a b : FlowKey) → a ≢ b → is_key a b ≡ false
key_other a b ne = elim (is_key a b) as (λ t. is_key a b ≡ t → t ≡ false) [
  | true ↦ λ e. absurd (ne (key_is a b e))
  | false ↦ λ e. refl
] refl

-- the live era of its key is that of the entry
pub live_here : (entries : List (Entry EraKey Flow)) (eras : List Alive) (slot : Slot) (key : FlowKey) (a : SplitAt entries slot) → map alive_in entries ≡ eras
    → a.here.key.0 ≡ key → find (λ (v : Alive). is_key v.key key) eras ≡ Some (alive_in a.here)
live_here entries eras slot key a shown same =
    let mk : FlowKey → EraKey = λ k. record { 0 = k } in
    ap (find (λ (v : Alive). is_key v.key key)) (sym shown ∙ (ap (map alive_in) a.splits ∙ map-append alive_in a.before (a.here ∷ a.after)))
    ∙ find_split (λ (v : Alive). is_key v.key key) (map alive_in a.before) (alive_in a.here) (map alive_in a.after)
    (all_map (λ (v : Alive). is_key v.key key ≡ false) alive_in a.before
    (all_weaker _ _ (λ e ne. key_other e.key.0 key (λ h. ne (ap mk (h ∙ sym same)))) a.before a.keys_before))
    (ap (λ k. is_key k key) same ∙ key_same key)

-- and none is live where no entry has the key
pub live_nowhere : (entries : List (Entry EraKey Flow)) (eras : List Alive) (key : FlowKey) → map alive_in entries ≡ eras
    → HasNone entries (record { 0 = key }) → find (λ (v : Alive). is_key v.key key) eras ≡ None
live_nowhere entries eras key shown none =
    let mk : FlowKey → EraKey = λ k. record { 0 = k } in
    ap (find (λ (v : Alive). is_key v.key key)) (sym shown)
    ∙ find_none (λ (v : Alive). is_key v.key key) (map alive_in entries)
    (all_map (λ (v : Alive). is_key v.key key ≡ false) alive_in entries
    (all_weaker _ _ (λ e ne. key_other e.key.0 key (λ h. ne (ap mk h))) entries
    (recursion_from_All (λ (e : Entry EraKey Flow). e.key ≢ record { 0 = key }) entries none)))

-- whether the table finds an entry is whether an era is live
pub live_is : (entries : List (Entry EraKey Flow)) (eras : List Alive) (key : FlowKey) (r : Option Slot)
    → AllPairs (λ e f. e.slot ≢ f.slot) entries → AllPairs (λ e f. e.key ≢ f.key) entries → map alive_in entries ≡ eras
    → IfSome r (IsIn entries) → IfSome r (λ slot. Wherever entries slot (λ e. e.key ≡ record { 0 = key })) → (IsNone r ↔ HasNone entries (record { 0 = key }))
    → is_some r ≡ is_some (find (λ (v : Alive). is_key v.key key) eras)
live_is entries eras key None slots keys shown inside same none = ap is_some (sym (live_nowhere entries eras key shown (none.0 refl)))
live_is entries eras key (Some slot) slots keys shown inside same none =
    let a = split_at entries slot inside slots keys in
    let unwrapped : EraKey → FlowKey = λ k. k.0 in
    let here = wherever (λ (e : Entry EraKey Flow). e.key ≡ record { 0 = key }) entries slot a same in
    ap is_some (sym (live_here entries eras slot key a shown (ap unwrapped here)))

-- Each live era is the one last begun for its four-tuple and not ended.

-- Each live era is the one last begun for its four-tuple and not ended: a call keeps this true, by
-- what it does to the eras.

-- What a call does to the eras. Those that end were given. One that it begins is the next, it
-- writes in it, and no live era of its four-tuple is left. One that it writes in is the one last
-- begun for its four-tuple, and continues.
pub record Effect (cs : List Call) (c : Call) : Type 0 where
  pub ended_given : (n : ℕ) → is_among (ended_by c) n ≡ true → n ≤ begun_in cs
  pub begun_next : (k : FlowKey) (n : ℕ) → begun_for k c ≡ Some n → n ≡ begun_in cs + 1
  pub begun_more : (k : FlowKey) (n : ℕ) → begun_for k c ≡ Some n → begins_by c ≡ 1
  pub begun_once : (j k : FlowKey) (n m : ℕ) → begun_for j c ≡ Some n → begun_for k c ≡ Some m → j ≡ k
  pub begun_touched : (k : FlowKey) (n : ℕ) → begun_for k c ≡ Some n → is_among (numbers_of (touched_by c)) n ≡ true
  pub replaced : (k : FlowKey) (n m : ℕ) → begun_for k c ≡ Some n → last_begun k cs ≡ Some m → has_ended m (c ∷ cs) ≡ true
  pub alone : Pairwise (λ a b. ⊥) (touched_by c)
  pub last : AllByRecursion (λ a. last_begun a.key (c ∷ cs) ≡ Some a.number) (touched_by c)
  pub now : AllByRecursion (λ a. time_of c ≡ a.touched) (touched_by c)
  pub goes_on : AllByRecursion (λ a. has_ended a.number cs ≡ false) (touched_by c)
  pub writes : (n : ℕ) → writes_in n c ≡ is_among (numbers_of (touched_by c)) n
  pub among : AllByRecursion (λ a. is_among (numbers_of (touched_by c)) a.number ≡ true) (touched_by c)

-- What holds for the calls so far: numbers are given once, in their order, only given ones end, and
-- the live eras are those last begun and not ended.
pub record Lasts (cs : List Call) : Type 0 where
  pub given : (k : FlowKey) (n : ℕ) → last_begun k cs ≡ Some n → n ≤ begun_in cs
  pub once : (j k : FlowKey) (n : ℕ) → last_begun j cs ≡ Some n → last_begun k cs ≡ Some n → j ≡ k
  pub ended : (n : ℕ) → has_ended n cs ≡ true → n ≤ begun_in cs
  pub each : AllByRecursion (IsLast cs) (eras cs)
  pub keys : Pairwise (λ a b. a.key ≢ b.key) (eras cs)
  pub order : Pairwise (λ a b. touch_place a.number cs < touch_place b.number cs) (eras cs)
  pub whole : (k : FlowKey) (n : ℕ) → AllByRecursion (λ a. a.key ≢ k) (eras cs) → last_begun k cs ≡ Some n → has_ended n cs ≡ true

pub lasts_none : Lasts []
lasts_none = record {
  given = λ k n e. cc;
  once = λ j k n e f. cc;
  ended = λ n e. absurd (false≢true e);
  each = tt;
  keys = tt;
  order = tt;
  whole = λ k n all e. cc;
}

-- an era last begun was begun by the call, or before
data Began (cs : List Call) (c : Call) (k : FlowKey) (n : ℕ) : Type 0 where
  here : begun_for k c ≡ Some n → Began cs c k n
  before : begun_for k c ≡ None → last_begun k cs ≡ Some n → Began cs c k n

began : (cs : List Call) (c : Call) (k : FlowKey) (n : ℕ) → last_begun k (c ∷ cs) ≡ Some n → Began cs c k n
began cs c k n e = cases (begun_for k c) refl e
  where
    cases : (b : Option ℕ) → begun_for k c ≡ b → option_or b (last_begun k cs) ≡ Some n → Began cs c k n
    cases (Some m) is e = here (is ∙ e)
    cases None is e = before is e

last_still : (cs : List Call) (c : Call) (k : FlowKey) → begun_for k c ≡ None → last_begun k (c ∷ cs) ≡ last_begun k cs
last_still cs c k none = ap (λ b. option_or b (last_begun k cs)) none

given_next : (cs : List Call) (c : Call) → Effect cs c → Lasts cs → (k : FlowKey) (n : ℕ) → last_begun k (c ∷ cs) ≡ Some n → n ≤ begun_in (c ∷ cs)
given_next cs c f s k n e = cases (began cs c k n e)
  where
    cases : Began cs c k n → n ≤ begun_in cs + begins_by c
    cases (here is) = let a = f.begun_next k n is in let b = f.begun_more k n is in omega (arith, a, b)
    cases (before none is) = let a = s.given k n is in omega (arith, a)

once_next : (cs : List Call) (c : Call) → Effect cs c → Lasts cs → (j k : FlowKey) (n : ℕ) → last_begun j (c ∷ cs) ≡ Some n → last_begun k (c ∷ cs) ≡ Some n → j ≡ k
once_next cs c f s j k n e g = cases (began cs c j n e) (began cs c k n g)
  where
    cases : Began cs c j n → Began cs c k n → j ≡ k
    cases (here a) (here b) = f.begun_once j k n n a b
    cases (here a) (before none b) = let x = f.begun_next j n a in let y = s.given k n b in absurd (omega (arith, x, y))
    cases (before none a) (here b) = let x = f.begun_next k n b in let y = s.given j n a in absurd (omega (arith, x, y))
    cases (before _ a) (before _ b) = s.once j k n a b

ended_next : (cs : List Call) (c : Call) → Effect cs c → Lasts cs → (n : ℕ) → has_ended n (c ∷ cs) ≡ true → n ≤ begun_in (c ∷ cs)
ended_next cs c f s n e = cases (is_among (ended_by c) n) refl e
  where
    cases : (b : Bool) → is_among (ended_by c) n ≡ b → (b || has_ended n cs) ≡ true → n ≤ begun_in cs + begins_by c
    cases true is e = let a = f.ended_given n is in omega (arith, a)
    cases false is e = let a = s.ended n e in omega (arith, a)

-- the call does not write in the era; it does not end it
abbrev untouched : Call → Alive → Bool
untouched c a = not (is_among (numbers_of (touched_by c)) a.number)

abbrev unended : Call → Alive → Bool
unended c a = not (is_among (ended_by c) a.number)

-- an era that goes on through the call
goes_through : (cs : List Call) (c : Call) (n : ℕ) → not (is_among (ended_by c) n) ≡ true → has_ended n cs ≡ false → has_ended n (c ∷ cs) ≡ false
goes_through cs c n stays on = or_from (is_among (ended_by c) n) (has_ended n cs) (not-true (is_among (ended_by c) n) stays) on

-- the live eras are those that were and are left, and that in which the call writes
abbrev olds : List Call → Call → List Alive
olds cs c = filter (unended c) (filter (untouched c) (eras cs))

abbrev news : Call → List Alive
news c = filter (unended c) (touched_by c)

eras_next : (cs : List Call) (c : Call) → eras (c ∷ cs) ≡ olds cs c ++ news c
eras_next cs c = filter-append (unended c) (filter (untouched c) (eras cs)) (touched_by c)

-- one that was
one_old : (cs : List Call) (c : Call) → Effect cs c → (a : Alive) → IsLast cs a → untouched c a ≡ true → unended c a ≡ true → IsLast (c ∷ cs) a
one_old cs c f a is out stays = record {
  last = last (begun_for a.key c) refl;
  goes_on = on;
  touched_is = ap (λ b. cond b (Some (time_of c)) (last_touch a.number cs)) (f.writes a.number ∙ not-true (is_among (numbers_of (touched_by c)) a.number) out) ∙ is.touched_is;
}
  where
    on : has_ended a.number (c ∷ cs) ≡ false
    on = goes_through cs c a.number stays is.goes_on

    last : (b : Option ℕ) → begun_for a.key c ≡ b → last_begun a.key (c ∷ cs) ≡ Some a.number
    last None e = last_still cs c a.key e ∙ is.last
    last (Some n) e = absurd (false≢true (sym on ∙ f.replaced a.key n a.number e is.last))

-- those that were are still the last, and the call does not write in them
abbrev Still : List Call → Call → Alive → Type 0
Still cs c a = IsLast (c ∷ cs) a × (is_among (numbers_of (touched_by c)) a.number ≡ false)

olds_last : (cs : List Call) (c : Call) → Effect cs c → Lasts cs → AllByRecursion (Still cs c) (olds cs c)
olds_last cs c f s =
    all_passed (Still cs c) (unended c) (filter (untouched c) (eras cs))
    (all_passed (λ a. unended c a ≡ true → Still cs c a) (untouched c) (eras cs)
    (all_weaker (IsLast cs) (λ a. untouched c a ≡ true → unended c a ≡ true → Still cs c a)
    (λ a is out stays. (one_old cs c f a is out stays, not-true (is_among (numbers_of (touched_by c)) a.number) out)) (eras cs) s.each))

-- that in which it writes
news_last : (cs : List Call) (c : Call) → Effect cs c → AllByRecursion (IsLast (c ∷ cs)) (news c)
news_last cs c f = all_passed (IsLast (c ∷ cs)) (unended c) (touched_by c) (each (touched_by c) f.last f.now f.goes_on f.among)
  where
    each : (ts : List Alive) → AllByRecursion (λ a. last_begun a.key (c ∷ cs) ≡ Some a.number) ts → AllByRecursion (λ a. time_of c ≡ a.touched) ts
        → AllByRecursion (λ a. has_ended a.number cs ≡ false) ts → AllByRecursion (λ a. is_among (numbers_of (touched_by c)) a.number ≡ true) ts
        → AllByRecursion (λ a. unended c a ≡ true → IsLast (c ∷ cs) a) ts
    each [] last now on among = tt
    each (t ∷ ts) last now on among = (
      (λ stays. record {
        last = last.0;
        goes_on = goes_through cs c t.number stays on.0;
        touched_is = ap (λ b. cond b (Some (time_of c)) (last_touch t.number cs)) (f.writes t.number ∙ among.0) ∙ ap Some now.0;
      }),
      each ts last.1 now.1 on.1 among.1,
    )

news_among : (c : Call) → AllByRecursion (λ a. is_among (numbers_of (touched_by c)) a.number ≡ true) (touched_by c) → AllByRecursion (λ a. is_among (numbers_of (touched_by c)) a.number ≡ true) (news c)
news_among c all = all_filter (λ (a : Alive). is_among (numbers_of (touched_by c)) a.number ≡ true) (unended c) (touched_by c) all

-- an era that was has another four-tuple than one in which the call writes
apart : (cs : List Call) (c : Call) (a t : Alive) → Still cs c a → IsLast (c ∷ cs) t → is_among (numbers_of (touched_by c)) t.number ≡ true → a.key ≢ t.key
apart cs c a t still new among same =
    let number : a.number ≡ t.number = some_same (sym still.0.last ∙ (ap (λ k. last_begun k (c ∷ cs)) same ∙ new.last)) in
    false≢true (sym still.1 ∙ (ap (is_among (numbers_of (touched_by c))) number ∙ among))

keys_next : (cs : List Call) (c : Call) → Effect cs c → Lasts cs → Pairwise (λ a b. a.key ≢ b.key) (olds cs c ++ news c)
keys_next cs c f s =
    pairs_join (λ (a b : Alive). a.key ≢ b.key) (olds cs c) (news c)
    (pairs_passed (λ (a b : Alive). a.key ≢ b.key) (unended c) (filter (untouched c) (eras cs)) (pairs_passed (λ (a b : Alive). a.key ≢ b.key) (untouched c) (eras cs) s.keys))
    (pairs_passed (λ (a b : Alive). a.key ≢ b.key) (unended c) (touched_by c) (pairs_alone (λ (a b : Alive). a.key ≢ b.key) (touched_by c) f.alone))
    (all_weaker (Still cs c) (λ a. AllByRecursion (λ t. a.key ≢ t.key) (news c))
    (λ a still. all_two (IsLast (c ∷ cs)) (λ t. is_among (numbers_of (touched_by c)) t.number ≡ true) (λ t. a.key ≢ t.key) (λ t new among. apart cs c a t still new among) (news c) (news_last cs c f) (news_among c f.among))
    (olds cs c) (olds_last cs c f s))

-- no position is past the last call
place_within : (cs : List Call) (n : ℕ) → touch_place n cs ≤ length cs
place_within [] n = omega arith
place_within (c ∷ cs) n = cases (writes_in n c) (place_within cs n)
  where
    cases : (b : Bool) → touch_place n cs ≤ length cs → cond b (length cs + 1) (touch_place n cs) ≤ length (c ∷ cs)
    cases true le = omega arith
    cases false le = omega (arith, le)

-- the position of an era in which the call does not write, and of one in which it does
place_same : (cs : List Call) (c : Call) → Effect cs c → (n : ℕ) → is_among (numbers_of (touched_by c)) n ≡ false → touch_place n (c ∷ cs) ≡ touch_place n cs
place_same cs c f n out = ap (λ b. cond b (length cs + 1) (touch_place n cs)) (f.writes n ∙ out)

place_new : (cs : List Call) (c : Call) → Effect cs c → (n : ℕ) → is_among (numbers_of (touched_by c)) n ≡ true → touch_place n (c ∷ cs) ≡ length cs + 1
place_new cs c f n among = ap (λ b. cond b (length cs + 1) (touch_place n cs)) (f.writes n ∙ among)

-- one is before the other
abbrev Before : List Call → Alive → Alive → Type 0
Before cs a b = touch_place a.number cs < touch_place b.number cs

order_next : (cs : List Call) (c : Call) → Effect cs c → Lasts cs → Pairwise (Before (c ∷ cs)) (olds cs c ++ news c)
order_next cs c f s =
    pairs_join (Before (c ∷ cs)) (olds cs c) (news c)
    (pairs_weaker (Still cs c) (Before cs) (Before (c ∷ cs)) both (olds cs c) (olds_last cs c f s)
    (pairs_passed (Before cs) (unended c) (filter (untouched c) (eras cs)) (pairs_passed (Before cs) (untouched c) (eras cs) s.order)))
    (pairs_passed (Before (c ∷ cs)) (unended c) (touched_by c) (pairs_alone (Before (c ∷ cs)) (touched_by c) f.alone))
    (all_weaker (Still cs c) (λ a. AllByRecursion (Before (c ∷ cs) a) (news c))
    (λ a still. all_weaker (λ t. is_among (numbers_of (touched_by c)) t.number ≡ true) (Before (c ∷ cs) a) (λ t among. across a t still among) (news c) (news_among c f.among))
    (olds cs c) (olds_last cs c f s))
  where
    both : (a b : Alive) → Still cs c a → Still cs c b → Before cs a b → Before (c ∷ cs) a b
    both a b pa pb lt = let ea = place_same cs c f a.number pa.1 in let eb = place_same cs c f b.number pb.1 in omega (arith, ea, eb, lt)

    across : (a t : Alive) → Still cs c a → is_among (numbers_of (touched_by c)) t.number ≡ true → Before (c ∷ cs) a t
    across a t still among =
        let ea = place_same cs c f a.number still.1 in
        let et = place_new cs c f t.number among in
        let le = place_within cs a.number in
        omega (arith, ea, et, le)

-- one of these has the number that is among theirs
number_in : (P : Alive → Type 0) (ts : List Alive) (n : ℕ) → ((t : Alive) → t.number ≡ n → P t → ⊥) → AllByRecursion P ts → is_among (numbers_of ts) n ≡ false
number_in P [] n never all = refl
number_in P (t ∷ ts) n never all = or_from (t.number == n) (is_among (numbers_of ts) n) (number_other t.number n (λ same. never t same all.0)) (number_in P ts n never all.1)

-- where none of its four-tuple is left, the era last begun for it has ended
whole_next : (cs : List Call) (c : Call) → Effect cs c → Lasts cs → (k : FlowKey) (n : ℕ) → AllByRecursion (λ a. a.key ≢ k) (olds cs c ++ news c) → last_begun k (c ∷ cs) ≡ Some n
    → has_ended n (c ∷ cs) ≡ true
whole_next cs c f s k n none is = true_from_ne_false (has_ended n (c ∷ cs)) ends
  where
    -- the call does not write in it
    unwritten : (stays : not (is_among (ended_by c) n) ≡ true) → is_among (numbers_of (touched_by c)) n ≡ false
    unwritten stays =
        number_in (λ t. (unended c t ≡ true → t.key ≢ k) × (last_begun t.key (c ∷ cs) ≡ Some t.number)) (touched_by c) n
        (λ t same p. p.0 (ap (λ m. not (is_among (ended_by c) m)) same ∙ stays) (once_next cs c f s t.key k n (p.1 ∙ ap Some same) is))
        (all_two (λ t. unended c t ≡ true → t.key ≢ k) (λ t. last_begun t.key (c ∷ cs) ≡ Some t.number) _ (λ t p q. (p, q)) (touched_by c)
        (all_unfiltered (λ t. t.key ≢ k) (unended c) (touched_by c) (all_after (λ a. a.key ≢ k) (olds cs c) (news c) none)) f.last)

    -- none of its four-tuple was live
    nowhere : (stays : not (is_among (ended_by c) n) ≡ true) → is_among (numbers_of (touched_by c)) n ≡ false → last_begun k cs ≡ Some n → AllByRecursion (λ a. a.key ≢ k) (eras cs)
    nowhere stays out last =
        all_two (λ a. untouched c a ≡ true → unended c a ≡ true → a.key ≢ k) (IsLast cs) (λ a. a.key ≢ k)
        (λ a p st same.
        let number : a.number ≡ n = some_same (sym st.last ∙ (ap (λ j. last_begun j cs) same ∙ last)) in
        p (ap (λ m. not (is_among (numbers_of (touched_by c)) m)) number ∙ not_from_false (is_among (numbers_of (touched_by c)) n) out) (ap (λ m. not (is_among (ended_by c) m)) number ∙ stays) same)
        (eras cs)
        (all_unfiltered (λ a. unended c a ≡ true → a.key ≢ k) (untouched c) (eras cs)
        (all_unfiltered (λ a. a.key ≢ k) (unended c) (filter (untouched c) (eras cs)) (all_before (λ a. a.key ≢ k) (olds cs c) (news c) none)))
        s.each

    cases : has_ended n cs ≡ false → not (is_among (ended_by c) n) ≡ true → Began cs c k n → ⊥
    cases on stays (here at) = false≢true (sym (unwritten stays) ∙ f.begun_touched k n at)
    cases on stays (before none last) = false≢true (sym on ∙ s.whole k n (nowhere stays (unwritten stays) last) last)

    ends : has_ended n (c ∷ cs) ≡ false → ⊥
    ends on =
        let parts = or_parts (is_among (ended_by c) n) (has_ended n cs) on in
        cases parts.1 (not_from_false (is_among (ended_by c) n) parts.0) (began cs c k n is)

pub lasts_next : (cs : List Call) (c : Call) → Effect cs c → Lasts cs → Lasts (c ∷ cs)
lasts_next cs c f s = record {
  given = given_next cs c f s;
  once = once_next cs c f s;
  ended = ended_next cs c f s;
  each = subst (AllByRecursion (IsLast (c ∷ cs))) (sym (eras_next cs c))
      (all_join (IsLast (c ∷ cs)) (olds cs c) (news c) (all_weaker (Still cs c) (IsLast (c ∷ cs)) (λ a p. p.0) (olds cs c) (olds_last cs c f s)) (news_last cs c f));
  keys = subst (Pairwise (λ (a b : Alive). a.key ≢ b.key)) (sym (eras_next cs c)) (keys_next cs c f s);
  order = subst (Pairwise (Before (c ∷ cs))) (sym (eras_next cs c)) (order_next cs c f s);
  whole = λ k n none is. whole_next cs c f s k n (subst (AllByRecursion (λ (a : Alive). a.key ≢ k)) (eras_next cs c) none) is;
}

-- The live eras are those that were begun last and have not ended.

-- a live era is the last begun, and has not ended
pub live_last : (cs : List Call) → Lasts cs → (key : FlowKey) (era : ℕ) → number_of (live cs key) ≡ Some era → (last_begun key cs ≡ Some era) × (has_ended era cs ≡ false)
live_last cs s key era is = cases (live cs key) refl is
  where
    cases : (l : Option Alive) → live cs key ≡ l → number_of l ≡ Some era → (last_begun key cs ≡ Some era) × (has_ended era cs ≡ false)
    cases None e is = cc
    cases (Some a) e is =
        let f = found_is (IsLast cs) (λ (a : Alive). is_key a.key key) (eras cs) a s.each e in
        let number : a.number ≡ era = some_same is in
        (ap (λ k. last_begun k cs) (sym (key_is a.key key f.1)) ∙ (f.0.last ∙ is), ap (λ n. has_ended n cs) (sym number) ∙ f.0.goes_on)

pub last_live : (cs : List Call) → Lasts cs → (key : FlowKey) (era : ℕ) → last_begun key cs ≡ Some era → has_ended era cs ≡ false → number_of (live cs key) ≡ Some era
last_live cs s key era is on = cases (live cs key) refl
  where
    cases : (l : Option Alive) → live cs key ≡ l → number_of (live cs key) ≡ Some era
    cases None e =
        absurd (false≢true (sym on ∙ s.whole key era (all_weaker (λ (a : Alive). is_key a.key key ≡ false) (λ (a : Alive). a.key ≢ key)
        (λ a no same. false≢true (sym no ∙ (ap (λ k. is_key k key) same ∙ key_same key))) (eras cs) (none_found (λ (a : Alive). is_key a.key key) (eras cs) e)) is))
    cases (Some a) e =
        let f = found_is (IsLast cs) (λ (a : Alive). is_key a.key key) (eras cs) a s.each e in
        ap number_of e ∙ (sym f.0.last ∙ (ap (λ k. last_begun k cs) (key_is a.key key f.1) ∙ is))

pub all_given : (cs : List Call) → Lasts cs → AllByRecursion (λ a. a.number ≤ begun_in cs) (eras cs)
all_given cs s = all_weaker (IsLast cs) (λ (a : Alive). a.number ≤ begun_in cs) (λ a is. s.given a.key a.number is.last) (eras cs) s.each
