-- Datagrams stay in order of their first fragments, so those that began too long ago are the first
-- ones.
use Rattle.std.proofs.Common.{◌≡◌, ℕ, ◌≤◌, not, Bool, true, false, cond, List, [], ◌∷◌, refl, ap, subst, ◌∙◌, arith, ◌≢◌, zero, suc, ◌+◌, length, take, drop, Some, None, sym, max, nat_lt}
use Rattle.std.specs.List.{AllByRecursion, filter, AllPairs, count_by}
use Rattle.std.proofs.lemmas.Bool.Decides.{nat_tests}
use Rattle.std.proofs.lemmas.List.Elements.{recursion_from_All}
use Rattle.std.proofs.lemmas.List.Sums.{sum_by-cons}
use Rattle.linked_table.specs.declared.table.Slot.{Slot}
use Rattle.retain_store.specs.Maps.{Store}
use Rattle.linked_table.proofs.Lists.{all_weaker, all_after, pairwise, filter_all}
use Rattle.reassembly.specs.declared.id.DatagramId.{DatagramId}
use Rattle.reassembly.specs.declared.progress.Progress.{Progress}
use Rattle.reassembly.specs.DatagramFragments.{Fragment}
use Rattle.reassembly.specs.Calls.{Answer, held, done, dropped, Call, expiry, offer, Gathered, is_id, is_old, of_others, pieces_in, with_piece, forgets, after, gathered}
use Rattle.reassembly.specs.RuleRows.{is_none_held}
use Rattle.reassembly.specs.TableAndStore.{HoldsFor}
use Rattle.linked_table.specs.EntryTable.{first_slot, Entry, Pairwise, Wherever}
use Rattle.reassembly.specs.AssemblyState.{AreInOrder}
use Rattle.reassembly.specs.working.FragmentAnswers.{without_first, begins_old}
use Rattle.reassembly.proofs.Entries.{Found, ids_other, id_same}

-- Datagrams stay in order of their first fragments, each has a fragment, and a fragment is looked
-- up among them.

-- a fact of times
all_with : (Q : ℕ → Type 0) (now : ℕ) (p : Fragment) (gs : List Gathered) → AllByRecursion (λ (g : Gathered). Q g.since) gs → Q now → AllByRecursion (λ (g : Gathered). Q g.since) (with_piece now p gs)
all_with Q now p [] all here = (here, tt)
all_with Q now p (g ∷ gs) all here =
    by_test (is_id g.id p.id) (all_with Q now p gs all.1 here)
  where
    by_test : (b : Bool) → AllByRecursion (λ (k : Gathered). Q k.since) (with_piece now p gs)
        → AllByRecursion (λ (k : Gathered). Q k.since) (cond b (record g { pieces = p ∷ g.pieces } ∷ gs) (g ∷ with_piece now p gs))
    by_test true rest = all
    by_test false rest = (all.0, rest)

pairs_with : (now : ℕ) (p : Fragment) (gs : List Gathered) → Pairwise (λ a b. a.since ≤ b.since) gs → AllByRecursion (λ (g : Gathered). g.since ≤ now) gs
    → Pairwise (λ a b. a.since ≤ b.since) (with_piece now p gs)
pairs_with now p [] pairs past = (tt, tt)
pairs_with now p (g ∷ gs) pairs past =
    by_test (is_id g.id p.id) (all_with (λ n. g.since ≤ n) now p gs pairs.0 past.0) (pairs_with now p gs pairs.1 past.1)
  where
    by_test : (b : Bool) → AllByRecursion (λ (k : Gathered). g.since ≤ k.since) (with_piece now p gs) → Pairwise (λ a b. a.since ≤ b.since) (with_piece now p gs)
        → Pairwise (λ a b. a.since ≤ b.since) (cond b (record g { pieces = p ∷ g.pieces } ∷ gs) (g ∷ with_piece now p gs))
    by_test true first rest = pairs
    by_test false first rest = (first, rest)

-- of those that pass
pub all_filter : (P : Gathered → Type 0) (q : Gathered → Bool) (gs : List Gathered) → AllByRecursion P gs → AllByRecursion P (filter q gs)
all_filter P q [] all = tt
all_filter P q (g ∷ gs) all = by_test (q g) (all_filter P q gs all.1)
  where
    by_test : (b : Bool) → AllByRecursion P (filter q gs) → AllByRecursion P (cond b (g ∷ filter q gs) (filter q gs))
    by_test true rest = (all.0, rest)
    by_test false rest = rest

pub pairs_filter : (R : Gathered → Gathered → Type 0) (q : Gathered → Bool) (gs : List Gathered) → Pairwise R gs → Pairwise R (filter q gs)
pairs_filter R q [] pairs = tt
pairs_filter R q (g ∷ gs) pairs = by_test (q g) (all_filter (R g) q gs pairs.0) (pairs_filter R q gs pairs.1)
  where
    by_test : (b : Bool) → AllByRecursion (R g) (filter q gs) → Pairwise R (filter q gs) → Pairwise R (cond b (g ∷ filter q gs) (filter q gs))
    by_test true first rest = (first, rest)
    by_test false first rest = rest

order_later : (gs : List Gathered) (last now : ℕ) → AreInOrder gs last → AreInOrder gs (max last now)
order_later gs last now order = record {
  rising = order.rising;
  past = all_weaker (λ (g : Gathered). g.since ≤ last) (λ (g : Gathered). g.since ≤ max last now) (λ g le. omega arith) gs order.past;
}

order_others : (id : DatagramId) (gs : List Gathered) (last now : ℕ) → AreInOrder gs last → AreInOrder (of_others id gs) (max last now)
order_others id gs last now order = order_later (of_others id gs) last now (record {
  rising = pairs_filter (λ (a b : Gathered). a.since ≤ b.since) (λ (g : Gathered). not (is_id g.id id)) gs order.rising;
  past = all_filter (λ (g : Gathered). g.since ≤ last) (λ (g : Gathered). not (is_id g.id id)) gs order.past;
})

pub order_after : (now : ℕ) (p : Fragment) (answer : Answer) (gs : List Gathered) (last : ℕ) → AreInOrder gs last → last ≤ now → AreInOrder (after now p answer gs) (max last now)
order_after now p held gs last order le =
    let past = all_weaker (λ (g : Gathered). g.since ≤ last) (λ (g : Gathered). g.since ≤ now) (λ g below. omega arith) gs order.past in
    record {
      rising = pairs_with now p gs order.rising past;
      past = all_with (λ n. n ≤ max last now) now p gs (all_weaker (λ (g : Gathered). g.since ≤ last) (λ (g : Gathered). g.since ≤ max last now) (λ g below. omega arith) gs order.past) (omega arith);
    }
order_after now p done gs last order le = order_others p.id gs last now order
order_after now p (dropped rule) gs last order le = by_rule (forgets rule)
  where
    by_rule : (b : Bool) → AreInOrder (cond b (of_others p.id gs) gs) (max last now)
    by_rule true = order_others p.id gs last now order
    by_rule false = order_later gs last now order

-- each datagram has a fragment
abbrev pub HasSome : List Gathered → Type 0
HasSome gs = AllByRecursion (λ g. is_none_held g.pieces ≡ false) gs

some_with : (now : ℕ) (p : Fragment) (gs : List Gathered) → HasSome gs → HasSome (with_piece now p gs)
some_with now p [] all = (refl, tt)
some_with now p (g ∷ gs) all = by_test (is_id g.id p.id) (some_with now p gs all.1)
  where
    by_test : (b : Bool) → HasSome (with_piece now p gs) → HasSome (cond b (record g { pieces = p ∷ g.pieces } ∷ gs) (g ∷ with_piece now p gs))
    by_test true rest = (refl, all.1)
    by_test false rest = (all.0, rest)

some_after : (now : ℕ) (p : Fragment) (answer : Answer) (gs : List Gathered) → HasSome gs → HasSome (after now p answer gs)
some_after now p held gs all = some_with now p gs all
some_after now p done gs all = all_filter (λ (g : Gathered). is_none_held g.pieces ≡ false) (λ (g : Gathered). not (is_id g.id p.id)) gs all
some_after now p (dropped rule) gs all = by_rule (forgets rule)
  where
    by_rule : (b : Bool) → HasSome (cond b (of_others p.id gs) gs)
    by_rule true = all_filter (λ (g : Gathered). is_none_held g.pieces ≡ false) (λ (g : Gathered). not (is_id g.id p.id)) gs all
    by_rule false = all

pub some_gathered : (time : ℕ) (cs : List Call) → HasSome (gathered time cs)
some_gathered time [] = tt
some_gathered time (expiry now ∷ cs) = all_filter (λ (g : Gathered). is_none_held g.pieces ≡ false) (λ (g : Gathered). not (is_old time now g)) (gathered time cs) (some_gathered time cs)
some_gathered time (offer now p answer ∷ cs) = some_after now p answer (gathered time cs) (some_gathered time cs)

pub some_found : (gs : List Gathered) (entries : List (Entry DatagramId Progress)) (store : Store) (slot : Slot) (id : DatagramId) → Found gs entries store slot id → HasSome gs
    → is_none_held (pieces_in gs id) ≡ false
some_found gs entries store slot id f all =
    let split = subst HasSome f.part.splits all in
    ap is_none_held f.pieces_are ∙ (all_after (λ (g : Gathered). is_none_held g.pieces ≡ false) f.part.left (f.part.datagram ∷ f.part.right) split).0

-- Datagrams that began too long ago are the first ones.

-- the first datagram is that of the first entry
pub first_old : (time now : ℕ) (gs : List Gathered) (entries : List (Entry DatagramId Progress)) (store : Store) (slot : Slot) (value : Progress) → HoldsFor gs entries store
    → first_slot entries ≡ Some slot → Wherever entries slot (λ e. value ≡ e.value) → nat_lt (value.since + time) now ≡ begins_old time now gs
first_old time now [] [] store slot value h first at = cc
first_old time now [] (e ∷ es) store slot value h first at = absurd h.each
first_old time now (g ∷ gs) [] store slot value h first at = absurd h.each
first_old time now (g ∷ gs) (e ∷ es) store slot value h first at =
    let named : e.slot ≡ slot = cc in
    let value_is : value ≡ e.value = (recursion_from_All (λ (f : Entry DatagramId Progress). f.slot ≡ slot → value ≡ f.value) (e ∷ es) at).0 named in
    ap (λ s. nat_lt (s + time) now) (ap (λ (v : Progress). v.since) value_is ∙ h.each.0.since)

pub empty_stays : (gs : List Gathered) (entries : List (Entry DatagramId Progress)) (store : Store) → HoldsFor gs entries store → first_slot entries ≡ None
    → HoldsFor (without_first gs) entries store
empty_stays [] entries store h first = h
empty_stays (g ∷ gs) [] store h first = absurd h.each
empty_stays (g ∷ gs) (e ∷ es) store h first = cc

pub first_goes : (gs : List Gathered) (entries : List (Entry DatagramId Progress)) (store : Store) (slot : Slot) (key : DatagramId) → HoldsFor gs entries store
    → first_slot entries ≡ Some slot → Wherever entries slot (λ e. key ≡ e.key) → AllPairs (λ e f. e.key ≢ f.key) entries → of_others key gs ≡ without_first gs
first_goes [] entries store slot key h first at keys = refl
first_goes (g ∷ gs) [] store slot key h first at keys = absurd h.each
first_goes (g ∷ gs) (e ∷ es) store slot key h first at keys =
    let named : e.slot ≡ slot = cc in
    let key_is : key ≡ e.key = (recursion_from_All (λ (f : Entry DatagramId Progress). f.slot ≡ slot → key ≡ f.key) (e ∷ es) at).0 named in
    let others = ids_other store es gs key h.each.1
    (all_weaker (λ (f : Entry DatagramId Progress). e.key ≢ f.key) (λ (f : Entry DatagramId Progress). f.key ≢ key) (λ f ne same. ne (sym (same ∙ key_is))) es
    (pairwise (λ (e f : Entry DatagramId Progress). e.key ≢ f.key) (e ∷ es) keys).0) in
    let same : is_id g.id key ≡ true = ap (λ d. is_id d key) (sym (key_is ∙ h.each.0.id)) ∙ id_same key in
    ap (λ b. cond (not b) (g ∷ of_others key gs) (of_others key gs)) same
    ∙ filter_all (λ (k : Gathered). not (is_id k.id key)) gs (all_weaker (λ (k : Gathered). is_id k.id key ≡ false) (λ (k : Gathered). not (is_id k.id key) ≡ true) (λ k e. ap not e) gs others)

-- one by one
pub drop_more : (i : ℕ) (gs : List Gathered) → without_first (drop i gs) ≡ drop (i + 1) gs
drop_more zero [] = refl
drop_more zero (g ∷ gs) = refl
drop_more (suc i) [] = let more : suc i + 1 ≡ suc (i + 1) = omega arith in sym (ap (λ n. drop n []) more)
drop_more (suc i) (g ∷ gs) = let more : suc i + 1 ≡ suc (i + 1) = omega arith in drop_more i gs ∙ sym (ap (λ n. drop n (g ∷ gs)) more)

pub old_more : (time now i : ℕ) (gs : List Gathered) → AllByRecursion (λ (g : Gathered). is_old time now g ≡ true) (take i gs) → begins_old time now (drop i gs) ≡ true
    → AllByRecursion (λ (g : Gathered). is_old time now g ≡ true) (take (i + 1) gs)
old_more time now zero [] all here = tt
old_more time now zero (g ∷ gs) all here = (here, tt)
old_more time now (suc i) [] all here = absurd (false_is here)
  where
    false_is : false ≡ true → ⊥
    false_is e = cc
old_more time now (suc i) (g ∷ gs) all here =
    let more : suc (i + 1) ≡ suc i + 1 = omega arith in
    subst (λ n. AllByRecursion (λ (k : Gathered). is_old time now k ≡ true) (take n (g ∷ gs))) more (all.0, old_more time now i gs all.1 here)

young : (time now : ℕ) (g : Gathered) (gs : List Gathered) → is_old time now g ≡ false → AllByRecursion (λ (k : Gathered). g.since ≤ k.since) gs
    → AllByRecursion (λ (k : Gathered). is_old time now k ≡ false) gs
young time now g gs fresh later =
    all_weaker (λ (k : Gathered). g.since ≤ k.since) (λ (k : Gathered). is_old time now k ≡ false) (λ k le. grind (arith, nat_tests, fresh)) gs later

none_counted : (p : Gathered → Bool) (gs : List Gathered) → AllByRecursion (λ (g : Gathered). p g ≡ false) gs → count_by p gs ≡ 0
none_counted p [] none = refl
none_counted p (g ∷ gs) none =
    let here : cond {A = ℕ} (p g) 1 0 ≡ 0 = ap (λ b. cond b 1 0) none.0 in
    omega (arith, here, none_counted p gs none.1, sum_by-cons (λ k. cond {A = ℕ} (p k) 1 0) g gs)

-- the old ones are the first, and the others are left
pub record Parts (time now i : ℕ) (gs : List Gathered) : Type 0 where
  pub left : filter (λ g. not (is_old time now g)) gs ≡ drop i gs
  pub count : i ≡ count_by (is_old time now) gs

all_young : (time now : ℕ) (gs : List Gathered) → Pairwise (λ a b. a.since ≤ b.since) gs → begins_old time now gs ≡ false
    → AllByRecursion (λ (k : Gathered). is_old time now k ≡ false) gs
all_young time now [] rising here = tt
all_young time now (g ∷ gs) rising here = (here, young time now g gs here rising.0)

pub parts_at : (time now i : ℕ) (gs : List Gathered) → Pairwise (λ a b. a.since ≤ b.since) gs → i ≤ length gs
    → AllByRecursion (λ (g : Gathered). is_old time now g ≡ true) (take i gs) → begins_old time now (drop i gs) ≡ false → Parts time now i gs
parts_at time now zero gs rising below all here =
    let none = all_young time now gs rising here in
    record {
      left = filter_all (λ g. not (is_old time now g)) gs (all_weaker (λ (k : Gathered). is_old time now k ≡ false) (λ (k : Gathered). not (is_old time now k) ≡ true) (λ k e. ap not e) gs none);
      count = sym (none_counted (is_old time now) gs none);
    }
parts_at time now (suc i) [] rising below all here = absurd (omega arith)
parts_at time now (suc i) (g ∷ gs) rising below all here =
    let rest = parts_at time now i gs rising.1 (omega arith) all.1 here in
    let one : cond {A = ℕ} (is_old time now g) 1 0 ≡ 1 = ap (λ b. cond b 1 0) all.0 in
    let so_far = rest.count in
    record {
      left = ap (λ b. cond (not b) (g ∷ filter (λ k. not (is_old time now k)) gs) (filter (λ k. not (is_old time now k)) gs)) all.0 ∙ rest.left;
      count = omega (arith, one, so_far, sum_by-cons (λ k. cond {A = ℕ} (is_old time now k) 1 0) g gs);
    }

all_drop : (P : Gathered → Type 0) (i : ℕ) (gs : List Gathered) → AllByRecursion P gs → AllByRecursion P (drop i gs)
all_drop P zero gs all = all
all_drop P (suc i) [] all = tt
all_drop P (suc i) (g ∷ gs) all = all_drop P i gs all.1

pairs_drop : (R : Gathered → Gathered → Type 0) (i : ℕ) (gs : List Gathered) → Pairwise R gs → Pairwise R (drop i gs)
pairs_drop R zero gs pairs = pairs
pairs_drop R (suc i) [] pairs = tt
pairs_drop R (suc i) (g ∷ gs) pairs = pairs_drop R i gs pairs.1

pub order_left : (time now last i : ℕ) (gs : List Gathered) → Parts time now i gs → AreInOrder gs last → AreInOrder (filter (λ g. not (is_old time now g)) gs) (max last now)
order_left time now last i gs parts order =
    record {
      rising = subst (Pairwise (λ (a b : Gathered). a.since ≤ b.since)) (sym parts.left) (pairs_drop (λ (a b : Gathered). a.since ≤ b.since) i gs order.rising);
      past = subst (AllByRecursion (λ (g : Gathered). g.since ≤ max last now)) (sym parts.left)
          (all_weaker (λ (g : Gathered). g.since ≤ last) (λ (g : Gathered). g.since ≤ max last now) (λ g le. omega arith) (drop i gs) (all_drop (λ (g : Gathered). g.since ≤ last) i gs order.past));
    }

pub none_past : (time now i : ℕ) (gs : List Gathered) → length gs ≤ i → begins_old time now (drop i gs) ≡ false
none_past time now zero [] below = refl
none_past time now zero (g ∷ gs) below = absurd (omega arith)
none_past time now (suc i) [] below = refl
none_past time now (suc i) (g ∷ gs) below = none_past time now i gs (omega arith)

-- what is left of an assembly's datagrams, and how many were removed
pub record Expired (time now last i : ℕ) (gs : List Gathered) (entries : List (Entry DatagramId Progress)) (store : Store) : Type 0 where
  pub count : i ≡ count_by (is_old time now) gs
  pub holds : HoldsFor (filter (λ g. not (is_old time now g)) gs) entries store
  pub order : AreInOrder (filter (λ g. not (is_old time now g)) gs) (max last now)

pub expired : (time now last i : ℕ) (gs : List Gathered) (entries : List (Entry DatagramId Progress)) (store : Store) → AreInOrder gs last → i ≤ length gs
    → AllByRecursion (λ (g : Gathered). is_old time now g ≡ true) (take i gs) → begins_old time now (drop i gs) ≡ false → HoldsFor (drop i gs) entries store
    → Expired time now last i gs entries store
expired time now last i gs entries store order below all here h =
    let parts = parts_at time now i gs order.rising below all here in
    record {
      count = parts.count;
      holds = subst (λ l. HoldsFor l entries store) (sym parts.left) h;
      order = order_left time now last i gs parts order;
    }
