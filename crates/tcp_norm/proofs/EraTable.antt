-- What the table and the store represent, and how it changes as an era begins, goes on, or ends.
use Rattle.std.proofs.Common.{◌≡◌, ◌≢◌, ℕ, ◌==◌, ◌<◌, ◌≤◌, not, Bool, true, false, List, ◌∷◌, ◌++◌, length, map, refl, sym, ap, subst, ◌∙◌, arith, inl, inr, ap₂, cond, ◌+◌, ◌*◌, ◌/◌, None, is_some, []}
use Rattle.std.proofs.lemmas.Bool.{cases_eq}
use Rattle.std.proofs.lemmas.List.{get_or-map, length-map, set-get_or, map-append}
use Rattle.std.proofs.lemmas.List.Elements.{recursion_from_All, filter_passes}
use Rattle.std.specs.List.{AllByRecursion, filter, list_any, count_by, range_with_len, AllPairs}
use Rattle.std.proofs.lemmas.List.Sums.{sum_by-cons}
use Rattle.wire_base.specs.Segments.{Written}
use Rattle.linked_table.specs.declared.table.Slot.{Slot}
use Rattle.linked_table.specs.EntryTable.{Entry, SplitAt, with_value, revalued, Pairwise, IsNotIn, IsIn, Wherever}
use Rattle.linked_table.proofs.Entries.{left_out, valued, split_at, wherever}
use Rattle.linked_table.specs.EntryTable as table
use Rattle.retain_store.specs.Maps.{Store, chain_of, octet_at, ChangesOnly}
use Rattle.era_state.specs.Eras as era
use Rattle.linked_table.proofs.Lists.{all_before, all_after, all_join, all_weaker, pairs_before, pairs_after, filter_rest}
use Rattle.wire_base.specs.declared.address.FlowKey.{FlowKey}
use Rattle.era_state.specs.Quantities.{base_at, top}
use Rattle.norm_settings.specs.SettingValues.{PlainSettings}
use Rattle.retain_store.proofs.Blocks.{others_same}
use Rattle.tcp_norm.specs.declared.key.Flow.{Flow}
use Rattle.tcp_norm.specs.declared.key.EraKey.{EraKey}
use Rattle.tcp_norm.specs.Calls.{Alive, without, is_among}
use Rattle.tcp_norm.specs.HeldOctets.{held_of, kept_at, has_block}
use Rattle.tcp_norm.specs.TableAndStore.{IsFree, HoldsFor, EntryStands, AreGiven, alive_in, IsFor}
use Rattle.tcp_norm.specs.working.TableChanges.{ChangesTables}
use Rattle.tcp_norm.specs.KeptChains.{Keeps}
use Rattle.tcp_norm.specs.working.SpareSlots.{written_back}
use Rattle.tcp_norm.specs.declared.state.TcpNorm.{TcpNorm}
use Rattle.tcp_norm.proofs.Lists.{all_unmap, pairs_rest, pairs_push, filter_only, everywhere, number_other, number_same}

-- the entries of other slots, and the live eras of them, where the chain of one slot may hold
-- anything
pub record RestFor (hole : ℕ) (eras : List Alive) (segments : ℕ → List Written) (begun : ℕ) (entries : List (Entry EraKey Flow)) (store : Store) : Type 0 where
  pub eras_are : map alive_in entries ≡ eras
  pub each : AllByRecursion (EntryStands segments store) entries
  pub apart : IsFree entries hole
  pub free : (chain : ℕ) → chain ≢ hole → IsFree entries chain → chain_of store chain ≡ []
  pub given : AreGiven begun segments eras

-- of one of these the number is another
abbrev pub Other : ℕ → List Alive → Type 0
Other n lives = AllByRecursion (λ a. a.number ≢ n) lives

without_rest : (n : ℕ) (before : List Alive) (here : Alive) (after : List Alive) → here.number ≡ n → Other n before → Other n after
    → without (n ∷ []) (before ++ here ∷ after) ≡ before ++ after
without_rest n before here after is left right =
    filter_rest (λ (a : Alive). not (is_among (n ∷ []) a.number)) before here after
    (all_weaker (λ (a : Alive). a.number ≢ n) (λ (a : Alive). not (is_among (n ∷ []) a.number) ≡ true) (λ a ne. rw (number_other n a.number (λ h. ne (sym h))) refl) before left)
    (rw is (rw (number_same n) refl))
    (all_weaker (λ (a : Alive). a.number ≢ n) (λ (a : Alive). not (is_among (n ∷ []) a.number) ≡ true) (λ a ne. rw (number_other n a.number (λ h. ne (sym h))) refl) after right)

-- an entry is taken out
pub take_out : {eras : List Alive} {segments : ℕ → List Written} {begun : ℕ} {entries : List (Entry EraKey Flow)} {store : Store} (slot : Slot) (a : SplitAt entries slot)
    → HoldsFor eras segments begun entries store
    → RestFor slot.0 (without (a.here.value.number ∷ []) eras) segments begun (a.before ++ a.after) store
take_out {eras} {segments} {begun} {entries} {store} slot a h =
    let mk : ℕ → Slot = λ n. record { 0 = n } in
    let n = a.here.value.number in
    let shown : eras ≡ map alive_in a.before ++ alive_in a.here ∷ map alive_in a.after =
    sym h.eras_are ∙ (ap (map alive_in) a.splits ∙ map-append alive_in a.before (a.here ∷ a.after)) in
    let pairs = subst (Pairwise (λ (x y : Alive). x.number ≢ y.number)) shown h.given.apart in
    let left : Other n (map alive_in a.before) = pairs_before (λ (x y : Alive). x.number ≢ y.number) (map alive_in a.before) (alive_in a.here) (map alive_in a.after) pairs in
    let right : Other n (map alive_in a.after) = all_weaker (λ (y : Alive). n ≢ y.number) (λ (y : Alive). y.number ≢ n) (λ y ne e. ne (sym e)) (map alive_in a.after)
    (pairs_after (λ (x y : Alive). x.number ≢ y.number) (map alive_in a.before) (alive_in a.here) (map alive_in a.after) pairs) in
    let rest : without (n ∷ []) eras ≡ map alive_in a.before ++ map alive_in a.after =
    ap (without (n ∷ [])) shown ∙ without_rest n (map alive_in a.before) (alive_in a.here) (map alive_in a.after) refl left right in
    let each = subst (AllByRecursion (EntryStands segments store)) a.splits h.each in
    let below = subst (AllByRecursion (λ (x : Alive). x.number ≤ begun)) shown h.given.below in
    let named : a.here.slot.0 ≡ slot.0 = ap (λ (s : Slot). s.0) a.named in
    record {
      eras_are = map-append alive_in a.before a.after ∙ sym rest;
      each = all_join (EntryStands segments store) a.before a.after (all_before (EntryStands segments store) a.before (a.here ∷ a.after) each)
          (all_after (EntryStands segments store) a.before (a.here ∷ a.after) each).1;
      apart = all_join (λ (e : Entry EraKey Flow). e.slot.0 ≢ slot.0) a.before a.after
          (all_weaker (λ (e : Entry EraKey Flow). e.slot ≢ a.here.slot) _ (λ e ne same. ne (ap mk (same ∙ sym named))) a.before a.slots_before)
          (all_weaker (λ (e : Entry EraKey Flow). e.slot ≢ a.here.slot) _ (λ e ne same. ne (ap mk (same ∙ sym named))) a.after a.slots_after);
      free = λ chain ne is. h.free chain (subst (λ l. IsFree l chain) (sym a.splits)
          (all_join (λ (e : Entry EraKey Flow). e.slot.0 ≢ chain) a.before (a.here ∷ a.after) (all_before (λ (e : Entry EraKey Flow). e.slot.0 ≢ chain) a.before a.after is)
          ((λ same. ne (sym same ∙ named)), all_after (λ (e : Entry EraKey Flow). e.slot.0 ≢ chain) a.before a.after is)));
      given = record {
        below = subst (AllByRecursion (λ (x : Alive). x.number ≤ begun)) (sym rest)
            (all_join (λ (x : Alive). x.number ≤ begun) (map alive_in a.before) (map alive_in a.after)
            (all_before (λ (x : Alive). x.number ≤ begun) (map alive_in a.before) (alive_in a.here ∷ map alive_in a.after) below)
            (all_after (λ (x : Alive). x.number ≤ begun) (map alive_in a.before) (alive_in a.here ∷ map alive_in a.after) below).1);
        apart = subst (Pairwise (λ (x y : Alive). x.number ≢ y.number)) (sym rest)
            (pairs_rest (λ (x y : Alive). x.number ≢ y.number) (map alive_in a.before) (alive_in a.here) (map alive_in a.after) pairs);
        fresh = h.given.fresh;
      };
    }

-- of the eras without one number none has it
pub none_left : (n : ℕ) (lives : List Alive) → Other n (without (n ∷ []) lives)
none_left n lives =
    let passes : Alive → Bool = λ a. not (is_among (n ∷ []) a.number) in
    all_weaker (λ (a : Alive). passes a ≡ true) (λ (a : Alive). a.number ≢ n) (λ a passed same. other a.number passed same) (filter passes lives)
    (recursion_from_All (λ (a : Alive). passes a ≡ true) (filter passes lives) (filter_passes passes lives))
  where
    other : (m : ℕ) → not (is_among (n ∷ []) m) ≡ true → m ≢ n
    other m passed same =
        let fails : not (is_among (n ∷ []) m) ≡ false = rw same (rw (number_same n) refl) in
        cc

-- an entry with the same chain, whose era has the same segments, is unchanged
pub still : (segments later : ℕ → List Written) (store new : Store) (e : Entry EraKey Flow)
    → chain_of new e.slot.0 ≡ chain_of store e.slot.0 → EntryStands segments store e → later e.value.number ≡ segments e.value.number → EntryStands later new e
still segments later store new e chain s same =
    record {
      era = subst (era.StandsFor e.value.era) (sym same) s.era;
      octets = subst (Keeps (chain_of new e.slot.0)) (sym same) (subst (λ b. Keeps b (segments e.value.number)) (sym chain) s.octets);
      count = ap length chain ∙ (s.count ∙ ap held_of (sym same));
    }

all_still : (hole : ℕ) (segments later : ℕ → List Written) (store new : Store) (es : List (Entry EraKey Flow))
    → ((chain : ℕ) → chain ≢ hole → chain_of new chain ≡ chain_of store chain)
    → AllByRecursion (EntryStands segments store) es → IsFree es hole → AllByRecursion (λ (e : Entry EraKey Flow). later e.value.number ≡ segments e.value.number) es
    → AllByRecursion (EntryStands later new) es
all_still hole segments later store new [] chains each apart same = tt
all_still hole segments later store new (e ∷ es) chains each apart same =
    (still segments later store new e (chains e.slot.0 apart.0) each.0 same.0, all_still hole segments later store new es chains each.1 apart.1 same.1)

-- the other eras go on as they were, whatever becomes of the chain of the hole
pub change : {hole : ℕ} {eras : List Alive} {segments : ℕ → List Written} {begun : ℕ} {entries : List (Entry EraKey Flow)} {store : Store}
    (later : ℕ → List Written) (more : ℕ) (new : Store)
    → ((chain : ℕ) → chain ≢ hole → chain_of new chain ≡ chain_of store chain)
    → AllByRecursion (λ (a : Alive). later a.number ≡ segments a.number) eras
    → begun ≤ more → ((number : ℕ) → more < number → later number ≡ [])
    → RestFor hole eras segments begun entries store → RestFor hole eras later more entries new
change {hole} {eras} {segments} {begun} {entries} {store} later more new chains same grows fresh r = record {
  eras_are = r.eras_are;
  each = all_still hole segments later store new entries chains r.each r.apart
      (all_unmap (λ (a : Alive). later a.number ≡ segments a.number) alive_in entries
      (subst (AllByRecursion (λ (a : Alive). later a.number ≡ segments a.number)) (sym r.eras_are) same));
  apart = r.apart;
  free = λ chain ne is. chains chain ne ∙ r.free chain ne is;
  given = record {
    below = all_weaker (λ (a : Alive). a.number ≤ begun) (λ (a : Alive). a.number ≤ more) (λ a le. omega arith) eras r.given.below;
    apart = r.given.apart;
    fresh = fresh;
  };
}

-- an entry is added in the hole
pub add : {hole : ℕ} {eras : List Alive} {segments : ℕ → List Written} {begun : ℕ} {entries : List (Entry EraKey Flow)} {store : Store} (e : Entry EraKey Flow)
    → e.slot.0 ≡ hole → Other e.value.number eras → e.value.number ≤ begun → EntryStands segments store e
    → RestFor hole eras segments begun entries store → HoldsFor (eras ++ alive_in e ∷ []) segments begun (entries ++ e ∷ []) store
add {hole} {eras} {segments} {begun} {entries} {store} e slot other below stands r = record {
  eras_are = map-append alive_in entries (e ∷ []) ∙ ap (λ l. l ++ alive_in e ∷ []) r.eras_are;
  each = all_join (EntryStands segments store) entries (e ∷ []) r.each (stands, tt);
  free = λ chain is.
      let last = all_after (λ (f : Entry EraKey Flow). f.slot.0 ≢ chain) entries (e ∷ []) is in
      r.free chain (λ same. last.0 (slot ∙ sym same)) (all_before (λ (f : Entry EraKey Flow). f.slot.0 ≢ chain) entries (e ∷ []) is);
  given = record {
    below = all_join (λ (a : Alive). a.number ≤ begun) eras (alive_in e ∷ []) r.given.below (below, tt);
    apart = pairs_push (λ (x y : Alive). x.number ≢ y.number) eras (alive_in e) r.given.apart other;
    fresh = r.given.fresh;
  };
}

-- the hole is left empty
pub close : {hole : ℕ} {eras : List Alive} {segments : ℕ → List Written} {begun : ℕ} {entries : List (Entry EraKey Flow)} {store : Store}
    → chain_of store hole ≡ [] → RestFor hole eras segments begun entries store → HoldsFor eras segments begun entries store
close {hole} {store = store} empty r = record {
  eras_are = r.eras_are;
  each = r.each;
  free = λ chain is. elim (cases_eq chain hole) [ inl same ↦ ap (chain_of store) same ∙ empty | inr ne ↦ r.free chain ne is ];
  given = r.given;
}

-- a slot of no entry is a hole
pub leave : {eras : List Alive} {segments : ℕ → List Written} {begun : ℕ} {entries : List (Entry EraKey Flow)} {store : Store} (hole : ℕ)
    → IsFree entries hole → HoldsFor eras segments begun entries store → RestFor hole eras segments begun entries store
leave hole apart h = record { eras_are = h.eras_are; each = h.each; apart = apart; free = λ chain ne is. h.free chain is; given = h.given }

-- the table where an entry has another value and was touched
pub put_touch : (entries : List (Entry EraKey Flow)) (slot : Slot) (a : SplitAt entries slot) (value : Flow)
    → written_back entries slot value ≡ (a.before ++ a.after) ++ record a.here { value = value } ∷ []
put_touch entries slot a value =
    let mk : ℕ → Slot = λ n. record { 0 = n } in
    let named : a.here.slot.0 ≡ slot.0 = ap (λ (s : Slot). s.0) a.named in
    let apart : (e : Entry EraKey Flow) → e.slot ≢ a.here.slot → (e.slot.0 == slot.0) ≡ false =
    λ e ne. number_other e.slot.0 slot.0 (λ same. ne (ap mk (same ∙ sym named))) in
    let here : (a.here.slot.0 == slot.0) ≡ true = ap (λ n. n == slot.0) named ∙ number_same slot.0 in
    let put : SplitAt (with_value entries slot value) slot = record {
      before = a.before;
      here = record a.here { value = value };
      after = a.after;
      splits = valued entries slot a value;
      named = a.named;
      slots_before = a.slots_before;
      slots_after = a.slots_after;
      keys_before = a.keys_before;
      keys_after = a.keys_after;
    } in
    let alone : table.only (a.before ++ record a.here { value = value } ∷ a.after) slot ≡ record a.here { value = value } ∷ [] =
    filter_only (λ (e : Entry EraKey Flow). e.slot.0 == slot.0) a.before (record a.here { value = value }) a.after
    (all_weaker (λ (e : Entry EraKey Flow). e.slot ≢ a.here.slot) _ apart a.before a.slots_before) here
    (all_weaker (λ (e : Entry EraKey Flow). e.slot ≢ a.here.slot) _ apart a.after a.slots_after) in
    ap₂ (λ l m. l ++ m) (left_out (with_value entries slot value) slot put) (ap (λ l. table.only l slot) (valued entries slot a value) ∙ alone)

-- an entry stays where it is when it gets another value
pub in_valued : (entries : List (Entry EraKey Flow)) (slot : Slot) (value : Flow) → table.IsIn entries slot → table.IsIn (with_value entries slot value) slot
in_valued entries slot value (k, x, below, reads, named) =
    let f : Entry EraKey Flow → Entry EraKey Flow = revalued slot value in
    (k, f x, omega (arith, length-map entries f), get_or-map f entries k x (f x) below ∙ ap f reads, slot_stays (x.slot.0 == slot.0) ∙ named)
  where
    slot_stays : (b : Bool) → (cond b (record x { value = value }) x).slot ≡ x.slot
    slot_stays true = refl
    slot_stays false = refl

-- After an era began the table and the store represent the calls with its own.

any_none : (f : ℕ → Bool) (xs : List ℕ) → ((x : ℕ) → f x ≡ false) → list_any f xs ≡ false
any_none f [] none = refl
any_none f (x ∷ xs) none = rw (none x) (any_none f xs none)

count_none : (f : ℕ → Bool) (xs : List ℕ) → ((x : ℕ) → f x ≡ false) → count_by f xs ≡ 0
count_none f [] none = refl
count_none f (x ∷ xs) none =
    let here : cond {A = ℕ} (f x) 1 0 ≡ 0 = ap (λ b. cond b 1 0) (none x) in
    omega (arith, sum_by-cons (λ y. cond {A = ℕ} (f y) 1 0) x xs, here, count_none f xs none)

pub nothing_held : (ws : List Written) → ((offset : ℕ) → kept_at ws offset ≡ None) → held_of ws ≡ 0
nothing_held ws none =
    count_none (has_block ws) (range_with_len 0 (top (base_at ws) ws / 256 + 1))
    (λ n. any_none (λ offset. is_some (kept_at ws offset)) (range_with_len (256 * n) 256) (λ offset. ap is_some (none offset)))

-- the numbers so far are others
pub others_before : (n : ℕ) (lives : List Alive) (begun : ℕ) → AllByRecursion (λ (a : Alive). a.number ≤ begun) lives → begun < n → Other n lives
others_before n lives begun below above = all_weaker (λ (a : Alive). a.number ≤ begun) (λ (a : Alive). a.number ≢ n) (λ a le same. absurd (omega arith)) lives below

pub begin_holds : (lives : List Alive) (segments later : ℕ → List Written) (begun : ℕ) (entries : List (Entry EraKey Flow)) (store : Store) (slot : Slot) (key : FlowKey) (value : Flow) (now : ℕ)
    → HoldsFor lives segments begun entries store → IsNotIn entries slot
    → era.StandsFor value.era (later (begun + 1)) → ((offset : ℕ) → kept_at (later (begun + 1)) offset ≡ None) → value.number ≡ begun + 1 → value.touched ≡ now
    → ((m : ℕ) → m ≢ begun + 1 → later m ≡ segments m)
    → HoldsFor (lives ++ record { number = begun + 1; key = key; touched = now } ∷ []) later (begun + 1) (entries ++ record { slot = slot; key = record { 0 = key }; value = value } ∷ []) store
begin_holds lives segments later begun entries store slot key value now h absent stands none numbered touched other =
    let mk : ℕ → Slot = λ n. record { 0 = n } in
    let n = begun + 1 in
    let e : Entry EraKey Flow = record { slot = slot; key = record { 0 = key }; value = value } in
    let free : IsFree entries slot.0 = all_weaker (λ (f : Entry EraKey Flow). f.slot ≢ slot) (λ (f : Entry EraKey Flow). f.slot.0 ≢ slot.0) (λ f ne same. ne (ap mk same)) entries
    (recursion_from_All (λ (f : Entry EraKey Flow). f.slot ≢ slot) entries absent) in
    let empty : chain_of store slot.0 ≡ [] = h.free slot.0 free in
    let own : later value.number ≡ later n = ap later numbered in
    let apart : Other n lives = others_before n lives begun h.given.below (omega arith) in
    let rest = change later n store (λ chain ne. refl)
    (all_weaker (λ (b : Alive). b.number ≢ n) (λ (b : Alive). later b.number ≡ segments b.number) (λ b ne. other b.number ne) lives apart)
    (omega arith) (λ m above. other m (λ same. absurd (omega arith)) ∙ h.given.fresh m (omega arith)) (leave slot.0 free h) in
    let whole = add e refl (subst (λ m. Other m lives) (sym numbered) apart) (omega arith)
    (record {
      era = subst (era.StandsFor value.era) (sym own) stands;
      octets = λ offset. ap (λ l. octet_at l offset) empty ∙ (sym (none offset) ∙ ap (λ l. kept_at l offset) (sym own));
      count = ap length empty ∙ (sym (nothing_held (later n) none) ∙ ap held_of (sym own));
    }) rest in
    let alive_is : alive_in e ≡ record { number = n; key = key; touched = now } = ap₂ (λ m t. record { number = m; key = key; touched = t }) numbered touched in
    subst (λ x. HoldsFor (lives ++ x ∷ []) later n (entries ++ e ∷ []) store) alive_is whole

-- What is known of the entry in a slot of the table, and of the chain of that slot.

-- nothing has changed
pub none_changed : (store : Store) (hole : ℕ) → ChangesOnly store store hole
none_changed store hole = record { number = refl; others = ap (λ l. record store { chains = l }) (sym (set-get_or store.chains hole [])); cells = refl }

-- the era in a slot and its chain represent its segments, and its number was given
pub record AtSlot (segments : ℕ → List Written) (begun : ℕ) (store : Store) (slot : Slot) (flow : Flow) : Type 0 where
  pub era : era.StandsFor flow.era (segments flow.number)
  pub octets : Keeps (chain_of store slot.0) (segments flow.number)
  pub count : length (chain_of store slot.0) ≡ held_of (segments flow.number)
  pub given : flow.number ≤ begun

pub at_slot : (lives : List Alive) (segments : ℕ → List Written) (begun : ℕ) (entries : List (Entry EraKey Flow)) (store : Store) (slot : Slot) (flow : Flow)
    → HoldsFor lives segments begun entries store → IsIn entries slot → AllPairs (λ e f. e.slot ≢ f.slot) entries → AllPairs (λ e f. e.key ≢ f.key) entries
    → Wherever entries slot (λ e. e.value ≡ flow) → AtSlot segments begun store slot flow
at_slot lives segments begun entries store slot flow h inside slots keys valued =
    let a = split_at entries slot inside slots keys in
    let stood = (all_after (EntryStands segments store) a.before (a.here ∷ a.after) (subst (AllByRecursion (EntryStands segments store)) a.splits h.each)).0 in
    let below = subst (AllByRecursion (λ (b : Alive). b.number ≤ begun)) (sym h.eras_are ∙ (ap (map alive_in) a.splits ∙ map-append alive_in a.before (a.here ∷ a.after))) h.given.below in
    let here : AtSlot segments begun store a.here.slot a.here.value = record {
      era = stood.era;
      octets = stood.octets;
      count = stood.count;
      given = (all_after (λ (b : Alive). b.number ≤ begun) (map alive_in a.before) (alive_in a.here ∷ map alive_in a.after) below).0;
    } in
    subst (λ (s : Slot). AtSlot segments begun store s flow) a.named
    (subst (AtSlot segments begun store a.here.slot) (wherever (λ (e : Entry EraKey Flow). e.value ≡ flow) entries slot a valued) here)

-- a fact of the value in a slot
pub value_in : (P : Flow → Type 0) (entries : List (Entry EraKey Flow)) (slot : Slot) (flow : Flow) → IsIn entries slot → Wherever entries slot (λ e. flow ≡ e.value) → Wherever entries slot (λ e. P e.value) → P flow
value_in P entries slot flow (k, x, below, reads, named) was is =
    let here = ap (λ (e : Entry EraKey Flow). e.slot) reads ∙ named in
    subst P (sym (was k x below here)) (is k x below here)

-- two values of the entry in a slot are one
pub same_value : (entries : List (Entry EraKey Flow)) (slot : Slot) (a b : Flow) → IsIn entries slot → Wherever entries slot (λ e. a ≡ e.value) → Wherever entries slot (λ e. e.value ≡ b) → a ≡ b
same_value entries slot a b inside first second = value_in (λ f. f ≡ b) entries slot a inside first second

-- the opened parts are as they were
pub opened_kept : (settings : PlainSettings) (old new : TcpNorm) → IsFor settings old → new.table.max ≡ old.table.max
    → length new.store.chains ≡ length old.store.chains → new.store.cells ≡ old.store.cells → new.limits ≡ old.limits → IsFor settings new
opened_kept settings old new is flows chains store limits =
    record { flows = flows ∙ is.flows; chains = chains ∙ is.chains; store = store ∙ is.store; limits = limits ∙ is.limits }

-- one change after another
pub then_changes : (a b c : TcpNorm) (m n : ℕ) → ChangesTables a b m → ChangesTables b c n → ChangesTables a c n
then_changes a b c m n first second = record {
  opened = λ settings is. second.opened settings (first.opened settings is);
  idle = second.idle ∙ first.idle;
  begun_is = second.begun_is;
  calls_are = second.calls_are ∙ first.calls_are;
  latest_is = second.latest_is ∙ first.latest_is;
  scratch_is = second.scratch_is ∙ first.scratch_is;
}

-- After an era ended the table and the store represent the others.

pub end_holds : (lives : List Alive) (segments : ℕ → List Written) (begun number : ℕ) (entries : List (Entry EraKey Flow)) (store new : Store) (slot : Slot)
    → HoldsFor lives segments begun entries store → IsIn entries slot → AllPairs (λ e f. e.slot ≢ f.slot) entries → AllPairs (λ e f. e.key ≢ f.key) entries
    → Wherever entries slot (λ e. e.value.number ≡ number) → chain_of new slot.0 ≡ [] → ChangesOnly store new slot.0
    → HoldsFor (without (number ∷ []) lives) segments begun (table.without entries slot) new
end_holds lives segments begun number entries store new slot h inside slots keys numbered empty changed =
    let a = split_at entries slot inside slots keys in
    let n_is : a.here.value.number ≡ number = wherever (λ (e : Entry EraKey Flow). e.value.number ≡ number) entries slot a numbered in
    let rest = change segments begun new (others_same store new slot.0 changed) (everywhere (λ (b : Alive). segments b.number ≡ segments b.number) (without (a.here.value.number ∷ []) lives) (λ b. refl)) (omega arith) h.given.fresh (take_out slot a h) in
    subst (λ n. HoldsFor (without (n ∷ []) lives) segments begun (table.without entries slot) new) n_is
    (subst (λ l. HoldsFor (without (a.here.value.number ∷ []) lives) segments begun l new) (sym (left_out entries slot a)) (close empty rest))
