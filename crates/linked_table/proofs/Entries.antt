-- The entries of a table: those in a list of slots, all of them split at one slot, and what a read
-- of a slot means for them.
use Rattle.std.proofs.Common.{◌≡◌, ◌≢◌, ◌==◌, ℕ, suc, true, not, inl, inr, Option, Some, None, List, [], ◌∷◌, ◌++◌, length, refl, sym, ap, subst, ◌∙◌, arith, false, map, ◌+◌, ◌<◌, ◌≤◌, get_or, eq-eqb, ne_eqb}
use Rattle.std.specs.List.{AllByRecursion, Any, AllPairs, All}
use Rattle.std.proofs.lemmas.List.Elements.{filter-append, recursion_from_All, All-from_recursion}
use Rattle.std.proofs.lemmas.List.{get_or_default, map-append}
use Rattle.linked_table.specs.working.Rings.{In, IsRing, HasRing}
use Rattle.linked_table.specs.RingWalks.{walk, link_at}
use Rattle.linked_table.specs.TableEntries.{slot_of, pair_at, cons_entry, entries_of, table_of}
use Rattle.linked_table.specs.working.SoundTable.{bucket_number, IsSound}
use Rattle.linked_table.specs.EntryTable.{Entry, Pairwise, without, only, IsIn, SplitAt, Wherever, with_value, revalued, Table, first_slot}
use Rattle.linked_table.specs.declared.table.Slot.{Slot}
use Rattle.linked_table.specs.EntryTable as table
use Rattle.linked_table.specs.declared.list.Links.{Links}
use Rattle.linked_table.specs.NodeColumns.{Columns}
use Rattle.linked_table.proofs.Lists.{Any-head, Any-tail, Any-cases, split_any, pairwise, pairs_before, pairs_after, all_after, all_weaker, filter_rest, map_same, AllPairs-from_recursion}
use Rattle.linked_table.proofs.Rings.{walk-ring, not_after, hub_apart}

-- The entries in a list of slots.

-- no node occurs twice in the list
abbrev pub Apart : List ℕ → Type 0
Apart [] = Unit {0}
Apart (x ∷ xs) = (In x xs → ⊥) × Apart xs

-- the value of an option that is not None
pub some_of : {A : Type 0} (o : Option A) → o ≢ None → (a : A) × (o ≡ Some a)
some_of None not_none = absurd (not_none refl)
some_of (Some a) not_none = (a, refl)

module _ {K V : Type 0} where
  abbrev pub entry : ℕ → K → V → Entry K V
  entry node key value = record { slot = slot_of node; key = key; value = value }

  cons_entry-append : (x : ℕ) (o : Option (K × V)) (l m : List (Entry K V)) → cons_entry x o (l ++ m) ≡ cons_entry x o l ++ m
  cons_entry-append x None l m = refl
  cons_entry-append x (Some p) l m = refl

  cons_all : (P : Entry K V → Type 0) (x : ℕ) (o : Option (K × V)) (l : List (Entry K V)) → ((key : K) (value : V) → o ≡ Some (key, value) → P (entry x key value)) → AllByRecursion P l → AllByRecursion P (cons_entry x o l)
  cons_all P x None l here rest = rest
  cons_all P x (Some p) l here rest = (here p.0 p.1 refl, rest)

  all_tail : (P : Entry K V → Type 0) (x : ℕ) (o : Option (K × V)) (l : List (Entry K V)) → AllByRecursion P (cons_entry x o l) → AllByRecursion P l
  all_tail P x None l all = all
  all_tail P x (Some p) l all = all.1

  any_tail : (P : Entry K V → Type 0) (x : ℕ) (o : Option (K × V)) (l : List (Entry K V)) → Any P l → Any P (cons_entry x o l)
  any_tail P x None l any = any
  any_tail P x (Some p) l any = Any-tail P _ l any

  -- an entry for which `P` holds
  pub record IsEntry (pairs : List (Option (K × V))) (nodes : List ℕ) (P : Entry K V → Type 0) : Type 0 where
    pub node : ℕ
    pub key : K
    pub value : V
    pub within : In node nodes
    pub pair : pair_at pairs node ≡ Some (key, value)
    pub holds : P (entry node key value)

  module _ (pairs : List (Option (K × V))) where
    pub entries-append : (xs ys : List ℕ) → entries_of pairs (xs ++ ys) ≡ entries_of pairs xs ++ entries_of pairs ys
    entries-append [] ys = refl
    entries-append (x ∷ xs) ys =
        ap (cons_entry x (pair_at pairs x)) (entries-append xs ys) ∙ cons_entry-append x (pair_at pairs x) (entries_of pairs xs) (entries_of pairs ys)

    pub length-entries : (xs : List ℕ) → ((i : ℕ) → In i xs → pair_at pairs i ≢ None) → length (entries_of pairs xs) ≡ length xs
    length-entries [] filled = refl
    length-entries (x ∷ xs) filled =
        let (pair, is) = some_of (pair_at pairs x) (filled x (inl refl)) in
        let rest : length (entries_of pairs xs) ≡ length xs = length-entries xs (λ i h. filled i (inr h)) in
        rw is (ap suc rest)

    pub all_entries : (P : Entry K V → Type 0) (xs : List ℕ) → ((i : ℕ) (key : K) (value : V) → In i xs → pair_at pairs i ≡ Some (key, value) → P (entry i key value)) → AllByRecursion P (entries_of pairs xs)
    all_entries P [] each = tt
    all_entries P (x ∷ xs) each =
        cons_all P x (pair_at pairs x) _ (λ key value is. each x key value (inl refl) is) (all_entries P xs (λ i key value h is. each i key value (inr h) is))

    pub each_entry : (P : Entry K V → Type 0) (xs : List ℕ) → AllByRecursion P (entries_of pairs xs) → (i : ℕ) (key : K) (value : V) → In i xs → pair_at pairs i ≡ Some (key, value) → P (entry i key value)
    each_entry P [] all i key value h is = absurd h
    each_entry P (x ∷ xs) all i key value h is =
        elim h [
          | inl same ↦
              let here : pair_at pairs x ≡ Some (key, value) = ap (pair_at pairs) same ∙ is in
              let cons : AllByRecursion P (entry x key value ∷ entries_of pairs xs) = subst (λ o. AllByRecursion P (cons_entry x o (entries_of pairs xs))) here all in
              subst (λ k. P (entry k key value)) same cons.0
          | inr later ↦ each_entry P xs (all_tail P x (pair_at pairs x) _ all) i key value later is
        ]

    pub any_entry : (P : Entry K V → Type 0) (xs : List ℕ) (i : ℕ) (key : K) (value : V) → In i xs → pair_at pairs i ≡ Some (key, value) → P (entry i key value) → Any P (entries_of pairs xs)
    any_entry P [] i key value h is holds = absurd h
    any_entry P (x ∷ xs) i key value h is holds =
        elim h [
          | inl same ↦
              let here : pair_at pairs x ≡ Some (key, value) = ap (pair_at pairs) same ∙ is in
              rw here (Any-head P (entry x key value) (entries_of pairs xs) (subst (λ k. P (entry k key value)) (sym same) holds))
          | inr later ↦ any_tail P x (pair_at pairs x) _ (any_entry P xs i key value later is holds)
        ]

    pub entry_in : (P : Entry K V → Type 0) (xs : List ℕ) → ((i : ℕ) → In i xs → pair_at pairs i ≢ None) → Any P (entries_of pairs xs) → IsEntry pairs xs P
    entry_in P [] filled (k, e, below, at, holds) = absurd (omega arith)
    entry_in P (x ∷ xs) filled any =
        let (pair, is) = some_of (pair_at pairs x) (filled x (inl refl)) in
        let cons : Any P (entry x pair.0 pair.1 ∷ entries_of pairs xs) = subst (λ o. Any P (cons_entry x o (entries_of pairs xs))) is any in
        elim (Any-cases P _ _ cons) [
          | inl here ↦ record { node = x; key = pair.0; value = pair.1; within = inl refl; pair = is; holds = here }
          | inr later ↦
              let rest = entry_in P xs (λ i h. filled i (inr h)) later in
              record { node = rest.node; key = rest.key; value = rest.value; within = inr rest.within; pair = rest.pair; holds = rest.holds }
        ]

    -- two entries are in two slots
    pub pairwise_entries : (R : Entry K V → Entry K V → Type 0) (xs : List ℕ) → Apart xs → ((i j : ℕ) (key other : K) (value rest : V) → i ≢ j → pair_at pairs i ≡ Some (key, value) → pair_at pairs j ≡ Some (other, rest) → R (entry i key value) (entry j other rest)) → Pairwise R (entries_of pairs xs)
    pairwise_entries R [] apart each = tt
    pairwise_entries R (x ∷ xs) apart each =
        cons_pairwise x (pair_at pairs x) (entries_of pairs xs) (pairwise_entries R xs apart.1 each) (λ key value is. all_entries (R (entry x key value)) xs (λ j other rest h there. each x j key other value rest (λ same. apart.0 (subst (λ k. In k xs) (sym same) h)) is there))
      where
        cons_pairwise : (x : ℕ) (o : Option (K × V)) (l : List (Entry K V)) → Pairwise R l → ((key : K) (value : V) → o ≡ Some (key, value) → AllByRecursion (R (entry x key value)) l) → Pairwise R (cons_entry x o l)
        cons_pairwise x None l rest here = rest
        cons_pairwise x (Some p) l rest here = (here p.0 p.1 refl, rest)

    -- the removal of a slot that is not listed changes no list
    without_none : (s : ℕ) (xs : List ℕ) → (In s xs → ⊥) → without (entries_of pairs xs) (slot_of s) ≡ entries_of pairs xs
    without_none s [] none = refl
    without_none s (x ∷ xs) none = cons_without (pair_at pairs x) (without_none s xs (λ h. none (inr h)))
      where
        cons_without : (o : Option (K × V)) → without (entries_of pairs xs) (slot_of s) ≡ entries_of pairs xs → without (cons_entry x o (entries_of pairs xs)) (slot_of s) ≡ cons_entry x o (entries_of pairs xs)
        cons_without None rest = rest
        cons_without (Some p) rest = rw (ne_eqb x s (λ same. none (inl same))) (ap (λ l. entry x p.0 p.1 ∷ l) rest)

    only_none : (s : ℕ) (xs : List ℕ) → (In s xs → ⊥) → only (entries_of pairs xs) (slot_of s) ≡ []
    only_none s [] none = refl
    only_none s (x ∷ xs) none = cons_only (pair_at pairs x) (only_none s xs (λ h. none (inr h)))
      where
        cons_only : (o : Option (K × V)) → only (entries_of pairs xs) (slot_of s) ≡ [] → only (cons_entry x o (entries_of pairs xs)) (slot_of s) ≡ []
        cons_only None rest = rest
        cons_only (Some p) rest = rw (ne_eqb x s (λ same. none (inl same))) rest

    module _ (s : ℕ) (key : K) (value : V) (pair : pair_at pairs s ≡ Some (key, value)) (before after : List ℕ) (not_before : In s before → ⊥) (not_after : In s after → ⊥) where
      whole : entries_of pairs (before ++ s ∷ after) ≡ entries_of pairs before ++ entry s key value ∷ entries_of pairs after
      whole = entries-append before (s ∷ after) ∙ ap (λ o. entries_of pairs before ++ cons_entry s o (entries_of pairs after)) pair

      itself : (s == s) ≡ true
      itself = eq-eqb s s refl

      pub without-entries : without (entries_of pairs (before ++ s ∷ after)) (slot_of s) ≡ entries_of pairs (before ++ after)
      without-entries =
          let tail : without (entry s key value ∷ entries_of pairs after) (slot_of s) ≡ entries_of pairs after = rw itself (without_none s after not_after) in
          ap (λ l. without l (slot_of s)) whole ∙ (filter-append (λ (e : Entry K V). not (e.slot.0 == s)) (entries_of pairs before) (entry s key value ∷ entries_of pairs after) ∙ (ap (λ l. l ++ without (entry s key value ∷ entries_of pairs after) (slot_of s)) (without_none s before not_before) ∙ (ap (λ l. entries_of pairs before ++ l) tail ∙ sym (entries-append before after))))

      pub only-entries : only (entries_of pairs (before ++ s ∷ after)) (slot_of s) ≡ entry s key value ∷ []
      only-entries =
          let tail : only (entry s key value ∷ entries_of pairs after) (slot_of s) ≡ entry s key value ∷ [] = rw itself (ap (λ l. entry s key value ∷ l) (only_none s after not_after)) in
          ap (λ l. only l (slot_of s)) whole ∙ (filter-append (λ (e : Entry K V). e.slot.0 == s) (entries_of pairs before) (entry s key value ∷ entries_of pairs after) ∙ (ap (λ l. l ++ only (entry s key value ∷ entries_of pairs after) (slot_of s)) (only_none s before not_before) ∙ tail))

  -- a write to a slot that is not listed changes no entry
  pub entries-kept : (pairs new : List (Option (K × V))) (xs : List ℕ) → ((i : ℕ) → In i xs → pair_at new i ≡ pair_at pairs i) → entries_of new xs ≡ entries_of pairs xs
  entries-kept pairs new [] same = refl
  entries-kept pairs new (x ∷ xs) same =
      ap (λ o. cons_entry x o (entries_of new xs)) (same x (inl refl)) ∙ ap (cons_entry x (pair_at pairs x)) (entries-kept pairs new xs (λ i h. same i (inr h)))

-- The entries of a table split at a slot: without its entry, and with another value of it.

module _ {K V : Type 0} where
  pub split_at : (entries : List (Entry K V)) (slot : Slot) → IsIn entries slot → AllPairs (λ e f. e.slot ≢ f.slot) entries → AllPairs (λ e f. e.key ≢ f.key) entries → SplitAt entries slot
  split_at entries slot inside slots keys =
      let s = split_any (λ (e : Entry K V). e.slot ≡ slot) entries inside in
      let by_slot = subst (λ l. Pairwise (λ (e f : Entry K V). e.slot ≢ f.slot) l) s.splits (pairwise (λ (e f : Entry K V). e.slot ≢ f.slot) entries slots) in
      let by_key = subst (λ l. Pairwise (λ (e f : Entry K V). e.key ≢ f.key) l) s.splits (pairwise (λ (e f : Entry K V). e.key ≢ f.key) entries keys) in
      record {
        before = s.before;
        here = s.here;
        after = s.after;
        splits = s.splits;
        named = s.holds;
        slots_before = pairs_before (λ (e f : Entry K V). e.slot ≢ f.slot) s.before s.here s.after by_slot;
        slots_after = all_weaker _ _ (λ e ne h. ne (sym h)) s.after (pairs_after (λ (e f : Entry K V). e.slot ≢ f.slot) s.before s.here s.after by_slot);
        keys_before = pairs_before (λ (e f : Entry K V). e.key ≢ f.key) s.before s.here s.after by_key;
        keys_after = all_weaker _ _ (λ e ne h. ne (sym h)) s.after (pairs_after (λ (e f : Entry K V). e.key ≢ f.key) s.before s.here s.after by_key);
      }

  -- a fact of the entry of the slot
  pub wherever : (P : Entry K V → Type 0) (entries : List (Entry K V)) (slot : Slot) (a : SplitAt entries slot) → Wherever entries slot P → P a.here
  wherever P entries slot a all =
      let whole = recursion_from_All (λ (e : Entry K V). e.slot ≡ slot → P e) entries all in
      let split = subst (λ l. AllByRecursion (λ (e : Entry K V). e.slot ≡ slot → P e) l) a.splits whole in
      (all_after (λ (e : Entry K V). e.slot ≡ slot → P e) a.before (a.here ∷ a.after) split).0 a.named

  -- the entries without one, and with another value of one
  pub left_out : (entries : List (Entry K V)) (slot : Slot) (a : SplitAt entries slot) → table.without entries slot ≡ a.before ++ a.after
  left_out entries slot a =
      let mk : ℕ → Slot = λ n. record { 0 = n } in
      let named : a.here.slot.0 ≡ slot.0 = ap (λ (s : Slot). s.0) a.named in
      let apart : (e : Entry K V) → e.slot ≢ a.here.slot → not (e.slot.0 == slot.0) ≡ true =
      λ e ne. rw (ne_eqb e.slot.0 slot.0 (λ same. ne (ap mk (same ∙ sym named)))) refl in
      let here : not (a.here.slot.0 == slot.0) ≡ false = ap (λ n. not (n == slot.0)) named ∙ ap not (eq-eqb slot.0 slot.0 refl) in
      ap (λ l. table.without l slot) a.splits
      ∙ filter_rest (λ (e : Entry K V). not (e.slot.0 == slot.0)) a.before a.here a.after
      (all_weaker (λ (e : Entry K V). e.slot ≢ a.here.slot) (λ (e : Entry K V). not (e.slot.0 == slot.0) ≡ true) apart a.before a.slots_before) here
      (all_weaker (λ (e : Entry K V). e.slot ≢ a.here.slot) (λ (e : Entry K V). not (e.slot.0 == slot.0) ≡ true) apart a.after a.slots_after)

  pub valued : (entries : List (Entry K V)) (slot : Slot) (a : SplitAt entries slot) (value : V)
      → with_value entries slot value ≡ a.before ++ record a.here { value = value } ∷ a.after
  valued entries slot a value =
      let mk : ℕ → Slot = λ n. record { 0 = n } in
      let named : a.here.slot.0 ≡ slot.0 = ap (λ (s : Slot). s.0) a.named in
      let apart : (e : Entry K V) → e.slot ≢ a.here.slot → (e.slot.0 == slot.0) ≡ false =
      λ e ne. ne_eqb e.slot.0 slot.0 (λ same. ne (ap mk (same ∙ sym named))) in
      let here : (a.here.slot.0 == slot.0) ≡ true = ap (λ n. n == slot.0) named ∙ eq-eqb slot.0 slot.0 refl in
      let left = map_same (revalued slot value) a.before (all_weaker (λ (e : Entry K V). e.slot ≢ a.here.slot) _ (λ e ne. rw (apart e ne) refl) a.before a.slots_before) in
      let right = map_same (revalued slot value) a.after (all_weaker (λ (e : Entry K V). e.slot ≢ a.here.slot) _ (λ e ne. rw (apart e ne) refl) a.after a.slots_after) in
      let same : revalued slot value a.here ≡ record a.here { value = value } = rw here refl in
      ap (map (revalued slot value)) a.splits ∙ (map-append (revalued slot value) a.before (a.here ∷ a.after)
      ∙ (ap (λ l. l ++ revalued slot value a.here ∷ map (revalued slot value) a.after) left
      ∙ (ap (λ l. a.before ++ revalued slot value a.here ∷ l) right ∙ ap (λ x. a.before ++ x ∷ a.after) same)))

-- What follows for the entries of a sound table.

ring_apart : (links : List Links) (hub p : ℕ) (xs : List ℕ) → (In hub xs → ⊥) → IsRing links p xs hub → Apart xs
ring_apart links hub p [] none ring = tt
ring_apart links hub p (x ∷ xs) none ring =
    (not_after links hub p [] x xs none ring, ring_apart links hub x xs (λ h. none (inr h)) ring.1)

-- `len` steps from the sentinel lead through its whole ring
pub walk_ring : {links : List Links} {slots hub : ℕ} {nodes : List ℕ} {len : ℕ} → HasRing links slots hub nodes → length nodes ≡ len → walk links len hub ≡ nodes
walk_ring {links} {slots} {hub} {nodes} has count = subst (λ n. walk links n hub ≡ nodes) count (walk-ring links hub nodes hub has.ring)

module _ {K V : Type 0} (hash : K → ℕ) (max : ℕ) (nodes : Columns K V) (hubs : List Links) (len : ℕ) (sound : IsSound hash max nodes hubs len) where
  pub used_apart : Apart sound.used
  used_apart = ring_apart nodes.recency max max sound.used (hub_apart sound.used_ring) sound.used_ring.ring

  -- the sentinel of a bucket, whose number the code computes
  pub hub_read : (hash_is slots bucket : ℕ) → slots ≡ length nodes.pairs → bucket ≡ bucket_number hash_is (length hubs) → slots + bucket ≡ max + 2 + bucket_number hash_is (length sound.buckets)
  hub_read hash_is slots bucket slots_is bucket_is =
      let same : bucket ≡ bucket_number hash_is (length sound.buckets) = bucket_is ∙ ap (bucket_number hash_is) sound.hub_count in
      omega (arith, same, slots_is, sound.pair_nodes)

  module _ (table : Table K V) (is : table_of max nodes len ≡ table) where
    pub entries_are : table.entries ≡ entries_of nodes.pairs sound.used
    entries_are = sym (ap (λ (t : Table K V). t.entries) is) ∙ ap (entries_of nodes.pairs) (walk_ring sound.used_ring sound.used_count)

    pub max_is : table.max ≡ max
    max_is = sym (ap (λ (t : Table K V). t.max) is)

    pub len_is : len ≡ length table.entries
    len_is = rw entries_are (sym (length-entries nodes.pairs sound.used sound.used_filled ∙ sound.used_count))

    pub len_bounded : length table.entries ≤ table.max
    len_bounded = omega (arith, len_is, max_is, sound.total)

    pub slots_below : All (λ e. e.slot.0 < table.max) table.entries
    slots_below = rw entries_are (All-from_recursion (λ e. e.slot.0 < table.max) _ (all_entries nodes.pairs (λ e. e.slot.0 < table.max) sound.used (λ i key value h pair. rw max_is (sound.used_ring.inside i h))))

    pub slots_apart : AllPairs (λ e f. e.slot ≢ f.slot) table.entries
    slots_apart = rw entries_are (AllPairs-from_recursion (λ e f. e.slot ≢ f.slot) _ (pairwise_entries nodes.pairs (λ e f. e.slot ≢ f.slot) sound.used used_apart (λ i j key other value rest ne pair there same. ne (ap (λ (k : _). k.0) same))))

    pub keys_apart : AllPairs (λ e f. e.key ≢ f.key) table.entries
    keys_apart = rw entries_are (AllPairs-from_recursion (λ e f. e.key ≢ f.key) _ (pairwise_entries nodes.pairs (λ e f. e.key ≢ f.key) sound.used used_apart (λ i j key other value rest ne pair there same. ne (sound.keys_apart i j key value rest pair (subst (λ k. pair_at nodes.pairs j ≡ Some (k, rest)) (sym same) there)))))

-- What a read of a slot, or of the node of the sentinel, means for the entries.

-- the fact of the pair that a slot holds
abbrev on_pair : {K V : Type 0} → (Entry K V → Type 0) → ℕ → Option (K × V) → Type 0
on_pair P node None = Unit {0}
on_pair P node (Some pair) = P (entry node pair.0 pair.1)

module _ {K V : Type 0} (hash : K → ℕ) (max : ℕ) (nodes : Columns K V) (hubs : List Links) (len : ℕ) (sound : IsSound hash max nodes hubs len) (table : Table K V) (is : table_of max nodes len ≡ table) where
  -- an entry has the slot
  pub record IsUsed (slot : Slot) : Type 0 where
    pub key : K
    pub value : V
    pub within : In slot.0 sound.used
    pub pair : pair_at nodes.pairs slot.0 ≡ Some (key, value)

  pub used_of : (slot : Slot) → IsIn table.entries slot → IsUsed slot
  used_of slot listed =
      let found = entry_in nodes.pairs (λ e. e.slot ≡ slot) sound.used sound.used_filled (rw (← entries_are hash max nodes hubs len sound table is) listed) in
      let named : found.node ≡ slot.0 = ap (λ (s : Slot). s.0) found.holds in
      record { key = found.key; value = found.value; within = subst (λ k. In k sound.used) named found.within; pair = ap (pair_at nodes.pairs) (sym named) ∙ found.pair }

  pub is_in : (node : ℕ) → In node sound.used → IsIn table.entries (slot_of node)
  is_in node within =
      let (pair, pair_is) = some_of (pair_at nodes.pairs node) (sound.used_filled node within) in
      rw (entries_are hash max nodes hubs len sound table is) (any_entry nodes.pairs (λ e. e.slot ≡ slot_of node) sound.used node pair.0 pair.1 within pair_is refl)

  -- what holds for the pair in a slot holds for the entry of the slot
  pub pair_wherever : (P : Entry K V → Type 0) (slot : Slot) (key : K) (value : V) → pair_at nodes.pairs slot.0 ≡ Some (key, value) → P (entry slot.0 key value) → Wherever table.entries slot P
  pair_wherever P slot key value pair holds =
      let each = all_entries nodes.pairs (λ e. e.slot ≡ slot → P e) sound.used (λ i other rest within there named.
      let node_is : slot.0 ≡ i = ap (λ (s : Slot). s.0) (sym named) in
      let same : ◌≡◌ {A = Option (K × V)} (Some (key, value)) (Some (other, rest)) = sym pair ∙ (ap (pair_at nodes.pairs) node_is ∙ there) in
      subst (λ k. P (entry k other rest)) node_is (subst (on_pair P slot.0) same holds)) in
      rw (entries_are hash max nodes hubs len sound table is) (All-from_recursion (λ e. e.slot ≡ slot → P e) _ each)

  module _ (slot : Slot) where
    slot_inside : IsIn table.entries slot → slot.0 < max
    slot_inside listed = sound.used_ring.inside slot.0 (used_of slot listed).within

    pub slot_in_pairs : IsIn table.entries slot → slot.0 < length nodes.pairs
    slot_in_pairs listed = omega (arith, slot_inside listed, sound.pair_nodes)

    pub slot_in_links : IsIn table.entries slot → slot.0 < length nodes.recency
    slot_in_links listed = omega (arith, slot_inside listed, sound.used_ring.hub_in)

    -- the value that the code reads in the slot
    pub read_is : IsIn table.entries slot → (x : Option (K × V)) → x ≡ get_or nodes.pairs slot.0 x → x ≡ pair_at nodes.pairs slot.0
    read_is listed x read = read ∙ get_or_default nodes.pairs slot.0 x None (slot_in_pairs listed)

    pub read_some : IsIn table.entries slot → (x : Option (K × V)) → x ≡ get_or nodes.pairs slot.0 x → x ≢ None
    read_some listed x read none =
        let f : ◌≡◌ {A = Option (K × V)} (Some ((used_of slot listed).key, (used_of slot listed).value)) None = sym (used_of slot listed).pair ∙ (sym (read_is listed x read) ∙ none) in
        cc

    -- the pair after the reference that the code has to the slot
    pub read_pair : IsIn table.entries slot → (x : Option (K × V)) → x ≡ get_or nodes.pairs slot.0 x → (pair : K × V) → Some pair ≡ x → pair_at nodes.pairs slot.0 ≡ Some pair
    read_pair listed x read pair pair_is = sym (read_is listed x read) ∙ sym pair_is

    pub read_wherever : (P : Entry K V → Type 0) → IsIn table.entries slot → (x : Option (K × V)) → x ≡ get_or nodes.pairs slot.0 x → (key : K) (value : V) → x ≡ Some (key, value) → P (entry slot.0 key value) → Wherever table.entries slot P
    read_wherever P listed x read key value x_is holds =
        pair_wherever P slot key value (sym (read_is listed x read) ∙ x_is) holds

  -- the node after the sentinel of the entries,
  pub record ReadsFirst (node : ℕ) : Type 0 where
    pub none : node ≡ max → None ≡ first_slot table.entries
    pub some : node ≢ max → Some (slot_of node) ≡ first_slot table.entries
    pub listed : node ≢ max → IsIn table.entries (slot_of node)

  pub reads_first : (node : ℕ) → node ≡ (link_at nodes.recency max).after → ReadsFirst node
  reads_first node node_is = rw node_is (go sound.used refl sound.used_ring.ring)
    where
      go : (list : List ℕ) → sound.used ≡ list → IsRing nodes.recency max list max → ReadsFirst (link_at nodes.recency max).after
      go [] used_is ring = record {
        none = λ _. rw (entries_are hash max nodes hubs len sound table is, used_is) refl;
        some = λ not_hub. absurd (not_hub ring.on);
        listed = λ not_hub. absurd (not_hub ring.on);
      }
      go (x ∷ xs) used_is ring =
          let within : In x sound.used = subst (λ l. In x l) (sym used_is) (inl refl) in
          let (pair, pair_is) = some_of (pair_at nodes.pairs x) (sound.used_filled x within) in
          let inside = sound.used_ring.inside x within in
          record {
            none = λ hub_is. absurd (omega (arith, inside, ring.0.on, hub_is));
            some = λ _. rw (ring.0.on, entries_are hash max nodes hubs len sound table is, used_is, pair_is) refl;
            listed = λ _. rw ring.0.on (is_in x within);
          }
