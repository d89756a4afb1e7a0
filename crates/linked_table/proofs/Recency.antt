-- An entry moves to the end of the list by recency, or leaves it and its bucket.
use Rattle.std.proofs.Common.{◌≡◌, ℕ, ◌+◌, ◌<◌, inl, inr, Some, List, [], ◌∷◌, ◌++◌, length, refl, sym, ap, subst, ◌∙◌, arith, length-append, append-nil, ◌≢◌, ◌-◌, Option, None, set}
use Rattle.std.proofs.lemmas.Bool.{cases_eq}
use Rattle.linked_table.specs.declared.list.Links.{Links}
use Rattle.linked_table.specs.declared.table.Slot.{Slot}
use Rattle.linked_table.specs.RingWalks.{link_at, walk}
use Rattle.linked_table.specs.working.Rings.{In, HasRing, unlinked, linked_last}
use Rattle.linked_table.specs.NodeColumns.{Columns}
use Rattle.linked_table.specs.TableEntries.{pair_at, entries_of, table_of}
use Rattle.linked_table.specs.working.SoundTable.{IsSound, bucket_number, bucket_at}
use Rattle.linked_table.specs.EntryTable.{Table, IsIn, without, only}
use Rattle.linked_table.proofs.Rings.{In-splits, In-append_left, In-append_right, In-append_cases, In-whole, In-rest, cut_slot, cut_inside, cut_before_inside, cut_after_inside, cut_not_before, cut_not_after, cut_gone, last_ends, HasRing-cut, HasRing-cut_other, length-cut, push_last_inside, HasRing-push, HasRing-push_other}
use Rattle.linked_table.proofs.Entries.{entries-append, without-entries, only-entries, walk_ring, entries_are, used_of, entries-kept}
use Rattle.linked_table.proofs.Nodes.{bucket_below, same_key, Writes, writes, Changes, changes}

-- An entry moves to the end of the ring by recency.

module _ {K V : Type 0} (hash : K → ℕ) (max : ℕ) (nodes : Columns K V) (hubs : List Links) (len : ℕ) (sound : IsSound hash max nodes hubs len) where
  -- a slot in use, between those before it and after it in the list by recency
  pub record IsPlaced (s : ℕ) : Type 0 where
    pub key : K
    pub value : V
    pub pair : pair_at nodes.pairs s ≡ Some (key, value)
    pub before : List ℕ
    pub after : List ℕ
    pub used_is : sound.used ≡ before ++ s ∷ after
    pub has : HasRing nodes.recency max max (before ++ s ∷ after)
    pub not_free : In s sound.free → ⊥

  pub placed : (table : Table K V) → table_of max nodes len ≡ table → (slot : Slot) → IsIn table.entries slot → IsPlaced slot.0
  placed table is slot listed =
      let used = used_of hash max nodes hubs len sound table is slot listed in
      let split = In-splits slot.0 sound.used used.within in
      record {
        key = used.key;
        value = used.value;
        pair = used.pair;
        before = split.before;
        after = split.after;
        used_is = split.splits;
        has = subst (λ l. HasRing nodes.recency max max l) split.splits sound.used_ring;
        not_free = λ h. sound.used_filled slot.0 used.within (sound.free_empty slot.0 h);
      }

  module _ (s : ℕ) (at : IsPlaced s) where
    pub placed_inside : s < length nodes.recency
    placed_inside = cut_inside nodes.recency max max at.before s at.after at.has

    pub placed_before_inside : (link_at nodes.recency s).before < length nodes.recency
    placed_before_inside = cut_before_inside nodes.recency max max at.before s at.after at.has

    pub placed_after_inside : (link_at nodes.recency s).after < length nodes.recency
    placed_after_inside = cut_after_inside nodes.recency max max at.before s at.after at.has

    -- the ring of the entries without the slot, and that of the free slots
    pub placed_cut : HasRing (unlinked nodes.recency s) max max (at.before ++ at.after)
    placed_cut = HasRing-cut nodes.recency max max at.before s at.after at.has

    pub placed_cut_free : HasRing (unlinked nodes.recency s) max (max + 1) sound.free
    placed_cut_free = HasRing-cut_other nodes.recency max max at.before s at.after at.has (max + 1) sound.free sound.free_ring at.not_free

    pub placed_slot : s < max
    placed_slot = cut_slot nodes.recency max max at.before s at.after at.has

    pub placed_gone : In s (at.before ++ at.after) → ⊥
    placed_gone = cut_gone nodes.recency max max at.before s at.after at.has

    pub placed_entries : (table : Table K V) → table_of max nodes len ≡ table → table.entries ≡ entries_of nodes.pairs (at.before ++ s ∷ at.after)
    placed_entries table is = entries_are hash max nodes hubs len sound table is ∙ ap (entries_of nodes.pairs) at.used_is

    pub placed_without : (table : Table K V) → table_of max nodes len ≡ table → without table.entries (record { 0 = s }) ≡ entries_of nodes.pairs (at.before ++ at.after)
    placed_without table is =
        rw (placed_entries table is) (without-entries nodes.pairs s at.key at.value at.pair at.before at.after (cut_not_before nodes.recency max max at.before s at.after at.has) (cut_not_after nodes.recency max max at.before s at.after at.has))

    placed_only : (table : Table K V) → table_of max nodes len ≡ table → only table.entries (record { 0 = s }) ≡ entries_of nodes.pairs (s ∷ [])
    placed_only table is =
        rw (placed_entries table is, at.pair) (only-entries nodes.pairs s at.key at.value at.pair at.before at.after (cut_not_before nodes.recency max max at.before s at.after at.has) (cut_not_after nodes.recency max max at.before s at.after at.has))

    -- the node is linked in as the last before the sentinel of the entries
    pub touched_last_inside : (link_at (unlinked nodes.recency s) max).before < length nodes.recency
    touched_last_inside =
        omega (arith, push_last_inside (unlinked nodes.recency s) max max (at.before ++ at.after) placed_cut s placed_slot placed_gone, length-cut nodes.recency max max at.before s at.after at.has)

    In-touched : (i : ℕ) → In i sound.used → In i ((at.before ++ at.after) ++ s ∷ [])
    In-touched i h =
        elim (In-rest i s at.before at.after (subst (λ l. In i l) at.used_is h)) [
          | inl same ↦ In-append_right i (at.before ++ at.after) (s ∷ []) (inl same)
          | inr rest ↦ In-append_left i (at.before ++ at.after) (s ∷ []) rest
        ]

    In-untouched : (i : ℕ) → In i ((at.before ++ at.after) ++ s ∷ []) → In i sound.used
    In-untouched i h =
        let whole : In i (at.before ++ s ∷ at.after) = elim (In-append_cases i (at.before ++ at.after) (s ∷ []) h) [
          | inl rest ↦ In-whole i s at.before at.after rest
          | inr last ↦ elim last [ inl same ↦ In-append_right i at.before (s ∷ at.after) (inl same) | inr none ↦ absurd none ]
        ] in
        subst (λ l. In i l) (sym at.used_is) whole

    pub touch_ring : HasRing (linked_last (unlinked nodes.recency s) max s) max max ((at.before ++ at.after) ++ s ∷ [])
    touch_ring = HasRing-push (unlinked nodes.recency s) max max (at.before ++ at.after) placed_cut s placed_slot placed_gone

    touch_count : length ((at.before ++ at.after) ++ s ∷ []) ≡ len
    touch_count = omega (arith, sound.used_count, ap length at.used_is, length-append at.before (s ∷ at.after), length-append (at.before ++ at.after) (s ∷ []), length-append at.before at.after)

    abbrev pub touched : Columns K V
    touched = record nodes { recency = linked_last (unlinked nodes.recency s) max s }

    pub touch_sound : IsSound hash max touched hubs len
    touch_sound = record {
      used = (at.before ++ at.after) ++ s ∷ [];
      free = sound.free;
      buckets = sound.buckets;
      used_ring = touch_ring;
      free_ring = HasRing-push_other (unlinked nodes.recency s) max max (at.before ++ at.after) placed_cut s placed_slot placed_gone (max + 1) sound.free placed_cut_free (λ same. absurd (omega arith)) at.not_free;
      bucket_rings = sound.bucket_rings;
      pair_nodes = sound.pair_nodes;
      chain_nodes = sound.chain_nodes;
      hub_count = sound.hub_count;
      some_bucket = sound.some_bucket;
      room = sound.room;
      used_count = touch_count;
      total = sound.total;
      bucket_total = sound.bucket_total;
      used_filled = λ i h. sound.used_filled i (In-untouched i h);
      free_empty = sound.free_empty;
      bucket_hashed = sound.bucket_hashed;
      kept = λ i key value pair. (let kept = sound.kept i key value pair in record { used_in = In-touched i kept.used_in; bucket_in = kept.bucket_in });
      keys_apart = sound.keys_apart;
    }

    pub touch_seen : (table : Table K V) → table_of max nodes len ≡ table → table_of max touched len ≡ record table { entries = without table.entries (record { 0 = s }) ++ only table.entries (record { 0 = s }) }
    touch_seen table is =
        let walked : walk (linked_last (unlinked nodes.recency s) max s) len max ≡ (at.before ++ at.after) ++ s ∷ [] = walk_ring touch_ring touch_count in
        rw (walked, placed_without table is, placed_only table is, ← is) (ap (λ l. record { entries = l; max = max }) (entries-append nodes.pairs (at.before ++ at.after) (s ∷ [])))

    -- a touch of the last entry changes nothing
    pub last_seen : s ≡ (link_at nodes.recency max).before → (table : Table K V) → table_of max nodes len ≡ table → table ≡ record table { entries = without table.entries (record { 0 = s }) ++ only table.entries (record { 0 = s }) }
    last_seen last table is =
        let ends : at.after ≡ [] = last_ends nodes.recency max max at.before s at.after at.has last in
        let same : at.before ++ s ∷ at.after ≡ (at.before ++ at.after) ++ s ∷ [] = rw (ends, append-nil) refl in
        let entries : table.entries ≡ without table.entries (record { 0 = s }) ++ only table.entries (record { 0 = s }) =
        rw (placed_without table is, placed_only table is) (placed_entries table is ∙ (ap (entries_of nodes.pairs) same ∙ entries-append nodes.pairs (at.before ++ at.after) (s ∷ []))) in
        ap (λ l. record table { entries = l }) entries

    -- the same of the values that the code wrote
    module _ (new : Columns K V) (new_is : new ≡ touched) where
      pub touch_sound_read : IsSound hash max new hubs len
      touch_sound_read = rw new_is touch_sound

      pub touch_seen_read : (table : Table K V) → table_of max nodes len ≡ table → table_of max new len ≡ record table { entries = without table.entries (record { 0 = s }) ++ only table.entries (record { 0 = s }) }
      touch_seen_read table is = rw new_is (touch_seen table is)

-- An entry leaves the list by recency and its bucket, and its slot is free.

module _ {K V : Type 0} (hash : K → ℕ) (max : ℕ) (nodes : Columns K V) (hubs : List Links) (len : ℕ) (sound : IsSound hash max nodes hubs len) (s : ℕ) (at : IsPlaced hash max nodes hubs len sound s) where
  abbrev pub b : ℕ
  b = bucket_number (hash at.key) (length sound.buckets)

  -- the slot, between those before it and after it in its bucket
  pub record IsChained : Type 0 where
    pub left : List ℕ
    pub right : List ℕ
    pub bucket_is : bucket_at sound.buckets b ≡ left ++ s ∷ right
    pub has : HasRing (nodes.chains ++ hubs) max (max + 2 + b) (left ++ s ∷ right)

  pub in_range : b < length sound.buckets
  in_range = bucket_below (hash at.key) (length sound.buckets) sound.some_bucket

  pub chained : IsChained
  chained =
      let split = In-splits s (bucket_at sound.buckets b) (sound.kept s at.key at.value at.pair).bucket_in in
      record {
        left = split.before;
        right = split.after;
        bucket_is = split.splits;
        has = subst (λ l. HasRing (nodes.chains ++ hubs) max (max + 2 + b) l) split.splits (sound.bucket_rings b in_range);
      }

  -- the slot is in no other bucket
  pub not_elsewhere : (c : ℕ) → c ≢ b → In s (bucket_at sound.buckets c) → ⊥
  not_elsewhere c ne h =
      let hashed = sound.bucket_hashed c s h in
      let key_is : at.key ≡ hashed.key = same_key at.key hashed.key at.value hashed.value (sym at.pair ∙ hashed.pair) in
      ne (sym hashed.bucket_is ∙ ap (λ k. bucket_number (hash k) (length sound.buckets)) (sym key_is))

  -- the node is linked in as the last before the sentinel of the free slots
  pub freed_last_inside : (link_at (unlinked nodes.recency s) (max + 1)).before < length nodes.recency
  freed_last_inside =
      omega (arith, push_last_inside (unlinked nodes.recency s) max (max + 1) sound.free (placed_cut_free hash max nodes hubs len sound s at) s (placed_slot hash max nodes hubs len sound s at) at.not_free, length-cut nodes.recency max max at.before s at.after at.has)

  pub chain_before_inside : (link_at (nodes.chains ++ hubs) s).before < length (nodes.chains ++ hubs)
  chain_before_inside = cut_before_inside (nodes.chains ++ hubs) max (max + 2 + b) chained.left s chained.right chained.has

  pub chain_after_inside : (link_at (nodes.chains ++ hubs) s).after < length (nodes.chains ++ hubs)
  chain_after_inside = cut_after_inside (nodes.chains ++ hubs) max (max + 2 + b) chained.left s chained.right chained.has

  pub len_positive : 0 < len
  len_positive = omega (arith, sound.used_count, ap length at.used_is, length-append at.before (s ∷ at.after))

  abbrev new_pairs : List (Option (K × V))
  new_pairs = set nodes.pairs s None

  abbrev new_buckets : List (List ℕ)
  new_buckets = set sound.buckets b (chained.left ++ chained.right)

  pair_writes : Writes nodes.pairs (set nodes.pairs s None) s None
  pair_writes = writes nodes.pairs s None (omega (arith, placed_slot hash max nodes hubs len sound s at, sound.pair_nodes))

  bucket_changes : Changes sound.buckets new_buckets b (chained.left ++ chained.right)
  bucket_changes = changes sound.buckets b (chained.left ++ chained.right) in_range

  -- a slot that has a pair afterwards is another one, and had it before
  still : (i : ℕ) (key : K) (value : V) → pair_at new_pairs i ≡ Some (key, value) → (i ≢ s) × (pair_at nodes.pairs i ≡ Some (key, value))
  still i key value pair =
      let other : i ≢ s = λ same. (let f : ◌≡◌ {A = Option (K × V)} None (Some (key, value)) = sym pair_writes.here ∙ (ap (pair_at new_pairs) (sym same) ∙ pair) in cc) in
      (other, sym (pair_writes.else i other) ∙ pair)

  -- a slot of a bucket afterwards is another one, and was in it before
  In-bucket : (c i : ℕ) → In i (bucket_at new_buckets c) → (i ≢ s) × In i (bucket_at sound.buckets c)
  In-bucket c i h =
      elim (cases_eq c b) [
        | inl same ↦
            let rest : In i (chained.left ++ chained.right) = subst (λ l. In i l) bucket_changes.here (subst (λ k. In i (bucket_at new_buckets k)) same h) in
            let whole : In i (bucket_at sound.buckets b) = subst (λ l. In i l) (sym chained.bucket_is) (In-whole i s chained.left chained.right rest) in
            ((λ here. cut_gone (nodes.chains ++ hubs) max (max + 2 + b) chained.left s chained.right chained.has (subst (λ k. In k (chained.left ++ chained.right)) here rest)), subst (λ k. In i (bucket_at sound.buckets k)) (sym same) whole)
        | inr ne ↦
            let old : In i (bucket_at sound.buckets c) = subst (λ l. In i l) (bucket_changes.else c ne) h in
            ((λ here. not_elsewhere c ne (subst (λ k. In k (bucket_at sound.buckets c)) here old)), old)
      ]

  In-bucket_still : (c i : ℕ) → i ≢ s → In i (bucket_at sound.buckets c) → In i (bucket_at new_buckets c)
  In-bucket_still c i other h =
      elim (cases_eq c b) [
        | inl same ↦
            let whole : In i (chained.left ++ s ∷ chained.right) = subst (λ l. In i l) chained.bucket_is (subst (λ k. In i (bucket_at sound.buckets k)) same h) in
            let rest : In i (bucket_at new_buckets b) = elim (In-rest i s chained.left chained.right whole) [ inl here ↦ absurd (other (sym here)) | inr rest ↦ subst (λ l. In i l) (sym bucket_changes.here) rest ] in
            subst (λ k. In i (bucket_at new_buckets k)) (sym same) rest
        | inr ne ↦ subst (λ l. In i l) (sym (bucket_changes.else c ne)) h
      ]

  removed_ring : HasRing (linked_last (unlinked nodes.recency s) (max + 1) s) max max (at.before ++ at.after)
  removed_ring =
      HasRing-push_other (unlinked nodes.recency s) max (max + 1) sound.free (placed_cut_free hash max nodes hubs len sound s at) s (placed_slot hash max nodes hubs len sound s at) at.not_free max (at.before ++ at.after) (placed_cut hash max nodes hubs len sound s at) (λ same. absurd (omega arith)) (placed_gone hash max nodes hubs len sound s at)

  freed_ring : HasRing (linked_last (unlinked nodes.recency s) (max + 1) s) max (max + 1) (sound.free ++ s ∷ [])
  freed_ring =
      HasRing-push (unlinked nodes.recency s) max (max + 1) sound.free (placed_cut_free hash max nodes hubs len sound s at) s (placed_slot hash max nodes hubs len sound s at) at.not_free

  chain_rings : (c : ℕ) → c < length sound.buckets → HasRing (unlinked (nodes.chains ++ hubs) s) max (max + 2 + c) (bucket_at new_buckets c)
  chain_rings c below =
      elim (cases_eq c b) [
        | inl same ↦ rw (same, bucket_changes.here) (HasRing-cut (nodes.chains ++ hubs) max (max + 2 + b) chained.left s chained.right chained.has)
        | inr ne ↦ rw (bucket_changes.else c ne) (HasRing-cut_other (nodes.chains ++ hubs) max (max + 2 + b) chained.left s chained.right chained.has (max + 2 + c) (bucket_at sound.buckets c) (sound.bucket_rings c below) (not_elsewhere c ne))
      ]

  removed_count : length (at.before ++ at.after) ≡ len - 1
  removed_count = omega (arith, sound.used_count, ap length at.used_is, length-append at.before (s ∷ at.after), length-append at.before at.after)

  -- the nodes without the entry, with these links in buckets
  abbrev pub removed : List Links → Columns K V
  removed chains = record { recency = linked_last (unlinked nodes.recency s) (max + 1) s; chains = chains; pairs = set nodes.pairs s None }

  pub remove_sound : (new_chains new_hubs : List Links) → new_chains ++ new_hubs ≡ unlinked (nodes.chains ++ hubs) s → length new_chains ≡ length nodes.chains → length new_hubs ≡ length hubs → IsSound hash max (removed new_chains) new_hubs (len - 1)
  remove_sound new_chains new_hubs links_are chain_count hub_count = record {
    used = at.before ++ at.after;
    free = sound.free ++ s ∷ [];
    buckets = new_buckets;
    used_ring = removed_ring;
    free_ring = freed_ring;
    bucket_rings = λ c below. rw links_are (chain_rings c (omega (arith, below, bucket_changes.number)));
    pair_nodes = pair_writes.number ∙ sound.pair_nodes;
    chain_nodes = chain_count ∙ sound.chain_nodes;
    hub_count = hub_count ∙ (sound.hub_count ∙ sym bucket_changes.number);
    some_bucket = omega (arith, sound.some_bucket, bucket_changes.number);
    room = omega (arith, sound.room, bucket_changes.number);
    used_count = removed_count;
    total = omega (arith, sound.total, len_positive, length-append sound.free (s ∷ []));
    bucket_total = omega (arith, bucket_changes.total, sound.bucket_total, ap length chained.bucket_is, length-append chained.left (s ∷ chained.right), length-append chained.left chained.right);
    used_filled = λ i h.
        let other : i ≢ s = λ same. placed_gone hash max nodes hubs len sound s at (subst (λ k. In k (at.before ++ at.after)) same h) in
        let was : In i sound.used = subst (λ l. In i l) (sym at.used_is) (In-whole i s at.before at.after h) in
        λ none. sound.used_filled i was (sym (pair_writes.else i other) ∙ none);
    free_empty = λ i h. elim (cases_eq i s) [
      | inl same ↦ rw same pair_writes.here
      | inr other ↦ elim (In-append_cases i sound.free (s ∷ []) h) [
        | inl free ↦ pair_writes.else i other ∙ sound.free_empty i free
        | inr last ↦ elim last [ inl same ↦ absurd (other (sym same)) | inr none ↦ absurd none ]
      ]
    ];
    bucket_hashed = λ c i h.
        let old = In-bucket c i h in
        let hashed = sound.bucket_hashed c i old.1 in
        record {
          key = hashed.key;
          value = hashed.value;
          pair = pair_writes.else i old.0 ∙ hashed.pair;
          bucket_is = ap (λ n. bucket_number (hash hashed.key) n) bucket_changes.number ∙ hashed.bucket_is;
        };
    kept = λ i key value pair.
        let old = still i key value pair in
        let kept = sound.kept i key value old.1 in
        record {
          used_in = elim (In-rest i s at.before at.after (subst (λ l. In i l) at.used_is kept.used_in)) [ inl same ↦ absurd (old.0 (sym same)) | inr rest ↦ rest ];
          bucket_in = rw bucket_changes.number (In-bucket_still (bucket_number (hash key) (length sound.buckets)) i old.0 kept.bucket_in);
        };
    keys_apart = λ i j key value rest pair there. sound.keys_apart i j key value rest (still i key value pair).1 (still j key rest there).1;
  }

  pub remove_seen : (table : Table K V) → table_of max nodes len ≡ table → (new_chains : List Links) → table_of max (removed new_chains) (len - 1) ≡ record table { entries = without table.entries (record { 0 = s }) }
  remove_seen table is new_chains =
      let same : (i : ℕ) → In i (at.before ++ at.after) → pair_at (set nodes.pairs s None) i ≡ pair_at nodes.pairs i = λ i h. pair_writes.else i (λ here. placed_gone hash max nodes hubs len sound s at (subst (λ k. In k (at.before ++ at.after)) here h)) in
      rw (walk_ring removed_ring removed_count, placed_without hash max nodes hubs len sound s at table is, ← is) (ap (λ l. record { entries = l; max = max }) (entries-kept nodes.pairs (set nodes.pairs s None) (at.before ++ at.after) same))

  -- the same of the values that the code wrote
  module _ (moved : Columns K V) (moved_is : moved ≡ record nodes { recency = linked_last (unlinked nodes.recency s) (max + 1) s }) (apart : Columns K V) (apart_is : apart ≡ record moved { chains = apart.chains }) (place : Option (K × V)) (place_is : place ≡ None) (new : Columns K V) (new_is : new ≡ record apart { pairs = set apart.pairs s place }) where
    whole : new ≡ removed apart.chains
    whole =
        new_is ∙ (ap (λ (c : Columns K V). record c { pairs = set c.pairs s place }) (apart_is ∙ ap (λ (c : Columns K V). record c { chains = apart.chains }) moved_is) ∙ ap (λ p. record (removed apart.chains) { pairs = set nodes.pairs s p }) place_is)

    pub remove_sound_read : (new_hubs : List Links) → apart.chains ++ new_hubs ≡ unlinked (nodes.chains ++ hubs) s → length apart.chains ≡ length nodes.chains → length new_hubs ≡ length hubs → IsSound hash max new new_hubs (len - 1)
    remove_sound_read new_hubs links_are chain_count hub_count = rw whole (remove_sound apart.chains new_hubs links_are chain_count hub_count)

    pub remove_seen_read : (table : Table K V) → table_of max nodes len ≡ table → table_of max new (len - 1) ≡ record table { entries = without table.entries (record { 0 = s }) }
    remove_seen_read table is = rw whole (remove_seen table is apart.chains)
