-- A write to a slot: a free slot gets an entry, or the entry of a slot another value.
use Rattle.std.proofs.Common.{◌≡◌, ◌≢◌, ℕ, ◌+◌, ◌<◌, inl, inr, Option, Some, None, List, [], ◌∷◌, ◌++◌, length, set, get_or, refl, sym, ap, subst, ◌∙◌, arith, length-append}
use Rattle.std.proofs.lemmas.Bool.{cases_eq, eq-eqb, ne_eqb}
use Rattle.std.proofs.lemmas.List.{get_or_default}
use Rattle.std.proofs.lemmas.List.Elements.{All-from_recursion, recursion_from_All}
use Rattle.linked_table.specs.declared.list.Links.{Links}
use Rattle.linked_table.specs.RingWalks.{link_at}
use Rattle.linked_table.specs.working.Rings.{In, IsRing, HasRing, unlinked, linked_last}
use Rattle.linked_table.specs.NodeColumns.{Columns}
use Rattle.linked_table.specs.working.SoundTable.{bucket_number, bucket_at, IsSound, IsKept}
use Rattle.linked_table.specs.TableEntries.{slot_of, pair_at, cons_entry, entries_of, table_of}
use Rattle.linked_table.specs.EntryTable.{Table, Entry, HasNone, IsNotIn, with_value}
use Rattle.linked_table.proofs.Rings.{In-append_cases, In-append_left, In-append_right, In-whole, last_splits, cut_slot, cut_inside, cut_before_inside, cut_after_inside, cut_gone, HasRing-cut, HasRing-cut_other, length-cut, push_last_inside, HasRing-push, HasRing-push_other}
use Rattle.linked_table.proofs.Entries.{entry, entries-append, entries-kept, all_entries, each_entry, walk_ring, entries_are, max_is, len_is}
use Rattle.linked_table.proofs.Nodes.{bucket_below, same_key, Writes, writes, Changes, changes}

-- A free slot is filled, and becomes the last of the list by recency and of the bucket of its key.

module _ {K V : Type 0} (hash : K → ℕ) (max : ℕ) (nodes : Columns K V) (hubs : List Links) (len : ℕ) (sound : IsSound hash max nodes hubs len) where
  module _ (table : Table K V) (is : table_of max nodes len ≡ table) where
    pub full_seen : len ≡ max → length table.entries ≡ table.max
    full_seen full = omega (arith, full, len_is hash max nodes hubs len sound table is, max_is hash max nodes hubs len sound table is)

    pub not_full : len ≢ max → length table.entries ≢ table.max
    not_full room same = room (omega (arith, same, len_is hash max nodes hubs len sound table is, max_is hash max nodes hubs len sound table is))

    -- no slot has the key
    pub absent_of : (key : K) → HasNone table.entries key → (i : ℕ) (other : K) (value : V) → pair_at nodes.pairs i ≡ Some (other, value) → other ≢ key
    absent_of key none i other value pair =
        let all = recursion_from_All (λ (e : Entry K V). e.key ≢ key) table.entries none in
        each_entry nodes.pairs (λ e. e.key ≢ key) sound.used (rw (← entries_are hash max nodes hubs len sound table is) all) i other value (sound.kept i other value pair).used_in pair

  -- the last slot of the ring of the free slots
  pub record IsSpare (s : ℕ) : Type 0 where
    pub front : List ℕ
    pub free_is : sound.free ≡ front ++ s ∷ []
    pub has : HasRing nodes.recency max (max + 1) (front ++ s ∷ [])
    pub empty : pair_at nodes.pairs s ≡ None

  pub spare : (s : ℕ) → s ≡ (link_at nodes.recency (max + 1)).before → len ≢ max → IsSpare s
  spare s s_is room = go sound.free refl sound.free_ring.ring
    where
      go : (list : List ℕ) → sound.free ≡ list → IsRing nodes.recency (max + 1) list (max + 1) → IsSpare s
      go [] free_is ring = absurd (room (omega (arith, ap length free_is, sound.total)))
      go (x ∷ xs) free_is ring =
          let last = last_splits nodes.recency (max + 1) x xs (max + 1) ring in
          let splits : sound.free ≡ last.front ++ s ∷ [] = free_is ∙ (last.splits ∙ ap (λ k. last.front ++ k ∷ []) (sym s_is)) in
          record {
            front = last.front;
            free_is = splits;
            has = subst (λ l. HasRing nodes.recency max (max + 1) l) splits sound.free_ring;
            empty = sound.free_empty s (subst (λ l. In s l) (sym splits) (In-append_right s last.front (s ∷ []) (inl refl)));
          }

  module _ (s : ℕ) (at : IsSpare s) where
    pub spare_slot : s < max
    spare_slot = cut_slot nodes.recency max (max + 1) at.front s [] at.has

    spare_in_nodes : s < length nodes.pairs
    spare_in_nodes = omega (arith, spare_slot, sound.pair_nodes)

    pub spare_inside : s < length nodes.recency
    spare_inside = cut_inside nodes.recency max (max + 1) at.front s [] at.has

    pub spare_before_inside : (link_at nodes.recency s).before < length nodes.recency
    spare_before_inside = cut_before_inside nodes.recency max (max + 1) at.front s [] at.has

    pub spare_after_inside : (link_at nodes.recency s).after < length nodes.recency
    spare_after_inside = cut_after_inside nodes.recency max (max + 1) at.front s [] at.has

    spare_gone : In s (at.front ++ []) → ⊥
    spare_gone = cut_gone nodes.recency max (max + 1) at.front s [] at.has

    not_used : In s sound.used → ⊥
    not_used h = sound.used_filled s h at.empty

    not_hashed : (c : ℕ) → In s (bucket_at sound.buckets c) → ⊥
    not_hashed c h =
        let hashed = sound.bucket_hashed c s h in
        let f : ◌≡◌ {A = Option (K × V)} None (Some (hashed.key, hashed.value)) = sym at.empty ∙ hashed.pair in
        cc

    free_cut : HasRing (unlinked nodes.recency s) max (max + 1) (at.front ++ [])
    free_cut = HasRing-cut nodes.recency max (max + 1) at.front s [] at.has

    used_cut : HasRing (unlinked nodes.recency s) max max sound.used
    used_cut = HasRing-cut_other nodes.recency max (max + 1) at.front s [] at.has max sound.used sound.used_ring not_used

    pub used_last_inside : (link_at (unlinked nodes.recency s) max).before < length nodes.recency
    used_last_inside =
        omega (arith, push_last_inside (unlinked nodes.recency s) max max sound.used used_cut s spare_slot not_used, length-cut nodes.recency max (max + 1) at.front s [] at.has)

    used_pushed : HasRing (linked_last (unlinked nodes.recency s) max s) max max (sound.used ++ s ∷ [])
    used_pushed = HasRing-push (unlinked nodes.recency s) max max sound.used used_cut s spare_slot not_used

    free_left : HasRing (linked_last (unlinked nodes.recency s) max s) max (max + 1) (at.front ++ [])
    free_left =
        HasRing-push_other (unlinked nodes.recency s) max max sound.used used_cut s spare_slot not_used (max + 1) (at.front ++ []) free_cut (λ same. absurd (omega arith)) spare_gone

    pushed_count : length (sound.used ++ s ∷ []) ≡ len + 1
    pushed_count = omega (arith, sound.used_count, length-append sound.used (s ∷ []))

    pub below_max : (table : Table K V) → table_of max nodes len ≡ table → s < table.max
    below_max table is = omega (arith, spare_slot, max_is hash max nodes hubs len sound table is)

    pub empty_read : (x : Option (K × V)) → x ≡ get_or nodes.pairs s x → x ≡ None
    empty_read x read = read ∙ (get_or_default nodes.pairs s x None spare_in_nodes ∙ at.empty)

    pub fresh_seen : (table : Table K V) → table_of max nodes len ≡ table → IsNotIn table.entries (slot_of s)
    fresh_seen table is =
        rw (entries_are hash max nodes hubs len sound table is) (All-from_recursion (λ (e : Entry K V). e.slot ≢ slot_of s) _ (all_entries nodes.pairs (λ e. e.slot ≢ slot_of s) sound.used (λ i key value h pair same. not_used (subst (λ k. In k sound.used) (ap (λ (slot : _). slot.0) same) h))))

    module _ (key : K) (value : V) where
      abbrev pub b : ℕ
      b = bucket_number (hash key) (length sound.buckets)

      in_range : b < length sound.buckets
      in_range = bucket_below (hash key) (length sound.buckets) sound.some_bucket

      abbrev grown : List ℕ
      grown = bucket_at sound.buckets b ++ s ∷ []

      abbrev new_buckets : List (List ℕ)
      new_buckets = set sound.buckets b grown

      abbrev new_pairs : List (Option (K × V))
      new_pairs = set nodes.pairs s (Some (key, value))

      pair_writes : Writes nodes.pairs new_pairs s (Some (key, value))
      pair_writes = writes nodes.pairs s (Some (key, value)) spare_in_nodes

      bucket_changes : Changes sound.buckets new_buckets b grown
      bucket_changes = changes sound.buckets b grown in_range

      bucket_has : HasRing (nodes.chains ++ hubs) max (max + 2 + b) (bucket_at sound.buckets b)
      bucket_has = sound.bucket_rings b in_range

      pub chain_last_inside : (link_at (nodes.chains ++ hubs) (max + 2 + b)).before < length (nodes.chains ++ hubs)
      chain_last_inside = push_last_inside (nodes.chains ++ hubs) max (max + 2 + b) (bucket_at sound.buckets b) bucket_has s spare_slot (not_hashed b)

      chain_rings : (c : ℕ) → c < length sound.buckets → HasRing (linked_last (nodes.chains ++ hubs) (max + 2 + b) s) max (max + 2 + c) (bucket_at new_buckets c)
      chain_rings c below =
          elim (cases_eq c b) [
            | inl same ↦ rw (same, bucket_changes.here) (HasRing-push (nodes.chains ++ hubs) max (max + 2 + b) (bucket_at sound.buckets b) bucket_has s spare_slot (not_hashed b))
            | inr ne ↦ rw (bucket_changes.else c ne) (HasRing-push_other (nodes.chains ++ hubs) max (max + 2 + b) (bucket_at sound.buckets b) bucket_has s spare_slot (not_hashed b) (max + 2 + c) (bucket_at sound.buckets c) (sound.bucket_rings c below) (λ same. ne (omega (arith, same))) (not_hashed c))
          ]

      -- the slot is in its bucket afterwards, and in no other
      In-bucket_itself : (c : ℕ) → In s (bucket_at new_buckets c) → c ≡ b
      In-bucket_itself c h =
          elim (cases_eq c b) [ inl same ↦ same | inr ne ↦ absurd (not_hashed c (subst (λ l. In s l) (bucket_changes.else c ne) h)) ]

      In-bucket_other : (c i : ℕ) → i ≢ s → In i (bucket_at new_buckets c) → In i (bucket_at sound.buckets c)
      In-bucket_other c i other h =
          elim (cases_eq c b) [
            | inl same ↦
                let more : In i (bucket_at sound.buckets b ++ s ∷ []) = subst (λ l. In i l) bucket_changes.here (subst (λ k. In i (bucket_at new_buckets k)) same h) in
                let old : In i (bucket_at sound.buckets b) = elim (In-append_cases i (bucket_at sound.buckets b) (s ∷ []) more) [
                  | inl left ↦ left
                  | inr last ↦ elim last [ inl here ↦ absurd (other (sym here)) | inr none ↦ absurd none ]
                ] in
                subst (λ k. In i (bucket_at sound.buckets k)) (sym same) old
            | inr ne ↦ subst (λ l. In i l) (bucket_changes.else c ne) h
          ]

      In-bucket_still : (c i : ℕ) → In i (bucket_at sound.buckets c) → In i (bucket_at new_buckets c)
      In-bucket_still c i h =
          elim (cases_eq c b) [
            | inl same ↦
                let old : In i (bucket_at sound.buckets b) = subst (λ k. In i (bucket_at sound.buckets k)) same h in
                let more : In i (bucket_at new_buckets b) = subst (λ l. In i l) (sym bucket_changes.here) (In-append_left i (bucket_at sound.buckets b) (s ∷ []) old) in
                subst (λ k. In i (bucket_at new_buckets k)) (sym same) more
            | inr ne ↦ subst (λ l. In i l) (sym (bucket_changes.else c ne)) h
          ]

      -- the key of the slot afterwards
      key_here : (other : K) (rest : V) → pair_at new_pairs s ≡ Some (other, rest) → key ≡ other
      key_here other rest pair = same_key key other value rest (sym pair_writes.here ∙ pair)

      kept_here : (other : K) → key ≡ other → IsKept hash (sound.used ++ s ∷ []) new_buckets s other
      kept_here other same =
          let last : In s (bucket_at new_buckets b) = subst (λ l. In s l) (sym bucket_changes.here) (In-append_right s (bucket_at sound.buckets b) (s ∷ []) (inl refl)) in
          subst (IsKept hash (sound.used ++ s ∷ []) new_buckets s) same (record {
            used_in = In-append_right s sound.used (s ∷ []) (inl refl);
            bucket_in = rw bucket_changes.number last;
          })

      kept_else : (i : ℕ) (other : K) → IsKept hash sound.used sound.buckets i other → IsKept hash (sound.used ++ s ∷ []) new_buckets i other
      kept_else i other kept = record {
        used_in = In-append_left i sound.used (s ∷ []) kept.used_in;
        bucket_in = rw bucket_changes.number (In-bucket_still (bucket_number (hash other) (length sound.buckets)) i kept.bucket_in);
      }

      -- the nodes with the entry, with these links in buckets
      abbrev pub grown_nodes : List Links → Columns K V
      grown_nodes chains = record { recency = linked_last (unlinked nodes.recency s) max s; chains = chains; pairs = new_pairs }

      pub insert_sound : (new_chains new_hubs : List Links) → new_chains ++ new_hubs ≡ linked_last (nodes.chains ++ hubs) (max + 2 + b) s → length new_chains ≡ length nodes.chains → length new_hubs ≡ length hubs → ((i : ℕ) (other : K) (rest : V) → pair_at nodes.pairs i ≡ Some (other, rest) → other ≢ key) → IsSound hash max (grown_nodes new_chains) new_hubs (len + 1)
      insert_sound new_chains new_hubs links_are chain_count hub_count absent = record {
        used = sound.used ++ s ∷ [];
        free = at.front ++ [];
        buckets = new_buckets;
        used_ring = used_pushed;
        free_ring = free_left;
        bucket_rings = λ c below. rw links_are (chain_rings c (omega (arith, below, bucket_changes.number)));
        pair_nodes = pair_writes.number ∙ sound.pair_nodes;
        chain_nodes = chain_count ∙ sound.chain_nodes;
        hub_count = hub_count ∙ (sound.hub_count ∙ sym bucket_changes.number);
        some_bucket = omega (arith, sound.some_bucket, bucket_changes.number);
        room = omega (arith, sound.room, bucket_changes.number);
        used_count = pushed_count;
        total = omega (arith, sound.total, ap length at.free_is, length-append at.front (s ∷ []), length-append {A = ℕ} at.front []);
        bucket_total = omega (arith, bucket_changes.total, sound.bucket_total, length-append (bucket_at sound.buckets b) (s ∷ []));
        used_filled = λ i h none. elim (cases_eq i s) [
          | inl same ↦ (let f : ◌≡◌ {A = Option (K × V)} (Some (key, value)) None = sym pair_writes.here ∙ (ap (pair_at new_pairs) (sym same) ∙ none) in absurd cc)
          | inr other ↦ elim (In-append_cases i sound.used (s ∷ []) h) [
            | inl used ↦ sound.used_filled i used (sym (pair_writes.else i other) ∙ none)
            | inr last ↦ elim last [ inl here ↦ other (sym here) | inr empty ↦ empty ]
          ]
        ];
        free_empty = λ i h.
            let other : i ≢ s = λ same. spare_gone (subst (λ k. In k (at.front ++ [])) same h) in
            let was : In i sound.free = subst (λ l. In i l) (sym at.free_is) (In-whole i s at.front [] h) in
            pair_writes.else i other ∙ sound.free_empty i was;
        bucket_hashed = λ c i h. elim (cases_eq i s) [
          | inl same ↦
              let mine : c ≡ b = In-bucket_itself c (subst (λ k. In k (bucket_at new_buckets c)) same h) in
              record {
                key = key;
                value = value;
                pair = ap (pair_at new_pairs) same ∙ pair_writes.here;
                bucket_is = ap (λ n. bucket_number (hash key) n) bucket_changes.number ∙ sym mine;
              }
          | inr other ↦
              let hashed = sound.bucket_hashed c i (In-bucket_other c i other h) in
              record {
                key = hashed.key;
                value = hashed.value;
                pair = pair_writes.else i other ∙ hashed.pair;
                bucket_is = ap (λ n. bucket_number (hash hashed.key) n) bucket_changes.number ∙ hashed.bucket_is;
              }
        ];
        kept = λ i other rest pair. elim (cases_eq i s) [
          | inl same ↦
              let here : pair_at new_pairs s ≡ Some (other, rest) = ap (pair_at new_pairs) (sym same) ∙ pair in
              subst (λ k. IsKept hash (sound.used ++ s ∷ []) new_buckets k other) (sym same) (kept_here other (key_here other rest here))
          | inr ne ↦ kept_else i other (sound.kept i other rest (sym (pair_writes.else i ne) ∙ pair))
        ];
        keys_apart = λ i j other rest more pair there. elim (cases_eq i s) [
          | inl i_is ↦ elim (cases_eq j s) [
            | inl j_is ↦ i_is ∙ sym j_is
            | inr j_ne ↦ absurd (absent j other more (sym (pair_writes.else j j_ne) ∙ there) (sym (key_here other rest (ap (pair_at new_pairs) (sym i_is) ∙ pair))))
          ]
          | inr i_ne ↦ elim (cases_eq j s) [
            | inl j_is ↦ absurd (absent i other rest (sym (pair_writes.else i i_ne) ∙ pair) (sym (key_here other more (ap (pair_at new_pairs) (sym j_is) ∙ there))))
            | inr j_ne ↦ sound.keys_apart i j other rest more (sym (pair_writes.else i i_ne) ∙ pair) (sym (pair_writes.else j j_ne) ∙ there)
          ]
        ];
      }

      pub insert_seen : (table : Table K V) → table_of max nodes len ≡ table → (new_chains : List Links) → table_of max (grown_nodes new_chains) (len + 1) ≡ record table { entries = table.entries ++ record { slot = slot_of s; key = key; value = value } ∷ [] }
      insert_seen table is new_chains =
          let same : (i : ℕ) → In i sound.used → pair_at new_pairs i ≡ pair_at nodes.pairs i = λ i h. pair_writes.else i (λ here. not_used (subst (λ k. In k sound.used) here h)) in
          let last : entries_of new_pairs (s ∷ []) ≡ entry s key value ∷ [] = ap (λ o. cons_entry s o []) pair_writes.here in
          let list : entries_of new_pairs (sound.used ++ s ∷ []) ≡ table.entries ++ entry s key value ∷ [] = entries-append new_pairs sound.used (s ∷ []) ∙ (ap (λ l. l ++ entries_of new_pairs (s ∷ [])) (entries-kept nodes.pairs new_pairs sound.used same ∙ sym (entries_are hash max nodes hubs len sound table is)) ∙ ap (λ l. table.entries ++ l) last) in
          rw (walk_ring used_pushed pushed_count, list, max_is hash max nodes hubs len sound table is) refl

  -- the same of the values that the code wrote
  module _ (s : ℕ) (at : IsSpare s) (key : K) (value : V) (moved : Columns K V) (moved_is : moved ≡ record nodes { recency = linked_last (unlinked nodes.recency s) max s }) (chained : Columns K V) (chained_is : chained ≡ record moved { chains = chained.chains }) (place : Option (K × V)) (place_is : place ≡ Some (key, value)) (new : Columns K V) (new_is : new ≡ record chained { pairs = set chained.pairs s place }) where
    whole : new ≡ grown_nodes s at key value chained.chains
    whole =
        new_is ∙ (ap (λ (c : Columns K V). record c { pairs = set c.pairs s place }) (chained_is ∙ ap (λ (c : Columns K V). record c { chains = chained.chains }) moved_is) ∙ ap (λ p. record (grown_nodes s at key value chained.chains) { pairs = set nodes.pairs s p }) place_is)

    pub insert_sound_read : (table : Table K V) → table_of max nodes len ≡ table → HasNone table.entries key → (hub : ℕ) → hub ≡ max + 2 + bucket_number (hash key) (length sound.buckets) → (new_hubs : List Links) → chained.chains ++ new_hubs ≡ linked_last (moved.chains ++ hubs) hub s → length chained.chains ≡ length nodes.chains → length new_hubs ≡ length hubs → IsSound hash max new new_hubs (len + 1)
    insert_sound_read table is none hub hub_is new_hubs links_are chain_count hub_count =
        let linked : chained.chains ++ new_hubs ≡ linked_last (nodes.chains ++ hubs) (max + 2 + bucket_number (hash key) (length sound.buckets)) s = links_are ∙ (ap (λ (c : Columns K V). linked_last (c.chains ++ hubs) hub s) moved_is ∙ ap (λ k. linked_last (nodes.chains ++ hubs) k s) hub_is) in
        rw whole (insert_sound s at key value chained.chains new_hubs linked chain_count hub_count (absent_of table is key none))

    pub insert_seen_read : (table : Table K V) → table_of max nodes len ≡ table → table_of max new (len + 1) ≡ record table { entries = table.entries ++ record { slot = slot_of s; key = key; value = value } ∷ [] }
    insert_seen_read table is = rw whole (insert_seen s at key value table is chained.chains)

-- The value of an entry is replaced.

module _ {K V : Type 0} (hash : K → ℕ) (max : ℕ) (nodes : Columns K V) (hubs : List Links) (len : ℕ) (sound : IsSound hash max nodes hubs len) (s : ℕ) (inside : s < length nodes.pairs) (key : K) (value new : V) (pair : pair_at nodes.pairs s ≡ Some (key, value)) where
  abbrev put_pairs : List (Option (K × V))
  put_pairs = set nodes.pairs s (Some (key, new))

  put_writes : Writes nodes.pairs put_pairs s (Some (key, new))
  put_writes = writes nodes.pairs s (Some (key, new)) inside

  -- a slot has the key afterwards that it had before
  was : (i : ℕ) (other : K) (rest : V) → pair_at put_pairs i ≡ Some (other, rest) → (before : V) × (pair_at nodes.pairs i ≡ Some (other, before))
  was i other rest there =
      elim (cases_eq i s) [
        | inl same ↦
            let key_is : key ≡ other = same_key key other new rest (sym put_writes.here ∙ (ap (pair_at put_pairs) (sym same) ∙ there)) in
            (value, ap (pair_at nodes.pairs) same ∙ (pair ∙ ap (λ k. Some (k, value)) key_is))
        | inr ne ↦ (rest, sym (put_writes.else i ne) ∙ there)
      ]

  filled : (i : ℕ) → pair_at nodes.pairs i ≢ None → pair_at put_pairs i ≢ None
  filled i some none =
      elim (cases_eq i s) [
        | inl same ↦ (let f : ◌≡◌ {A = Option (K × V)} (Some (key, new)) None = sym put_writes.here ∙ (ap (pair_at put_pairs) (sym same) ∙ none) in absurd cc)
        | inr ne ↦ some (sym (put_writes.else i ne) ∙ none)
      ]

  abbrev valued : Columns K V
  valued = record nodes { pairs = put_pairs }

  put_sound : IsSound hash max valued hubs len
  put_sound = record {
    used = sound.used;
    free = sound.free;
    buckets = sound.buckets;
    used_ring = sound.used_ring;
    free_ring = sound.free_ring;
    bucket_rings = sound.bucket_rings;
    pair_nodes = put_writes.number ∙ sound.pair_nodes;
    chain_nodes = sound.chain_nodes;
    hub_count = sound.hub_count;
    some_bucket = sound.some_bucket;
    room = sound.room;
    used_count = sound.used_count;
    total = sound.total;
    bucket_total = sound.bucket_total;
    used_filled = λ i h. filled i (sound.used_filled i h);
    free_empty = λ i h.
        let ne : i ≢ s = λ same. (let f : ◌≡◌ {A = Option (K × V)} (Some (key, value)) None = sym pair ∙ (ap (pair_at nodes.pairs) (sym same) ∙ sound.free_empty i h) in cc) in
        put_writes.else i ne ∙ sound.free_empty i h;
    bucket_hashed = λ c i h.
        let hashed = sound.bucket_hashed c i h in
        elim (cases_eq i s) [
          | inl same ↦ record {
            key = key;
            value = new;
            pair = ap (pair_at put_pairs) same ∙ put_writes.here;
            bucket_is = ap (λ k. bucket_number (hash k) (length sound.buckets)) (same_key key hashed.key value hashed.value (sym pair ∙ (ap (pair_at nodes.pairs) (sym same) ∙ hashed.pair))) ∙ hashed.bucket_is;
          }
          | inr ne ↦ record { key = hashed.key; value = hashed.value; pair = put_writes.else i ne ∙ hashed.pair; bucket_is = hashed.bucket_is }
        ];
    kept = λ i other rest there. sound.kept i other (was i other rest there).0 (was i other rest there).1;
    keys_apart = λ i j other rest more here there. sound.keys_apart i j other (was i other rest here).0 (was j other more there).0 (was i other rest here).1 (was j other more there).1;
  }

  entries-put : (xs : List ℕ) → entries_of put_pairs xs ≡ with_value (entries_of nodes.pairs xs) (slot_of s) new
  entries-put [] = refl
  entries-put (x ∷ xs) =
      elim (cases_eq x s) [
        | inl same ↦
            let here : pair_at put_pairs x ≡ Some (key, new) = ap (pair_at put_pairs) same ∙ put_writes.here in
            let old : pair_at nodes.pairs x ≡ Some (key, value) = ap (pair_at nodes.pairs) same ∙ pair in
            rw (here, old, eq-eqb x s same) (ap (λ l. record { slot = slot_of x; key = key; value = new } ∷ l) (entries-put xs))
        | inr ne ↦ rw (put_writes.else x ne) (cons_else x ne (pair_at nodes.pairs x) _ _ (entries-put xs))
      ]
    where
      cons_else : (x : ℕ) → x ≢ s → (o : Option (K × V)) (l m : List (Entry K V)) → l ≡ with_value m (slot_of s) new → cons_entry x o l ≡ with_value (cons_entry x o m) (slot_of s) new
      cons_else x ne None l m same = same
      cons_else x ne (Some p) l m same = rw (ne_eqb x s ne) (ap (λ k. record { slot = slot_of x; key = p.0; value = p.1 } ∷ k) same)

  put_seen : (table : Table K V) → table_of max nodes len ≡ table → table_of max valued len ≡ record table { entries = with_value table.entries (slot_of s) new }
  put_seen table is =
      rw (walk_ring sound.used_ring sound.used_count, entries-put sound.used, ← entries_are hash max nodes hubs len sound table is, max_is hash max nodes hubs len sound table is) refl

  -- the same of the value that the code wrote
  module _ (place : Option (K × V)) (place_is : place ≡ Some (key, new)) (after : Columns K V) (after_is : after ≡ record nodes { pairs = set nodes.pairs s place }) where
    pub put_sound_read : IsSound hash max after hubs len
    put_sound_read = rw (after_is, place_is) put_sound

    pub put_seen_read : (table : Table K V) → table_of max nodes len ≡ table → table_of max after len ≡ record table { entries = with_value table.entries (slot_of s) new }
    put_seen_read table is = rw (after_is, place_is) (put_seen table is)
