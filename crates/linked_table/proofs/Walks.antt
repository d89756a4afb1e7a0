-- The walk along the ring of the entries, from the least recently touched on, and the walk along
-- the ring of a bucket.
use Rattle.std.proofs.Common.{◌≡◌, ◌≢◌, ℕ, ◌+◌, ◌-◌, ◌<◌, Bool, true, false, inl, inr, Option, Some, None, List, [], ◌∷◌, ◌++◌, length, get_or, refl, sym, ap, subst, ◌∙◌, arith, append_assoc, append-nil, ◌≤◌, Bor}
use Rattle.std.specs.Fn.{Shared}
use Rattle.std.specs.List.{All, AllByRecursion}
use Rattle.std.proofs.lemmas.List.{get_or_default}
use Rattle.std.proofs.lemmas.List.Elements.{All-from_recursion, recursion_from_All}
use Rattle.std.specs.Cmp.{IsEquivalence}
use Rattle.std.proofs.lemmas.List.Sums.{sum_by-set}
use Rattle.linked_table.specs.declared.list.Links.{Links}
use Rattle.linked_table.specs.declared.table.Slot.{Slot}
use Rattle.linked_table.specs.RingWalks.{link_at}
use Rattle.linked_table.specs.working.Rings.{In, IsRing}
use Rattle.linked_table.specs.NodeColumns.{Columns}
use Rattle.linked_table.specs.TableEntries.{slot_of, pair_at, cons_entry, entries_of, table_of}
use Rattle.linked_table.specs.working.SoundTable.{IsSound, bucket_number, bucket_at}
use Rattle.linked_table.specs.EntryTable.{Table, Entry, IsIn, IsCallableAt, Answers, PassesFirst, HasNone, Wherever}
use Rattle.linked_table.proofs.Rings.{In-append_right}
use Rattle.linked_table.proofs.Entries.{entry, entries-append, each_entry, is_in, entries_are, all_entries, pair_wherever}
use Rattle.linked_table.proofs.Nodes.{bucket_below, same_key}

-- The walk along the ring of the entries, from the least recently touched on.

module _ {K V F : Type 0} (calls : Shared F (Slot × (Bor V × Unit {0})) Bool) (test : F) where
  -- `left` slots remain in the ring, and the entries of those passed were refused
  pub record IsScan (max : ℕ) (nodes : Columns K V) (entries : List (Entry K V)) (node left : ℕ) : Type 0 where
    pub passed : List ℕ
    pub rest : List ℕ
    pub entries_are : entries ≡ entries_of nodes.pairs (passed ++ rest)
    pub ring : IsRing nodes.recency node rest max
    pub number : length rest ≡ left
    pub within : node < length nodes.recency
    pub inside : (i : ℕ) → In i rest → i < max
    pub slots_in : max < length nodes.recency
    pub pair_nodes : length nodes.pairs ≡ max + 2
    pub held : (i : ℕ) → In i rest → pair_at nodes.pairs i ≢ None
    pub refused : AllByRecursion (λ e. Answers calls test e false) (entries_of nodes.pairs passed)

  module _ (max : ℕ) (nodes : Columns K V) (entries : List (Entry K V)) (node left : ℕ) (scan : IsScan max nodes entries node left) where
    -- the next slot
    pub record IsMet (next : ℕ) : Type 0 where
      pub inside : next < length nodes.recency
      pub some : pair_at nodes.pairs next ≢ None
      pub read : (x : Option (K × V)) → x ≡ get_or nodes.pairs next x → x ≡ pair_at nodes.pairs next
      pub callable : (key : K) (value : V) → pair_at nodes.pairs next ≡ Some (key, value) → All (IsCallableAt calls test) entries → IsCallableAt calls test (entry next key value)
      pub passes : (shown : Bor V) (answer : Bool) → calls.post test (slot_of next, (shown, tt)) answer → answer ≡ true → (key : K) → pair_at nodes.pairs next ≡ Some (key, shown.now) → PassesFirst calls test entries (slot_of next)
      pub more : (shown : Bor V) (answer : Bool) → calls.post test (slot_of next, (shown, tt)) answer → answer ≡ false → (key : K) → pair_at nodes.pairs next ≡ Some (key, shown.now) → IsScan max nodes entries next (left - 1)

    pub met : 0 < left → (next : ℕ) → next ≡ (link_at nodes.recency node).after → IsMet next
    met some_left next next_is = go scan.rest refl scan.ring
      where
        go : (rest : List ℕ) → scan.rest ≡ rest → IsRing nodes.recency node rest max → IsMet next
        go [] rest_is ring = absurd (omega (arith, ap length rest_is, scan.number))
        go (x ∷ xs) rest_is ring =
            let listed : In x scan.rest = subst (λ l. In x l) (sym rest_is) (inl refl) in
            let inside = scan.inside x listed in
            let whole : entries ≡ entries_of nodes.pairs (scan.passed ++ x ∷ xs) = scan.entries_are ∙ ap (λ l. entries_of nodes.pairs (scan.passed ++ l)) rest_is in
            let parts : entries ≡ entries_of nodes.pairs scan.passed ++ cons_entry x (pair_at nodes.pairs x) (entries_of nodes.pairs xs) = whole ∙ entries-append nodes.pairs scan.passed (x ∷ xs) in
            rw (next_is, ring.0.on) (record {
              inside = omega (arith, inside, scan.slots_in);
              some = scan.held x listed;
              read = λ y read. read ∙ get_or_default nodes.pairs x y None (omega (arith, inside, scan.pair_nodes));
              callable = λ key value pair all. each_entry nodes.pairs (IsCallableAt calls test) (scan.passed ++ x ∷ xs) (rw (← whole) (recursion_from_All (IsCallableAt calls test) entries all)) x key value (In-append_right x scan.passed (x ∷ xs) (inl refl)) pair;
              passes = λ shown answer post is key pair. record {
                before = entries_of nodes.pairs scan.passed;
                entry = entry x key shown.now;
                after = entries_of nodes.pairs xs;
                splits = parts ∙ ap (λ o. entries_of nodes.pairs scan.passed ++ cons_entry x o (entries_of nodes.pairs xs)) pair;
                named = refl;
                passes = (shown, refl, subst (λ b. calls.post test (slot_of x, (shown, tt)) b) is post);
                earlier = All-from_recursion (λ e. Answers calls test e false) (entries_of nodes.pairs scan.passed) scan.refused;
              };
              more = λ shown answer post is key pair. record {
                passed = scan.passed ++ x ∷ [];
                rest = xs;
                entries_are = whole ∙ ap (entries_of nodes.pairs) (sym (append_assoc scan.passed (x ∷ []) xs));
                ring = ring.1;
                number = omega (arith, ap length rest_is, scan.number);
                within = omega (arith, inside, scan.slots_in);
                inside = λ i h. scan.inside i (subst (λ l. In i l) (sym rest_is) (inr h));
                slots_in = scan.slots_in;
                pair_nodes = scan.pair_nodes;
                held = λ i h. scan.held i (subst (λ l. In i l) (sym rest_is) (inr h));
                refused = refused_more x key shown.now pair (shown, refl, subst (λ b. calls.post test (slot_of x, (shown, tt)) b) is post);
              };
            })
          where
            both : (l m : List (Entry K V)) → AllByRecursion (λ e. Answers calls test e false) l → AllByRecursion (λ e. Answers calls test e false) m → AllByRecursion (λ e. Answers calls test e false) (l ++ m)
            both [] m first second = second
            both (e ∷ es) m first second = (first.0, both es m first.1 second)

            refused_more : (x : ℕ) (key : K) (value : V) → pair_at nodes.pairs x ≡ Some (key, value) → Answers calls test (entry x key value) false → AllByRecursion (λ e. Answers calls test e false) (entries_of nodes.pairs (scan.passed ++ x ∷ []))
            refused_more x key value pair refused =
                rw (entries-append nodes.pairs scan.passed (x ∷ []), pair) (both (entries_of nodes.pairs scan.passed) (entry x key value ∷ []) scan.refused (refused, tt))

    -- after as many steps as there are entries all were refused
    pub all_refused : left ≡ 0 → All (λ e. Answers calls test e false) entries
    all_refused out = go scan.rest refl
      where
        go : (rest : List ℕ) → scan.rest ≡ rest → All (λ e. Answers calls test e false) entries
        go [] rest_is =
            let all : entries ≡ entries_of nodes.pairs scan.passed = scan.entries_are ∙ (ap (λ l. entries_of nodes.pairs (scan.passed ++ l)) rest_is ∙ ap (entries_of nodes.pairs) (append-nil scan.passed)) in
            rw all (All-from_recursion (λ e. Answers calls test e false) (entries_of nodes.pairs scan.passed) scan.refused)
        go (x ∷ xs) rest_is = absurd (omega (arith, ap length rest_is, scan.number, out))

  module _ (hash : K → ℕ) (max : ℕ) (nodes : Columns K V) (hubs : List Links) (len : ℕ) (sound : IsSound hash max nodes hubs len) (table : Table K V) (is : table_of max nodes len ≡ table) where
    -- the walk begins at the sentinel
    pub scan_begins : (node : ℕ) → node ≡ max → IsScan max nodes table.entries node len
    scan_begins node node_is = rw node_is (record {
      passed = [];
      rest = sound.used;
      entries_are = entries_are hash max nodes hubs len sound table is;
      ring = sound.used_ring.ring;
      number = sound.used_count;
      within = sound.used_ring.hub_in;
      inside = sound.used_ring.inside;
      slots_in = sound.used_ring.hub_in;
      pair_nodes = sound.pair_nodes;
      held = sound.used_filled;
      refused = tt;
    })

    pub passed_in : (node : ℕ) (key : K) (value : V) → pair_at nodes.pairs node ≡ Some (key, value) → IsIn table.entries (slot_of node)
    passed_in node key value pair = is_in hash max nodes hubs len sound table is node (sound.kept node key value pair).used_in

-- The walk along the ring of one bucket.

-- the walk is at a node: the slots left in the ring have pairs, and a slot that has the key is one
-- of them
pub record IsSearch {K V : Type 0} (pairs : List (Option (K × V))) (chains : List Links) (hub : ℕ) (key : K) (node left : ℕ) : Type 0 where
  pub rest : List ℕ
  pub from : ℕ
  pub ring : IsRing chains from rest hub
  pub at : node ≡ (link_at chains from).after
  pub few : length rest ≤ left
  pub inside : (i : ℕ) → In i rest → i < length pairs
  pub past : length pairs ≤ hub
  pub hub_in : hub < length chains
  pub held : (i : ℕ) → In i rest → pair_at pairs i ≢ None
  pub found : (i : ℕ) (value : V) → pair_at pairs i ≡ Some (key, value) → In i rest

module _ {K V : Type 0} (pairs : List (Option (K × V))) (chains : List Links) (hub : ℕ) (key : K) (node left : ℕ) (search_at : IsSearch pairs chains hub key node left) where
  -- the next slot, and those left after it
  pub record IsNext : Type 0 where
    pub slot : node < length pairs
    pub within : node < length chains
    pub more : (node_key : K) (value : V) → pair_at pairs node ≡ Some (node_key, value) → node_key ≢ key → IsSearch pairs chains hub key (link_at chains node).after (left - 1)
    pub some : pair_at pairs node ≢ None
    pub read : (x : Option (K × V)) → x ≡ get_or pairs node x → x ≡ pair_at pairs node

  pub next_of : node ≢ hub → IsNext
  next_of not_hub = go search_at.rest refl search_at.ring
    where
      go : (rest : List ℕ) → search_at.rest ≡ rest → IsRing chains search_at.from rest hub → IsNext
      go [] rest_is ring = absurd (not_hub (search_at.at ∙ ring.on))
      go (x ∷ xs) rest_is ring =
          let node_is : node ≡ x = search_at.at ∙ ring.0.on in
          let listed : In node search_at.rest = subst (λ l. In node l) (sym rest_is) (inl (sym node_is)) in
          let later : (i : ℕ) → In i xs → In i search_at.rest = λ i h. subst (λ l. In i l) (sym rest_is) (inr h) in
          record {
            slot = search_at.inside node listed;
            within = omega (arith, search_at.inside node listed, search_at.past, search_at.hub_in);
            some = search_at.held node listed;
            read = λ x read. read ∙ get_or_default pairs node x None (search_at.inside node listed);
            more = λ node_key value pair differs. record {
              rest = xs;
              from = x;
              ring = ring.1;
              at = ap (λ k. (link_at chains k).after) node_is;
              few = omega (arith, search_at.few, ap length rest_is);
              inside = λ i h. search_at.inside i (later i h);
              past = search_at.past;
              hub_in = search_at.hub_in;
              held = λ i h. search_at.held i (later i h);
              found = λ i other there.
                  let whole : In i (x ∷ xs) = subst (λ l. In i l) rest_is (search_at.found i other there) in
                  elim whole [
                    | inl same ↦
                        let here : pair_at pairs node ≡ Some (key, other) = ap (pair_at pairs) (node_is ∙ same) ∙ there in
                        absurd (differs (same_key node_key key value other (sym pair ∙ here)))
                    | inr h ↦ h
                  ];
            };
          }

  -- at the sentinel, or after `len` steps, no slot is left
  pub none_left : (node ≡ hub) → search_at.rest ≡ []
  none_left at_hub = go search_at.rest refl search_at.ring
    where
      go : (rest : List ℕ) → search_at.rest ≡ rest → IsRing chains search_at.from rest hub → search_at.rest ≡ []
      go [] rest_is ring = rest_is
      go (x ∷ xs) rest_is ring =
          let x_is : x ≡ hub = sym ring.0.on ∙ (sym search_at.at ∙ at_hub) in
          let below = search_at.inside x (subst (λ l. In x l) (sym rest_is) (inl refl)) in
          absurd (omega (arith, below, x_is, search_at.past))

  pub none_at_end : left ≡ 0 → search_at.rest ≡ []
  none_at_end out = go search_at.rest search_at.few
    where
      go : (rest : List ℕ) → length rest ≤ left → rest ≡ []
      go [] few = refl
      go (x ∷ xs) few = absurd (omega (arith, few, out))

module _ {K V : Type 0} (hash : K → ℕ) (max : ℕ) (nodes : Columns K V) (hubs : List Links) (len : ℕ) (sound : IsSound hash max nodes hubs len) (table : Table K V) (is : table_of max nodes len ≡ table) (key : K) where
  in_range : bucket_number (hash key) (length sound.buckets) < length sound.buckets
  in_range = bucket_below (hash key) (length sound.buckets) sound.some_bucket

  -- the walk begins after the sentinel of the key's bucket
  pub begins : (hub : ℕ) → hub ≡ max + 2 + bucket_number (hash key) (length sound.buckets) → (node : ℕ) → node ≡ (link_at (nodes.chains ++ hubs) hub).after → IsSearch nodes.pairs (nodes.chains ++ hubs) hub key node len
  begins hub hub_is node node_is =
      let b = bucket_number (hash key) (length sound.buckets) in
      let has = sound.bucket_rings b in_range in
      rw hub_is (record {
        rest = bucket_at sound.buckets b;
        from = max + 2 + b;
        ring = has.ring;
        at = node_is ∙ ap (λ k. (link_at (nodes.chains ++ hubs) k).after) hub_is;
        few = omega (arith, sum_by-set length sound.buckets b [] [] in_range, sound.bucket_total);
        inside = λ i h. omega (arith, has.inside i h, sound.pair_nodes);
        past = omega (arith, sound.pair_nodes);
        hub_in = has.hub_in;
        held = λ i h none. (let hashed = sound.bucket_hashed b i h in let f : ◌≡◌ {A = Option (K × V)} (Some (hashed.key, hashed.value)) None = sym hashed.pair ∙ none in cc);
        found = λ i value pair. (sound.kept i key value pair).bucket_in;
      })

  -- no slot is left, so no entry has the key
  pub none_has : (hub node left : ℕ) → (search_at : IsSearch nodes.pairs (nodes.chains ++ hubs) hub key node left) → search_at.rest ≡ [] → HasNone table.entries key
  none_has hub node left search_at rest_is =
      rw (entries_are hash max nodes hubs len sound table is) (All-from_recursion (λ (e : Entry K V). e.key ≢ key) _ (all_entries nodes.pairs (λ e. e.key ≢ key) sound.used (λ i other value within pair same.
      let there : pair_at nodes.pairs i ≡ Some (key, value) = pair ∙ ap (λ k. Some (k, value)) same in
      let left : In i [] = subst (λ l. In i l) rest_is (search_at.found i value there) in
      left)))

  pub none_whichever : (result : Option Slot) → HasNone table.entries key → All (λ e. e.key ≡ key → result ≡ Some e.slot) table.entries
  none_whichever result none k d below same = absurd (none k d below same)

  -- a slot with the key is that of the entry with it
  pub record HasKey (node : ℕ) : Type 0 where
    pub listed : IsIn table.entries (slot_of node)
    pub same : Wherever table.entries (slot_of node) (λ e. e.key ≡ key)
    pub whichever : All (λ e. e.key ≡ key → Some (slot_of node) ≡ Some e.slot) table.entries
    pub some : HasNone table.entries key → ⊥

  pub has_key : (node : ℕ) (own : K) (value : V) → pair_at nodes.pairs node ≡ Some (own, value) → own ≡ key → HasKey node
  has_key node own value pair own_is =
      let here : pair_at nodes.pairs node ≡ Some (key, value) = pair ∙ ap (λ k. Some (k, value)) own_is in
      let within = (sound.kept node key value here).used_in in
      record {
        listed = is_in hash max nodes hubs len sound table is node within;
        same = pair_wherever hash max nodes hubs len sound table is (λ e. e.key ≡ key) (slot_of node) own value pair own_is;
        whichever = rw (entries_are hash max nodes hubs len sound table is) (All-from_recursion (λ (e : Entry K V). e.key ≡ key → Some (slot_of node) ≡ Some e.slot) _ (all_entries nodes.pairs (λ e. e.key ≡ key → Some (slot_of node) ≡ Some e.slot) sound.used (λ i other rest h there other_is.
            let there_key : pair_at nodes.pairs i ≡ Some (key, rest) = there ∙ ap (λ k. Some (k, rest)) other_is in
            ap (λ k. Some (slot_of k)) (sound.keys_apart node i key value rest here there_key))));
        some = λ none. each_entry nodes.pairs (λ e. e.key ≢ key) sound.used (rw (← entries_are hash max nodes hubs len sound table is) (recursion_from_All (λ (e : Entry K V). e.key ≢ key) table.entries none)) node own value within pair own_is;
      }

-- a key compares equal to itself
pub differs : {K : Type 0} (eq : K → K → Bool) → IsEquivalence eq → (own key : K) → eq own key ≡ false → own ≢ key
differs eq laws own key unequal same =
    let equal : eq own key ≡ true = subst (λ k. eq own k ≡ true) same (laws.refl own) in
    let f : true ≡ false = sym equal ∙ unequal in
    cc
