-- Writes to a node, a slot or a bucket, by what each changes; and the nodes of a new table, whose
-- slots are all free.
use Rattle.std.proofs.Common.{◌≡◌, ℕ, ◌+◌, ◌-◌, ◌<◌, ◌≤◌, Option, List, ◌++◌, length, set, get_or, refl, sym, ap, ◌∙◌, arith, length-set, length-append, ◌≢◌, ◌*◌, ◌/◌, ◌%◌, ◌^◌, Some, None, [], get_or-set_same, get_or-set_other, zero, suc, inl, inr, ◌∷◌, map, replicate, subst, add-one}
use Rattle.std.proofs.lemmas.List.{length-map, get_or-map, map-set, set-append_left, set-append_right, get_or_append_left, get_or-append_right, get_or_default, length-replicate, map-append}
use Rattle.std.proofs.Math.Seq.{map-set_same}
use Rattle.std.proofs.Math.ListN.{get_or-map as get_or-map_same}
use Rattle.std.specs.List.{sum_by, range_with_len}
use Rattle.std.proofs.lemmas.Nat.{mul-le}
use Rattle.std.proofs.lemmas.List.Sums.{sum_by-set}
use Rattle.std.proofs.lemmas.List.Folds.{sum_by-replicate}
use Rattle.std.proofs.lemmas.List.FromFn.{get_or-map-range_with_len, length-map-range_with_len, length-range_with_len}
use Rattle.linked_table.specs.declared.list.Links.{Links}
use Rattle.linked_table.specs.declared.node.Node.{Node}
use Rattle.linked_table.specs.RingWalks.{link_at}
use Rattle.linked_table.specs.working.Rings.{with_after, with_before, unlinked, linked_last, lone, In, Joins, HasRing}
use Rattle.linked_table.specs.NodeColumns.{Columns, columns}
use Rattle.linked_table.specs.working.NodeLinks.{chains_of, Rechains, lone_node}
use Rattle.linked_table.specs.TableEntries.{pair_at}
use Rattle.linked_table.specs.working.SoundTable.{bucket_number, bucket_at, IsAllFree, IsSound}
use Rattle.linked_table.proofs.Rings.{push_last_inside, HasRing-push, HasRing-push_other}

-- The effect of each write to a node on what the nodes hold.

-- the links of no node
abbrev blank : Links
blank = record { before = 0; after = 0 }

module _ {K V : Type 0} where
  -- the node with these links by recency, or in its bucket
  abbrev relinked : Node K V → Links → Node K V
  relinked node links = record node { recent = links }

  abbrev rechained : Node K V → Links → Node K V
  rechained node links = record node { chain = links }

  -- a number below that of the links is below that of the nodes
  pub below : (nodes : List (Node K V)) (i : ℕ) → i < length (columns nodes).recency → i < length nodes
  below nodes i inside = omega (arith, inside, length-map nodes (λ n. n.recent))

  -- the parts of a node that was read
  module _ (nodes : List (Node K V)) (i : ℕ) (x : Node K V) (is : x ≡ get_or nodes i x) where
    pub pair_read : x.pair ≡ get_or (columns nodes).pairs i x.pair
    pair_read = ap (λ (n : Node K V). n.pair) is ∙ sym (get_or-map_same (λ (n : Node K V). n.pair) nodes i x)

    pub set_pair : (pair : Option (K × V)) → columns (set nodes i (record x { pair = pair })) ≡ record (columns nodes) { pairs = set (columns nodes).pairs i pair }
    set_pair pair =
        rw (map-set (λ (n : Node K V). n.pair) nodes i (record x { pair = pair }), map-set_same (λ (n : Node K V). n.recent) nodes i (record x { pair = pair }) x (ap (λ (n : Node K V). n.recent) is), map-set_same (λ (n : Node K V). n.chain) nodes i (record x { pair = pair }) x (ap (λ (n : Node K V). n.chain) is)) refl

    set_recent : (links : Links) → columns (set nodes i (relinked x links)) ≡ record (columns nodes) { recency = set (columns nodes).recency i links }
    set_recent links =
        rw (map-set (λ (n : Node K V). n.recent) nodes i (relinked x links), map-set_same (λ (n : Node K V). n.chain) nodes i (relinked x links) x (ap (λ (n : Node K V). n.chain) is), map-set_same (λ (n : Node K V). n.pair) nodes i (relinked x links) x (ap (λ (n : Node K V). n.pair) is)) refl

    recent_here : i < length nodes → x.recent ≡ link_at (columns nodes).recency i
    recent_here inside = ap (λ (n : Node K V). n.recent) is ∙ sym (get_or-map (λ (n : Node K V). n.recent) nodes i x blank inside)

    pub recent_read : i < length (columns nodes).recency → x.recent ≡ link_at (columns nodes).recency i
    recent_read inside = recent_here (below nodes i inside)

    recent_after : i < length nodes → (after : ℕ) → columns (set nodes i (relinked x (record x.recent { after = after }))) ≡ record (columns nodes) { recency = with_after (columns nodes).recency i after }
    recent_after inside after =
        set_recent _ ∙ ap (λ (l : Links). record (columns nodes) { recency = set (columns nodes).recency i (record l { after = after }) }) (recent_here inside)

    recent_before : i < length nodes → (before : ℕ) → columns (set nodes i (relinked x (record x.recent { before = before }))) ≡ record (columns nodes) { recency = with_before (columns nodes).recency i before }
    recent_before inside before =
        set_recent _ ∙ ap (λ (l : Links). record (columns nodes) { recency = set (columns nodes).recency i (record l { before = before }) }) (recent_here inside)

  -- a node is unlinked by recency
  pub unlink_read : (nodes : List (Node K V)) (node : ℕ) (x y z : Node K V) → x ≡ get_or nodes node x → node < length nodes → (link_at (columns nodes).recency node).before < length nodes → (link_at (columns nodes).recency node).after < length nodes → y ≡ get_or nodes x.recent.before y → (mid : List (Node K V)) → mid ≡ set nodes x.recent.before (relinked y (record y.recent { after = x.recent.after })) → z ≡ get_or mid x.recent.after z → columns (set mid x.recent.after (relinked z (record z.recent { before = x.recent.before }))) ≡ record (columns nodes) { recency = unlinked (columns nodes).recency node }
  unlink_read nodes node x y z x_is node_in before_in after_in y_is mid mid_is z_is =
      let here : x.recent ≡ link_at (columns nodes).recency node = recent_here nodes node x x_is node_in in
      let same : length mid ≡ length nodes = ap length mid_is ∙ length-set nodes x.recent.before _ in
      let first : columns mid ≡ record (columns nodes) { recency = with_after (columns nodes).recency x.recent.before x.recent.after } = ap columns mid_is ∙ recent_after nodes x.recent.before y y_is (omega (arith, before_in, ap (λ (l : Links). l.before) here)) x.recent.after in
      recent_before mid x.recent.after z z_is (omega (arith, after_in, ap (λ (l : Links). l.after) here, same)) x.recent.before ∙ (ap (λ (cols : Columns K V). record cols { recency = with_before cols.recency x.recent.after x.recent.before }) first ∙ ap (λ (l : Links). record (columns nodes) { recency = with_before (with_after (columns nodes).recency l.before l.after) l.after l.before }) here)

  -- a node is linked in by recency as the last before a sentinel
  pub link_read : (nodes : List (Node K V)) (hub node : ℕ) (x y z w : Node K V) → x ≡ get_or nodes hub x → hub < length nodes → node < length nodes → (link_at (columns nodes).recency hub).before < length nodes → y ≡ get_or nodes x.recent.before y → (led mid : List (Node K V)) → led ≡ set nodes x.recent.before (relinked y (record y.recent { after = node })) → z ≡ get_or led node z → mid ≡ set led node (relinked z (record { before = x.recent.before; after = hub })) → w ≡ get_or mid hub w → columns (set mid hub (relinked w (record w.recent { before = node }))) ≡ record (columns nodes) { recency = linked_last (columns nodes).recency hub node }
  link_read nodes hub node x y z w x_is hub_in node_in last_in y_is led mid led_is z_is mid_is w_is =
      let last : x.recent.before ≡ (link_at (columns nodes).recency hub).before = ap (λ (l : Links). l.before) (recent_here nodes hub x x_is hub_in) in
      let led_len : length led ≡ length nodes = ap length led_is ∙ length-set nodes x.recent.before _ in
      let mid_len : length mid ≡ length led = ap length mid_is ∙ length-set led node _ in
      let here : Links = record { before = x.recent.before; after = hub } in
      let first : columns led ≡ record (columns nodes) { recency = with_after (columns nodes).recency x.recent.before node } = ap columns led_is ∙ recent_after nodes x.recent.before y y_is (omega (arith, last_in, last)) node in
      let second : columns mid ≡ record (columns nodes) { recency = set (with_after (columns nodes).recency x.recent.before node) node here } = ap columns mid_is ∙ (set_recent led node z z_is here ∙ ap (λ (cols : Columns K V). record cols { recency = set cols.recency node here }) first) in
      recent_before mid hub w w_is (omega (arith, hub_in, led_len, mid_len)) node ∙ (ap (λ (cols : Columns K V). record cols { recency = with_before cols.recency hub node }) second ∙ ap (λ l. record (columns nodes) { recency = with_before (set (with_after (columns nodes).recency l node) node (record { before = l; after = hub })) hub node }) last)

  -- a sentinel of a bucket, read and written, in the list of all links in buckets
  pub hub_read : (nodes : List (Node K V)) (hubs : List Links) (i : ℕ) → length nodes ≤ i → link_at hubs (i - length nodes) ≡ link_at (chains_of nodes hubs) i
  hub_read nodes hubs i past = sym (get_or-append_right (columns nodes).chains hubs (length nodes) i blank (length-map nodes (λ n. n.chain)) past)

  pub hub_set : (nodes : List (Node K V)) (hubs : List Links) (i : ℕ) (links : Links) → length nodes ≤ i → (columns nodes).chains ++ set hubs (i - length nodes) links ≡ set (chains_of nodes hubs) i links
  hub_set nodes hubs i links past = sym (set-append_right (columns nodes).chains hubs (length nodes) i links (length-map nodes (λ n. n.chain)) past)

  -- the same of a node that was read
  module _ (nodes : List (Node K V)) (hubs : List Links) (i : ℕ) (x : Node K V) (is : x ≡ get_or nodes i x) (inside : i < length nodes) where
    pub chain_read : x.chain ≡ link_at (chains_of nodes hubs) i
    chain_read =
        let number : length (columns nodes).chains ≡ length nodes = length-map nodes (λ n. n.chain) in
        ap (λ (n : Node K V). n.chain) is ∙ (sym (get_or-map (λ (n : Node K V). n.chain) nodes i x blank inside) ∙ sym (get_or_append_left (columns nodes).chains hubs blank i (omega arith)))

    pub chain_set : (links : Links) → (columns (set nodes i (rechained x links))).chains ++ hubs ≡ set (chains_of nodes hubs) i links
    chain_set links =
        let number : length (columns nodes).chains ≡ length nodes = length-map nodes (λ n. n.chain) in
        ap (λ l. l ++ hubs) (map-set (λ (n : Node K V). n.chain) nodes i (rechained x links)) ∙ sym (set-append_left (columns nodes).chains hubs i links (omega arith))

    pub chain_kept : (links : Links) → columns (set nodes i (rechained x links)) ≡ record (columns nodes) { chains = (columns (set nodes i (rechained x links))).chains }
    chain_kept links =
        rw (map-set_same (λ (n : Node K V). n.recent) nodes i (rechained x links) x (ap (λ (n : Node K V). n.recent) is), map-set_same (λ (n : Node K V). n.pair) nodes i (rechained x links) x (ap (λ (n : Node K V). n.pair) is)) refl

    pub after_in_node : (after : ℕ) → (columns (set nodes i (rechained x (record x.chain { after = after })))).chains ++ hubs ≡ with_after (chains_of nodes hubs) i after
    after_in_node after = chain_set _ ∙ ap (λ (l : Links). set (chains_of nodes hubs) i (record l { after = after })) chain_read

    pub before_in_node : (before : ℕ) → (columns (set nodes i (rechained x (record x.chain { before = before })))).chains ++ hubs ≡ with_before (chains_of nodes hubs) i before
    before_in_node before = chain_set _ ∙ ap (λ (l : Links). set (chains_of nodes hubs) i (record l { before = before })) chain_read

  -- the same of a sentinel that was read
  module _ (nodes : List (Node K V)) (hubs : List Links) (i at : ℕ) (past : length nodes ≤ i) (at_is : at ≡ i - length nodes) (inside : i < length nodes + length hubs) (x : Links) (is : x ≡ get_or hubs at x) where
    hub_is : x ≡ link_at (chains_of nodes hubs) i
    hub_is = is ∙ (get_or_default hubs at x blank (omega arith) ∙ (ap (link_at hubs) at_is ∙ hub_read nodes hubs i past))

    pub after_in_hub : (after : ℕ) → (columns nodes).chains ++ set hubs at (record x { after = after }) ≡ with_after (chains_of nodes hubs) i after
    after_in_hub after =
        ap (λ k. (columns nodes).chains ++ set hubs k (record x { after = after })) at_is ∙ (hub_set nodes hubs i _ past ∙ ap (λ (l : Links). set (chains_of nodes hubs) i (record l { after = after })) hub_is)

    pub before_in_hub : (before : ℕ) → (columns nodes).chains ++ set hubs at (record x { before = before }) ≡ with_before (chains_of nodes hubs) i before
    before_in_hub before =
        ap (λ k. (columns nodes).chains ++ set hubs k (record x { before = before })) at_is ∙ (hub_set nodes hubs i _ past ∙ ap (λ (l : Links). set (chains_of nodes hubs) i (record l { before = before })) hub_is)

  pub length-columns : (nodes : List (Node K V)) → length (columns nodes).pairs ≡ length nodes
  length-columns nodes = length-map nodes (λ n. n.pair)

  -- the first node of a bucket
  pub first_read : (nodes : List (Node K V)) (hubs : List Links) (bucket : ℕ) (x : Links) → x ≡ get_or hubs bucket x → bucket < length hubs → x.after ≡ (link_at (chains_of nodes hubs) (length nodes + bucket)).after
  first_read nodes hubs bucket x is inside =
      let here : bucket ≡ length nodes + bucket - length nodes = omega arith in
      ap (λ (l : Links). l.after) (is ∙ (get_or_default hubs bucket x blank inside ∙ (ap (link_at hubs) here ∙ hub_read nodes hubs (length nodes + bucket) (omega arith))))

  pub same_length : (nodes new : List (Node K V)) (chains : List Links) → columns new ≡ record (columns nodes) { chains = chains } → length new ≡ length nodes
  same_length nodes new chains kept =
      sym (length-map new (λ n. n.pair)) ∙ (ap (λ (cols : Columns K V). length cols.pairs) kept ∙ length-map nodes (λ n. n.pair))

  -- a node is linked into a bucket as its last
  module _ (nodes : List (Node K V)) (hubs : List Links) (bucket hub node : ℕ) (hub_is : hub ≡ length nodes + bucket) (first : Links) (first_is : first ≡ get_or hubs bucket first) (bucket_in : bucket < length hubs) (node_in : node < length nodes) (new : List (Node K V)) (new_hubs : List Links) (led : Rechains nodes hubs new new_hubs (with_after (chains_of nodes hubs) first.before node)) (x : Node K V) (x_is : x ≡ get_or new node x) where
    abbrev here : Links
    here = record { before = first.before; after = hub }

    pub chained : (last : Links) → last ≡ get_or new_hubs bucket last → Rechains nodes hubs (set new node (rechained x here)) (set new_hubs bucket (record last { before = node })) (linked_last (chains_of nodes hubs) (length nodes + bucket) node)
    chained last last_is =
        let done = set new node (rechained x here) in
        let new_same : length new ≡ length nodes = same_length nodes new _ led.kept in
        let same : length done ≡ length nodes = length-set new node _ ∙ new_same in
        let at_hub : bucket ≡ hub - length nodes = omega arith in
        let at_new : bucket ≡ hub - length done = omega arith in
        let found : first ≡ link_at (chains_of nodes hubs) hub = first_is ∙ (get_or_default hubs bucket first blank bucket_in ∙ (ap (link_at hubs) at_hub ∙ hub_read nodes hubs hub (omega arith))) in
        let linked : chains_of done new_hubs ≡ set (with_after (chains_of nodes hubs) first.before node) node here = chain_set new new_hubs node x x_is (omega arith) _ ∙ ap (λ l. set l node here) led.links_are in
        let written : (columns done).chains ++ set new_hubs bucket (record last { before = node }) ≡ with_before (chains_of done new_hubs) hub node = before_in_hub done new_hubs hub bucket (omega (arith, same, hub_is)) at_new (omega (arith, same, bucket_in, led.number, hub_is)) last last_is node in
        record {
          number = length-set new_hubs bucket _ ∙ led.number;
          kept = chain_kept new new_hubs node x x_is (omega arith) _ ∙ ap (λ (cols : Columns K V). record cols { chains = (columns done).chains }) led.kept;
          links_are = written ∙ (ap (λ l. with_before l hub node) linked ∙ (ap (λ (l : Links). with_before (set (with_after (chains_of nodes hubs) l.before node) node (record { before = l.before; after = hub })) hub node) found ∙ ap (λ k. linked_last (chains_of nodes hubs) k node) hub_is));
        }

  -- the same after a move by recency
  module _ (nodes new : List (Node K V)) (hubs recency : List Links) (moved : columns new ≡ record (columns nodes) { recency = recency }) where
    pub moved_length : length new ≡ length nodes
    moved_length = sym (length-columns new) ∙ (ap (λ (cols : Columns K V). length cols.pairs) moved ∙ length-columns nodes)

    pub moved_chains : (columns new).chains ++ hubs ≡ (columns nodes).chains ++ hubs
    moved_chains = ap (λ (cols : Columns K V). cols.chains ++ hubs) moved

    -- a number below that of the links in buckets is below that of nodes and sentinels
    pub moved_below : (at : List Links → ℕ) → at (chains_of nodes hubs) < length (chains_of nodes hubs) → at ((columns new).chains ++ hubs) < length new + length hubs
    moved_below at inside =
        let same : at ((columns new).chains ++ hubs) ≡ at (chains_of nodes hubs) = ap at moved_chains in
        omega (arith, inside, same, moved_length, length-append (columns nodes).chains hubs, length-map nodes (λ n. n.chain))

    -- and after a change of the links in buckets
    pub chains_count : (last : List (Node K V)) (chains : List Links) → columns last ≡ record (columns new) { chains = chains } → length (columns last).chains ≡ length (columns nodes).chains
    chains_count last chains kept =
        length-map last (λ n. n.chain) ∙ (same_length new last chains kept ∙ (moved_length ∙ sym (length-map nodes (λ n. n.chain))))

    -- a pair that was read after both
    pub pair_then : (last : List (Node K V)) (chains : List Links) → columns last ≡ record (columns new) { chains = chains } → (i : ℕ) (x : Node K V) → x ≡ get_or last i x → x.pair ≡ get_or (columns nodes).pairs i x.pair
    pair_then last chains kept i x is =
        pair_read last i x is ∙ ap (λ l. get_or l i x.pair) (ap (λ (cols : Columns K V). cols.pairs) kept ∙ ap (λ (cols : Columns K V). cols.pairs) moved)

-- A write to one slot, the bucket of a hash, and a change of one bucket.

-- the key in a pair that is present
abbrev key_or : {A B : Type 0} → A → Option (A × B) → A
key_or key None = key
key_or key (Some pair) = pair.0

pub same_key : {A B : Type 0} (a c : A) (b d : B) → ◌≡◌ {A = Option (A × B)} (Some (a, b)) (Some (c, d)) → a ≡ c
same_key a c b d same = ap (key_or a) same

-- the slots after one was written
pub record Writes {K V : Type 0} (pairs new : List (Option (K × V))) (s : ℕ) (pair : Option (K × V)) : Type 0 where
  pub number : length new ≡ length pairs
  pub here : pair_at new s ≡ pair
  pub else : (i : ℕ) → i ≢ s → pair_at new i ≡ pair_at pairs i

pub writes : {K V : Type 0} (pairs : List (Option (K × V))) (s : ℕ) (pair : Option (K × V)) → s < length pairs → Writes pairs (set pairs s pair) s pair
writes pairs s pair inside = record {
  number = length-set pairs s pair;
  here = get_or-set_same pairs s pair None inside;
  else = λ i ne. get_or-set_other pairs s i pair None ne;
}

pub bucket_below : (hash buckets : ℕ) → 0 < buckets → bucket_number hash buckets < buckets
unfolding bucket_number
bucket_below hash buckets some =
    let scaled : hash % 2 ^ 32 * (hash / 2 ^ 32) % 2 ^ 32 * buckets ≤ (2 ^ 32 - 1) * buckets = mul-le (hash % 2 ^ 32 * (hash / 2 ^ 32) % 2 ^ 32) buckets (2 ^ 32 - 1) buckets (omega arith) (omega arith) in
    omega arith

-- the buckets after one was changed
pub record Changes (buckets new : List (List ℕ)) (b : ℕ) (nodes : List ℕ) : Type 0 where
  pub number : length new ≡ length buckets
  pub here : bucket_at new b ≡ nodes
  pub else : (c : ℕ) → c ≢ b → bucket_at new c ≡ bucket_at buckets c
  pub total : sum_by length new + length (bucket_at buckets b) ≡ sum_by length buckets + length nodes

pub changes : (buckets : List (List ℕ)) (b : ℕ) (nodes : List ℕ) → b < length buckets → Changes buckets (set buckets b nodes) b nodes
changes buckets b nodes inside = record {
  number = length-set buckets b nodes;
  here = get_or-set_same buckets b nodes [] inside;
  else = λ c ne. get_or-set_other buckets b c nodes [] ne;
  total = sum_by-set length buckets b nodes [] inside;
}

-- The nodes and slots of a new table.

get_or-replicate_default : {A : Type 0} (n i : ℕ) (a : A) → get_or (replicate n a) i a ≡ a
get_or-replicate_default zero i a = refl
get_or-replicate_default (suc n) zero a = refl
get_or-replicate_default (suc n) (suc i) a = get_or-replicate_default n i a

range-push : (a n : ℕ) → range_with_len a (suc n) ≡ range_with_len a n ++ (a + n) ∷ []
range-push a zero = let e : a ≡ a + 0 = omega arith in ap (λ k. k ∷ []) e
range-push a (suc n) =
    let e : a + 1 + n ≡ a + suc n = omega arith in
    ap (λ l. a ∷ l) (range-push (a + 1) n ∙ ap (λ k. range_with_len (a + 1) n ++ k ∷ []) e)

range-append : (a m n : ℕ) → range_with_len a m ++ range_with_len (a + m) n ≡ range_with_len a (m + n)
range-append a zero n =
    let e : a + 0 ≡ a = omega arith in
    let f : 0 + n ≡ n = omega arith in
    rw (e, f) refl
range-append a (suc m) n =
    let e : a + suc m ≡ a + 1 + m = omega arith in
    let f : suc m + n ≡ suc (m + n) = omega arith in
    rw (e, f) (ap (λ l. a ∷ l) (range-append (a + 1) m n))

In-range : (a n i : ℕ) → In i (range_with_len a n) → i < a + n
In-range a zero i h = absurd h
In-range a (suc n) i h =
    elim h [ inl same ↦ omega (arith, same) | inr later ↦ (let rest = In-range (a + 1) n i later in omega (arith, rest)) ]

abbrev lones : ℕ → List Links
lones n = map lone (range_with_len 0 n)

-- a node alone is a ring
pub HasRing-lone : (n slots hub : ℕ) → slots ≤ hub → hub < n → HasRing (lones n) slots hub []
HasRing-lone n slots hub past inside =
    let is : link_at (lones n) hub ≡ lone hub = get_or-map-range_with_len lone 0 n hub hub (record { before = 0; after = 0 }) inside (omega arith) in
    let joins : Joins (lones n) hub hub = record { on = ap (λ (l : Links). l.after) is; back = ap (λ (l : Links). l.before) is } in
    record {
      ring = joins;
      inside = λ i h. absurd h;
      past = past;
      hub_in = omega (arith, inside, length-map-range_with_len lone 0 n);
    }

-- the first n slots are free
pub record IsFreed (links : List Links) (slots n : ℕ) : Type 0 where
  pub some : n ≤ slots
  pub none_used : HasRing links slots slots []
  pub freed : HasRing links slots (slots + 1) (range_with_len 0 n)

freed_none : (links : List Links) (slots : ℕ) → links ≡ lones (slots + 2) → IsFreed links slots 0
freed_none links slots is = rw is (record {
  some = omega arith;
  none_used = HasRing-lone (slots + 2) slots slots (omega arith) (omega arith);
  freed = HasRing-lone (slots + 2) slots (slots + 1) (omega arith) (omega arith);
})

module _ (links : List Links) (slots n : ℕ) (freed : IsFreed links slots n) (below : n < slots) where
  not_freed : In n (range_with_len 0 n) → ⊥
  not_freed h = omega (arith, In-range 0 n n h)

  pub freed_last_inside : (link_at links (slots + 1)).before < length links
  freed_last_inside = push_last_inside links slots (slots + 1) (range_with_len 0 n) freed.freed n below not_freed

  pub freed_more : (new : List Links) → new ≡ linked_last links (slots + 1) n → IsFreed new slots (n + 1)
  freed_more new new_is =
      let more : range_with_len 0 (n + 1) ≡ range_with_len 0 n ++ n ∷ [] = rw add-one (range-push 0 n ∙ ap (λ k. range_with_len 0 n ++ k ∷ []) (let e : 0 + n ≡ n = omega arith in e)) in
      rw new_is (record {
        some = omega arith;
        none_used = HasRing-push_other links slots (slots + 1) (range_with_len 0 n) freed.freed n below not_freed slots [] freed.none_used (λ same. omega (arith, same)) (λ h. h);
        freed = rw more (HasRing-push links slots (slots + 1) (range_with_len 0 n) freed.freed n below not_freed);
      })

module _ {K V : Type 0} where
  -- the first n slots of new nodes are free
  pub record AreFreed (nodes : Columns K V) (max n : ℕ) : Type 0 where
    pub freed : IsFreed nodes.recency max n
    pub no_pairs : nodes.pairs ≡ replicate (max + 2) None
    pub chains : nodes.chains ≡ lones (max + 2)

  parts : {X : Type 0} (f : Node K V → X) (a n : ℕ) → map f (map lone_node (range_with_len a n)) ≡ map (λ i. f (lone_node i)) (range_with_len a n)
  parts f a zero = refl
  parts f a (suc n) = ap (λ l. f (lone_node a) ∷ l) (parts f (a + 1) n)

  nones : (a n : ℕ) → map (λ (i : ℕ). (lone_node {K = K} {V = V} i).pair) (range_with_len a n) ≡ replicate n None
  nones a zero = refl
  nones a (suc n) = ap (λ l. None ∷ l) (nones (a + 1) n)

  -- one more new node
  pub lone_more : (nodes : List (Node K V)) (n : ℕ) → nodes ≡ map lone_node (range_with_len 0 n) → nodes ++ lone_node n ∷ [] ≡ map lone_node (range_with_len 0 (n + 1))
  lone_more nodes n is =
      let more : range_with_len 0 (n + 1) ≡ range_with_len 0 n ++ n ∷ [] = rw add-one (range-push 0 n ∙ ap (λ k. range_with_len 0 n ++ k ∷ []) (let e : 0 + n ≡ n = omega arith in e)) in
      rw (is, more) (sym (map-append lone_node (range_with_len 0 n) (n ∷ [])))

  pub all_lone : (nodes : List (Node K V)) (max : ℕ) → nodes ≡ map lone_node (range_with_len 0 (max + 2)) → AreFreed (columns nodes) max 0
  all_lone nodes max is = rw is (record {
    freed = freed_none _ max (parts (λ n. n.recent) 0 (max + 2));
    no_pairs = parts (λ n. n.pair) 0 (max + 2) ∙ nones 0 (max + 2);
    chains = parts (λ n. n.chain) 0 (max + 2);
  })

  module _ (nodes : List (Node K V)) (max n : ℕ) (freed : AreFreed (columns nodes) max n) where
    pub nodes_number : length nodes ≡ max + 2
    nodes_number =
        let none : Option (K × V) = None in
        sym (length-columns nodes) ∙ (ap length freed.no_pairs ∙ length-replicate (max + 2) none)

    pub last_inside : n < max → (link_at (columns nodes).recency (max + 1)).before < length nodes
    last_inside below =
        let count : length (columns nodes).recency ≡ length nodes = length-map nodes (λ n. n.recent) in
        omega (arith, freed_last_inside (columns nodes).recency max n freed.freed below)

    pub freed_on : n < max → (new : List (Node K V)) → columns new ≡ record (columns nodes) { recency = linked_last (columns nodes).recency (max + 1) n } → AreFreed (columns new) max (n + 1)
    freed_on below new new_is = rw new_is (record {
      freed = freed_more (columns nodes).recency max n freed.freed below _ refl;
      no_pairs = freed.no_pairs;
      chains = freed.chains;
    })

    pub freed_all : max ≤ n → IsAllFree max (columns nodes)
    freed_all over =
        let all : n ≡ max = omega (arith, freed.freed.some) in
        record {
          none_used = freed.freed.none_used;
          all_free = subst (λ k. HasRing (columns nodes).recency max (max + 1) (range_with_len 0 k)) all freed.freed.freed;
          no_pairs = freed.no_pairs;
          chains = freed.chains;
        }

  module _ (hash : K → ℕ) (max : ℕ) (small : 2 * max + 3 < 2 ^ 32) (nodes : Columns K V) (all_free : IsAllFree max nodes) (hubs : List Links) (hubs_are : hubs ≡ map lone (range_with_len (max + 2) (max + 1))) where
    nothing : (i : ℕ) → pair_at nodes.pairs i ≡ None
    nothing i = rw all_free.no_pairs (get_or-replicate_default (max + 2) i None)

    chains_are : nodes.chains ++ hubs ≡ lones (max + 2 + (max + 1))
    chains_are =
        let start : max + 2 ≡ 0 + (max + 2) = omega arith in
        rw (all_free.chains, hubs_are) (sym (map-append lone (range_with_len 0 (max + 2)) (range_with_len (max + 2) (max + 1))) ∙ ap (map lone) (ap (λ k. range_with_len 0 (max + 2) ++ range_with_len k (max + 1)) start ∙ range-append 0 (max + 2) (max + 1)))

    pub open_sound : IsSound hash max nodes hubs 0
    open_sound =
        let empty : List ℕ = [] in
        let none : Option (K × V) = None in
        let number : length (replicate (max + 1) empty) ≡ max + 1 = length-replicate (max + 1) empty in
        record {
          used = [];
          free = range_with_len 0 max;
          buckets = replicate (max + 1) [];
          used_ring = all_free.none_used;
          free_ring = all_free.all_free;
          bucket_rings = λ b below. rw (chains_are, get_or-replicate_default {A = List ℕ} (max + 1) b []) (HasRing-lone (max + 2 + (max + 1)) max (max + 2 + b) (omega arith) (omega (arith, below, number)));
          pair_nodes = rw all_free.no_pairs (length-replicate (max + 2) none);
          chain_nodes = rw all_free.chains (length-map-range_with_len lone 0 (max + 2));
          hub_count = rw hubs_are (length-map-range_with_len lone (max + 2) (max + 1) ∙ sym number);
          some_bucket = omega (arith, number);
          room = omega (arith, small, number);
          used_count = refl;
          total = omega (arith, length-range_with_len 0 max);
          bucket_total = sum_by-replicate length (max + 1) [] ∙ omega arith;
          used_filled = λ i h. absurd h;
          free_empty = λ i h. nothing i;
          bucket_hashed = λ b i h. absurd (subst (λ l. In i l) (get_or-replicate_default {A = List ℕ} (max + 1) b []) h);
          kept = λ i key value pair. absurd (let f : ◌≡◌ {A = Option (K × V)} None (Some (key, value)) = sym (nothing i) ∙ pair in cc);
          keys_apart = λ i j key value rest pair there. absurd (let f : ◌≡◌ {A = Option (K × V)} None (Some (key, value)) = sym (nothing i) ∙ pair in cc);
        }
