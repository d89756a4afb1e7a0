-- A slot is put last in the list, or removed from it.
use Rattle.std.proofs.Common.{◌≡◌, ◌≢◌, ℕ, zero, suc, ◌+◌, ◌<◌, ◌≤◌, eqb, true, false, inl, inr, ◌⊎◌, Some, None, List, [], ◌∷◌, ◌++◌, length, map, set, refl, sym, ap, subst, ◌∙◌, arith, length-set, get_or-set_same, get_or-set_other, append-nil}
use Rattle.std.specs.List.{AllByRecursion, IsDistinct, list_any, range_with_len}
use Rattle.std.proofs.lemmas.Bool.{cases_eq, eq-eqb, ne_eqb}
use Rattle.std.proofs.lemmas.List.{set-get_or, map-append}
use Rattle.std.proofs.lemmas.Map.Steps.{length-le_from_distinct_below}
use Rattle.linked_table.specs.declared.list.Links.{Links}
use Rattle.linked_table.specs.declared.table.Slot.{Slot}
use Rattle.linked_table.specs.working.Rings.{lone, In, Joins, IsRing, HasRing, with_after, with_before, unlinked, isolated, linked_last}
use Rattle.linked_table.specs.RingWalks.{link_at}
use Rattle.linked_table.specs.TableEntries.{slot_of}
use Rattle.linked_table.specs.Listing.{Listing, others, first_of, slots_to, listing_of}
use Rattle.linked_table.specs.working.ListingRings.{IsThreaded}
use Rattle.linked_table.proofs.Rings.{In-splits, In-append_left, In-append_right, In-append_cases, In-rest, ring_tail, not_after, after_in, last_in, hub_apart, cut_slot, cut_before_inside, cut_after_inside, cut_not_before, cut_not_after, cut_gone, last_ends, HasRing-cut, Joins-cut, push_last_inside, HasRing-push, Joins-push}
use Rattle.linked_table.proofs.Nodes.{HasRing-lone}

-- the nodes of a ring are at most as many as there are slots
differs : (node : ℕ) (nodes : List ℕ) → (In node nodes → ⊥) → AllByRecursion (λ y. eqb node y ≡ false) nodes
differs node [] apart = tt
differs node (x ∷ xs) apart = (ne_eqb node x (λ same. apart (inl (sym same))), differs node xs (λ h. apart (inr h)))

distinct : (links : List Links) (hub p : ℕ) (nodes : List ℕ) → (In hub nodes → ⊥) → IsRing links p nodes hub → IsDistinct eqb nodes
unfolding IsDistinct
distinct links hub p [] not_hub ring = tt
distinct links hub p (x ∷ xs) not_hub ring = (differs x xs (not_after links hub p [] x xs not_hub ring), distinct links hub x xs (λ h. not_hub (inr h)) ring.1)

In-from_any : (node : ℕ) (nodes : List ℕ) → list_any (eqb node) nodes ≡ true → In node nodes
In-from_any node [] has = cc
In-from_any node (x ∷ xs) has =
    elim (cases_eq x node) [ inl same ↦ inl same | inr other ↦ inr (In-from_any node xs (rw (ne_eqb node x (λ same. other (sym same))) at has)) ]

few_nodes : {links : List Links} {slots hub : ℕ} {nodes : List ℕ} → HasRing links slots hub nodes → length nodes ≤ slots
few_nodes {links} {slots} {hub} {nodes} has =
    length-le_from_distinct_below nodes slots (distinct links hub hub nodes (hub_apart has) has.ring) (λ node listed. has.inside node (In-from_any node nodes listed))

-- the slots up to the sentinel are those of its ring
slots_to-ring : (links : List Links) (hub most p : ℕ) (nodes : List ℕ) → (In hub nodes → ⊥) → IsRing links p nodes hub → length nodes ≤ most → slots_to links hub most p ≡ map slot_of nodes
slots_to-ring links hub zero p [] not_hub ring few = refl
slots_to-ring links hub zero p (x ∷ xs) not_hub ring few = absurd (omega (arith, few))
slots_to-ring links hub (suc most) p [] not_hub ring few = rw (ring.on, eq-eqb hub hub refl) refl
slots_to-ring links hub (suc most) p (x ∷ xs) not_hub ring few =
    rw (ring.0.on, ne_eqb x hub (λ same. not_hub (inl same))) (ap (λ l. slot_of x ∷ l) (slots_to-ring links hub most x xs (λ h. not_hub (inr h)) ring.1 (omega (arith, few))))

ring_slots : (links : List Links) (max : ℕ) (nodes : List ℕ) → HasRing links max max nodes → slots_to links max max max ≡ map slot_of nodes
ring_slots links max nodes has = slots_to-ring links max max max nodes (hub_apart has) has.ring (few_nodes has)

others_none : (s : ℕ) (nodes : List ℕ) → (In s nodes → ⊥) → others (map slot_of nodes) (slot_of s) ≡ map slot_of nodes
others_none s [] none = refl
others_none s (x ∷ xs) none = rw (ne_eqb x s (λ same. none (inl same))) (ap (λ l. slot_of x ∷ l) (others_none s xs (λ h. none (inr h))))

others_split : (s : ℕ) (before after : List ℕ) → (In s before → ⊥) → (In s after → ⊥) → others (map slot_of (before ++ s ∷ after)) (slot_of s) ≡ map slot_of (before ++ after)
others_split s [] after not_before not_after = rw (eq-eqb s s refl) (others_none s after not_after)
others_split s (x ∷ xs) after not_before not_after =
    rw (ne_eqb x s (λ same. not_before (inl same))) (ap (λ l. slot_of x ∷ l) (others_split s xs after (λ h. not_before (inr h)) not_after))

-- a slot in its own ring
module _ (links : List Links) (s : ℕ) (alone : Joins links s s) where
  alone_apart : (slots hub : ℕ) (nodes : List ℕ) → HasRing links slots hub nodes → In s nodes → ⊥
  alone_apart slots hub nodes ring h =
      let split = In-splits s nodes h in
      let has : HasRing links slots hub (split.before ++ s ∷ split.after) = subst (λ l. HasRing links slots hub l) split.splits ring in
      let next : In s (split.after ++ hub ∷ []) = subst (λ k. In k (split.after ++ hub ∷ [])) alone.on (after_in links s split.after hub (ring_tail links hub split.before s split.after hub has.ring)) in
      elim (In-append_cases s split.after (hub ∷ []) next) [
        | inl later ↦ cut_not_after links slots hub split.before s split.after has later
        | inr last ↦ elim last [ inl same ↦ omega (arith, same, has.past, cut_slot links slots hub split.before s split.after has) | inr none ↦ none ]
      ]

  alone_after : with_after links s s ≡ links
  alone_after = ap (λ k. set links s (record (link_at links s) { after = k })) (sym alone.on) ∙ set-get_or links s (record { before = 0; after = 0 })

  alone_before : with_before links s s ≡ links
  alone_before = ap (λ k. set links s (record (link_at links s) { before = k })) (sym alone.back) ∙ set-get_or links s (record { before = 0; after = 0 })

  -- to unlink it changes nothing
  alone_unlinked : unlinked links s ≡ links
  alone_unlinked =
      ap (λ p. with_before (with_after links p (link_at links s).after) (link_at links s).after p) alone.back
      ∙ (ap (λ n. with_before (with_after links s n) n s) alone.on ∙ (ap (λ l. with_before l s s) alone_after ∙ alone_before))

-- the slot is not listed, and the listed ones are these
pub record IsOut (links : List Links) (max s : ℕ) (slots : List Slot) : Type 0 where
  pub listed : List ℕ
  pub ring : HasRing links max max listed
  pub gone : In s listed → ⊥
  pub others_alone : (node : ℕ) → node < max → node ≢ s → In node listed ⊎ Joins links node node
  pub slots_are : map slot_of listed ≡ slots

module _ (links : List Links) (max : ℕ) (t : IsThreaded links max) where
  pub slots_are : slots_to links max max max ≡ map slot_of t.listed
  slots_are = ring_slots links max t.listed t.ring

  module _ (s : ℕ) (small : s < max) where
    -- the neighbours of the slot are nodes
    pub record IsInside : Type 0 where
      pub before : (link_at links s).before < length links
      pub after : (link_at links s).after < length links
      pub out : IsOut (unlinked links s) max s (others (slots_to links max max max) (slot_of s))

    out_of_listed : In s t.listed → IsInside
    out_of_listed h =
        let split = In-splits s t.listed h in
        let has : HasRing links max max (split.before ++ s ∷ split.after) = subst (λ l. HasRing links max max l) split.splits t.ring in
        let not_before = cut_not_before links max max split.before s split.after has in
        let not_after = cut_not_after links max max split.before s split.after has in
        record {
          before = cut_before_inside links max max split.before s split.after has;
          after = cut_after_inside links max max split.before s split.after has;
          out = record {
            listed = split.before ++ split.after;
            ring = HasRing-cut links max max split.before s split.after has;
            gone = cut_gone links max max split.before s split.after has;
            others_alone = λ node below other. elim (t.others_alone node below) [
              | inl k ↦ elim (In-rest node s split.before split.after (subst (λ l. In node l) split.splits k)) [ inl same ↦ absurd (other (sym same)) | inr rest ↦ inl rest ]
              | inr alone ↦ inr (Joins-cut links max max split.before s split.after has node other alone)
            ];
            slots_are = sym (ap (λ l. others l (slot_of s)) (slots_are ∙ ap (map slot_of) split.splits) ∙ others_split s split.before split.after not_before not_after);
          };
        }

    out_of_alone : Joins links s s → IsInside
    out_of_alone alone =
        let gone = alone_apart links s alone max max t.listed t.ring in
        let still : IsOut links max s (others (slots_to links max max max) (slot_of s)) = record {
          listed = t.listed;
          ring = t.ring;
          gone = gone;
          others_alone = λ node below other. t.others_alone node below;
          slots_are = sym (ap (λ l. others l (slot_of s)) slots_are ∙ others_none s t.listed gone);
        } in
        record {
          before = omega (arith, alone.back, t.ring.hub_in);
          after = omega (arith, alone.on, t.ring.hub_in);
          out = subst (λ l. IsOut l max s (others (slots_to links max max max) (slot_of s))) (sym (alone_unlinked links s alone)) still;
        }

    pub taken : IsInside
    taken = elim (t.others_alone s small) [ inl h ↦ out_of_listed h | inr alone ↦ out_of_alone alone ]

-- a node gets its own ring
module _ (links : List Links) (s : ℕ) (inside : s < length links) where
  link_at-isolated : (node : ℕ) → node ≢ s → link_at (isolated links s) node ≡ link_at links node
  link_at-isolated node other = get_or-set_other links s node (lone s) (record { before = 0; after = 0 }) other

  Joins-isolated : (a b : ℕ) → a ≢ s → b ≢ s → Joins links a b → Joins (isolated links s) a b
  Joins-isolated a b not_a not_b joins = record {
    on = ap (λ (l : Links). l.after) (link_at-isolated a not_a) ∙ joins.on;
    back = ap (λ (l : Links). l.before) (link_at-isolated b not_b) ∙ joins.back;
  }

  IsRing-isolated : (p : ℕ) (nodes : List ℕ) (q : ℕ) → p ≢ s → (In s nodes → ⊥) → q ≢ s → IsRing links p nodes q → IsRing (isolated links s) p nodes q
  IsRing-isolated p [] q not_p not_in not_q ring = Joins-isolated p q not_p not_q ring
  IsRing-isolated p (x ∷ xs) q not_p not_in not_q ring =
      (Joins-isolated p x not_p (λ same. not_in (inl same)) ring.0, IsRing-isolated x xs q (λ same. not_in (inl same)) (λ h. not_in (inr h)) not_q ring.1)

  isolated_alone : Joins (isolated links s) s s
  isolated_alone =
      let is : link_at (isolated links s) s ≡ lone s = get_or-set_same links s (lone s) (record { before = 0; after = 0 }) inside in
      record { on = ap (λ (l : Links). l.after) is; back = ap (λ (l : Links). l.before) is }

-- the slot that is not listed is linked in as the last, or is left alone
module _ (links : List Links) (max s : ℕ) (slots : List Slot) (small : s < max) (o : IsOut links max s slots) where
  pub out_last_inside : (link_at links max).before < length links
  out_last_inside = push_last_inside links max max o.listed o.ring s small o.gone

  put_ring : HasRing (linked_last links max s) max max (o.listed ++ s ∷ [])
  put_ring = HasRing-push links max max o.listed o.ring s small o.gone

  pub put_threaded : IsThreaded (linked_last links max s) max
  put_threaded = record {
    listed = o.listed ++ s ∷ [];
    ring = put_ring;
    others_alone = λ node below. elim (cases_eq s node) [
      | inl same ↦ inl (In-append_right node o.listed (s ∷ []) (inl same))
      | inr other ↦ elim (o.others_alone node below (λ same. other (sym same))) [
        | inl h ↦ inl (In-append_left node o.listed (s ∷ []) h)
        | inr alone ↦ inr (Joins-push links max max o.listed o.ring s small o.gone node (λ same. other (sym same)) (λ same. omega (arith, same, below)) alone)
      ]
    ];
  }

  pub put_slots : slots_to (linked_last links max s) max max max ≡ slots ++ slot_of s ∷ []
  put_slots =
      let listed : map slot_of (o.listed ++ s ∷ []) ≡ map slot_of o.listed ++ slot_of s ∷ [] = map-append slot_of o.listed (s ∷ []) in
      ring_slots (linked_last links max s) max (o.listed ++ s ∷ []) put_ring ∙ (listed ∙ ap (λ l. l ++ slot_of s ∷ []) o.slots_are)

  out_inside : s < length links
  out_inside = omega (arith, small, o.ring.hub_in)

  left_ring : HasRing (isolated links s) max max o.listed
  left_ring =
      let hub_not : max ≢ s = λ same. omega (arith, same, small) in
      record {
        ring = IsRing-isolated links s out_inside max o.listed max hub_not o.gone hub_not o.ring.ring;
        inside = o.ring.inside;
        past = o.ring.past;
        hub_in = omega (arith, o.ring.hub_in, length-set links s (lone s));
      }

  pub left_threaded : IsThreaded (isolated links s) max
  left_threaded = record {
    listed = o.listed;
    ring = left_ring;
    others_alone = λ node below. elim (cases_eq node s) [
      | inl same ↦ inr (rw same (isolated_alone links s out_inside))
      | inr other ↦ elim (o.others_alone node below other) [ inl h ↦ inl h | inr alone ↦ inr (Joins-isolated links s out_inside node node other other alone) ]
    ];
  }

  pub left_slots : slots_to (isolated links s) max max max ≡ slots
  left_slots = ring_slots (isolated links s) max o.listed left_ring ∙ o.slots_are

-- no slot is listed
module _ (links : List Links) (max : ℕ) (is : links ≡ map lone (range_with_len 0 (max + 1))) where
  pub open_threaded : IsThreaded links max
  open_threaded = rw is (record {
    listed = [];
    ring = HasRing-lone (max + 1) max max (omega arith) (omega arith);
    others_alone = λ node below. inr (HasRing-lone (max + 1) 0 node (omega arith) (omega (arith, below))).ring;
  })

  pub open_seen : listing_of links max ≡ record { slots = []; max = max }
  open_seen =
      let none : slots_to links max max max ≡ [] = rw is (ring_slots (map lone (range_with_len 0 (max + 1))) max [] (HasRing-lone (max + 1) max max (omega arith) (omega arith))) in
      rw none refl

-- the node after the sentinel, if these slots are listed
pub record IsFirst (max : ℕ) (slots : List Slot) (node : ℕ) : Type 0 where
  pub none : node ≡ max → first_of slots ≡ None
  pub some : node ≢ max → first_of slots ≡ Some (slot_of node)
  pub below : node ≢ max → node < max

module _ (links : List Links) (max : ℕ) (t : IsThreaded links max) where
  pub first_is : IsFirst max (slots_to links max max max) (link_at links max).after
  first_is = rw (slots_are links max t) (go t.listed t.ring.inside t.ring.ring)
    where
      go : (nodes : List ℕ) → ((node : ℕ) → In node nodes → node < max) → IsRing links max nodes max → IsFirst max (map slot_of nodes) (link_at links max).after
      go [] inside ring = record { none = λ _. refl; some = λ other. absurd (other ring.on); below = λ other. absurd (other ring.on) }
      go (x ∷ xs) inside ring =
          let small : x < max = inside x (inl refl) in
          record {
            none = λ same. absurd (omega (arith, small, ring.0.on, same));
            some = λ _. rw ring.0.on refl;
            below = λ _. omega (arith, small, ring.0.on);
          }

module _ (links : List Links) (max : ℕ) (t : IsThreaded links max) (list : Listing) (is : listing_of links max ≡ list) (node : ℕ) (node_is : node ≡ (link_at links max).after) where
  pub first_seen : IsFirst max list.slots node
  first_seen =
      let first : IsFirst max (slots_to links max max max) node = subst (λ n. IsFirst max (slots_to links max max max) n) (sym node_is) (first_is links max t) in
      subst (λ l. IsFirst max l node) (ap (λ (l : Listing). l.slots) is) first

-- The same of a list as contracts see it.
module _ (links : List Links) (max : ℕ) (t : IsThreaded links max) (list : Listing) (is : listing_of links max ≡ list) (slot : Slot) (below : slot.0 < list.max) where
  list_max : list.max ≡ max
  list_max = sym (ap (λ (l : Listing). l.max) is)

  list_slots : slots_to links max max max ≡ list.slots
  list_slots = ap (λ (l : Listing). l.slots) is

  pub slot_small : slot.0 < max
  slot_small = omega (arith, below, list_max)

  pub in_list : IsInside links max t slot.0 slot_small
  in_list = taken links max t slot.0 slot_small

  -- a slot that is already last stays where it is
  pub put_same : slot.0 ≡ (link_at links max).before → list ≡ record list { slots = others list.slots slot ++ slot ∷ [] }
  put_same last =
      let listed : In slot.0 t.listed = elim (last_in links max t.listed max t.ring.ring) [ inl hub ↦ absurd (omega (arith, hub, last, slot_small)) | inr h ↦ subst (λ k. In k t.listed) (sym last) h ] in
      let split = In-splits slot.0 t.listed listed in
      let has : HasRing links max max (split.before ++ slot.0 ∷ split.after) = subst (λ l. HasRing links max max l) split.splits t.ring in
      let ends : split.after ≡ [] = last_ends links max max split.before slot.0 split.after has last in
      let slots : list.slots ≡ map slot_of (split.before ++ slot.0 ∷ split.after) = sym list_slots ∙ (slots_are links max t ∙ ap (map slot_of) split.splits) in
      let rest : others list.slots slot ≡ map slot_of (split.before ++ split.after) = ap (λ l. others l slot) slots ∙ others_split slot.0 split.before split.after (cut_not_before links max max split.before slot.0 split.after has) (cut_not_after links max max split.before slot.0 split.after has) in
      let same : list.slots ≡ others list.slots slot ++ slot ∷ [] = rw rest (slots ∙ rw (ends, append-nil) (map-append slot_of split.before (slot.0 ∷ []))) in
      ap (λ l. record list { slots = l }) same

  module _ (cut : List Links) (cut_is : cut ≡ unlinked links slot.0) where
    pub out_of : IsOut cut max slot.0 (others list.slots slot)
    out_of =
        let out : IsOut (unlinked links slot.0) max slot.0 (others list.slots slot) =
        subst (λ l. IsOut (unlinked links slot.0) max slot.0 (others l slot)) list_slots in_list.out in
        subst (λ l. IsOut l max slot.0 (others list.slots slot)) (sym cut_is) out

    pub last_inside : (link_at cut max).before < length cut
    last_inside = out_last_inside cut max slot.0 (others list.slots slot) slot_small out_of

    pub put_sound : (new : List Links) → new ≡ linked_last cut max slot.0 → IsThreaded new max
    put_sound new new_is = rw new_is (put_threaded cut max slot.0 (others list.slots slot) slot_small out_of)

    pub put_seen : (new : List Links) → new ≡ linked_last cut max slot.0 → listing_of new max ≡ record list { slots = others list.slots slot ++ slot ∷ [] }
    put_seen new new_is =
        let slots : slots_to new max max max ≡ others list.slots slot ++ slot ∷ [] = rw new_is (put_slots cut max slot.0 (others list.slots slot) slot_small out_of) in
        rw (slots, list_max) refl

    pub left_sound : (new : List Links) → new ≡ isolated cut slot.0 → IsThreaded new max
    left_sound new new_is = rw new_is (left_threaded cut max slot.0 (others list.slots slot) slot_small out_of)

    pub left_seen : (new : List Links) → new ≡ isolated cut slot.0 → listing_of new max ≡ record list { slots = others list.slots slot }
    left_seen new new_is =
        let slots : slots_to new max max max ≡ others list.slots slot = rw new_is (left_slots cut max slot.0 (others list.slots slot) slot_small out_of) in
        rw (slots, list_max) refl
