-- Rings of nodes: the neighbours of a node, and what changes if a node is unlinked, or linked in as
-- the last before the sentinel.
use Rattle.std.proofs.Common.{◌≡◌, ℕ, inl, inr, ◌⊎◌, List, [], ◌∷◌, ◌++◌, ap, length, refl, sym, subst, ◌∙◌, arith, length-append, append_assoc, ◌≢◌, ◌<◌, set, length-set, get_or-set_same, get_or-set_other}
use Rattle.std.proofs.lemmas.Bool.{cases_eq}
use Rattle.linked_table.specs.working.Rings.{In, IsRing, Joins, with_after, with_before, unlinked, linked_last, HasRing}
use Rattle.linked_table.specs.RingWalks.{link_at, walk}
use Rattle.linked_table.specs.declared.list.Links.{Links}

-- Membership of a node in a list of nodes.

pub In-append_left : (i : ℕ) (xs ys : List ℕ) → In i xs → In i (xs ++ ys)
In-append_left i [] ys h = absurd h
In-append_left i (x ∷ xs) ys h =
    elim h [ inl here ↦ inl here | inr later ↦ inr (In-append_left i xs ys later) ]

pub In-append_right : (i : ℕ) (xs ys : List ℕ) → In i ys → In i (xs ++ ys)
In-append_right i [] ys h = h
In-append_right i (x ∷ xs) ys h = inr (In-append_right i xs ys h)

pub In-append_cases : (i : ℕ) (xs ys : List ℕ) → In i (xs ++ ys) → In i xs ⊎ In i ys
In-append_cases i [] ys h = inr h
In-append_cases i (x ∷ xs) ys h =
    elim h [
      | inl here ↦ inl (inl here)
      | inr later ↦ elim (In-append_cases i xs ys later) [ inl left ↦ inl (inr left) | inr right ↦ inr right ]
    ]

-- a position of a node in a list
pub record IsSplit (i : ℕ) (xs : List ℕ) : Type 0 where
  pub before : List ℕ
  pub after : List ℕ
  pub splits : xs ≡ before ++ i ∷ after

pub In-splits : (i : ℕ) (xs : List ℕ) → In i xs → IsSplit i xs
In-splits i [] h = absurd h
In-splits i (x ∷ xs) h =
    elim h [
      | inl here ↦ record { before = []; after = xs; splits = ap (λ y. y ∷ xs) here }
      | inr later ↦
          let rest = In-splits i xs later in
          record { before = x ∷ rest.before; after = rest.after; splits = ap (λ l. x ∷ l) rest.splits }
    ]

-- a node of the list without one is in the full list
pub In-whole : (i s : ℕ) (before after : List ℕ) → In i (before ++ after) → In i (before ++ s ∷ after)
In-whole i s [] after h = inr h
In-whole i s (x ∷ xs) after h =
    elim h [ inl here ↦ inl here | inr later ↦ inr (In-whole i s xs after later) ]

-- a node of the full list is the one left out, or is in the rest
pub In-rest : (i s : ℕ) (before after : List ℕ) → In i (before ++ s ∷ after) → (s ≡ i) ⊎ In i (before ++ after)
In-rest i s [] after h = h
In-rest i s (x ∷ xs) after h =
    elim h [
      | inl here ↦ inr (inl here)
      | inr later ↦ elim (In-rest i s xs after later) [ inl same ↦ inl same | inr rest ↦ inr (inr rest) ]
    ]

-- What is unique in a ring, and the neighbours of a node in it.

module _ (links : List Links) where
  pub walk-ring : (p : ℕ) (nodes : List ℕ) (q : ℕ) → IsRing links p nodes q → walk links (length nodes) p ≡ nodes
  walk-ring p [] q ring = refl
  walk-ring p (x ∷ xs) q ring = rw ring.0.on (ap (λ l. x ∷ l) (walk-ring x xs q ring.1))

  pub ring_tail : (p : ℕ) (before : List ℕ) (s : ℕ) (after : List ℕ) (q : ℕ) → IsRing links p (before ++ s ∷ after) q → IsRing links s after q
  ring_tail p [] s after q ring = ring.1
  ring_tail p (x ∷ xs) s after q ring = ring_tail x xs s after q ring.1

  -- the links from one node lead to the sentinel in one way
  pub ring_unique : (hub p : ℕ) (xs ys : List ℕ) → (In hub xs → ⊥) → (In hub ys → ⊥) → IsRing links p xs hub → IsRing links p ys hub → xs ≡ ys
  ring_unique hub p [] [] not_x not_y r s = refl
  ring_unique hub p [] (y ∷ ys) not_x not_y r s = absurd (not_y (inl (sym s.0.on ∙ r.on)))
  ring_unique hub p (x ∷ xs) [] not_x not_y r s = absurd (not_x (inl (sym r.0.on ∙ s.on)))
  ring_unique hub p (x ∷ xs) (y ∷ ys) not_x not_y r s =
      let same : x ≡ y = sym r.0.on ∙ s.0.on in
      let there : IsRing links x ys hub = subst (λ k. IsRing links k ys hub) (sym same) s.1 in
      let rest : xs ≡ ys = ring_unique hub x xs ys (λ h. not_x (inr h)) (λ h. not_y (inr h)) r.1 there in
      cc

  -- a node of a ring occurs in it once
  pub not_after : (hub p : ℕ) (before : List ℕ) (s : ℕ) (after : List ℕ) → (In hub (before ++ s ∷ after) → ⊥) → IsRing links p (before ++ s ∷ after) hub → In s after → ⊥
  not_after hub p before s after not_hub ring h =
      let split = In-splits s after h in
      let here : IsRing links s after hub = ring_tail p before s after hub ring in
      let twice : IsRing links s (split.before ++ s ∷ split.after) hub = subst (λ l. IsRing links s l hub) split.splits here in
      let there : IsRing links s split.after hub = ring_tail s split.before s split.after hub twice in
      let not_here = λ (k : In hub after). not_hub (In-append_right hub before (s ∷ after) (inr k)) in
      let not_there = λ (k : In hub split.after). not_here (subst (λ l. In hub l) (sym split.splits) (In-append_right hub split.before (s ∷ split.after) (inr k))) in
      let same : after ≡ split.after = ring_unique hub s after split.after not_here not_there here there in
      omega (arith, ap length same, ap length split.splits, length-append split.before (s ∷ split.after))

  pub not_before : (hub p : ℕ) (before : List ℕ) (s : ℕ) (after : List ℕ) → (In hub (before ++ s ∷ after) → ⊥) → IsRing links p (before ++ s ∷ after) hub → In s before → ⊥
  not_before hub p before s after not_hub ring h =
      let split = In-splits s before h in
      let later = split.after ++ s ∷ after in
      let same : before ++ s ∷ after ≡ split.before ++ s ∷ later = ap (λ l. l ++ s ∷ after) split.splits ∙ append_assoc split.before (s ∷ split.after) (s ∷ after) in
      not_after hub p split.before s later (subst (λ l. In hub l → ⊥) same not_hub) (subst (λ l. IsRing links p l hub) same ring) (In-append_right s split.after (s ∷ after) (inl refl))

  -- the node before one of a ring is the start of the ring, or one of those before it
  pub before_in : (p : ℕ) (before : List ℕ) (s : ℕ) (after : List ℕ) (q : ℕ) → IsRing links p (before ++ s ∷ after) q → In (link_at links s).before (p ∷ before)
  before_in p [] s after q ring = inl (sym ring.0.back)
  before_in p (x ∷ xs) s after q ring = inr (before_in x xs s after q ring.1)

  -- the node after one is the end of the ring, or one of those after it
  pub after_in : (s : ℕ) (after : List ℕ) (q : ℕ) → IsRing links s after q → In (link_at links s).after (after ++ q ∷ [])
  after_in s [] q ring = inl (sym ring.on)
  after_in s (x ∷ xs) q ring = inl (sym ring.0.on)

  pub last_in : (p : ℕ) (nodes : List ℕ) (q : ℕ) → IsRing links p nodes q → In (link_at links q).before (p ∷ nodes)
  last_in p [] q ring = inl (sym ring.back)
  last_in p (x ∷ xs) q ring = inr (last_in x xs q ring.1)

  -- the neighbours of a node of a ring link to it
  pub joined_before : (p : ℕ) (before : List ℕ) (s : ℕ) (after : List ℕ) (q : ℕ) → IsRing links p (before ++ s ∷ after) q → (link_at links (link_at links s).before).after ≡ s
  joined_before p [] s after q ring = ap (λ k. (link_at links k).after) ring.0.back ∙ ring.0.on
  joined_before p (x ∷ xs) s after q ring = joined_before x xs s after q ring.1

  pub joined_after : (s : ℕ) (after : List ℕ) (q : ℕ) → IsRing links s after q → (link_at links (link_at links s).after).before ≡ s
  joined_after s [] q ring = ap (λ k. (link_at links k).before) ring.on ∙ ring.back
  joined_after s (x ∷ xs) q ring = ap (λ k. (link_at links k).before) ring.0.on ∙ ring.0.back

  pub joined_last : (p : ℕ) (nodes : List ℕ) (q : ℕ) → IsRing links p nodes q → (link_at links (link_at links q).before).after ≡ q
  joined_last p [] q ring = ap (λ k. (link_at links k).after) ring.back ∙ ring.on
  joined_last p (x ∷ xs) q ring = joined_last x xs q ring.1

  -- the nodes of a ring with the last of them apart
  pub record IsLast (nodes : List ℕ) (q : ℕ) : Type 0 where
    pub front : List ℕ
    pub splits : nodes ≡ front ++ (link_at links q).before ∷ []

  pub last_splits : (p x : ℕ) (xs : List ℕ) (q : ℕ) → IsRing links p (x ∷ xs) q → IsLast (x ∷ xs) q
  last_splits p x [] q ring = record { front = []; splits = ap (λ k. k ∷ []) (sym ring.1.back) }
  last_splits p x (y ∷ ys) q ring =
      let rest = last_splits x y ys q ring.1 in
      record { front = x ∷ rest.front; splits = ap (λ l. x ∷ l) rest.splits }

-- The effect on each ring of unlinking a node, and of linking it in as the last.

-- the links of no node
abbrev blank : Links
blank = record { before = 0; after = 0 }

before-with_after : (links : List Links) (i x j : ℕ) → i < length links → (link_at (with_after links i x) j).before ≡ (link_at links j).before
before-with_after links i x j lt =
    elim (cases_eq j i) [
      | inl here ↦ rw here (ap (λ (l : Links). l.before) (get_or-set_same links i (record (link_at links i) { after = x }) blank lt))
      | inr ne ↦ ap (λ (l : Links). l.before) (get_or-set_other links i j (record (link_at links i) { after = x }) blank ne)
    ]

after-with_before : (links : List Links) (i x j : ℕ) → i < length links → (link_at (with_before links i x) j).after ≡ (link_at links j).after
after-with_before links i x j lt =
    elim (cases_eq j i) [
      | inl here ↦ rw here (ap (λ (l : Links). l.after) (get_or-set_same links i (record (link_at links i) { before = x }) blank lt))
      | inr ne ↦ ap (λ (l : Links). l.after) (get_or-set_other links i j (record (link_at links i) { before = x }) blank ne)
    ]

-- the links after a node was unlinked
pub record Unlinks (links new : List Links) (s : ℕ) : Type 0 where
  pub number : length new ≡ length links
  pub after_here : (link_at new (link_at links s).before).after ≡ (link_at links s).after
  pub before_here : (link_at new (link_at links s).after).before ≡ (link_at links s).before
  pub after_else : (j : ℕ) → j ≢ (link_at links s).before → (link_at new j).after ≡ (link_at links j).after
  pub before_else : (j : ℕ) → j ≢ (link_at links s).after → (link_at new j).before ≡ (link_at links j).before

pub unlinks : (links : List Links) (s : ℕ) → (link_at links s).before < length links → (link_at links s).after < length links → Unlinks links (unlinked links s) s
unlinks links s p_in n_in =
    let p = (link_at links s).before in
    let n = (link_at links s).after in
    let mid = with_after links p n in
    let same_len : length mid ≡ length links = length-set links p _ in
    let mid_in : n < length mid = omega arith in
    record {
      number = length-set mid n _ ∙ same_len;
      after_here = after-with_before mid n p p mid_in ∙ ap (λ (l : Links). l.after) (get_or-set_same links p _ blank p_in);
      before_here = ap (λ (l : Links). l.before) (get_or-set_same mid n _ blank mid_in);
      after_else = λ j ne. after-with_before mid n p j mid_in ∙ ap (λ (l : Links). l.after) (get_or-set_other links p j _ blank ne);
      before_else = λ j ne. ap (λ (l : Links). l.before) (get_or-set_other mid n j _ blank ne) ∙ before-with_after links p n j p_in;
    }

-- a ring keeps its links if a node of it, or of another ring, is unlinked
module _ (links new : List Links) (s : ℕ) (writes : Unlinks links new s) (from_before : (link_at links (link_at links s).before).after ≡ s) (from_after : (link_at links (link_at links s).after).before ≡ s) where
  Joins-unlinked : (a b : ℕ) → a ≢ s → b ≢ s → Joins links a b → Joins new a b
  Joins-unlinked a b not_a not_b joins = record {
    on = writes.after_else a (λ same. not_b (sym joins.on ∙ (ap (λ k. (link_at links k).after) same ∙ from_before))) ∙ joins.on;
    back = writes.before_else b (λ same. not_a (sym joins.back ∙ (ap (λ k. (link_at links k).before) same ∙ from_after))) ∙ joins.back;
  }

  pub IsRing-unlinked_other : (p : ℕ) (nodes : List ℕ) (q : ℕ) → p ≢ s → (In s nodes → ⊥) → q ≢ s → IsRing links p nodes q → IsRing new p nodes q
  IsRing-unlinked_other p [] q not_p not_in not_q ring = Joins-unlinked p q not_p not_q ring
  IsRing-unlinked_other p (x ∷ xs) q not_p not_in not_q ring =
      (Joins-unlinked p x not_p (λ same. not_in (inl same)) ring.0, IsRing-unlinked_other x xs q (λ same. not_in (inl same)) (λ h. not_in (inr h)) not_q ring.1)

  pub IsRing-unlinked : (p : ℕ) (before after : List ℕ) (q : ℕ) → p ≢ s → (In s before → ⊥) → (In s after → ⊥) → q ≢ s → IsRing links p (before ++ s ∷ after) q → IsRing new p (before ++ after) q
  IsRing-unlinked p [] [] q not_p not_b not_a not_q ring = record {
    on = ap (λ k. (link_at new k).after) (sym ring.0.back) ∙ (writes.after_here ∙ ring.1.on);
    back = ap (λ k. (link_at new k).before) (sym ring.1.on) ∙ (writes.before_here ∙ ring.0.back);
  }
  IsRing-unlinked p [] (x ∷ xs) q not_p not_b not_a not_q ring =
      let joins : Joins new p x = record {
        on = ap (λ k. (link_at new k).after) (sym ring.0.back) ∙ (writes.after_here ∙ ring.1.0.on);
        back = ap (λ k. (link_at new k).before) (sym ring.1.0.on) ∙ (writes.before_here ∙ ring.0.back);
      } in
      (joins, IsRing-unlinked_other x xs q (λ same. not_a (inl same)) (λ h. not_a (inr h)) not_q ring.1.1)
  IsRing-unlinked p (y ∷ ys) after q not_p not_b not_a not_q ring =
      (Joins-unlinked p y not_p (λ same. not_b (inl same)) ring.0, IsRing-unlinked y ys after q (λ same. not_b (inl same)) (λ h. not_b (inr h)) not_a not_q ring.1)

-- the links after a node became the last before a sentinel
pub record LinksLast (links new : List Links) (hub s : ℕ) : Type 0 where
  pub number : length new ≡ length links
  pub last_after : (link_at new (link_at links hub).before).after ≡ s
  pub here_after : (link_at new s).after ≡ hub
  pub here_before : (link_at new s).before ≡ (link_at links hub).before
  pub hub_before : (link_at new hub).before ≡ s
  pub after_else : (j : ℕ) → j ≢ (link_at links hub).before → j ≢ s → (link_at new j).after ≡ (link_at links j).after
  pub before_else : (j : ℕ) → j ≢ hub → j ≢ s → (link_at new j).before ≡ (link_at links j).before

pub links_last : (links : List Links) (hub s : ℕ) → s < length links → hub < length links → (link_at links hub).before < length links → s ≢ hub → (link_at links hub).before ≢ s → LinksLast links (linked_last links hub s) hub s
links_last links hub s s_in hub_in last_in not_hub not_last =
    let p = (link_at links hub).before in
    let here : Links = record { before = p; after = hub } in
    let led = with_after links p s in
    let mid = set led s here in
    let led_len : length led ≡ length links = length-set links p _ in
    let mid_len : length mid ≡ length led = length-set led s here in
    let led_in : s < length led = omega arith in
    let mid_in : hub < length mid = omega arith in
    record {
      number = length-set mid hub _ ∙ (mid_len ∙ led_len);
      last_after = after-with_before mid hub s p mid_in ∙ (ap (λ (l : Links). l.after) (get_or-set_other led s p here blank not_last) ∙ ap (λ (l : Links). l.after) (get_or-set_same links p _ blank last_in));
      here_after = after-with_before mid hub s s mid_in ∙ ap (λ (l : Links). l.after) (get_or-set_same led s here blank led_in);
      here_before = ap (λ (l : Links). l.before) (get_or-set_other mid hub s _ blank not_hub) ∙ ap (λ (l : Links). l.before) (get_or-set_same led s here blank led_in);
      hub_before = ap (λ (l : Links). l.before) (get_or-set_same mid hub _ blank mid_in);
      after_else = λ j not_p not_s. after-with_before mid hub s j mid_in ∙ (ap (λ (l : Links). l.after) (get_or-set_other led s j here blank not_s) ∙ ap (λ (l : Links). l.after) (get_or-set_other links p j _ blank not_p));
      before_else = λ j not_h not_s. ap (λ (l : Links). l.before) (get_or-set_other mid hub j _ blank not_h) ∙ (ap (λ (l : Links). l.before) (get_or-set_other led s j here blank not_s) ∙ before-with_after links p s j last_in);
    }

-- a ring keeps its links if a node that is not in it is linked in elsewhere, and the sentinel's
-- ring gets the node
module _ (links new : List Links) (hub s : ℕ) (writes : LinksLast links new hub s) (from_last : (link_at links (link_at links hub).before).after ≡ hub) where
  Joins-linked : (a b : ℕ) → a ≢ s → b ≢ s → b ≢ hub → Joins links a b → Joins new a b
  Joins-linked a b not_a not_b not_hub joins = record {
    on = writes.after_else a (λ same. not_hub (sym joins.on ∙ (ap (λ k. (link_at links k).after) same ∙ from_last))) not_a ∙ joins.on;
    back = writes.before_else b not_hub not_b ∙ joins.back;
  }

  pub IsRing-linked_other : (p : ℕ) (nodes : List ℕ) (q : ℕ) → p ≢ s → (In s nodes → ⊥) → q ≢ s → (In hub nodes → ⊥) → q ≢ hub → IsRing links p nodes q → IsRing new p nodes q
  IsRing-linked_other p [] q not_p not_s not_q no_hub not_hub ring = Joins-linked p q not_p not_q not_hub ring
  IsRing-linked_other p (x ∷ xs) q not_p not_s not_q no_hub not_hub ring =
      (Joins-linked p x not_p (λ same. not_s (inl same)) (λ same. no_hub (inl same)) ring.0, IsRing-linked_other x xs q (λ same. not_s (inl same)) (λ h. not_s (inr h)) not_q (λ h. no_hub (inr h)) not_hub ring.1)

  pub IsRing-linked : (p : ℕ) (nodes : List ℕ) → p ≢ s → (In s nodes → ⊥) → (In hub nodes → ⊥) → IsRing links p nodes hub → IsRing new p (nodes ++ s ∷ []) hub
  IsRing-linked p [] not_p not_s no_hub ring =
      let joins : Joins new p s = record {
        on = ap (λ k. (link_at new k).after) (sym ring.back) ∙ writes.last_after;
        back = writes.here_before ∙ ring.back;
      } in
      (joins, record { on = writes.here_after; back = writes.hub_before })
  IsRing-linked p (x ∷ xs) not_p not_s no_hub ring =
      (Joins-linked p x not_p (λ same. not_s (inl same)) (λ same. no_hub (inl same)) ring.0, IsRing-linked x xs (λ same. not_s (inl same)) (λ h. not_s (inr h)) (λ h. no_hub (inr h)) ring.1)

-- The rings of sentinels, after a slot was unlinked from one or linked in as its last.

pub hub_apart : {links : List Links} {slots hub : ℕ} {nodes : List ℕ} → HasRing links slots hub nodes → In hub nodes → ⊥
hub_apart {links} {slots} {hub} has h = omega (arith, has.inside hub h, has.past)

-- a slot is unlinked from a ring
module _ (links : List Links) (slots hub : ℕ) (before : List ℕ) (s : ℕ) (after : List ℕ) (has : HasRing links slots hub (before ++ s ∷ after)) where
  pub cut_slot : s < slots
  cut_slot = has.inside s (In-append_right s before (s ∷ after) (inl refl))

  pub cut_inside : s < length links
  cut_inside = omega (arith, cut_slot, has.past, has.hub_in)

  pub cut_before_inside : (link_at links s).before < length links
  cut_before_inside =
      elim (before_in links hub before s after hub has.ring) [
        | inl first ↦ omega (arith, first, has.hub_in)
        | inr later ↦ omega (arith, has.inside _ (In-append_left _ before (s ∷ after) later), has.past, has.hub_in)
      ]

  pub cut_after_inside : (link_at links s).after < length links
  cut_after_inside =
      elim (In-append_cases _ after (hub ∷ []) (after_in links s after hub (ring_tail links hub before s after hub has.ring))) [
        | inl later ↦ omega (arith, has.inside _ (In-append_right _ before (s ∷ after) (inr later)), has.past, has.hub_in)
        | inr last ↦ elim last [ inl same ↦ omega (arith, same, has.hub_in) | inr none ↦ absurd none ]
      ]

  pub cut_not_before : In s before → ⊥
  cut_not_before = not_before links hub hub before s after (hub_apart has) has.ring

  pub cut_not_after : In s after → ⊥
  cut_not_after = not_after links hub hub before s after (hub_apart has) has.ring

  -- the node before the sentinel is the last of the ring
  pub last_ends : s ≡ (link_at links hub).before → after ≡ []
  last_ends last = go after refl
    where
      go : (rest : List ℕ) → after ≡ rest → after ≡ []
      go [] rest_is = rest_is
      go (x ∷ xs) rest_is =
          let ring : IsRing links s (x ∷ xs) hub = subst (λ l. IsRing links s l hub) rest_is (ring_tail links hub before s after hub has.ring) in
          let later : In (link_at links hub).before (x ∷ xs) = last_in links x xs hub ring.1 in
          absurd (cut_not_after (subst (λ l. In s l) (sym rest_is) (subst (λ k. In k (x ∷ xs)) (sym last) later)))

  pub cut_gone : In s (before ++ after) → ⊥
  cut_gone h = elim (In-append_cases s before after h) [ inl left ↦ cut_not_before left | inr right ↦ cut_not_after right ]

  cut_writes : Unlinks links (unlinked links s) s
  cut_writes = unlinks links s cut_before_inside cut_after_inside

  cut_back : (link_at links (link_at links s).before).after ≡ s
  cut_back = joined_before links hub before s after hub has.ring

  cut_on : (link_at links (link_at links s).after).before ≡ s
  cut_on = joined_after links s after hub (ring_tail links hub before s after hub has.ring)

  pub HasRing-cut : HasRing (unlinked links s) slots hub (before ++ after)
  HasRing-cut =
      let hub_not : hub ≢ s = λ same. omega (arith, cut_slot, has.past) in
      record {
        ring = IsRing-unlinked links (unlinked links s) s cut_writes cut_back cut_on hub before after hub hub_not cut_not_before cut_not_after hub_not has.ring;
        inside = λ i h. has.inside i (In-whole i s before after h);
        past = has.past;
        hub_in = omega (arith, has.hub_in, cut_writes.number);
      }

  pub HasRing-cut_other : (other : ℕ) (nodes : List ℕ) → HasRing links slots other nodes → (In s nodes → ⊥) → HasRing (unlinked links s) slots other nodes
  HasRing-cut_other other nodes others apart =
      let other_not : other ≢ s = λ same. omega (arith, cut_slot, others.past) in
      record {
        ring = IsRing-unlinked_other links (unlinked links s) s cut_writes cut_back cut_on other nodes other other_not apart other_not others.ring;
        inside = others.inside;
        past = others.past;
        hub_in = omega (arith, others.hub_in, cut_writes.number);
      }

  -- a node in its own ring stays alone
  pub Joins-cut : (node : ℕ) → node ≢ s → Joins links node node → Joins (unlinked links s) node node
  Joins-cut node other alone = IsRing-unlinked_other links (unlinked links s) s cut_writes cut_back cut_on node [] node other (λ h. h) other alone

  pub length-cut : length (unlinked links s) ≡ length links
  length-cut = cut_writes.number

-- a slot that is not in a ring is linked in as its last
module _ (links : List Links) (slots hub : ℕ) (nodes : List ℕ) (has : HasRing links slots hub nodes) (s : ℕ) (slot : s < slots) (apart : In s nodes → ⊥) where
  pub push_inside : s < length links
  push_inside = omega (arith, has.past, has.hub_in)

  pub push_last_inside : (link_at links hub).before < length links
  push_last_inside =
      elim (last_in links hub nodes hub has.ring) [
        | inl first ↦ omega (arith, first, has.hub_in)
        | inr later ↦ omega (arith, has.inside _ later, has.past, has.hub_in)
      ]

  push_hub_not : hub ≢ s
  push_hub_not same = omega (arith, has.past)

  push_not_last : (link_at links hub).before ≢ s
  push_not_last same =
      elim (last_in links hub nodes hub has.ring) [
        | inl first ↦ push_hub_not (first ∙ same)
        | inr later ↦ apart (subst (λ k. In k nodes) same later)
      ]

  push_writes : LinksLast links (linked_last links hub s) hub s
  push_writes = links_last links hub s push_inside has.hub_in push_last_inside (λ same. push_hub_not (sym same)) push_not_last

  push_joined : (link_at links (link_at links hub).before).after ≡ hub
  push_joined = joined_last links hub nodes hub has.ring

  pub HasRing-push : HasRing (linked_last links hub s) slots hub (nodes ++ s ∷ [])
  HasRing-push = record {
    ring = IsRing-linked links (linked_last links hub s) hub s push_writes push_joined hub nodes push_hub_not apart (hub_apart has) has.ring;
    inside = λ i h. elim (In-append_cases i nodes (s ∷ []) h) [
      | inl left ↦ has.inside i left
      | inr right ↦ elim right [ inl same ↦ omega (arith, same, slot) | inr none ↦ absurd none ]
    ];
    past = has.past;
    hub_in = omega (arith, has.hub_in, push_writes.number);
  }

  pub HasRing-push_other : (other : ℕ) (others : List ℕ) → HasRing links slots other others → other ≢ hub → (In s others → ⊥) → HasRing (linked_last links hub s) slots other others
  HasRing-push_other other others has_other not_hub not_in =
      let other_not : other ≢ s = λ same. omega (arith, slot, has_other.past) in
      let no_hub = λ (h : In hub others). absurd (let inside = has_other.inside hub h in let past = has.past in let none : ⊥ = omega arith in none) in
      record {
        ring = IsRing-linked_other links (linked_last links hub s) hub s push_writes push_joined other others other other_not not_in other_not no_hub not_hub has_other.ring;
        inside = has_other.inside;
        past = has_other.past;
        hub_in = omega (arith, has_other.hub_in, push_writes.number);
      }

  pub Joins-push : (node : ℕ) → node ≢ s → node ≢ hub → Joins links node node → Joins (linked_last links hub s) node node
  Joins-push node other not_hub alone = IsRing-linked_other links (linked_last links hub s) hub s push_writes push_joined node [] node other (λ h. h) other (λ h. h) not_hub alone
