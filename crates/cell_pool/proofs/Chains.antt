-- Chains of cells: what the links that lead through a chain imply, what a write preserves of them,
-- and what contracts see of them.
use Rattle.std.proofs.Common.{◌≡◌, ℕ, ◌<◌, ◌≤◌, ◌≢◌, List, [], ◌∷◌, ◌++◌, length, Option, Some, None, refl, sym, ap, subst, ◌∙◌, arith, length-append, suc, map, get_or}
use Rattle.std.proofs.lemmas.List.{length-map, get_or-map, get_or_default}
use Rattle.cell_pool.specs.declared.cells.Cell.{Cell}
use Rattle.cell_pool.specs.declared.cells.CellId.{CellId}
use Rattle.cell_pool.specs.declared.cells.ChainId.{ChainId}
use Rattle.cell_pool.specs.ChainLists.{Held, first_id, last_id, IsRising, BeginsAbove, EndsBelow, Lists, chain_at, Stands, IsHeld, IsHeldWith, IsPlace}
use Rattle.cell_pool.specs.CellLinks.{cell_at, next_at, held_at, walk, blank_cell, cells_of, lists_of}
use Rattle.cell_pool.specs.working.SoundLinks.{IsNext, Leads, IsList, head_at, blank_head, owner_of, IsSound}
use Rattle.cell_pool.specs.declared.cells.Head.{Head}

-- Consequences of links that lead through a list of cells, and what a write preserves of them.

-- the chain of an owner
abbrev pub owner_number : Option ChainId → ℕ
owner_number None = 0
owner_number (Some k) = k.0

-- a list whose last cell has no identifier is empty
pub no_last : (xs : List Held) → last_id xs ≡ None → xs ≡ []
no_last [] e = refl
no_last (x ∷ []) e = absurd (let f : Some x.id ≡ None = e in cc)
no_last (x ∷ y ∷ ys) e = let rest = no_last (y ∷ ys) e in cc

-- none of the cells has this index
abbrev pub Avoids : ℕ → List Held → Type 0
Avoids at [] = Unit {0}
Avoids at (x ∷ xs) = (x.id.0 ≢ at) × Avoids at xs

-- the cell of this owner, and the cells that it leads to
pub record FoundAt (cells : List Cell) (o : Option ChainId) (i : CellId) (after : List Held) : Type 0 where
  pub inside : i.0 < length cells
  pub owned : (cell_at cells i.0).owner ≡ o
  pub leads : Leads cells o (next_at cells i) after

module _ (cells : List Cell) (o : Option ChainId) where
  -- the links from one start lead through one list
  pub Leads_unique : (link : Option CellId) (l m : List Held) → Leads cells o link l → Leads cells o link m → l ≡ m
  Leads_unique link [] [] p q = refl
  Leads_unique link [] (y ∷ ys) p q = let e : link ≡ Some y.id = q.0.named in cc
  Leads_unique link (x ∷ xs) [] p q = let e : link ≡ Some x.id = p.0.named in cc
  Leads_unique link (x ∷ xs) (y ∷ ys) p q =
      let e : Some y.id ≡ Some x.id = sym q.0.named ∙ p.0.named in
      let same : y.id ≡ x.id = cc in
      let tails : xs ≡ ys = Leads_unique (next_at cells x.id) xs ys p.1
      (subst (λ (k : CellId). Leads cells o (next_at cells k) ys) same q.1) in
      let heads : x ≡ y = sym p.0.is ∙ (ap (held_at cells) (sym same) ∙ q.0.is) in
      cc

  pub walk_is : (link : Option CellId) (l : List Held) → Leads cells o link l → walk cells (length l) link ≡ l
  walk_is link [] p = refl
  walk_is link (x ∷ xs) p = rw p.0.named (let tail = walk_is (next_at cells x.id) xs p.1 in let head = p.0.is in cc)

  pub first_is : (link : Option CellId) (l : List Held) → Leads cells o link l → link ≡ first_id l
  first_is link [] p = p
  first_is link (x ∷ xs) p = p.0.named

  -- the links from a cell itself lead through it
  pub from_here : (i : CellId) (after : List Held) → FoundAt cells o i after →
      Leads cells o (Some i) (held_at cells i ∷ after)
  from_here i after at = (record { named = refl; inside = at.inside; owned = at.owned; is = refl }, at.leads)

  -- a cell of the list
  pub found : (link : Option CellId) (i : CellId) (before : List Held) (x : Held) (after : List Held) →
      Leads cells o link (before ++ x ∷ after) → x.id ≡ i → FoundAt cells o i after × (held_at cells i ≡ x)
  found link i [] x after p named = subst (λ (k : CellId). FoundAt cells o k after × (held_at cells k ≡ x)) named
      (record { inside = p.0.inside; owned = p.0.owned; leads = p.1 }, p.0.is)
  found link i (b ∷ bs) x after p named = found (next_at cells b.id) i bs x after p.1 named

  -- the last cell of the part before a position
  pub last_found : (link : Option CellId) (a : CellId) (before rest : List Held) →
      Leads cells o link (before ++ rest) → last_id before ≡ Some a → FoundAt cells o a rest
  last_found link a [] rest p last = absurd (let f : None ≡ Some a = last in cc)
  last_found link a (b ∷ []) rest p last =
      let name : b.id ≡ a = (let f : Some b.id ≡ Some a = last in cc) in
      (found link a [] b rest p name).0
  last_found link a (b ∷ b2 ∷ bs) rest p last = last_found (next_at cells b.id) a (b2 ∷ bs) rest p.1 last

  -- a list does not contain a cell of another owner
  pub avoids_other : (at : ℕ) (link : Option CellId) (l : List Held) → (cell_at cells at).owner ≢ o →
      Leads cells o link l → Avoids at l
  avoids_other at link [] other p = tt
  avoids_other at link (x ∷ xs) other p = (
    (λ same. other (subst (λ k. (cell_at cells k).owner ≡ o) same p.0.owned)),
    avoids_other at (next_at cells x.id) xs other p.1,
  )

  -- a list that is not longer than what follows a cell does not contain that cell
  pub avoids_farther : (i : CellId) (after : List Held) (link : Option CellId) (l : List Held) →
      FoundAt cells o i after → Leads cells o link l → length l ≤ length after → Avoids i.0 l
  avoids_farther i after link [] at p le = tt
  avoids_farther i after link (x ∷ xs) at p le = (
    (λ same.
        let here : Leads cells o (Some (record { 0 = x.id.0 }))
        (x ∷ xs) = (record { named = refl; inside = p.0.inside; owned = p.0.owned; is = p.0.is }, p.1) in
        let there : Leads cells o (Some i) (x ∷ xs) = subst (λ k. Leads cells o (Some (record { 0 = k })) (x ∷ xs))
        same here in
        let long = ap length (Leads_unique (Some i) (x ∷ xs) (held_at cells i ∷ after) there
        (from_here i after at)) in
        omega arith),
    avoids_farther i after (next_at cells x.id) xs at p.1 (omega arith),
  )

  -- a cell is not among those that it leads to
  pub avoids_itself : (i : CellId) (after : List Held) → FoundAt cells o i after → Avoids i.0 after
  avoids_itself i after at = avoids_farther i after _ after at at.leads (omega arith)

  -- a cell that leads to a longer list is another cell
  pub is_other : (a i : CellId) (l m : List Held) → FoundAt cells o a l → FoundAt cells o i m → length l < length m →
      i.0 ≢ a.0
  is_other a i l m at at2 lt same = (avoids_farther i m _ (held_at cells a ∷ l) at2 (from_here a l at)
      (omega arith)).0 (sym same)

-- the list that was found is the list that is counted
pub record IsWalked (cells : List Cell) (o : Option ChainId) (link : Option CellId) (n : ℕ)
    (l : List Held) : Type 0 where
  pub list : IsList cells o link n
  pub is : walk cells n link ≡ l

pub walked : (cells : List Cell) (o : Option ChainId) (link : Option CellId) (n : ℕ) (l : List Held) →
    Leads cells o link l → n ≡ length l → IsWalked cells o link n l
walked cells o link n l leads count =
    let is : walk cells n link ≡ l = rw count (walk_is cells o link l leads) in
    record { list = record { leads = rw is leads; counted = rw is (sym count) }; is = is }

-- two lists of cells differ at most at these two indices
pub record Changes (cells new : List Cell) (a i : ℕ) : Type 0 where
  pub len : length new ≡ length cells
  pub others : (j : ℕ) → j ≢ a → j ≢ i → cell_at new j ≡ cell_at cells j

module _ (cells new : List Cell) (a i : CellId) (changes : Changes cells new a.0 i.0) (o : Option ChainId) where
  kept_next : (link : Option CellId) (x : Held) → x.id.0 ≢ a.0 → x.id.0 ≢ i.0 → IsNext cells o link x →
      IsNext new o link x
  kept_next link x not_a not_i p =
      let same = changes.others x.id.0 not_a not_i in
      record {
        named = p.named;
        inside = omega (arith, p.inside, changes.len);
        owned = rw same p.owned;
        is = rw same
            p.is;
      }

  -- a list that contains neither of the two cells is unchanged
  pub Leads-kept : (link : Option CellId) (l : List Held) → Avoids a.0 l → Avoids i.0 l → Leads cells o link l →
      Leads new o link l
  Leads-kept link [] p q leads = leads
  Leads-kept link (x ∷ xs) p q leads =
      let same = changes.others x.id.0 p.0 q.0 in
      (kept_next link x p.0 q.0 leads.0, rw (same, next_at) (Leads-kept (next_at cells x.id) xs p.1 q.1 leads.1))

  -- cell i, free or of another owner, is put after cell a
  pub insert_at : (cell_at cells i.0).owner ≢ o → cell_at new a.0 ≡ record (cell_at cells a.0) { next = Some i } →
      next_at new i ≡ next_at cells a → (cell_at new i.0).owner ≡ o → i.0 < length cells →
      (link : Option CellId) (before rest : List Held) → Leads cells o link (before ++ rest) →
      last_id before ≡ Some a → Leads new o link (before ++ held_at new i ∷ rest)
  insert_at other linked fresh owned inside link [] rest p last = absurd (let f : None ≡ Some a = last in cc)
  insert_at other linked fresh owned inside link (b ∷ []) rest p last =
      let name : b.id ≡ a = (let f : Some b.id ≡ Some a = last in cc) in
      let at = (found cells o link a [] b rest p name).0 in
      let kept : Leads new o (next_at new i) rest = rw fresh
      (Leads-kept _ rest (avoids_itself cells o a rest at) (avoids_other cells o i.0 _ rest other at.leads)
      at.leads) in
      let here : cell_at new b.id.0 ≡ record (cell_at cells b.id.0) { next = Some i } = rw name linked in
      let next : IsNext new o (Some i) (held_at new i) = record {
        named = refl;
        inside = omega
            (arith, inside, changes.len);
        owned = owned;
        is = refl;
      } in (
        record {
          named = p.0.named;
          inside = omega (arith, p.0.inside, changes.len);
          owned = rw here p.0.owned;
          is = rw here p.0.is;
        },
        rw (here, next_at) (next, kept),
      )
  insert_at other linked fresh owned inside link (b ∷ b2 ∷ bs) rest p last =
      let at = last_found cells o _ a (b2 ∷ bs) rest p.1 last in
      let here : FoundAt cells o b.id (b2 ∷ bs ++ rest) =
      record { inside = p.0.inside; owned = p.0.owned; leads = p.1 } in
      let not_a = is_other cells o a b.id rest _ at here (omega (arith, length-append bs rest)) in
      let not_i : b.id.0 ≢ i.0 = λ same. other (subst (λ k. (cell_at cells k).owner ≡ o) same p.0.owned) in
      let same = changes.others b.id.0 not_a not_i in (
        kept_next link b not_a not_i p.0,
        rw (same, next_at)
            (insert_at other linked fresh owned inside (next_at cells b.id) (b2 ∷ bs) rest p.1 last),
      )

  -- cell i is removed from after cell a
  pub remove_at : cell_at new a.0 ≡ record (cell_at cells a.0) { next = next_at cells i } →
      (link : Option CellId) (before : List Held) (z : Held) (rest : List Held) →
      Leads cells o link (before ++ z ∷ rest) → last_id before ≡ Some a → z.id ≡ i → Leads new o link (before ++ rest)
  remove_at linked link [] z rest p last named = absurd (let f : None ≡ Some a = last in cc)
  remove_at linked link (b ∷ []) z rest p last named =
      let name : b.id ≡ a = (let f : Some b.id ≡ Some a = last in cc) in
      let at = (found cells o link a [] b (z ∷ rest) p name).0 in
      let at_i = (found cells o _ i [] z rest p.1 named).0 in
      let avoids_a = avoids_farther cells o a (z ∷ rest) _ rest at at_i.leads (omega arith) in
      let kept = Leads-kept _ rest avoids_a (avoids_itself cells o i rest at_i) at_i.leads in
      let here : cell_at new b.id.0 ≡ record (cell_at cells b.id.0) { next = next_at cells i } = rw name linked in (
        record {
          named = p.0.named;
          inside = omega (arith, p.0.inside, changes.len);
          owned = rw here p.0.owned;
          is = rw here p.0.is;
        },
        rw (here, next_at) kept,
      )
  remove_at linked link (b ∷ b2 ∷ bs) z rest p last named =
      let at = last_found cells o _ a (b2 ∷ bs) (z ∷ rest) p.1 last in
      let at_i = (found cells o _ i (b2 ∷ bs) z rest p.1 named).0 in
      let here : FoundAt cells o b.id (b2 ∷ bs ++ z ∷ rest) =
      record { inside = p.0.inside; owned = p.0.owned; leads = p.1 } in
      let not_a = is_other cells o a b.id (z ∷ rest) _ at here (omega (arith, length-append bs (z ∷ rest))) in
      let not_i = is_other cells o i b.id rest _ at_i here (omega (arith, length-append bs (z ∷ rest))) in
      let same = changes.others b.id.0 not_a not_i in (
        kept_next link b not_a not_i p.0,
        rw (same, next_at)
            (remove_at linked (next_at cells b.id) (b2 ∷ bs) z rest p.1 last named),
      )

-- the octets of one cell are written
module _ (cells new : List Cell) (i : CellId) (changes : Changes cells new i.0 i.0) (o : Option ChainId) where
  pub overwrite_at : (y : List (Option ℕ)) → cell_at new i.0 ≡ record (cell_at cells i.0) { octets = y } →
      (link : Option CellId) (before : List Held) (x : Held) (after : List Held) →
      Leads cells o link (before ++ x ∷ after) → x.id ≡ i →
      Leads new o link (before ++ record x { octets = y } ∷ after)
  overwrite_at y here link [] x after p named =
      let at = (found cells o link i [] x after p named).0 in
      let avoids = avoids_itself cells o i after at in
      let kept = Leads-kept cells new i i changes o _ after avoids avoids at.leads in
      let there : cell_at new x.id.0 ≡ record (cell_at cells x.id.0) { octets = y } = rw named here in
      let is : held_at new x.id ≡ record x { octets = y } = rw there
      (ap (λ (k : Held). record k { octets = y }) p.0.is) in
      let next : Leads new o (next_at new x.id) after = rw (there, named, next_at) kept in (
        record {
          named = p.0.named;
          inside = omega (arith, p.0.inside, changes.len);
          owned = rw there p.0.owned;
          is = is;
        },
        next,
      )
  overwrite_at y here link (b ∷ bs) x after p named =
      let at = (found cells o _ i bs x after p.1 named).0 in
      let first : FoundAt cells o b.id (bs ++ x ∷ after) =
      record { inside = p.0.inside; owned = p.0.owned; leads = p.1 } in
      let not_i = is_other cells o i b.id after _ at first (omega (arith, length-append bs (x ∷ after))) in
      let same = changes.others b.id.0 not_i not_i in (
        kept_next cells new i i changes o link b not_i not_i p.0,
        rw (same, next_at)
            (overwrite_at y here (next_at cells b.id) bs x after p.1 named),
      )

-- When block numbers still rise after one chain has changed.

-- after the insertion of a cell whose block number fits
pub IsRising-more : (before rest : List Held) (x : Held) → IsRising (before ++ rest) → EndsBelow x.block before →
    BeginsAbove x.block rest → IsRising (before ++ x ∷ rest)
IsRising-more [] rest x rises above below = (below, rises)
IsRising-more (b ∷ []) rest x rises above below = (above, (below, rises.1))
IsRising-more (b ∷ b2 ∷ bs) rest x rises above below = (rises.0, IsRising-more (b2 ∷ bs) rest x rises.1 above below)

-- after the removal of one cell
pub IsRising-less : (before : List Held) (x : Held) (rest : List Held) → IsRising (before ++ x ∷ rest) →
    IsRising (before ++ rest)
IsRising-less [] x rest rises = rises.1
IsRising-less (b ∷ []) x [] rises = (tt, tt)
IsRising-less (b ∷ []) x (y ∷ ys) rises = (omega (arith, rises.0, rises.1.0), rises.1.1)
IsRising-less (b ∷ b2 ∷ bs) x rest rises = (rises.0, IsRising-less (b2 ∷ bs) x rest rises.1)

-- after a write of the octets of one cell
pub IsRising-octets : (before : List Held) (x : Held) (after : List Held) (octets : List (Option ℕ)) →
    IsRising (before ++ x ∷ after) → IsRising (before ++ record x { octets = octets } ∷ after)
IsRising-octets [] x after octets rises = rises
IsRising-octets (b ∷ []) x after octets rises = rises
IsRising-octets (b ∷ b2 ∷ bs) x after octets rises = (rises.0, IsRising-octets (b2 ∷ bs) x after octets rises.1)

-- The fields of a pool, from what contracts see of it.

-- the lists of all chains, where each of them is the same
pub chains_same : (f g : Head → List Held) (heads : List Head) →
    ((c : ℕ) → c < length heads → f (head_at heads c) ≡ g (head_at heads c)) → map f heads ≡ map g heads
chains_same f g [] same = refl
chains_same f g (x ∷ xs) same = let first = same 0 (omega arith) in let rest = chains_same f g xs
    (λ c lt. same (suc c) (omega arith)) in cc

-- the fields are sound, and this is what contracts see of them
pub record Shows (heads : List Head) (cells : List Cell) (spare : Option CellId) (free all : ℕ)
    (pool : Lists) : Type 0 where
  pub sound : IsSound heads cells spare free all
  pub is : lists_of heads cells free all ≡ pool

pub shown : {heads : List Head} {cells : List Cell} {spare : Option CellId} {free all : ℕ} {pool : Lists} →
    IsSound heads cells spare free all → lists_of heads cells free all ≡ pool → Shows heads cells spare free all pool
shown sound is = record { sound = sound; is = is }

module _ {heads : List Head} {cells : List Cell} {spare : Option CellId} {free all : ℕ} {pool : Lists}
    (shows : Shows heads cells spare free all pool) where
  pub free_is : pool.free ≡ free
  free_is = ap (λ (p : Lists). p.free) (sym shows.is)

  module _ {c : ℕ} (inside : c < length pool.chains) where
    pub within : c < length heads
    within = omega (arith, length-map heads (cells_of cells), ap (λ (p : Lists). length p.chains) shows.is)

    -- a chain is the cells that its head leads to
    pub chain_is : cells_of cells (head_at heads c) ≡ chain_at pool c
    chain_is = sym (get_or-map (cells_of cells) heads c blank_head _ within)
        ∙ ap (λ (p : Lists). chain_at p c) shows.is

    pub chain_leads : Leads cells (owner_of c) (head_at heads c).first (chain_at pool c)
    chain_leads = subst (Leads cells (owner_of c) (head_at heads c).first) chain_is
        (shows.sound.chain_lists c within).leads

    pub chain_count : (head_at heads c).count ≡ length (chain_at pool c)
    chain_count = sym (shows.sound.chain_lists c within).counted ∙ ap length chain_is

    pub chain_rises : IsRising (chain_at pool c)
    chain_rises = subst IsRising chain_is (shows.sound.rising c within)

    -- the value read is the head of the chain
    pub head_read : {h : Head} → h ≡ get_or heads c h → h ≡ head_at heads c
    head_read read = read ∙ get_or_default heads c _ blank_head within

    pub place_leads : {after : Option CellId} {before rest : List Held} →
        IsPlace (chain_at pool c) after before rest → Leads cells (owner_of c) (head_at heads c).first
        (before ++ rest)
    place_leads place = subst (Leads cells (owner_of c) (head_at heads c).first) place.splits chain_leads

    -- the cell before a position
    pub place_last : {a : CellId} {before rest : List Held} → IsPlace (chain_at pool c) (Some a) before rest →
        FoundAt cells (owner_of c) a rest
    place_last {a = a} {before = before} {rest = rest} place = last_found cells (owner_of c) _ a before rest
        (place_leads place) place.ends

  module _ {c : ℕ} {name : CellId} {before : List Held} {x : Held} {after : List Held}
      (stands : Stands pool c name before x after) where
    stands_found : FoundAt cells (owner_of c) name after × (held_at cells name ≡ x)
    stands_found = found cells (owner_of c) (head_at heads c).first name before x after
        (subst (Leads cells (owner_of c) (head_at heads c).first) stands.splits (chain_leads stands.inside))
        stands.named

    pub stands_at : FoundAt cells (owner_of c) name after
    stands_at = stands_found.0

    pub stands_is : held_at cells name ≡ x
    stands_is = stands_found.1

  module _ {name : CellId} where
    pub held_inside : IsHeld pool name → name.0 < length cells
    held_inside held = (stands_at held.stands).inside

    -- the value read is the cell with this identifier
    pub cell_read : IsHeld pool name → {x : Cell} → x ≡ get_or cells name.0 x → x ≡ cell_at cells name.0
    cell_read held read = read ∙ get_or_default cells name.0 _ blank_cell (held_inside held)

-- a cell of whose octets something holds is in a chain
pub just_held : {pool : Lists} {name : CellId} {P : List (Option ℕ) → Type 0} → IsHeldWith pool name P → IsHeld pool name
just_held held = record { chain = held.chain; before = held.before; cell = held.cell; after = held.after; stands = held.stands }
