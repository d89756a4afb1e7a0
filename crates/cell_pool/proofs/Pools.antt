-- A pool after one chain was written, after the octets of one cell were, a new pool, and one with a
-- cell that is about to be taken.
use Rattle.std.proofs.Common.{◌≡◌, ℕ, zero, suc, ◌+◌, ◌<◌, ◌≢◌, List, [], ◌∷◌, map, length, set, Option, None, refl, sym, ap, ◌∙◌, arith, inl, inr, length-set, ◌++◌, get_or, subst, length-append, ◌-◌, ◌^◌, replicate, Some, sum_by}
use Rattle.std.proofs.lemmas.Bool.{cases_eq}
use Rattle.std.proofs.lemmas.List.{get_or-set_same, get_or-set_other, get_or_default, set-get_or, length-replicate, get_or_append_left}
use Rattle.std.proofs.lemmas.List.Sums.{sum_by-set, sum_by-cons}
use Rattle.std.proofs.Math.Seq.{get_or-append_seam}
use Rattle.cell_pool.specs.declared.cells.Cell.{Cell}
use Rattle.cell_pool.specs.declared.cells.Head.{Head}
use Rattle.cell_pool.specs.declared.cells.CellId.{CellId}
use Rattle.cell_pool.specs.declared.cells.ChainId.{ChainId}
use Rattle.cell_pool.specs.ChainLists.{Lists, Held, IsRising, with_chain, Stands}
use Rattle.cell_pool.specs.CellLinks.{blank_cell, cell_at, cells_of, lists_of, walk, next_at}
use Rattle.cell_pool.specs.working.SoundLinks.{blank_head, head_at, owner_of, Leads, IsList, IsSound, with_next, loose_cell, IsReady}
use Rattle.cell_pool.proofs.Chains.{owner_number, avoids_other, Changes, Leads-kept, IsWalked, walked, Shows, chains_same, within, overwrite_at, IsRising-octets, free_is, chain_leads, chain_count, chain_rises, stands_at, stands_is}

-- A pool after one chain, the free list and at most two cells were written.

-- a cell of this owner is in no other chain
abbrev pub IsOnlyIn : ℕ → Option ChainId → Type 0
IsOnlyIn c owner = (j : ℕ) → j ≢ c → owner ≢ owner_of j

pub only_own : (c : ℕ) (owner : Option ChainId) → owner ≡ owner_of c → IsOnlyIn c owner
only_own c owner own j ne same = ne (ap owner_number (sym same ∙ own))

pub only_free : (c : ℕ) (owner : Option ChainId) → owner ≡ None → IsOnlyIn c owner
only_free c owner free j ne same = cc

-- what is known of the fields after one chain has become these cells
pub record IsUpdate (heads : List Head) (cells : List Cell) (free all c : ℕ) (head : Head) (new : List Cell)
    (spare : Option CellId) (left : ℕ) (l : List Held) (a i : CellId) : Type 0 where
  pub listed : ℕ
  pub changes : Changes cells new a.0 i.0
  pub leads : Leads new (owner_of c) head.first l
  pub counted : head.count ≡ length l
  pub first_place : IsOnlyIn c (cell_at cells a.0).owner
  pub second_place : IsOnlyIn c (cell_at cells i.0).owner
  pub free_list : IsList new None spare listed
  pub made : listed + all ≡ left + length cells
  pub total : left + head.count ≡ free + (head_at heads c).count

-- the lists of all chains after one head was written
chains-set : (f g : Head → List Held) (heads : List Head) (c : ℕ) (y : Head) →
    ((j : ℕ) → j < length heads → j ≢ c → f (head_at heads j) ≡ g (head_at heads j)) →
    map f (set heads c y) ≡ set (map g heads) c (f y)
chains-set f g [] c y same = refl
chains-set f g (x ∷ xs) zero y same = ap (λ l. f y ∷ l)
    (chains_same f g xs (λ j lt. same (suc j) (omega arith) (omega arith)))
chains-set f g (x ∷ xs) (suc c) y same = let first : f x ≡ g x = same 0 (omega arith) (omega arith)
    in let rest = chains-set f g xs c y (λ j lt ne. same (suc j) (omega arith) (omega arith)) in cc

module _ {heads : List Head} {cells : List Cell} {old : Option CellId} {free all : ℕ} {pool : Lists}
    (shows : Shows heads cells old free all pool) {c : ℕ} (inside : c < length pool.chains) {head : Head}
    {new : List Cell} {spare : Option CellId} {left : ℕ} {l : List Held} {a i : CellId}
    (update : IsUpdate heads cells free all c head new spare left l a i) where
  other_chain : (j : ℕ) → j < length heads → j ≢ c → IsWalked new (owner_of j) (head_at heads j).first
      (head_at heads j).count (cells_of cells (head_at heads j))
  other_chain j lt ne =
      let list = shows.sound.chain_lists j lt in
      let avoids_a = avoids_other cells (owner_of j) a.0 _ _ (update.first_place j ne) list.leads in
      let avoids_i = avoids_other cells (owner_of j) i.0 _ _ (update.second_place j ne) list.leads in
      walked new (owner_of j) _ _ _ (Leads-kept cells new a i update.changes (owner_of j)
      _ _ avoids_a avoids_i list.leads) (sym list.counted)

  this_chain : IsWalked new (owner_of c) head.first head.count l
  this_chain = walked new (owner_of c) head.first head.count l update.leads update.counted

  head_here : head_at (set heads c head) c ≡ head
  head_here = get_or-set_same heads c head blank_head (within shows inside)

  head_other : (j : ℕ) → j ≢ c → head_at (set heads c head) j ≡ head_at heads j
  head_other j ne = get_or-set_other heads c j head blank_head ne

  pub update_sound : IsRising l → IsSound (set heads c head) new spare left all
  update_sound rises =
      let len = length-set heads c head in
      record {
        listed = update.listed;
        free_list = update.free_list;
        chain_lists = λ j lt. elim (cases_eq j c) [
          | inl same ↦ rw (same, head_here) this_chain.list
          | inr ne ↦ rw (head_other j ne) (other_chain j (omega arith) ne).list
        ];
        rising = λ j lt. elim (cases_eq j c) [
          | inl same ↦ rw (same, head_here, this_chain.is) rises
          | inr ne ↦ rw (head_other j ne, (other_chain j (omega arith) ne).is) (shows.sound.rising j (omega arith))
        ];
        made = omega (arith, update.made, update.changes.len);
        fits = omega (arith, shows.sound.fits, update.changes.len);
        total = omega (
          arith,
          sum_by-set (λ (h : Head). h.count) heads c head blank_head (within shows inside),
          shows.sound.total,
          update.total,
        );
        room = omega (arith, shows.sound.room);
      }

  pub update_seen : {n : ℕ} → n ≡ left → lists_of (set heads c head) new left all ≡ with_chain pool c l n
  update_seen {n = n} same =
      let chains = chains-set (cells_of new) (cells_of cells) heads c head (λ j lt ne. (other_chain j lt ne).is) in
      let seen : lists_of (set heads c head) new left all ≡ with_chain (lists_of heads cells free all)
      c l left = rw (chains, this_chain.is) refl in
      seen ∙ (ap (λ (p : Lists). with_chain p c l left) shows.is ∙ ap (λ (k : ℕ). with_chain pool c l k) (sym same))

-- the cells after one was written
pub one_change : (cells : List Cell) (i : CellId) (x : Cell) → Changes cells (set cells i.0 x) i.0 i.0
one_change cells i x = record {
  len = length-set cells i.0 x;
  others = λ j ne ne2. get_or-set_other cells i.0 j x
      blank_cell ne;
}

-- the cells after a link of one and then another cell were written
module _ (cells : List Cell) (a i : CellId) (next : Option CellId) (x : Cell) where
  pub two_changes : Changes cells (set (with_next cells a.0 next) i.0 x) a.0 i.0
  two_changes = record {
    len = length-set (with_next cells a.0 next) i.0 x ∙ length-set cells a.0 _;
    others = λ j na ni. get_or-set_other (with_next cells a.0 next) i.0 j x blank_cell ni
        ∙ get_or-set_other cells a.0 j _ blank_cell na;
  }

  pub linked_at : a.0 ≢ i.0 → a.0 < length cells → cell_at (set (with_next cells a.0 next) i.0 x)
      a.0 ≡ record (cell_at cells a.0) { next = next }
  linked_at apart inside = get_or-set_other (with_next cells a.0 next) i.0 a.0 x blank_cell apart
      ∙ get_or-set_same cells a.0 _ blank_cell inside

  pub written_at : i.0 < length cells → cell_at (set (with_next cells a.0 next) i.0 x) i.0 ≡ x
  written_at inside = get_or-set_same (with_next cells a.0 next) i.0 x blank_cell
      (omega (arith, length-set cells a.0 (record (cell_at cells a.0) { next = next })))

-- A pool after the octets of one cell were written.

module _ {heads : List Head} {cells : List Cell} {spare : Option CellId} {free all : ℕ} {pool : Lists}
    (shows : Shows heads cells spare free all pool) where
  -- the octets of one cell are written
  pub overwrite : {c : ℕ} {name : CellId} {before : List Held} {x : Held} {after : List Held} {k : Cell}
      {octets : List (Option ℕ)} → (f : List (Option ℕ) → List (Option ℕ)) → k ≡ get_or cells name.0 k →
      octets ≡ f k.octets → Stands pool c name before x after →
      Shows heads (set cells name.0 (record k { octets = octets })) spare free all
      (with_chain pool c (before ++ record x { octets = f x.octets } ∷ after) pool.free)
  overwrite {c = c} {name = name} {before = before} {x = x} {after = after} {k = k}
      {octets = octets} f k_read octets_are stands =
      let at = stands_at shows stands in
      let k_is = k_read ∙ get_or_default cells name.0 _ blank_cell at.inside in
      let y = f x.octets in
      let y_is : octets ≡ y = octets_are ∙ (ap (λ (z : Cell). f z.octets) k_is
      ∙ ap (λ (z : Held). f z.octets) (stands_is shows stands)) in
      let w : Cell = record (cell_at cells name.0) { octets = y } in
      let new = set cells name.0 w in
      let changes = one_change cells name w in
      let here : cell_at new name.0 ≡ w = get_or-set_same cells name.0 w blank_cell at.inside in
      let leads : Leads cells (owner_of c) (head_at heads c).first (before ++ x ∷ after) = subst
      (Leads cells (owner_of c) (head_at heads c).first) stands.splits (chain_leads shows stands.inside) in
      let list = shows.sound.free_list in
      let avoids = avoids_other cells None name.0 _ _ (λ same. let owned = at.owned in cc) list.leads in
      let free_kept = Leads-kept cells new name name changes None _ _ avoids avoids list.leads in
      let l = before ++ record x { octets = y } ∷ after in
      let update : IsUpdate heads cells free all c (head_at heads c) new spare free l name name = record {
        listed = shows.sound.listed;
        changes = changes;
        leads = overwrite_at cells new name changes (owner_of c) y here _ before x after leads stands.named;
        counted = omega (
          arith,
          chain_count shows stands.inside,
          ap length stands.splits,
          length-append before
              (x ∷ after),
          length-append before (record x { octets = y } ∷ after),
        );
        first_place = only_own c _ at.owned;
        second_place = only_own c _ at.owned;
        free_list = (walked new None spare shows.sound.listed (walk cells shows.sound.listed spare) free_kept (sym list.counted)).list;
        made = shows.sound.made;
        total = refl;
      } in
      let rises = IsRising-octets before x after y (subst IsRising stands.splits (chain_rises shows stands.inside)) in
      let same_heads = set-get_or heads c blank_head in
      let result : Shows heads new spare free all (with_chain pool c l pool.free) = record {
        sound = subst (λ hs. IsSound hs new spare free all) same_heads (update_sound shows stands.inside update rises);
        is = subst (λ hs. lists_of hs new free all ≡ with_chain pool c l pool.free) same_heads
            (update_seen shows stands.inside update (free_is shows));
      } in
      rw (y_is, k_is) result

-- The fields of a new pool.

-- the heads of empty chains
head_at-blank : (n c : ℕ) → head_at (replicate n blank_head) c ≡ blank_head
head_at-blank zero c = refl
head_at-blank (suc n) zero = refl
head_at-blank (suc n) (suc c) = head_at-blank n c

counts-blank : (n : ℕ) → sum_by (λ (h : Head). h.count) (replicate n blank_head) ≡ 0
counts-blank zero = refl
counts-blank (suc n) = omega (
  arith,
  sum_by-cons (λ (h : Head). h.count) blank_head (replicate n blank_head),
  counts-blank n,
)

lists-blank : (cells : List Cell) (n : ℕ) → map (cells_of cells) (replicate n blank_head) ≡ replicate n []
lists-blank cells zero = refl
lists-blank cells (suc n) = ap (λ l. [] ∷ l) (lists-blank cells n)

pub opened_sound : (heads : List Head) (cells : List Cell) (count all chains : ℕ) →
    heads ≡ replicate chains blank_head → cells ≡ [] → all ≡ count → count + chains < 2 ^ 32 - 1 →
    IsSound heads cells None count all
opened_sound heads cells count all chains blank none whole room =
    rw (blank, none, whole) (record {
      listed = 0;
      free_list = record { leads = refl; counted = refl };
      chain_lists = λ c lt. rw (head_at-blank chains c) (record { leads = refl; counted = refl });
      rising = λ c lt. rw (head_at-blank chains c) tt;
      made = omega arith;
      fits = omega arith;
      total = omega (arith, counts-blank chains);
      room = omega (arith, length-replicate chains blank_head);
    })

pub opened_view : (heads : List Head) (cells : List Cell) (count all chains : ℕ) →
    heads ≡ replicate chains blank_head → all ≡ count →
    lists_of heads cells count all ≡ record { chains = replicate chains []; free = count; cells = count }
opened_view heads cells count all chains blank whole = rw (blank, lists-blank cells chains, whole) refl

-- A pool when a free cell is about to be taken: the first of the free list, or one that was made.

-- a cell pushed at the end changes no list of the cells before it
Leads-push : (cells : List Cell) (y : Cell) (o : Option ChainId) (link : Option CellId) (l : List Held) →
    Leads cells o link l → Leads (cells ++ y ∷ []) o link l
Leads-push cells y o link [] p = p
Leads-push cells y o link (x ∷ xs) p =
    let same : cell_at (cells ++ y ∷ []) x.id.0 ≡ cell_at cells x.id.0 = get_or_append_left cells (y ∷ [])
    blank_cell x.id.0 p.0.inside in (
      record {
        named = p.0.named;
        inside = omega (arith, p.0.inside, length-append cells (y ∷ []));
        owned = rw same
            p.0.owned;
        is = rw same p.0.is;
      },
      rw (same, next_at) (Leads-push cells y o (next_at cells x.id) xs p.1),
    )

-- a list without a first cell is empty
none_listed : (cells : List Cell) (o : Option ChainId) (n : ℕ) → IsList cells o None n → n ≡ 0
none_listed cells o zero list = refl
none_listed cells o (suc n) list = absurd (let e = list.counted in omega arith)

module _ {heads : List Head} {cells : List Cell} {free all : ℕ} {pool : Lists}
    (shows : Shows heads cells None free all pool) {taken : CellId} (place : taken.0 ≡ length cells)
    (room : length cells < all) where
  abbrev more : List Cell
  more = cells ++ loose_cell ∷ []

  long : length more ≡ length cells + 1
  long = length-append cells (loose_cell ∷ [])

  here : cell_at more taken.0 ≡ loose_cell
  here = subst (λ k. cell_at more k ≡ loose_cell) (sym place) (get_or-append_seam cells loose_cell [] blank_cell)

  chain_kept : (c : ℕ) → c < length heads → IsWalked more (owner_of c) (head_at heads c).first
      (head_at heads c).count (cells_of cells (head_at heads c))
  chain_kept c lt =
      let list = shows.sound.chain_lists c lt in
      walked more (owner_of c) _ _ _ (Leads-push cells loose_cell (owner_of c) _ _ list.leads) (sym list.counted)

  one : IsList more None (Some taken) 1
  one = record {
    leads = (
      record { named = refl; inside = omega (arith, long, place); owned = rw here refl; is = refl },
      rw (next_at, here) refl,
    );
    counted = refl;
  }

  -- a cell was made
  made_shows : Shows heads more (Some taken) free all pool
  made_shows = record {
    sound = record {
      listed = 1;
      free_list = one;
      chain_lists = λ c lt. (chain_kept c lt).list;
      rising = λ c lt. subst IsRising (sym (chain_kept c lt).is) (shows.sound.rising c lt);
      made = omega (arith, long, shows.sound.made, none_listed cells None _ shows.sound.free_list);
      fits = omega (arith, long, room);
      total = shows.sound.total;
      room = shows.sound.room;
    };
    is = (rw (chains_same (cells_of more) (cells_of cells) heads (λ c lt. (chain_kept c lt).is)) refl) ∙ shows.is;
  }

-- a cell is ready
pub ready_shows : {heads : List Head} {cells : List Cell} (spare : Option CellId) {free all left : ℕ} {pool : Lists}
    {new : List Cell} {taken : CellId} → Shows heads cells spare free all pool → IsReady cells all spare new taken →
    left ≡ all → Shows heads new (Some taken) free left pool
ready_shows (Some first) shows ready same = rw (ready.0, ready.1, same) shows
ready_shows None shows ready same = rw (ready.is, same) (made_shows shows ready.place ready.room)
