-- The blocks of a chain: the octets at a block number, a chain with a cell for a block, and what
-- contracts see of a store.
use Rattle.std.proofs.Common.{◌≡◌, ◌≢◌, ℕ, ◌<◌, ◌==◌, true, false, List, [], ◌∷◌, ◌++◌, Option, Some, None, refl, sym, ap, subst, ◌∙◌, arith, ne_eqb, eq-eqb, if◌then◌else◌, ◌+◌, ◌-◌, ◌/◌, ◌%◌, inl, inr, length, get_or, replicate, is_some, length-append, zero, suc, map, get_or-set_other}
use Rattle.std.specs.List.{list_any, All}
use Rattle.std.proofs.lemmas.Bool.{cases_eq, cases_lt}
use Rattle.std.proofs.lemmas.List.{get_or-set_same, set-get_or, get_or-replicate, get_or_past, length-replicate, get_or-map, length-map, length-set, map-set}
use Rattle.std.proofs.lemmas.List.Folds.{list_any_none}
use Rattle.std.proofs.lemmas.List.Elements.{All-replicate, All-nil, All-cons}
use Rattle.cell_pool.specs.declared.cells.CellId.{CellId}
use Rattle.cell_pool.specs.ChainLists.{Held, HasPlaceFor, IsRising, BeginsAbove, EndsBelow, last_id, Lists, TakesAfter, chain_at, with_chain, empty_cell}
use Rattle.cell_pool.proofs.Chains.{IsRising-more}
use Rattle.retain_store.specs.Maps.{IsFull, block_at, holds, octet_at, Block, Store, IsMap, ChangesOnly, chain_of, with_blocks, IsRising as AreRising}
use Rattle.retain_store.specs.working.BlockCells.{AllFull, IsAt, IsCellOf, IsKept, IsNear, blocks_in}
use Rattle.retain_store.specs.PoolBlocks.{blocks_of, block_of, store_of}
use Rattle.retain_store.specs.working.PoolChanges.{IsChanged}

-- The octets of a chain at a block number, if the cells of the chain are known.

-- a block of another number is not that of the first cell
pub skips : (x : Held) (rest : List Held) (n : ℕ) → x.block ≢ n → block_at (blocks_of (x ∷ rest)) n ≡ block_at (blocks_of rest) n
skips x rest n other = rw (ne_eqb x.block n other) refl

pub begins : (x : Held) (rest : List Held) (n : ℕ) → x.block ≡ n → block_at (blocks_of (x ∷ rest)) n ≡ x.octets
begins x rest n same = rw (eq-eqb x.block n same) refl

-- the parts of a rising chain rise
pub rising_after : (before rest : List Held) → IsRising (before ++ rest) → IsRising rest
rising_after [] rest rises = rises
rising_after (b ∷ bs) rest rises = rising_after bs rest rises.1

-- the first cell of a rising chain is below the number that its last cell is below
first_below : (n : ℕ) (b : Held) (bs rest : List Held) → IsRising (b ∷ bs ++ rest) → EndsBelow n (b ∷ bs) → b.block < n
first_below n b [] rest rises below = below
first_below n b (b2 ∷ bs) rest rises below = omega (arith, rises.0, first_below n b2 bs rest rises.1 below)

tail_below : (n : ℕ) (b : Held) (bs : List Held) → EndsBelow n (b ∷ bs) → EndsBelow n bs
tail_below n b [] below = tt
tail_below n b (b2 ∷ bs) below = below

-- no block of this number is before the position for it
pub passes_below : (n : ℕ) (before rest : List Held) → IsRising (before ++ rest) → EndsBelow n before →
    block_at (blocks_of (before ++ rest)) n ≡ block_at (blocks_of rest) n
passes_below n [] rest rises below = refl
passes_below n (b ∷ bs) rest rises below =
    let first = first_below n b bs rest rises below in
    skips b (bs ++ rest) n (λ same. absurd (omega arith)) ∙ passes_below n bs rest rises.1 (tail_below n b bs below)

-- nor after it
pub none_above : (n : ℕ) (rest : List Held) → IsRising rest → BeginsAbove n rest → block_at (blocks_of rest) n ≡ []
none_above n [] rises above = refl
none_above n (x ∷ []) rises above = skips x [] n (λ same. absurd (omega (arith, above)))
none_above n (x ∷ y ∷ ys) rises above =
    skips x (y ∷ ys) n (λ same. absurd (omega (arith, above)))
    ∙ none_above n (y ∷ ys) rises.1 (omega (arith, rises.0, above))

-- the cells before a cell are below it
pub ends_below : (before : List Held) (x : Held) (after : List Held) → IsRising (before ++ x ∷ after) → EndsBelow x.block before
ends_below [] x after rises = tt
ends_below (b ∷ []) x after rises = rises.0
ends_below (b ∷ b2 ∷ bs) x after rises = ends_below (b2 ∷ bs) x after rises.1

-- the block of a cell
pub found_at : (before : List Held) (x : Held) (after : List Held) → IsRising (before ++ x ∷ after) →
    block_at (blocks_of (before ++ x ∷ after)) x.block ≡ x.octets
found_at before x after rises =
    passes_below x.block before (x ∷ after) rises (ends_below before x after rises) ∙ begins x after x.block refl

-- the block of a number that has a position and no cell
pub missing_at : {cells : List Held} {link : Option CellId} {n : ℕ} → IsRising cells → HasPlaceFor cells link n →
    block_at (blocks_of cells) n ≡ []
missing_at {n = n} rises has =
    let rises2 = subst IsRising has.place.splits rises in
    ap (λ l. block_at (blocks_of l) n) has.place.splits ∙ (passes_below n has.before has.rest rises2 has.above
    ∙ none_above n has.rest (rising_after has.before has.rest rises2) has.below)

-- the block of a number that has a cell
pub found_in : {cells : List Held} {name : CellId} {n : ℕ} → IsRising cells → (cell : IsCellOf cells n name) →
    block_at (blocks_of cells) n ≡ cell.cell.octets
found_in {n = n} rises cell =
    let rises2 = subst IsRising cell.at.splits rises in
    ap (λ l. block_at (blocks_of l) n) cell.at.splits
    ∙ (ap (block_at (blocks_of (cell.before ++ cell.cell ∷ cell.after))) (sym cell.numbered)
    ∙ found_at cell.before cell.cell cell.after rises2)

-- a cell in a list is also in the list with one cell in front
near_behind : (x : Held) (cells : List Held) (link : Option CellId) → IsNear cells link → IsNear (x ∷ cells) link
near_behind x cells None near = tt
near_behind x cells (Some name) near = record {
  before = x ∷ near.before;
  cell = near.cell;
  after = near.after;
  at = record { splits = ap (λ l. x ∷ l) near.at.splits; named = near.at.named };
}

last_near : (before rest : List Held) → IsNear (before ++ rest) (last_id before)
last_near [] rest = tt
last_near (x ∷ []) rest = record {
  before = [];
  cell = x;
  after = rest;
  at = record { splits = refl; named = refl };
}
last_near (x ∷ y ∷ ys) rest = near_behind x (y ∷ ys ++ rest) (last_id (y ∷ ys)) (last_near (y ∷ ys) rest)

-- the cell before a position is in the chain
pub place_near : {cells : List Held} {link : Option CellId} {n : ℕ} → HasPlaceFor cells link n → IsNear cells link
place_near {cells = cells} {link = link} has =
    let here = last_near has.before has.rest in
    subst (λ l. IsNear l link) (sym has.place.splits) (subst (IsNear (has.before ++ has.rest)) has.place.ends here)

pub cell_near : {cells : List Held} {name : CellId} {n : ℕ} → IsCellOf cells n name → IsNear cells (Some name)
cell_near cell = record { before = cell.before; cell = cell.cell; after = cell.after; at = cell.at }

-- a cell of these has an octet
full_at : (before : List Held) (x : Held) (after : List Held) → AllFull (before ++ x ∷ after) → IsFull x.octets
full_at [] x after full = full.0
full_at (b ∷ bs) x after full = full_at bs x after full.1

pub cell_full : {cells : List Held} {name : CellId} {before : List Held} {x : Held} {after : List Held} →
    IsAt cells name before x after → AllFull cells → IsFull x.octets
cell_full {before = before} {x = x} {after = after} at full = full_at before x after (subst AllFull at.splits full)

-- a number has a cell exactly if the block has an octet
pub holds_found : {cells : List Held} {name : CellId} {n : ℕ} → IsKept cells → IsCellOf cells n name →
    holds (blocks_of cells) n ≡ true
holds_found kept cell = rw (found_in kept.rising cell) (cell_full cell.at kept.full).used

pub holds_missing : {cells : List Held} {link : Option CellId} {n : ℕ} → IsRising cells → HasPlaceFor cells link n →
    holds (blocks_of cells) n ≡ false
holds_missing rises has = rw (missing_at rises has) refl

-- with a cell more, and with one fewer, the others have an octet
pub full_more : (before : List Held) (x : Held) (after : List Held) → AllFull (before ++ after) → IsFull x.octets →
    AllFull (before ++ x ∷ after)
full_more [] x after full here = (here, full)
full_more (b ∷ bs) x after full here = (full.0, full_more bs x after full.1 here)

pub full_less : (before : List Held) (x : Held) (after : List Held) → AllFull (before ++ x ∷ after) →
    AllFull (before ++ after)
full_less [] x after full = full.1
full_less (b ∷ bs) x after full = (full.0, full_less bs x after full.1)

-- a block of another number is the same with this cell and without it
pub other_block : (before : List Held) (x : Held) (after : List Held) (n : ℕ) → x.block ≢ n →
    block_at (blocks_of (before ++ x ∷ after)) n ≡ block_at (blocks_of (before ++ after)) n
other_block [] x after n other = skips x after n other
other_block (b ∷ bs) x after n other = ap (λ l. if b.block == n then b.octets else l) (other_block bs x after n other)

pub other_in : {cells : List Held} (before : List Held) (x : Held) (after : List Held) (n : ℕ) →
    cells ≡ before ++ x ∷ after → x.block ≢ n → block_at (blocks_of cells) n ≡ block_at (blocks_of (before ++ after)) n
other_in before x after n splits other = ap (λ l. block_at (blocks_of l) n) splits ∙ other_block before x after n other

-- A chain with a cell for a block.

-- There is a cell for this block, perhaps a new one without octets; the map is unchanged.
pub record Opens (old new : Lists) (chain number : ℕ) (name : CellId) : Type 0 where
  pub before : List Held
  pub cell : Held
  pub after : List Held
  pub at : IsAt (chain_at new chain) name before cell after
  pub numbered : cell.block ≡ number
  pub places : length cell.octets ≡ 256
  pub rising : IsRising (chain_at new chain)
  pub full : AllFull (before ++ after)
  pub changed : IsChanged old new chain
  pub spent : new.free + (if holds (blocks_in old chain) number then 0 else 1) ≡ old.free
  pub octets : (offset : ℕ) → octet_at (blocks_in new chain) offset ≡ octet_at (blocks_in old chain) offset
  pub held : (n : ℕ) → holds (blocks_in new chain) n ≡ holds (blocks_in old chain) n

-- the pool itself is the pool with this chain as it is
pub with_itself : (pool : Lists) (c : ℕ) → pool ≡ with_chain pool c (chain_at pool c) pool.free
with_itself pool c = ap (λ l. record pool { chains = l }) (sym (set-get_or pool.chains c []))

pub unchanged : (pool : Lists) (c : ℕ) → IsChanged pool pool c
unchanged pool c = record { others = with_itself pool c; cells = refl }

-- the chain that has changed is this one
pub chain_is : (old : Lists) {new : Lists} (c : ℕ) (cells : List Held) (free : ℕ) → c < length old.chains →
    new ≡ with_chain old c cells free → chain_at new c ≡ cells
chain_is old c cells free inside is =
    ap (λ (p : Lists). chain_at p c) is ∙ get_or-set_same old.chains c cells [] inside

pub changed_by : (old : Lists) {new : Lists} (c : ℕ) (cells : List Held) (free : ℕ) → c < length old.chains →
    new ≡ with_chain old c cells free → free + length cells ≡ old.free + length (chain_at old c) → IsChanged old new c
changed_by old {new = new} c cells free inside is total =
    let here = chain_is old c cells free inside is in
    let same = ap (λ (p : Lists). p.free) is in
    record {
      others = is ∙ (ap (λ l. with_chain old c l free) (sym here) ∙ ap (with_chain old c (chain_at new c)) (sym same));
      cells = omega (arith, total, same, ap length here);
    }

-- the cell of the block
abbrev pub opened_cell : {old new : Lists} {c n : ℕ} {name : CellId} → Opens old new c n name → IsCellOf (chain_at new c) n name
opened_cell opens = record { before = opens.before; cell = opens.cell; after = opens.after; at = opens.at; numbered = opens.numbered }

-- the block has a cell
abbrev pub opens_found : {pool : Lists} {c n : ℕ} {name : CellId} → IsKept (chain_at pool c) → IsCellOf (chain_at pool c) n name →
    Opens pool pool c n name
opens_found {pool = pool} {c = c} kept cell = record {
  before = cell.before;
  cell = cell.cell;
  after = cell.after;
  at = cell.at;
  numbered = cell.numbered;
  places = (cell_full cell.at kept.full).places;
  rising = kept.rising;
  full = full_less cell.before cell.cell cell.after (subst AllFull cell.at.splits kept.full);
  changed = unchanged pool c;
  spent = rw (holds_found kept cell) (omega arith);
  octets = λ offset. refl;
  held = λ n. refl;
}

-- a block without octets
pub no_octet : (n i : ℕ) (none : Option ℕ) → none ≡ None → get_or (replicate n none) i None ≡ None
no_octet n i none is = elim (cases_lt i n) [
  | inl lt ↦ get_or-replicate n i none None lt ∙ is
  | inr le ↦ get_or_past (replicate n none) i None (omega (arith, length-replicate n none))
]

pub none_held : (n : ℕ) (none : Option ℕ) → none ≡ None → list_any is_some (replicate n none) ≡ false
none_held n none is =
    list_any_none is_some (replicate n none) (All-replicate (λ o. is_some o ≡ false) n none (ap is_some is))

-- the block gets a cell
abbrev pub opens_taken : {old new : Lists} {c n : ℕ} {after : Option CellId} {name : CellId} → c < length old.chains →
    IsKept (chain_at old c) → (has : HasPlaceFor (chain_at old c) after n) → (old.free ≡ 0 → ⊥) →
    TakesAfter old new c after (empty_cell name n) → Opens old new c n name
opens_taken {old = old} {new = new} {c = c} {n = n} {name = name} inside kept has some takes =
    let x = empty_cell name n in
    let cells = has.before ++ x ∷ has.rest in
    let is = takes has.before has.rest has.place in
    let here = chain_is old c cells (old.free - 1) inside is in
    let rises = IsRising-more has.before has.rest x (subst IsRising has.place.splits kept.rising) has.above has.below in
    let missing = missing_at kept.rising has in
    let unheld = holds_missing kept.rising has in
    let fewer = ap (λ (p : Lists). p.free) is in
    let found : block_at (blocks_in new c) n ≡ x.octets =
    ap (λ l. block_at (blocks_of l) n) here ∙ found_at has.before x has.rest rises in
    let other : (m : ℕ) → n ≢ m → block_at (blocks_in new c) m ≡ block_at (blocks_in old c) m =
    λ m differ. other_in has.before x has.rest m here differ ∙ sym (ap (λ l. block_at (blocks_of l) m) has.place.splits) in
    record {
      before = has.before;
      cell = x;
      after = has.rest;
      at = record { splits = here; named = refl };
      numbered = refl;
      places = length-replicate {A = Option ℕ} 256 None;
      rising = subst IsRising (sym here) rises;
      full = subst AllFull has.place.splits kept.full;
      changed = changed_by old c cells (old.free - 1) inside is (omega (
        arith,
        length-append has.before (x ∷ has.rest),
        length-append has.before has.rest,
        ap length has.place.splits,
      ));
      spent = rw unheld (omega arith);
      octets = λ offset. elim (cases_eq n (offset / 256)) [
        | inl same ↦
            let at = offset % 256 in
            ap (λ m. get_or (block_at (blocks_in new c) m) at None) (sym same) ∙ (ap (λ l. get_or l at None) found
            ∙ (no_octet 256 at None refl ∙ (ap (λ l. get_or l at None) (sym missing)
            ∙ ap (λ m. get_or (block_at (blocks_in old c) m) at None) same)))
        | inr differ ↦ ap (λ l. get_or l (offset % 256) None) (other (offset / 256) differ)
      ];
      held = λ m. elim (cases_eq n m) [
        | inl same ↦ ap (λ k. holds (blocks_in new c) k) (sym same) ∙ (ap (list_any is_some) found
            ∙ (none_held 256 None refl ∙ (sym unheld ∙ ap (λ k. holds (blocks_in old c) k) same)))
        | inr differ ↦ ap (list_any is_some) (other m differ)
      ];
    }

-- What contracts see of a store, from the pool that holds it.

blocks_rise : (cells : List Held) → IsRising cells → AreRising (blocks_of cells)
blocks_rise [] rises = tt
blocks_rise (x ∷ []) rises = rises
blocks_rise (x ∷ y ∷ ys) rises = (rises.0, blocks_rise (y ∷ ys) rises.1)

blocks_full : (cells : List Held) → AllFull cells → All (λ (b : Block). IsFull b.octets) (blocks_of cells)
blocks_full [] full = All-nil (λ (b : Block). IsFull b.octets)
blocks_full (x ∷ xs) full = All-cons (λ (b : Block). IsFull b.octets) _ _ full.0 (blocks_full xs full.1)

-- the blocks of a chain are a map
pub kept_map : {cells : List Held} → IsKept cells → IsMap (blocks_of cells)
kept_map {cells = cells} kept = record { rising = blocks_rise cells kept.rising; full = blocks_full cells kept.full }

-- the store has as many chains as the pool
pub inside_pool : (pool : Lists) (store : Store) (c : ℕ) → store_of pool ≡ store → c < length store.chains →
    c < length pool.chains
inside_pool pool store c is inside =
    omega (arith, ap (λ (s : Store). length s.chains) is, length-map pool.chains blocks_of)

-- the chain of the store is that of the pool
pub chain_shown : (pool : Lists) (store : Store) (c : ℕ) → store_of pool ≡ store → c < length store.chains →
    blocks_in pool c ≡ chain_of store c
chain_shown pool store c is inside =
    sym (get_or-map blocks_of pool.chains c [] [] (inside_pool pool store c is inside)) ∙ ap (λ (s : Store). chain_of s c) is

-- the store of a pool with other cells in one chain
with_shown : (old : Lists) (store : Store) (c : ℕ) (cells : List Held) (free : ℕ) → store_of old ≡ store →
    store_of (with_chain old c cells free) ≡ with_blocks store c (blocks_of cells) free
with_shown old store c cells free is =
    ap (λ l. record (store_of old) { chains = l; free = free }) (map-set blocks_of old.chains c cells)
    ∙ ap (λ s. with_blocks s c (blocks_of cells) free) is

-- one chain of the store has changed
pub change_shown : (old new : Lists) (store : Store) (c : ℕ) → store_of old ≡ store → c < length store.chains →
    IsChanged old new c → ChangesOnly store (store_of new) c
change_shown old new store c is inside changed =
    let was = chain_shown old store c is inside in
    let all = ap store_of changed.others ∙ with_shown old store c (chain_at new c) new.free is in
    let number : length (store_of new).chains ≡ length store.chains =
    ap (λ (s : Store). length s.chains) all ∙ length-set store.chains c (blocks_in new c) in
    let within : c < length (store_of new).chains = omega arith in
    let here = chain_shown new (store_of new) c refl within in
    let free = ap (λ (s : Store). s.free) is in
    record {
      number = number;
      others = all ∙ ap (λ l. with_blocks store c l new.free) here;
      cells = omega (
        arith,
        changed.cells,
        free,
        ap length was,
        ap length here,
        length-map (chain_at old c) block_of,
        length-map (chain_at new c) block_of,
      );
    }

-- the chain that has changed is that of the pool
pub shown_after : (old new : Lists) (store : Store) (c : ℕ) → store_of old ≡ store → c < length store.chains →
    IsChanged old new c → blocks_in new c ≡ chain_of (store_of new) c
shown_after old new store c is inside changed =
    let number = (change_shown old new store c is inside changed).number in
    chain_shown new (store_of new) c refl (omega (arith, number))

pub none_shown : (n : ℕ) → map blocks_of (replicate n []) ≡ replicate n []
none_shown zero = refl
none_shown (suc n) = ap (λ l. [] ∷ l) (none_shown n)

-- no other chain has changed
pub others_same : (store new : Store) (hole : ℕ) → ChangesOnly store new hole → (chain : ℕ) → chain ≢ hole → chain_of new chain ≡ chain_of store chain
others_same store new hole changed chain ne =
    ap (λ (s : Store). chain_of s chain) changed.others ∙ get_or-set_other store.chains hole chain (chain_of new hole) [] ne
