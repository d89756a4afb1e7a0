-- The effect of one call on a pool whose chains are known.
use Rattle.std.proofs.Common.{◌≡◌, ℕ, suc, ◌+◌, ◌-◌, ◌<◌, List, [], ◌∷◌, ◌++◌, length, get_or, set, Option, Some, None, IsNone, IfSome, refl, sym, ap, ◌∙◌, arith, append-nil}
use Rattle.cell_pool.specs.declared.cells.CellId.{CellId}
use Rattle.cell_pool.specs.ChainLists.{Lists, Held, chain_at, empty_cell, last_id, BeginsAbove, EndsBelow, IsPlace, HasPlaceFor, HasCellAfter, TakesAfter, GivesBackAfter}

-- the pool has these chains, and `free` cells are free
pub record Has (pool : Lists) (chains : List (List Held)) (free : ℕ) : Type 0 where
  pub chains_are : pool.chains ≡ chains
  pub free_is : pool.free ≡ free

pub opened : {pool : Lists} {chains : List (List Held)} {free cells : ℕ} →
    pool ≡ record { chains = chains; free = free; cells = cells } → Has pool chains free
opened is = record { chains_are = ap (λ (p : Lists). p.chains) is; free_is = ap (λ (p : Lists). p.free) is }

-- a cell was taken into this chain, between these cells
pub record HasTaken (pool : Lists) (taken : Option CellId) (chains : List (List Held)) (free c : ℕ)
    (before : List Held) (block : ℕ) (rest : List Held) : Type 0 where
  pub cell : CellId
  pub is : taken ≡ Some cell
  pub has : Has pool (set chains c (before ++ empty_cell cell block ∷ rest)) free

pub in_range : {pool : Lists} {chains : List (List Held)} {free : ℕ} (c : ℕ) → Has pool chains free →
    c < length chains → c < length pool.chains
in_range c has lt = omega (arith, ap length has.chains_are)

module _ {pool : Lists} {chains : List (List Held)} {free : ℕ} (c : ℕ) (after : Option CellId)
    (before rest : List Held) (has : Has pool chains free) (chain : get_or chains c [] ≡ before ++ rest)
    (last : last_id before ≡ after) where
  pub place_at : IsPlace (chain_at pool c) after before rest
  place_at = record { splits = ap (λ l. get_or l c []) has.chains_are ∙ chain; ends = last }

  pub place_for : (block : ℕ) → EndsBelow block before → BeginsAbove block rest →
      HasPlaceFor (chain_at pool c) after block
  place_for block above below = record {
    before = before;
    rest = rest;
    place = place_at;
    above = above;
    below = below;
  }

  pub takes : {new : Lists} {taken : Option CellId} {left : ℕ} (block : ℕ) → free ≡ suc left →
      (IsNone taken → pool.free ≡ 0) → IfSome taken (λ cell. TakesAfter pool new c after (empty_cell cell block)) →
      HasTaken new taken chains left c before block rest
  takes {taken = None} block some full is = absurd (let e = full refl in let f = has.free_is in omega arith)
  takes {taken = Some cell} {left = left} block some full is =
      let new_is = is before rest place_at in
      let fewer : pool.free - 1 ≡ left = omega (arith, has.free_is) in
      record {
        cell = cell;
        is = refl;
        has = rw new_is (record {
          chains_are = rw has.chains_are refl;
          free_is = fewer;
        });
      }

module _ {pool : Lists} {chains : List (List Held)} {free : ℕ} (c : ℕ) (after : Option CellId) (before : List Held)
    (x : Held) (rest : List Held) (has : Has pool chains free) (chain : get_or chains c [] ≡ before ++ x ∷ rest)
    (last : last_id before ≡ after) where
  pub cell_after : HasCellAfter (chain_at pool c) after
  cell_after = record {
    before = before;
    cell = x;
    rest = rest;
    place = place_at c after before (x ∷ rest)
        has chain last;
  }

  pub gives : {new : Lists} → GivesBackAfter pool new c after → Has new (set chains c (before ++ rest)) (free + 1)
  gives is =
      let new_is = is before x rest (place_at c after before (x ∷ rest) has chain last) in
      let more : pool.free + 1 ≡ free + 1 = omega (arith, has.free_is) in
      rw new_is (record { chains_are = rw has.chains_are refl; free_is = more })

-- the first of two chains has cells, the other has none
abbrev pub HasFirst : Lists → ℕ → Type 0
HasFirst pool free = Has pool (chain_at pool 0 ∷ [] ∷ []) free

pub has_first : {pool : Lists} {chain : List Held} {free : ℕ} → Has pool (chain ∷ [] ∷ []) free → HasFirst pool free
has_first has =
    let here = ap (λ (l : List (List Held)). get_or l 0 []) has.chains_are in
    record { chains_are = rw here has.chains_are; free_is = has.free_is }

-- the first chain ends with this cell, and its block numbers are below `block`
pub record IsFilled (pool : Lists) (free block : ℕ) (last : Option CellId) : Type 0 where
  pub has : HasFirst pool free
  pub last_is : last_id (chain_at pool 0) ≡ last
  pub above : EndsBelow block (chain_at pool 0)

pub fill_begins : {pool : Lists} {free : ℕ} → Has pool ([] ∷ [] ∷ []) free → IsFilled pool free 0 None
fill_begins has =
    let here = ap (λ (l : List (List Held)). get_or l 0 []) has.chains_are in
    record { has = has_first has; last_is = rw here refl; above = rw here tt }

pub last_id-push : (l : List Held) (x : Held) → last_id (l ++ x ∷ []) ≡ Some x.id
last_id-push [] x = refl
last_id-push (y ∷ []) x = refl
last_id-push (y ∷ z ∷ zs) x = last_id-push (z ∷ zs) x

pub EndsBelow-push : (block : ℕ) (l : List Held) (x : Held) → x.block < block → EndsBelow block (l ++ x ∷ [])
EndsBelow-push block [] x lt = lt
EndsBelow-push block (y ∷ []) x lt = lt
EndsBelow-push block (y ∷ z ∷ zs) x lt = EndsBelow-push block (z ∷ zs) x lt

module _ {pool : Lists} {free block : ℕ} {last : Option CellId} (filled : IsFilled pool free block last) where
  pub fill_place : HasPlaceFor (chain_at pool 0) last block
  fill_place = record {
    before = chain_at pool 0;
    rest = [];
    place = record { splits = sym (append-nil _); ends = filled.last_is };
    above = filled.above;
    below = tt;
  }

  pub fill_step : {new : Lists} {taken : Option CellId} {left : ℕ} → free ≡ suc left →
      (IsNone taken → pool.free ≡ 0) → IfSome taken (λ cell. TakesAfter pool new 0 last (empty_cell cell block)) →
      IsFilled new left (block + 1) taken
  fill_step {new = new} some full is =
      let l = chain_at pool 0 in
      let t = takes 0 last l [] filled.has (sym (append-nil l)) filled.last_is block some full is in
      let here : chain_at new 0 ≡ l ++ empty_cell t.cell block ∷ [] = ap (λ (l : List (List Held)). get_or l 0 [])
      t.has.chains_are in
      record {
        has = has_first t.has;
        last_is = rw here (last_id-push l (empty_cell t.cell block) ∙ sym t.is);
        above = rw here (EndsBelow-push (block + 1) l (empty_cell t.cell block) (omega arith));
      }
