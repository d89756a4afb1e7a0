-- The cells of a chain: a walk along them, the last of them, after which there is no octet, and
-- writes to one of them.
use Rattle.std.proofs.Common.{◌≡◌, ℕ, ◌+◌, ◌<◌, ◌≤◌, ◌≢◌, List, [], ◌∷◌, ◌++◌, length, false, Option, Some, None, is_some, refl, sym, ap, ◌∙◌, arith, length-append, append_assoc, ◌-◌, ◌/◌, ◌%◌, inl, inr, true, get_or, length-set, set}
use Rattle.std.proofs.lemmas.Bool.{cases_eq, cases_lt}
use Rattle.std.proofs.lemmas.List.{get_or-set_same, set-get_or, set-set}
use Rattle.cell_pool.specs.declared.cells.CellId.{CellId}
use Rattle.cell_pool.specs.ChainLists.{Lists, Held, HasPlaceFor, BeginsAbove, EndsBelow, chain_at, first_id, last_id, Stands, StandsUpTo, IsHeld, IsRising, IsBlank, Writes, with_chain}
use Rattle.cell_pool.proofs.KnownChains.{last_id-push, EndsBelow-push}
use Rattle.retain_store.specs.working.BlockCells.{IsAt, IsAmong, IsCellOf, IsWalk}
use Rattle.retain_store.specs.PoolBlocks.{blocks_of}
use Rattle.retain_store.specs.Maps.{Block, block_at, octet_at, IsWithin}
use Rattle.retain_store.proofs.Blocks.{found_in, missing_at}

-- The cells of a chain, in the form that the pool's calls require, and a walk along them.

-- a cell of a chain
module _ {pool : Lists} {c : ℕ} {name : CellId} {before : List Held} {x : Held} {after : List Held}
    (inside : c < length pool.chains) (at : IsAt (chain_at pool c) name before x after) where
  pub stands : Stands pool c name before x after
  stands = record { inside = inside; splits = at.splits; named = at.named }

  pub is_held : IsHeld pool name
  is_held = record { chain = c; before = before; cell = x; after = after; stands = stands }

-- a walk has reached this cell
pub record Reached (cells : List Held) (number : ℕ) (last : Option CellId) (name : CellId) (passed : ℕ) : Type 0 where
  pub before : List Held
  pub cell : Held
  pub after : List Held
  pub at : IsAt cells name before cell after
  pub ends : last_id before ≡ last
  pub below : EndsBelow number before
  pub count : passed ≤ length before

none_left : (number : ℕ) (rest : List Held) → None ≡ first_id rest → BeginsAbove number rest
none_left number [] none = tt
none_left number (x ∷ xs) none = cc

reached_in : {cells : List Held} {number : ℕ} {last : Option CellId} {name : CellId} {passed : ℕ}
    (before rest : List Held) → cells ≡ before ++ rest → last_id before ≡ last → EndsBelow number before →
    passed ≤ length before → Some name ≡ first_id rest → Reached cells number last name passed
reached_in before [] splits ends below count named = cc
reached_in before (x ∷ xs) splits ends below count named = record {
  before = before;
  cell = x;
  after = xs;
  at = record { splits = splits; named = cc };
  ends = ends;
  below = below;
  count = count;
}

module _ {cells : List Held} {number : ℕ} {last next : Option CellId} {passed : ℕ}
    (walk : IsWalk cells number last next passed) where
  -- no cell is left
  pub walk_ends : next ≡ None → HasPlaceFor cells last number
  walk_ends none = record {
    before = walk.before;
    rest = walk.rest;
    place = walk.place;
    above = walk.below;
    below = none_left number walk.rest (sym none ∙ walk.next_is);
  }

  -- there is a next cell
  pub walk_reaches : {name : CellId} → next ≡ Some name → Reached cells number last name passed
  walk_reaches is = reached_in walk.before walk.rest walk.place.splits walk.place.ends walk.below walk.count
      (sym is ∙ walk.next_is)

  -- all cells were passed
  pub walk_all : length cells ≤ passed → HasPlaceFor cells last number
  walk_all all =
      let none : length walk.rest ≡ 0 = omega
      (arith, walk.count, ap length walk.place.splits, length-append walk.before walk.rest) in
      record {
        before = walk.before;
        rest = walk.rest;
        place = walk.place;
        above = walk.below;
        below = nothing number walk.rest none;
      }
    where
      nothing : (number : ℕ) (rest : List Held) → length rest ≡ 0 → BeginsAbove number rest
      nothing number [] none = tt
      nothing number (x ∷ xs) none = absurd (omega arith)

module _ {cells : List Held} {number : ℕ} {last : Option CellId} {name : CellId} {passed : ℕ}
    (reached : Reached cells number last name passed) where
  pub is_cell : reached.cell.block ≡ number → IsCellOf cells number name
  is_cell same = record {
    before = reached.before;
    cell = reached.cell;
    after = reached.after;
    at = reached.at;
    numbered = same;
  }

  pub stops_before : number < reached.cell.block → HasPlaceFor cells last number
  stops_before past = record {
    before = reached.before;
    rest = reached.cell ∷ reached.after;
    place = record { splits = reached.at.splits; ends = reached.ends };
    above = reached.below;
    below = past;
  }

  pub goes_on : {next : Option CellId} → reached.cell.block < number → next ≡ first_id reached.after →
      IsWalk cells number (Some name) next (passed + 1)
  goes_on below next_is = record {
    before = reached.before ++ reached.cell ∷ [];
    rest = reached.after;
    place = record {
      splits = reached.at.splits ∙ sym (append_assoc reached.before (reached.cell ∷ []) reached.after);
      ends = last_id-push reached.before reached.cell ∙ ap (λ (i : CellId). Some i) reached.at.named;
    };
    below = EndsBelow-push number reached.before reached.cell below;
    next_is = next_is;
    count = omega (arith, reached.count, length-append reached.before (reached.cell ∷ []));
  }

-- a walk begins after a cell, or at the front
pub from_cell : {cells : List Held} {number : ℕ} {name : CellId} {next : Option CellId} →
    (among : IsAmong cells name) → among.cell.block < number → next ≡ first_id among.after →
    IsWalk cells number (Some name) next 0
from_cell among below next_is = record {
  before = among.before ++ among.cell ∷ [];
  rest = among.after;
  place = record {
    splits = among.at.splits ∙ sym (append_assoc among.before (among.cell ∷ []) among.after);
    ends = last_id-push among.before among.cell ∙ ap (λ (i : CellId). Some i) among.at.named;
  };
  below = EndsBelow-push _ among.before among.cell below;
  next_is = next_is;
  count = omega arith;
}

-- a cell whose block number is not above this one
module _ {pool : Lists} {c number : ℕ} {name : CellId} (at : StandsUpTo pool c number name) where
  pub up_to_held : IsHeld pool name
  up_to_held = record { chain = c; before = at.before; cell = at.cell; after = at.after; stands = at.stands }

  abbrev among : IsAmong (chain_at pool c) name
  among = record {
    before = at.before;
    cell = at.cell;
    after = at.after;
    at = record { splits = at.stands.splits; named = at.stands.named };
  }

  pub up_to_cell : at.cell.block ≡ number → IsCellOf (chain_at pool c) number name
  up_to_cell same = record {
    before = at.before;
    cell = at.cell;
    after = at.after;
    at = among.at;
    numbered = same;
  }

  pub up_to_walk : {next : Option CellId} → at.cell.block ≢ number → next ≡ first_id at.after →
      IsWalk (chain_at pool c) number (Some name) next 0
  up_to_walk other next_is = from_cell among (omega (arith, at.up_to)) next_is

-- The end of a chain: no offset after its last octet has one.

-- no offset from here on has an octet
within_by : (blocks : List Block) (from : ℕ) → ((offset : ℕ) → from ≤ offset → octet_at blocks offset ≡ None) → IsWithin blocks from
within_by blocks from none offset some = elim (cases_lt offset from) [
  | inl low ↦ low
  | inr high ↦ absurd (let f : false ≡ true = sym (ap is_some (none offset high)) ∙ some in cc)
]

-- a cell is the last of its chain
module _ {cells : List Held} {name : CellId} {next : Option CellId} (rises : IsRising cells) (among : IsAmong cells name)
    (next_is : next ≡ first_id among.after) (last : next ≡ None) where
  past_last : (offset : ℕ) → among.cell.block < offset / 256 → octet_at (blocks_of cells) offset ≡ None
  past_last offset past = rw (missing_at rises (walk_ends (from_cell among past next_is) last)) refl

  pub within_behind : (from : ℕ) → among.cell.block < from / 256 → IsWithin (blocks_of cells) from
  within_behind from past = within_by (blocks_of cells) from (λ offset high. past_last offset (omega arith))

  pub within_last : (from at : ℕ) → at ≡ from % 256 → among.cell.block ≡ from / 256 → IsBlank at (256 - at) among.cell.octets →
      IsWithin (blocks_of cells) from
  within_last from at at_is same blank = within_by (blocks_of cells) from (λ offset high. elim (cases_eq (offset / 256) (from / 256)) [
    | inl here ↦
        let cell : IsCellOf cells (from / 256) name = record {
          before = among.before;
          cell = among.cell;
          after = among.after;
          at = among.at;
          numbered = same;
        } in
        let place : at + (offset % 256 - at) ≡ offset % 256 = omega arith in
        let found : block_at (blocks_of cells) (offset / 256) ≡ among.cell.octets =
        ap (block_at (blocks_of cells)) here ∙ found_in rises cell in
        ap (λ l. get_or l (offset % 256) None) found ∙ (ap (λ i. get_or among.cell.octets i None) (sym place)
        ∙ blank (offset % 256 - at) (omega arith))
    | inr away ↦ past_last offset (omega arith)
  ])

-- Writes to one cell, one after another.

-- a cell stays between the same cells, with other octets
pub stands_on : {old new : Lists} {c : ℕ} {name : CellId} {before : List Held} {x y : Held} {after : List Held} {free : ℕ} →
    Stands old c name before x after → y.id ≡ x.id → new ≡ with_chain old c (before ++ y ∷ after) free →
    Stands new c name before y after
stands_on {old = old} {c = c} {before = before} {y = y} {after = after} stands same is =
    let long : length (set old.chains c (before ++ y ∷ after)) ≡ length old.chains = length-set old.chains c _ in
    rw is (record {
      inside = omega (arith, long, stands.inside);
      splits = get_or-set_same old.chains c (before ++ y ∷ after) [] stands.inside;
      named = same ∙ stands.named;
    })

-- nothing is written
pub writes_nothing : (old : Lists) (name : CellId) (f : List (Option ℕ) → List (Option ℕ)) →
    ((octets : List (Option ℕ)) → f octets ≡ octets) → Writes old old name f
writes_nothing old name f same c before x after stands =
    let cells : before ++ record x { octets = f x.octets } ∷ after ≡ chain_at old c =
    ap (λ o. before ++ record x { octets = o } ∷ after) (same x.octets) ∙ sym stands.splits in
    sym (ap (λ l. with_chain old c l old.free) cells ∙ ap (λ l. record old { chains = l }) (set-get_or old.chains c []))

-- one write after another is one write
pub writes_then : {old mid new : Lists} {name : CellId} (f g h : List (Option ℕ) → List (Option ℕ)) →
    Writes old mid name f → Writes mid new name g → ((octets : List (Option ℕ)) → g (f octets) ≡ h octets) →
    Writes old new name h
writes_then {old = old} f g h first second both c before x after stands =
    let is = first c before x after stands in
    let is2 = second c before _ after (stands_on stands refl is) in
    let y : Held = record x { octets = f x.octets } in
    let mid_cells = before ++ y ∷ after in
    let cells : before ++ record x { octets = g (f x.octets) } ∷ after ≡ before ++ record x { octets = h x.octets } ∷ after =
    ap (λ o. before ++ record x { octets = o } ∷ after) (both x.octets) in
    is2 ∙ (ap (λ m. with_chain m c (before ++ record x { octets = g (f x.octets) } ∷ after) m.free) is
    ∙ (ap (λ l. record old { chains = l }) (set-set old.chains c mid_cells _)
    ∙ ap (λ l. with_chain old c l old.free) cells))

pub held_on : {old new : Lists} {name : CellId} (f : List (Option ℕ) → List (Option ℕ)) → IsHeld old name →
    Writes old new name f → IsHeld new name
held_on f held writes = record {
  chain = held.chain;
  before = held.before;
  cell = record held.cell { octets = f held.cell.octets };
  after = held.after;
  stands = stands_on held.stands refl (writes _ _ _ _ held.stands);
}

-- a write may be described by another function
pub writes_same : {old new : Lists} {name : CellId} (f g : List (Option ℕ) → List (Option ℕ)) → Writes old new name f →
    ((c : ℕ) (before : List Held) (x : Held) (after : List Held) → Stands old c name before x after → f x.octets ≡ g x.octets) →
    Writes old new name g
writes_same {old = old} f g writes same c before x after stands =
    writes c before x after stands
    ∙ ap (λ o. with_chain old c (before ++ record x { octets = o } ∷ after) old.free) (same c before x after stands)
