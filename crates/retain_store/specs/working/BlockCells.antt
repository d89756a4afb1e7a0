-- How a store is represented in a pool of cells (this project's profile): a block is a cell, a hint
-- is a cell at which a walk may start.
use Rattle.std.specs.Prelude.{◌≡◌, ℕ, ◌<◌, ◌≤◌, List, [], ◌∷◌, ◌++◌, length, Option, Some, None, slice_index_or}
use Rattle.cell_pool.specs.declared.cells.CellId.{CellId}
use Rattle.cell_pool.specs.ChainLists.{Lists, Held, IsRising, HasPlaceFor, chain_at, first_id, IsPlace, EndsBelow}
use Rattle.retain_store.specs.Maps.{Block, IsFull}
use Rattle.retain_store.specs.declared.seat.Seat.{Seat}
use Rattle.retain_store.specs.declared.seat.Seat.TheVariants.{Cell, After}
use Rattle.retain_store.specs.PoolBlocks.{blocks_of}

-- The blocks of a chain of the pool.
abbrev pub blocks_in : Lists → ℕ → List Block
blocks_in pool chain = blocks_of (chain_at pool chain)

-- Each cell has 256 positions, and an octet at one of them at least.
abbrev pub AllFull : List Held → Type 0
AllFull [] = Unit {0}
AllFull (x ∷ xs) = IsFull x.octets × AllFull xs

-- Block numbers rise, and each cell has an octet.
pub record IsKept (cells : List Held) : Type 0 where
  pub rising : IsRising cells
  pub full : AllFull cells

-- The cell with this identifier is between these.
pub record IsAt (cells : List Held) (name : CellId) (before : List Held) (x : Held) (after : List Held) : Type 0 where
  pub splits : cells ≡ before ++ x ∷ after
  pub named : x.id ≡ name

-- The cell with this identifier is among these.
pub record IsAmong (cells : List Held) (name : CellId) : Type 0 where
  pub before : List Held
  pub cell : Held
  pub after : List Held
  pub at : IsAt cells name before cell after

-- The given cell, if there is one, is among these.
abbrev pub IsNear : List Held → Option CellId → Type 0
IsNear cells None = Unit {0}
IsNear cells (Some name) = IsAmong cells name

-- The cell with this identifier is among these, and has this block number.
pub record IsCellOf (cells : List Held) (number : ℕ) (name : CellId) : Type 0 where
  pub before : List Held
  pub cell : Held
  pub after : List Held
  pub at : IsAt cells name before cell after
  pub numbered : cell.block ≡ number

-- This cell holds the block with this number, or the block's position would be after this cell.
abbrev pub IsSeat : List Held → ℕ → Seat → Type 0
IsSeat cells number (Cell name) = IsCellOf cells number name
IsSeat cells number (After link) = HasPlaceFor cells link number

-- A walk has passed at least `passed` cells, the last of them `after`, all below this block number;
-- `next` is the first cell left.
pub record IsWalk (cells : List Held) (number : ℕ) (after next : Option CellId) (passed : ℕ) : Type 0 where
  pub before : List Held
  pub rest : List Held
  pub place : IsPlace cells after before rest
  pub below : EndsBelow number before
  pub next_is : next ≡ first_id rest
  pub count : passed ≤ length before

-- Each cell of a chain has an octet, block numbers rise, and each chain has a hint, which is a cell
-- of it or none.
pub record IsSound (pool : Lists) (hints : List (Option CellId)) : Type 0 where
  pub number : length hints ≡ length pool.chains
  pub kept : (c : ℕ) → c < length pool.chains → IsKept (chain_at pool c)
  pub near : (c : ℕ) → c < length pool.chains → IsNear (chain_at pool c) (slice_index_or hints c None)
