-- How the steps of a change act on the pool (this project's profile).
use Rattle.std.specs.Prelude.{◌≡◌, ℕ, ◌+◌, ◌<◌, ◌/◌, ◌==◌, nat_lt, Bool, false, ◌||◌, List, [], ◌∷◌, length, map, Option, Some, None, slice_index_or, slice_set, if◌then◌else◌}
use Rattle.std.specs.List.{range_with_len}
use Rattle.std.specs.Option.{option_or}
use Rattle.cell_pool.specs.declared.cells.CellId.{CellId}
use Rattle.cell_pool.specs.ChainLists.{Lists, Held, chain_at, with_chain}
use Rattle.retain_store.specs.Maps.{octet_in, holds, ForgetsBelow, Places}
use Rattle.retain_store.specs.working.BlockCells.{blocks_in, IsAt, IsKept, IsNear}

-- The octets of a block with one added at the position `at`, unless that position has one.
abbrev pub with_octet : List (Option ℕ) → ℕ → ℕ → List (Option ℕ)
with_octet octets at octet = slice_set octets at (option_or (slice_index_or octets at None) (Some octet))

-- The octets of a block with those of `piece` added from the position `at` on, at each position
-- that has none.
abbrev pub with_octets : List (Option ℕ) → ℕ → List ℕ → List (Option ℕ)
with_octets octets at piece =
    map (λ i. option_or (slice_index_or octets i None) (octet_in at piece i)) (range_with_len 0 (length octets))

-- Only this chain has changed, and the cells that it gained were free.
pub record IsChanged (old new : Lists) (chain : ℕ) : Type 0 where
  pub others : new ≡ with_chain old chain (chain_at new chain) new.free
  pub cells : new.free + length (chain_at new chain) ≡ old.free + length (chain_at old chain)

-- Octets of one block were added at offsets that had none, and this is its cell.
pub record PlacesPiece (old new : Lists) (chain from : ℕ) (piece : List ℕ) (name : CellId) : Type 0 where
  pub near : IsNear (chain_at new chain) (Some name)
  pub kept : IsKept (chain_at new chain)
  pub changed : IsChanged old new chain
  pub spent : new.free + (if holds (blocks_in old chain) (from / 256) then 0 else 1) ≡ old.free
  pub octets : Places (blocks_in old chain) (blocks_in new chain) from piece
  pub held : (n : ℕ) → holds (blocks_in new chain) n ≡ (holds (blocks_in old chain) n || n == from / 256)

-- The cell with this identifier is among these, and its block number is above `number`.
pub record IsAmongAbove (cells : List Held) (number : ℕ) (name : CellId) : Type 0 where
  pub before : List Held
  pub cell : Held
  pub after : List Held
  pub at : IsAt cells name before cell after
  pub above : number < cell.block

-- The given cell, if there is one, is among these, and its block number is above `number`.
abbrev pub IsAbove : List Held → ℕ → Option CellId → Type 0
IsAbove cells number None = Unit {0}
IsAbove cells number (Some name) = IsAmongAbove cells number name

-- The cells above this block number are still in the list.
abbrev pub KeepsAbove : List Held → List Held → ℕ → Type 0
KeepsAbove old new number = (near : Option CellId) → IsAbove old number near → IsAbove new number near

-- The octets below an offset were removed, and cells above this block number are still in the
-- chain.
pub record Forgets (old new : Lists) (chain number at : ℕ) : Type 0 where
  pub kept : IsKept (chain_at new chain)
  pub changed : IsChanged old new chain
  pub near : KeepsAbove (chain_at old chain) (chain_at new chain) number
  pub octets : ForgetsBelow (blocks_in old chain) (blocks_in new chain) at

-- The first cell has a block number below `number`.
abbrev pub begins_below : List Held → ℕ → Bool
begins_below [] number = false
begins_below (x ∷ xs) number = nat_lt x.block number
