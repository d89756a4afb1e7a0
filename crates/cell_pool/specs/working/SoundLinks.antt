-- When the links between cells are sound, and how cells are linked (this project's profile).
use Rattle.std.specs.Prelude.{◌≡◌, ℕ, ◌+◌, ◌<◌, ◌≤◌, ◌^◌, List, [], ◌∷◌, ◌++◌, length, Option, Some, None, replicate, slice_index_or, slice_set}
use Rattle.std.specs.List.{sum_by}
use Rattle.cell_pool.specs.declared.cells.Cell.{Cell}
use Rattle.cell_pool.specs.declared.cells.Head.{Head}
use Rattle.cell_pool.specs.declared.cells.CellId.{CellId}
use Rattle.cell_pool.specs.declared.cells.ChainId.{ChainId}
use Rattle.cell_pool.specs.ChainLists.{Held, IsRising}
use Rattle.cell_pool.specs.CellLinks.{cell_at, next_at, held_at, walk, cells_of}

-- The head of an empty chain.
abbrev pub blank_head : Head
blank_head = record { first = None; count = 0 }

-- The head of this chain, or `blank_head` past the end.
abbrev pub head_at : List Head → ℕ → Head
head_at heads c = slice_index_or heads c blank_head

-- The link leads to this cell, which is inside the list of cells and has this owner.
pub record IsNext (cells : List Cell) (owner : Option ChainId) (link : Option CellId) (x : Held) : Type 0 where
  pub named : link ≡ Some x.id
  pub inside : x.id.0 < length cells
  pub owned : (cell_at cells x.id.0).owner ≡ owner
  pub is : held_at cells x.id ≡ x

-- The links from this one on visit exactly these cells, each of this owner, and end.
abbrev pub Leads : List Cell → Option ChainId → Option CellId → List Held → Type 0
Leads cells owner link [] = link ≡ None
Leads cells owner link (x ∷ xs) = IsNext cells owner link x × Leads cells owner (next_at cells x.id) xs

-- The links from this one on visit exactly `n` cells, each of this owner, and end.
pub record IsList (cells : List Cell) (owner : Option ChainId) (link : Option CellId) (n : ℕ) : Type 0 where
  pub leads : Leads cells owner link (walk cells n link)
  pub counted : length (walk cells n link) ≡ n

-- The owner field of the cells of chain `c`.
abbrev pub owner_of : ℕ → Option ChainId
owner_of c = Some (record { 0 = c })

-- Each cell that was made is in exactly one list: one of the chains, or the free list. Block
-- numbers rise along a chain. This follows because each list ends and contains only cells that it
-- owns, and the lengths of all lists add up to the number of cells that were made. Free cells are
-- the `listed` ones of the free list and those that are not made yet (`made`).
pub record IsSound (heads : List Head) (cells : List Cell) (spare : Option CellId) (free all : ℕ) : Type 0 where
  pub listed : ℕ
  pub free_list : IsList cells None spare listed
  pub chain_lists : (c : ℕ) → c < length heads →
      IsList cells (owner_of c) (head_at heads c).first (head_at heads c).count
  pub rising : (c : ℕ) → c < length heads → IsRising (cells_of cells (head_at heads c))
  pub made : listed + all ≡ free + length cells
  pub fits : length cells ≤ all
  pub total : free + sum_by (λ h. h.count) heads ≡ all
  pub room : all + length heads < 2 ^ 32

-- The cells after the link of cell `i` is set to `next`.
abbrev pub with_next : List Cell → ℕ → Option CellId → List Cell
with_next cells i next = slice_set cells i (record (cell_at cells i) { next = next })

-- A free cell that is in no list.
abbrev pub loose_cell : Cell
loose_cell = record { next = None; owner = None; block = 0; octets = replicate 256 None }

-- The cell `taken` was added after the other cells, which were fewer than `all`.
pub record IsMade (cells : List Cell) (all : ℕ) (new : List Cell) (taken : CellId) : Type 0 where
  pub place : taken.0 ≡ length cells
  pub room : length cells < all
  pub is : new ≡ cells ++ loose_cell ∷ []

-- The free cell `taken` is the first from this link on, or was made where that list is empty.
abbrev pub IsReady : List Cell → ℕ → Option CellId → List Cell → CellId → Type 0
IsReady cells all (Some first) new taken = (taken ≡ first) × (new ≡ cells)
IsReady cells all None new taken = IsMade cells all new taken

-- An empty cell of chain `owner`, linked to `next`.
abbrev pub fresh_cell : Option CellId → ChainId → ℕ → Cell
fresh_cell next owner block = record { next = next; owner = Some owner; block = block; octets = replicate 256 None }
