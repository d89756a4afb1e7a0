-- What contracts see of a pool (this project's profile): the list of cells of each chain, and the
-- number of free cells.
use Rattle.std.specs.Prelude.{◌≡◌, ℕ, ◌+◌, ◌-◌, ◌<◌, ◌≤◌, List, [], ◌∷◌, ◌++◌, length, map, Option, Some, None, IsSome, replicate, slice_index, slice_index_or, slice_set, min, take, drop}
use Rattle.cell_pool.specs.declared.cells.CellId.{CellId}

-- A cell of a chain: its identifier, its block number, and an octet or nothing at each of its 256
-- offsets.
pub record Held : Type 0 where
  pub id : CellId
  pub block : ℕ
  pub octets : List (Option ℕ)

-- The cells of each chain, in order; the number of free cells; the number of all cells, which is
-- that at opening.
pub record Lists : Type 0 where
  pub chains : List (List Held)
  pub free : ℕ
  pub cells : ℕ

-- The cells of a chain.
abbrev pub chain_at : Lists → ℕ → List Held
chain_at pool chain = slice_index_or pool.chains chain []

-- The pool in which this chain has these cells and `free` cells are free; all else is unchanged.
abbrev pub with_chain : Lists → ℕ → List Held → ℕ → Lists
with_chain pool chain cells free = record pool { chains = slice_set pool.chains chain cells; free = free }

-- A cell without octets.
abbrev pub empty_cell : CellId → ℕ → Held
empty_cell id block = record { id = id; block = block; octets = replicate 256 None }

-- The octets, with nothing at the offsets below `at`.
abbrev pub without_below : ℕ → List (Option ℕ) → List (Option ℕ)
without_below at octets = replicate (min at (length octets)) None ++ drop at octets

-- The octets, with `run` written from offset `at` on.
abbrev pub with_run : ℕ → List ℕ → List (Option ℕ) → List (Option ℕ)
with_run at run octets = take at octets ++ map (λ octet. Some octet) run ++ drop (at + length run) octets

-- None of the `len` offsets from `at` on has an octet.
abbrev pub IsBlank : ℕ → ℕ → List (Option ℕ) → Type 0
IsBlank at len octets = (i : ℕ) → i < len → slice_index_or octets (at + i) None ≡ None

-- Each of the `len` offsets from `at` on has an octet.
abbrev pub IsCovered : ℕ → ℕ → List (Option ℕ) → Type 0
IsCovered at len octets = (i : ℕ) → i < len → IsSome (slice_index_or octets (at + i) None)

-- The octets from offset `at` on are those of `run`.
abbrev pub StandsFrom : ℕ → List ℕ → List (Option ℕ) → Type 0
StandsFrom at run octets = (i : ℕ) → i < length run → slice_index_or octets (at + i) None ≡ Some (slice_index run i)

-- The identifier of the first cell.
abbrev pub first_id : List Held → Option CellId
first_id [] = None
first_id (x ∷ xs) = Some x.id

-- The identifier of the last cell.
abbrev pub last_id : List Held → Option CellId
last_id [] = None
last_id (x ∷ []) = Some x.id
last_id (x ∷ y ∷ ys) = last_id (y ∷ ys)

-- The first cell, if there is one, has a block number above `block`.
abbrev pub BeginsAbove : ℕ → List Held → Type 0
BeginsAbove block [] = Unit {0}
BeginsAbove block (x ∷ xs) = block < x.block

-- The last cell, if there is one, has a block number below `block`.
abbrev pub EndsBelow : ℕ → List Held → Type 0
EndsBelow block [] = Unit {0}
EndsBelow block (x ∷ []) = x.block < block
EndsBelow block (x ∷ y ∷ ys) = EndsBelow block (y ∷ ys)

-- The block numbers rise strictly.
abbrev pub IsRising : List Held → Type 0
IsRising [] = Unit {0}
IsRising (x ∷ xs) = BeginsAbove x.block xs × IsRising xs

-- The position after the cell `after` (the front where it is `None`) splits the chain into these
-- two parts.
pub record IsPlace (cells : List Held) (after : Option CellId) (before rest : List Held) : Type 0 where
  pub splits : cells ≡ before ++ rest
  pub ends : last_id before ≡ after

-- The position after this cell exists, and a cell of this block number keeps the order there.
pub record HasPlaceFor (cells : List Held) (after : Option CellId) (block : ℕ) : Type 0 where
  pub before : List Held
  pub rest : List Held
  pub place : IsPlace cells after before rest
  pub above : EndsBelow block before
  pub below : BeginsAbove block rest

-- A cell follows the position after this one.
pub record HasCellAfter (cells : List Held) (after : Option CellId) : Type 0 where
  pub before : List Held
  pub cell : Held
  pub rest : List Held
  pub place : IsPlace cells after before (cell ∷ rest)

-- The chain has gained `cell` at this position, one cell fewer is free, and all else is unchanged.
abbrev pub TakesAfter : Lists → Lists → ℕ → Option CellId → Held → Type 0
TakesAfter old new chain after cell =
    (before rest : List Held) → IsPlace (chain_at old chain) after before rest →
    new ≡ with_chain old chain (before ++ cell ∷ rest) (old.free - 1)

-- The chain has lost the cell at this position, one cell more is free, and all else is unchanged.
abbrev pub GivesBackAfter : Lists → Lists → ℕ → Option CellId → Type 0
GivesBackAfter old new chain after =
    (before : List Held) (x : Held) (rest : List Held) → IsPlace (chain_at old chain) after before (x ∷ rest) →
    new ≡ with_chain old chain (before ++ rest) (old.free + 1)

-- The cell with this identifier is in this chain, between these cells.
pub record Stands (pool : Lists) (chain : ℕ) (name : CellId) (before : List Held) (x : Held) (after : List Held) : Type 0 where
  pub inside : chain < length pool.chains
  pub splits : chain_at pool chain ≡ before ++ x ∷ after
  pub named : x.id ≡ name

-- The cell with this identifier is in a chain.
pub record IsHeld (pool : Lists) (name : CellId) : Type 0 where
  pub chain : ℕ
  pub before : List Held
  pub cell : Held
  pub after : List Held
  pub stands : Stands pool chain name before cell after

-- The cell with this identifier is in this chain, and its block number is at most `block`.
pub record StandsUpTo (pool : Lists) (chain block : ℕ) (name : CellId) : Type 0 where
  pub before : List Held
  pub cell : Held
  pub after : List Held
  pub stands : Stands pool chain name before cell after
  pub up_to : cell.block ≤ block

-- The cell with this identifier is in a chain, and `P` holds for its octets.
pub record IsHeldWith (pool : Lists) (name : CellId) (P : List (Option ℕ) → Type 0) : Type 0 where
  pub chain : ℕ
  pub before : List Held
  pub cell : Held
  pub after : List Held
  pub stands : Stands pool chain name before cell after
  pub holds : P cell.octets

-- Wherever the cell with this identifier is, `P` holds for it and for the cells after it.
abbrev pub Wherever : Lists → CellId → (Held → List Held → Type 0) → Type 0
Wherever pool name P =
    (chain : ℕ) (before : List Held) (x : Held) (after : List Held) →
    Stands pool chain name before x after → P x after

-- Wherever the cell with this identifier is, `f` has been applied to its octets, and all else is
-- unchanged.
abbrev pub Writes : Lists → Lists → CellId → (List (Option ℕ) → List (Option ℕ)) → Type 0
Writes old new name f =
    (chain : ℕ) (before : List Held) (x : Held) (after : List Held) → Stands old chain name before x after →
    new ≡ with_chain old chain (before ++ record x { octets = f x.octets } ∷ after) old.free

-- Two positions are the same.
pub record IsOnePlace (chain other : ℕ) (before other_before : List Held) : Type 0 where
  pub chain_is : chain ≡ other
  pub before_is : before ≡ other_before

-- The identifier occurs at most once in all chains.
abbrev pub StandsOnce : Lists → CellId → Type 0
StandsOnce pool name =
    (chain other : ℕ) (before other_before : List Held) (x y : Held) (after other_after : List Held) →
    Stands pool chain name before x after → Stands pool other name other_before y other_after →
    IsOnePlace chain other before other_before
