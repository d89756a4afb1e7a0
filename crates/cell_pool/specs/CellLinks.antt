-- The list of cells of each chain, as the links between cells give it (this project's profile).
use Rattle.std.specs.Prelude.{ℕ, zero, suc, List, [], ◌∷◌, map, Option, Some, None, slice_index_or}
use Rattle.cell_pool.specs.declared.cells.Cell.{Cell}
use Rattle.cell_pool.specs.declared.cells.Head.{Head}
use Rattle.cell_pool.specs.declared.cells.CellId.{CellId}
use Rattle.cell_pool.specs.ChainLists.{Lists, Held}

-- The value of a read past the end of the cells.
abbrev pub blank_cell : Cell
blank_cell = record { next = None; owner = None; block = 0; octets = [] }

-- The cell at this index, or `blank_cell` past the end.
abbrev pub cell_at : List Cell → ℕ → Cell
cell_at cells i = slice_index_or cells i blank_cell

-- The link of the cell with this identifier.
abbrev pub next_at : List Cell → CellId → Option CellId
next_at cells i = (cell_at cells i.0).next

-- The cell with this identifier, as contracts see it.
abbrev pub held_at : List Cell → CellId → Held
held_at cells i = record { id = i; block = (cell_at cells i.0).block; octets = (cell_at cells i.0).octets }

-- At most `n` cells along the links, from this link on.
abbrev pub walk : List Cell → ℕ → Option CellId → List Held
walk cells zero link = []
walk cells (suc n) None = []
walk cells (suc n) (Some i) = held_at cells i ∷ walk cells n (next_at cells i)

-- The cells of the chain with this head.
abbrev pub cells_of : List Cell → Head → List Held
cells_of cells head = walk cells head.count head.first

-- What contracts see of the fields of a pool of `all` cells.
abbrev pub lists_of : List Head → List Cell → ℕ → ℕ → Lists
lists_of heads cells free all = record { chains = map (cells_of cells) heads; free = free; cells = all }
