-- The store that a pool of cells represents (this project's profile).
use Rattle.std.specs.Prelude.{List, map}
use Rattle.cell_pool.specs.ChainLists.{Lists, Held}
use Rattle.retain_store.specs.Maps.{Block, Store}

-- The block that a cell holds.
abbrev pub block_of : Held → Block
block_of x = record { number = x.block; octets = x.octets }

-- The blocks that cells hold.
abbrev pub blocks_of : List Held → List Block
blocks_of cells = map block_of cells

-- The store that a pool holds.
abbrev pub store_of : Lists → Store
store_of pool = record { chains = map blocks_of pool.chains; free = pool.free; cells = pool.cells }
