-- What contracts see of a store (this project's profile): per chain a finite map from offset to
-- octet, in blocks of 256.
use Rattle.std.specs.Prelude.{◌≡◌, ℕ, ◌+◌, ◌-◌, ◌*◌, ◌/◌, ◌%◌, ◌<◌, ◌==◌, nat_lt, Bool, not, true, List, [], ◌∷◌, length, Option, None, is_none, is_some, IsSome, slice_get, slice_index, slice_index_or, slice_set, if◌then◌else◌}
use Rattle.std.specs.List.{All, list_any, count_by, range_with_len}
use Rattle.std.specs.Option.{option_or, unwrap_or}

-- A block: its number (its offsets divided by 256), and an octet or nothing at each of its 256
-- positions.
pub record Block : Type 0 where
  pub number : ℕ
  pub octets : List (Option ℕ)

-- The blocks of each chain, in order; the number of free cells; the number of cells at opening.
-- Each block takes one cell.
pub record Store : Type 0 where
  pub chains : List (List Block)
  pub free : ℕ
  pub cells : ℕ

-- The blocks of a chain.
abbrev pub chain_of : Store → ℕ → List Block
chain_of store chain = slice_index_or store.chains chain []

-- The store in which this chain has these blocks and `free` cells are free; all else is unchanged.
abbrev pub with_blocks : Store → ℕ → List Block → ℕ → Store
with_blocks store chain blocks free = record store { chains = slice_set store.chains chain blocks; free = free }

-- The octets of the block with this number, or none at all if there is no such block.
abbrev pub block_at : List Block → ℕ → List (Option ℕ)
block_at [] number = []
block_at (b ∷ bs) number = if b.number == number then b.octets else block_at bs number

-- The octet at this offset, if there is one: this is the map.
abbrev pub octet_at : List Block → ℕ → Option ℕ
octet_at blocks offset = slice_index_or (block_at blocks (offset / 256)) (offset % 256) None

-- The block with this number has an octet.
abbrev pub holds : List Block → ℕ → Bool
holds blocks number = list_any is_some (block_at blocks number)

-- One of the 256 offsets of the block with this number has an octet, where `octets` gives the octet
-- at each offset.
abbrev pub has_octet : (octets : ℕ → Option ℕ) → (number : ℕ) → Bool
has_octet octets number = list_any (λ offset. is_some (octets offset)) (range_with_len (256 * number) 256)

-- Each octet of the chain is at an offset below `end`.
abbrev pub IsWithin : List Block → ℕ → Type 0
IsWithin blocks end = (offset : ℕ) → IsSome (octet_at blocks offset) → offset < end

-- The numbers of the blocks touched: from that of the first of the `len` offsets to that of the
-- last.
abbrev pub touched : ℕ → ℕ → List ℕ
touched from len =
    if len == 0 then [] else range_with_len (from / 256) ((from + len - 1) / 256 + 1 - from / 256)

-- The number of touched blocks without an octet.
abbrev pub missing : List Block → ℕ → ℕ → ℕ
missing blocks from len = count_by (λ number. not (holds blocks number)) (touched from len)

-- The number of the `len` offsets from `from` on without an octet.
abbrev pub fresh : List Block → (from len : ℕ) → ℕ
fresh blocks from len = count_by (λ offset. is_none (octet_at blocks offset)) (range_with_len from len)

-- The octet at this offset of a segment that begins at `from`, if it has one.
abbrev pub octet_in : ℕ → List ℕ → ℕ → Option ℕ
octet_in from octets offset = if nat_lt offset from then None else slice_get octets (offset - from)

-- The block has 256 positions, and an octet at one of them at least.
pub record IsFull (octets : List (Option ℕ)) : Type 0 where
  pub places : length octets ≡ 256
  pub used : list_any is_some octets ≡ true

-- The first block, if there is one, has a number above `number`.
abbrev pub BeginsAbove : ℕ → List Block → Type 0
BeginsAbove number [] = Unit {0}
BeginsAbove number (b ∷ bs) = number < b.number

-- The block numbers rise strictly.
abbrev pub IsRising : List Block → Type 0
IsRising [] = Unit {0}
IsRising (b ∷ bs) = BeginsAbove b.number bs × IsRising bs

-- Each block occurs once, in the order of the numbers, and has an octet.
pub record IsMap (blocks : List Block) : Type 0 where
  pub rising : IsRising blocks
  pub full : All (λ b. IsFull b.octets) blocks

-- Other chains are unchanged, and the blocks that this chain gains take free cells.
pub record ChangesOnly (old new : Store) (chain : ℕ) : Type 0 where
  pub number : length new.chains ≡ length old.chains
  pub others : new ≡ with_blocks old chain (chain_of new chain) new.free
  pub cells : new.free + length (chain_of new chain) ≡ old.free + length (chain_of old chain)

-- Each of the `len` offsets from `from` on has an octet.
abbrev pub Covers : List Block → ℕ → ℕ → Type 0
Covers blocks from len = (i : ℕ) → i < len → IsSome (octet_at blocks (from + i))

-- Each of the `len` offsets from `from` on has an octet, so that octets placed there take no cell.
pub record IsWhole (blocks : List Block) (from len : ℕ) : Type 0 where
  pub covers : Covers blocks from len
  pub none_missing : missing blocks from len ≡ 0

-- None of these octets differs from the octet kept at its offset.
abbrev pub Agrees : List Block → ℕ → List ℕ → Type 0
Agrees blocks from octets =
    (i : ℕ) → i < length octets → unwrap_or (octet_at blocks (from + i)) (slice_index octets i) ≡ slice_index octets i

-- An octet is added at each offset that had none; octets that were first stay.
abbrev pub Places : List Block → List Block → ℕ → List ℕ → Type 0
Places old new from octets =
    (offset : ℕ) → octet_at new offset ≡ option_or (octet_at old offset) (octet_in from octets offset)

-- Each offset with a kept octet has that octet, each other offset has what it had.
abbrev pub Settles : List Block → ℕ → List ℕ → List ℕ → Type 0
Settles blocks from old new =
    (i : ℕ) → i < length old → slice_index new i ≡ unwrap_or (octet_at blocks (from + i)) (slice_index old i)

-- The octets below this offset are removed, and no others.
abbrev pub ForgetsBelow : List Block → List Block → ℕ → Type 0
ForgetsBelow old new at =
    (offset : ℕ) → octet_at new offset ≡ (if nat_lt offset at then None else octet_at old offset)
