-- The entries of a table, as its links give them (this project's profile).
use Rattle.std.specs.Prelude.{ℕ, Option, Some, None, List, [], ◌∷◌, slice_index_or}
use Rattle.linked_table.specs.declared.table.Slot.{Slot}
use Rattle.linked_table.specs.RingWalks.{walk}
use Rattle.linked_table.specs.NodeColumns.{Columns}
use Rattle.linked_table.specs.EntryTable.{Entry, Table}

-- The slot of a node.
abbrev pub slot_of : ℕ → Slot
slot_of node = record { 0 = node }

module _ {K V : Type 0} where
  -- The key and the value in a slot.
  abbrev pub pair_at : List (Option (K × V)) → ℕ → Option (K × V)
  pair_at pairs node = slice_index_or pairs node None

  -- The other entries, after the entry of this slot if it has a pair.
  abbrev pub cons_entry : ℕ → Option (K × V) → List (Entry K V) → List (Entry K V)
  cons_entry node None rest = rest
  cons_entry node (Some pair) rest = record { slot = slot_of node; key = pair.0; value = pair.1 } ∷ rest

  -- The entries in these slots.
  abbrev pub entries_of : List (Option (K × V)) → List ℕ → List (Entry K V)
  entries_of pairs [] = []
  entries_of pairs (node ∷ nodes) = cons_entry node (pair_at pairs node) (entries_of pairs nodes)

  -- A table as contracts see it: the entries in the ring by recency, whose sentinel follows the
  -- slots.
  abbrev pub table_of : (max : ℕ) → Columns K V → (len : ℕ) → Table K V
  table_of max nodes len = record { entries = entries_of nodes.pairs (walk nodes.recency len max); max = max }
