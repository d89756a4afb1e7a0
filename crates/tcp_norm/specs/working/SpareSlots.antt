-- The slots of the eras that hold no octet, least recently touched first (this project's profile).
use Rattle.std.specs.Prelude.{◌≡◌, ◌==◌, ◌<◌, Bool, List, [], ◌∷◌, ◌++◌, length, map, filter, if◌then◌else◌}
use Rattle.linked_table.specs.declared.table.Slot.{Slot}
use Rattle.linked_table.specs.Listing.{Listing, others}
use Rattle.linked_table.specs.EntryTable.{Entry, with_value}
use Rattle.linked_table.specs.EntryTable as table
use Rattle.retain_store.specs.Maps.{Store, chain_of}
use Rattle.tcp_norm.specs.declared.key.Flow.{Flow}
use Rattle.tcp_norm.specs.declared.key.EraKey.{EraKey}

-- the chain of a slot has no block
abbrev pub is_empty : Store → Slot → Bool
is_empty store slot = length (chain_of store slot.0) == 0

-- the slot can be listed, and has a chain
pub record CanList (slots : Listing) (store : Store) (slot : Slot) : Type 0 where
  pub below : slot.0 < slots.max
  pub chain : slot.0 < length store.chains

-- the slots of the entries whose chains have no block, in their order
abbrev pub spares : Store → List (Entry EraKey Flow) → List Slot
spares store entries = map (λ e. e.slot) (filter (λ e. is_empty store e.slot) entries)

-- of listed slots those without this one, which is after them where its chain has no block
abbrev pub settled : Store → Slot → List Slot → List Slot
settled store slot slots = if is_empty store slot then others slots slot ++ slot ∷ [] else others slots slot

-- of the list only this slot has changed: it is the last one where its chain has no block, and
-- otherwise it is not listed
abbrev pub Relists : (old new : Listing) → Store → Slot → Type 0
Relists old new store slot = new ≡ record old { slots = settled store slot old.slots }

-- the entries, where that of this slot has this value and is the last
abbrev pub written_back : List (Entry EraKey Flow) → Slot → Flow → List (Entry EraKey Flow)
written_back entries slot flow = table.without (with_value entries slot flow) slot ++ table.only (with_value entries slot flow) slot
