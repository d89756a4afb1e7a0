-- An ordered list of slots, as its links give it (this project's profile).
use Rattle.std.specs.Prelude.{ℕ, zero, suc, ◌==◌, not, Option, Some, None, List, [], ◌∷◌, filter, if◌then◌else◌}
use Rattle.linked_table.specs.declared.list.Links.{Links}
use Rattle.linked_table.specs.declared.table.Slot.{Slot}
use Rattle.linked_table.specs.RingWalks.{link_at}
use Rattle.linked_table.specs.TableEntries.{slot_of}

-- The listed slots, in order, and the number below which each slot is.
pub record Listing : Type 0 where
  pub slots : List Slot
  pub max : ℕ

-- The listed slots without this one, in their order.
abbrev pub others : List Slot → Slot → List Slot
others slots slot = filter (λ s. not (s.0 == slot.0)) slots

-- The first slot of a list.
abbrev pub first_of : List Slot → Option Slot
first_of [] = None
first_of (slot ∷ slots) = Some slot

-- The slots after a node up to its sentinel, at most `most` of them.
abbrev pub slots_to : List Links → (hub most from : ℕ) → List Slot
slots_to links hub zero from = []
slots_to links hub (suc most) from =
    if (link_at links from).after == hub then [] else slot_of (link_at links from).after ∷ slots_to links hub most (link_at links from).after

-- What contracts see of nodes for `max` slots, followed by their sentinel: the slots of the
-- sentinel's ring.
abbrev pub listing_of : List Links → (max : ℕ) → Listing
listing_of links max = record { slots = slots_to links max max max; max = max }
