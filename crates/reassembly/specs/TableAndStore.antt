-- What the table of datagrams and the store of octets represent (this project's profile).
use Rattle.std.specs.Prelude.{◌≡◌, ◌≢◌, ℕ, ◌≤◌, List, [], ◌∷◌, length, Some}
use Rattle.std.specs.List.{AllByRecursion}
use Rattle.linked_table.specs.EntryTable.{Entry}
use Rattle.retain_store.specs.Maps.{Block, Store, chain_of, octet_at}
use Rattle.reassembly.specs.declared.id.DatagramId.{DatagramId}
use Rattle.reassembly.specs.declared.progress.Progress.{Progress}
use Rattle.reassembly.specs.DatagramFragments.{Fragment, octet_of, total_of, reach, front_of, filled_in, cells_of}
use Rattle.reassembly.specs.Calls.{Gathered}
use Rattle.wire_base.specs.declared.limits.TheConstants.{MAX_PAYLOAD}

-- the values kept of a datagram's fragments besides their octets; no octet is past the longest
-- datagram, and the last fragment ends at the last octet
pub record ProgressOf (v : Progress) (ps : List Fragment) : Type 0 where
  pub total_is : v.total ≡ total_of ps
  pub reach_is : v.reach ≡ reach ps
  pub filled_is : v.filled ≡ filled_in ps
  pub front_is : v.front ≡ front_of ps
  pub short : reach ps ≤ MAX_PAYLOAD
  pub ends : (total : ℕ) → total_of ps ≡ Some total → reach ps ≡ total

-- a chain has the octets of these fragments, and no others
abbrev pub Keeps : List Block → List Fragment → Type 0
Keeps blocks ps = (offset : ℕ) → octet_at blocks offset ≡ octet_of ps offset

-- An entry represents a datagram: its identification, the time it began, the values kept of its
-- fragments, the octets in the chain of its slot, and the number of blocks that they take.
pub record EntryStands (store : Store) (e : Entry DatagramId Progress) (g : Gathered) : Type 0 where
  pub id : e.key ≡ g.id
  pub since : e.value.since ≡ g.since
  pub progress : ProgressOf e.value g.pieces
  pub octets : Keeps (chain_of store e.slot.0) g.pieces
  pub count : length (chain_of store e.slot.0) ≡ cells_of g.pieces

-- each entry represents the datagram at the same position
abbrev pub EachStands : Store → List (Entry DatagramId Progress) → List Gathered → Type 0
EachStands store [] [] = Unit {0}
EachStands store [] (g ∷ gs) = ⊥
EachStands store (e ∷ es) [] = ⊥
EachStands store (e ∷ es) (g ∷ gs) = EntryStands store e g × EachStands store es gs

-- no entry has the slot with this number
abbrev pub IsFree : List (Entry DatagramId Progress) → (chain : ℕ) → Type 0
IsFree entries chain = AllByRecursion (λ e. e.slot.0 ≢ chain) entries

-- The entries and the store represent the datagrams, in order of first fragments; the chains of
-- other slots are empty.
pub record HoldsFor (gs : List Gathered) (entries : List (Entry DatagramId Progress)) (store : Store) : Type 0 where
  pub each : EachStands store entries gs
  pub free : (chain : ℕ) → IsFree entries chain → chain_of store chain ≡ []
