-- What the table of datagrams and the store of octets represent after a fragment (this project's
-- profile).
use Rattle.std.specs.Prelude.{◌≡◌, false, List, ◌∷◌, length, None}
use Rattle.linked_table.specs.EntryTable.{Entry}
use Rattle.retain_store.specs.Maps.{Block, Store}
use Rattle.reassembly.specs.declared.id.DatagramId.{DatagramId}
use Rattle.reassembly.specs.declared.progress.Progress.{Progress}
use Rattle.reassembly.specs.DatagramFragments.{Fragment, cells_of}
use Rattle.reassembly.specs.Calls.{Gathered}
use Rattle.reassembly.specs.RuleRows.{f_end, first_row, own_rows}
use Rattle.reassembly.specs.TableAndStore.{ProgressOf, Keeps, HoldsFor}

-- a fragment joined others: the chain has the octets of all, and if it contradicts none, the values
-- kept are those of all
pub record IsJoined (ps : List Fragment) (p : Fragment) (old new : Progress) (blocks : List Block) : Type 0 where
  pub progress : ProgressOf old ps → first_row (own_rows p) ≡ None → f_end ps p ≡ false → ProgressOf new (p ∷ ps)
  pub octets : Keeps blocks (p ∷ ps)
  pub count : length blocks ≡ cells_of (p ∷ ps)

-- the entries and the store represent some datagrams
pub record Gathers (entries : List (Entry DatagramId Progress)) (store : Store) : Type 0 where
  pub datagrams : List Gathered
  pub holds : HoldsFor datagrams entries store
