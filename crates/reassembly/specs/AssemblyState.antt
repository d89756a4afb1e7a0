-- What an assembly represents (this project's profile).
use Rattle.std.specs.Prelude.{◌≡◌, ℕ, ◌≤◌, List, length}
use Rattle.std.specs.List.{AllByRecursion}
use Rattle.linked_table.specs.EntryTable.{Pairwise}
use Rattle.norm_settings.specs.SettingValues.{PlainSettings}
use Rattle.reassembly.specs.declared.assembly.Assembly.{Assembly}
use Rattle.reassembly.specs.Calls.{Call, Gathered, gathered, latest}
use Rattle.reassembly.specs.RuleRows.{AreAnswered}
use Rattle.reassembly.specs.TableAndStore.{HoldsFor}

-- the first fragments arrived in this order, the last of them by this time
pub record AreInOrder (gs : List Gathered) (now : ℕ) : Type 0 where
  pub rising : Pairwise (λ a b. a.since ≤ b.since) gs
  pub past : AllByRecursion (λ g. g.since ≤ now) gs

-- it was opened for these settings
pub record IsFor (settings : PlainSettings) (a : Assembly) : Type 0 where
  pub datagrams : a.table.max ≡ settings.frags
  pub chains : length a.store.chains ≡ settings.frags
  pub cells : a.cells ≡ settings.frag_cells
  pub store : a.store.cells ≡ settings.frag_cells
  pub time : a.time ≡ settings.frag_time

-- the table and the store represent the datagrams that these calls gathered
pub record KeepsFor (settings : PlainSettings) (a : Assembly) (calls : List Call) : Type 0 where
  pub opened : IsFor settings a
  pub holds : HoldsFor (gathered settings.frag_time calls) a.table.entries a.store
  pub order : AreInOrder (gathered settings.frag_time calls) (latest calls)

-- the greatest time of the calls so far, or 0 before the first
abbrev pub last_time : Assembly → ℕ
last_time a = a.last

-- The assembly represents the calls so far, newest first, each of which was answered by the rules.
pub record StandsFor (settings : PlainSettings) (a : Assembly) (calls : List Call) : Type 0 where
  pub keeps : KeepsFor settings a calls
  pub time : last_time a ≡ latest calls
  pub answered : AreAnswered settings calls
