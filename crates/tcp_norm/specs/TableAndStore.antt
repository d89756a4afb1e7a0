-- What the table of eras and the store of octets represent.
use Rattle.std.specs.Prelude.{◌≡◌, ◌≢◌, ℕ, ◌<◌, ◌≤◌, List, [], length, map}
use Rattle.std.specs.List.{AllByRecursion}
use Rattle.wire_base.specs.Segments.{Written}
use Rattle.norm_settings.specs.SettingValues.{PlainSettings}
use Rattle.linked_table.specs.EntryTable.{Entry, Pairwise}
use Rattle.retain_store.specs.Maps.{Store, chain_of}
use Rattle.era_state.specs.Eras as era
use Rattle.tcp_norm.specs.declared.key.Flow.{Flow}
use Rattle.tcp_norm.specs.declared.key.EraKey.{EraKey}
use Rattle.tcp_norm.specs.declared.state.Limits.{Limits}
use Rattle.tcp_norm.specs.declared.state.TcpNorm.{TcpNorm}
use Rattle.tcp_norm.specs.Calls.{Call, Alive, segments, eras, begun_in, asked_in, latest}
use Rattle.tcp_norm.specs.HeldOctets.{held_of}
use Rattle.tcp_norm.specs.KeptChains.{Keeps}

-- an entry of the table as a live era
abbrev pub alive_in : Entry EraKey Flow → Alive
alive_in e = record { number = e.value.number; key = e.key.0; touched = e.value.touched }

-- what is kept of a live era represents its segments: the state and the quantities, the octets in
-- the chain of its slot, and how many blocks they take
pub record EntryStands (segments : ℕ → List Written) (store : Store) (e : Entry EraKey Flow) : Type 0 where
  pub era : era.StandsFor e.value.era (segments e.value.number)
  pub octets : Keeps (chain_of store e.slot.0) (segments e.value.number)
  pub count : length (chain_of store e.slot.0) ≡ held_of (segments e.value.number)

-- no entry has the slot of this number
abbrev pub IsFree : List (Entry EraKey Flow) → (chain : ℕ) → Type 0
IsFree entries chain = AllByRecursion (λ e. e.slot.0 ≢ chain) entries

-- numbers are given once: each live era has one that was given, no two have the same, and nothing
-- was written in a later era
pub record AreGiven (begun : ℕ) (segments : ℕ → List Written) (eras : List Alive) : Type 0 where
  pub below : AllByRecursion (λ a. a.number ≤ begun) eras
  pub apart : Pairwise (λ a b. a.number ≢ b.number) eras
  pub fresh : (number : ℕ) → begun < number → segments number ≡ []

-- The entries and the store represent the live eras, least recently touched first, and the segments
-- of each; the chains of other slots are empty.
pub record HoldsFor (eras : List Alive) (segments : ℕ → List Written) (begun : ℕ) (entries : List (Entry EraKey Flow)) (store : Store) : Type 0 where
  pub eras_are : map alive_in entries ≡ eras
  pub each : AllByRecursion (EntryStands segments store) entries
  pub free : (chain : ℕ) → IsFree entries chain → chain_of store chain ≡ []
  pub given : AreGiven begun segments eras

-- they rise by the time at which they were written last, and none of these is later than `now`
pub record IsTimely (now : ℕ) (eras : List Alive) : Type 0 where
  pub most : AllByRecursion (λ a. a.touched ≤ now) eras
  pub rises : Pairwise (λ a b. a.touched ≤ b.touched) eras

-- what is kept of these settings
abbrev pub limits_of : PlainSettings → Limits
limits_of settings =
    record { cells = settings.cells; hops = settings.hops; idle = settings.idle; offload = settings.offload; quota = settings.quota }

-- what was opened for these settings
pub record IsFor (settings : PlainSettings) (norm : TcpNorm) : Type 0 where
  pub flows : norm.table.max ≡ settings.flows
  pub chains : length norm.store.chains ≡ settings.flows
  pub store : norm.store.cells ≡ settings.cells
  pub limits : norm.limits ≡ limits_of settings

-- The connections represent the calls so far, the newest first.
pub record StandsFor (settings : PlainSettings) (norm : TcpNorm) (calls : List Call) : Type 0 where
  pub opened : IsFor settings norm
  pub holds : HoldsFor (eras calls) (λ number. segments number calls) norm.begun norm.table.entries norm.store
  pub begun_is : norm.begun ≡ begun_in calls
  pub latest_is : norm.latest ≡ latest calls
  pub calls_is : norm.calls ≡ asked_in calls
  pub timely : IsTimely norm.latest (eras calls)
