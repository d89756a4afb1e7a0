-- What one call changes in the table of eras and the store of octets.
use Rattle.std.specs.Prelude.{◌≡◌, ◌≢◌, ℕ, ◌+◌, ◌-◌, ◌^◌, ◌<◌, ◌≤◌, List, None}
use Rattle.wire_base.specs.Segments.{Written}
use Rattle.wire_base.specs.declared.address.FlowKey.{FlowKey}
use Rattle.norm_settings.specs.SettingValues.{PlainSettings}
use Rattle.linked_table.specs.EntryTable.{HasNone}
use Rattle.era_state.specs.Eras as era
use Rattle.era_state.specs.declared.era.Era.{Era}
use Rattle.tcp_norm.specs.declared.state.TcpNorm.{TcpNorm}
use Rattle.tcp_norm.specs.Calls.{Alive}
use Rattle.tcp_norm.specs.HeldOctets.{kept_at}
use Rattle.tcp_norm.specs.working.EraBounds.{IsNear}
use Rattle.tcp_norm.specs.TableAndStore.{HoldsFor, IsFor}

-- the table and the store hold these eras with these segments
abbrev pub Holds : TcpNorm → List Alive → (ℕ → List Written) → Type 0
Holds norm lives segments = HoldsFor lives segments norm.begun norm.table.entries norm.store

-- with the first segments of the era of this number, of which nothing is kept, the segments are
-- these
pub record Begins (e : Era) (number : ℕ) (segments later : ℕ → List Written) : Type 0 where
  pub stands : era.StandsFor e (later number)
  pub none : (offset : ℕ) → kept_at (later number) offset ≡ None
  pub others : (m : ℕ) → m ≢ number → later m ≡ segments m

-- one more datagram can be counted, which arrives at this time
pub record IsReady (norm : TcpNorm) (now : ℕ) : Type 0 where
  pub few : norm.calls < 2 ^ 32 - 1
  pub later : norm.latest ≤ now

-- the connection of this key has no era
abbrev pub IsAbsent : TcpNorm → FlowKey → Type 0
IsAbsent norm key = HasNone norm.table.entries (record { 0 = key })

-- the connection of this key has no era, and this one can begin with the next number
pub record IsNew (norm : TcpNorm) (key : FlowKey) (e : Era) : Type 0 where
  pub absent : IsAbsent norm key
  pub number : norm.begun + 1 ≤ norm.calls
  pub near : IsNear norm.calls e

-- only the tables have changed, and this is the number of eras that began
pub record ChangesTables (old new : TcpNorm) (begun : ℕ) : Type 0 where
  pub opened : (settings : PlainSettings) → IsFor settings old → IsFor settings new
  pub idle : new.limits.idle ≡ old.limits.idle
  pub begun_is : new.begun ≡ begun
  pub calls_are : new.calls ≡ old.calls
  pub latest_is : new.latest ≡ old.latest
  pub scratch_is : new.scratch ≡ old.scratch
