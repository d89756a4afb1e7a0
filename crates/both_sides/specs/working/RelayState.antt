-- What a relay keeps between records, and when one engine can read on (this project's profile).
use Rattle.std.specs.Prelude.{◌≡◌, ℕ, List, length, Option}
use Rattle.wire_base.specs.declared.address.Link.{Link}
use Rattle.norm_settings.specs.SettingValues.{AreInRange}
use Rattle.norm_engine.specs.Items.{Item}
use Rattle.norm_engine.specs.CleanRecords.{HaveOctets}
use Rattle.norm_engine.specs.EngineState as single
use Rattle.both_sides.specs.declared.engines.Engines.{Engines}
use Rattle.both_sides.specs.declared.engines.Engines.TheVariants.{One, Two}
use Rattle.both_sides.specs.RunTraces.{RunHasOctets, RunTrace}
use Rattle.both_sides.specs.RelayState.{settings_of, StandsForRun}

-- one engine has this MTU and settings in their ranges; if there are two, the second has read each
-- frame of the first
abbrev pub IsReady : Engines → (mtu : Option ℕ) → Type 0
IsReady (One engine) mtu = (engine.settings.mtu ≡ mtu) × AreInRange engine.settings
IsReady (Two both) mtu = length both.pending ≡ 0

-- The invariant of a relay: its engines are ready, and represent some run over records of octets.
pub record IsKept (engines : Engines) (mtu : Option ℕ) : Type 0 where
  pub ready : IsReady engines mtu
  pub run : RunTrace
  pub stands : StandsForRun engines run
  pub octets : RunHasOctets (settings_of engines) run

-- One engine has this MTU and this link, settings in their ranges, and represents some history over
-- records of octets.
pub record CanRead (engine : single.Engaged) (mtu : Option ℕ) (link : Link) : Type 0 where
  pub bound : engine.settings.mtu ≡ mtu
  pub same : engine.link ≡ link
  pub range : AreInRange engine.settings
  pub history : List Item
  pub stands : single.StandsFor engine history
  pub octets : HaveOctets history
