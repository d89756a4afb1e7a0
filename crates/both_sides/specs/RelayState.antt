-- The state of a relay: one engine or two, and the run that they represent (this project's
-- profile).
use Rattle.std.specs.Prelude.{ℕ, ◌-◌, ◌^◌, nat_le, Bool}
use Rattle.wire_base.specs.declared.address.Link.{Link}
use Rattle.norm_settings.specs.SettingValues.{PlainSettings}
use Rattle.norm_engine.specs.EngineState as single
use Rattle.both_sides.specs.TwoEngines as double
use Rattle.both_sides.specs.declared.engines.Engines.{Engines}
use Rattle.both_sides.specs.declared.engines.Engines.TheVariants.{One, Two}
use Rattle.both_sides.specs.RunTraces.{RunTrace, one, two}

-- the settings of a relay, which are those of its first engine
abbrev pub settings_of : Engines → PlainSettings
settings_of (One engine) = engine.settings
settings_of (Two both) = both.first.settings

abbrev pub link_of : Engines → Link
link_of (One engine) = engine.link
link_of (Two both) = both.first.link

-- the number of records of the capture so far
abbrev pub records_of : Engines → ℕ
records_of (One engine) = engine.records
records_of (Two both) = both.first.records

-- the greatest number of records: the second engine counts at most two for each of the first
abbrev pub most_records : Engines → ℕ
most_records (One engine) = 2 ^ 32 - 1
most_records (Two both) = 2 ^ 31 - 1

-- the number of records is the greatest
abbrev pub is_full_of : Engines → Bool
is_full_of engines = nat_le (most_records engines) (records_of engines)

-- one engine represents its trace, and two represent their pair of traces
abbrev pub StandsForRun : Engines → RunTrace → Type 0
StandsForRun (One engine) (one trace) = single.StandsFor engine trace
StandsForRun (One engine) (two trace mirror) = ⊥
StandsForRun (Two both) (one trace) = ⊥
StandsForRun (Two both) (two trace mirror) = double.StandsFor both trace mirror
