-- The contract of the first and of the last part of a run. Nothing is claimed of octets that are
-- not known.
use Rattle.std.specs.Prelude.{◌≡◌, ℕ, true, []}
use Rattle.capture_input.specs.declared.input.Input.{Input}
use Rattle.capture_input.specs.Inputs.{Walk, packets_in, EndsAtNewest, Took}
use Rattle.capture_input.specs.ReaderState.{Behind, head_in, is_open_in}
use Rattle.norm_settings.specs.SettingValues.{PlainSettings}
use Rattle.both_sides.specs.Outputs.{Given}
use Rattle.both_sides.specs.Sinks.{Sinks, NoSinkRose}
use Rattle.bridge_run.specs.RunMoments.{Moment, NoneRose}
use Rattle.bridge_run.specs.Outputs.{outputs_of, end_outputs}

-- The first line and the head were written, and the head was read, and nothing after it.
pub record Begun (settings : PlainSettings) (input : Input) (before now : Moment) : Type 0 where
  pub walk : Walk
  pub took : Took settings.inside before.source.octets now.source.octets (head_in input) walk
  pub silent : packets_in walk ≡ []
  pub ends : EndsAtNewest walk
  pub behind : Behind input settings.inside walk
  pub goes_on : is_open_in input ≡ true
  pub given : Given (outputs_of settings.both (head_in input) []) before.sinks now.sinks
  pub none_rose : NoneRose before now

-- the last line, which counts records and frames, was written, and no sink failed
pub record Ended (records frames : ℕ) (before now : Sinks) : Type 0 where
  pub given : Given (end_outputs records frames) before now
  pub none_rose : NoSinkRose before now
