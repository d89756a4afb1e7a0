-- How the parts of a run over a capture end, before a line reports why it stopped (this project's
-- profile).
use Rattle.std.specs.Prelude.{◌≡◌, ℕ, [], Result, OnOk, IfErr, IfOk}
use Rattle.norm_settings.specs.SettingValues.{PlainSettings}
use Rattle.capture_input.specs.declared.input.Input.{Input}
use Rattle.both_sides.specs.Sinks.{Sinks, NoSinkRose}
use Rattle.bridge_run.specs.declared.stop.Stop.{Stop}
use Rattle.bridge_run.specs.RunMoments.{Moment}
use Rattle.bridge_run.specs.Outputs.{BreaksOff, end_outputs, hand_outputs}
use Rattle.bridge_run.specs.working.RunParts.{Begun, Ended}
use Rattle.bridge_run.specs.StopReasons.{FirstFault, FirstSinkFault}
use Rattle.bridge_run.specs.StoppedRun.{Finishes, Stands}

-- the state at a stop, whose fault was the first
pub record StopsAt (settings : PlainSettings) (stop : Stop) (before now : Moment) : Type 0 where
  pub stands : Stands settings stop before now
  pub first : FirstFault stop before now

-- the capture was normalized, and nothing failed; or the run stopped
pub record Ends {T : Type 0} (settings : PlainSettings) (result : Result T Stop) (before now : Moment) : Type 0 where
  pub finished : OnOk result (Finishes settings before now)
  pub stopped : IfErr result (λ stop. StopsAt settings stop before now)

-- the first line and the head were written, and the head was read, and nothing after it; or the run
-- stopped
pub record Begins (settings : PlainSettings) (result : Result Input Stop) (before now : Moment) : Type 0 where
  pub begun : IfOk result (λ input. Begun settings input before now)
  pub stopped : IfErr result (λ stop. StopsAt settings stop before now)

-- both sinks are as they were
pub record Unchanged (before now : Sinks) : Type 0 where
  pub capture : now.capture.octets ≡ before.capture.octets
  pub report : now.report.octets ≡ before.report.octets
  pub none_rose : NoSinkRose before now

-- a sink could not be flushed before a record, at this offset
pub record StopsHanding (offset : ℕ) (stop : Stop) (before now : Sinks) : Type 0 where
  pub broke : BreaksOff [] hand_outputs offset stop before now
  pub first : FirstSinkFault stop before now

-- Both sinks hold what they held, flushed or not; or one could not be flushed.
pub record HandsOver {T : Type 0} (offset : ℕ) (result : Result T Stop) (before now : Sinks) : Type 0 where
  pub handed : OnOk result (Unchanged before now)
  pub stopped : IfErr result (λ stop. StopsHanding offset stop before now)

-- an output at the end failed, at this offset
pub record StopsClosing (records frames offset : ℕ) (stop : Stop) (before now : Sinks) : Type 0 where
  pub broke : BreaksOff [] (end_outputs records frames) offset stop before now
  pub first : FirstSinkFault stop before now

-- the last line was written, and no sink failed; or an output at the end failed
pub record Closes {T : Type 0} (records frames offset : ℕ) (result : Result T Stop) (before now : Sinks) : Type 0 where
  pub ended : OnOk result (Ended records frames before now)
  pub stopped : IfErr result (λ stop. StopsClosing records frames offset stop before now)
