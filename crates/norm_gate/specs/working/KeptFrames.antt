-- The invariant of a gate (this project's profile).
use Rattle.std.specs.Prelude.{◌≡◌, ℕ, ◌≤◌, true, []}
use Rattle.norm_settings.specs.SettingValues.{PlainSettings, AreInRange}
use Rattle.live_norm.specs.Live.{Lived}
use Rattle.norm_gate.specs.declared.arrival.Frames.{Frames}
use Rattle.norm_gate.specs.declared.gate.Answer.{Answer}
use Rattle.norm_gate.specs.GateHistory.{link_of}
use Rattle.norm_gate.specs.GateState.{frames_kept}

-- Its settings and its link are those of its engine, and the settings are in their ranges. The
-- frame that crossed has at most 60 octets. It has no frame if the one that arrived is written
-- unchanged.
pub record IsKept (newest : Answer) (settings : PlainSettings) (given : Frames) (live : Lived) (size : ℕ) : Type 0 where
  pub same : live.engine.settings ≡ settings
  pub link : live.engine.link ≡ link_of given
  pub range : AreInRange settings
  pub most : size ≤ 60
  pub empty : newest.as_read ≡ true → frames_kept newest.fate live.frames [] ≡ []
