-- The invariant of the engine over records as they arrive (this project's profile).
use Rattle.std.specs.Prelude.{◌≡◌, ℕ, ◌*◌, ◌≤◌, List, Option}
use Rattle.wire_base.specs.declared.address.Link.{Link}
use Rattle.rule_book.specs.Entries.{IsOfVersion}
use Rattle.norm_settings.specs.SettingValues.{AreInRange}
use Rattle.norm_engine.specs.Items.{Item}
use Rattle.norm_engine.specs.working.FrameReports.{CanWrite}
use Rattle.live_norm.specs.Live.{Lived, Represents}

-- Its link and its MTU are those of the engine, whose settings are in their ranges. It represents
-- some history, its frames can be written, and its entry can be written as a line. Each record had
-- fewer than 256 frames.
pub record IsLive (link : Link) (mtu : Option ℕ) (out : List (List ℕ)) (live : Lived) : Type 0 where
  pub same : live.engine.link ≡ link
  pub bound : live.engine.settings.mtu ≡ mtu
  pub range : AreInRange live.engine.settings
  pub history : List Item
  pub represents : Represents live history
  pub ready : CanWrite mtu link out
  pub version : IsOfVersion 2 live.entry
  pub few : live.written ≤ 255 * live.engine.records
