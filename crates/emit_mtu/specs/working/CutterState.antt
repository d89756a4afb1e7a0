-- The state in which a frame is being cut (this project's profile).
use Rattle.std.specs.Prelude.{ℕ, ◌<◌, ◌≤◌}
use Rattle.emit_mtu.specs.working.PartSizes.{AreSized}
use Rattle.emit_mtu.specs.FrameParts.{Parts}
use Rattle.emit_mtu.specs.Segments.{count_of}

-- a frame of these sizes is being cut, and `index` segments are written
pub record IsCutting (index room : ℕ) (parts : Parts) : Type 0 where
  pub sized : AreSized parts
  pub some : 0 < room
  pub reached : index ≤ count_of room parts
