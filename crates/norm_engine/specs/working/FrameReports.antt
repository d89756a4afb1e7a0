-- The writing of the frames of one record: when they can be written, and what is counted of them
-- (this project's profile).
use Rattle.std.specs.Prelude.{◌≡◌, ℕ, List, ◌≤◌, ◌<◌, length, All, Option, Some, IfSome}
use Rattle.wire_base.specs.declared.address.Link.{Link}
use Rattle.emit_mtu.specs.FrameParts.{IsSent}
use Rattle.emit_mtu.specs.LongFrames.{e_cut, e_mtu}
use Rattle.emit_mtu.specs.CutStreams.{frames_for}
use Rattle.norm_engine.specs.declared.written.Emitted.{Emitted}
use Rattle.norm_engine.specs.WrittenTrace.{frames_written, cuts_some, keeps_some_back}

-- the report on one frame: how many frames are written for it, whether it was cut, and whether it
-- was dropped
pub record TellsOne (mtu : ℕ) (link : Link) (frame : List ℕ) (emitted : Emitted) : Type 0 where
  pub packets : emitted.packets ≡ length (frames_for link mtu frame)
  pub cut : emitted.cut ≡ e_cut link mtu frame
  pub kept_back : emitted.kept_back ≡ e_mtu link mtu frame

-- the same of all frames of a record
pub record TellsAll (mtu : ℕ) (link : Link) (frames : List (List ℕ)) (emitted : Emitted) : Type 0 where
  pub packets : emitted.packets ≡ length (frames_written (Some mtu) link frames)
  pub cut : emitted.cut ≡ cuts_some (Some mtu) link frames
  pub kept_back : emitted.kept_back ≡ keeps_some_back (Some mtu) link frames

-- Each frame can be written on this link, a bounded MTU is at least 576, and fewer than 256 frames
-- are written.
pub record CanWrite (mtu : Option ℕ) (link : Link) (frames : List (List ℕ)) : Type 0 where
  pub sent : All (IsSent link) frames
  pub least : IfSome mtu (λ most. 576 ≤ most)
  pub few : length (frames_written mtu link frames) < 256
