-- The sizes of the parts of a frame (RFC 791 section 3.1, RFC 894, RFC 9293 section 3.1).
use Rattle.std.specs.Prelude.{◌≡◌, ◌+◌, ◌≤◌, length}
use Rattle.wire_base.specs.declared.limits.TheConstants.{MAX_LINK, MAX_PACKET}
use Rattle.emit_mtu.specs.FrameParts.{Parts}

-- the parts have the sizes of a frame that may be written, in octets
pub record AreSized (parts : Parts) : Type 0 where
  pub link : length parts.link ≤ MAX_LINK
  pub ip : length parts.ip ≡ 20
  pub tcp : 20 ≤ length parts.tcp
  pub options : length parts.tcp ≤ 60
  pub packet : length parts.ip + length parts.tcp + length parts.payload ≤ MAX_PACKET
