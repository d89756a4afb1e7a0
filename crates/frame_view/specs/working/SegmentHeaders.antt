-- The header of a TCP segment that can be read (this project's profile).
use Rattle.std.specs.Prelude.{◌≡◌, ℕ, true, List}
use Rattle.frame_view.specs.FrameParts.{has_tcp_header}

-- a TCP header can be read, as a fact
abbrev pub HasSegmentHeader : (segment : List ℕ) → Type 0
HasSegmentHeader m = has_tcp_header m ≡ true
