-- The fields that are read from a packet that went outwards.
use Rattle.std.specs.Prelude.{◌≡◌, ℕ, true, List}
use Rattle.wire_base.specs.Ipv4 as ip
use Rattle.wire_base.specs.Tcp as tcp
use Rattle.tcp_codec.specs.declared.header.Tcp.{Tcp}
use Rattle.run_audit.specs.FrameFaults.{is_segment}

-- the packet is a segment with these flags and this acknowledgment number
pub record IsSegment (p : List ℕ) (head : Tcp) : Type 0 where
  pub is : is_segment p ≡ true
  pub protocol : ip.protocol p ≡ 6
  pub flags_are : head.flags.0 ≡ tcp.flags (ip.payload p)
  pub number_is : head.ack ≡ tcp.acknowledgment (ip.payload p)
