-- Laws of the segments of a frame (RFC 791 section 3.1, RFC 9293 sections 3.1 and 3.4, and this
-- project's profile).
use Rattle.std.specs.Prelude.{◌≡◌, ℕ, ◌+◌, ◌-◌, ◌*◌, ◌%◌, ◌^◌, ◌≤◌, ◌<◌, ◌&&◌, nat_le, Bool, true, List, length, take, drop, Some, slice_get, All}
use Rattle.std.specs.List.{flat_map}
use Rattle.wire_base.specs.declared.address.Link.{Link}
use Rattle.wire_base.specs.Ipv4 as ip
use Rattle.wire_base.specs.Tcp as tcp
use Rattle.wire_base.specs.Checksums.{sum_is_right}
use Rattle.wire_base.specs.Plain.{Plain, pseudo_of}
use Rattle.wire_base.specs.Segments.{Segment, fields_of}
use Rattle.wire_base.specs.Frames.{link_octets, packet_in}
use Rattle.emit_mtu.specs.declared.long.LongKind.TheVariants.{Cut}
use Rattle.emit_mtu.specs.FrameParts.{AreOctets, IsSent}
use Rattle.emit_mtu.specs.LongFrames.{long_kind}
use Rattle.emit_mtu.specs.Segments.{flags_of, is_first, segments}

-- a frame that is to be cut for an MTU
pub record IsToBeCut (link : Link) (mtu : ℕ) (frame : List ℕ) : Type 0 where
  pub sent : IsSent link frame
  pub octets : AreOctets frame
  pub cut : long_kind link mtu frame ≡ Cut
  pub least : 576 ≤ mtu
  pub most : mtu < 2 ^ 16

-- FIN and PSH are kept only on the last part, CWR only on the first, and the other five flags on
-- each
pub record KeepsFlags (first last : Bool) (flags : ℕ) : Type 0 where
  pub fin : tcp.has_fin (flags_of first last flags) ≡ (last && tcp.has_fin flags)
  pub psh : tcp.has_psh (flags_of first last flags) ≡ (last && tcp.has_psh flags)
  pub cwr : tcp.has_flag 128 (flags_of first last flags) ≡ (first && tcp.has_flag 128 flags)
  pub syn : tcp.has_syn (flags_of first last flags) ≡ tcp.has_syn flags
  pub rst : tcp.has_rst (flags_of first last flags) ≡ tcp.has_rst flags
  pub ack : tcp.has_ack (flags_of first last flags) ≡ tcp.has_ack flags
  pub urg : tcp.has_urg (flags_of first last flags) ≡ tcp.has_urg flags
  pub ece : tcp.has_flag 64 (flags_of first last flags) ≡ tcp.has_flag 64 flags

-- this holds for all flags of the frame
abbrev pub FlagsAreKept : Type 0
FlagsAreKept = (first last : Bool) (flags : ℕ) → KeepsFlags first last flags

-- the packet of each segment has at most `mtu` octets
abbrev pub NoneIsLong : Type 0
NoneIsLong = (link : Link) (mtu : ℕ) (frame : List ℕ) → IsToBeCut link mtu frame → All (λ segment. length (packet_in link segment) ≤ mtu) (segments link mtu frame)

-- there are at most 132 segments
abbrev pub AreFew : Type 0
AreFew = (link : Link) (mtu : ℕ) (frame : List ℕ) → IsToBeCut link mtu frame → length (segments link mtu frame) ≤ 132

-- each segment is itself a frame that may be written
abbrev pub AreSent : Type 0
AreSent = (link : Link) (mtu : ℕ) (frame : List ℕ) → IsToBeCut link mtu frame → All (IsSent link) (segments link mtu frame)

-- the octets after the TCP header of a frame
abbrev pub payload_in : Link → (frame : List ℕ) → List ℕ
payload_in link frame = tcp.payload (ip.payload (packet_in link frame))

-- the segments carry the payload of the frame, in order and once
abbrev pub CarryThePayload : Type 0
CarryThePayload = (link : Link) (mtu : ℕ) (frame : List ℕ) → IsToBeCut link mtu frame → flat_map (payload_in link) (segments link mtu frame) ≡ payload_in link frame

-- each segment is plain behind `hops` routers if the frame is
abbrev pub ArePlain : Type 0
ArePlain =
    (link : Link) (mtu : ℕ) (frame : List ℕ) (hops : ℕ) → IsToBeCut link mtu frame → Plain hops (packet_in link frame)
    → All (λ segment. Plain hops (packet_in link segment)) (segments link mtu frame)

-- the number of octets that the headers of a segment leave of the MTU
abbrev pub room_for : (mtu : ℕ) → Segment → ℕ
room_for mtu s = mtu - (20 + (20 + length s.options))

-- a part of a segment: its octets, its sequence number and its flags are its own
abbrev pub piece_of : (room index : ℕ) → Segment → Segment
piece_of room index s =
    record s {
      sequence = (s.sequence + room * index) % 2 ^ 32;
      flags = flags_of (is_first index) (nat_le (length s.octets) (room * (index + 1))) s.flags;
      octets = take room (drop (room * index) s.octets);
    }

-- the fields and checksums of one segment of a frame
pub record IsPiece (link : Link) (mtu index : ℕ) (frame segment : List ℕ) : Type 0 where
  pub link_octets : link_octets link segment ≡ link_octets link frame
  pub identification : ip.identification (packet_in link segment) ≡ (ip.identification (packet_in link frame) + index) % 2 ^ 16
  pub protocol : ip.protocol (packet_in link segment) ≡ 6
  pub total_length : ip.total_length (packet_in link segment) ≡ length (packet_in link segment)
  pub header_sum : sum_is_right (ip.header (packet_in link segment)) 0 ≡ true
  pub sum : sum_is_right (ip.payload (packet_in link segment)) (pseudo_of (packet_in link segment)) ≡ true
  pub fields : let s = fields_of (packet_in link frame) in fields_of (packet_in link segment) ≡ piece_of (room_for mtu s) index s

-- each segment is read as its part
abbrev pub AreReadAsPieces : Type 0
AreReadAsPieces =
    (link : Link) (mtu : ℕ) (frame : List ℕ) (index : ℕ) (segment : List ℕ) → IsToBeCut link mtu frame → slice_get (segments link mtu frame) index ≡ Some segment
    → IsPiece link mtu index frame segment
