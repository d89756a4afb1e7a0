-- The header of a segment that was read, and the octets of its packet.
use Rattle.std.specs.Prelude.{◌≡◌, ℕ, ◌<◌, ◌≤◌, ◌^◌, true, List, length, slice_index, slice_range}
use Rattle.wire_base.specs.Tcp as tcp
use Rattle.wire_base.specs.Options.{are_well_formed}
use Rattle.ipv4_codec.specs.declared.header.Ipv4.{Ipv4}
use Rattle.tcp_codec.specs.declared.header.Tcp.{Tcp}
use Rattle.tcp_codec.specs.HeaderFields.{fields_of}

-- the fields of the octets, with what this header says of the checksum
abbrev pub seen : List ℕ → Tcp → Tcp
seen octets head = record (fields_of 0 octets) { sum_right = head.sum_right }

-- the fields are those of the octets, but for whether the checksum is right, and the header has no
-- fault
pub record IsRead (octets : List ℕ) (head : Tcp) : Type 0 where
  pub fields : head ≡ seen octets head
  pub least : 20 ≤ head.header
  pub most : head.header ≤ 60
  pub inside : head.header ≤ length octets
  pub legal : tcp.are_legal head.flags.0 ≡ true
  pub formed : are_well_formed (tcp.options octets) ≡ true
  pub area : slice_range octets 20 head.header ≡ tcp.options octets

-- the addresses have 32 bits, and each octet has 8
pub record AreBits (ip : Ipv4) (octets : List ℕ) : Type 0 where
  pub source : ip.src.0 < 2 ^ 32
  pub destination : ip.dst.0 < 2 ^ 32
  pub each : (i : ℕ) → slice_index octets i < 2 ^ 8
