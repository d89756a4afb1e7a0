-- What is known of the header of a segment that was read.
use Rattle.std.specs.Prelude.{◌≡◌, ℕ, ◌≤◌, true, List, length, slice_range}
use Rattle.wire_base.specs.Tcp as tcp
use Rattle.wire_base.specs.Options.{are_well_formed}
use Rattle.tcp_codec.specs.declared.header.Tcp.{Tcp}
use Rattle.tcp_codec.specs.HeaderFields.{fields_of}

-- the fields are those of the octets, whatever was summed before them, and the header has no fault
pub record IsHead (octets : List ℕ) (head : Tcp) : Type 0 where
  pub pseudo : ℕ
  pub fields : head ≡ fields_of pseudo octets
  pub least : 20 ≤ head.header
  pub most : head.header ≤ 60
  pub inside : head.header ≤ length octets
  pub legal : tcp.are_legal head.flags.0 ≡ true
  pub formed : are_well_formed (tcp.options octets) ≡ true
  pub area : slice_range octets 20 head.header ≡ tcp.options octets
