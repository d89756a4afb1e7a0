-- The front of a block (pcapng): its type and size, as they are read.
use Rattle.std.specs.Prelude.{ℕ, ◌≡◌, true, ◌==◌, List, Option, Some, None, Result, Ok, Err, if◌then◌else◌}
use Rattle.pcap_file.specs.declared.record.Order.{Order}
use Rattle.pcap_file.specs.FileNumbers.{u32_at}
use Rattle.pcapng_file.specs.declared.fault.NgFault.{NgFault}
use Rattle.pcapng_file.specs.declared.fault.NgFault.TheVariants as faults
use Rattle.pcapng_file.specs.declared.front.Front.{Front}
use Rattle.pcapng_file.specs.declared.content.Found.{Found}
use Rattle.pcapng_file.specs.declared.content.Found.TheVariants as is
use Rattle.pcapng_file.specs.BlockContents.{section_type, interface_type, enhanced_type, simple_type, old_packet_type}
use Rattle.pcapng_file.specs.Blocks.{is_size}

-- a block that describes an interface
abbrev pub IsInterface : Found → Type 0
IsInterface (is.Interface link interface) = Unit {0}
IsInterface _ = ⊥

-- a packet block
abbrev pub IsPacket : Found → Type 0
IsPacket (is.Packet stamp) = Unit {0}
IsPacket _ = ⊥

-- the content of a block of twelve octets of this type, which has no fixed field but its type
abbrev pub bare : (kind : ℕ) → Found
bare kind =
    if kind == section_type then is.Fails faults.Block
    else if kind == interface_type then is.Fails faults.Block
    else if kind == enhanced_type then is.Fails faults.Block
    else if kind == simple_type then is.Fails faults.Block
    else if kind == old_packet_type then is.Fails faults.Block
    else is.Passed

-- the result of parsing the first 12 octets of a block in this byte order
abbrev pub front_in : Option Order → List ℕ → Result Front NgFault
front_in None octets = Err faults.Magic
front_in (Some order) octets =
    if is_size (u32_at order octets 4) then Ok (record { order = order; kind = u32_at order octets 0; size = u32_at order octets 4 })
    else Err faults.Block

-- a block begins with these octets
pub record IsFront (head : List ℕ) (front : Front) : Type 0 where
  pub kind : front.kind ≡ u32_at front.order head 0
  pub size : front.size ≡ u32_at front.order head 4
  pub sized : is_size front.size ≡ true
