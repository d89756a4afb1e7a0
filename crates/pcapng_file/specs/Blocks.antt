-- The block at the front of the octets (pcapng): its type, its size, its content, and its size
-- again.
use Rattle.std.specs.Prelude.{ℕ, ◌-◌, ◌%◌, ◌==◌, ◌&&◌, not, nat_lt, Bool, List, [], ◌∷◌, ◌++◌, length, take, drop, Option, Some, None, Result, Ok, Err, if◌then◌else◌}
use Rattle.wire_base.specs.declared.address.Link.{Link}
use Rattle.pcap_file.specs.declared.record.Order.{Order}
use Rattle.pcap_file.specs.declared.record.Order.TheVariants.{Little, Big}
use Rattle.pcap_file.specs.FileNumbers.{u32_at}
use Rattle.pcap_file.specs.Records.{Packet}
use Rattle.pcapng_file.specs.declared.fault.NgFault.{NgFault}
use Rattle.pcapng_file.specs.declared.fault.NgFault.TheVariants as faults
use Rattle.pcapng_file.specs.declared.content.Stamp.{Stamp}
use Rattle.pcapng_file.specs.declared.content.Found.{Found}
use Rattle.pcapng_file.specs.declared.content.Found.TheVariants as is
use Rattle.pcapng_file.specs.SectionState.{Sections, counted}
use Rattle.pcapng_file.specs.BlockContents.{section_type, content_of, found_of}

-- One block: the state of the file after it, its record if it is a packet block, and its number of
-- octets.
pub record Step : Type 0 where
  pub after : Sections
  pub given : Option Packet
  pub size : ℕ

-- the record with these fields and octets: its fraction is in nanoseconds, its side is that of its
-- interface
abbrev pub packet_of : Stamp → List ℕ → Packet
packet_of stamp octets =
    record { seconds = stamp.seconds; fraction = stamp.fraction; original = stamp.original; side = stamp.side; octets = octets }

-- the state of the file after a block; a section block removes all interfaces
abbrev pub after_found : Sections → Order → Found → Sections
after_found sections order (is.Fails fault) = sections
after_found sections order is.Passed = sections
after_found sections order is.Section = record sections { order = Some order; interfaces = [] }
after_found sections order (is.Interface link interface) = record sections { interfaces = sections.interfaces ++ interface ∷ []; link = Some link }
after_found sections order (is.Packet stamp) = record sections { seconds = stamp.seconds; fraction = stamp.fraction }

-- the record of a block, if it is a packet block
abbrev pub given_by : Found → (block : List ℕ) → Option Packet
given_by (is.Fails fault) block = None
given_by is.Passed block = None
given_by is.Section block = None
given_by (is.Interface link interface) block = None
given_by (is.Packet stamp) block = Some (packet_of stamp (take stamp.size (drop stamp.place block)))

-- a block without a fault
abbrev pub whole_step : Sections → Order → (size : ℕ) → List ℕ → Found → Step
whole_step sections order size block found = record { after = after_found sections order found; given = given_by found block; size = size }

-- the step of a block, or its fault
abbrev pub step_of : Sections → Order → (size : ℕ) → List ℕ → Found → Result Step NgFault
step_of sections order size block (is.Fails fault) = Err fault
step_of sections order size block is.Passed = Ok (whole_step sections order size block is.Passed)
step_of sections order size block is.Section = Ok (whole_step sections order size block is.Section)
step_of sections order size block (is.Interface link interface) = Ok (whole_step sections order size block (is.Interface link interface))
step_of sections order size block (is.Packet stamp) = Ok (whole_step sections order size block (is.Packet stamp))

-- the step of a whole block, or its fault
abbrev pub told : (inside : Option (List ℕ)) → Sections → Order → (size : ℕ) → List ℕ → Result Step NgFault
told inside sections order size block =
    step_of (counted sections) order size block (found_of inside order size block (content_of inside sections order (u32_at order block 0) size block))

-- a block without a fault, with the octets after it
abbrev pub before : List ℕ → Result Step NgFault → Result (Option (Step × List ℕ)) NgFault
before rest (Ok step) = Ok (Some (step, rest))
before rest (Err fault) = Err fault

-- a size that a block may have
abbrev pub is_size : ℕ → Bool
is_size size = not (nat_lt size 12) && (size % 4 == 0)

-- the block of this size at the front, or its fault: a size that no block has, too few octets,
-- another size at its end, or one of its content
abbrev pub sized_at : (inside : Option (List ℕ)) → Sections → Order → List ℕ → (size : ℕ) → Result (Option (Step × List ℕ)) NgFault
sized_at inside sections order octets size =
    if not (is_size size) then Err faults.Block
    else if nat_lt (length octets) size then Err faults.Cut
    else if u32_at order octets (size - 4) == size then before (drop size octets) (told inside sections order size (take size octets))
    else Err faults.Block

-- the byte order by the byte-order magic of a section block
abbrev pub order_by_magic : List ℕ → Option Order
order_by_magic octets =
    if u32_at Little octets 8 == 0x1a2b3c4d then Some Little
    else if u32_at Big octets 8 == 0x1a2b3c4d then Some Big
    else None

-- the byte order of the block at the front: that of its section, or its own if it begins one; the
-- section type reads alike in both orders
abbrev pub order_at : Option Order → List ℕ → Option Order
order_at order octets = if u32_at Little octets 0 == section_type then order_by_magic octets else order

-- the size of the block at the front
abbrev pub size_at : Option Order → List ℕ → ℕ
size_at None octets = 0
size_at (Some order) octets = u32_at order octets 4

-- the block at the front in this byte order; Magic if there is none
abbrev pub ordered_at : (inside : Option (List ℕ)) → Sections → Option Order → List ℕ → Result (Option (Step × List ℕ)) NgFault
ordered_at inside sections None octets = Err faults.Magic
ordered_at inside sections (Some order) octets = sized_at inside sections order octets (u32_at order octets 4)

-- the result where no octet is left: the end after an interface, else Cut
abbrev pub end_by : Option Link → Result (Option (Step × List ℕ)) NgFault
end_by None = Err faults.Cut
end_by (Some link) = Ok None

-- The front of the octets in this state of the file: the end, a fault, or a block and the octets
-- after it.
unfoldable pub block_at : (inside : Option (List ℕ)) → Sections → List ℕ → Result (Option (Step × List ℕ)) NgFault
block_at inside sections octets =
    if length octets == 0 then end_by sections.link
    else if nat_lt (length octets) 12 then Err faults.Cut
    else if sections.blocks == 4294967295 then Err faults.Many
    else ordered_at inside sections (order_at sections.order octets) octets
