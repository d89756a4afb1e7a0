-- The content of a block by its type and fixed fields (pcapng), and with its options.
use Rattle.std.specs.Prelude.{ℕ, ◌+◌, ◌-◌, ◌*◌, ◌/◌, ◌%◌, ◌^◌, ◌==◌, not, nat_lt, min, Bool, true, false, List, length, take, drop, slice_get, Option, Some, None, if◌then◌else◌}
use Rattle.wire_base.specs.declared.address.Link.{Link}
use Rattle.wire_base.specs.declared.address.Link.TheVariants.{Ethernet, Raw}
use Rattle.wire_base.specs.declared.address.Side.{Side}
use Rattle.wire_base.specs.declared.address.Side.TheVariants.{Inward, Outward}
use Rattle.pcap_file.specs.declared.record.Order.{Order}
use Rattle.pcap_file.specs.FileNumbers.{u16_at, u32_at}
use Rattle.pcap_file.specs.FileHead.{link_of}
use Rattle.pcapng_file.specs.declared.fault.NgFault.TheVariants as faults
use Rattle.pcapng_file.specs.declared.interface.Interface.{Interface}
use Rattle.pcapng_file.specs.declared.content.Content.{Content}
use Rattle.pcapng_file.specs.declared.content.Content.TheVariants as says
use Rattle.pcapng_file.specs.declared.content.Found.{Found}
use Rattle.pcapng_file.specs.declared.content.Found.TheVariants as is
use Rattle.pcapng_file.specs.InterfaceOptions.{padded, options_of, described}
use Rattle.pcapng_file.specs.SectionState.{Sections}
use Rattle.wire_base.specs.declared.limits.TheConstants.{MAX_CAPTURED}

-- the types of blocks that are parsed
abbrev pub section_type : ℕ
section_type = 0x0a0d0d0a

abbrev pub interface_type : ℕ
interface_type = 1

abbrev pub old_packet_type : ℕ
old_packet_type = 2

abbrev pub simple_type : ℕ
simple_type = 3

abbrev pub enhanced_type : ℕ
enhanced_type = 6

-- a section block: the byte-order magic, the major version, which must be 1, and the minor version,
-- which is ignored
abbrev pub section_says : Order → (size : ℕ) → List ℕ → Content
section_says order size block =
    if nat_lt size 28 then says.Fails faults.Block
    else if u16_at order block 12 == 1 then says.Section
    else says.Fails faults.Version

-- whether an interface's link is that of the file's first interface, if there was one
abbrev pub is_link : Option Link → Link → Bool
is_link None link = true
is_link (Some Ethernet) Ethernet = true
is_link (Some Ethernet) Raw = false
is_link (Some Raw) Ethernet = false
is_link (Some Raw) Raw = true

-- an interface of this link, if the link is supported; a section has at most 64 interfaces
abbrev pub linked_says : Sections → Option Link → (snap : ℕ) → Content
linked_says sections None snap = says.Fails faults.Link
linked_says sections (Some link) snap =
    if not (is_link sections.link link) then says.Fails faults.Link
    else if nat_lt (length sections.interfaces) 64 then says.Interface link snap
    else says.Fails faults.Block

-- an interface block: the link, two octets that are ignored, and the snap length
abbrev pub interface_says : Sections → Order → (size : ℕ) → List ℕ → Content
interface_says sections order size block =
    if nat_lt size 20 then says.Fails faults.Block
    else linked_says sections (link_of (u16_at order block 8)) (u32_at order block 12)

-- the side of a record, if the name of the inside interface is given: outward from the interface of
-- this name, inward from any other
abbrev pub side_by : (inside : Option (List ℕ)) → (named : Bool) → Option Side
side_by None named = None
side_by (Some name) true = Some Outward
side_by (Some name) false = Some Inward

-- the number of units of an interface's time in a second
abbrev pub per_second : (nano : Bool) → ℕ
per_second true = 10 ^ 9
per_second false = 10 ^ 6

-- the number of nanoseconds in a unit of an interface's time
abbrev pub nanos_each : (nano : Bool) → ℕ
nanos_each true = 1
nanos_each false = 1000

-- an enhanced packet block of this interface at this time, in its units; Block from 2^32 seconds on
abbrev pub timed_says : (inside : Option (List ℕ)) → Interface → (time original captured : ℕ) → Content
timed_says inside interface time original captured =
    if nat_lt (time / per_second interface.nano) (2 ^ 32) then says.Packet (record {
      seconds = time / per_second interface.nano;
      fraction = time % per_second interface.nano * nanos_each interface.nano;
      original = original;
      size = captured;
      place = 28;
      side = side_by inside interface.named;
    })
    else says.Fails faults.Block

-- an enhanced packet block of this interface; Block if the section has no such interface
abbrev pub enhanced_of : (inside : Option (List ℕ)) → Option Interface → Order → (size : ℕ) → List ℕ → Content
enhanced_of inside None order size block = says.Fails faults.Block
enhanced_of inside (Some interface) order size block =
    if nat_lt MAX_CAPTURED (u32_at order block 20) then says.Fails faults.Long
    else if nat_lt size (32 + padded (u32_at order block 20)) then says.Fails faults.Block
    else timed_says inside interface (u32_at order block 12 * 2 ^ 32 + u32_at order block 16) (u32_at order block 24) (u32_at order block 20)

-- an enhanced packet block: the interface, the time in two words, the more significant first, and
-- the captured and the original length
abbrev pub enhanced_says : (inside : Option (List ℕ)) → Sections → Order → (size : ℕ) → List ℕ → Content
enhanced_says inside sections order size block =
    if nat_lt size 32 then says.Fails faults.Block
    else enhanced_of inside (slice_get sections.interfaces (u32_at order block 8)) order size block

-- the captured length of a simple packet block: its original length, limited to the snap length if
-- that is not 0
abbrev pub clipped : (snap original : ℕ) → ℕ
clipped snap original = if snap == 0 then original else min original snap

-- a simple packet block of this captured length; its time is that of the record before; `named`
-- says whether its interface is the inside one
abbrev pub simple_sized : (inside : Option (List ℕ)) → (named : Bool) → Sections → (size original captured : ℕ) → Content
simple_sized inside named sections size original captured =
    if nat_lt MAX_CAPTURED captured then says.Fails faults.Long
    else if nat_lt size (16 + padded captured) then says.Fails faults.Block
    else says.Packet (record {
      seconds = sections.seconds;
      fraction = sections.fraction;
      original = original;
      size = captured;
      place = 12;
      side = side_by inside named;
    })

-- a simple packet block of the section's first interface; Block if there is none
abbrev pub simple_of : (inside : Option (List ℕ)) → Option Interface → Sections → (size original : ℕ) → Content
simple_of inside None sections size original = says.Fails faults.Block
simple_of inside (Some interface) sections size original =
    simple_sized inside interface.named sections size original (clipped interface.snap original)

-- a simple packet block: the original length
abbrev pub simple_says : (inside : Option (List ℕ)) → Sections → Order → (size : ℕ) → List ℕ → Content
simple_says inside sections order size block =
    if nat_lt size 16 then says.Fails faults.Block
    else simple_of inside (slice_get sections.interfaces 0) sections size (u32_at order block 8)

-- The content of a block of this type and size by its fixed fields. Blocks of other types are
-- skipped.
unfoldable pub content_of : (inside : Option (List ℕ)) → Sections → Order → (kind size : ℕ) → List ℕ → Content
content_of inside sections order kind size block =
    if kind == section_type then section_says order size block
    else if kind == interface_type then interface_says sections order size block
    else if kind == enhanced_type then enhanced_says inside sections order size block
    else if kind == simple_type then simple_says inside sections order size block
    else if kind == old_packet_type then says.Fails faults.Block
    else says.Passed

-- an interface, if its options describe one; else Block
abbrev pub interface_found : Link → Option Interface → Found
interface_found link None = is.Fails faults.Block
interface_found link (Some interface) = is.Interface link interface

-- The content of a block with its options: those of an interface are between its 16 fixed octets
-- and its last 4 octets.
abbrev pub found_of : (inside : Option (List ℕ)) → Order → (size : ℕ) → List ℕ → Content → Found
found_of inside order size block (says.Fails fault) = is.Fails fault
found_of inside order size block says.Passed = is.Passed
found_of inside order size block says.Section = is.Section
found_of inside order size block (says.Interface link snap) = interface_found link (described inside snap (options_of order (take (size - 20) (drop 16 block))))
found_of inside order size block (says.Packet stamp) = is.Packet stamp
