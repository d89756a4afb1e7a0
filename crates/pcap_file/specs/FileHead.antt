-- The head of a capture file (classic pcap): 24 octets with magic, version 2.4, zone, accuracy,
-- snap length and network. Zone, accuracy and snap length are ignored.
use Rattle.std.specs.Prelude.{ℕ, ◌==◌, ◌&&◌, nat_lt, Bool, true, false, List, ◌++◌, length, replicate, Option, Some, None, Result, Ok, Err, if◌then◌else◌}
use Rattle.wire_base.specs.declared.address.Link.{Link}
use Rattle.wire_base.specs.declared.address.Link.TheVariants.{Ethernet, Raw}
use Rattle.pcap_file.specs.declared.record.Order.{Order}
use Rattle.pcap_file.specs.declared.record.Order.TheVariants.{Little, Big}
use Rattle.pcap_file.specs.declared.head.Head.{Head}
use Rattle.pcap_file.specs.FileNumbers.{u16_at, u32_at, u16_octets, u32_octets}
use Rattle.pcap_file.specs.Flaws.{Flaw, cut_short, bad_magic, bad_version, bad_link}
use Rattle.wire_base.specs.declared.limits.TheConstants.{MAX_CAPTURED}

-- the magic of a unit: nanoseconds or microseconds
abbrev pub magic_of : (nano : Bool) → ℕ
magic_of true = 0xa1b23c4d
magic_of false = 0xa1b2c3d4

-- whether a magic means nanoseconds; None if it is no magic
abbrev pub unit_of : (magic : ℕ) → Option Bool
unit_of magic = if magic == magic_of false then Some false else if magic == magic_of true then Some true else None

-- the network number of a link
abbrev pub network_of : Link → ℕ
network_of Ethernet = 1
network_of Raw = 101

-- the link of a network number; None if the number is not read
abbrev pub link_of : (network : ℕ) → Option Link
link_of network = if network == network_of Ethernet then Some Ethernet else if network == network_of Raw then Some Raw else None

-- the head of this order, unit and link; a flaw if there is no link
abbrev pub with_link : Order → (nano : Bool) → Option Link → Result Head Flaw
with_link order nano (Some link) = Ok (record { order = order; nano = nano; link = link })
with_link order nano None = Err bad_link

-- the head in this order and unit, or its flaw: the version is tested before the network
abbrev pub head_in : Order → (nano : Bool) → List ℕ → Result Head Flaw
head_in order nano octets =
    if (u16_at order octets 4 == 2) && (u16_at order octets 6 == 4) then with_link order nano (link_of (u32_at order octets 20))
    else Err bad_version

-- the order and the unit, from the unit that the magic has in each order
abbrev pub form_by : (little big : Option Bool) → Option (Order × Bool)
form_by (Some nano) big = Some (Little, nano)
form_by None (Some nano) = Some (Big, nano)
form_by None None = None

-- the order and the unit of the stored magic
abbrev pub form_of : List ℕ → Option (Order × Bool)
form_of octets = form_by (unit_of (u32_at Little octets 0)) (unit_of (u32_at Big octets 0))

-- the head in this order and unit, or its flaw; a bad magic if there is no order and unit
abbrev pub head_by : Option (Order × Bool) → List ℕ → Result Head Flaw
head_by (Some form) octets = head_in form.0 form.1 octets
head_by None octets = Err bad_magic

-- The head that octets begin with, or its first flaw: fewer than 24 octets are cut short, whatever
-- their values.
unfoldable pub head_of : List ℕ → Result Head Flaw
head_of octets = if nat_lt (length octets) 24 then Err cut_short else head_by (form_of octets) octets

-- the octets of a written head: version 2.4, zone 0, accuracy 0 and snap length 262,144
unfoldable pub head_octets : Head → List ℕ
head_octets head =
    u32_octets head.order (magic_of head.nano) ++ u16_octets head.order 2 ++ u16_octets head.order 4 ++ replicate 8 0
    ++ u32_octets head.order MAX_CAPTURED ++ u32_octets head.order (network_of head.link)
