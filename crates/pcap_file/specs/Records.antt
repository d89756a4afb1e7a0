-- The records of a capture file (classic pcap): 16 octets with seconds, fraction, captured and
-- original length, then the captured octets.
use Rattle.std.specs.Prelude.{ℕ, ◌+◌, ◌==◌, nat_lt, List, ◌++◌, length, take, drop, Option, Some, None, Result, Ok, Err, if◌then◌else◌}
use Rattle.wire_base.specs.declared.address.Side.{Side}
use Rattle.pcap_file.specs.declared.record.Order.{Order}
use Rattle.pcap_file.specs.FileNumbers.{u32_at, u32_octets}
use Rattle.pcap_file.specs.Flaws.{Flaw, cut_short, too_long, too_many}
use Rattle.wire_base.specs.declared.limits.TheConstants.{MAX_CAPTURED}

-- a record: its time in seconds and a fraction of one, its original length, its side if the capture
-- names one, and the captured octets
pub record Packet : Type 0 where
  pub seconds : ℕ
  pub fraction : ℕ
  pub original : ℕ
  pub side : Option Side
  pub octets : List ℕ

-- the captured length in the head of the first record of these octets
abbrev pub captured : Order → List ℕ → ℕ
captured order octets = u32_at order octets 8

-- the first record of these octets, with `size` captured octets and no side
abbrev pub packet_of : Order → List ℕ → (size : ℕ) → Packet
packet_of order octets size =
    record { seconds = u32_at order octets 0; fraction = u32_at order octets 4; original = u32_at order octets 12; side = None; octets = take size (drop 16 octets) }

-- what the octets begin with after `count` records, if they begin with the head of a record whose
-- captured length is `size`
abbrev pub sized_at : Order → (count : ℕ) → List ℕ → (size : ℕ) → Result (Option (Packet × List ℕ)) Flaw
sized_at order count octets size =
    if nat_lt MAX_CAPTURED size then Err too_long
    else if count == 4294967295 then Err too_many
    else if nat_lt (length octets) (16 + size) then Err cut_short
    else Ok (Some (packet_of order octets size, drop (16 + size) octets))

-- What the octets left begin with after `count` records: nothing, a flaw, or a record and the
-- octets after it.
unfoldable pub front_of : Order → (count : ℕ) → List ℕ → Result (Option (Packet × List ℕ)) Flaw
front_of order count octets =
    if length octets == 0 then Ok None
    else if nat_lt (length octets) 16 then Err cut_short
    else sized_at order count octets (captured order octets)

-- the octets of a written record's head: both lengths are `size`
unfoldable pub record_head : Order → (seconds fraction size : ℕ) → List ℕ
record_head order seconds fraction size =
    u32_octets order seconds ++ u32_octets order fraction ++ u32_octets order size ++ u32_octets order size

-- the octets of a written record
abbrev pub record_octets : Order → (seconds fraction : ℕ) → List ℕ → List ℕ
record_octets order seconds fraction octets = record_head order seconds fraction (length octets) ++ octets
