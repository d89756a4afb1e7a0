-- The records of a load (this project's profile).
use Rattle.std.specs.Prelude.{ℕ, ◌*◌, ◌/◌, ◌%◌, List, length, map, None}
use Rattle.std.specs.List.{range_with_len}
use Rattle.wire_base.specs.Segments.{Segment}
use Rattle.pcap_file.specs.Records.{Packet}
use Rattle.load_make.specs.NumberSequence.{number_at, flow_of, action_of, actions_before}
use Rattle.load_make.specs.Flows.{flow_after, turn_of}
use Rattle.load_make.specs.Packets.{segment_for, packet_octets}

-- the record at the position `place` with these octets: one record each millisecond, its time in
-- seconds and microseconds, without a side
abbrev pub record_with : (place : ℕ) → (octets : List ℕ) → Packet
record_with place octets = record { seconds = place / 1000; fraction = place % 1000 * 1000; original = length octets; side = None; octets = octets }

-- the segment of the record at the position `place` with this number: the next one of its
-- connection
abbrev pub segment_numbered : (seed place number : ℕ) → Segment
segment_numbered seed place number =
    segment_for (flow_of number) (turn_of (action_of number) (flow_after (actions_before seed (flow_of number) place)))

-- the record at the position `place`, counted from 0
unfoldable pub record_at : (seed place : ℕ) → Packet
record_at seed place = record_with place (packet_octets (place % 65536) (segment_numbered seed place (number_at seed place)))

-- the first `count` records
unfoldable pub Generated : (seed count : ℕ) → List Packet
Generated seed count = map (record_at seed) (range_with_len 0 count)
