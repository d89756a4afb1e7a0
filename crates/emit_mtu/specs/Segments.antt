-- The segments that a TCP frame is cut into (this project's profile, over RFC 791 section 3.1 and
-- RFC 9293 section 3.1). Segments are counted from 0; each except the last has `room` octets of
-- payload.
use Rattle.std.specs.Prelude.{ℕ, ◌+◌, ◌-◌, ◌*◌, ◌/◌, ◌%◌, ◌^◌, ◌==◌, ◌&&◌, nat_le, min, not, Bool, List, ◌++◌, length, map, take, drop, slice_set, if◌then◌else◌}
use Rattle.std.specs.List.{range_with_len}
use Rattle.wire_base.specs.declared.address.Link.{Link}
use Rattle.wire_base.specs.Numbers.{with_u16, with_u32}
use Rattle.wire_base.specs.Checksums.{word_sum, checksum_for, pseudo_sum}
use Rattle.wire_base.specs.Ipv4 as ip
use Rattle.wire_base.specs.Tcp as tcp
use Rattle.tcp_codec.specs.MendedSegment.{mended}
use Rattle.emit_mtu.specs.FrameParts.{Parts, parts_of}

-- the number of octets that the headers leave of the MTU
abbrev pub room_of : (mtu : ℕ) → Parts → ℕ
room_of mtu parts = mtu - (length parts.ip + length parts.tcp)

-- the number of parts: one for each full part of the payload, and one for a rest
abbrev pub count_of : (room : ℕ) → Parts → ℕ
count_of room parts = length parts.payload / room + min 1 (length parts.payload % room)

-- a part of the payload, of `room` octets except the last
abbrev pub piece_of : (room index : ℕ) → Parts → List ℕ
piece_of room index parts = take room (drop (room * index) parts.payload)

-- the first part has no octet before it, the last one none after it
abbrev pub is_first : (index : ℕ) → Bool
is_first index = index == 0

abbrev pub is_last : (room index : ℕ) → Parts → Bool
is_last room index parts = nat_le (length parts.payload) (room * (index + 1))

-- the value of a flag if it is set and not kept, else 0
abbrev pub lost : (weight flags : ℕ) → (kept : Bool) → ℕ
lost weight flags kept = if tcp.has_flag weight flags && not kept then weight else 0

-- FIN (1) and PSH (8) are kept only on the last part, CWR (128) only on the first, all others on
-- each
abbrev pub flags_of : (first last : Bool) → (flags : ℕ) → ℕ
flags_of first last flags = flags - (lost 1 flags last + lost 8 flags last + lost 128 flags first)

-- the IPv4 header before a segment of `size` octets: its total length, its identification, plus
-- `index` modulo 2^16, and its right checksum are its own
abbrev pub ip_fields : (size index : ℕ) → Parts → List ℕ
ip_fields size index parts =
    with_u16 (with_u16 (with_u16 parts.ip 2 (length parts.ip + size)) 4 ((ip.identification parts.ip + index) % 2 ^ 16)) 10 0

abbrev pub ip_header : (size index : ℕ) → Parts → List ℕ
ip_header size index parts = with_u16 (ip_fields size index parts) 10 (checksum_for (word_sum (ip_fields size index parts)))

-- the TCP header with its options: its sequence number, plus the octets before the part modulo
-- 2^32, and its flags are its own
abbrev pub tcp_header : (room index : ℕ) → Parts → List ℕ
tcp_header room index parts =
    slice_set (with_u32 parts.tcp 4 ((tcp.sequence parts.tcp + room * index) % 2 ^ 32)) 13 (flags_of (is_first index) (is_last room index parts) (tcp.flags parts.tcp))

-- the TCP segment, with its right checksum
abbrev pub message_of : (room index : ℕ) → Parts → List ℕ
message_of room index parts =
    let octets = tcp_header room index parts ++ piece_of room index parts in
    mended (pseudo_sum (ip.source parts.ip) (ip.destination parts.ip) 6 (length octets)) octets

-- the frame of a part
abbrev pub segment_of : (room : ℕ) → Parts → (index : ℕ) → List ℕ
segment_of room parts index =
    let message = message_of room index parts in
    parts.link ++ (ip_header (length message) index parts ++ message)

-- the frames of the parts from `first` on, in order
abbrev pub segments_from : (first : ℕ) → (room : ℕ) → Parts → List (List ℕ)
segments_from first room parts = map (segment_of room parts) (range_with_len first (count_of room parts - first))

-- the frames of all parts, in order
abbrev pub segments : Link → (mtu : ℕ) → (frame : List ℕ) → List (List ℕ)
segments link mtu frame = let parts = parts_of link frame in segments_from 0 (room_of mtu parts) parts
