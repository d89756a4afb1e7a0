-- The frames that are written instead of a frame, and the offsets of their octets in a stream (this
-- project's profile).
use Rattle.std.specs.Prelude.{◌≡◌, ℕ, ◌*◌, ◌^◌, ◌≤◌, ◌<◌, List, [], ◌∷◌, ◌++◌, map, ℤ, pos, ◌+ℤ◌, All, false, None, Option}
use Rattle.std.specs.List.{flat_map, range_with_len}
use Rattle.wire_base.specs.declared.address.Link.{Link}
use Rattle.wire_base.specs.declared.address.Link.TheVariants.{Raw}
use Rattle.wire_base.specs.declared.frame.FrameKind.TheVariants.{Ip}
use Rattle.wire_base.specs.Frames.{kind_of, packet_in}
use Rattle.wire_base.specs.Ipv4 as ip
use Rattle.wire_base.specs.Plain.{IsPlainHeader, Plain}
use Rattle.tcp_codec.specs.declared.header.SumRule.TheVariants.{Skip}
use Rattle.tcp_codec.specs.HeaderFields.{fault_of}
use Rattle.receiver_model.specs.FamilyAgreement.{TellOneStream}
use Rattle.receiver_model.specs.Monitors.{StayNearAcks}
use Rattle.receiver_model.specs.StreamParts.{AreOfStream}
use Rattle.emit_mtu.specs.declared.long.LongKind.{LongKind}
use Rattle.emit_mtu.specs.declared.long.LongKind.TheVariants.{Fits, Cut, Drop}
use Rattle.emit_mtu.specs.FrameParts.{AreOctets, IsSent, IsWhole, link_size, parts_of}
use Rattle.emit_mtu.specs.LongFrames.{is_long, long_kind}
use Rattle.emit_mtu.specs.Segments.{count_of, room_of, segments}

-- the frame itself, its segments, or nothing
abbrev pub frames_of : LongKind → Link → (mtu : ℕ) → (frame : List ℕ) → List (List ℕ)
frames_of Fits link mtu frame = frame ∷ []
frames_of Cut link mtu frame = segments link mtu frame
frames_of Drop link mtu frame = []

-- the frames that are written instead of a frame
abbrev pub frames_for : Link → (mtu : ℕ) → (frame : List ℕ) → List (List ℕ)
frames_for link mtu frame = frames_of (long_kind link mtu frame) link mtu frame

-- no frame that is written is long
abbrev pub NothingLongGoesOut : Type 0
NothingLongGoesOut =
    (link : Link) (mtu : ℕ) (frame : List ℕ) → IsSent link frame → AreOctets frame → 576 ≤ mtu → mtu < 2 ^ 16
    → All (λ out. is_long link mtu out ≡ false) (frames_for link mtu frame)

-- a packet alone is a frame of a raw link: the same packets are written instead of it
abbrev pub PacketsGoOutAlike : Type 0
PacketsGoOutAlike =
    (link : Link) (mtu : ℕ) (frame : List ℕ) → kind_of link frame ≡ Ip (link_size link)
    → map (packet_in link) (frames_for link mtu frame) ≡ frames_for Raw mtu (packet_in link frame)

-- a packet with a plain header is whole, if its TCP segment, if it carries one, has no fault
abbrev pub PlainHeadersAreWhole : Type 0
PlainHeadersAreWhole = (packet : List ℕ) → IsPlainHeader packet → (ip.protocol packet ≡ 6 → fault_of Skip 0 (ip.payload packet) ≡ None) → IsWhole packet

-- a frame with a plain packet may be written
abbrev pub PlainIsSent : Type 0
PlainIsSent = (link : Link) (hops : ℕ) (frame : List ℕ) → kind_of link frame ≡ Ip (link_size link) → Plain hops (packet_in link frame) → IsSent link frame

-- the packets that are written instead of these, in order
abbrev pub packets_for : (mtu : ℕ) → (packets : List (List ℕ)) → List (List ℕ)
packets_for mtu packets = flat_map (frames_for Raw mtu) packets

-- the offset in the stream of the first octet of each packet that is written instead of one whose
-- first octet is at `place`
abbrev pub places_of : LongKind → (mtu : ℕ) → (packet : List ℕ) → (place : ℤ) → List ℤ
places_of Fits mtu packet place = place ∷ []
places_of Cut mtu packet place =
    let parts = parts_of Raw packet in
    let room = room_of mtu parts in
    map (λ index. place +ℤ pos (room * index)) (range_with_len 0 (count_of room parts))
places_of Drop mtu packet place = []

-- the offsets of the packets that are written instead of these, in order
abbrev pub places_for : (mtu : ℕ) → (places : List ℤ) → (packets : List (List ℕ)) → List ℤ
places_for mtu [] packets = []
places_for mtu (place ∷ places) [] = []
places_for mtu (place ∷ places) (packet ∷ packets) = places_of (long_kind Raw mtu packet) mtu packet place ++ places_for mtu places packets

-- packets that describe one stream still do so after the long ones are cut or dropped
abbrev pub CutTellsOneStream : Type 0
CutTellsOneStream =
    (hops base mtu : ℕ) (places : List ℤ) (packets : List (List ℕ)) → 576 ≤ mtu → mtu < 2 ^ 16 → All AreOctets packets → TellOneStream hops base places packets
    → TellOneStream hops base (places_for mtu places packets) (packets_for mtu packets)

-- and those of a given stream still are
abbrev pub CutIsOfStream : Type 0
CutIsOfStream =
    (hops base mtu : ℕ) (places : List ℤ) (packets : List (List ℕ)) (first : ℤ → Option ℕ) (end : Option ℤ) → 576 ≤ mtu → mtu < 2 ^ 16 → All AreOctets packets
    → TellOneStream hops base places packets → AreOfStream first end places packets → AreOfStream first end (places_for mtu places packets) (packets_for mtu packets)

-- the acks of the packets that are written instead of these, in order
abbrev pub acks_for : (mtu : ℕ) → (acks : List ℕ) → (packets : List (List ℕ)) → List ℕ
acks_for mtu [] packets = []
acks_for mtu (ack ∷ acks) [] = []
acks_for mtu (ack ∷ acks) (packet ∷ packets) = map (λ _. ack) (frames_for Raw mtu packet) ++ acks_for mtu acks packets

-- packets of one stream that stay near what was acknowledged still do so after the long ones are
-- cut or dropped
abbrev pub CutStaysNearAcks : Type 0
CutStaysNearAcks =
    (hops base mtu : ℕ) (acks : List ℕ) (places : List ℤ) (packets : List (List ℕ)) → 576 ≤ mtu → mtu < 2 ^ 16 → All AreOctets packets → TellOneStream hops base places packets
    → StayNearAcks acks places packets
    → StayNearAcks (acks_for mtu acks packets) (places_for mtu places packets) (packets_for mtu packets)
