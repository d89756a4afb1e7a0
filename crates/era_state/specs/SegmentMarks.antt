-- The contribution of one written segment to the quantities of its era. The stream is the inward
-- direction; its base and Acked before the segment are arguments.
use Rattle.std.specs.Prelude.{ℕ, ◌+◌, ◌*◌, ◌%◌, ◌^◌, ◌&&◌, not, Bool, true, false, List, length, ℤ, pos, ◌+ℤ◌, ◌-ℤ◌, Option, Some, None, slice_get, nat_lt, if◌then◌else◌}
use Rattle.wire_base.specs.Tcp as tcp
use Rattle.wire_base.specs.Segments.{Written}
use Rattle.era_state.specs.Offsets.{off, natural, nat_of}

-- the segment is outbound and has ACK
abbrev pub acknowledges : Written → Bool
acknowledges w = not w.inward && tcp.has_ack w.flags

-- it is an outbound SYN
abbrev pub is_outbound_syn : Written → Bool
is_outbound_syn w = not w.inward && tcp.has_syn w.flags

-- it is an inbound SYN
abbrev pub is_inbound_syn : Written → Bool
is_inbound_syn w = w.inward && tcp.has_syn w.flags

-- it is an outbound FIN
abbrev pub is_outbound_fin : Written → Bool
is_outbound_fin w = not w.inward && tcp.has_fin w.flags

-- it carries octets
abbrev pub has_octets : Written → Bool
has_octets w = nat_lt 0 (length w.octets)

-- SYN and FIN take one sequence number each (RFC 9293 section 3.4)
abbrev pub one_if : Bool → ℕ
one_if true = 1
one_if false = 0

-- the sequence number after its octets, its SYN and its FIN (RFC 9293 section 3.4)
abbrev pub number_behind : Written → ℕ
number_behind w = (w.seq + length w.octets + one_if (tcp.has_syn w.flags) + one_if (tcp.has_fin w.flags)) % 2 ^ 32

-- the base that a written segment fixes if none is fixed yet: the number after an inbound SYN, or
-- the acknowledgment of an outbound segment without RST
abbrev pub fixes : Written → Option ℕ
fixes w =
    if w.inward
    then (if tcp.has_syn w.flags then Some ((w.seq + 1) % 2 ^ 32) else None)
    else (if tcp.has_ack w.flags && not (tcp.has_rst w.flags) then Some w.ack else None)

-- the offset that an outbound segment with ACK acknowledges; None of another segment, or if it is
-- below 0
abbrev pub ack_of : (base acked : ℕ) → Written → Option ℕ
ack_of base acked w = if acknowledges w then natural (off base acked w.ack) else None

-- the end of its window, or 0 if it acknowledges no offset; the window of a SYN is not scaled (RFC
-- 7323 section 2.2)
abbrev pub edge_place : Option ℕ → (shift : ℕ) → Written → ℕ
edge_place None shift w = 0
edge_place (Some place) shift w = place + w.window * (if tcp.has_syn w.flags then 1 else 2 ^ shift)

-- the offset after the octets of an inward segment, or 0 if there are none or all of them are below
-- offset 0
abbrev pub top_place : (base acked : ℕ) → Written → ℕ
top_place base acked w = if w.inward && has_octets w then nat_of (off base acked w.seq +ℤ pos (length w.octets)) else 0

-- the octet at an index, if there is one
abbrev pub get_at : List ℕ → Option ℕ → Option ℕ
get_at octets None = None
get_at octets (Some i) = slice_get octets i

-- the octet of an inward segment at an offset
abbrev pub octet_at : (base acked : ℕ) → ℤ → Written → Option ℕ
octet_at base acked offset w = if w.inward then get_at w.octets (natural (offset -ℤ off base acked w.seq)) else None

-- the offset of an inward segment's FIN
abbrev pub fin_place : (base acked : ℕ) → Written → Option ℤ
fin_place base acked w = if w.inward && tcp.has_fin w.flags then Some (off base acked w.seq +ℤ pos (length w.octets)) else None
