-- Frames that are longer than the MTU of a link (this project's profile). The length is that of the
-- IPv4 packet, so ARP is never long.
use Rattle.std.specs.Prelude.{ℕ, ◌==◌, ◌&&◌, ◌||◌, nat_lt, not, Bool, true, false, List, length, if◌then◌else◌}
use Rattle.wire_base.specs.declared.address.Link.{Link}
use Rattle.wire_base.specs.declared.frame.FrameKind.{FrameKind}
use Rattle.wire_base.specs.declared.frame.FrameKind.TheVariants.{Ip, Arp, Short, Other}
use Rattle.wire_base.specs.Frames.{kind_of, packet_in}
use Rattle.wire_base.specs.Ipv4 as ip
use Rattle.wire_base.specs.Tcp as tcp
use Rattle.emit_mtu.specs.declared.long.LongKind.{LongKind}
use Rattle.emit_mtu.specs.declared.long.LongKind.TheVariants.{Fits, Cut, Drop}

-- the frame carries an IPv4 packet
abbrev pub is_ip : FrameKind → Bool
is_ip (Ip at) = true
is_ip Arp = false
is_ip Short = false
is_ip Other = false

-- an IPv4 packet of more octets than the MTU
abbrev pub is_long : Link → (mtu : ℕ) → (frame : List ℕ) → Bool
is_long link mtu frame = is_ip (kind_of link frame) && nat_lt mtu (ip.total_length (packet_in link frame))

-- SYN, RST or URG, which apply to the whole segment
abbrev pub is_marked : (flags : ℕ) → Bool
is_marked flags = tcp.has_syn flags || tcp.has_rst flags || tcp.has_urg flags

-- a TCP segment with payload and none of these flags
abbrev pub may_be_cut : (packet : List ℕ) → Bool
may_be_cut packet =
    (ip.protocol packet == 6)
    && not (is_marked (tcp.flags (ip.payload packet)))
    && nat_lt 0 (length (tcp.payload (ip.payload packet)))

-- E_CUT: a long frame that may be cut
abbrev pub e_cut : Link → (mtu : ℕ) → (frame : List ℕ) → Bool
e_cut link mtu frame = is_long link mtu frame && may_be_cut (packet_in link frame)

-- E_MTU: any other long frame
abbrev pub e_mtu : Link → (mtu : ℕ) → (frame : List ℕ) → Bool
e_mtu link mtu frame = is_long link mtu frame && not (may_be_cut (packet_in link frame))

-- the decision on a frame
abbrev pub long_kind : Link → (mtu : ℕ) → (frame : List ℕ) → LongKind
long_kind link mtu frame = if e_cut link mtu frame then Cut else if e_mtu link mtu frame then Drop else Fits
