-- What becomes of a frame, by the port at which it arrived (RFC 826, RFC 894, RFC 5227, and this
-- project's profile).
use Rattle.std.specs.Prelude.{ℕ, ◌==◌, ◌&&◌, ◌||◌, nat_lt, nat_le, not, min, Bool, true, false, List, [], ◌++◌, length, take, replicate, if◌then◌else◌}
use Rattle.wire_base.specs.Numbers.{u16_at, u32_at}
use Rattle.wire_base.specs.Ipv4 as ip
use Rattle.wire_base.specs.Frames.{kind_of, packet_in}
use Rattle.wire_base.specs.declared.address.Link.{Link}
use Rattle.wire_base.specs.declared.address.Link.TheVariants.{Ethernet}
use Rattle.wire_base.specs.declared.limits.TheConstants.{MAX_FRAME}
use Rattle.wire_base.specs.declared.frame.FrameKind.{FrameKind}
use Rattle.wire_base.specs.declared.frame.FrameKind.TheVariants as kinds
use Rattle.norm_settings.specs.SettingValues.{PlainSettings}
use Rattle.norm_settings.specs.Side.{is_trusted}
use Rattle.norm_gate.specs.declared.arrival.Port.{Port}
use Rattle.norm_gate.specs.declared.arrival.Port.TheVariants.{Outside, Inside}
use Rattle.norm_gate.specs.declared.arrival.Frames.{Frames}
use Rattle.norm_gate.specs.declared.arrival.Frames.TheVariants.{Ports, Capture}
use Rattle.norm_gate.specs.declared.arrival.Arrival.{Arrival}
use Rattle.norm_gate.specs.declared.fate.Fate.{Fate}
use Rattle.norm_gate.specs.declared.fate.Fate.TheVariants.{Judged, Forged, Crosses, Unjudged, TooLong, Truncated}

-- the address is on the side of the port: trusted at the inside port, not trusted at the outside
abbrev pub is_own : PlainSettings → Port → (address : ℕ) → Bool
is_own settings Inside address = is_trusted settings address
is_own settings Outside address = not (is_trusted settings address)

-- What follows the EtherType of IPv4 has a whole source address that is not on the side of the
-- port.
abbrev pub is_forged : PlainSettings → Port → (packet : List ℕ) → Bool
is_forged settings port packet = nat_le 16 (length packet) && not (is_own settings port (ip.source packet))

-- A whole ARP request or reply for IPv4 over Ethernet: hardware type 1, protocol type 0x0800,
-- addresses of 6 and 4 octets, operation 1 or 2 (RFC 826).
abbrev pub is_arp_of_ipv4 : (frame : List ℕ) → Bool
is_arp_of_ipv4 frame =
    nat_le 42 (length frame) && (u16_at frame 14 == 1) && (u16_at frame 16 == 2048) && (u16_at frame 18 == 1540)
    && ((u16_at frame 20 == 1) || (u16_at frame 20 == 2))

-- The address by which ARP is judged: its sender's, or its target if the sender is 0.0.0.0, which
-- has no address yet and asks for that one (RFC 5227).
abbrev pub address_judged : (frame : List ℕ) → ℕ
address_judged frame = if u32_at frame 28 == 0 then u32_at frame 38 else u32_at frame 28

-- the frame that crosses: 42 octets, and zeros up to the frame's length or 60 octets, whichever is
-- less
abbrev pub crossing : (frame : List ℕ) → List ℕ
crossing frame = take (min (length frame) 60) (take 42 frame ++ replicate 18 0)

-- IPv4 is judged unless it is forged
abbrev pub fate_of_ip : PlainSettings → Port → (frame : List ℕ) → Fate
fate_of_ip settings port frame = if is_forged settings port (packet_in Ethernet frame) then Forged else Judged

-- ARP for IPv4 over Ethernet crosses if its address is on the side of the port, and is forged
-- otherwise; other ARP is not judged
abbrev pub fate_of_arp : PlainSettings → Port → (frame : List ℕ) → Fate
fate_of_arp settings port frame =
    if not (is_arp_of_ipv4 frame) then Unjudged
    else if is_own settings port (address_judged frame) then Crosses
    else Forged

-- by what the frame carries
abbrev pub fate_by : FrameKind → PlainSettings → Port → (frame : List ℕ) → Fate
fate_by (kinds.Ip at) settings port frame = fate_of_ip settings port frame
fate_by kinds.Arp settings port frame = fate_of_arp settings port frame
fate_by kinds.Short settings port frame = Unjudged
fate_by kinds.Other settings port frame = Unjudged

-- at a port, in this order: truncated, too long, tagged, and by what the frame carries
abbrev pub fate_at_port : PlainSettings → Arrival → (frame : List ℕ) → Fate
fate_at_port settings arrival frame =
    if nat_lt (length frame) arrival.original then Truncated
    else if nat_lt MAX_FRAME (length frame) then TooLong
    else if not (arrival.tag == 0) then Unjudged
    else fate_by (kind_of Ethernet frame) settings arrival.port frame

-- what becomes of a frame; each record of a capture is judged
abbrev pub fate_of : Frames → PlainSettings → Arrival → (frame : List ℕ) → Fate
fate_of Ports settings arrival frame = fate_at_port settings arrival frame
fate_of (Capture link) settings arrival frame = Judged
