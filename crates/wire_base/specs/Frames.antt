-- The packet of a frame: an IPv4 packet alone or after an Ethernet II header (RFC 894), or an ARP
-- packet after one (RFC 826).
use Rattle.std.specs.Prelude.{ℕ, ◌==◌, nat_lt, List, [], length, take, drop, if◌then◌else◌}
use Rattle.wire_base.specs.Numbers.{u16_at}
use Rattle.wire_base.specs.declared.address.Link.{Link}
use Rattle.wire_base.specs.declared.address.Link.TheVariants.{Ethernet, Raw}
use Rattle.wire_base.specs.declared.limits.TheConstants.{MAX_LINK}
use Rattle.wire_base.specs.declared.frame.FrameKind.{FrameKind}
use Rattle.wire_base.specs.declared.frame.FrameKind.TheVariants.{Ip, Arp, Short, Other}

-- the EtherType of an Ethernet II header, after two addresses of six octets each (RFC 894)
abbrev pub ethertype : List ℕ → ℕ
ethertype frame = u16_at frame 12

-- on Ethernet, Short below the 14 octets of the header (RFC 894), else by EtherType: IPv4 (2048) at
-- offset 14, ARP (2054, RFC 826), or Other; on a raw link always IPv4 at offset 0
abbrev pub kind_of : Link → List ℕ → FrameKind
kind_of Ethernet frame =
    if nat_lt (length frame) MAX_LINK then Short
    else if ethertype frame == 2048 then Ip MAX_LINK
    else if ethertype frame == 2054 then Arp
    else Other
kind_of Raw frame = Ip 0

-- the packet of a frame: on Ethernet the octets after the header of 14 octets (RFC 894), on a raw
-- link the whole frame
abbrev pub packet_in : Link → (frame : List ℕ) → List ℕ
packet_in Ethernet frame = drop MAX_LINK frame
packet_in Raw frame = frame

-- the octets of a frame before its packet: on Ethernet the header of 14 octets (RFC 894), on a raw
-- link none
abbrev pub link_octets : Link → (frame : List ℕ) → List ℕ
link_octets Ethernet frame = take MAX_LINK frame
link_octets Raw frame = []
