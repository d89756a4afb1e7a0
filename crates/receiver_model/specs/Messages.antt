-- What hosts read of UDP and ICMP packets, which form no stream (RFC 768, RFC 792; what is read of
-- a packet that is not plain is this project's profile).
use Rattle.std.specs.Prelude.{◌≡◌, ℕ, ◌==◌, List, take, drop, Option, Some, None, if◌then◌else◌}
use Rattle.wire_base.specs.Icmp as icmp
use Rattle.wire_base.specs.Ipv4 as ip
use Rattle.wire_base.specs.Plain.{Plain}
use Rattle.wire_base.specs.Segments.{Segment}
use Rattle.wire_base.specs.Udp as udp
use Rattle.receiver_model.specs.declared.member.Member.{Member}
use Rattle.receiver_model.specs.FamilyAgreement.{IsMember}
use Rattle.receiver_model.specs.Delivery.{Reads}

-- a UDP datagram with its ports and payload, or an ICMP message with its type, its code and what
-- follows the checksum, between the addresses of its packet
pub data Message : Type 0 where
  datagram : (source destination source_port destination_port : ℕ) → (octets : List ℕ) → Message
  control : (source destination kind code : ℕ) → (octets : List ℕ) → Message

-- the message of a packet, or None if its protocol is neither UDP (17) nor ICMP (1); the UDP length
-- says where the payload ends
abbrev pub message_of : List ℕ → Option Message
message_of p =
    let m = ip.payload p in
    if ip.protocol p == 17
    then Some (datagram (ip.source p) (ip.destination p) (udp.source_port m) (udp.destination_port m) (drop 8 (take (udp.length_field m) m)))
    else if ip.protocol p == 1 then Some (control (ip.source p) (ip.destination p) (icmp.kind m) (icmp.code m) (drop 4 m)) else None

-- A host behind `distance` routers reads a packet that is plain there by its fields. It may read
-- any other packet as any message, or as none.
abbrev pub ReadsMessage : (distance : ℕ) → List ℕ → Option Message → Type 0
ReadsMessage distance p m = Plain distance p → m ≡ message_of p

-- any two members behind at most `hops` routers read the packet as one segment or as none, and as
-- one message or as none
pub record IsReadAlike (hops : ℕ) (p : List ℕ) : Type 0 where
  pub segment : (a b : Member) (x y : Option Segment) → IsMember hops a → IsMember hops b → Reads a.distance p x → Reads b.distance p y → x ≡ y
  pub message : (a b : Member) (x y : Option Message) → IsMember hops a → IsMember hops b → ReadsMessage a.distance p x → ReadsMessage b.distance p y → x ≡ y

-- this holds for each plain packet
abbrev pub PlainIsReadAlike : Type 0
PlainIsReadAlike = (hops : ℕ) (p : List ℕ) → Plain hops p → IsReadAlike hops p
