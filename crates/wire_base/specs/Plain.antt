-- Packets that every host of the receiver family reads alike (this project's profile, over RFC 791,
-- RFC 768, RFC 792 and RFC 9293).
use Rattle.std.specs.Prelude.{◌≡◌, ℕ, ◌<◌, ◌≤◌, ◌⊎◌, ◌||◌, true, false, List, [], length}
use Rattle.wire_base.specs.Checksums.{sum_is_right, pseudo_sum}
use Rattle.wire_base.specs.Ipv4 as ip
use Rattle.wire_base.specs.Udp as udp
use Rattle.wire_base.specs.Tcp as tcp
use Rattle.wire_base.specs.Options.{are_well_formed, cleaned}

-- the sum of the pseudo-header of a packet
abbrev pub pseudo_of : List ℕ → ℕ
pseudo_of p = pseudo_sum (ip.source p) (ip.destination p) (ip.protocol p) (length (ip.payload p))

-- a TCP segment with a whole header, a right checksum, legal flags and well-formed options that
-- cleaning does not change, without reserved bits, URG or urgent pointer, and without payload on a
-- SYN or RST
pub record IsPlainTcp (p : List ℕ) : Type 0 where
  pub whole_header : 20 ≤ length (ip.payload p)
  pub data_offset : 20 ≤ tcp.header_length (ip.payload p)
  pub inside : tcp.header_length (ip.payload p) ≤ length (ip.payload p)
  pub sum : sum_is_right (ip.payload p) (pseudo_of p) ≡ true
  pub flags : tcp.are_legal (tcp.flags (ip.payload p)) ≡ true
  pub reserved : tcp.reserved (ip.payload p) ≡ 0
  pub urgent : tcp.has_urg (tcp.flags (ip.payload p)) ≡ false
  pub pointer : tcp.urgent_pointer (ip.payload p) ≡ 0
  pub options : are_well_formed (tcp.options (ip.payload p)) ≡ true
  pub kept : cleaned (tcp.has_syn (tcp.flags (ip.payload p))) (tcp.options (ip.payload p)) ≡ tcp.options (ip.payload p)
  pub bare : (tcp.has_syn (tcp.flags (ip.payload p)) || tcp.has_rst (tcp.flags (ip.payload p))) ≡ true → tcp.payload (ip.payload p) ≡ []

pub record IsPlainUdp (p : List ℕ) : Type 0 where
  pub whole_header : 8 ≤ length (ip.payload p)
  pub size : udp.length_field (ip.payload p) ≡ length (ip.payload p)
  pub sum : (udp.checksum (ip.payload p) ≡ 0) ⊎ (sum_is_right (ip.payload p) (pseudo_of p) ≡ true)

pub record IsPlainIcmp (p : List ℕ) : Type 0 where
  pub whole_header : 8 ≤ length (ip.payload p)
  pub sum : sum_is_right (ip.payload p) 0 ≡ true

-- a plain payload of one of the three protocols: ICMP 1, TCP 6, UDP 17
pub record IsPlainMessage (p : List ℕ) : Type 0 where
  pub protocol : (ip.protocol p ≡ 1) ⊎ (ip.protocol p ≡ 6) ⊎ (ip.protocol p ≡ 17)
  pub icmp : ip.protocol p ≡ 1 → IsPlainIcmp p
  pub tcp : ip.protocol p ≡ 6 → IsPlainTcp p
  pub udp : ip.protocol p ≡ 17 → IsPlainUdp p

-- a packet of version 4 that is no fragment and ends at its total length, with a header of 20
-- octets, the reserved flag clear, and a right header checksum
pub record IsPlainHeader (p : List ℕ) : Type 0 where
  pub whole_header : 20 ≤ length p
  pub version : ip.version p ≡ 4
  pub header_length : ip.header_length p ≡ 20
  pub total_length : ip.total_length p ≡ length p
  pub reserved : ip.has_reserved p ≡ false
  pub more_fragments : ip.has_more_fragments p ≡ false
  pub fragment_offset : ip.fragment_offset p ≡ 0
  pub sum : sum_is_right (ip.header p) 0 ≡ true

-- a packet that is plain for hosts behind at most `hops` routers: its time to live is above `hops`,
-- and its header and payload are plain
pub record Plain (hops : ℕ) (p : List ℕ) : Type 0 where
  pub header : IsPlainHeader p
  pub passes : hops < ip.time_to_live p
  pub message : IsPlainMessage p
