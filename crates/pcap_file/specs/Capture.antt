-- A capture file as a whole (classic pcap): a head, a list of records, and the end or a first flaw
-- at an offset.
use Rattle.std.specs.Prelude.{◌≡◌, ◌⊎◌, ℕ, ◌+◌, List, [], ◌∷◌, length, drop, Some, Ok, Err}
use Rattle.pcap_file.specs.declared.record.Order.{Order}
use Rattle.pcap_file.specs.declared.head.Head.{Head}
use Rattle.pcap_file.specs.Flaws.{Flaw}
use Rattle.pcap_file.specs.FileHead.{head_of}
use Rattle.pcap_file.specs.Records.{Packet, front_of}

-- All the octets after the head are these records, the newest first, and then `rest`.
abbrev pub ReadsTo : Order → (all : List ℕ) → List Packet → (rest : List ℕ) → Type 0
ReadsTo order all [] rest = all ≡ rest
ReadsTo order all (packet ∷ older) rest =
    (left : List ℕ) × ReadsTo order all older left × (front_of order (length older) left ≡ Ok (Some (packet, rest)))

-- the number of octets of records: 16 for each, and the captured ones
abbrev pub size_of : List Packet → ℕ
size_of [] = 0
size_of (packet ∷ older) = size_of older + 16 + length packet.octets

-- the offset after these records, in octets from the start of the file
abbrev pub offset_of : List Packet → ℕ
offset_of packets = 24 + size_of packets

-- The octets are this head with these records, the newest first, and nothing else.
pub record IsCapture (octets : List ℕ) (head : Head) (packets : List Packet) : Type 0 where
  pub accepted : head_of octets ≡ Ok head
  pub whole : ReadsTo head.order (drop 24 octets) packets []

-- The octets are an accepted head, some records and then, at this offset, octets whose first flaw
-- is this one.
pub record FailsBehindHead (octets : List ℕ) (flaw : Flaw) (offset : ℕ) : Type 0 where
  pub head : Head
  pub packets : List Packet
  pub rest : List ℕ
  pub accepted : head_of octets ≡ Ok head
  pub reads : ReadsTo head.order (drop 24 octets) packets rest
  pub flawed : front_of head.order (length packets) rest ≡ Err flaw
  pub place : offset ≡ offset_of packets

-- The octets have this first flaw, at this offset: 0 for a flaw of the head, else the offset of the
-- record.
abbrev pub FailsAt : List ℕ → Flaw → (offset : ℕ) → Type 0
FailsAt octets flaw offset = ((head_of octets ≡ Err flaw) × (offset ≡ 0)) ⊎ FailsBehindHead octets flaw offset

-- The octets are a capture.
pub record EndsWell (octets : List ℕ) : Type 0 where
  pub head : Head
  pub packets : List Packet
  pub is : IsCapture octets head packets

-- The octets have a first flaw.
pub record EndsBadly (octets : List ℕ) : Type 0 where
  pub flaw : Flaw
  pub offset : ℕ
  pub is : FailsAt octets flaw offset
