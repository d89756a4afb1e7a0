-- An input as a whole: octets that begin with the type of a section block are a pcapng file, and
-- all others a classic file (this project's profile). `inside` is the name of the inside interface,
-- if it is given.
use Rattle.std.specs.Prelude.{◌≡◌, ◌⊎◌, ℕ, Bool, true, false, List, [], ◌∷◌, length, take, drop, Option, Some, None, Result, Ok, Err}
use Rattle.std.specs.Str.{bytes_eq}
use Rattle.wire_base.specs.declared.address.Link.{Link}
use Rattle.pcap_file.specs.declared.head.Head.{Head}
use Rattle.pcap_file.specs.Flaws.{Flaw}
use Rattle.pcap_file.specs.FileHead.{head_of}
use Rattle.pcap_file.specs.Records.{Packet, front_of}
use Rattle.pcap_file.specs.Capture.{ReadsTo, offset_of}
use Rattle.pcapng_file.specs.declared.fault.NgFault.{NgFault}
use Rattle.pcapng_file.specs.SectionState.{no_section}
use Rattle.pcapng_file.specs.Blocks.{Step, block_at}
use Rattle.pcapng_file.specs.Sections.{Walks, behind, packets_of, size_of, size_before, EndsAtInterface}
use Rattle.pcapng_file.specs.ReaderState.{written_head}
use Rattle.capture_input.specs.declared.fault.InputFault.{InputFault}
use Rattle.capture_input.specs.declared.fault.InputFault.TheVariants as faults
use Rattle.capture_input.specs.Faults.{of_flaw, of_block}

-- the type of a section block, which reads alike in both byte orders
abbrev pub section_octets : List ℕ
section_octets = 10 ∷ 13 ∷ 13 ∷ 10 ∷ []

-- whether octets are read as a pcapng file
abbrev pub is_sections : List ℕ → Bool
is_sections octets = bytes_eq (take 4 octets) section_octets

-- The entries read of an input, the newest first: the records of a classic file after its head, or
-- all blocks of a pcapng file, those of its head included.
pub data Walk : Type 0 where
  records : List Packet → Walk
  blocks : List Step → Walk

-- the records that were read, the newest first
abbrev pub packets_in : Walk → List Packet
packets_in (records packets) = packets
packets_in (blocks steps) = packets_of steps

-- the offset after the entries read, in octets from the start of the file
abbrev pub place_behind : Walk → ℕ
place_behind (records packets) = offset_of packets
place_behind (blocks steps) = size_of steps

-- the offset of the newest record or block; of a classic file without a record, the offset after
-- the head
abbrev pub newest_place : Walk → ℕ
newest_place (records []) = offset_of []
newest_place (records (packet ∷ older)) = offset_of older
newest_place (blocks steps) = size_before steps

-- the record of the newest block, if it is a packet block
abbrev pub newest_given : List Step → Option Packet
newest_given [] = None
newest_given (step ∷ older) = step.given

-- Blocks with these records end with the block of the newest record or, if there is none, with the
-- first interface block.
abbrev pub BlocksEndAt : (packets : List Packet) → List Step → Type 0
BlocksEndAt [] steps = EndsAtInterface steps
BlocksEndAt (packet ∷ older) steps = newest_given steps ≡ Some packet

-- The entries read end with the newest record or, if there is none, with the head.
abbrev pub EndsAtNewest : Walk → Type 0
EndsAtNewest (records packets) = Unit {0}
EndsAtNewest (blocks steps) = BlocksEndAt (packets_of steps) steps

-- the head of a classic file; it is refused if the name of the inside interface is given, since it
-- has no interfaces
abbrev pub classic_head : (inside : Option (List ℕ)) → Result Head Flaw → Result Head InputFault
classic_head inside (Err flaw) = Err (of_flaw flaw)
classic_head None (Ok head) = Ok head
classic_head (Some name) (Ok head) = Err faults.Block

-- this is the head of a pcapng file whose first interface has this link
abbrev pub IsHeadOf : Option Link → Head → Type 0
IsHeadOf None head = ⊥
IsHeadOf (Some link) head = head ≡ written_head (Some link)

-- The octets are a classic file that begins with this head and these records, the newest first;
-- `rest` is left.
pub record BeginsClassic (inside : Option (List ℕ)) (octets : List ℕ) (head : Head) (packets : List Packet) (rest : List ℕ) : Type 0 where
  pub kind : is_sections octets ≡ false
  pub accepted : classic_head inside (head_of octets) ≡ Ok head
  pub reads : ReadsTo head.order (drop 24 octets) packets rest

-- The octets are a pcapng file that begins with these blocks, the newest first, an interface among
-- them; `rest` is left.
pub record BeginsSections (inside : Option (List ℕ)) (octets : List ℕ) (head : Head) (steps : List Step) (rest : List ℕ) : Type 0 where
  pub kind : is_sections octets ≡ true
  pub walks : Walks inside no_section octets steps rest
  pub linked : IsHeadOf (behind no_section steps).link head

-- The octets begin with this head and these entries; `rest` is left.
abbrev pub BeginsWith : (inside : Option (List ℕ)) → (octets : List ℕ) → Head → Walk → (rest : List ℕ) → Type 0
BeginsWith inside octets head (records packets) rest = BeginsClassic inside octets head packets rest
BeginsWith inside octets head (blocks steps) rest = BeginsSections inside octets head steps rest

-- The octets are a whole input with this head and these records, the newest first. A classic file
-- may end after the head or any record, a pcapng file after the first interface or any later block.
pub record IsInput (inside : Option (List ℕ)) (octets : List ℕ) (head : Head) (packets : List Packet) : Type 0 where
  pub walk : Walk
  pub begins : BeginsWith inside octets head walk []
  pub packets_are : packets_in walk ≡ packets

-- a record with a flaw is at the front
pub record IsFlawedRecord (head : Head) (count : ℕ) (rest : List ℕ) (fault : InputFault) : Type 0 where
  pub flaw : Flaw
  pub flawed : front_of head.order count rest ≡ Err flaw
  pub is : fault ≡ of_flaw flaw

-- a block with a fault is at the front
pub record IsFlawedBlock (inside : Option (List ℕ)) (steps : List Step) (rest : List ℕ) (fault : InputFault) : Type 0 where
  pub flaw : NgFault
  pub flawed : block_at inside (behind no_section steps) rest ≡ Err flaw
  pub is : fault ≡ of_block flaw

-- After the entries read, a record or block with this fault is at the front of the octets left.
abbrev pub IsFlawed : (inside : Option (List ℕ)) → Head → Walk → (rest : List ℕ) → InputFault → Type 0
IsFlawed inside head (records packets) rest fault = IsFlawedRecord head (length packets) rest fault
IsFlawed inside head (blocks steps) rest fault = IsFlawedBlock inside steps rest fault

-- The octets are a classic file without an accepted head: it has this fault, at offset 0.
pub record FailsInClassicHead (inside : Option (List ℕ)) (octets : List ℕ) (fault : InputFault) (offset : ℕ) : Type 0 where
  pub kind : is_sections octets ≡ false
  pub refused : classic_head inside (head_of octets) ≡ Err fault
  pub place : offset ≡ 0

-- The octets are a pcapng file without an accepted head: the block at this offset has this fault,
-- and no interface is before it.
pub record FailsBeforeInterface (inside : Option (List ℕ)) (octets : List ℕ) (fault : InputFault) (offset : ℕ) : Type 0 where
  pub kind : is_sections octets ≡ true
  pub steps : List Step
  pub rest : List ℕ
  pub walks : Walks inside no_section octets steps rest
  pub unlinked : (behind no_section steps).link ≡ None
  pub flawed : IsFlawedBlock inside steps rest fault
  pub place : offset ≡ size_of steps

-- The octets have an accepted head and, at this offset after it, the first fault.
pub record FailsBehindHead (inside : Option (List ℕ)) (octets : List ℕ) (fault : InputFault) (offset : ℕ) : Type 0 where
  pub head : Head
  pub walk : Walk
  pub rest : List ℕ
  pub begins : BeginsWith inside octets head walk rest
  pub flawed : IsFlawed inside head walk rest fault
  pub place : offset ≡ place_behind walk

-- The first fault is in the head.
abbrev pub FailsInHead : (inside : Option (List ℕ)) → (octets : List ℕ) → InputFault → (offset : ℕ) → Type 0
FailsInHead inside octets fault offset = FailsInClassicHead inside octets fault offset ⊎ FailsBeforeInterface inside octets fault offset

-- This is the first fault of the octets, and the offset of the head, record or block that has it.
abbrev pub FailsAt : (inside : Option (List ℕ)) → (octets : List ℕ) → InputFault → (offset : ℕ) → Type 0
FailsAt inside octets fault offset = FailsInHead inside octets fault offset ⊎ FailsBehindHead inside octets fault offset

-- The octets are an input.
pub record EndsWell (inside : Option (List ℕ)) (octets : List ℕ) : Type 0 where
  pub head : Head
  pub packets : List Packet
  pub is : IsInput inside octets head packets

-- The octets have a first fault.
pub record EndsBadly (inside : Option (List ℕ)) (octets : List ℕ) : Type 0 where
  pub fault : InputFault
  pub offset : ℕ
  pub is : FailsAt inside octets fault offset

-- If the source has known octets, they begin with this head and these entries, and the rest is
-- left.
abbrev pub Took : (inside old new : Option (List ℕ)) → Head → Walk → Type 0
Took inside None new head walk = Unit {0}
Took inside (Some octets) None head walk = ⊥
Took inside (Some octets) (Some rest) head walk = BeginsWith inside octets head walk rest

-- If the source has known octets, they are a whole input with this head and these records.
abbrev pub TookAll : (inside old : Option (List ℕ)) → Head → List Packet → Type 0
TookAll inside None head packets = Unit {0}
TookAll inside (Some octets) head packets = IsInput inside octets head packets

-- If the source has known octets, this is their first fault, and its offset.
abbrev pub HasFaultAt : (inside old : Option (List ℕ)) → InputFault → (offset : ℕ) → Type 0
HasFaultAt inside None fault offset = Unit {0}
HasFaultAt inside (Some octets) fault offset = FailsAt inside octets fault offset

-- If the source has known octets, none is left.
abbrev pub TakenWhole : (old new : Option (List ℕ)) → Type 0
TakenWhole None new = Unit {0}
TakenWhole (Some octets) None = ⊥
TakenWhole (Some octets) (Some rest) = rest ≡ []
