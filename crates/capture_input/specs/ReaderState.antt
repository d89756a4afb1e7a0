-- The state of a reader of an input (this project's profile).
use Rattle.std.specs.Prelude.{◌≡◌, ℕ, ◌≤◌, Bool, List, length, Option, None, IsSome}
use Rattle.pcap_file.specs.declared.head.Head.{Head}
use Rattle.pcap_file.specs.Records.{Packet}
use Rattle.pcap_file.specs.Capture.{offset_of}
use Rattle.pcap_file.specs.ReaderState.{Reading}
use Rattle.pcapng_file.specs.SectionState.{no_section}
use Rattle.pcapng_file.specs.Blocks.{Step}
use Rattle.pcapng_file.specs.Sections.{behind, size_of}
use Rattle.pcapng_file.specs.ReaderState.{NgReading, written_head}
use Rattle.capture_input.specs.declared.input.Input.{Input}
use Rattle.capture_input.specs.declared.input.Input.TheVariants.{Classic, Sections}
use Rattle.capture_input.specs.Inputs.{Walk, records, blocks}

-- the head of the file that is written from these records
abbrev pub head_in : Input → Head
head_in (Classic head reader) = head
head_in (Sections reader) = written_head reader.sections.link

-- the offset of the record or block read last
abbrev pub asked_in : Input → ℕ
asked_in (Classic head reader) = reader.asked
asked_in (Sections reader) = reader.asked

-- the offset of the next record or block
abbrev pub place_in : Input → ℕ
place_in (Classic head reader) = reader.place
place_in (Sections reader) = reader.place

-- whether the next record may be read
abbrev pub is_open_in : Input → Bool
is_open_in (Classic head reader) = reader.is_open
is_open_in (Sections reader) = reader.is_open

-- The reader of a classic file is after these records.
pub record BehindRecords (inside : Option (List ℕ)) (head : Head) (reader : Reading) (packets : List Packet) : Type 0 where
  pub unnamed : inside ≡ None
  pub same : reader.head ≡ head
  pub given : reader.given ≡ length packets
  pub place : reader.place ≡ offset_of packets

-- The reader of a pcapng file is after these blocks, an interface among them.
pub record BehindBlocks (inside : Option (List ℕ)) (reader : NgReading) (steps : List Step) : Type 0 where
  pub named : reader.inside ≡ inside
  pub sections : reader.sections ≡ behind no_section steps
  pub place : reader.place ≡ size_of steps
  pub linked : IsSome reader.sections.link
  pub counted : reader.sections.blocks ≡ length steps
  pub few : length steps ≤ 4294967295

-- The reader of the input is after these entries.
abbrev pub Behind : Input → (inside : Option (List ℕ)) → Walk → Type 0
Behind (Classic head reader) inside (records packets) = BehindRecords inside head reader packets
Behind (Sections reader) inside (blocks steps) = BehindBlocks inside reader steps
Behind (Classic head reader) inside (blocks steps) = ⊥
Behind (Sections reader) inside (records packets) = ⊥
