-- The effect of reading the next record on the known octets of a source (this project's profile).
use Rattle.std.specs.Prelude.{◌≡◌, ℕ, ◌+◌, ◌<◌, ◌≤◌, max, Bool, true, false, List, [], ◌∷◌, ◌++◌, length, Option, Some, None, Result, Ok, Err}
use Rattle.std.specs.Io.KnownBytes.{Consumes, IsAtEnd}
use Rattle.pcap_file.specs.declared.record.Record.{Record}
use Rattle.pcap_file.specs.Records.{Packet}
use Rattle.pcap_file.specs.RecordReading.{shown}
use Rattle.pcapng_file.specs.declared.fault.NgFault.{NgFault}
use Rattle.pcapng_file.specs.declared.fault.NgFault.TheVariants as faults
use Rattle.pcapng_file.specs.declared.fault.OpenFault.{OpenFault}
use Rattle.pcapng_file.specs.SectionState.{Sections, no_section}
use Rattle.pcapng_file.specs.Blocks.{Step, order_at, size_at, block_at}
use Rattle.pcapng_file.specs.Sections.{Walks, behind, packets_of, size_of, size_before, EndsAtInterface}
use Rattle.pcapng_file.specs.ReaderState.{NgReading, first_reading}

-- No octet was left, and the octets are sections up to here.
pub record EndsHere (inside : Option (List ℕ)) (sections : Sections) (old new : Option (List ℕ)) : Type 0 where
  pub taken : Consumes old new []
  pub end : IsAtEnd new
  pub ends : block_at inside sections [] ≡ Ok None

-- All octets left were taken, and they are cut short.
pub record IsCut (inside : Option (List ℕ)) (sections : Sections) (old new : Option (List ℕ)) : Type 0 where
  pub octets : List ℕ
  pub taken : Consumes old new octets
  pub end : IsAtEnd new
  pub flawed : block_at inside sections octets ≡ Err faults.Cut

-- the maximum number of octets taken of the block at the front: its first twelve, or all of it
abbrev pub most_of : Sections → List ℕ → ℕ
most_of sections octets = max 12 (size_at (order_at sections.order octets) octets)

-- Octets of one block were taken, and it has this fault, whatever octets follow.
pub record IsFaulty (inside : Option (List ℕ)) (sections : Sections) (old new : Option (List ℕ)) (fault : NgFault) : Type 0 where
  pub octets : List ℕ
  pub taken : Consumes old new octets
  pub within : length octets ≤ most_of sections octets
  pub flawed : (rest : List ℕ) → block_at inside sections (octets ++ rest) ≡ Err fault

-- Octets of one block were taken, but not all: fewer than twelve, or fewer than its size.
pub record TakesPart (sections : Sections) (old new : Option (List ℕ)) : Type 0 where
  pub octets : List ℕ
  pub taken : Consumes old new octets
  pub fewer : length octets < most_of sections octets

-- the fault of the block at the front, and the octets taken of it
abbrev pub Stops : (inside : Option (List ℕ)) → Sections → (old new : Option (List ℕ)) → NgFault → Type 0
Stops inside sections old new faults.Cut = IsCut inside sections old new
Stops inside sections old new faults.ReadFault = TakesPart sections old new
Stops inside sections old new fault = IsFaulty inside sections old new fault

-- The octets taken are these blocks, the newest first, whatever octets follow.
pub record TakesSteps (inside : Option (List ℕ)) (sections : Sections) (old new : Option (List ℕ)) (steps : List Step) : Type 0 where
  pub octets : List ℕ
  pub taken : Consumes old new octets
  pub walks : (rest : List ℕ) → Walks inside sections (octets ++ rest) steps rest

-- The reader moved past these blocks, the newest first; `asked` is the offset of the block read
-- last.
pub record Moves (old new : NgReading) (steps : List Step) (asked : ℕ) (is_open : Bool) : Type 0 where
  pub inside : new.inside ≡ old.inside
  pub sections : new.sections ≡ behind old.sections steps
  pub place : new.place ≡ old.place + size_of steps
  pub looked : new.asked ≡ asked
  pub goes_on : new.is_open ≡ is_open

-- the fault alone, without its offset
abbrev pub only_fault : {T : Type 0} → Result T OpenFault → Result T NgFault
only_fault (Ok value) = Ok value
only_fault (Err stop) = Err stop.fault

-- Blocks without a record were skipped, and the packet block after them was taken: its record is
-- `packet`.
pub record TakesPacket (old new : NgReading) (before after : Option (List ℕ)) (packet : Packet) : Type 0 where
  pub step : Step
  pub older : List Step
  pub steps : TakesSteps old.inside old.sections before after (step ∷ older)
  pub silent : packets_of older ≡ []
  pub given : step.given ≡ Some packet
  pub moves : Moves old new (step ∷ older) (old.place + size_of older) true

-- Blocks without a record were skipped.
pub record PassesOver (old : NgReading) (before after : Option (List ℕ)) (steps : List Step) : Type 0 where
  pub taken : TakesSteps old.inside old.sections before after steps
  pub silent : packets_of steps ≡ []

-- Blocks without a record were skipped, and `P` holds for the state after them.
pub record HaltsBehind (old new : NgReading) (before after : Option (List ℕ)) (P : Sections → Option (List ℕ) → Type 0) : Type 0 where
  pub steps : List Step
  pub between : Option (List ℕ)
  pub passed : PassesOver old before between steps
  pub moves : Moves old new steps (old.place + size_of steps) false
  pub why : P (behind old.sections steps) between

-- the next record was read, or the end was reached, or this is the fault
abbrev pub Reads : (old new : NgReading) → (before after : Option (List ℕ)) → Result (Option Record) NgFault → Type 0
Reads old new before after (Ok None) = HaltsBehind old new before after (λ sections between. EndsHere old.inside sections between after)
Reads old new before after (Ok (Some given)) = TakesPacket old new before after (shown given)
Reads old new before after (Err fault) = HaltsBehind old new before after (λ sections between. Stops old.inside sections between after fault)

-- a fact of the record, if one was returned
abbrev pub IfPacket : Result (Option Record) NgFault → (Record → Type 0) → Type 0
IfPacket (Ok (Some given)) P = P given
IfPacket (Ok None) P = Unit {0}
IfPacket (Err fault) P = Unit {0}

-- The octets up to the end of the first interface block were taken, and none after them; the blocks
-- among them have no record.
pub record OpensAt (inside old new : Option (List ℕ)) (reading : NgReading) : Type 0 where
  pub steps : List Step
  pub taken : TakesSteps inside no_section old new steps
  pub silent : packets_of steps ≡ []
  pub ends : EndsAtInterface steps
  pub moves : Moves (first_reading inside) reading steps (size_before steps) true

-- Blocks without an interface were skipped, and the block after them, at this offset, has this
-- fault, or the source failed in it.
pub record FailsAhead (inside old new : Option (List ℕ)) (fault : NgFault) (offset : ℕ) : Type 0 where
  pub steps : List Step
  pub between : Option (List ℕ)
  pub taken : TakesSteps inside no_section old between steps
  pub unlinked : (behind no_section steps).link ≡ None
  pub stops : Stops inside (behind no_section steps) between new fault
  pub place : offset ≡ size_of steps

-- the same at some offset
pub record FailsSomewhereAhead (inside old new : Option (List ℕ)) (fault : NgFault) : Type 0 where
  pub offset : ℕ
  pub fails : FailsAhead inside old new fault offset

-- the first interface was read, or a block up to it has this fault
abbrev pub Opens : (inside old new : Option (List ℕ)) → Result NgReading NgFault → Type 0
Opens inside old new (Ok reader) = OpensAt inside old new reader
Opens inside old new (Err fault) = FailsSomewhereAhead inside old new fault

-- the same, and the offset of the block that has the fault
abbrev pub OpensBehind : (inside old new : Option (List ℕ)) → Result NgReading OpenFault → Type 0
OpensBehind inside old new (Ok reader) = OpensAt inside old new reader
OpensBehind inside old new (Err stop) = FailsAhead inside old new stop.fault stop.offset
