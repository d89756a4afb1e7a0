-- A pcapng file as a whole: a list of blocks, and the end or a first fault at an offset.
use Rattle.std.specs.Prelude.{◌≡◌, ℕ, ◌+◌, List, [], ◌∷◌, Option, Some, None, IsSome, Ok, Err}
use Rattle.pcap_file.specs.Records.{Packet}
use Rattle.pcapng_file.specs.declared.fault.NgFault.{NgFault}
use Rattle.pcapng_file.specs.SectionState.{Sections, no_section}
use Rattle.pcapng_file.specs.Blocks.{Step, block_at}

-- the state of the file after these blocks, the newest first
abbrev pub behind : Sections → List Step → Sections
behind sections [] = sections
behind sections (step ∷ older) = step.after

-- The octets `all` are these blocks, the newest first, and then `rest`.
abbrev pub Walks : (inside : Option (List ℕ)) → Sections → (all : List ℕ) → List Step → (rest : List ℕ) → Type 0
Walks inside sections all [] rest = all ≡ rest
Walks inside sections all (step ∷ older) rest =
    (left : List ℕ) × Walks inside sections all older left × (block_at inside (behind sections older) left ≡ Ok (Some (step, rest)))

-- the records with one more before them, if there is one
abbrev pub with_given : Option Packet → List Packet → List Packet
with_given None older = older
with_given (Some packet) older = packet ∷ older

-- the records of blocks, the newest first
abbrev pub packets_of : List Step → List Packet
packets_of [] = []
packets_of (step ∷ older) = with_given step.given (packets_of older)

-- the number of octets of blocks
abbrev pub size_of : List Step → ℕ
size_of [] = 0
size_of (step ∷ older) = size_of older + step.size

-- the number of octets of the blocks before the newest one
abbrev pub size_before : List Step → ℕ
size_before [] = 0
size_before (step ∷ older) = size_of older

-- Blocks end with the first interface block: a link is known after the newest one, and none after
-- the older ones.
abbrev pub EndsAtInterface : List Step → Type 0
EndsAtInterface [] = ⊥
EndsAtInterface (step ∷ older) = ((behind no_section older).link ≡ None) × IsSome step.after.link

-- The octets are these blocks, the newest first, and nothing else.
pub record IsSections (inside : Option (List ℕ)) (octets : List ℕ) (steps : List Step) : Type 0 where
  pub walks : Walks inside no_section octets steps []
  pub ends : block_at inside (behind no_section steps) [] ≡ Ok None

-- The octets are blocks, and after them this first fault, at this offset.
pub record FailsAt (inside : Option (List ℕ)) (octets : List ℕ) (fault : NgFault) (offset : ℕ) : Type 0 where
  pub steps : List Step
  pub rest : List ℕ
  pub walks : Walks inside no_section octets steps rest
  pub flawed : block_at inside (behind no_section steps) rest ≡ Err fault
  pub place : offset ≡ size_of steps

-- The octets are sections.
pub record EndsWell (inside : Option (List ℕ)) (octets : List ℕ) : Type 0 where
  pub steps : List Step
  pub is : IsSections inside octets steps

-- The octets have a first fault.
pub record EndsBadly (inside : Option (List ℕ)) (octets : List ℕ) : Type 0 where
  pub fault : NgFault
  pub offset : ℕ
  pub is : FailsAt inside octets fault offset
