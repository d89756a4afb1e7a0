-- Laws of the definitions of a pcapng file.
use Rattle.std.specs.Prelude.{◌≡◌, ◌⊎◌, ℕ, ◌+◌, List, ◌++◌, Option, Some, Ok}
use Rattle.wire_base.specs.declared.address.Link.{Link}
use Rattle.pcapng_file.specs.declared.fault.NgFault.{NgFault}
use Rattle.pcapng_file.specs.SectionState.{Sections}
use Rattle.pcapng_file.specs.Blocks.{Step, block_at}
use Rattle.pcapng_file.specs.Sections.{Walks, behind, packets_of, size_of, IsSections, FailsAt, EndsWell, EndsBadly}

-- Octets that are sections are one list of blocks.
abbrev pub SectionsAreOne : Type 0
SectionsAreOne = (inside : Option (List ℕ)) (octets : List ℕ) (steps others : List Step) → IsSections inside octets steps → IsSections inside octets others → steps ≡ others

-- Octets have at most one first fault, at one offset.
abbrev pub FaultIsOne : Type 0
FaultIsOne =
    (inside : Option (List ℕ)) (octets : List ℕ) (fault other : NgFault) (offset place : ℕ)
    → FailsAt inside octets fault offset → FailsAt inside octets other place → (fault ≡ other) × (offset ≡ place)

-- Octets that are sections have no fault.
abbrev pub FaultExcludesEnd : Type 0
FaultExcludesEnd =
    (inside : Option (List ℕ)) (octets : List ℕ) (steps : List Step) (fault : NgFault) (offset : ℕ)
    → IsSections inside octets steps → FailsAt inside octets fault offset → ⊥

-- All octets are sections or have a first fault.
abbrev pub EachFileEnds : Type 0
EachFileEnds = (inside : Option (List ℕ)) (octets : List ℕ) → EndsWell inside octets ⊎ EndsBadly inside octets

-- After the first interface the link of the file stays the same.
abbrev pub LinkStays : Type 0
LinkStays =
    (inside : Option (List ℕ)) (sections : Sections) (octets : List ℕ) (step : Step) (rest : List ℕ) → block_at inside sections octets ≡ Ok (Some (step, rest))
    → (link : Link) → sections.link ≡ Some link → step.after.link ≡ Some link

-- Blocks, and blocks after them, are one list of blocks.
pub record GoesOn (inside : Option (List ℕ)) (sections : Sections) (all rest : List ℕ) (steps newer : List Step) : Type 0 where
  pub walks : Walks inside sections all (newer ++ steps) rest
  pub after : behind sections (newer ++ steps) ≡ behind (behind sections steps) newer
  pub packets : packets_of (newer ++ steps) ≡ packets_of newer ++ packets_of steps
  pub size : size_of (newer ++ steps) ≡ size_of steps + size_of newer

abbrev pub WalksOn : Type 0
WalksOn =
    (inside : Option (List ℕ)) (sections : Sections) (all left rest : List ℕ) (steps newer : List Step)
    → Walks inside sections all steps left → Walks inside (behind sections steps) left newer rest → GoesOn inside sections all rest steps newer
