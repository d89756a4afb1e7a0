-- Laws of the definitions of an input.
use Rattle.std.specs.Prelude.{◌≡◌, ◌⊎◌, ◌≤◌, ℕ, false, List, length, Option, Some}
use Rattle.pcap_file.specs.declared.head.Head.{Head}
use Rattle.pcap_file.specs.Records.{Packet}
use Rattle.capture_input.specs.declared.fault.InputFault.{InputFault}
use Rattle.capture_input.specs.Faults.{is_read_fault}
use Rattle.capture_input.specs.Inputs.{Walk, packets_in, place_behind, EndsAtNewest, BeginsWith, IsInput, FailsAt, EndsWell, EndsBadly, Took, TookAll, TakenWhole, HasFaultAt}
use Rattle.capture_input.specs.RecordReading.{StopsInHead, StopsAt}

-- Octets that are an input have one head and one list of records.
abbrev pub InputIsOne : Type 0
InputIsOne =
    (inside : Option (List ℕ)) (octets : List ℕ) (head other : Head) (packets others : List Packet)
    → IsInput inside octets head packets → IsInput inside octets other others → (head ≡ other) × (packets ≡ others)

-- Octets begin in one way with a given number of records and nothing after the newest of them or,
-- if there is none, after the head.
abbrev pub BeginningIsOne : Type 0
BeginningIsOne =
    (inside : Option (List ℕ)) (octets : List ℕ) (head other : Head) (walk farther : Walk) (rest left : List ℕ)
    → BeginsWith inside octets head walk rest → BeginsWith inside octets other farther left → EndsAtNewest walk → EndsAtNewest farther
    → length (packets_in walk) ≡ length (packets_in farther) → (head ≡ other) × (walk ≡ farther) × (rest ≡ left)

-- Octets have at most one first fault, at one offset.
abbrev pub FaultIsOne : Type 0
FaultIsOne =
    (inside : Option (List ℕ)) (octets : List ℕ) (fault other : InputFault) (offset place : ℕ)
    → FailsAt inside octets fault offset → FailsAt inside octets other place → (fault ≡ other) × (offset ≡ place)

-- Octets that are an input have no fault.
abbrev pub FaultExcludesEnd : Type 0
FaultExcludesEnd =
    (inside : Option (List ℕ)) (octets : List ℕ) (head : Head) (packets : List Packet) (fault : InputFault) (offset : ℕ)
    → IsInput inside octets head packets → FailsAt inside octets fault offset → ⊥

-- All octets are an input or have a first fault.
abbrev pub EachInputEnds : Type 0
EachInputEnds = (inside : Option (List ℕ)) (octets : List ℕ) → EndsWell inside octets ⊎ EndsBadly inside octets

-- A fault at which opening an input fails is the first fault of the known octets of the source,
-- unless the source failed.
abbrev pub HeadStopsAreFaults : Type 0
HeadStopsAreFaults =
    (inside old new : Option (List ℕ)) (fault : InputFault) (offset : ℕ) → is_read_fault fault ≡ false → StopsInHead inside old new fault offset → HasFaultAt inside old fault offset

-- A fault at which reading fails after the entries read is the first fault of the known octets of
-- the source, unless the source failed.
abbrev pub StopsAreFaults : Type 0
StopsAreFaults =
    (inside old between new : Option (List ℕ)) (head : Head) (walk : Walk) (fault : InputFault) → is_read_fault fault ≡ false
    → Took inside old between head walk → StopsAt inside head walk between new fault → HasFaultAt inside old fault (place_behind walk)

-- Octets that are an input begin with no more records than it has.
abbrev pub InputHasAll : Type 0
InputHasAll =
    (inside : Option (List ℕ)) (octets : List ℕ) (head other : Head) (packets : List Packet) (walk : Walk) (rest : List ℕ)
    → IsInput inside octets head packets → BeginsWith inside octets other walk rest → length (packets_in walk) ≤ length packets

-- If opening an input fails, and the source did not fail, the known octets of the source do not
-- begin with an accepted head.
abbrev pub HeadStopsLeaveNone : Type 0
HeadStopsLeaveNone =
    (inside new : Option (List ℕ)) (octets : List ℕ) (fault : InputFault) (offset : ℕ) (head : Head) (walk : Walk) (rest : List ℕ) → is_read_fault fault ≡ false
    → StopsInHead inside (Some octets) new fault offset → BeginsWith inside octets head walk rest → ⊥

-- If reading fails after the entries read, and the source did not fail, the known octets of the
-- source begin with no more records than were read.
abbrev pub StopsLeaveNone : Type 0
StopsLeaveNone =
    (inside between new : Option (List ℕ)) (octets : List ℕ) (fault : InputFault) (head other : Head) (walk farther : Walk) (rest : List ℕ) → is_read_fault fault ≡ false
    → Took inside (Some octets) between head walk → StopsAt inside head walk between new fault → BeginsWith inside octets other farther rest
    → length (packets_in farther) ≤ length (packets_in walk)

-- Octets that were read to their end are an input.
abbrev pub WholeIsInput : Type 0
WholeIsInput =
    (inside old between new : Option (List ℕ)) (head : Head) (walk farther : Walk) → Took inside old between head walk → TakenWhole between new → Took inside old new head farther
    → TookAll inside old head (packets_in farther) × TakenWhole old new
