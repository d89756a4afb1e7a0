-- Laws of the definitions of a capture file.
use Rattle.std.specs.Prelude.{◌≡◌, ◌⊎◌, ℕ, ◌^◌, ◌<◌, ◌≤◌, List, ◌++◌, length, Some, None, Ok}
use Rattle.pcap_file.specs.declared.record.Order.{Order}
use Rattle.pcap_file.specs.declared.head.Head.{Head}
use Rattle.pcap_file.specs.Flaws.{Flaw}
use Rattle.pcap_file.specs.FileHead.{head_of, head_octets}
use Rattle.pcap_file.specs.Records.{Packet, front_of, record_octets}
use Rattle.pcap_file.specs.Capture.{IsCapture, FailsAt, EndsWell, EndsBadly}
use Rattle.wire_base.specs.declared.limits.TheConstants.{MAX_CAPTURED}

-- A written head is read as that head, in both orders and units and for both links, whatever octets
-- follow.
abbrev pub HeadIsReadBack : Type 0
HeadIsReadBack = (head : Head) (rest : List ℕ) → head_of (head_octets head ++ rest) ≡ Ok head

-- A written record is read as that record, with its own length as the original one and no side,
-- whatever octets follow.
abbrev pub RecordIsReadBack : Type 0
RecordIsReadBack =
    (order : Order) (count seconds fraction : ℕ) (octets rest : List ℕ) → count < 4294967295 → seconds < 2 ^ 32 → fraction < 2 ^ 32 → length octets ≤ MAX_CAPTURED
    → front_of order count (record_octets order seconds fraction octets ++ rest)
    ≡ Ok (Some (record { seconds = seconds; fraction = fraction; original = length octets; side = None; octets = octets }, rest))

-- Octets that are a capture have one head and one list of records.
abbrev pub CaptureIsOne : Type 0
CaptureIsOne =
    (octets : List ℕ) (head other : Head) (packets others : List Packet)
    → IsCapture octets head packets → IsCapture octets other others → (head ≡ other) × (packets ≡ others)

-- Octets have at most one first flaw, at one offset.
abbrev pub FlawIsOne : Type 0
FlawIsOne =
    (octets : List ℕ) (flaw other : Flaw) (offset place : ℕ)
    → FailsAt octets flaw offset → FailsAt octets other place → (flaw ≡ other) × (offset ≡ place)

-- Octets that are a capture have no flaw.
abbrev pub FlawExcludesEnd : Type 0
FlawExcludesEnd =
    (octets : List ℕ) (head : Head) (packets : List Packet) (flaw : Flaw) (offset : ℕ)
    → IsCapture octets head packets → FailsAt octets flaw offset → ⊥

-- Any octets are a capture or have a first flaw.
abbrev pub EachFileEnds : Type 0
EachFileEnds = (octets : List ℕ) → EndsWell octets ⊎ EndsBadly octets
