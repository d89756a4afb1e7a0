-- What reading the next record does to the known octets of a source. None means that it has no
-- known octets; then nothing is claimed of them.
use Rattle.std.specs.Prelude.{◌≡◌, ℕ, ◌+◌, ◌^◌, ◌<◌, ◌≤◌, List, [], length, Option, Some, None, Result, Ok, Err, Bool, true, false}
use Rattle.std.specs.Io.KnownBytes.{Consumes}
use Rattle.pcap_file.specs.declared.record.Order.{Order}
use Rattle.pcap_file.specs.declared.record.Record.{Record}
use Rattle.pcap_file.specs.declared.reader.RecordFault.{RecordFault}
use Rattle.pcap_file.specs.declared.reader.RecordFault.TheVariants as faults
use Rattle.pcap_file.specs.Flaws.{Flaw, cut_short, too_long, too_many}
use Rattle.pcap_file.specs.Records.{Packet, front_of, captured}
use Rattle.pcap_file.specs.ReaderState.{Reading}
use Rattle.wire_base.specs.declared.limits.TheConstants.{MAX_CAPTURED}

-- the value of a record in memory
abbrev pub shown : Record → Packet
shown r = record { seconds = r.seconds; fraction = r.fraction; original = r.original; side = r.side; octets = r.bytes.now }

-- the octets left began with this record, and exactly its octets were taken
abbrev pub Leaves : Order → (count : ℕ) → Option (List ℕ) → Option (List ℕ) → Packet → Type 0
Leaves order count None new packet = Unit {0}
Leaves order count (Some xs) None packet = ⊥
Leaves order count (Some xs) (Some ys) packet = front_of order count xs ≡ Ok (Some (packet, ys))

-- no octet was left, and none was taken
abbrev pub HasEnd : Option (List ℕ) → Option (List ℕ) → Type 0
HasEnd None new = Unit {0}
HasEnd (Some xs) None = ⊥
HasEnd (Some xs) (Some ys) = (xs ≡ []) × (ys ≡ [])

-- the octets left began with this flaw
abbrev pub HasFlaw : Order → (count : ℕ) → Option (List ℕ) → Flaw → Type 0
HasFlaw order count None flaw = Unit {0}
HasFlaw order count (Some xs) flaw = front_of order count xs ≡ Err flaw

-- Octets of at most one record were taken: its head of 16, and the number of octets that the head
-- gives as captured length.
pub record TakesAtMost (order : Order) (old new : Option (List ℕ)) : Type 0 where
  pub octets : List ℕ
  pub taken : Consumes old new octets
  pub within : length octets ≤ 16 + captured order octets

-- The octets left began with this flaw, and octets of at most that record were taken.
pub record StopsAt (order : Order) (count : ℕ) (old new : Option (List ℕ)) (flaw : Flaw) : Type 0 where
  pub flawed : HasFlaw order count old flaw
  pub part : TakesAtMost order old new

-- A part of one record was taken: fewer octets than its head of 16 and its captured length.
pub record TakesPart (order : Order) (old new : Option (List ℕ)) : Type 0 where
  pub octets : List ℕ
  pub taken : Consumes old new octets
  pub fewer : length octets < 16 + captured order octets

-- `next` fails with this fault, and these octets were taken
abbrev pub FailsWith : Order → (count : ℕ) → Option (List ℕ) → Option (List ℕ) → RecordFault → Type 0
FailsWith order count old new faults.Cut = StopsAt order count old new cut_short
FailsWith order count old new faults.Long = StopsAt order count old new too_long
FailsWith order count old new faults.TooMany = StopsAt order count old new too_many
FailsWith order count old new faults.ReadFault = TakesPart order old new

-- After `count` records the next one was read, or there is none, or reading it fails.
abbrev pub Reads : Order → (count : ℕ) → Option (List ℕ) → Option (List ℕ) → Result (Option Record) RecordFault → Type 0
Reads order count old new (Ok None) = HasEnd old new
Reads order count old new (Ok (Some r)) = Leaves order count old new (shown r)
Reads order count old new (Err fault) = FailsWith order count old new fault

-- The count of faults is unchanged unless the source fails.
abbrev pub KeepsCount : Result (Option Record) RecordFault → (before now : ℕ) → Type 0
KeepsCount (Ok given) before now = now ≡ before
KeepsCount (Err faults.Cut) before now = now ≡ before
KeepsCount (Err faults.Long) before now = now ≡ before
KeepsCount (Err faults.TooMany) before now = now ≡ before
KeepsCount (Err faults.ReadFault) before now = Unit {0}

-- a record was returned
abbrev pub is_record : Result (Option Record) RecordFault → Bool
is_record (Ok (Some r)) = true
is_record (Ok None) = false
is_record (Err fault) = false

-- a fact of the record, if one was returned
abbrev pub IfRecord : Result (Option Record) RecordFault → (Record → Type 0) → Type 0
IfRecord (Ok (Some r)) P = P r
IfRecord (Ok None) P = Unit {0}
IfRecord (Err fault) P = Unit {0}

-- a fact that holds if no record was returned
abbrev pub IfNoRecord : Result (Option Record) RecordFault → Type 0 → Type 0
IfNoRecord (Ok (Some r)) P = Unit {0}
IfNoRecord (Ok None) P = P
IfNoRecord (Err fault) P = P

-- The reader has read one more record, of this captured length.
pub record Advances (old new : Reading) (size : ℕ) : Type 0 where
  pub given : new.given ≡ old.given + 1
  pub place : new.place ≡ old.place + 16 + size
  pub small : size ≤ MAX_CAPTURED
  pub few : new.given < 2 ^ 32

-- The reader has read the same records.
pub record Stays (old new : Reading) : Type 0 where
  pub given : new.given ≡ old.given
  pub place : new.place ≡ old.place
