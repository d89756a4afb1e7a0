-- Bounds on the state of a connection, and its state after the next record (this project's
-- profile).
use Rattle.std.specs.Prelude.{ℕ, ◌≤◌}
use Rattle.load_make.specs.declared.flow.Flow.{Flow}
use Rattle.load_make.specs.declared.flow.Flow.TheVariants.{New, Called, Open}
use Rattle.load_make.specs.declared.flow.Turn.{Turn}
use Rattle.load_make.specs.declared.flow.Turn.TheVariants.{Call, Answer, Octets, Changed, Acknowledged}
use Rattle.load_make.specs.Flows.{stream_behind}

-- the state of a connection after its next record
abbrev pub flow_behind : (action : ℕ) → Flow → Flow
flow_behind action New = Called
flow_behind action Called = Open (record { sent = 0; acked = 0 })
flow_behind action (Open s) = Open (stream_behind action s)

-- no more octets are acknowledged than were sent, and at most `most` were sent
abbrev pub IsWithin : (most : ℕ) → Flow → Type 0
IsWithin most New = Unit {0}
IsWithin most Called = Unit {0}
IsWithin most (Open s) = (s.acked ≤ s.sent) × (s.sent ≤ most)

-- the offset of the record is at most `most`
abbrev pub BeginsWithin : (most : ℕ) → Turn → Type 0
BeginsWithin most Call = Unit {0}
BeginsWithin most Answer = Unit {0}
BeginsWithin most (Octets offset) = offset ≤ most
BeginsWithin most (Changed offset) = offset ≤ most
BeginsWithin most (Acknowledged offset) = offset ≤ most
