-- The records of a connection (this project's profile): the first is a SYN, the second its SYN ACK,
-- and each later one is determined by its action.
use Rattle.std.specs.Prelude.{ℕ, ◌+◌, ◌-◌, ◌==◌, ◌&&◌, ◌||◌, nat_lt, nat_le, Bool, List, [], ◌∷◌, if◌then◌else◌}
use Rattle.load_make.specs.declared.flow.Flow.{Flow}
use Rattle.load_make.specs.declared.flow.Flow.TheVariants.{New, Called, Open}
use Rattle.load_make.specs.declared.flow.Stream.{Stream}
use Rattle.load_make.specs.declared.flow.Turn.{Turn}
use Rattle.load_make.specs.declared.flow.Turn.TheVariants.{Call, Answer, Octets, Changed, Acknowledged}

-- new octets are sent: the action is 0 to 3, and with them at most 32,768 octets are not
-- acknowledged
abbrev pub is_new : (action : ℕ) → Stream → Bool
is_new action s = nat_lt action 4 && nat_le (s.sent - s.acked + 512) 32768

-- the last 512 octets are retransmitted: the action is 4, and they are not acknowledged
abbrev pub is_again : (action : ℕ) → Stream → Bool
is_again action s = (action == 4) && nat_le 512 (s.sent - s.acked)

-- the same with another first octet: the action is 5
abbrev pub is_changed : (action : ℕ) → Stream → Bool
is_changed action s = (action == 5) && nat_le 512 (s.sent - s.acked)

-- the kind of a record after the first two
abbrev pub later_turn : (action : ℕ) → Stream → Turn
later_turn action s =
    if is_new action s then Octets s.sent
    else if is_again action s then Octets (s.sent - 512)
    else if is_changed action s then Changed (s.sent - 512)
    else Acknowledged s.sent

-- the state of the stream after it: only new octets count as sent, and only an acknowledgment
-- acknowledges, namely all octets sent
abbrev pub stream_behind : (action : ℕ) → Stream → Stream
stream_behind action s =
    if is_new action s then record s { sent = s.sent + 512 }
    else if is_again action s || is_changed action s then s
    else record s { acked = s.sent }

-- the state of the stream after the records with these actions, the newest first: the first two
-- have no payload
abbrev pub stream_after : List ℕ → Stream
stream_after [] = record { sent = 0; acked = 0 }
stream_after (action ∷ []) = record { sent = 0; acked = 0 }
stream_after (action ∷ first ∷ []) = record { sent = 0; acked = 0 }
stream_after (action ∷ before ∷ again ∷ earlier) = stream_behind action (stream_after (before ∷ again ∷ earlier))

-- the state of a connection after the records with these actions, the newest first: New after none,
-- Called after one
abbrev pub flow_after : List ℕ → Flow
flow_after [] = New
flow_after (first ∷ []) = Called
flow_after (action ∷ before ∷ earlier) = Open (stream_after (action ∷ before ∷ earlier))

-- the kind of the next record of a connection
abbrev pub turn_of : (action : ℕ) → Flow → Turn
turn_of action New = Call
turn_of action Called = Answer
turn_of action (Open s) = later_turn action s
