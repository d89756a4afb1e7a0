-- What is asked of connections, call by call, and what became of it (this project's profile). Lists
-- of calls have the newest at the head.
use Rattle.std.specs.Prelude.{ℕ, ◌+◌, ◌==◌, ◌&&◌, max, not, Bool, true, false, List, [], ◌∷◌, ◌++◌, map, filter, Option, Some, None, is_some, find, if◌then◌else◌}
use Rattle.std.specs.List.{list_any}
use Rattle.wire_base.specs.declared.address.Side.{Side}
use Rattle.wire_base.specs.declared.address.Side.TheVariants.{Inward, Outward}
use Rattle.wire_base.specs.declared.address.FlowKey.{FlowKey}
use Rattle.wire_base.specs.Tcp as tcp
use Rattle.wire_base.specs.Options.{scale_of}
use Rattle.wire_base.specs.Segments.{Written}
use Rattle.ipv4_codec.specs.declared.header.Ipv4.{Ipv4}
use Rattle.ip_rules.specs.Datagrams.{Datagram, Packet, goes_in}
use Rattle.rule_book.specs.declared.rule.Rule.{Rule}
use Rattle.rule_book.specs.declared.entry.Ended.{Ended}
use Rattle.rule_book.specs.declared.entry.Verdict.{Verdict}
use Rattle.rule_book.specs.declared.entry.Verdict.TheVariants as verdicts

-- what became of a datagram: what its record's entry says, the eras that ended with it in their
-- order, and the packets that went out
pub record Outcome : Type 0 where
  pub verdict : Verdict
  pub rules : List Rule
  pub era : Option ℕ
  pub begun : Option ℕ
  pub ended : List Ended
  pub packets : List Packet

-- a call: at this time the eras that are idle end; or a datagram arrives
pub data Call : Type 0 where
  expiry : (now : ℕ) (ended : List ℕ) → Call
  datagram : (now : ℕ) (asked : Datagram) (outcome : Outcome) → Call

-- the segment of these octets, as one that is written to this side
abbrev pub read : (inward : Bool) → List ℕ → Written
read inward m =
    record {
      inward = inward;
      seq = tcp.sequence m;
      ack = tcp.acknowledgment m;
      flags = tcp.flags m;
      window = tcp.window m;
      scale = scale_of (tcp.options m);
      octets = tcp.payload m;
    }

-- the segment of a datagram
abbrev pub segment_in : Datagram → Written
segment_in d = read (goes_in d.side) d.octets

-- the four-tuple of a datagram to this side
abbrev pub key_at : Side → Ipv4 → List ℕ → FlowKey
key_at Inward head m = record { outside = head.src; outside_port = tcp.source_port m; inside = head.dst; inside_port = tcp.destination_port m }
key_at Outward head m = record { outside = head.dst; outside_port = tcp.destination_port m; inside = head.src; inside_port = tcp.source_port m }

abbrev pub key_of : Datagram → FlowKey
key_of d = key_at d.side d.head d.octets

-- the same four-tuple
abbrev pub is_key : FlowKey → FlowKey → Bool
is_key a b =
    (a.outside.0 == b.outside.0) && (a.outside_port == b.outside_port) && (a.inside.0 == b.inside.0) && (a.inside_port == b.inside_port)

-- the verdict is pass or fix
abbrev pub is_written : Verdict → Bool
is_written verdicts.Pass = true
is_written verdicts.Fix = true
is_written verdicts.Hold = false
is_written verdicts.Drop = false

-- the era that is named is this one
abbrev pub is_era : (era : ℕ) → Option ℕ → Bool
is_era era (Some named) = named == era
is_era era None = false

-- the number is among these
abbrev pub is_among : List ℕ → ℕ → Bool
is_among numbers number = list_any (λ other. other == number) numbers

-- the time of a call, in seconds
abbrev pub time_of : Call → ℕ
time_of (expiry now ended) = now
time_of (datagram now asked outcome) = now

-- the eras that ended with a call
abbrev pub ended_by : Call → List ℕ
ended_by (expiry now ended) = ended
ended_by (datagram now asked outcome) = map (λ e. e.era) outcome.ended

-- the segments that a call wrote in an era, in order
abbrev pub written_by : (era : ℕ) → Call → List Written
written_by era (expiry now ended) = []
written_by era (datagram now asked outcome) =
    if is_era era outcome.era && is_written outcome.verdict then map (λ p. read (goes_in asked.side) p.octets) outcome.packets else []

-- whether a call names an era: its record belongs to it
abbrev pub names : Call → (era : ℕ) → Bool
names (expiry now ended) era = false
names (datagram now asked outcome) era = is_era era outcome.era

-- how many eras a call begins
abbrev pub begins_by : Call → ℕ
begins_by (expiry now ended) = 0
begins_by (datagram now asked outcome) = if is_some outcome.begun then 1 else 0

-- the segments written in an era, to both sides, in order
abbrev pub segments : (era : ℕ) → List Call → List Written
segments era [] = []
segments era (c ∷ cs) = segments era cs ++ written_by era c

-- how many eras began
abbrev pub begun_in : List Call → ℕ
begun_in [] = 0
begun_in (c ∷ cs) = begun_in cs + begins_by c

-- number of datagrams that arrived
abbrev pub asks_by : Call → ℕ
asks_by (expiry now ended) = 0
asks_by (datagram now asked outcome) = 1

abbrev pub asked_in : List Call → ℕ
asked_in [] = 0
asked_in (c ∷ cs) = asked_in cs + asks_by c

-- the greatest time
abbrev pub latest : List Call → ℕ
latest [] = 0
latest (c ∷ cs) = max (latest cs) (time_of c)

-- an era that is live: its number, its four-tuple, and the time of the call that wrote last in it
pub record Alive : Type 0 where
  pub number : ℕ
  pub key : FlowKey
  pub touched : ℕ

-- the era in which a call wrote, as it is then
abbrev pub alive_at : (now : ℕ) → FlowKey → Option ℕ → List Alive
alive_at now key None = []
alive_at now key (Some era) = record { number = era; key = key; touched = now } ∷ []

abbrev pub touched_by : Call → List Alive
touched_by (expiry now ended) = []
touched_by (datagram now asked outcome) = if is_written outcome.verdict then alive_at now (key_of asked) outcome.era else []

-- these without those of these numbers
abbrev pub without : List ℕ → List Alive → List Alive
without numbers eras = filter (λ a. not (is_among numbers a.number)) eras

-- the numbers of these
abbrev pub numbers_of : List Alive → List ℕ
numbers_of eras = map (λ a. a.number) eras

-- The live eras, the least recently touched first. An era is live from the call that begins it,
-- which writes in it, to the one that ends it, and a call that writes in it touches it.
abbrev pub eras : List Call → List Alive
eras [] = []
eras (c ∷ cs) = without (ended_by c) (without (numbers_of (touched_by c)) (eras cs) ++ touched_by c)

-- Live: the live era of a four-tuple, if there is one
abbrev pub live : List Call → FlowKey → Option Alive
live cs key = find (λ a. is_key a.key key) (eras cs)
