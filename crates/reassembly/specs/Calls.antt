-- The calls of an assembly and their answers (this project's profile). Lists of calls have the
-- newest at the head.
use Rattle.std.specs.Prelude.{ℕ, ◌+◌, ◌==◌, ◌&&◌, nat_lt, max, not, Bool, true, false, List, [], ◌∷◌, filter, if◌then◌else◌}
use Rattle.std.specs.List.{sum_by}
use Rattle.rule_book.specs.declared.rule.Rule.{Rule}
use Rattle.rule_book.specs.declared.rule.Rule.TheVariants.{FEnd, FClash}
use Rattle.reassembly.specs.declared.id.DatagramId.{DatagramId}
use Rattle.reassembly.specs.DatagramFragments.{Fragment, cells_of}

-- the answer to a fragment: it was held, it completed its datagram, or it was dropped under a rule
pub data Answer : Type 0 where
  held : Answer
  done : Answer
  dropped : (rule : Rule) → Answer

-- a call: old datagrams are removed by this time; or a fragment arrives at this time
pub data Call : Type 0 where
  expiry : (now : ℕ) → Call
  offer : (now : ℕ) (came : Fragment) (answer : Answer) → Call

-- a datagram with held fragments: its identification, the arrival time of the first one, and the
-- fragments
pub record Gathered : Type 0 where
  pub id : DatagramId
  pub since : ℕ
  pub pieces : List Fragment

-- fragments of the same datagram
abbrev pub is_id : DatagramId → DatagramId → Bool
is_id a b = (a.src.0 == b.src.0) && (a.dst.0 == b.dst.0) && (a.protocol == b.protocol) && (a.ident == b.ident)

-- the datagrams except this one
abbrev pub of_others : DatagramId → List Gathered → List Gathered
of_others id gs = filter (λ g. not (is_id g.id id)) gs

-- the fragments of this datagram
abbrev pub pieces_in : List Gathered → DatagramId → List Fragment
pieces_in [] id = []
pieces_in (g ∷ gs) id = if is_id g.id id then g.pieces else pieces_in gs id

-- the datagrams after the fragment joins those of its own; if there are none, its datagram is added
-- last
abbrev pub with_piece : (now : ℕ) → Fragment → List Gathered → List Gathered
with_piece now p [] = record { id = p.id; since = now; pieces = p ∷ [] } ∷ []
with_piece now p (g ∷ gs) = if is_id g.id p.id then record g { pieces = p ∷ g.pieces } ∷ gs else g ∷ with_piece now p gs

-- the rules that drop the fragment and remove its datagram too
abbrev pub forgets : Rule → Bool
forgets FEnd = true
forgets FClash = true
forgets rule = false

-- the datagrams after a fragment, by the answer to it
abbrev pub after : (now : ℕ) → Fragment → Answer → List Gathered → List Gathered
after now p held gs = with_piece now p gs
after now p done gs = of_others p.id gs
after now p (dropped rule) gs = if forgets rule then of_others p.id gs else gs

-- its first fragment arrived more than `time` seconds before `now`
abbrev pub is_old : (time now : ℕ) → Gathered → Bool
is_old time now g = nat_lt (g.since + time) now

-- The datagrams with held fragments, in order of their first fragments, each with the fragments
-- held since it was last removed or completed. A datagram is removed more than `time` seconds after
-- its first fragment.
abbrev pub gathered : (time : ℕ) → List Call → List Gathered
gathered time [] = []
gathered time (expiry now ∷ cs) = filter (λ g. not (is_old time now g)) (gathered time cs)
gathered time (offer now p answer ∷ cs) = after now p answer (gathered time cs)

-- the number of cells that they take
abbrev pub cells_in : List Gathered → ℕ
cells_in gs = sum_by (λ g. cells_of g.pieces) gs

-- the time of a call, in seconds
abbrev pub time_of : Call → ℕ
time_of (expiry now) = now
time_of (offer now p answer) = now

-- the greatest time
abbrev pub latest : List Call → ℕ
latest [] = 0
latest (c ∷ cs) = max (latest cs) (time_of c)
