-- What differs between a record and a frame that was written for it: the fields in which they say
-- something else, in order, with what both say. A frame that norm made itself is not compared: it
-- has its own change.
use Rattle.std.specs.Prelude.{ℕ, suc, ◌+◌, ◌-◌, ◌^◌, ◌%◌, ◌==◌, nat_le, Bool, true, false, List, [], ◌∷◌, map, length, take, drop, Option, if◌then◌else◌}
use Rattle.std.specs.List.{flat_map}
use Rattle.std.specs.Str.{bytes_eq}
use Rattle.wire_base.specs.declared.address.Link.{Link}
use Rattle.frame_view.specs.Flows.{flow_in, length_in}
use Rattle.frame_view.specs.FrameParts.{payload_of}
use Rattle.frame_view.specs.Readings.{fields, has_octets, reading}
use Rattle.frame_view.specs.declared.change.Change.{Change}
use Rattle.frame_view.specs.declared.change.Change.TheVariants.{InField, InPayload, Made as MadeFrame}
use Rattle.frame_view.specs.declared.change.Made.{Made}
use Rattle.frame_view.specs.declared.change.PayloadChange.{PayloadChange}
use Rattle.frame_view.specs.declared.change.Replaced.{Replaced}
use Rattle.frame_view.specs.declared.change.Said.{Said}
use Rattle.frame_view.specs.declared.change.Said.TheVariants.{Nothing, Number, Octets}
use Rattle.frame_view.specs.declared.field.Field.{Field}
use Rattle.frame_view.specs.declared.field.Field.TheVariants.{Sequence, Payload}
use Rattle.frame_view.specs.declared.flow.Flow.{Flow}

-- what a frame says in a field: nothing, a number, or octets
pub data PlainSaid : Type 0 where
  says_nothing : PlainSaid
  says_number : ℕ → PlainSaid
  says_octets : List ℕ → PlainSaid

-- a run of octets that were replaced by as many others: the offset of the first, and both
pub record PlainReplaced : Type 0 where
  pub at : ℕ
  pub from : List ℕ
  pub to : List ℕ

-- what differs in a payload: the octets cut off at its front and at its end, those after its end,
-- and those replaced
pub record PlainPayload : Type 0 where
  pub front : List ℕ
  pub end : List ℕ
  pub longer : List ℕ
  pub replaced : List PlainReplaced

-- What differs in one field: the number of the frame, and both values; the payload has its own
-- form. Or what a frame is that norm made itself: its number and kind, what its headers say, and
-- the number of octets of its payload.
pub data PlainChange : Type 0 where
  in_field : (frame : ℕ) → Field → (from to : PlainSaid) → PlainChange
  in_payload : (frame : ℕ) → PlainPayload → PlainChange
  in_made : (frame : ℕ) → Made → Option Flow → (octets : ℕ) → PlainChange

abbrev pub plain_said : Said → PlainSaid
plain_said Nothing = says_nothing
plain_said (Number n) = says_number n
plain_said (Octets octets) = says_octets octets.items

abbrev pub plain_replaced : Replaced → PlainReplaced
plain_replaced run = record { at = run.at; from = run.from.items; to = run.to.items }

abbrev pub plain_payload : PayloadChange → PlainPayload
plain_payload change =
    record { front = change.front.items; end = change.end.items; longer = change.longer.items; replaced = map plain_replaced change.replaced.items }

-- a change in which each collection is a list
abbrev pub plain : Change → PlainChange
plain (InField frame field from to) = in_field frame field (plain_said from) (plain_said to)
plain (InPayload frame change) = in_payload frame (plain_payload change)
plain (MadeFrame frame kind flow octets) = in_made frame kind flow octets

-- what a frame says in a field, by its reading
abbrev pub said : Field → (reading : List ℕ) → PlainSaid
said field [] = says_nothing
said field (first ∷ more) = if has_octets field then says_octets (first ∷ more) else says_number first

-- how many octets at the front of two lists differ
abbrev pub differing : List ℕ → List ℕ → ℕ
differing [] to = 0
differing (x ∷ from) [] = 0
differing (x ∷ from) (y ∷ to) = if x == y then 0 else suc (differing from to)

-- the runs of octets that differ; `at` is the offset of both fronts, and `inside` says that the
-- octets before them differ
abbrev pub runs : (inside : Bool) → (at : ℕ) → (from to : List ℕ) → List PlainReplaced
runs inside at [] to = []
runs inside at (x ∷ from) [] = []
runs inside at (x ∷ from) (y ∷ to) =
    if x == y then runs false (at + 1) from to
    else if inside then runs true (at + 1) from to
    else
    record {
      at = at;
      from = take (differing (x ∷ from) (y ∷ to)) (x ∷ from);
      to = take (differing (x ∷ from) (y ∷ to)) (y ∷ to);
    }
    ∷ runs true (at + 1) from to

-- a number, or 0 where it is above a limit
abbrev pub within : (limit : ℕ) → ℕ → ℕ
within limit n = if nat_le n limit then n else 0

-- how far the sequence number of a frame is ahead of the record's, modulo 2^32 (RFC 9293 section
-- 3.4), where both have one and it is at most a limit; else 0
abbrev pub ahead : (limit : ℕ) → (from to : List ℕ) → ℕ
ahead limit [] to = 0
ahead limit (first ∷ more) [] = 0
ahead limit (first ∷ more) (second ∷ others) = within limit ((second + 2 ^ 32 - first) % 2 ^ 32)

-- how many octets are cut off at the front of a record's payload
abbrev pub cut_at_front : Link → (octets frame : List ℕ) → ℕ
cut_at_front link octets frame = ahead (length (payload_of link octets)) (reading link Sequence octets) (reading link Sequence frame)

-- what differs in a payload that lacks this number of octets at the front
abbrev pub payload_change : (front : ℕ) → (from to : List ℕ) → PlainPayload
payload_change front from to =
    record {
      front = take front from;
      end = drop (length to) (drop front from);
      longer = drop (length (drop front from)) to;
      replaced = runs false front (drop front from) to;
    }

-- what differs in a field
abbrev pub change_in : Link → (number : ℕ) → (octets frame : List ℕ) → Field → PlainChange
change_in link number octets frame Payload =
    in_payload number (payload_change (cut_at_front link octets frame) (payload_of link octets) (payload_of link frame))
change_in link number octets frame field =
    in_field number field (said field (reading link field octets)) (said field (reading link field frame))

-- what differs in a field, where a record and a frame say something else in it
abbrev pub changes_in : Link → (number : ℕ) → (octets frame : List ℕ) → Field → List PlainChange
changes_in link number octets frame field =
    if bytes_eq (reading link field octets) (reading link field frame) then [] else change_in link number octets frame field ∷ []

-- what differs between a record and the frame of this number: the fields in which they say
-- something else, in order
abbrev pub changes_of : Link → (number : ℕ) → (octets frame : List ℕ) → List PlainChange
changes_of link number octets frame = flat_map (changes_in link number octets frame) fields

-- the change of a frame of this number and kind that norm made itself: what its headers say, and
-- how many octets its payload has
abbrev pub made_of : Link → (number : ℕ) → (frame : List ℕ) → Made → PlainChange
made_of link number frame kind = in_made number kind (flow_in link frame) (length_in link frame)
