-- The positions of the lines of a report (this project's profile).
use Rattle.std.specs.Prelude.{ℕ, zero, suc, Bool, true, false, List, length, if◌then◌else◌}
use Rattle.run_view.specs.declared.turn.Turn.{Turn}
use Rattle.run_view.specs.Items.{Item, firsts, seconds, frames_of, owed_of}

-- lines of the second engine are to come
abbrev pub waits : (owed : ℕ) → Bool
waits zero = false
waits (suc n) = true

-- the position of a line: the numbers of lines of the second engine that are to come before it, and
-- of lines of both engines and of frames that precede it
abbrev pub turn_at : (owed firsts seconds frames : ℕ) → Turn
turn_at owed firsts seconds frames = record { second = waits owed; done = if waits owed then seconds else firsts; frames = frames }

-- the position of the next line after these
abbrev pub turn_of : List Item → Turn
turn_of items = turn_at (owed_of items) (length (firsts items)) (length (seconds items)) (length (frames_of items))
