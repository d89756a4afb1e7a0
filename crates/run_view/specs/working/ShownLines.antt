-- What a line adds to what is shown of its record, by values of the code (this project's profile).
use Rattle.std.specs.Prelude.{◌≡◌, ℕ, ◌==◌, ◌&&◌, not, ◌++◌, ◌∷◌, Bool, true, false, List, [], map, Option, Some, None, if◌then◌else◌}
use Rattle.edge_io.specs.FaultCounts.{next_count}
use Rattle.wire_base.specs.declared.address.Link.{Link}
use Rattle.frame_view.specs.Changes as changes
use Rattle.rule_book.specs.Entries.{PlainEntry, plain}
use Rattle.view_text.specs.PlainLines.{PlainLine, plain_line}
use Rattle.run_view.specs.ChosenRecords.{either, chooses_records, meets_all, meets_record, met_by}
use Rattle.run_view.specs.ShownEvents.{Event, of_record}
use Rattle.run_view.specs.Items.{flow_at, length_at, type_without}
use Rattle.run_view.specs.working.LinePositions.{waits}
use Rattle.run_view.specs.declared.chosen.Meets.{Meets}
use Rattle.run_view.specs.declared.item.Gathered.{Gathered}
use Rattle.run_view.specs.declared.show.Printing.{Printing}
use Rattle.run_view.specs.declared.show.Shown.{Shown}
use Rattle.run_view.specs.declared.words.Asked.{Asked}

-- what a line is shown of, over plain values; this number of frames precedes its own
pub record PlainShown : Type 0 where
  pub second : Bool
  pub given : Bool
  pub number : ℕ
  pub time : ℕ
  pub link : Link
  pub octets : List ℕ
  pub entry : PlainEntry
  pub before : ℕ

abbrev pub plain_shown : Shown → PlainShown
plain_shown shown =
    record {
      second = shown.second;
      given = shown.given;
      number = shown.number;
      time = shown.time;
      link = shown.link;
      octets = shown.octets.now;
      entry = plain shown.entry.now;
      before = shown.before;
    }

-- what is shown of a line
abbrev pub line_of_shown : PlainShown → Gathered → PlainLine
line_of_shown shown gathered =
    record {
      number = shown.number;
      second = shown.second;
      own = shown.entry.number;
      time = shown.time;
      flow = flow_at shown.link shown.octets;
      ethertype = type_without (flow_at shown.link shown.octets) shown.link shown.octets;
      length = length_at shown.link shown.octets;
      entry = shown.entry;
      given = shown.given;
      before = shown.before;
      changes = map changes.plain gathered.changes.items;
    }

-- which conditions the lines of a record meet: those before, of which there are none where the line
-- is one of the first engine, and this one
abbrev pub met_shown : Asked → PlainShown → (before : Meets) → Meets
met_shown asked shown before =
    if shown.second then either before (met_by asked shown.second shown.entry (flow_at shown.link shown.octets))
    else met_by asked shown.second shown.entry (flow_at shown.link shown.octets)

-- these lines with one more; a line of the first engine begins a record
abbrev pub lines_with : (second : Bool) → (before : List PlainLine) → PlainLine → List PlainLine
lines_with second before line = (if second then before else []) ++ line ∷ []

-- the line is the last of its record, and this is chosen
abbrev pub is_last_of_chosen : Asked → (owed : ℕ) → Meets → Bool
is_last_of_chosen asked owed met = (owed == 0) && (chooses_records asked && meets_all met)

-- a record whose lines meet this may be chosen, where this number of others is to come
abbrev pub may_be_chosen : (owed : ℕ) → Meets → Bool
may_be_chosen owed met = if owed == 0 then meets_all met else meets_record met

-- the record that is due
abbrev pub due_event : Printing → List Event
due_event printing = elim printing.due [ None ↦ [] | Some lines ↦ of_record (map plain_line lines.items) ∷ [] ]

-- A line was noted, with what the lines of its record meet and the lines. These are kept where
-- others are to come and the record may be chosen. They are due where the line is the last and all
-- conditions are met. Where only a summary is asked for, no line is kept and none is due.
pub record NotesLine (old new : Printing) (asked : Asked) (owed : ℕ) (met : Meets) (lines : List PlainLine) : Type 0 where
  pub met_is : chooses_records asked ≡ true → new.met ≡ met
  pub lines_are : chooses_records asked ≡ true → asked.summary ≡ false → meets_record met ≡ true → waits owed ≡ true → map plain_line new.lines.items ≡ lines
  pub due_is : due_event new ≡ (if is_last_of_chosen asked owed met && not asked.summary then of_record lines ∷ [] else [])
  pub count : new.records ≡ (if is_last_of_chosen asked owed met then next_count old.records else old.records)
