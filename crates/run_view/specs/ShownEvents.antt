-- What is shown of a run (this project's profile): a list of events, the oldest first. Lists of
-- items have the newest at the head.
use Rattle.std.specs.Prelude.{◌≡◌, ◌≤◌, ℕ, ◌==◌, ◌&&◌, not, Bool, true, false, List, [], ◌∷◌, ◌++◌, length, map, Option, Some, None, Result, Ok, Err, OnOk, if◌then◌else◌}
use Rattle.edge_io.specs.FaultCounts.{Rose, next_count}
use Rattle.pcap_file.specs.declared.head.Head.{Head}
use Rattle.view_text.specs.PlainLines.{PlainLine, plain_line}
use Rattle.run_view.specs.declared.events.Event as own
use Rattle.run_view.specs.declared.events.Event.TheVariants.{Record, Chosen}
use Rattle.run_view.specs.declared.events.Unshown.{Unshown}
use Rattle.run_view.specs.declared.events.Unshown.TheVariants.{Failed, NoMemory}
use Rattle.run_view.specs.declared.form.Form.{Form}
use Rattle.run_view.specs.declared.words.Asked.{Asked}
use Rattle.run_view.specs.declared.words.Print.TheVariants as prints
use Rattle.run_view.specs.ChosenRecords.{has_choice, is_chosen}
use Rattle.run_view.specs.Forms.{is_both}
use Rattle.run_view.specs.Items.{Item, by_first, changes_in, flow_at, frames_of, is_second, kinds_in, length_at, time_of, type_without}

-- one event: all lines of a record that is chosen, that of the first engine before those of the
-- second; or how many records were chosen
pub data Event : Type 0 where
  of_record : List PlainLine → Event
  of_count : ℕ → Event

-- an event of the code
abbrev pub plain_event : own.Event → Event
plain_event (Record lines) = of_record (map plain_line lines.items)
plain_event (Chosen records) = of_count records

-- exactly these events were shown after those before, where they are known
abbrev pub Shows : (old new : Option (List Event)) → (more : List Event) → Type 0
Shows None new more = Unit {0}
Shows (Some before) None more = ⊥
Shows (Some before) (Some after) more = after ≡ before ++ more

-- an event fails by the output, whose count of faults rose, or because memory could not be
-- allocated
abbrev pub FailsBy : (before now : ℕ) → Result Unit Unshown → Type 0
FailsBy before now (Ok _) = now ≡ before
FailsBy before now (Err Failed) = Rose before now
FailsBy before now (Err NoMemory) = now ≡ before

-- the count of faults never falls, and rises only where the output failed
pub record ShowCause (before now : ℕ) (result : Result Unit Unshown) : Type 0 where
  pub later : before ≤ now
  pub fails : FailsBy before now result

-- the frames that a line names went to a second engine
abbrev pub is_given : Form → (second : Bool) → Bool
is_given form second = if second then false else is_both form

-- what is shown of an item after others
abbrev pub line_shown : Form → Head → Item → (older : List Item) → PlainLine
line_shown form head item older =
    record {
      number = (by_first item).number;
      second = is_second item;
      own = item.entry.number;
      time = time_of head item.packet;
      flow = flow_at head.link item.packet.octets;
      ethertype = type_without (flow_at head.link item.packet.octets) head.link item.packet.octets;
      length = length_at head.link item.packet.octets;
      entry = item.entry;
      given = is_given form (is_second item);
      before = length (frames_of older);
      changes = changes_in head.link (kinds_in item) item.packet.octets item.frames;
    }

-- the lines of the newest record
abbrev pub record_lines : Form → Head → List Item → List PlainLine
record_lines form head [] = []
record_lines form head (item ∷ older) = (if is_second item then record_lines form head older else []) ++ line_shown form head item older ∷ []

-- the newest line is the last of its record, and this is chosen
abbrev pub ends_chosen : Asked → Head → List Item → Bool
ends_chosen asked head [] = false
ends_chosen asked head (item ∷ older) = (item.owed == 0) && is_chosen asked head (item ∷ older)

-- what is shown with the newest line: its record, where the line is the last of one that is chosen;
-- nothing where only a summary is asked for
abbrev pub newest_event : Asked → Form → Head → List Item → List Event
newest_event asked form head items =
    if ends_chosen asked head items && not asked.summary then of_record (record_lines form head items) ∷ [] else []

-- each record that is chosen, unless only a summary is asked for
abbrev pub records_shown : Asked → Form → Head → List Item → List Event
records_shown asked form head [] = []
records_shown asked form head (item ∷ older) = records_shown asked form head older ++ newest_event asked form head (item ∷ older)

-- how many records are chosen, as a count of 64 bits
abbrev pub chosen_of : Asked → Head → List Item → ℕ
chosen_of asked head [] = 0
chosen_of asked head (item ∷ older) =
    if ends_chosen asked head (item ∷ older) then next_count (chosen_of asked head older) else chosen_of asked head older

-- a text or JSON ends with a summary, or with how many records are chosen
abbrev pub is_summed : Asked → Bool
is_summed asked = elim asked.print [
  | prints.Text ↦ true
  | prints.Json ↦ true
  | prints.Records ↦ false
  | prints.Eras ↦ false
  | prints.Notes ↦ false
  | prints.JsonNotes ↦ false
]

-- how many records are chosen is shown at the end of a text or of JSON, where a condition is given
abbrev pub count_shown : Asked → (chosen : ℕ) → List Event
count_shown asked chosen = if is_summed asked && has_choice asked then of_count chosen ∷ [] else []

-- all that is shown of a run
abbrev pub events_of : Asked → Form → Head → List Item → List Event
events_of asked form head items = records_shown asked form head items ++ count_shown asked (chosen_of asked head items)
