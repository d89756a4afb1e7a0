-- The progress of a view (this project's profile). Items are a list with the newest at the head.
-- `read`, `written` and `shown` are what the input and the output had left and what was shown at
-- first, and the same with `_now` what they have at the moment, where it is known.
use Rattle.std.specs.Prelude.{◌≡◌, ℕ, ◌≤◌, ◌<◌, ◌^◌, ◌*◌, ◌+◌, Bool, true, false, List, [], ◌∷◌, length, map, Option, if◌then◌else◌}
use Rattle.pcap_file.specs.declared.head.Head.{Head}
use Rattle.pcap_file.specs.ReaderState.{Reading}
use Rattle.capture_input.specs.declared.input.Input.{Input}
use Rattle.capture_input.specs.ReaderState.{head_in}
use Rattle.view_text.specs.PlainLines.{plain_line}
use Rattle.run_view.specs.ChosenRecords.{chooses_records, meets_record, met_of}
use Rattle.run_view.specs.ShownEvents.{Event, Shows, chosen_of, newest_event, record_lines, records_shown}
use Rattle.run_view.specs.Items.{AreItems, Item, Line, by_first, firsts, frames_of, line_of, owed_of, packets_of, seconds}
use Rattle.run_view.specs.working.LinePositions.{turn_at, waits}
use Rattle.run_view.specs.working.ReaderPositions.{InputAt, OutputAt}
use Rattle.run_view.specs.working.ShownLines.{due_event}
use Rattle.run_view.specs.working.RecordReading.{Holds, IsReady}
use Rattle.run_view.specs.declared.form.Form.{Form}
use Rattle.run_view.specs.declared.line.Lines.{Lines}
use Rattle.run_view.specs.declared.show.Printing.{Printing}
use Rattle.run_view.specs.declared.turn.Turn.{Turn}
use Rattle.run_view.specs.declared.viewer.Viewer.{Viewer}
use Rattle.run_view.specs.declared.words.Asked.{Asked}

-- the three at the beginning
pub record Ends : Type 0 where
  pub read : Option (List ℕ)
  pub written : Option (List ℕ)
  pub shown : Option (List Event)

abbrev pub ends_of : (read written : Option (List ℕ)) → (shown : Option (List Event)) → Ends
ends_of read written shown = record { read = read; written = written; shown = shown }

-- if lines of the second engine are still to come, the record that is held is that of the newest
-- line
abbrev pub HoldsNewest : (viewer : Viewer) → List Item → Type 0
HoldsNewest viewer [] = Unit {0}
HoldsNewest viewer (newest ∷ older) = waits viewer.owed ≡ true
    → Holds newest.packet.octets newest.packet.seconds newest.packet.fraction (by_first newest) viewer.held

-- If lines of a record are still to come, what its lines meet is held. The lines are held too, if
-- the conditions on the record are met and not only a summary is asked for.
pub record HoldsLines (printing : Printing) (asked : Asked) (form : Form) (head : Head) (items : List Item) : Type 0 where
  pub met : printing.met ≡ met_of asked head items
  pub lines : asked.summary ≡ false → meets_record (met_of asked head items) ≡ true → map plain_line printing.lines.items ≡ record_lines form head items

-- this number of records is chosen, and the lines of one that is not over are held, if records are
-- chosen
pub record PrintsSo (printing : Printing) (asked : Asked) (form : Form) (head : Head) (owed : ℕ) (items : List Item) : Type 0 where
  pub count : printing.records ≡ chosen_of asked head items
  pub lines : waits owed ≡ true → chooses_records asked ≡ true → HoldsLines printing asked form head items

-- these items were read and shown
pub record ViewerAt (viewer : Viewer) (head : Head) (before now : Ends) (items : List Item) : Type 0 where
  pub are : AreItems viewer.form items
  pub input : InputAt viewer.files.input viewer.files.head before.read now.read (packets_of items)
  pub output : OutputAt viewer.files.frames.reader head before.written now.written (frames_of items)
  pub count : viewer.files.count ≡ length (firsts items)
  pub second_count : viewer.second_count ≡ length (seconds items)
  pub frame_count : viewer.files.frames.count ≡ length (frames_of items)
  pub owed : viewer.owed ≡ owed_of items
  pub newest : HoldsNewest viewer items
  pub printing : PrintsSo viewer.printing viewer.asked viewer.form viewer.files.head viewer.owed items
  pub shown : Shows before.shown now.shown (records_shown viewer.asked viewer.form viewer.files.head items)

-- the position of the next line of the report
abbrev pub turn_in : Viewer → Turn
turn_in viewer = turn_at viewer.owed viewer.files.count viewer.second_count viewer.files.frames.count

-- how many lines were read
abbrev pub lines_in : Viewer → ℕ
lines_in viewer = viewer.files.count + viewer.second_count

-- one more line may be taken
pub record MayTake (viewer : Viewer) : Type 0 where
  pub ready : IsReady viewer.files
  pub few : viewer.files.count < 2 ^ 32
  pub few_seconds : viewer.second_count < 2 ^ 32
  pub few_frames : viewer.files.frames.count ≤ 255 * lines_in viewer

-- one more line of this engine was taken
pub record WentOnBy (second : Bool) (old new : Viewer) : Type 0 where
  pub ready : IsReady new.files
  pub count : new.files.count ≡ old.files.count + (if second then 0 else 1)
  pub second_count : new.second_count ≡ old.second_count + (if second then 1 else 0)
  pub few_frames : new.files.frames.count ≤ 255 * lines_in new
  pub asked : new.asked ≡ old.asked
  pub form : new.form ≡ old.form
  pub lines : new.lines ≡ old.lines
  pub head : new.files.head ≡ old.files.head

-- one more line of the engine whose turn it is was taken
abbrev pub WentOn : (old new : Viewer) → Type 0
WentOn old new = WentOnBy (waits old.owed) old new

-- one more line was taken, this one; what is to be shown with it is due
pub record Taken (viewer : Viewer) (head : Head) (before now : Ends) (items : List Item) (line : Line) : Type 0 where
  pub item : Item
  pub line_is : line_of item ≡ line
  pub due : due_event viewer.printing ≡ newest_event viewer.asked viewer.form viewer.files.head (item ∷ items)
  pub so_far : (shown : Option (List Event)) → Shows now.shown shown (newest_event viewer.asked viewer.form viewer.files.head (item ∷ items))
      → ViewerAt viewer head before (ends_of now.read now.written shown) (item ∷ items)

-- a view before the first record
pub record IsFresh (viewer : Viewer) (asked : Asked) (form : Form) (lines : Lines) (input : Input) (reader : Reading) : Type 0 where
  pub asked_is : viewer.asked ≡ asked
  pub form_is : viewer.form ≡ form
  pub lines_are : viewer.lines ≡ lines
  pub input_is : viewer.files.input ≡ input
  pub head_is : viewer.files.head ≡ head_in input
  pub reader_is : viewer.files.frames.reader ≡ reader
  pub count : viewer.files.count ≡ 0
  pub second_count : viewer.second_count ≡ 0
  pub frame_count : viewer.files.frames.count ≡ 0
  pub owed : viewer.owed ≡ 0
  pub records : viewer.printing.records ≡ 0
  pub ready : IsReady viewer.files

-- the later view has the same words and the same count of records that are chosen
pub record Closes (viewer last : Viewer) : Type 0 where
  pub asked : last.asked ≡ viewer.asked
  pub printing : last.printing ≡ viewer.printing
