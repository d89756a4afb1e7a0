-- How a view goes on by one more line of the report.
use Rattle.std.proofs.Common.{◌≡◌, ℕ, ◌+◌, List, [], ◌∷◌, ◌++◌, Option, None, sym, subst}
use Rattle.std.specs.Prelude.{IfSome}
use Rattle.std.specs.Io.KnownBytes.{Consumes}
use Rattle.std.proofs.KnownBytes.{Consumes-trans}
use Rattle.pcap_file.specs.declared.head.Head.{Head}
use Rattle.rule_book.specs.Entries.{PlainEntry}
use Rattle.rule_book.specs.ReportReading.{IsEntryOf}
use Rattle.run_view.specs.declared.line.Lines.{Lines}
use Rattle.run_view.specs.declared.show.Printing.{Printing}
use Rattle.run_view.specs.declared.turn.Turn.{Turn}
use Rattle.run_view.specs.declared.viewer.Viewer.{Viewer}
use Rattle.run_view.specs.working.LinesAhead.{left_in}
use Rattle.run_view.specs.ShownEvents.{Event, Shows}
use Rattle.run_view.specs.working.SourceContents.{HasNextLine, ToldNext}
use Rattle.run_view.proofs.Fronts.{IsNoNext}
use Rattle.run_view.specs.working.LineProgress.{Going}
use Rattle.run_view.specs.Forms.{version_of}
use Rattle.run_view.specs.Items.{Item, Line, line_by, line_of, lines_of, lines_text, text_by}
use Rattle.run_view.specs.working.LinePositions.{turn_at, turn_of}
use Rattle.run_view.specs.working.ViewerProgress.{Ends, HoldsNewest, ViewerAt, Taken, ends_of, turn_in}
use Rattle.run_view.specs.working.ShownLines.{due_event}
use Rattle.run_view.specs.working.RestOfRun.{AreNoRest}
use Rattle.run_view.specs.RunFiles.{sources_of}
use Rattle.run_view.proofs.Finished.{Told, no_line}

-- the position of the next line
pub turn_is : (viewer : Viewer) (head : Head) (before now : Ends) (items : List Item) → ViewerAt viewer head before now items
    → turn_in viewer ≡ turn_of items
turn_is viewer head before now items so_far = λ i. turn_at (so_far.owed i) (so_far.count i) (so_far.second_count i) (so_far.frame_count i)

-- a line is taken whatever was printed before it
abbrev pub Takes : (old new : Viewer) (head : Head) (read written read_now written_now : Option (List ℕ)) → PlainEntry → Type 0
Takes old new head read written read_now written_now entry =
    (before : Ends) (shown : Option (List Event)) (items : List Item) → ViewerAt old head before (ends_of read written shown) items
    → IsEntryOf (version_of old.form) entry
    → entry.number ≡ (turn_in old).done + 1 → Taken new head before (ends_of read_now written_now shown) items (line_by (turn_in old).second entry)

-- the known report has the line of an item
line_told : (report left next : Option (List ℕ)) (version : ℕ) (turn : Turn) (entry : PlainEntry) (items : List Item) (item : Item)
    → line_of item ≡ line_by turn.second entry
    → Consumes report left (lines_text (lines_of items)) → ToldNext version turn left next entry
    → Consumes report next (lines_text (lines_of (item ∷ items)))
line_told report left next version turn entry items item is before told =
    let E : Line → Type 0 = λ l. Consumes report next (lines_text (lines_of items) ++ text_by l.second l.entry) in
    subst E (sym is) (Consumes-trans report left next (lines_text (lines_of items)) (text_by turn.second entry) before told.taken)

-- the record that was due is not due any more
due_taken : (viewer : Viewer) (printing : Printing) (head : Head) (before now : Ends) (items : List Item) → printing ≡ record viewer.printing { due = None }
    → ViewerAt viewer head before now items → ViewerAt (record viewer { printing = printing }) head before now items
due_taken viewer printing head before now items is so_far =
    let P : Printing → Type 0 = λ p. ViewerAt (record viewer { printing = p }) head before now items in
    subst P (sym is)
    (record {
      are = so_far.are;
      input = so_far.input;
      output = so_far.output;
      count = so_far.count;
      second_count = so_far.second_count;
      frame_count = so_far.frame_count;
      owed = so_far.owed;
      newest = by items so_far.newest;
      printing =
          record {
            count = so_far.printing.count;
            lines = λ waiting prints. let held = so_far.printing.lines waiting prints in record { met = held.met; lines = held.lines };
          };
      shown = so_far.shown;
    }) where
      by : (items : List Item) → HoldsNewest viewer items → HoldsNewest (record viewer { printing = record viewer.printing { due = None } }) items
      by [] newest = tt
      by (item ∷ older) newest = newest

-- a line more was taken and shown, and the known report has it
pub going_on : (old new : Viewer) (head : Head) (before mid : Ends) (read written : Option (List ℕ)) (shown : Option (List Event)) (report left next : Option (List ℕ))
    (entry : PlainEntry) (printing : Printing)
    → Takes old new head mid.read mid.written read written entry → Shows mid.shown shown (due_event new.printing)
    → printing ≡ record new.printing { due = None }
    → ToldNext (version_of old.form) (turn_in old) left next entry → Going old head before mid report left
    → Going (record new { printing = printing }) head before (ends_of read written shown) report next
going_on old new head before mid read written shown report left next entry printing takes shows rest told going =
    let taken = takes before mid.shown going.items going.so_far told.fits told.number in
    let P : List Event → Type 0 = λ t. Shows mid.shown shown t in
    record {
      items = taken.item ∷ going.items;
      so_far =
          due_taken new printing head before (ends_of read written shown) (taken.item ∷ going.items) rest (taken.so_far shown (subst P taken.due shows));
      told = line_told report left next (version_of old.form) (turn_in old) entry going.items taken.item taken.line_is going.told told;
    }

-- what is known of the sources so far
pub told_of : (viewer : Viewer) (written : Head) (before now : Ends) (report left : Option (List ℕ))
    → (going : Going viewer written before now report left)
    → Told (sources_of before.read before.written report) viewer.form going.items left
told_of viewer written before now report left going = record { are = going.so_far.are; lines = going.told }

-- the next line of the report is one that is not possible there
pub next_other : (viewer : Viewer) (written : Head) (before now : Ends) (report left : Option (List ℕ)) → Going viewer written before now report left
    → IfSome left (IsNoNext (version_of viewer.form) (turn_in viewer)) → AreNoRest viewer.form (sources_of before.read before.written report)
next_other viewer written before now report left going other =
    let T : Turn → Type 0 = λ t. IfSome left (IsNoNext (version_of viewer.form) t) in
    no_line (sources_of before.read before.written report) viewer.form going.items left (told_of viewer written before now report left going)
    (subst T (turn_is viewer written before now going.items going.so_far) other)

-- the line of one more entry follows those of the items
pub next_line_of : (viewer : Viewer) (head : Head) (before now : Ends) (items : List Item) (left next : Option (List ℕ)) (entry : PlainEntry)
    → ViewerAt viewer head before now items
    → ToldNext (version_of viewer.form) (turn_in viewer) left next entry → HasNextLine viewer.form items left entry
next_line_of viewer head before now items left next entry so_far told =
    let T : Turn → Type 0 = λ t. ToldNext (version_of viewer.form) t left next entry in
    record { behind = next; told = subst T (turn_is viewer head before now items so_far) told }

-- a view that has read ahead in the report
ahead_so_far : (viewer : Viewer) (lines : Lines) (head : Head) (before now : Ends) (items : List Item) → ViewerAt viewer head before now items
    → ViewerAt (record viewer { lines = lines }) head before now items
ahead_so_far viewer lines head before now items so_far =
    record {
      are = so_far.are;
      input = so_far.input;
      output = so_far.output;
      count = so_far.count;
      second_count = so_far.second_count;
      frame_count = so_far.frame_count;
      owed = so_far.owed;
      newest = by items so_far.newest;
      printing = so_far.printing;
      shown = so_far.shown;
    } where
      by : (items : List Item) → HoldsNewest viewer items → HoldsNewest (record viewer { lines = lines }) items
      by [] newest = tt
      by (item ∷ older) newest = newest

pub going_ahead : (viewer : Viewer) (lines : Lines) (head : Head) (before now : Ends) (report left : Option (List ℕ))
    → Going viewer head before now report left → Going (record viewer { lines = lines }) head before now report left
going_ahead viewer lines head before now report left going =
    record { items = going.items; so_far = ahead_so_far viewer lines head before now going.items going.so_far; told = going.told }

-- the same where other octets of the report were read ahead
pub going_at : (viewer : Viewer) (head : Head) (before now : Ends) (report left : Option (List ℕ)) (lines other : Lines) → lines ≡ other
    → Going viewer head before now report (left_in lines left) → Going viewer head before now report (left_in other left)
going_at viewer head before now report left lines other same going = let G : Lines
    → Type 0 = λ l. Going viewer head before now report (left_in l left) in subst G same going
