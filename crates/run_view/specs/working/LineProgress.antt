-- How a view goes on by a line of the report (this project's profile). Items are a list with the
-- newest at the head. `report` is what the report had left after its first line, `left` what it had
-- left before the line, and `next` what it has left after it, where these are known.
use Rattle.std.specs.Prelude.{◌≡◌, ℕ, Bool, true, false, List, Option}
use Rattle.rule_book.specs.Entries.{PlainEntry}
use Rattle.std.specs.Io.KnownBytes.{Consumes}
use Rattle.pcap_file.specs.declared.head.Head.{Head}
use Rattle.rule_book.specs.Text.{last_text}
use Rattle.rule_book.specs.declared.last.Last.TheVariants.{End}
use Rattle.run_view.specs.Items.{AreItems, Item, lines_of, lines_text}
use Rattle.run_view.specs.ShownEvents.{Event, Shows, chosen_of, events_of}
use Rattle.run_view.specs.working.SourceContents.{AreOver, HasNextLine}
use Rattle.run_view.specs.working.RestOfRun.{AreNoRest}
use Rattle.run_view.specs.RunFiles.{FaultCounts, IsNoCapture, IsNoInput, SourceRose, sources_of}
use Rattle.run_view.specs.working.ViewerProgress.{Ends, ViewerAt, ends_of, turn_in}
use Rattle.run_view.specs.StopMeanings.{Says}
use Rattle.run_view.specs.StatusMeanings.{IsStatusOf}
use Rattle.run_view.specs.declared.form.Form.{Form}
use Rattle.run_view.specs.declared.stop.Stop.{Stop}
use Rattle.run_view.specs.declared.turn.Turn.{Turn}
use Rattle.run_view.specs.declared.viewer.Viewer.{Viewer}
use Rattle.run_view.specs.declared.words.Asked.{Asked}

-- some items were taken since the first line of the report, which gave exactly their lines if its
-- octets are known
pub record Going (viewer : Viewer) (head : Head) (before now : Ends) (report left : Option (List ℕ)) : Type 0 where
  pub items : List Item
  pub so_far : ViewerAt viewer head before now items
  pub told : Consumes report left (lines_text (lines_of items))

-- no line of the second engine is due, and the last line of a run with as many records and frames
-- as were read was taken of the report
pub record ToldEnd (turn : Turn) (left next : Option (List ℕ)) : Type 0 where
  pub first : turn.second ≡ false
  pub taken : Consumes left next (last_text (End turn.done turn.frames))

-- some items were taken, and then the last line of the report
pub record HasEnded (viewer : Viewer) (head : Head) (before now : Ends) (report left next : Option (List ℕ)) : Type 0 where
  pub going : Going viewer head before now report left
  pub told : ToldEnd (turn_in viewer) left next

-- the next line of the report was taken: that of an entry, or the last one
abbrev pub StepsTo : (more : Bool) → (viewer : Viewer) (head : Head) (before now : Ends) (report left next : Option (List ℕ)) → Type 0
StepsTo true viewer head before now report left next = Going viewer head before now report next
StepsTo false viewer head before now report left next = HasEnded viewer head before now report left next

-- the view is of the same run
pub record IsSameRun (old new : Viewer) : Type 0 where
  pub asked : new.asked ≡ old.asked
  pub form : new.form ≡ old.form
  pub head : new.files.head ≡ old.files.head

-- why the record and the frames of the next line, that of this entry, were not read, after any
-- items that the view may have taken
abbrev pub LineStop : (viewer : Viewer) (entry : PlainEntry) (read written : Option (List ℕ)) (failed : Type 0) → Stop → Type 0
LineStop viewer entry read written failed stop =
    (head : Head) (before : Ends) (shown : Option (List Event)) (report left : Option (List ℕ))
    (going : Going viewer head before (ends_of read written shown) report left)
    → HasNextLine viewer.form going.items left entry
    → Says ⊥ (AreNoRest viewer.form (sources_of before.read before.written report)) (IsNoInput before.read) (IsNoCapture before.written) failed ⊥ stop

-- why the three files are not at their ends, after any items that the view may have taken, where
-- the report has this left after its last line
abbrev pub EndStop : (viewer : Viewer) (read written next : Option (List ℕ)) (first last : FaultCounts) → Stop → Type 0
EndStop viewer read written next first last stop =
    (head : Head) (before : Ends) (shown : Option (List Event)) (report left : Option (List ℕ))
    (ended : HasEnded viewer head before (ends_of read written shown) report left next)
    → Says ⊥ (AreNoRest viewer.form (sources_of before.read before.written report)) (IsNoInput before.read) (IsNoCapture before.written)
    (SourceRose first last) ⊥ stop

-- the three files were read to their end, and all was shown
pub record Whole (asked : Asked) (form : Form) (head written : Head) (before : Ends) (shown_now : Option (List Event)) (report : Option (List ℕ))
    (status : ℕ) : Type 0 where
  pub items : List Item
  pub left : Option (List ℕ)
  pub are : AreItems form items
  pub lines : Consumes report left (lines_text (lines_of items))
  pub over : AreOver (sources_of before.read before.written report) head written items left
  pub events : Shows before.shown shown_now (events_of asked form head items)
  pub status_is : IsStatusOf asked.evidence (chosen_of asked head items) status
