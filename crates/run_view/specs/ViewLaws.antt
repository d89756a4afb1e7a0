-- Laws of the definitions of a view.
use Rattle.std.specs.Prelude.{◌≡◌, ◌⊎◌, ℕ, true, List, [], Option, Some, None}
use Rattle.edge_io.specs.FaultCounts.{Rose}
use Rattle.capture_input.specs.Inputs.{IsInput}
use Rattle.pcap_file.specs.declared.head.Head.{Head}
use Rattle.run_view.specs.ShownEvents.{events_of}
use Rattle.run_view.specs.ChosenRecords.{chooses_records, has_choice}
use Rattle.run_view.specs.Items.{AreItems, Item, lines_of, packets_of}
pub use Rattle.run_view.specs.RunFiles.{AreOfARun}
use Rattle.run_view.specs.RunFiles.{FaultCounts, Moment, SourceRose, faults_of, report_of}
use Rattle.run_view.specs.StatusMeanings.{Stopped}
use Rattle.run_view.specs.ViewWords.{asked_in}
use Rattle.run_view.specs.declared.form.Form.{Form}
use Rattle.run_view.specs.declared.words.Asked.{Asked}
use Rattle.run_view.specs.declared.words.Print.TheVariants as prints

-- at a moment these are the octets of the three sources
pub record HasFiles (moment : Moment) (input output report : List ℕ) : Type 0 where
  pub input_is : moment.input.octets ≡ Some input
  pub output_is : moment.output.octets ≡ Some output
  pub report_is : moment.report.octets ≡ Some report

-- no source fails, and the output does not: no count of faults rises or is at its last value
pub record NothingFails (before : Moment) (now : FaultCounts) : Type 0 where
  pub sources : SourceRose (faults_of before) now → ⊥
  pub out : Rose before.out now.out → ⊥

-- Where the words are accepted, the three files are those of a finished run, and nothing fails, a
-- view that stops does so because memory could not be allocated.
abbrev pub RunsAreViewed : Type 0
RunsAreViewed =
    (words : List (List ℕ)) (before : Moment) (now : FaultCounts) (status : ℕ) (input output report : List ℕ) (asked : Asked)
    → asked_in words ≡ Some asked → HasFiles before input output report
    → AreOfARun input output report → NothingFails before now → Stopped words before now status → status ≡ 8

-- No event is shown in a table of eras, nor where only notes are asked for.
abbrev pub OthersShowNoRecord : Type 0
OthersShowNoRecord =
    (asked : Asked) (form : Form) (head : Head) (items : List Item)
    → ((asked.print ≡ prints.Eras) ⊎ ((asked.print ≡ prints.Notes) ⊎ (asked.print ≡ prints.JsonNotes)))
    → events_of asked form head items ≡ []

-- two lists of items have the same lines, of which a report has one form, and the same records
pub record AreSame (form own : Form) (items others : List Item) : Type 0 where
  pub form_is : form ≡ own
  pub lines : lines_of items ≡ lines_of others
  pub packets : packets_of items ≡ packets_of others

-- A report, and an input, have one list of lines and of records; and an input has one head.
abbrev pub ItemsAreOne : Type 0
ItemsAreOne =
    (input : List ℕ) (head other : Head) (form own : Form) (items others : List Item) → AreItems form items → AreItems own others
    → report_of form items ≡ report_of own others → IsInput None input head (packets_of items) → IsInput None input other (packets_of others)
    → (head ≡ other) × AreSame form own items others

-- If words are accepted and give a condition, records are chosen by it.
abbrev pub ConditionsChoose : Type 0
ConditionsChoose = (words : List (List ℕ)) (asked : Asked) → asked_in words ≡ Some asked → has_choice asked ≡ true → chooses_records asked ≡ true
