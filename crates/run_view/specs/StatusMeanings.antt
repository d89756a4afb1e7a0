-- What a status of `view` says of the words, of the three sources and of what was shown (this
-- project's profile). A source or a list of events that is None is not known; nothing is claimed of
-- it.
use Rattle.std.specs.Prelude.{◌≡◌, ◌⊎◌, ℕ, ◌==◌, Bool, true, false, List, Option, Some, None, IfSome, if◌then◌else◌}
use Rattle.edge_io.specs.FaultCounts.{Rose}
use Rattle.pcap_file.specs.declared.head.Head.{Head}
use Rattle.pcap_file.specs.Capture.{IsCapture}
use Rattle.capture_input.specs.Inputs.{TookAll}
use Rattle.run_view.specs.declared.form.Form.{Form}
use Rattle.run_view.specs.declared.stop.Stop as own
use Rattle.run_view.specs.declared.words.Asked.{Asked}
use Rattle.run_view.specs.ShownEvents.{Event, Shows, chosen_of, events_of}
use Rattle.run_view.specs.Items.{AreItems, Item, frames_of, owed_of, packets_of}
use Rattle.run_view.specs.RunFiles.{AreNoRun, FaultCounts, IsNoInput, IsNoOutput, SourceRose, faults_of, report_of, sources_at}
pub use Rattle.run_view.specs.RunFiles.{Moment, counts_of, moment_of}
use Rattle.run_view.specs.StopMeanings.{Says, status_of}
use Rattle.run_view.specs.ViewWords.{asked_in}

-- The status of a view to its end, in which this number of records is chosen. With --evidence it is
-- 11 exactly if there is one, and 0 otherwise; without --evidence it is 0 or 10.
abbrev pub status_of_evidence : (chosen : ℕ) → ℕ
status_of_evidence chosen = if chosen == 0 then 0 else 11

abbrev pub IsStatusOf : (evidence : Bool) → (chosen status : ℕ) → Type 0
IsStatusOf true chosen status = status ≡ status_of_evidence chosen
IsStatusOf false chosen status = (status ≡ 0) ⊎ (status ≡ 10)

-- The input is a capture of these records, and the output a capture of these frames. The report is
-- that of a finished run with these lines, each with the frames that it counts, and none of the
-- second engine is missing. Exactly the events of them were shown.
pub record ViewedAs (asked : Asked) (input output report : Option (List ℕ)) (old new : Option (List Event)) (status : ℕ) : Type 0 where
  pub head : Head
  pub written : Head
  pub form : Form
  pub items : List Item
  pub link_is : written.link ≡ head.link
  pub are : AreItems form items
  pub none_owed : owed_of items ≡ 0
  pub records : TookAll None input head (packets_of items)
  pub frames : IfSome output (λ octets. IsCapture octets written (frames_of items))
  pub lines : IfSome report (λ octets. octets ≡ report_of form items)
  pub events : Shows old new (events_of asked form head items)
  pub status_is : IsStatusOf asked.evidence (chosen_of asked head items) status

-- Status 0, 10 and 11: the words are accepted, and the run was viewed as they ask.
pub record Viewed (words : List (List ℕ)) (input output report : Option (List ℕ)) (old new : Option (List Event)) (status : ℕ) : Type 0 where
  pub asked : Asked
  pub accepted : asked_in words ≡ Some asked
  pub viewed : ViewedAs asked input output report old new status

-- the view was shown to its end
abbrev pub IsToItsEnd : (status : ℕ) → Type 0
IsToItsEnd status = (status ≡ 0) ⊎ ((status ≡ 10) ⊎ (status ≡ 11))

-- Why a run is not viewed to its end. Status 2: invalid arguments. 1 and 9: the three files are not
-- those of a finished run. 3 and 4: the input is no capture, or the output is not one or has
-- another link. 5 and 7: a count of faults of a source, or of the output, rose. 8: nothing is
-- claimed of memory.
abbrev pub Cause : (words : List (List ℕ)) → (before : Moment) → (now : FaultCounts) → own.Stop → Type 0
Cause words before now =
    Says (asked_in words ≡ None) (AreNoRun (sources_at before)) (IsNoInput before.input.octets) (IsNoOutput (sources_at before))
    (SourceRose (faults_of before) now) (Rose before.out now.out)

-- the status is that of a stop whose cause holds
pub record Stopped (words : List (List ℕ)) (before : Moment) (now : FaultCounts) (status : ℕ) : Type 0 where
  pub stop : own.Stop
  pub cause : Cause words before now stop
  pub status_is : status ≡ status_of stop
