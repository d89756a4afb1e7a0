-- The files of a finished run are viewed, but for memory and faults; tables of eras and notes show
-- no record.
use Rattle.std.proofs.Common.{◌≡◌, ◌&&◌, ◌==◌, not, ℕ, Bool, true, false, List, [], ◌∷◌, ◌++◌, Some, refl, sym, ap, subst, ◌∙◌, inl, inr, if◌then◌else◌}
use Rattle.pcap_file.specs.declared.head.Head.{Head}
use Rattle.run_view.specs.ChosenRecords.{chooses_records, has_choice, meets_all, met_of}
use Rattle.run_view.specs.ShownEvents.{chosen_of, ends_chosen, events_of, is_summed, of_count, of_record, record_lines, records_shown}
use Rattle.run_view.specs.Items.{Item, frames_of, packets_of}
use Rattle.run_view.specs.ViewLaws.{AreOfARun, HasFiles, NothingFails, OthersShowNoRecord, RunsAreViewed}
use Rattle.run_view.specs.RunFiles.{FaultCounts, HaveTwoLinks, IsNoInput, IsNoOutput, Moment, sources_at, sources_of}
use Rattle.run_view.specs.StopMeanings.{status_of}
use Rattle.run_view.specs.StatusMeanings.{Cause}
use Rattle.run_view.specs.ViewWords.{asked_in}
use Rattle.run_view.specs.declared.form.Form.{Form}
use Rattle.run_view.specs.declared.stop.Stop.{Stop}
use Rattle.run_view.specs.declared.stop.Stop.TheVariants as stops
use Rattle.run_view.specs.declared.words.Asked.{Asked}
use Rattle.run_view.specs.declared.words.Print.{Print}
use Rattle.run_view.specs.declared.words.Print.TheVariants as prints

module _ (words : List (List ℕ)) (before : Moment) (now : FaultCounts) (input output report : List ℕ) (asked : Asked) (accepted : asked_in words ≡ Some asked)
    (files : HasFiles before input output report) (run : AreOfARun input output report) (nothing : NothingFails before now) where
  same : sources_at before ≡ sources_of (Some input) (Some output) (Some report)
  same = λ i. sources_of (files.input_is i) (files.output_is i) (files.report_is i)

  no_two_links : HaveTwoLinks (Some input) (Some output) → ⊥
  no_two_links two =
      let one = two.other.accepted in
      let own = run.frames.accepted in
      let heads : two.other.head ≡ run.written = cc in
      two.other.other (ap (λ (h : Head). h.link) heads ∙ run.link_is two.head two.begins)

  no_output : IsNoOutput (sources_of (Some input) (Some output) (Some report)) → ⊥
  no_output (inl none) = none run.written (frames_of run.items) run.frames
  no_output (inr two) = no_two_links two

  none : (stop : Stop) → Cause words before now stop → status_of stop ≡ 8
  none stops.Words why = let e = sym why.is ∙ accepted in cc
  none (stops.Record n) why = absurd (why.is input output report same run)
  none (stops.Frame n) why = absurd (why.is input output report same run)
  none (stops.Report n) why = absurd (why.is input output report same run)
  none (stops.Input fault offset) why = absurd (subst IsNoInput files.input_is why.is.1 run.head (packets_of run.items) run.records)
  none (stops.Output fault offset) why = absurd (no_output (subst IsNoOutput same why.is.1))
  none stops.Unread why = absurd (nothing.sources why.is)
  none stops.Unwritten why = absurd (nothing.out why.is)
  none stops.Memory why = refl

pub runs_are_viewed : RunsAreViewed
runs_are_viewed words before now status input output report asked accepted files run nothing stopped =
    stopped.status_is ∙ none words before now input output report asked accepted files run nothing stopped.stop stopped.cause

-- ---- what shows no record

no_and : (a : Bool) → (a && false) ≡ false
no_and true = refl
no_and false = refl

-- whether records are chosen, and a summary is shown, by what is printed
abbrev records_by : (choice : Bool) → Print → Bool
records_by choice print = elim print [
  | prints.Text ↦ choice
  | prints.Json ↦ true
  | prints.Records ↦ true
  | prints.Eras ↦ false
  | prints.Notes ↦ false
  | prints.JsonNotes ↦ false
]

abbrev summed_by : Print → Bool
summed_by print = elim print [
  | prints.Text ↦ true
  | prints.Json ↦ true
  | prints.Records ↦ false
  | prints.Eras ↦ false
  | prints.Notes ↦ false
  | prints.JsonNotes ↦ false
]

module _ (asked : Asked) (form : Form) (head : Head) where
  none_shown : chooses_records asked ≡ false → (items : List Item) → records_shown asked form head items ≡ []
  none_shown quiet [] = refl
  none_shown quiet (item ∷ older) =
      let ends : ends_chosen asked head (item ∷ older) ≡ false =
      ap (λ (b : Bool). (item.owed == 0) && (b && meets_all (met_of asked head (item ∷ older)))) quiet ∙ no_and (item.owed == 0) in
      λ i. none_shown quiet older i ++ (if ends i && not asked.summary then of_record (record_lines form head (item ∷ older)) ∷ [] else [])

  silent : (items : List Item) → chooses_records asked ≡ false → is_summed asked ≡ false → events_of asked form head items ≡ []
  silent items quiet unsummed =
      λ i. none_shown quiet items i ++ (if unsummed i && has_choice asked then of_count (chosen_of asked head items) ∷ [] else [])

  quiet_by : (items : List Item) (print : Print) → asked.print ≡ print → records_by (has_choice asked) print ≡ false → summed_by print ≡ false
      → events_of asked form head items ≡ []
  quiet_by items print is quiet unsummed =
      silent items (ap (records_by (has_choice asked)) is ∙ quiet) (ap summed_by is ∙ unsummed)

pub others_show_no_record : OthersShowNoRecord
others_show_no_record asked form head items (inl is) = quiet_by asked form head items prints.Eras is refl refl
others_show_no_record asked form head items (inr (inl is)) = quiet_by asked form head items prints.Notes is refl refl
others_show_no_record asked form head items (inr (inr is)) = quiet_by asked form head items prints.JsonNotes is refl refl
