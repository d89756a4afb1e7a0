-- The capture that a finished run read, and the two files that it wrote, have one item for each
-- line of the report, so they are viewed.
use Rattle.std.proofs.Common.{◌≡◌, ◌⊎◌, inl, inr, ℕ, ◌+◌, ◌-◌, ◌^◌, ◌≤◌, List, [], ◌∷◌, ◌++◌, length, map, reverse, Option, Some, None, refl, sym, ap, ◌∙◌, subst, arith}
use Rattle.std.proofs.lemmas.List.{append_cancel_left, length-append, length-map, length-reverse}
use Rattle.wire_base.specs.declared.address.Link.{Link}
use Rattle.pcap_file.specs.declared.head.Head.{Head}
use Rattle.pcap_file.specs.Capture.{IsCapture}
use Rattle.capture_input.specs.Inputs.{IsInput}
use Rattle.rule_book.specs.declared.last.Last.TheVariants.{End}
use Rattle.rule_book.specs.Text.{last_text}
use Rattle.norm_settings.specs.SettingValues.{AreInRange, PlainSettings}
use Rattle.norm_engine.specs.Items.{Item, frame_count}
use Rattle.norm_engine.specs.TraceLaws.{IsSound}
use Rattle.norm_engine.specs.WrittenTrace.{written}
use Rattle.both_sides.specs.Outputs.{heading as run_heading}
use Rattle.both_sides.specs.RecordOutputs.{Put, count_put, puts}
use Rattle.both_sides.specs.RunTraces.{LawfulRun, RunHasOctets, RunTrace, one, packets_of as run_packets, two}
use Rattle.both_sides.specs.Traces.{mirrored}
use Rattle.bridge_run.specs.Theorem.{Normalized}
use Rattle.run_audit.specs.LawfulFiles.{frames_written as frames_of_trace}
use Rattle.run_view.specs.Forms.{heading}
use Rattle.run_view.specs.Items.{AreItems, firsts, frames_of, owed_of, packets_in, packets_of}
use Rattle.run_view.specs.Items as view
use Rattle.run_view.specs.ViewLaws.{AreOfARun, HasFiles, NothingFails}
use Rattle.run_view.specs.RunFiles.{FaultCounts, Moment}
use Rattle.run_view.specs.StatusMeanings.{IsToItsEnd, Stopped}
use Rattle.run_view.specs.ViewWords.{asked_in}
use Rattle.run_view.specs.declared.words.Asked.{Asked}
use Rattle.run_view.specs.declared.form.Form.{Form}
use Rattle.run_view.specs.declared.form.Form.TheVariants.{Both, Version2}
use Rattle.run_view.proofs.OneRun.{heads_one}
use Rattle.run_laws.specs.CaptureReadBack.{record_of, records_put}
use Rattle.run_laws.specs.ViewedRuns.{FitsACapture, RunsAreViewedWhole, unsided}
use Rattle.run_laws.proofs.Unsided.{input_unsided}
use Rattle.run_laws.proofs.Traces.{ViewLaws, frames_few, good, good_written}
use Rattle.run_laws.proofs.RunItems.{items_one, one_owes, are_one, Shows, shows_one, items_two, frames_in, records_long, in_trace, two_owes, are_two, shows_two}

-- ---- the files of the run

-- its items, and the form of its report
abbrev pub run_items : PlainSettings → Link → RunTrace → List view.Item
run_items settings link (one trace) = items_one (written settings link trace)
run_items settings link (two trace mirror) = items_two trace mirror

abbrev pub run_form : RunTrace → Form
run_form (one trace) = Version2
run_form (two trace mirror) = Both

pub record IsOf (settings : PlainSettings) (link : Link) (trace : RunTrace) {input capture report : List ℕ} (run : AreOfARun input capture report) : Type 0 where
  pub items_are : run.items ≡ run_items settings link trace
  pub form_is : run.form ≡ run_form trace
  pub link_is : run.head.link ≡ link

put_long : (outs : List Put) → length (records_put outs) ≡ count_put outs
put_long [] = refl
put_long (put ∷ older) = omega (arith, long, put_long older) where
  long : length (records_put (put ∷ older)) ≡ length put.frames + length (records_put older)
  long =
      length-append (reverse (map (record_of put) put.frames)) (records_put older)
      ∙ ap (λ n. n + length (records_put older)) (length-reverse (map (record_of put) put.frames) ∙ length-map put.frames (record_of put))

packets_long : (items : List view.Item) → length (packets_in items) ≡ length items
packets_long [] = refl
packets_long (item ∷ older) = omega (arith, packets_long older)

module _ (laws : ViewLaws) (settings : PlainSettings) (source' : Option (List ℕ)) (input held capture told report : List ℕ) (range : AreInRange settings)
    (done : Normalized settings (Some input) source' (Some held) (Some (held ++ capture)) (Some told) (Some (told ++ report)))
    (small : FitsACapture settings done.head.link done.run) where
  -- the files are those of a run of these records, with the items of its trace
  abbrev pub Whole : Type 0
  Whole = (run : AreOfARun input capture report) × (packets_of run.items ≡ map unsided (run_packets done.run)) × IsOf settings done.head.link done.run run

  abbrev outs : List Put
  outs = puts settings done.head.link done.run

  files : (form : Form) (items : List view.Item) → run_heading settings.both ≡ heading form → AreItems form items → owed_of items ≡ 0
      → Shows done.run outs items → items ≡ run_items settings done.head.link done.run → form ≡ run_form done.run
      → Whole
  files form items first are none shows items_are form_is =
      let whole : IsInput None input done.head (map unsided (run_packets done.run)) =
      input_unsided settings.inside input done.head (run_packets done.run) done.whole in
      let back = laws.read_back settings (Some input) source' (Some told) (Some (told ++ report)) held capture done in
      let few = small.frames in
      let frames : IsCapture capture done.head (records_put outs) = back.whole (omega (arith, few, put_long outs)) in
      let lines = append_cancel_left told report _ done.report_written in
      let firsts_are : length (firsts items) ≡ length (run_packets done.run) =
      sym (packets_long (firsts items)) ∙ ap length shows.records ∙ length-map (run_packets done.run) unsided in
      let count_is : length (frames_of items) ≡ count_put outs = ap length shows.frames ∙ put_long outs in (
        record {
          head = done.head;
          written = done.head;
          form = form;
          items = items;
          link_is = λ own has. ap (λ (h : Head). h.link) (heads_one input done.head own whole.walk has.walk [] has.rest whole.begins has.begins);
          are = are;
          none_owed = none;
          records = subst (IsInput None input done.head) (sym shows.records) whole;
          frames = subst (IsCapture capture done.head) (sym shows.frames) frames;
          lines = lines ∙ (λ i. (first i ++ sym shows.text i) ++ last_text (End (sym firsts_are i) (sym count_is i)));
        },
        shows.records,
        record { items_are = items_are; form_is = form_is; link_is = refl },
      )

  by_run : (run : RunTrace) → done.run ≡ run → LawfulRun settings done.head.link run → RunHasOctets settings run
      → length (run_packets run) ≤ 2 ^ 31 - 1
      → count_put (puts settings done.head.link run) ≤ 2 ^ 32 - 1 → Whole
  by_run (one trace) is lawful octets records frames =
      let sound : IsSound settings done.head.link trace = record { hops = range.hops; octets = octets.0; lawful = lawful.1 } in
      let long = length-map trace (λ (item : Item). item.packet) in
      let some = frames_few laws settings done.head.link trace sound in
      let fits = laws.fit settings done.head.link trace sound (omega (arith, some, long, records)) (omega (arith, long, records)) in
      let ts = written settings done.head.link trace in
      files Version2 (items_one ts) (ap run_heading lawful.0) (are_one ts (good_written laws settings done.head.link range trace sound octets.1 fits)) (one_owes ts)
      (subst (λ (r : RunTrace). Shows r (puts settings done.head.link r) (items_one ts)) (sym is) (shows_one settings done.head.link trace))
      (ap (run_items settings done.head.link) (sym is)) (ap run_form (sym is))
  by_run (two trace mirror) is lawful octets records frames =
      let link = done.head.link in
      let front : IsSound settings link trace = record { hops = range.hops; octets = octets.0; lawful = lawful.1.first } in
      let back : IsSound (mirrored settings) link mirror = record { hops = range.hops; octets = octets.1; lawful = lawful.1.second } in
      let long = length-map trace (λ (item : Item). item.packet) in
      let mirrors : length mirror ≡ frames_in trace =
      sym (length-map mirror (λ (item : Item). item.packet)) ∙ ap length lawful.1.handed ∙ records_long trace in
      let some = frames_few laws settings link trace front in
      let answers = in_trace trace in
      let all = (laws.mirror settings link trace mirror lawful.1).count in
      let counted = mirror_count mirror in
      let fits = laws.fit settings link trace front (omega (arith, some, long, records)) (omega (arith, long, records)) in
      let others =
      laws.fit (mirrored settings) link mirror back (omega (arith, counted, all, frames)) (omega (arith, mirrors, answers, some, long, records)) in
      files Both (items_two trace mirror) (ap run_heading lawful.0)
      (are_two trace mirror mirrors lawful.1.handed (good laws settings link trace front fits) (good laws (mirrored settings) link mirror back others))
      (two_owes trace mirror mirrors) (subst (λ (r : RunTrace). Shows r (puts settings link r) (items_two trace mirror)) (sym is) (shows_two trace mirror))
      (ap (run_items settings link) (sym is)) (ap run_form (sym is))
    where
      mirror_count : (items : List Item) → length (frames_of_trace items) ≡ frame_count items
      mirror_count [] = refl
      mirror_count (item ∷ older) =
          omega (arith, length-append (reverse item.frames) (frames_of_trace older), length-reverse item.frames, mirror_count older)

  pub all_files : Whole
  all_files = by_run done.run refl done.lawful done.octets small.records small.frames

pub runs_viewed_whole : ViewLaws → RunsAreViewedWhole
runs_viewed_whole laws settings source' input held capture told report range done small =
    let run = all_files laws settings source' input held capture told report range done small in
    record {
      files = run.0;
      records_are = run.1;
      returns = λ words asked before now status accepted files nothing. by words asked before now status accepted files nothing;
    }
  where
    by : (words : List (List ℕ)) (asked : Asked) (before : Moment) (now : FaultCounts) (status : ℕ) → asked_in words ≡ Some asked
        → HasFiles before input capture report
        → NothingFails before now → IsToItsEnd status ⊎ Stopped words before now status → IsToItsEnd status ⊎ (status ≡ 8)
    by words asked before now status accepted files nothing (inl fine) = inl fine
    by words asked before now status accepted files nothing (inr stopped) =
        inr (laws.viewed words before now status input capture report asked accepted files
        (all_files laws settings source' input held capture told report range done small).0 nothing stopped)
