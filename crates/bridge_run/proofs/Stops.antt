-- What holds for the input and the outputs when a run has stopped, status by status.
use Rattle.std.proofs.Common.{◌≡◌, ℕ, ◌<◌, ◌==◌, List, [], ◌∷◌, ◌++◌, length, take, Option, None, Some, refl, sym, ap, ◌∙◌, subst, append-nil, append_assoc, arith, inl, inr, ◌⊎◌, ◌≤◌, false, true, flat_map}
use Rattle.std.proofs.Math.Seq.{take-nil}
use Rattle.std.proofs.KnownBytes.{Appends-trans}
use Rattle.std.specs.Io.KnownBytes.{Appends}
use Rattle.edge_io.specs.FaultCounts.{Rose}
use Rattle.pcap_file.specs.declared.head.Head.{Head}
use Rattle.pcap_file.specs.declared.record.Order.{Order}
use Rattle.pcap_file.specs.FileHead.{head_octets}
use Rattle.pcap_file.specs.Records.{record_octets}
use Rattle.capture_input.specs.declared.fault.InputFault.{InputFault}
use Rattle.capture_input.specs.declared.fault.InputFault.TheVariants as faults
use Rattle.capture_input.specs.Inputs.{newest_place, place_behind, Took, TakenWhole}
use Rattle.capture_input.specs.RecordReading.{StopsInHead, StopsAt}
use Rattle.rule_book.specs.declared.last.Last.TheVariants as last
use Rattle.rule_book.specs.declared.last.StopKind.TheVariants as kinds
use Rattle.rule_book.specs.Text.{last_text}
use Rattle.norm_settings.specs.SettingValues.{PlainSettings}
use Rattle.both_sides.specs.Outputs.{to_capture, to_report, capture_hands_on, report_hands_on, heading, capture_part, report_part}
use Rattle.both_sides.specs.RecordOutputs.{Put, count_put, next_put, octets_put, put_octets, puts}
use Rattle.both_sides.specs.RunTraces.{packets_of}
use Rattle.edge_io.specs.SeenEnds.{Seen}
use Rattle.bridge_run.specs.declared.stop.Stop.{Stop}
use Rattle.bridge_run.specs.declared.stop.Stop.TheVariants as stops
use Rattle.bridge_run.specs.RunMoments.{Moment}
use Rattle.bridge_run.specs.Outputs.{first_outputs, outputs_of}
use Rattle.bridge_run.specs.StopReasons.{FirstFault, Told, fault_kind, status_of, stop_line, memory_line}
use Rattle.bridge_run.specs.StoppedRun.{Stands, Faulty, Unwritten, StopsAtHead, StopsAtRecord, StopsAtTooMany, Stopped, StoppedUnder, LoadStopped, Finishes, SaysOnly}
use Rattle.bridge_run.specs.StatusMeanings.{Says, GivenUpTo, stop_of, capture_octets, report_octets, EndsAtHead, EndsAtRecord, EndsAtFault, EndsByTooMany, EndsFaulty, EndsCut, EndsUnread, EndsUnwritten, EndsUntold, EndsRefused, EndsSummed, EndsSummedInPart, UnderWords, UnderLoad}
use Rattle.bridge_run.proofs.Outputs.{capture_is, report_is, no_capture, capture_fails, first_fails, handing_fails, report_handing_fails, no_report, line_fails, nothing, handing}
use Rattle.bridge_run.proofs.Statuses.{known_of}

-- a line that was given after octets
says : (first line : List ℕ) (b a n : Seen) → Appends b.octets a.octets first → a.faults ≡ b.faults → Told a.octets n.octets a.faults n.faults line → Says first line b n
says first line b a n given same (inl whole) = inl (Appends-trans _ _ _ _ _ given whole)
says first line b a n given same (inr part) = inr (
  subst (λ k. Rose k n.faults) same part.0,
  record { count = part.1.count; given = Appends-trans _ _ _ _ _ given part.1.part },
)

-- octets that are not known afterwards were not known before
told_none : (old new : Option (List ℕ)) (octets : List ℕ) → Appends old new octets → new ≡ None → old ≡ None
told_none None new octets p e = refl
told_none (Some x) new octets p e = absurd (subst (λ s. Appends (Some x) s octets) e p)

-- a record with written octets has a frame
framed : (order : Order) (put : Put) → 0 < length (put_octets order put) → 0 < length put.frames
framed order put some = by put.frames some where
  by : (frames : List (List ℕ)) → 0 < length (flat_map (λ frame. record_octets order put.seconds put.fraction frame) frames) → 0 < length frames
  by [] some = some
  by (frame ∷ frames) some = omega arith

-- no line was given
quiet : (first next : List ℕ) (b a n : Seen) → GivenUpTo first next b.octets a.octets → Told a.octets n.octets a.faults n.faults [] → GivenUpTo first next b.octets n.octets
quiet first next b a n up told = record {
  count = up.count;
  given = subst (Appends b.octets n.octets) (append-nil (first ++ take up.count next)) (Appends-trans _ _ _ _ _ up.given nothing);
} where
  nothing : Appends a.octets n.octets []
  nothing =
      elim told [
        | inl whole ↦ whole
        | inr part ↦ subst (Appends a.octets n.octets) (take-nil part.1.count) part.1.part
      ]

module _ (settings : PlainSettings) (b a n : Moment) where
  -- at the moment of the stop and after it the source and the capture are alike
  pub record Behind : Type 0 where
    pub source : n.source ≡ a.source
    pub capture : n.sinks.capture.octets ≡ a.sinks.capture.octets

  ends_at_head : (fault : InputFault) (offset : ℕ) → Behind → StopsAtHead settings fault offset b a → a.sinks.report.faults ≡ b.sinks.report.faults
      → Told a.sinks.report.octets n.sinks.report.octets a.sinks.report.faults n.sinks.report.faults (stop_of (fault_kind fault) offset) → EndsAtHead settings fault b n
  ends_at_head fault offset behind p same told = record {
    offset = offset;
    taken = subst (λ (s : Seen). StopsInHead settings.inside b.source.octets s.octets fault offset) (sym behind.source) p.found;
    capture = subst (λ s. Appends b.sinks.capture.octets s []) (sym behind.capture) p.given.capture;
    report = says (heading settings.both) (stop_of (fault_kind fault) offset) b.sinks.report a.sinks.report n.sinks.report
        (subst (Appends b.sinks.report.octets a.sinks.report.octets) (append-nil (heading settings.both)) p.given.report) same told;
  }

  -- what was given of a run
  capture_given : (head : Head) (out : List Put) → Appends b.sinks.capture.octets a.sinks.capture.octets (capture_part (outputs_of settings.both head out)) → Behind
      → Appends b.sinks.capture.octets n.sinks.capture.octets (capture_octets head out)
  capture_given head out given behind =
      subst (λ s. Appends b.sinks.capture.octets s (capture_octets head out)) (sym behind.capture)
      (subst (Appends b.sinks.capture.octets a.sinks.capture.octets) (capture_is settings.both head out) given)

  report_given : (head : Head) (out : List Put) → Appends b.sinks.report.octets a.sinks.report.octets (report_part (outputs_of settings.both head out))
      → Appends b.sinks.report.octets a.sinks.report.octets (report_octets settings.both out)
  report_given head out given = subst (Appends b.sinks.report.octets a.sinks.report.octets) (report_is settings.both head out) given

  ends_at_record : (fault : InputFault) (offset : ℕ) → Behind → StopsAtRecord settings fault offset b a → a.sinks.report.faults ≡ b.sinks.report.faults
      → Told a.sinks.report.octets n.sinks.report.octets a.sinks.report.faults n.sinks.report.faults (stop_of (fault_kind fault) offset) → EndsAtRecord settings fault b n
  ends_at_record fault offset behind p same told = record {
    head = p.head;
    run = p.run;
    lawful = p.lawful;
    few = p.few;
    walk = p.walk;
    packets_are = p.packets_are;
    left = p.left;
    took = p.took;
    taken = subst (λ (s : Seen). StopsAt settings.inside p.head p.walk p.left s.octets fault) (sym behind.source) p.found;
    capture = capture_given p.head (puts settings p.head.link p.run) p.given.capture behind;
    report = says (report_octets settings.both (puts settings p.head.link p.run)) (stop_of (fault_kind fault) (place_behind p.walk)) b.sinks.report a.sinks.report n.sinks.report
        (report_given p.head (puts settings p.head.link p.run) p.given.report) same
        (subst (λ o. Told a.sinks.report.octets n.sinks.report.octets a.sinks.report.faults n.sinks.report.faults (stop_of (fault_kind fault) o)) p.place told);
  }

  -- the input has a fault

  faulty_row : (fault : InputFault) (offset : ℕ) → Behind → Faulty settings fault offset b a → a.sinks.report.faults ≡ b.sinks.report.faults
      → Told a.sinks.report.octets n.sinks.report.octets a.sinks.report.faults n.sinks.report.faults (stop_of (fault_kind fault) offset) → EndsAtFault settings fault b n
  faulty_row fault offset behind (inl p) same told = inl (ends_at_head fault offset behind p same told)
  faulty_row fault offset behind (inr p) same told = inr (ends_at_record fault offset behind p same told)

  -- there is one record more than allowed

  too_many_row : (offset : ℕ) → Behind → StopsAtTooMany settings offset b a → a.sinks.report.faults ≡ b.sinks.report.faults
      → Told a.sinks.report.octets n.sinks.report.octets a.sinks.report.faults n.sinks.report.faults (stop_of kinds.Many offset) → EndsByTooMany settings b n
  too_many_row offset behind p same told = record {
    both = p.both;
    head = p.head;
    run = p.run;
    lawful = p.lawful;
    full = p.full;
    packet = p.packet;
    walk = p.walk;
    packets_are = p.packets_are;
    ends = p.ends;
    took = subst (λ (s : Seen). Took settings.inside b.source.octets s.octets p.head p.walk) (sym behind.source) p.took;
    capture = capture_given p.head (puts settings p.head.link p.run) p.given.capture behind;
    report = says (report_octets settings.both (puts settings p.head.link p.run)) (stop_of kinds.Many (newest_place p.walk)) b.sinks.report a.sinks.report n.sinks.report
        (report_given p.head (puts settings p.head.link p.run) p.given.report) same
        (subst (λ o. Told a.sinks.report.octets n.sinks.report.octets a.sinks.report.faults n.sinks.report.faults (stop_of kinds.Many o)) p.place told);
  }

  -- the capture failed

  unwritten_row : (offset : ℕ) → Behind → Unwritten settings (stops.At kinds.Capture offset) b a → a.sinks.report.faults ≡ b.sinks.report.faults
      → Told a.sinks.report.octets n.sinks.report.octets a.sinks.report.faults n.sinks.report.faults (stop_of kinds.Capture offset) → EndsUnwritten settings b n
  unwritten_row offset behind (inl p) same told = absurd (no_capture [] (first_outputs settings.both) tt 0 offset b.sinks a.sinks p.broke)
  unwritten_row offset behind (inr (inl p)) same told =
      let f = capture_fails (first_outputs settings.both) (head_octets p.head) [] tt 0 offset b.sinks a.sinks p.broke in
      inl (record {
        head = p.head;
        walk = p.walk;
        silent = p.silent;
        ends = p.ends;
        took = subst (λ (s : Seen). Took settings.inside b.source.octets s.octets p.head p.walk) (sym behind.source) p.took;
        capture = subst (λ s. GivenUpTo [] (head_octets p.head) b.sinks.capture.octets s) (sym behind.capture) f.capture;
        report = says (heading settings.both) (stop_of kinds.Capture 0) b.sinks.report a.sinks.report n.sinks.report (subst (Appends b.sinks.report.octets a.sinks.report.octets) (append-nil (heading settings.both)) f.report) same
            (subst (λ o. Told a.sinks.report.octets n.sinks.report.octets a.sinks.report.faults n.sinks.report.faults (stop_of kinds.Capture o)) f.here told);
      })
  unwritten_row offset behind (inr (inr (inl p))) same told =
      let older = puts settings p.head.link p.older in
      let out = next_put settings p.head.link p.older p.packet in
      let f = capture_fails (outputs_of settings.both p.head older) (put_octets p.head.order out) (to_report out.text ∷ []) tt (newest_place p.walk) offset b.sinks a.sinks p.broke in
      inr (inl (record {
        head = p.head;
        packet = p.packet;
        older = p.older;
        lawful = p.lawful;
        few = p.few;
        walk = p.walk;
        packets_are = p.packets_are;
        ends = p.ends;
        took = subst (λ (s : Seen). Took settings.inside b.source.octets s.octets p.head p.walk) (sym behind.source) p.took;
        has_frame = framed p.head.order out f.some;
        capture = subst (λ l. GivenUpTo l (put_octets p.head.order out) b.sinks.capture.octets n.sinks.capture.octets) (capture_is settings.both p.head older)
            (subst (λ s. GivenUpTo (capture_part (outputs_of settings.both p.head older)) (put_octets p.head.order out) b.sinks.capture.octets s) (sym behind.capture) f.capture);
        report = says (report_octets settings.both older) (stop_of kinds.Capture (newest_place p.walk)) b.sinks.report a.sinks.report n.sinks.report (report_given p.head older f.report) same
            (subst (λ o. Told a.sinks.report.octets n.sinks.report.octets a.sinks.report.faults n.sinks.report.faults (stop_of kinds.Capture o)) f.here told);
      }))
  unwritten_row offset behind (inr (inr (inr (inl p)))) same told =
      let out = puts settings p.head.link p.run in
      let f = handing_fails (outputs_of settings.both p.head out) (report_hands_on ∷ []) tt (place_behind p.walk) offset b.sinks a.sinks p.broke in
      inr (inr (inl (record {
        head = p.head;
        run = p.run;
        lawful = p.lawful;
        few = p.few;
        walk = p.walk;
        packets_are = p.packets_are;
        ends = p.ends;
        took = subst (λ (s : Seen). Took settings.inside b.source.octets s.octets p.head p.walk) (sym behind.source) p.took;
        untold = told_none b.sinks.capture.octets a.sinks.capture.octets _ p.broke.broke.given.capture f.untold;
        report = says (report_octets settings.both out) (stop_of kinds.Capture (place_behind p.walk)) b.sinks.report a.sinks.report n.sinks.report (report_given p.head out f.report) same
            (subst (λ o. Told a.sinks.report.octets n.sinks.report.octets a.sinks.report.faults n.sinks.report.faults (stop_of kinds.Capture o)) f.here told);
      })))
  unwritten_row offset behind (inr (inr (inr (inr p)))) same told =
      let out = puts settings p.head.link p.run in
      let line = last_text (last.End (length (packets_of p.run)) (count_put out)) in
      let f = handing_fails (outputs_of settings.both p.head out) (to_report line ∷ report_hands_on ∷ []) tt (place_behind p.walk) offset b.sinks a.sinks p.broke in
      inr (inr (inr (record {
        head = p.head;
        run = p.run;
        lawful = p.lawful;
        few = p.few;
        walk = p.walk;
        packets_are = p.packets_are;
        took = subst (λ (s : Seen). Took settings.inside b.source.octets s.octets p.head p.walk) (sym behind.source) p.took;
        taken = subst (λ (s : Seen). TakenWhole b.source.octets s.octets) (sym behind.source) p.taken;
        untold = told_none b.sinks.capture.octets a.sinks.capture.octets _ p.broke.broke.given.capture f.untold;
        report = says (report_octets settings.both out) (stop_of kinds.Capture (place_behind p.walk)) b.sinks.report a.sinks.report n.sinks.report (report_given p.head out f.report) same
            (subst (λ o. Told a.sinks.report.octets n.sinks.report.octets a.sinks.report.faults n.sinks.report.faults (stop_of kinds.Capture o)) f.here told);
      })))

  -- the report failed

  untold_row : Behind → Unwritten settings stops.Report b a → Told a.sinks.report.octets n.sinks.report.octets a.sinks.report.faults n.sinks.report.faults [] → EndsUntold settings b n
  untold_row behind (inl p) told =
      let f = first_fails [] (heading settings.both) 0 b.sinks a.sinks p.broke in
      inl (record {
        untaken = ap (λ (s : Seen). s.octets) behind.source ∙ p.untaken;
        capture = subst (λ s. Appends b.sinks.capture.octets s []) (sym behind.capture) f.0;
        report = quiet [] (heading settings.both) b.sinks.report a.sinks.report n.sinks.report f.1 told;
      })
  untold_row behind (inr (inl p)) told = absurd (no_report (first_outputs settings.both) (head_octets p.head) 0 b.sinks a.sinks p.broke)
  untold_row behind (inr (inr (inl p))) told =
      let older = puts settings p.head.link p.older in
      let out = next_put settings p.head.link p.older p.packet in
      let octets = put_octets p.head.order out in
      let line = out.text in
      let f = line_fails (outputs_of settings.both p.head older) [] (to_capture octets) octets line (newest_place p.walk) b.sinks a.sinks (λ more. refl) (λ more. refl) refl nothing p.broke in
      let all : capture_part (outputs_of settings.both p.head older) ++ octets ≡ capture_octets p.head (out ∷ older) =
      ap (λ l. l ++ octets) (capture_is settings.both p.head older) ∙ append_assoc (head_octets p.head) (octets_put p.head.order older) octets in
      inr (inl (record {
        head = p.head;
        packet = p.packet;
        older = p.older;
        lawful = p.lawful;
        few = p.few;
        walk = p.walk;
        packets_are = p.packets_are;
        ends = p.ends;
        took = subst (λ (s : Seen). Took settings.inside b.source.octets s.octets p.head p.walk) (sym behind.source) p.took;
        capture = subst (λ s. Appends b.sinks.capture.octets s (capture_octets p.head (out ∷ older))) (sym behind.capture) (subst (Appends b.sinks.capture.octets a.sinks.capture.octets) all f.0);
        report = quiet (report_octets settings.both older) line b.sinks.report a.sinks.report n.sinks.report (subst (λ l. GivenUpTo l line b.sinks.report.octets a.sinks.report.octets) (report_is settings.both p.head older) f.1) told;
      }))
  untold_row behind (inr (inr (inr (inl p)))) told =
      let out = puts settings p.head.link p.run in
      let f = report_handing_fails (outputs_of settings.both p.head out) (place_behind p.walk) b.sinks a.sinks p.broke in
      inr (inr (inl (record {
        head = p.head;
        run = p.run;
        lawful = p.lawful;
        few = p.few;
        walk = p.walk;
        packets_are = p.packets_are;
        ends = p.ends;
        took = subst (λ (s : Seen). Took settings.inside b.source.octets s.octets p.head p.walk) (sym behind.source) p.took;
        capture = capture_given p.head out f.0 behind;
        untold = told_none b.sinks.report.octets a.sinks.report.octets _ p.broke.broke.given.report f.1;
      })))
  untold_row behind (inr (inr (inr (inr p)))) told =
      let out = puts settings p.head.link p.run in
      let line = last_text (last.End (length (packets_of p.run)) (count_put out)) in
      let f = line_fails (outputs_of settings.both p.head out) (report_hands_on ∷ []) capture_hands_on [] line (place_behind p.walk) b.sinks a.sinks (λ more. refl) (λ more. refl) refl handing p.broke in
      inr (inr (inr (record {
        head = p.head;
        run = p.run;
        lawful = p.lawful;
        few = p.few;
        walk = p.walk;
        packets_are = p.packets_are;
        took = subst (λ (s : Seen). Took settings.inside b.source.octets s.octets p.head p.walk) (sym behind.source) p.took;
        taken = subst (λ (s : Seen). TakenWhole b.source.octets s.octets) (sym behind.source) p.taken;
        capture = capture_given p.head out (subst (Appends b.sinks.capture.octets a.sinks.capture.octets) (append-nil (capture_part (outputs_of settings.both p.head out))) f.0) behind;
        report = quiet (report_octets settings.both out) line b.sinks.report a.sinks.report n.sinks.report (subst (λ l. GivenUpTo l line b.sinks.report.octets a.sinks.report.octets) (report_is settings.both p.head out) f.1) told;
      })))

  -- the definition of a status between 0 and 8
  abbrev pub RowAt : (status : ℕ) → Type 0
  RowAt status =
      elim (status == 3) [
        | true ↦ EndsFaulty settings b n
        | false ↦ elim (status == 4) [
          | true ↦ EndsCut settings b n
          | false ↦ elim (status == 5) [
            | true ↦ EndsUnread settings b n
            | false ↦ elim (status == 6) [ true ↦ EndsUnwritten settings b n | false ↦ EndsUntold settings b n ]
          ]
        ]
      ]

  row_of : (stop : Stop) → Stands settings stop b a → FirstFault stop b a → Behind
      → Told a.sinks.report.octets n.sinks.report.octets a.sinks.report.faults n.sinks.report.faults (stop_line stop) → RowAt (status_of stop)
  row_of (stops.At kinds.Magic offset) p first behind told = inl (record { fault = faults.Magic; other = refl; ends = faulty_row faults.Magic offset behind p first.sinks.report told })
  row_of (stops.At kinds.Version offset) p first behind told = inl (record { fault = faults.Version; other = refl; ends = faulty_row faults.Version offset behind p first.sinks.report told })
  row_of (stops.At kinds.Link offset) p first behind told = inl (record { fault = faults.Link; other = refl; ends = faulty_row faults.Link offset behind p first.sinks.report told })
  row_of (stops.At kinds.Block offset) p first behind told = inl (record { fault = faults.Block; other = refl; ends = faulty_row faults.Block offset behind p first.sinks.report told })
  row_of (stops.At kinds.Long offset) p first behind told = inl (record { fault = faults.Long; other = refl; ends = faulty_row faults.Long offset behind p first.sinks.report told })
  row_of (stops.At kinds.Many offset) (inl p) first behind told = inl (record { fault = faults.Many; other = refl; ends = faulty_row faults.Many offset behind p first.sinks.report told })
  row_of (stops.At kinds.Many offset) (inr p) first behind told = inr (too_many_row offset behind p first.sinks.report told)
  row_of (stops.At kinds.Cut offset) p first behind told = faulty_row faults.Cut offset behind p first.sinks.report told
  row_of (stops.At kinds.ReadFault offset) p first behind told = faulty_row faults.ReadFault offset behind p first.sinks.report told
  row_of (stops.At kinds.Capture offset) p first behind told = unwritten_row offset behind p first.sinks.report told
  row_of (stops.At kinds.Memory offset) p first behind told = absurd p
  row_of stops.Report p first behind told = untold_row behind p told

  pub row_at : (status : ℕ) (stop : Stop) → status ≡ status_of stop → Stands settings stop b a → FirstFault stop b a → Behind
      → Told a.sinks.report.octets n.sinks.report.octets a.sinks.report.faults n.sinks.report.faults (stop_line stop) → RowAt status
  row_at status stop answered p first behind told = subst RowAt (sym answered) (row_of stop p first behind told)

-- the state at such a status under given settings
under_row : (status : ℕ) → (status ≡ 0 → ⊥) → (status ≡ 8 → ⊥) → (settings : PlainSettings) (b n : Moment) → StoppedUnder settings status b n → RowAt settings b n n status
under_row status not_0 not_8 settings b n (inl finished) = absurd (not_0 finished.0)
under_row status not_0 not_8 settings b n (inr (inl wanting)) = absurd (not_8 wanting.0)
under_row status not_0 not_8 settings b n (inr (inr p)) =
    row_at settings b p.at n status p.stop p.answered p.stands p.first (record { source = p.source_stays; capture = p.capture_stays.octets }) p.told

-- a load that neither finished nor failed to allocate memory
load_row : (status : ℕ) → (status ≡ 0 → ⊥) → (status ≡ 8 → ⊥) → (seed count : ℕ) (b n : Moment) → LoadStopped seed count status b n → (status ≡ 7) × EndsSummedInPart seed count b n
load_row status not_0 not_8 seed count b n p =
    elim p.leaves [
      | inl summed ↦ absurd (not_0 summed.0)
      | inr (inl part) ↦ (part.0, record { touches = record { source_stays = p.source_stays; capture_stays = p.capture_stays }; summed = part.1 })
      | inr (inr wanting) ↦ absurd (not_8 wanting.0)
    ]

-- a run that was not refused, had its memory, and did not finish
pub stopped_row : (status : ℕ) → (status ≡ 0 → ⊥) → (status ≡ 2 → ⊥) → (status ≡ 7 → ⊥) → (status ≡ 8 → ⊥) → (words : List (List ℕ)) (b n : Moment) → Stopped words status b n → UnderWords words (λ settings. RowAt settings b n n status)
stopped_row status not_0 not_2 not_7 not_8 words b n (inl refused) = absurd (not_2 refused.1)
stopped_row status not_0 not_2 not_7 not_8 words b n (inr (inl wanting)) = absurd (not_8 wanting.0)
stopped_row status not_0 not_2 not_7 not_8 words b n (inr (inr (inl (settings, asks, p)))) = (settings, asks, under_row status not_0 not_8 settings b n p)
stopped_row status not_0 not_2 not_7 not_8 words b n (inr (inr (inr (seed, count, asks, p)))) = absurd (not_7 (load_row status not_0 not_8 seed count b n p).0)

-- a run whose report failed
pub failed_row : (words : List (List ℕ)) (b n : Moment) → Stopped words 7 b n
    → UnderWords words (λ settings. EndsUntold settings b n) ⊎ UnderLoad words (λ seed count. EndsSummedInPart seed count b n)
failed_row words b n (inl refused) = absurd (let e = refused.1 in omega (arith, e))
failed_row words b n (inr (inl wanting)) = absurd (let e = wanting.0 in omega (arith, e))
failed_row words b n (inr (inr (inl (settings, asks, p)))) = inl (settings, asks, under_row 7 (λ e. omega (arith, e)) (λ e. omega (arith, e)) settings b n p)
failed_row words b n (inr (inr (inr (seed, count, asks, p)))) = inr (seed, count, asks, (load_row 7 (λ e. omega (arith, e)) (λ e. omega (arith, e)) seed count b n p).1)

-- a load that finished
summed_row : (seed count : ℕ) (b n : Moment) → LoadStopped seed count 0 b n → EndsSummed seed count b n
summed_row seed count b n p =
    elim p.leaves [
      | inl summed ↦ record { touches = record { source_stays = p.source_stays; capture_stays = p.capture_stays }; summed = summed.1; none_rose = summed.2 }
      | inr (inl part) ↦ absurd (let e = part.0 in omega (arith, e))
      | inr (inr wanting) ↦ absurd (let e = wanting.0 in omega (arith, e))
    ]

-- a run that finished
pub finished_row : (words : List (List ℕ)) (b n : Moment) → Stopped words 0 b n
    → UnderWords words (λ settings. Finishes settings b n) ⊎ UnderLoad words (λ seed count. EndsSummed seed count b n)
finished_row words b n (inl refused) = absurd (let e = refused.1 in omega (arith, e))
finished_row words b n (inr (inl wanting)) = absurd (let e = wanting.0 in omega (arith, e))
finished_row words b n (inr (inr (inl (settings, asks, inl finished)))) = inl (settings, asks, finished.1)
finished_row words b n (inr (inr (inl (settings, asks, inr (inl wanting))))) = absurd (let e = wanting.0 in omega (arith, e))
finished_row words b n (inr (inr (inl (settings, asks, inr (inr p))))) = absurd (let least = (known_of settings p.stop b p.at p.stands).0 in let e = p.answered in omega (arith, least, e))
finished_row words b n (inr (inr (inr (seed, count, asks, p)))) = inr (seed, count, asks, summed_row seed count b n p)

-- a load returns 0, 7 or 8
load_answers : (seed count status : ℕ) (b n : Moment) → LoadStopped seed count status b n → (status ≡ 0) ⊎ (7 ≤ status)
load_answers seed count status b n p =
    elim p.leaves [
      | inl summed ↦ inl summed.0
      | inr (inl part) ↦ inr (let e = part.0 in omega (arith, e))
      | inr (inr wanting) ↦ inr (let e = wanting.0 in omega (arith, e))
    ]

no_load : (seed count : ℕ) (b n : Moment) → LoadStopped seed count 2 b n → ⊥
no_load seed count b n p = elim (load_answers seed count 2 b n p) [ inl none ↦ omega (arith, none) | inr most ↦ omega (arith, most) ]

-- invalid arguments
pub refused_row : (words : List (List ℕ)) (b n : Moment) → Stopped words 2 b n → EndsRefused words b n
refused_row words b n (inl refused) = record { fault = refused.0; refused = refused.2; says = refused.3 }
refused_row words b n (inr (inl wanting)) = absurd (let e = wanting.0 in omega (arith, e))
refused_row words b n (inr (inr (inl (settings, asks, inl finished)))) = absurd (let e = finished.0 in omega (arith, e))
refused_row words b n (inr (inr (inl (settings, asks, inr (inl wanting))))) = absurd (let e = wanting.0 in omega (arith, e))
refused_row words b n (inr (inr (inl (settings, asks, inr (inr p))))) = absurd (let least = (known_of settings p.stop b p.at p.stands).0 in let e = p.answered in omega (arith, least, e))
refused_row words b n (inr (inr (inr (seed, count, asks, p)))) = absurd (no_load seed count b n p)

-- a load whose memory could not be allocated
wanted : (seed count : ℕ) (b n : Moment) → LoadStopped seed count 8 b n → SaysOnly memory_line b n
wanted seed count b n p =
    elim p.leaves [
      | inl summed ↦ absurd (let e = summed.0 in omega (arith, e))
      | inr (inl part) ↦ absurd (let e = part.0 in omega (arith, e))
      | inr (inr wanting) ↦ record { source_stays = p.source_stays; capture_stays = p.capture_stays; told = wanting.1 }
    ]

-- memory could not be allocated
pub wanting_row : (words : List (List ℕ)) (b n : Moment) → Stopped words 8 b n → SaysOnly memory_line b n
wanting_row words b n (inl refused) = absurd (let e = refused.1 in omega (arith, e))
wanting_row words b n (inr (inl wanting)) = wanting.1
wanting_row words b n (inr (inr (inl (settings, asks, inl finished)))) = absurd (let e = finished.0 in omega (arith, e))
wanting_row words b n (inr (inr (inl (settings, asks, inr (inl wanting))))) = wanting.1
wanting_row words b n (inr (inr (inl (settings, asks, inr (inr p))))) = absurd (let most = (known_of settings p.stop b p.at p.stands).1 in let e = p.answered in omega (arith, most, e))
wanting_row words b n (inr (inr (inr (seed, count, asks, p)))) = wanted seed count b n p
