-- The end of a run: all records were read and the last line is written, so the capture and the
-- report are sound, promise by promise; or an output fails.
use Rattle.std.proofs.Common.{◌+◌, ◌-◌, [], ◌++◌, ap₂, subst, ◌∙◌, append-nil, ◌≡◌, ℕ, length}
use Rattle.std.specs.Io.KnownBytes.{Appends}
use Rattle.pcap_file.specs.declared.head.Head.{Head}
use Rattle.capture_input.specs.declared.input.Input.{Input}
use Rattle.capture_input.specs.Inputs.{packets_in, Took, TookAll, TakenWhole}
use Rattle.capture_input.specs.ReaderState.{head_in, asked_in}
use Rattle.norm_settings.specs.SettingValues.{PlainSettings, AreInRange, GoTogether}
use Rattle.both_sides.specs.declared.engines.Engines.{Engines}
use Rattle.both_sides.specs.Outputs.{Given}
use Rattle.both_sides.specs.RecordOutputs.{count_put, puts}
use Rattle.both_sides.specs.RelayState.{records_of}
use Rattle.both_sides.specs.RunTraces.{RunTrace, packets_of, one, two}
use Rattle.wire_base.specs.declared.address.Link.{Link}
use Rattle.capture_input.specs.RecordReading.{ReachesEnd}
use Rattle.capture_input.specs.InputLaws.{WholeIsInput}
use Rattle.rule_book.specs.declared.last.Last.TheVariants.{End}
use Rattle.rule_book.specs.Text.{last_text}
use Rattle.both_sides.specs.RunLaws.{RunIsWrittenSoundly, RunsAreWrittenSoundly}
use Rattle.both_sides.specs.BroughtOctets.{RunIsBrought, RunsAreBrought}
use Rattle.bridge_run.specs.RunMoments.{Moment}
use Rattle.bridge_run.specs.Outputs.{outputs_of, BreaksOff, end_outputs}
use Rattle.bridge_run.specs.working.RunParts.{Ended}
use Rattle.bridge_run.specs.Promises.{CleanKeepPayload, FramesFit, InwardArePlain, MonitorMissesNothing, ReceiversAgree, ReceiversReadOneStream, StateIsBounded}
use Rattle.bridge_run.specs.declared.stop.Stop.{Stop}
use Rattle.bridge_run.specs.Theorem.{Normalized}
use Rattle.bridge_run.specs.StoppedRun.{StopsAtEnd}
use Rattle.bridge_run.proofs.Outputs.{capture_part-append, report_part-append, given_after, broke_behind, capture_is, report_is}
use Rattle.bridge_run.proofs.Runs.{Going, counted, took_on}

-- what is written soundly, promise by promise
module _ (settings : PlainSettings) (link : Link) where
  agree_in : (run : RunTrace) → RunIsWrittenSoundly settings link run → ReceiversAgree settings link run
  agree_in (one trace) sound = sound.agree
  agree_in (two trace mirror) sound = (sound.agree, sound.agree_behind, sound.through)

  reads_in : (run : RunTrace) → RunIsWrittenSoundly settings link run → ReceiversReadOneStream settings link run
  reads_in (one trace) sound = sound.reads
  reads_in (two trace mirror) sound = (sound.reads, sound.reads_behind)

  monitor_in : (run : RunTrace) → RunIsWrittenSoundly settings link run → MonitorMissesNothing settings link run
  monitor_in (one trace) sound = sound.monitor
  monitor_in (two trace mirror) sound = (sound.monitor, sound.monitor_behind)

  within_in : (run : RunTrace) → RunIsWrittenSoundly settings link run → StateIsBounded settings link run
  within_in (one trace) sound = sound.within
  within_in (two trace mirror) sound = (sound.within, sound.within_behind)

  clean_in : (run : RunTrace) → RunIsWrittenSoundly settings link run → CleanKeepPayload settings link run
  clean_in (one trace) sound = sound.clean_kept
  clean_in (two trace mirror) sound = (sound.clean_kept, sound.clean_kept_behind)

  plain_in : (run : RunTrace) → RunIsWrittenSoundly settings link run → InwardArePlain settings link run
  plain_in (one trace) sound = sound.plain
  plain_in (two trace mirror) sound = (sound.plain, sound.plain_behind)

  fit_in : (run : RunTrace) → RunIsWrittenSoundly settings link run → FramesFit settings link run
  fit_in (one trace) sound = (sound.none_long, sound.short)
  fit_in (two trace mirror) sound = sound.short

-- No packet was left.

module _ (settings : PlainSettings) (head : Head) (a b : Moment) (engines : Engines) (input : Input) (frames : ℕ) (going : Going settings head a b engines input frames)
    (c : Moment) (input' : Input) (whole : WholeIsInput) (ends : ReachesEnd input input' settings.inside going.walk b.source.octets c.source.octets) (count : ℕ) (counts : count ≡ records_of engines) where
  pub took_end : Took settings.inside a.source.octets c.source.octets head ends.farther
  took_end = took_on settings.inside a.source.octets b.source.octets c.source.octets (head_in input) head going.walk ends.farther going.input_head ends.continues going.so_far.took

  packets_end : packets_in ends.farther ≡ packets_of going.run
  packets_end = ends.silent ∙ going.so_far.packets_are

  all_taken : TookAll settings.inside a.source.octets head (packets_in ends.farther) × TakenWhole a.source.octets c.source.octets
  all_taken = whole settings.inside a.source.octets b.source.octets c.source.octets head going.walk ends.farther going.so_far.took ends.whole took_end

  -- the last line is written
  pub normalized : RunsAreWrittenSoundly → RunsAreBrought → AreInRange settings → GoTogether settings → Ended count frames b.sinks c.sinks
      → Normalized settings a.source.octets c.source.octets a.sinks.capture.octets c.sinks.capture.octets a.sinks.report.octets c.sinks.report.octets
  normalized soundly traced range together ended =
      let run = going.run in
      let now = going.so_far in
      let sound : RunIsWrittenSoundly settings head.link run = soundly settings head.link run range together now.lawful now.octets now.sideless in
      let brought : RunIsBrought settings head.link run = traced settings head.link run range.hops now.lawful now.octets in
      let out = puts settings head.link run in
      let before = outputs_of settings.both head out in
      let all : Given (before ++ end_outputs count frames) a.sinks c.sinks = given_after _ _ a.sinks b.sinks c.sinks now.given ended.given in
      let line : last_text (End count frames) ++ [] ≡ last_text (End (length (packets_of run)) (count_put out)) =
      append-nil _ ∙ ap₂ (λ x y. last_text (End x y)) (counts ∙ counted engines run going.stands) going.frames_are in
      record {
        head = head;
        run = run;
        range = range;
        agree = agree_in settings head.link run sound;
        reads = reads_in settings head.link run sound;
        monitor = monitor_in settings head.link run sound;
        lawful = now.lawful;
        brought = brought.brought;
        clashes = brought.clashes;
        fragment_clashes = brought.fragment_clashes;
        within = within_in settings head.link run sound;
        clean = clean_in settings head.link run sound;
        plain = plain_in settings head.link run sound;
        fit = fit_in settings head.link run sound;
        octets = now.octets;
        times = now.times;
        few = now.few;
        whole = subst (TookAll settings.inside a.source.octets head) packets_end all_taken.0;
        taken = all_taken.1;
        frames_written = subst (Appends a.sinks.capture.octets c.sinks.capture.octets) (capture_part-append before _ ∙ append-nil _ ∙ capture_is settings.both head out) all.capture;
        report_written = subst (Appends a.sinks.report.octets c.sinks.report.octets)
            (report_part-append before _ ∙ ap₂ (λ x y. x ++ y) (report_is settings.both head out) line) all.report;
      }

  -- an output at the end failed
  pub stops_at_end : (offset : ℕ) (stop : Stop) → offset ≡ asked_in input' → BreaksOff [] (end_outputs count frames) offset stop b.sinks c.sinks → StopsAtEnd settings stop a c
  stops_at_end offset stop place broke =
      let run = going.run in
      let out = puts settings head.link run in
      let outputs : end_outputs count frames ≡ end_outputs (length (packets_of run)) (count_put out) = ap₂ end_outputs (counts ∙ counted engines run going.stands) going.frames_are in
      record {
        head = head;
        run = run;
        lawful = going.so_far.lawful;
        few = going.so_far.few;
        walk = ends.farther;
        packets_are = packets_end;
        took = took_end;
        taken = all_taken.1;
        broke = broke_behind (outputs_of settings.both head out) _ _ stop a.sinks b.sinks c.sinks going.so_far.given
            (subst (λ o. BreaksOff [] (end_outputs (length (packets_of run)) (count_put out)) o stop b.sinks c.sinks) (place ∙ ends.place)
            (subst (λ next. BreaksOff [] next offset stop b.sinks c.sinks) outputs broke));
      }
