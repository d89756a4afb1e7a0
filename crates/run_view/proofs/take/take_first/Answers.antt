use Rattle.std.proofs.Common.{◌+◌, ◌∙◌, ◌∷◌, false, None, refl, sym, ap, inl, inr}
use Rattle.std.proofs.lemmas.Result.{err_from_is_err_and}
use Rattle.pcap_file.specs.RecordReading.{shown as packet_of}
use Rattle.rule_book.specs.Entries.{plain}
use Rattle.run_view.specs.Items.{frames_of, is_passed, packets_of}
use Rattle.run_view.specs.working.LinePositions.{waits}
use Rattle.run_view.proofs.Records.{begins_at}
use Rattle.run_view.specs.RunFiles.{sources_of}
use Rattle.run_view.proofs.Finished.{no_record, record_stop}
use Rattle.run_view.proofs.LineTaken.{taken_first}
use Rattle.run_view.proofs.NextLine.{told_of}
use Rattle.run_view.proofs.Stopping.{says_more}
use Rattle.run_view.proofs.take.take_first.Goals as goal

pub returns-in_err-record-clause-stops : goal.returns-in_err-record-clause-stops
returns-in_err-record-clause-stops g c =
    let p = err_from_is_err_and c.from_residual.result c.from_residual.ensures.1 in rw (p.1, p.2)
    (λ head before shown report left going line.
    says_more (λ x. x) (λ none. absurd none) (λ x. x) (λ none. absurd none) (λ rose. inl rose) (λ x. x) _
    (c.in_err-record.ensures.stops c.args.viewer.now.files.head before.read (packets_of going.items) going.so_far.input))

pub returns-in_default-clause-stops : goal.returns-in_default-clause-stops
returns-in_default-clause-stops g c head before shown report left going line =
    let viewer = c.args.viewer.now in
    record {
      is = no_record (sources_of before.read before.written report) viewer.form going.items left (told_of viewer head before _ report left going)
          viewer.files.head (plain c.args.entry.now) line (sym going.so_far.owed ∙ c.requires.none_owed)
          (rw c.in_default.is at (c.in_ok-record.ensures.reads viewer.files.head before.read (packets_of going.items) going.so_far.input));
    }

pub returns-in_err-gather-clause-stops : goal.returns-in_err-gather-clause-stops
returns-in_err-gather-clause-stops g c =
    let p = err_from_is_err_and c.from_residual-in_err-gather.result c.from_residual-in_err-gather.ensures.1 in rw (p.1, p.2)
    (λ head before shown report left going line.
    let viewer = c.args.viewer.now in
    let none = sym going.so_far.owed ∙ c.requires.none_owed in
    record_stop (sources_of before.read before.written report) viewer.form going.items left (told_of viewer head before _ report left going) viewer.files.head head
    (plain c.args.entry.now) (packet_of c.in-Some.record) None _ false c.own_frames-packets.result _ _ _ (ap waits none) c.own_frames-packets.ensures
    (record { octets_are = refl; seconds_is = refl; fraction_is = refl })
    (c.is_passed_first.ensures ∙ ap (λ b. is_passed b (plain c.args.entry.now) None) c.is_both-both.ensures) line (
      none,
      begins_at _ viewer.files.head before.read _ (packet_of c.in-Some.record ∷ packets_of going.items)
          (rw c.in-Some.is at (c.in_ok-record.ensures.reads viewer.files.head before.read (packets_of going.items) going.so_far.input)),
    ) (λ rose. inr rose)
    (c.in_err-gather.ensures.stops before.written head (frames_of going.items) going.so_far.output))

pub returns-clause-taken : goal.returns-clause-taken
returns-clause-taken g c head before shown items so_far fits number =
    let viewer = c.args.viewer.now in
    taken_first viewer (record viewer.files {
      input = c.next_record.new.input;
      buffer = _;
      count = viewer.files.count + 1;
      frames = c.gather.new.frames;
    }) c.hold.new.held c.own_frames-packets.result c.answers-owed.result
    _ c.note.new.self c.note_line.new.printing _ head before _ _ _ items (packet_of c.in-Some.record)
    c.gather.new.gathered c.requires.none_owed refl
    c.in_ok-gather.ensures.count c.own_frames-packets.ensures
    (λ i. record {
      link = viewer.files.head.link;
      kinds = c.kinds_by.ensures i;
      passed = (c.is_passed_first.ensures ∙ ap (λ b. is_passed b (plain c.args.entry.now) None) c.is_both-both.ensures) i;
      seconds = c.in-Some.record.seconds;
      fraction = c.in-Some.record.fraction;
      octets = c.in-Some.record.bytes.now;
    }) c.answers-owed.ensures refl c.is_both-both.ensures refl
    c.time_of-time.ensures refl refl refl
    c.in_ok-hold.ensures so_far fits number
    (rw c.in-Some.is at (c.in_ok-record.ensures.reads viewer.files.head before.read (packets_of items) so_far.input))
    (c.in_ok-gather.ensures.read before.written head (frames_of items) so_far.output) c.in_ok-note_line.ensures
