-- One more line of a run was taken: what was read and shown of it.
use Rattle.std.proofs.Common.{◌≡◌, ℕ, zero, suc, ◌+◌, ◌==◌, ◌&&◌, ◌||◌, Bool, true, false, List, [], ◌∷◌, Option, Some, None, refl, sym, ap, subst, ◌∙◌, inl, inr, arith, length-append, map, if◌then◌else◌}
use Rattle.pcap_file.specs.declared.head.Head.{Head}
use Rattle.pcap_file.specs.Records.{Packet}
use Rattle.rule_book.specs.Entries.{PlainEntry}
use Rattle.rule_book.specs.ReportReading.{IsEntryOf}
use Rattle.view_text.specs.PlainLines.{plain_line}
use Rattle.run_view.specs.declared.item.Files.{Files}
use Rattle.run_view.specs.declared.item.Frames.{Frames}
use Rattle.run_view.specs.declared.item.Gathered.{Gathered}
use Rattle.run_view.specs.declared.item.Held.{Held}
use Rattle.run_view.specs.declared.judged.Judged.{Judged}
use Rattle.run_view.specs.declared.chosen.Meets.{Meets}
use Rattle.run_view.specs.declared.form.Form.{Form}
use Rattle.run_view.specs.declared.show.Printing.{Printing}
use Rattle.run_view.specs.declared.tally.Tally.{Tally}
use Rattle.run_view.specs.declared.viewer.Viewer.{Viewer}
use Rattle.run_view.specs.ChosenRecords.{either, meets_record, met_by, met_of}
use Rattle.run_view.specs.ShownEvents.{newest_event, records_shown}
use Rattle.run_view.specs.Forms.{answers, is_both, own_frames, version_of}
use Rattle.run_view.specs.Items.{Item, by_first, flow_at, frames_of, is_passed, is_unchanged, kinds_in, line_by, nanoseconds, owed_of, packets_of, time_of}
use Rattle.run_view.specs.working.LinePositions.{waits}
use Rattle.run_view.specs.LineJudgments.{is_pass, kinds_by}
use Rattle.run_view.specs.working.ShownLines.{NotesLine, PlainShown, line_of_shown, lines_with, met_shown}
use Rattle.run_view.specs.working.ViewerProgress.{Ends, HoldsNewest, PrintsSo, ViewerAt, Taken, ends_of}
use Rattle.run_view.specs.working.ReaderPositions.{InputAt}
use Rattle.run_view.specs.working.RecordReading.{Holds, IsGathered, PlainOriginal, RecordRead, RecordStop, is_copied}
use Rattle.run_view.specs.working.SourceContents.{HasNextLine}
use Rattle.run_view.specs.working.LineProgress.{Going}
use Rattle.run_view.specs.working.RestOfRun.{AreNoRest}
use Rattle.run_view.specs.RunFiles.{IsNoCapture, IsNoInput, sources_of}
use Rattle.run_view.specs.StopMeanings.{Says}
use Rattle.run_view.specs.declared.stop.Stop.{Stop}
use Rattle.edge_io.specs.FaultCounts.{Rose}
use Rattle.run_view.proofs.Finished.{record_stop}
use Rattle.run_view.proofs.NextLine.{told_of}
use Rattle.run_view.proofs.Records.{begins_at}
use Rattle.run_view.proofs.SameItems.{IsSaidOfNewest}
use Rattle.run_view.proofs.Shown.{prints_more, shown_is, shows_more}

-- the item of a line of the first engine, and that of one of the second after others
abbrev pub first_item : Form → Packet → PlainEntry → (frames : List Packet) → Item
first_item form packet entry frames =
    record { packet = packet; entry = entry; frames = frames; first = None; owed = answers form entry.packets }

abbrev pub second_item : (newest : Item) → PlainEntry → (frames : List Packet) → (owed : ℕ) → Item
second_item newest entry frames owed =
    record { packet = newest.packet; entry = entry; frames = frames; first = Some (by_first newest); owed = owed }

-- what the frames of an item are compared with, in a report of this form
abbrev pub original_of : Form → Head → Item → PlainOriginal
original_of form head item =
    record {
      link = head.link;
      kinds = kinds_in item;
      passed = is_passed (is_both form) item.entry item.first;
      seconds = item.packet.seconds;
      fraction = item.packet.fraction;
      octets = item.packet.octets;
    }

-- a record that was passed was written as it is
unchanged_of : (form : Form) (head : Head) (item : Item) (of : PlainOriginal) (own : List Packet) → of ≡ original_of form head item → own ≡ item.frames
    → (of.passed ≡ true → is_copied of own ≡ true)
    → is_passed (is_both form) item.entry item.first ≡ true → is_unchanged item ≡ true
unchanged_of form head item of own same frames copied passed =
    let P : PlainOriginal → Type 0 = λ o. o.passed ≡ true → is_copied o own ≡ true in
    let F : List Packet → Type 0 = λ fs. is_copied (original_of form head item) fs ≡ true in
    subst F frames (subst P same copied passed)

-- a line of the first engine was taken
pub taken_first : (old : Viewer) (files : Files) (held : Held) (packets owed : ℕ) (of : PlainOriginal) (tally : Tally) (printing : Printing) (shown : PlainShown)
    (head : Head) (before mid : Ends) (read_now written_now : Option (List ℕ)) (items : List Item) (packet : Packet) (gathered : Gathered)
    → old.owed ≡ 0 → files.count ≡ old.files.count + 1 → files.frames.count ≡ old.files.frames.count + packets
    → packets ≡ own_frames old.form shown.entry.packets
    → of ≡ original_of old.form old.files.head (first_item old.form packet shown.entry [])
    → owed ≡ answers old.form shown.entry.packets → shown.second ≡ false → shown.given ≡ is_both old.form → shown.number ≡ shown.entry.number
    → shown.time ≡ time_of old.files.head packet → shown.link ≡ old.files.head.link → shown.octets ≡ packet.octets
    → shown.before ≡ old.files.frames.count
    → (waits owed ≡ true → Holds packet.octets packet.seconds packet.fraction shown.entry held)
    → ViewerAt old head before mid items → IsEntryOf (version_of old.form) shown.entry → shown.entry.number ≡ old.files.count + 1
    → InputAt files.input old.files.head before.read read_now (packet ∷ packets_of items)
    → RecordRead files.frames before.written written_now head (frames_of items) of packets gathered
    → NotesLine old.printing printing old.asked owed (met_shown old.asked shown old.printing.met)
    (lines_with shown.second (map plain_line old.printing.lines.items) (line_of_shown shown gathered))
    → Taken (record old { files = record files { head = old.files.head }; held = held; owed = owed; tally = tally; printing = printing }) head before
    (ends_of read_now written_now mid.shown) items (line_by false shown.entry)
taken_first old files held packets owed of tally printing shown head before mid read_now written_now items packet gathered none
    one_more frames_more packets_are of_is owed_is first_is given_is number_is time_is link_is octets_are before_is holds so_far fits number input all notes =
    let own = old.files.head in
    let entry = shown.entry in
    let frames = all.read in
    let item = first_item old.form packet entry frames.own in
    let O : PlainOriginal → Type 0 = λ o. IsGathered o frames.own gathered in
    let gathers : IsGathered (original_of old.form own item) frames.own gathered = subst O of_is frames.gathers in
    let met : met_shown old.asked shown old.printing.met ≡ met_by old.asked false entry (flow_at own.link packet.octets) =
    λ i. if first_is i then either old.printing.met (met_by old.asked (first_is i) entry (flow_at (link_is i) (octets_are i)))
    else met_by old.asked (first_is i) entry (flow_at (link_is i) (octets_are i)) in
    let line =
    shown_is old.form own item items shown gathered
    (record {
      second_is = first_is;
      given_is = given_is;
      number_is = number_is;
      time_is = time_is;
      link_is = link_is;
      octets_are = octets_are;
      entry_is = refl;
      before_is = before_is ∙ so_far.frame_count;
    })
    gathers.changes in
    let N : ℕ → Type 0 = λ n.
    NotesLine old.printing printing old.asked n (met_shown old.asked shown old.printing.met)
    (lines_with shown.second (map plain_line old.printing.lines.items) (line_of_shown shown gathered)) in
    let more =
    prints_more old.printing printing old.asked old.form own item items (met_shown old.asked shown old.printing.met)
    (lines_with shown.second (map plain_line old.printing.lines.items) (line_of_shown shown gathered))
    so_far.printing.count (λ prints. met)
    (λ prints whole meets i. lines_with (first_is i) (map plain_line old.printing.lines.items) (line i))
    (subst N owed_is notes) in
    let P : ℕ → Type 0 = λ n. PrintsSo printing old.asked old.form own n (item ∷ items) in
    record {
      item = item;
      line_is = refl;
      due = more.due;
      so_far =
          λ shown_now more_shown.
          record {
            are = (
              record {
                fits = fits;
                turn = inl (record {
                  none_owed = sym so_far.owed ∙ none;
                  alone = refl;
                  number = number ∙ ap (λ n. n + 1) so_far.count;
                  frames = frames.count ∙ packets_are;
                  owes = refl;
                });
                unchanged = unchanged_of old.form own item of frames.own of_is refl all.unchanged;
              },
              so_far.are,
            );
            input = input;
            output = frames.stands;
            count = one_more ∙ omega (arith, so_far.count);
            second_count = so_far.second_count;
            frame_count = omega (arith, frames_more, so_far.frame_count, length-append frames.own (frames_of items), frames.count);
            owed = owed_is;
            newest = holds;
            printing = subst P (sym owed_is) more.so;
            shown =
                shows_more before.shown mid.shown shown_now (records_shown old.asked old.form own items)
                (newest_event old.asked old.form own (item ∷ items)) so_far.shown
                more_shown;
          };
    }

-- the same of a line of the second engine, by what is held for its record
abbrev pub original_held : Head → Held → PlainEntry → (owed : ℕ) → PlainOriginal
original_held head held entry owed =
    record {
      link = head.link;
      kinds = kinds_by entry (held.judged.dropped || (held.judged.probe && (owed == 0))) held.judged.datagram;
      passed = held.judged.passed && is_pass entry.verdict;
      seconds = held.seconds;
      fraction = held.fraction;
      octets = held.octets.items;
    }

no_owed : (owed : ℕ) → 0 ≡ owed + 1 → ⊥
no_owed owed same = omega (arith, same)

owed_waits : (owed before : ℕ) → before ≡ owed + 1 → waits before ≡ true
owed_waits owed zero is = absurd (no_owed owed is)
owed_waits owed (suc before) is = refl

-- the conditions on a record are met before a line of the second engine if they are with it
meets_before : (one other : Meets) → other.side ≡ false → other.host ≡ false → meets_record (either one other) ≡ true → meets_record one ≡ true
meets_before one other no_side no_host meets =
    let e : ((one.side || false) && (one.host || false)) ≡ meets_record (either one other) =
    λ i. (one.side || sym no_side i) && (one.host || sym no_host i) in
    by one.side one.host (e ∙ meets) where
      by : (a b : Bool) → ((a || false) && (b || false)) ≡ true → (a && b) ≡ true
      by true true is = refl
      by true false is = cc
      by false b is = cc

-- a line of the second engine was taken
pub taken_second : (old : Viewer) (frames_now : Frames) (of : PlainOriginal) (owed second_count : ℕ) (tally : Tally) (printing : Printing) (shown : PlainShown)
    (head : Head) (before mid : Ends) (written_now : Option (List ℕ)) (items : List Item) (gathered : Gathered)
    → old.owed ≡ owed + 1 → second_count ≡ old.second_count + 1 → frames_now.count ≡ old.files.frames.count + shown.entry.packets
    → of ≡ original_held old.files.head old.held shown.entry owed
    → shown.second ≡ true → shown.given ≡ false → shown.number ≡ old.held.judged.number
    → shown.time ≡ nanoseconds old.files.head old.held.seconds old.held.fraction
    → shown.link ≡ old.files.head.link → shown.octets ≡ old.held.octets.items → shown.before ≡ old.files.frames.count
    → ViewerAt old head before mid items → IsEntryOf (version_of old.form) shown.entry → shown.entry.number ≡ old.second_count + 1
    → RecordRead frames_now before.written written_now head (frames_of items) of shown.entry.packets gathered
    → NotesLine old.printing printing old.asked owed (met_shown old.asked shown old.printing.met)
    (lines_with shown.second (map plain_line old.printing.lines.items) (line_of_shown shown gathered))
    → Taken (record old {
      files = record old.files { frames = frames_now };
      owed = owed;
      second_count = second_count;
      tally = tally;
      printing = printing;
    }) head before (ends_of mid.read written_now mid.shown) items (line_by true shown.entry)
taken_second old frames_now of owed second_count tally printing shown head before mid written_now [] gathered owes counts_one
    frames_more of_is second_is given_is number_is time_is link_is octets_is before_is so_far fits number all notes =
    absurd (no_owed owed (sym so_far.owed ∙ owes))
taken_second old frames_now of owed second_count tally printing shown head before mid written_now (newest ∷ older) gathered owes counts_one
    frames_more of_is second_is given_is number_is time_is link_is octets_is before_is so_far fits number all notes =
    let own = old.files.head in
    let items = newest ∷ older in
    let entry = shown.entry in
    let frames = all.read in
    let item = second_item newest entry frames.own owed in
    let held = so_far.newest (owed_waits owed old.owed owes) in
    let judged = held.judged_is in
    let same = octets_is ∙ held.octets_are in
    let of_item : of ≡ original_of old.form own item = of_is ∙ (λ i. record {
      link = own.link;
      kinds = kinds_by entry ((judged i).dropped || ((judged i).probe && (owed == 0))) (judged i).datagram;
      passed = (judged i).passed && is_pass entry.verdict;
      seconds = held.seconds_is i;
      fraction = held.fraction_is i;
      octets = held.octets_are i;
    }) in
    let O : PlainOriginal → Type 0 = λ o. IsGathered o frames.own gathered in
    let gathers : IsGathered (original_of old.form own item) frames.own gathered = subst O of_item frames.gathers in
    let lines = so_far.printing.lines (owed_waits owed old.owed owes) in
    let flow = flow_at own.link newest.packet.octets in
    let met : met_shown old.asked shown old.printing.met ≡ either old.printing.met (met_by old.asked true entry flow) =
    λ i. if second_is i then either old.printing.met (met_by old.asked (second_is i) entry (flow_at (link_is i) (same i)))
    else met_by old.asked (second_is i) entry (flow_at (link_is i) (same i)) in
    let line =
    shown_is old.form own item items shown gathered
    (record {
      second_is = second_is;
      given_is = given_is;
      number_is = number_is ∙ ap (λ (j : Judged). j.number) judged;
      time_is = time_is ∙ (λ i. nanoseconds own (held.seconds_is i) (held.fraction_is i));
      link_is = link_is;
      octets_are = same;
      entry_is = refl;
      before_is = before_is ∙ so_far.frame_count;
    })
    gathers.changes in
    let more =
    prints_more old.printing printing old.asked old.form own item items (met_shown old.asked shown old.printing.met)
    (lines_with shown.second (map plain_line old.printing.lines.items) (line_of_shown shown gathered))
    so_far.printing.count (λ prints. met ∙ ap (λ m. either m (met_by old.asked true entry flow)) (lines prints).met)
    (λ prints whole meets.
    let before_so : meets_record (met_of old.asked own items) ≡ true =
    sym (ap meets_record (lines prints).met) ∙ meets_before old.printing.met (met_by old.asked true entry flow) refl refl (sym (ap meets_record met) ∙ meets) in
    λ i. lines_with (second_is i) ((lines prints).lines whole before_so i) (line i))
    notes in
    record {
      item = item;
      line_is = refl;
      due = more.due;
      so_far =
          λ shown_now more_shown.
          record {
            are = (
              record {
                fits = fits;
                turn = inr (record {
                  owes = sym so_far.owed ∙ owes;
                  newest = (refl, refl);
                  number = number ∙ ap (λ n. n + 1) so_far.second_count;
                  frames = frames.count;
                });
                unchanged = unchanged_of old.form own item of frames.own of_item refl all.unchanged;
              },
              so_far.are,
            );
            input = so_far.input;
            output = frames.stands;
            count = so_far.count;
            second_count = omega (arith, counts_one, so_far.second_count);
            frame_count = omega (arith, frames_more, so_far.frame_count, length-append frames.own (frames_of items), frames.count);
            owed = refl;
            newest = λ waiting. held;
            printing = more.so;
            shown =
                shows_more before.shown mid.shown shown_now (records_shown old.asked old.form own items)
                (newest_event old.asked old.form own (item ∷ items)) so_far.shown
                more_shown;
          };
    }

-- the record that is held, and what is compared of it
pub record IsHeldFor (of : PlainOriginal) (held : Held) : Type 0 where
  pub octets_are : of.octets ≡ held.octets.items
  pub seconds_is : of.seconds ≡ held.seconds
  pub fraction_is : of.fraction ≡ held.fraction

-- the frames of a line of the second engine were not read, or are no copy of a record that was
-- passed
pub held_stop : (viewer : Viewer) (head : Head) (before now : Ends) (report left : Option (List ℕ)) (going : Going viewer head before now report left)
    (entry : PlainEntry) (of : PlainOriginal) (packets from to : ℕ) (stop : Stop) → waits (owed_of going.items) ≡ true → IsHeldFor of viewer.held
    → of.passed ≡ (viewer.held.judged.passed && is_pass entry.verdict) → HasNextLine viewer.form going.items left entry
    → RecordStop before.written head (frames_of going.items) of packets from to stop
    → packets ≡ entry.packets
    → Says ⊥ (AreNoRest viewer.form (sources_of before.read before.written report)) (IsNoInput before.read) (IsNoCapture before.written) (Rose from to) ⊥ stop
held_stop viewer head before now report left going entry of packets from to stop waiting held passed line why counts = by going.items refl where
  by : (items : List Item) → going.items ≡ items
      → Says ⊥ (AreNoRest viewer.form (sources_of before.read before.written report)) (IsNoInput before.read) (IsNoCapture before.written) (Rose from to) ⊥ stop
  by [] is = let e = sym waiting ∙ ap (λ l. waits (owed_of l)) is in absurd (cc)
  by (newest ∷ older) is =
      let so_far = going.so_far in
      let holds : HoldsNewest viewer (newest ∷ older) = subst (HoldsNewest viewer) is so_far.newest in
      let newest_held = holds (ap waits so_far.owed ∙ waiting) in
      record_stop (sources_of before.read before.written report) viewer.form going.items left (told_of viewer head before now report left going)
      viewer.files.head head entry newest.packet (Some (by_first newest)) of true packets from to stop waiting counts
      (record {
        octets_are = held.octets_are ∙ newest_held.octets_are;
        seconds_is = held.seconds_is ∙ newest_held.seconds_is;
        fraction_is = held.fraction_is ∙ newest_held.fraction_is;
      })
      (passed ∙ ap (λ (j : Judged). j.passed && is_pass entry.verdict) newest_held.judged_is) line (
        waiting,
        begins_at viewer.files.input viewer.files.head before.read now.read (packets_of going.items) so_far.input,
        subst (λ l. IsSaidOfNewest l newest.packet (by_first newest)) (sym is) (refl, refl),
      ) (λ rose. rose) why
