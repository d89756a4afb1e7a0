-- The files of a finished run have, after any items that they give, the next line with its record
-- and frames, or their ends.
use Rattle.std.proofs.Common.{◌≡◌, ◌⊎◌, ℕ, ◌+◌, ◌<◌, Bool, true, false, List, [], ◌∷◌, ◌++◌, length, Option, Some, None, IfSome, if◌then◌else◌, refl, sym, ap, subst, ◌∙◌, inl, inr, arith, length-append, append-nil, append_assoc}
use Rattle.std.specs.Io.KnownBytes.{Consumes}
use Rattle.std.proofs.lemmas.List.{append_cancel_left}
use Rattle.pcap_file.specs.declared.head.Head.{Head}
use Rattle.pcap_file.specs.Records.{Packet}
use Rattle.pcap_file.specs.Capture.{IsCapture}
use Rattle.capture_input.specs.Inputs.{IsInput, TookAll}
use Rattle.rule_book.specs.Entries.{PlainEntry}
use Rattle.rule_book.specs.Text.{last_text}
use Rattle.rule_book.specs.declared.last.Last.TheVariants.{End}
use Rattle.run_view.specs.Forms.{heading, is_both, version_of}
use Rattle.run_view.specs.working.SourceContents.{HasNextLine, IsOver, IsSomeOctet}
use Rattle.run_view.proofs.Fronts.{IsNoNext, TookLast, frames_by, heading_front, heading_one}
use Rattle.run_view.proofs.Oldest.{BeginsWithFrames, BeginsWithRecords, oldest_frames, HasAllFrames, HasAllRecords, all_frames, all_records, frames_most, has_frames, has_records, records_most}
use Rattle.run_view.specs.Items.{AreItems, Item, Line, end_text, frames_of, is_only_copy, is_passed, is_second, lines_of, lines_text, owed_of, packets_of, text_by}
use Rattle.run_view.specs.working.LinePositions.{turn_of, waits}
use Rattle.edge_io.specs.FaultCounts.{Rose}
use Rattle.run_view.specs.working.RestOfRun.{AreNoRest}
use Rattle.run_view.specs.RunFiles.{AreNoRun, AreOfARun, FaultCounts, IsNoCapture, IsNoInput, SourceRose, Sources, sources_of}
use Rattle.run_view.specs.working.RecordReading.{PlainOriginal, RecordStop}
use Rattle.run_view.specs.working.StopCauses.{FilesStop, IsNoFirst, RestStop}
use Rattle.run_view.specs.StopMeanings.{Says}
use Rattle.run_view.specs.declared.stop.Stop.{Stop}
use Rattle.run_view.specs.declared.form.Form.{Form}
use Rattle.run_view.specs.declared.turn.Turn.{Turn}
use Rattle.run_view.proofs.Numbered.{AreLines, AtEnd, IsNextOf, are_lines, compare, done_if, few_firsts, firsts_in, firsts_length, frames_total, in_front, no_entry_end, one_entry, owed_in, owed_is, records_length, small_total, total, turn_behind, turn_lines}
use Rattle.run_view.proofs.SameItems.{IsComparedWith, IsOfNext, frames_behind, frames_counted, has_line, items_behind, next_is, packets_behind, same_before, same_behind}
use Rattle.run_view.proofs.Stopping.{says_more}

-- the text of the last line after these
abbrev end_behind : (form : Form) → List Line → List ℕ
end_behind form xs = last_text (End (firsts_in xs) (total form xs))

-- the files of a finished run with these lines; `l` is the report after its first line
record IsFinished (input output l : List ℕ) (form : Form) (ys : List Line) : Type 0 where
  first : waits (owed_in form ys) ≡ false
  are : AreLines form ys
  text : l ≡ lines_text ys ++ end_behind form ys
  records : HasAllRecords input (firsts_in ys)
  frames : HasAllFrames output (total form ys)

pub end_same : (form : Form) (items : List Item) → AreItems form items → end_text items ≡ end_behind form (lines_of items)
end_same form items are = λ i. last_text (End (sym (firsts_length items) i) (frames_total form items are i))

-- the report has one form
pub form_one : (l rest : List ℕ) (form own : Form) → heading form ++ l ≡ heading own ++ rest → own ≡ form
form_one l rest form own whole =
    heading_one own form (sym (heading_front (heading form ++ l) rest own whole) ∙ heading_front (heading form ++ l) l form refl)

are_of : (input output l : List ℕ) (form : Form) (run : AreOfARun input output (heading form ++ l)) → AreItems form run.items
are_of input output l form run =
    subst (λ (f : Form). AreItems f run.items)
    (form_one l (lines_text (lines_of run.items) ++ end_text run.items) form run.form
    (run.lines ∙ append_assoc (heading run.form) (lines_text (lines_of run.items)) (end_text run.items)))
    run.are

finished_by : (input output l : List ℕ) (form : Form) (run : AreOfARun input output (heading form ++ l)) → IsFinished input output l form (lines_of run.items)
finished_by input output l form run = of_form (are_of input output l form run) text where
  items : List Item
  items = run.items

  whole : heading form ++ l ≡ heading run.form ++ (lines_text (lines_of items) ++ end_text items)
  whole = run.lines ∙ append_assoc (heading run.form) (lines_text (lines_of items)) (end_text items)

  same : run.form ≡ form
  same = form_one l (lines_text (lines_of items) ++ end_text items) form run.form whole

  text : l ≡ lines_text (lines_of items) ++ end_text items
  text =
      append_cancel_left (heading form) l (lines_text (lines_of items) ++ end_text items)
      (whole ∙ ap (λ (f : Form). heading f ++ (lines_text (lines_of items) ++ end_text items)) same)

  of_form : (are : AreItems form items) → l ≡ lines_text (lines_of items) ++ end_text items → IsFinished input output l form (lines_of items)
  of_form are is =
      record {
        first = ap waits (owed_is form items are ∙ run.none_owed);
        are = are_lines form items are;
        text = is ∙ ap (λ t. lines_text (lines_of items) ++ t) (end_same form items are);
        records = record { head = run.head; packets = packets_of items; is = run.records; long = records_length items };
        frames = record { head = run.written; frames = frames_of items; is = run.frames; long = frames_total form items are };
      }

-- ---- after these items the run is over, or has one more line

module _ (input output l rest : List ℕ) (form : Form) (items : List Item) (are : AreItems form items) (told : l ≡ lines_text (lines_of items) ++ rest)
    (run : AreOfARun input output (heading form ++ l)) where
  abbrev xs : List Line
  xs = lines_of items

  abbrev ys : List Line
  ys = lines_of run.items

  f : IsFinished input output l form ys
  f = finished_by input output l form run

  own : AreLines form xs
  own = are_lines form items are

  owed : owed_in form xs ≡ owed_of items
  owed = owed_is form items are

  place : AtEnd xs ys rest (firsts_in ys) (total form ys) ⊎ IsNextOf form xs ys rest
  place = compare form xs ys rest (firsts_in ys) (total form ys) (few_firsts form ys f.are) (small_total form ys f.are) own f.are (sym told ∙ f.text)

  -- it is not over where a line of an entry follows
  not_over : (second : Bool) (entry : PlainEntry) (more : List ℕ) → AtEnd xs ys rest (firsts_in ys) (total form ys) → (fits : HasNextLine form items (Some rest) entry)
      → rest ≡ text_by second entry ++ more → ⊥
  not_over second entry more end line is =
      no_entry_end second entry more [] (firsts_in ys) (total form ys) line.told.fits.fits (few_firsts form ys f.are) (small_total form ys f.are)
      (sym is ∙ end.is ∙ sym (append-nil (end_behind form ys)))

  -- no line of an entry follows at the place of the last line
  not_next : (more : List ℕ) → rest ≡ end_text items ++ more → IsNextOf form xs ys rest → ⊥
  not_next more is next =
      no_entry_end next.line.second next.line.entry next.rest more (firsts_in xs) (total form xs) next.stands.fits.fits (few_firsts form xs own)
      (small_total form xs own)
      (sym next.is ∙ is ∙ ap (λ t. t ++ more) (end_same form items are))

  -- the numbers of lines and frames at the end
  records_end : AtEnd xs ys rest (firsts_in ys) (total form ys) → HasAllRecords input (firsts_in xs)
  records_end end = subst (λ zs. HasAllRecords input (firsts_in zs)) (sym end.same) f.records

  frames_end : AtEnd xs ys rest (firsts_in ys) (total form ys) → HasAllFrames output (total form xs)
  frames_end end = subst (λ zs. HasAllFrames output (total form zs)) (sym end.same) f.frames

  lacks_record : (head : Head) (entry : PlainEntry) → HasNextLine form items (Some rest) entry → owed_of items ≡ 0 → TookAll None (Some input) head (packets_of items) → ⊥
  lacks_record head entry line none whole =
      let front = in_front rest (text_by (turn_of items).second entry) line.behind line.told.taken in
      elim place [
        | inl end ↦ not_over (turn_of items).second entry front.rest end line front.is
        | inr next ↦
            let have : HasAllRecords input (firsts_in xs) = record { head = head; packets = packets_of items; is = whole; long = records_length items } in
            let most = records_most input (firsts_in xs) (firsts_in ys) have (all_records input (firsts_in ys) f.records) in
            let one : ◌≡◌ {A = ℕ} (if next.line.second then 0 else 1) 1 =
            ap (λ (b : Bool). let n : ℕ = if b then 0 else 1 in n) (next.stands.second_is ∙ ap waits (owed ∙ none)) in
            omega (arith, most, next.fewer, one)
      ]

  record_more : (head : Head) (packet : Packet) → IsOver items (Some rest) → BeginsWithRecords (Some input) head (packet ∷ packets_of items) → ⊥
  record_more head packet over begins = elim place [
    | inl end ↦
        let most = records_most input (firsts_in xs) (length (packet ∷ packets_of items)) (records_end end) (has_records input head (packet ∷ packets_of items) begins) in
        omega (arith, most, records_length items)
    | inr next ↦ not_next [] (over.is ∙ sym (append-nil (end_text items))) next
  ]

  lacks_frame : (written : Head) (entry : PlainEntry) → HasNextLine form items (Some rest) entry → (mine : List Packet)
      → length mine < frames_by (waits (owed_of items)) form entry → IsCapture output written (mine ++ frames_of items) → ⊥
  lacks_frame written entry line mine fewer whole =
      let front = in_front rest (text_by (turn_of items).second entry) line.behind line.told.taken in
      elim place [
        | inl end ↦ not_over (turn_of items).second entry front.rest end line front.is
        | inr next ↦
            let second : next.line.second ≡ waits (owed_of items) = next.stands.second_is ∙ ap waits owed in
            let entries : entry ≡ next.line.entry =
            (one_entry (waits (owed_of items)) entry next.line.entry front.rest next.rest line.told.fits.fits next.stands.fits.fits
            (sym front.is ∙ next.is ∙ ap (λ b. text_by b next.line.entry ++ next.rest) second)).0 in
            let counts : frames_by (waits (owed_of items)) form entry ≡ frames_by next.line.second form next.line.entry =
            λ i. frames_by (sym second i) form (entries i) in
            let have : HasAllFrames output (length (mine ++ frames_of items)) =
            record { head = written; frames = mine ++ frames_of items; is = whole; long = refl } in
            let most = frames_most output (length (mine ++ frames_of items)) (total form ys) have (all_frames output (total form ys) f.frames) in
            omega (arith, most, length-append mine (frames_of items), frames_total form items are, fewer, counts, next.enough)
      ]

  -- what the run has of the next line: its frames are those that were read, its record is this, and
  -- the first engine said this of it
  not_copied : (head written : Head) (entry : PlainEntry) (packet : Packet) (first : Option PlainEntry) → HasNextLine form items (Some rest) entry → (mine : List Packet)
      → length mine ≡ frames_by (waits (owed_of items)) form entry → BeginsWithFrames (Some output) written (mine ++ frames_of items)
      → IsOfNext (Some input) head items packet first → is_passed (is_both form) entry first ≡ true
      → is_only_copy packet.octets packet.seconds packet.fraction mine ≡ false → ⊥
  not_copied head written entry packet first line mine counts begins of passed changed =
      let front = in_front rest (text_by (turn_of items).second entry) line.behind line.told.taken in
      elim place [
        | inl end ↦ not_over (turn_of items).second entry front.rest end line front.is
        | inr next ↦
            let second : next.line.second ≡ waits (owed_of items) = next.stands.second_is ∙ ap waits owed in
            let entries : entry ≡ next.line.entry =
            (one_entry (waits (owed_of items)) entry next.line.entry front.rest next.rest line.told.fits.fits next.stands.fits.fits
            (sym front.is ∙ next.is ∙ ap (λ b. text_by b next.line.entry ++ next.rest) second)).0 in
            let there = has_line run.items next.newer next.line xs next.are in
            let own_entry : there.item.entry ≡ entry = ap (λ (l : Line). l.entry) there.line_is ∙ sym entries in
            let own_second : is_second there.item ≡ waits (owed_of items) = ap (λ (l : Line). l.second) there.line_is ∙ second in
            let all = are_of input output l form run in
            let behind = items_behind form there.after (there.item ∷ there.older) (subst (AreItems form) there.are all) in
            let total_same : length (frames_of there.older) ≡ length (frames_of items) =
            frames_total form there.older behind.1 ∙ ap (total form) there.lines_are ∙ sym (frames_total form items are) in
            let count_same : length there.item.frames ≡ length mine =
            frames_counted form there.item there.older behind.0.turn ∙ (λ i. frames_by (own_second i) form (own_entry i)) ∙ sym counts in
            let oldest = oldest_frames output run.written written (frames_of run.items) (mine ++ frames_of items) run.frames begins in
            let split : frames_of there.after ++ (there.item.frames ++ frames_of there.older) ≡ oldest.newer ++ (mine ++ frames_of items) =
            sym (ap frames_of there.are ∙ frames_behind there.after (there.item ∷ there.older)) ∙ oldest.are in
            let long : length (there.item.frames ++ frames_of there.older) ≡ length (mine ++ frames_of items) =
            omega (arith, length-append there.item.frames (frames_of there.older), length-append mine (frames_of items), total_same, count_same) in
            let own_frames : there.item.frames ≡ mine =
            same_before there.item.frames mine (frames_of there.older) (frames_of items)
            (same_behind (frames_of there.after) oldest.newer (there.item.frames ++ frames_of there.older) (mine ++ frames_of items) split long) count_same in
            let taken = packets_behind there.after (there.item ∷ there.older) in
            let firsts_same : length (packets_of there.older) ≡ length (packets_of items) =
            records_length there.older ∙ ap firsts_in there.lines_are ∙ sym (records_length items) in
            let known =
            next_is form input run.head head items there.older there.item packet first taken.0 are behind there.lines_are firsts_same
            (subst (IsInput None input run.head) (ap packets_of there.are ∙ taken.1) run.records) own_second of in
            let first_same : there.item.first ≡ first = known.1 in
            let whole = behind.0.unchanged ((λ i. is_passed (is_both form) (own_entry i) (first_same i)) ∙ passed) in
            let P = known.0 in
            let copy : is_only_copy packet.octets packet.seconds packet.fraction mine ≡ true =
            sym (λ i. is_only_copy (P i).octets (P i).seconds (P i).fraction (own_frames i)) ∙ whole in
            let e = sym copy ∙ changed in
            cc
      ]

  frame_more : (written : Head) (frame : Packet) → IsOver items (Some rest) → BeginsWithFrames (Some output) written (frame ∷ frames_of items) → ⊥
  frame_more written frame over begins = elim place [
    | inl end ↦
        let most = frames_most output (total form xs) (length (frame ∷ frames_of items)) (frames_end end) (has_frames output written (frame ∷ frames_of items) begins) in
        omega (arith, most, frames_total form items are)
    | inr next ↦ not_next [] (over.is ∙ sym (append-nil (end_text items))) next
  ]

  line_other : IsNoNext (version_of form) (turn_of items) rest → ⊥
  line_other none =
      let other : IsNoNext (version_of form) (turn_behind form xs) rest =
      subst (λ (t : Turn). IsNoNext (version_of form) t rest) (turn_lines form items are) none in
      elim place [
        | inl end ↦
            let first : waits (owed_in form xs) ≡ false = ap (λ zs. waits (owed_in form zs)) end.same ∙ f.first in
            let is : rest ≡ last_text (End (firsts_in xs) (total form xs)) = end.is ∙ ap (end_behind form) (sym end.same) in
            other.last first []
            (is ∙ ap (λ n. last_text (End n (total form xs))) (sym (done_if false form xs first)) ∙ sym (append-nil (last_text (End (turn_behind form xs).done (total form xs)))))
        | inr next ↦
            other.entry next.line.entry next.stands.fits next.stands.number next.rest
            (next.is ∙ ap (λ b. text_by b next.line.entry ++ next.rest) next.stands.second_is)
      ]

  line_more : (behind : Option (List ℕ)) → TookLast items (Some rest) behind → IfSome behind IsSomeOctet → ⊥
  line_more behind last some =
      let front = in_front rest (end_text items) behind last.taken in
      let more : IsSomeOctet front.rest = subst (λ o. IfSome o IsSomeOctet) front.left_is some in
      elim place [
        | inl end ↦
            let is : rest ≡ end_text items = end.is ∙ ap (end_behind form) (sym end.same) ∙ sym (end_same form items are) in
            let none = append_cancel_left (end_text items) front.rest [] (sym front.is ∙ is ∙ sym (append-nil (end_text items))) in
            let e = sym none ∙ more.is in
            cc
        | inr next ↦ not_next front.rest front.is next
      ]

-- ---- the same for sources, where their octets are known

-- what the sources say after some items is not so in a finished run
pub record Told (s : Sources) (form : Form) (items : List Item) (left : Option (List ℕ)) : Type 0 where
  pub are : AreItems form items
  pub lines : Consumes s.report left (lines_text (lines_of items))

abbrev Refuted : (s : Sources) (form : Form) (items : List Item) (left : Option (List ℕ)) → Type 0
Refuted s form items left =
    (input output l rest : List ℕ) → s ≡ sources_of (Some input) (Some output) (Some l) → left ≡ Some rest → l ≡ lines_text (lines_of items) ++ rest
    → AreOfARun input output (heading form ++ l) → ⊥

no_rest : (s : Sources) (form : Form) (items : List Item) (left : Option (List ℕ)) → Told s form items left → Refuted s form items left → AreNoRest form s
no_rest s form items left told refute = λ input output l same run.
    let front =
    in_front l (lines_text (lines_of items)) left (subst (λ (t : Sources). Consumes t.report left (lines_text (lines_of items))) same told.lines) in
    refute input output l front.rest same front.left_is front.is run

module _ (s : Sources) (form : Form) (items : List Item) (left : Option (List ℕ)) (told : Told s form items left) where
  pub no_record : (head : Head) (entry : PlainEntry) → HasNextLine form items left entry → owed_of items ≡ 0 → TookAll None s.input head (packets_of items)
      → AreNoRest form s
  no_record head entry line none whole = no_rest s form items left told (λ input output l rest same is text run.
      lacks_record input output l rest form items told.are text run head entry (subst (λ o. HasNextLine form items o entry) is line) none
      (subst (λ (t : Sources). TookAll None t.input head (packets_of items)) same whole))

  pub one_record : (head : Head) (packet : Packet) → IsOver items left → BeginsWithRecords s.input head (packet ∷ packets_of items) → AreNoRest form s
  one_record head packet over begins = no_rest s form items left told (λ input output l rest same is text run.
      record_more input output l rest form items told.are text run head packet (subst (IsOver items) is over)
      (subst (λ (t : Sources). BeginsWithRecords t.input head (packet ∷ packets_of items)) same begins))

  pub no_frame : (written : Head) (entry : PlainEntry) → HasNextLine form items left entry → (mine : List Packet)
      → length mine < frames_by (waits (owed_of items)) form entry → IfSome s.output (λ octets. IsCapture octets written (mine ++ frames_of items))
      → AreNoRest form s
  no_frame written entry line mine fewer whole = no_rest s form items left told (λ input output l rest same is text run.
      lacks_frame input output l rest form items told.are text run written entry (subst (λ o. HasNextLine form items o entry) is line) mine fewer
      (subst (λ (t : Sources). IfSome t.output (λ octets. IsCapture octets written (mine ++ frames_of items))) same whole))

  pub no_copy : (head written : Head) (entry : PlainEntry) (packet : Packet) (first : Option PlainEntry) → HasNextLine form items left entry → (mine : List Packet)
      → length mine ≡ frames_by (waits (owed_of items)) form entry → BeginsWithFrames s.output written (mine ++ frames_of items)
      → IsOfNext s.input head items packet first → is_passed (is_both form) entry first ≡ true
      → is_only_copy packet.octets packet.seconds packet.fraction mine ≡ false → AreNoRest form s
  no_copy head written entry packet first line mine counts begins of passed changed = no_rest s form items left told (λ input output l rest same is text run.
      not_copied input output l rest form items told.are text run head written entry packet first (subst (λ o. HasNextLine form items o entry) is line) mine counts
      (subst (λ (t : Sources). BeginsWithFrames t.output written (mine ++ frames_of items)) same begins)
      (subst (λ (t : Sources). IsOfNext t.input head items packet first) same of) passed changed)

  pub one_frame : (written : Head) (frame : Packet) → IsOver items left → BeginsWithFrames s.output written (frame ∷ frames_of items) → AreNoRest form s
  one_frame written frame over begins = no_rest s form items left told (λ input output l rest same is text run.
      frame_more input output l rest form items told.are text run written frame (subst (IsOver items) is over)
      (subst (λ (t : Sources). BeginsWithFrames t.output written (frame ∷ frames_of items)) same begins))

  pub no_line : IfSome left (IsNoNext (version_of form) (turn_of items)) → AreNoRest form s
  no_line none = no_rest s form items left told (λ input output l rest same is text run.
      line_other input output l rest form items told.are text run (subst (λ o. IfSome o (IsNoNext (version_of form) (turn_of items))) is none))

  pub one_line : (behind : Option (List ℕ)) → TookLast items left behind → IfSome behind IsSomeOctet → AreNoRest form s
  one_line behind last some = no_rest s form items left told (λ input output l rest same is text run.
      line_more input output l rest form items told.are text run behind (subst (λ o. TookLast items o behind) is last) some)

-- the frames of a record were not read, or are no copy of one that was passed
pub record_stop : (s : Sources) (form : Form) (items : List Item) (left : Option (List ℕ)) → Told s form items left → (head written : Head)
    (entry : PlainEntry) (packet : Packet) (first : Option PlainEntry) (of : PlainOriginal) (second : Bool) (packets before now : ℕ) (stop : Stop) {failed : Type 0}
    → waits (owed_of items) ≡ second → packets ≡ frames_by second form entry → IsComparedWith of packet → of.passed ≡ is_passed (is_both form) entry first
    → HasNextLine form items left entry → IsOfNext s.input head items packet first → (Rose before now → failed)
    → RecordStop s.output written (frames_of items) of packets before now stop
    → Says ⊥ (AreNoRest form s) (IsNoInput s.input) (IsNoCapture s.output) failed ⊥ stop
record_stop s form items left told head written entry packet first of second packets before now stop same counts compared passes line next fails =
    let count : packets ≡ frames_by (waits (owed_of items)) form entry = counts ∙ ap (λ b. frames_by b form entry) (sym same) in
    says_more (λ x. x)
    (λ why. elim why [
      | inl missing ↦ no_frame s form items left told written entry line missing.own (subst (λ n. length missing.own < n) count missing.fewer) missing.ends
      | inr other ↦
          no_copy s form items left told head written entry packet first line other.own (other.count ∙ count) (record { left = other.left; took = other.took }) next
          (sym passes ∙ other.passed)
          (sym (λ i. is_only_copy (compared.octets_are i) (compared.seconds_is i) (compared.fraction_is i) other.own) ∙ other.changed)
    ])
    (λ none. absurd none) (λ x. x) fails (λ x. x) stop

-- the first line of the report was read
pub no_run : (s : Sources) (form : Form) (behind : Option (List ℕ)) → Consumes s.report behind (heading form)
    → AreNoRest form (sources_of s.input s.output behind) → AreNoRun s
no_run s form behind first none = λ input output report same run.
    let front = in_front report (heading form) behind (subst (λ (t : Sources). Consumes t.report behind (heading form)) same first) in
    none input output front.rest (λ i. sources_of ((same i).input) ((same i).output) (front.left_is i)) (subst (AreOfARun input output) front.is run)

-- the report has no first line
pub no_first : (s : Sources) → IfSome s.report IsNoFirst → AreNoRun s
no_first s none = λ input output report same run.
    let other : IsNoFirst report = subst (λ (t : Sources). IfSome t.report IsNoFirst) same none in
    other run.form (lines_text (lines_of run.items) ++ end_text run.items)
    (run.lines ∙ append_assoc (heading run.form) (lines_text (lines_of run.items)) (end_text run.items))

-- a view stops after the first line of the report, which is that of this form
pub files_more : (s : Sources) (form other : Form) (behind : Option (List ℕ)) (first now wide : FaultCounts) (stop : Stop) → form ≡ other
    → Consumes s.report behind (heading other) → first ≡ wide
    → RestStop form (sources_of s.input s.output behind) first now stop → FilesStop s wide now stop
files_more s form other behind first now wide stop same taken kept =
    says_more (λ x. x) (λ none. no_run s other behind taken (subst (λ f. AreNoRest f (sources_of s.input s.output behind)) same none)) (λ x. x) (λ none. inl none)
    (subst (λ (c : FaultCounts). SourceRose c now) kept) (subst (λ (c : FaultCounts). Rose c.out now.out) kept) stop
