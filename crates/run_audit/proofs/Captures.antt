-- What is written for a trace is a capture and a report.
use Rattle.std.proofs.Common.{◌≡◌, ℕ, ◌≤◌, List, [], ◌∷◌, length, Some, Ok, refl, sym, ap, ap₂, ◌∙◌, subst, arith, inr, ◌+◌, Bool, ◌++◌, map, drop, reverse, flat_map, append-nil, append_assoc, length-append}
use Rattle.std.specs.List.{AllByRecursion}
use Rattle.std.proofs.lemmas.List.{map-append, reverse-append, reverse-reverse, length-reverse, length-map}
use Rattle.pcap_file.specs.declared.head.Head.{Head}
use Rattle.pcap_file.specs.Records.{Packet, record_octets}
use Rattle.pcap_file.specs.Capture.{ReadsTo, IsCapture}
use Rattle.rule_book.specs.Entries.{PlainEntry, IsOfVersion}
use Rattle.rule_book.proofs.Lines.{all-append}
use Rattle.wire_base.specs.declared.address.Link.{Link}
use Rattle.pcap_file.specs.declared.record.Order.{Order}
use Rattle.pcap_file.specs.declared.record.Order.TheVariants.{Little, Big}
use Rattle.pcap_file.specs.FileHead.{head_octets}
use Rattle.pcap_file.specs.FileLaws.{HeadIsReadBack, RecordIsReadBack}
use Rattle.rule_book.specs.ReportReading.{EntryFits, IsEntryOf, IsReadTo, AreNumbered}
use Rattle.rule_book.specs.Text.{entry_text, first_line, report_text}
use Rattle.rule_book.proofs.Reports.{read_more}
use Rattle.norm_settings.specs.SettingValues.{PlainSettings}
use Rattle.norm_engine.specs.Items.{Item, entries}
use Rattle.norm_engine.specs.TraceLaws.{IsSound, ItemsAreCounted}
use Rattle.norm_engine.proofs.ItemFrames.{none_before}
use Rattle.run_audit.specs.CaptureFindings.{frames_of}
use Rattle.run_audit.specs.LawfulFiles.{EntriesFit, FitsFiles, ItemsAreWrittenInOrder, RecordFits, LawfulIsYes, WrittenIsYes, capture_written, entries_written, frames_written, last_written, record_with, records_octets, records_written, report_written}
use Rattle.run_audit.specs.ReportFindings.{IsFinished}

-- the records are read back

-- a written record: its original length is that of its octets, and it has no side
abbrev IsOwn : Packet → Type 0
IsOwn w = w ≡ record_with w w.octets

own_all : (r : Packet) (frames : List (List ℕ)) → AllByRecursion IsOwn (reverse (map (record_with r) frames))
own_all r [] = tt
own_all r (f ∷ fs) =
    let P : List Packet → Type 0 = AllByRecursion IsOwn in
    subst P (sym (reverse-append (record_with r f ∷ []) (map (record_with r) fs)))
    (all-append IsOwn (reverse (map (record_with r) fs)) (record_with r f ∷ []) (own_all r fs) (refl, tt))

records_own : (trace : List Item) → AllByRecursion IsOwn (records_written trace)
records_own [] = tt
records_own (item ∷ older) = all-append IsOwn (reverse (map (record_with item.packet) item.frames)) (records_written older) (own_all item.packet item.frames) (records_own older)

reads : RecordIsReadBack → (order : Order) (ws : List Packet) (rest : List ℕ) → AllByRecursion IsOwn ws → AllByRecursion RecordFits ws → length ws ≤ 4294967295
    → ReadsTo order (records_octets order ws ++ rest) ws rest
reads back order [] rest own fits few = refl
reads back order (w ∷ older) rest own fits few =
    let one = record_octets order w.seconds w.fraction w.octets in (
      one ++ rest,
      subst (λ all. ReadsTo order all older (one ++ rest)) (sym (append_assoc (records_octets order older) one rest)) (reads back order older (one ++ rest) own.1 fits.1 (omega (arith, few))),
      back order (length older) w.seconds w.fraction w.octets rest (omega (arith, few)) fits.0.seconds fits.0.fraction fits.0.octets ∙ ap (λ x. Ok (Some (x, rest))) (sym own.0),
    )

-- the octets after the head are those that were written after it
pub behind_head : (order : Order) (nano : Bool) (link : Link) (xs : List ℕ) → drop 24 (head_octets (record { order = order; nano = nano; link = link }) ++ xs) ≡ xs
unfolding head_octets
behind_head Little nano link xs = refl
behind_head Big nano link xs = refl

is_capture : HeadIsReadBack → RecordIsReadBack → (head : Head) (trace : List Item) → FitsFiles trace → IsCapture (capture_written head trace) head (records_written trace)
is_capture head_back back head trace fits =
    let octets = records_octets head.order (records_written trace) in
    let P : List ℕ → Type 0 = λ all. ReadsTo head.order all (records_written trace) [] in
    record {
      accepted = head_back head octets;
      whole = subst P (append-nil octets ∙ sym (behind_head head.order head.nano head.link octets)) (reads back head.order (records_written trace) [] (records_own trace) fits.records fits.few);
    }

-- the octets of the records of one more item
with_frames : (order : Order) (r : Packet) (frames : List (List ℕ)) (older : List Packet)
    → records_octets order (reverse (map (record_with r) frames) ++ older) ≡ records_octets order older ++ flat_map (λ frame. record_octets order r.seconds r.fraction frame) frames
with_frames order r [] older = sym (append-nil (records_octets order older))
with_frames order r (f ∷ fs) older =
    let turn = reverse (map (record_with r) fs) in
    ap (λ ws. records_octets order (ws ++ older)) (reverse-append (record_with r f ∷ []) (map (record_with r) fs))
    ∙ ap (records_octets order) (append_assoc turn (record_with r f ∷ []) older)
    ∙ with_frames order r fs (record_with r f ∷ older)
    ∙ append_assoc (records_octets order older) (record_octets order r.seconds r.fraction f) (flat_map (λ frame. record_octets order r.seconds r.fraction frame) fs)

pub written_in_order : ItemsAreWrittenInOrder
written_in_order order item older =
    let more = length-append (reverse (map (record_with item.packet) item.frames)) (records_written older) in
    let turn = length-reverse (map (record_with item.packet) item.frames) in
    let long = length-map item.frames (record_with item.packet) in
    record { octets = with_frames order item.packet item.frames (records_written older); count = omega (arith, more, turn, long) }

-- the octets of the records are the frames

turned : (r : Packet) (frames : List (List ℕ)) → map (λ (w : Packet). w.octets) (reverse (map (record_with r) frames)) ≡ reverse frames
turned r [] = refl
turned r (f ∷ fs) =
    ap (map (λ (w : Packet). w.octets)) (reverse-append (record_with r f ∷ []) (map (record_with r) fs))
    ∙ map-append (λ (w : Packet). w.octets) (reverse (map (record_with r) fs)) (record_with r f ∷ [])
    ∙ ap (λ xs. xs ++ f ∷ []) (turned r fs)
    ∙ sym (reverse-append (f ∷ []) fs)

same_frames : (trace : List Item) → frames_of (records_written trace) ≡ frames_written trace
same_frames [] = refl
same_frames (item ∷ older) =
    map-append (λ (w : Packet). w.octets) (reverse (map (record_with item.packet) item.frames)) (records_written older)
    ∙ ap₂ (λ xs ys. xs ++ ys) (turned item.packet item.frames) (same_frames older)

-- there are as many frames as records
pub as_many_records : (trace : List Item) → length (frames_written trace) ≡ length (records_written trace)
as_many_records trace = sym (ap length (same_frames trace)) ∙ length-map (records_written trace) (λ (w : Packet). w.octets)

-- the written report is a report

-- the entries are of version 2, and they are numbered
record AreLines (es : List PlainEntry) : Type 0 where
  fit : AllByRecursion (IsEntryOf 2) es
  numbered : AreNumbered es

one_more : (es : List PlainEntry) (e : PlainEntry) → AreLines es → IsEntryOf 2 e → e.number ≡ length es + 1 → AreLines (es ++ e ∷ [])
one_more es e lines fits number =
    let read : IsReadTo 2 ((first_line 2 ∷ map entry_text es) ++ entry_text e ∷ []) es (entry_text e ∷ []) = record { known = inr refl; fit = lines.fit; numbered = lines.numbered; before = refl } in
    let more = read_more 2 ((first_line 2 ∷ map entry_text es) ++ entry_text e ∷ []) [] es e fits number read in
    record { fit = more.fit; numbered = more.numbered }

entries_long : (trace : List Item) → length (entries_written trace) ≡ length trace
entries_long trace = length-reverse (entries trace) ∙ length-map trace (λ (item : Item). item.entry)

are_lines : ItemsAreCounted → (settings : PlainSettings) (link : Link) (trace : List Item) → IsSound settings link trace → AllByRecursion EntryFits (entries trace) → AreLines (entries_written trace)
are_lines counted settings link [] sound fits = record { fit = tt; numbered = refl }
are_lines counted settings link (item ∷ older) sound fits =
    subst AreLines (sym (reverse-append (item.entry ∷ []) (entries older)))
    (one_more (entries_written older) item.entry (are_lines counted settings link older (none_before settings link item older sound) fits.1) (record { fits = fits.0; octets = octets }) number)
  where
    octets : IsOfVersion 2 item.entry
    octets = subst (λ (x : Item). IsOfVersion 2 x.entry) (sym sound.lawful.1) (counted settings link older item.packet).octets

    number : item.entry.number ≡ length (entries_written older) + 1
    number = ap (λ (x : Item). x.entry.number) sound.lawful.1 ∙ ap (λ n. n + 1) (sym (entries_long older))

is_finished : ItemsAreCounted → EntriesFit → (settings : PlainSettings) (link : Link) (trace : List Item) → IsSound settings link trace → FitsFiles trace → IsFinished (report_written trace) (entries_written trace)
is_finished counted entries_fit settings link trace sound fits =
    let few = fits.few in
    let long = as_many_records trace in
    let lines = are_lines counted settings link trace sound (entries_fit settings link trace sound (omega (arith, few, long)) fits.lines) in
    record {
      report = record { version = 2; entries = entries_written trace; last = last_written trace };
      is = record { version = inr refl; fit = lines.fit; numbered = lines.numbered; last = (fits.lines, omega (arith, few)) };
      text = ap (λ es. report_text 2 es (last_written trace)) (sym (reverse-reverse (entries trace)));
      ends = tt;
      entries_are = refl;
      small = fits.small;
    }

pub written_is_yes : HeadIsReadBack → RecordIsReadBack → ItemsAreCounted → EntriesFit → LawfulIsYes → WrittenIsYes
written_is_yes head_back back counted entries_fit audited settings head trace sound fits =
    audited settings head trace (records_written trace) (report_written trace) (capture_written head trace) sound
    (is_capture head_back back head trace fits) (same_frames trace) (is_finished counted entries_fit settings head.link trace sound fits)
