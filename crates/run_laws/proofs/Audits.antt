-- The audit of the capture and the report that a finished run wrote answers yes: the words, the
-- lines, the frames and the status.
use Rattle.std.proofs.Common.{◌≡◌, ◌⊎◌, inl, inr, ℕ, ◌+◌, ◌*◌, ◌^◌, ◌<◌, ◌≤◌, ◌&&◌, Bool, true, false, cond, List, [], ◌∷◌, ◌++◌, length, map, reverse, flat_map, Option, Some, None, refl, sym, ap, ap₂, ◌∙◌, subst, arith, leb-true, decimal, nat_le, nat_lt}
use Rattle.std.specs.List.{AllByRecursion}
use Rattle.std.proofs.lemmas.List.{append_cancel_left, length-append, length-map, reverse-append}
use Rattle.wire_base.specs.declared.address.Link.{Link}
use Rattle.pcap_file.specs.declared.head.Head.{Head}
use Rattle.pcap_file.specs.declared.record.Order.{Order}
use Rattle.pcap_file.specs.FileHead.{head_octets}
use Rattle.pcap_file.specs.Records.{Packet}
use Rattle.rule_book.specs.declared.last.Last.TheVariants.{End}
use Rattle.rule_book.specs.Entries.{PlainEntry}
use Rattle.rule_book.specs.Text.{ended_part, entry_text, era_part, first_line, last_text, lines_text, part, report_text, rule_parts, side_word, verdict_word}
use Rattle.rule_book.proofs.Lines.{all-append}
use Rattle.norm_settings.specs.OptionTable.{number_within}
use Rattle.wire_base.specs.Prefixes.{is_number, number_of}
use Rattle.norm_settings.specs.SettingValues.{PlainSettings}
use Rattle.norm_engine.specs.Items.{Item, entries, packets, frame_count}
use Rattle.norm_engine.specs.CleanRecords.{HaveOctets}
use Rattle.norm_engine.specs.TraceLaws.{ItemsAreCounted}
use Rattle.norm_engine.specs.SentFrames.{HasShortFrames}
use Rattle.norm_engine.specs.Trace.{Lawful}
use Rattle.norm_engine.specs.WrittenTrace.{WrittenWhole, written}
use Rattle.both_sides.specs.Frames.{frames_octets, item_octets}
use Rattle.both_sides.specs.RunLaws.{OnePutsItsTrace}
use Rattle.both_sides.specs.RecordOutputs.{Put, count_put, octets_put, puts, report_of}
use Rattle.both_sides.specs.RunTraces.{LawfulRun, RunHasOctets, RunTrace, one, packets_of, two}
use Rattle.bridge_run.specs.Promises.{FramesFit, HaveTimes}
use Rattle.run_audit.specs.declared.answer.Answer.TheVariants as answers
use Rattle.run_audit.specs.AnswerMeanings.{AnswersAreOne, IsYes, Says, Seen, ToldUnless, seen}
use Rattle.run_audit.specs.LawfulFiles.{FitsFiles, ItemsAreWrittenInOrder, RecordFits, WrittenIsYes, capture_written, last_written, record_with, records_octets, records_written, report_written}
use Rattle.run_audit.specs.ReportFindings.{is_most}
use Rattle.run_audit.specs.AuditWords.{asked}
use Rattle.run_laws.specs.AuditedRuns.{IsAuditedYes, NoneRose, RunsAreAuditedYes}

-- ---- the words

within : (number least greatest : Bool) (value hops : ℕ) → nat_le value 254 ≡ greatest → cond (number && least && greatest) (Some value) None ≡ Some hops → hops ≤ 254
within true true true value hops e h = let same : value ≡ hops = cc in subst (λ n. n ≤ 254) same (leb-true value 254 e)
within true true false value hops e h = absurd (cc)
within true false greatest value hops e h = absurd (cc)
within false least greatest value hops e h = absurd (cc)

asked_within : (words : List (List ℕ)) (hops : ℕ) → asked words ≡ Some hops → hops ≤ 254
asked_within [] hops h = absurd (cc)
asked_within (a ∷ []) hops h = absurd (cc)
asked_within (a ∷ b ∷ []) hops h = absurd (cc)
asked_within (a ∷ b ∷ c ∷ []) hops h = by (nat_lt 0 (length a) && nat_lt 0 (length b)) (nat_le (length c) 3) h
  where
    by : (named short : Bool) → cond named (cond short (number_within 0 254 c) None) None ≡ Some hops → hops ≤ 254
    by true true h = within (is_number 20 c) (nat_le 0 (number_of c)) (nat_le (number_of c) 254) (number_of c) hops refl h
    by true false h = absurd (cc)
    by false short h = absurd (cc)
asked_within (a ∷ b ∷ c ∷ d ∷ more) hops h = absurd (cc)

-- ---- the number of lines

front_of_line : PlainEntry → List ℕ
front_of_line entry =
    decimal entry.number ++ part (side_word entry.side) ++ part (verdict_word entry.verdict) ++ part (decimal entry.packets)
    ++ rule_parts entry.rules ++ era_part 64 entry.era ++ era_part 43 entry.begun ++ flat_map ended_part entry.ended

entry_long : (entry : PlainEntry) → 1 ≤ length (entry_text entry)
unfolding front_of_line
entry_long entry = let size = length-append (front_of_line entry) (10 ∷ []) in omega (arith, size)

lines_long : (es : List PlainEntry) → length es ≤ length (lines_text es)
lines_long [] = omega arith
lines_long (entry ∷ older) =
    let size = length-append (lines_text older) (entry_text entry) in
    let one = entry_long entry in
    let more = lines_long older in
    omega (arith, size, one, more)

report_long : (trace : List Item) → length trace ≤ length (report_written trace)
report_long trace =
    let es = entries trace in
    let last = last_text (last_written trace) in
    let all = length-append (first_line 2 ++ lines_text es) last in
    let some = length-append (first_line 2) (lines_text es) in
    let lines = lines_long es in
    let same = length-map trace (λ (item : Item). item.entry) in
    omega (arith, all, some, lines, same)

-- ---- the frames

octets_are : ItemsAreWrittenInOrder → (order : Order) (trace : List Item) → records_octets order (records_written trace) ≡ frames_octets order trace
octets_are in_order order [] = refl
octets_are in_order order (item ∷ older) = (in_order order item older).octets ∙ ap (λ xs. xs ++ item_octets order item) (octets_are in_order order older)

count_is : ItemsAreWrittenInOrder → (order : Order) (trace : List Item) → length (records_written trace) ≡ frame_count trace
count_is in_order order [] = refl
count_is in_order order (item ∷ older) = (in_order order item older).count ∙ ap (λ n. n + length item.frames) (count_is in_order order older)

frames_few : ItemsAreCounted → (settings : PlainSettings) (link : Link) (trace : List Item) → Lawful settings link trace → frame_count trace ≤ 2 * length trace
frames_few counted settings link [] lawful = omega arith
frames_few counted settings link (item ∷ older) lawful =
    let few = subst (λ (x : Item). length x.frames ≤ 2) (sym lawful.1) (counted settings link older item.packet).few in
    let more = frames_few counted settings link older lawful.0 in
    omega (arith, few, more)

frames_fit : (r : Packet) (frames : List (List ℕ)) → r.seconds < 2 ^ 32 → r.fraction < 2 ^ 32 → AllByRecursion (λ frame. length frame ≤ 65549) frames
    → AllByRecursion RecordFits (reverse (map (record_with r) frames))
frames_fit r [] seconds fraction short = tt
frames_fit r (f ∷ fs) seconds fraction short =
    let one = short.0 in
    subst (AllByRecursion RecordFits) (sym (reverse-append (record_with r f ∷ []) (map (record_with r) fs)))
    (all-append RecordFits (reverse (map (record_with r) fs)) (record_with r f ∷ []) (frames_fit r fs seconds fraction short.1)
    (record { seconds = seconds; fraction = fraction; octets = omega (arith, one) }, tt))

records_fit : (trace : List Item) → HaveTimes (packets trace) → AllByRecursion HasShortFrames trace → AllByRecursion RecordFits (records_written trace)
records_fit [] times short = tt
records_fit (item ∷ older) times short =
    all-append RecordFits (reverse (map (record_with item.packet) item.frames)) (records_written older)
    (frames_fit item.packet item.frames times.0.0 times.0.1 short.0) (records_fit older times.1 short.1)

-- ---- the answer

-- the status, if no count rose
told_yes : (eras frames : ℕ) (capture report : Seen) (old new : Option (List ℕ)) (before now status : ℕ) → NoneRose capture report before now
    → ToldUnless capture report (answers.Yes eras frames) old new before now status → (status ≡ 0) ⊎ (status ≡ 8)
told_yes eras frames capture report old new before now status none (inl (inl whole)) = inl whole.status_is
told_yes eras frames capture report old new before now status none (inl (inr part)) = absurd (none.of_output part.failed)
told_yes eras frames capture report old new before now status none (inr (inl (inl whole))) = inr whole.status_is
told_yes eras frames capture report old new before now status none (inr (inl (inr part))) = absurd (none.of_output part.failed)
told_yes eras frames capture report old new before now status none (inr (inr (inl rose, told))) = absurd (none.of_report rose)
told_yes eras frames capture report old new before now status none (inr (inr (inr rose, told))) = absurd (none.of_capture rose)

audited_yes : AnswersAreOne → (words : List (List ℕ)) (hops : ℕ) → asked words ≡ Some hops → (capture report : List ℕ) (before now report_before report_now eras frames : ℕ)
    → IsYes hops (Some report) (Some capture) eras frames → IsAuditedYes words (seen (Some capture) before now) (seen (Some report) report_before report_now) frames
audited_yes one_answer words hops asks capture report before now report_before report_now eras frames is =
    let c = seen (Some capture) before now in
    let r = seen (Some report) report_before report_now in
    let says : Says words c r (answers.Yes eras frames) = (hops, asks, is) in
    record {
      eras = eras;
      says = says;
      only = λ other exact it. sym (one_answer words c r (answers.Yes eras frames) other (refl, refl) exact says it);
      returns = λ old new before now status tells none. told_yes eras frames c r old new before now status none (tells (answers.Yes eras frames) (refl, refl) says);
    }

-- the laws that this is based on
pub record AuditLaws : Type 0 where
  pub whole : WrittenWhole
  pub puts : OnePutsItsTrace
  pub counted : ItemsAreCounted
  pub in_order : ItemsAreWrittenInOrder
  pub yes : WrittenIsYes
  pub one_answer : AnswersAreOne

module _ (laws : AuditLaws) (settings : PlainSettings) (head : Head) (trace : List Item) (uncut : settings.mtu ≡ None) where
  abbrev outs : List Put
  outs = puts settings head.link (one trace)

  same : written settings head.link trace ≡ trace
  same = laws.whole settings head.link trace uncut

  count : count_put outs ≡ length (records_written trace)
  count = (laws.puts settings head.link trace).count ∙ ap frame_count same ∙ sym (count_is laws.in_order head.order trace)

  capture_is : head_octets head ++ octets_put head.order outs ≡ capture_written head trace
  capture_is =
      ap (λ xs. head_octets head ++ xs)
      ((laws.puts settings head.link trace).octets head.order ∙ ap (frames_octets head.order) same ∙ sym (octets_are laws.in_order head.order trace))

  report_is : report_of false outs (End (length (packets trace)) (count_put outs)) ≡ report_written trace
  report_is =
      (laws.puts settings head.link trace).report (End (length (packets trace)) (count_put outs))
      ∙ ap (λ t. report_text 2 (entries t) (End (length (packets trace)) (count_put outs))) same
      ∙ ap₂ (λ m n. report_text 2 (entries trace) (End m n)) (length-map trace (λ (item : Item). item.packet)) count

  module _ (lawful : Lawful settings head.link trace) (times : HaveTimes (packets trace)) (short : AllByRecursion HasShortFrames (written settings head.link trace))
      (small : length (report_written trace) ≤ is_most) where
    fits : FitsFiles trace
    fits =
        let lines = report_long trace in
        let few = frames_few laws.counted settings head.link trace lawful in
        let counts = count_is laws.in_order head.order trace in
        record {
          records = records_fit trace times (subst (AllByRecursion HasShortFrames) same short);
          few = omega (arith, lines, few, counts, small);
          lines = omega (arith, lines, small);
          small = small;
        }

    trace_audited : HaveOctets trace → (words : List (List ℕ)) → asked words ≡ Some settings.hops → (before now report_before report_now : ℕ)
        → IsAuditedYes words (seen (Some (capture_written head trace)) before now) (seen (Some (report_written trace)) report_before report_now) (length (records_written trace))
    trace_audited octets words asks before now report_before report_now =
        audited_yes laws.one_answer words settings.hops asks (capture_written head trace) (report_written trace) before now report_before report_now _ _
        (laws.yes settings head trace (record { hops = asked_within words settings.hops asks; octets = octets; lawful = lawful }) fits)

-- ---- the run

module _ (laws : AuditLaws) (settings : PlainSettings) (head : Head) (capture report : List ℕ) (single : settings.both ≡ false) (uncut : settings.mtu ≡ None) where
  run_audited : (run : RunTrace) → LawfulRun settings head.link run → RunHasOctets settings run → HaveTimes (packets_of run) → FramesFit settings head.link run
      → capture ≡ head_octets head ++ octets_put head.order (puts settings head.link run)
      → report ≡ report_of settings.both (puts settings head.link run) (End (length (packets_of run)) (count_put (puts settings head.link run)))
      → length report ≤ is_most → (words : List (List ℕ)) → asked words ≡ Some settings.hops → (before now report_before report_now : ℕ)
      → IsAuditedYes words (seen (Some capture) before now) (seen (Some report) report_before report_now) (count_put (puts settings head.link run))
  run_audited (two trace mirror) lawful octets times fit captured reported small words asks before now report_before report_now =
      let wrong : true ≡ false = sym lawful.0 ∙ single in absurd (cc)
  run_audited (one trace) lawful octets times fit captured reported small words asks before now report_before report_now =
      let c : capture ≡ capture_written head trace = captured ∙ capture_is laws settings head trace uncut in
      let r : report ≡ report_written trace =
      reported
      ∙ ap (λ both. report_of both (puts settings head.link (one trace)) (End (length (packets trace)) (count_put (puts settings head.link (one trace))))) single
      ∙ report_is laws settings head trace uncut in
      let all =
      trace_audited laws settings head trace uncut lawful.1 times fit.1 (subst (λ xs. length xs ≤ is_most) r small) octets.0 words asks before now report_before report_now in
      subst (λ xs. IsAuditedYes words (seen (Some xs) before now) (seen (Some report) report_before report_now) (count_put (puts settings head.link (one trace)))) (sym c)
      (subst (λ xs. IsAuditedYes words (seen (Some (capture_written head trace)) before now) (seen (Some xs) report_before report_now) (count_put (puts settings head.link (one trace)))) (sym r)
      (subst (λ n. IsAuditedYes words (seen (Some (capture_written head trace)) before now) (seen (Some (report_written trace)) report_before report_now) n)
      (sym (count laws settings head trace uncut)) all))

pub runs_audited_yes : AuditLaws → RunsAreAuditedYes
runs_audited_yes laws settings source source' held capture told report single uncut done small words asks before now report_before report_now =
    run_audited laws settings done.head capture report single uncut done.run done.lawful done.octets done.times done.fit
    (append_cancel_left held capture _ done.frames_written) (append_cancel_left told report _ done.report_written) small words asks before now report_before report_now
