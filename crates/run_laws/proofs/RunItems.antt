-- The items of a view that a run's trace has, one for each line of its report, by one engine or by
-- two. The frame of a record that passed is a copy of it, and the record that the second engine
-- reads.
use Rattle.std.proofs.Common.{◌≡◌, ℕ, ◌+◌, ◌==◌, ◌&&◌, Bool, true, false, List, [], ◌∷◌, ◌++◌, length, map, take, drop, reverse, refl, sym, ap, subst, ◌∙◌, arith, append_assoc, inl, inr, ◌-◌, Some, None, append-nil}
use Rattle.std.specs.List.{AllByRecursion}
use Rattle.std.proofs.lemmas.Bool.{eq-eqb}
use Rattle.std.proofs.lemmas.List.{length-map, length-reverse, reverse-append, length-append, length-drop, length-take-le, map-append, take-append-drop}
use Rattle.std.proofs.lemmas.Slice.Eq.{bytes_eq-Decides}
use Rattle.pcap_file.specs.Records.{Packet}
use Rattle.rule_book.specs.declared.entry.Verdict.{Verdict}
use Rattle.rule_book.specs.declared.entry.Verdict.TheVariants as verdicts
use Rattle.norm_engine.specs.Items.{Item, packets}
use Rattle.both_sides.specs.Traces.{behind, records_for, records_of}
use Rattle.run_audit.specs.LawfulFiles.{record_with, frames_written as frames_of_trace}
use Rattle.run_view.specs.Items.{is_copy, is_only_copy, AreItems, IsOfNewest, firsts, frames_of, lines_of, lines_text, owed_of, packets_in, packets_of, seconds}
use Rattle.run_view.specs.LineJudgments.{is_pass}
use Rattle.run_laws.proofs.Traces.{IsUnchanged, AreGood, good, good_behind}
use Rattle.wire_base.specs.declared.address.Link.{Link}
use Rattle.rule_book.specs.Text.{entry_text}
use Rattle.norm_settings.specs.SettingValues.{PlainSettings}
use Rattle.norm_engine.specs.WrittenTrace.{item_written, written}
use Rattle.both_sides.specs.RecordOutputs.{Put, answers_frames, answers_text, puts, puts_by_two, text_put}
use Rattle.both_sides.specs.RunTraces.{RunTrace, one, packets_of as run_packets, two}
use Rattle.run_view.specs.Items as view
use Rattle.run_view.specs.declared.form.Form.TheVariants.{Both, Version2}
use Rattle.run_laws.specs.CaptureReadBack.{records_put}
use Rattle.run_laws.specs.ViewedRuns.{unsided}

pub pass_is : (verdict : Verdict) → is_pass verdict ≡ true → verdict ≡ verdicts.Pass
pass_is verdicts.Pass is = refl
pass_is verdicts.Fix is = absurd (cc)
pass_is verdicts.Hold is = absurd (cc)
pass_is verdicts.Drop is = absurd (cc)

pub both_pass : (a b : Bool) → (a && b) ≡ true → (a ≡ true) × (b ≡ true)
both_pass true b is = (refl, is)
both_pass false b is = absurd (cc)

-- ---- a frame with the octets and the time of a record

same_number : (n : ℕ) → (n == n) ≡ true
same_number n = eq-eqb n n refl

own_copy : (r : Packet) → is_copy r.octets r.seconds r.fraction (record_with r r.octets) ≡ true
own_copy r = rw ((bytes_eq-Decides r.octets r.octets).1 refl, same_number r.seconds, same_number r.fraction) refl

pub only_copy : (r : Packet) (frames : List (List ℕ)) → frames ≡ r.octets ∷ []
    → is_only_copy r.octets r.seconds r.fraction (reverse (map (record_with r) frames)) ≡ true
only_copy r frames same =
    let F : List (List ℕ) → Type 0 = λ fs. is_only_copy r.octets r.seconds r.fraction (reverse (map (record_with r) fs)) ≡ true in
    subst F (sym same) (own_copy r)

-- ---- the records of the second engine

behind_is : (rs older : List Packet) → behind rs older ≡ reverse rs ++ older
behind_is [] older = refl
behind_is (r ∷ rs) older =
    behind_is rs (r ∷ older) ∙ sym (append_assoc (reverse rs) (r ∷ []) older) ∙ ap (λ l. l ++ older) (sym (reverse-append (r ∷ []) rs))

parts : (front back : List Packet) (mirror : List Item) → packets mirror ≡ front ++ back
    → (packets (take (length front) mirror) ≡ front) × (packets (drop (length front) mirror) ≡ back)
parts [] back mirror same = (refl, same)
parts (f ∷ front) back [] same = absurd (omega (arith, ap length same))
parts (f ∷ front) back (m ∷ mirror) same =
    let all : m.packet ∷ packets mirror ≡ f ∷ (front ++ back) = same in
    let rest = parts front back mirror cc in
    let first : m.packet ≡ f = cc in
    ((λ i. first i ∷ rest.0 i), rest.1)

-- what is true of the records is true of the items
by_packets : (P : Packet → Type 0) (xs : List Item) → AllByRecursion P (packets xs) → AllByRecursion (λ (x : Item). P x.packet) xs
by_packets P [] all = tt
by_packets P (x ∷ xs) all = (all.0, by_packets P xs all.1)

-- the next items of the second engine have the frames of the item as their records
pub record HandsOn (item : Item) (older mirror : List Item) : Type 0 where
  pub passed : item.entry.verdict ≡ verdicts.Pass
      → AllByRecursion (λ (answer : Item). answer.packet.octets ≡ item.packet.octets) (take (length item.frames) mirror)
  pub rest : packets (drop (length item.frames) mirror) ≡ records_of older

pub hands_on : (item : Item) (older mirror : List Item) → packets mirror ≡ records_of (item ∷ older) → IsUnchanged item → HandsOn item older mirror
hands_on item older mirror handed unchanged = record { passed = passed; rest = subst R long both.1 } where
  front : List Packet
  front = reverse (records_for item)

  long : length front ≡ length item.frames
  long = length-reverse (records_for item) ∙ length-map item.frames (λ frame. record_with item.packet frame)

  both : (packets (take (length front) mirror) ≡ front) × (packets (drop (length front) mirror) ≡ records_of older)
  both = parts front (records_of older) mirror (handed ∙ behind_is (records_for item) (records_of older))

  R : ℕ → Type 0
  R n = packets (drop n mirror) ≡ records_of older

  P : Packet → Type 0
  P r = r.octets ≡ item.packet.octets

  own : item.entry.verdict ≡ verdicts.Pass → AllByRecursion P front
  own pass =
      let F : List (List ℕ) → Type 0 = λ fs. AllByRecursion P (reverse (map (record_with item.packet) fs)) in
      subst F (sym (unchanged pass)) (refl, tt)

  passed : item.entry.verdict ≡ verdicts.Pass → AllByRecursion (λ (answer : Item). answer.packet.octets ≡ item.packet.octets) (take (length item.frames) mirror)
  passed pass =
      let T : ℕ → Type 0 = λ n. AllByRecursion (λ (answer : Item). answer.packet.octets ≡ item.packet.octets) (take n mirror) in
      subst T long (by_packets P (take (length front) mirror) (subst (AllByRecursion P) (sym both.0) (own pass)))

-- ---- by one engine

pub frames_with : Packet → List (List ℕ) → List Packet
frames_with r frames = reverse (map (record_with r) frames)

with_long : (r : Packet) (frames : List (List ℕ)) → length (frames_with r frames) ≡ length frames
unfolding frames_with
with_long r frames = length-reverse (map (record_with r) frames) ∙ length-map frames (record_with r)

-- the frame of a record that passed is a copy of it
copied : (r : Packet) (frames : List (List ℕ)) → frames ≡ r.octets ∷ [] → is_only_copy r.octets r.seconds r.fraction (frames_with r frames) ≡ true
unfolding frames_with
copied r frames same = only_copy r frames same

abbrev pub line_one : Item → view.Item
line_one item = record { packet = unsided item.packet; entry = item.entry; frames = frames_with item.packet item.frames; first = None; owed = 0 }

abbrev pub items_one : List Item → List view.Item
items_one [] = []
items_one (item ∷ older) = line_one item ∷ items_one older

pub one_owes : (trace : List Item) → owed_of (items_one trace) ≡ 0
one_owes [] = refl
one_owes (item ∷ older) = refl

one_firsts : (trace : List Item) → length (firsts (items_one trace)) ≡ length trace
one_firsts [] = refl
one_firsts (item ∷ older) = omega (arith, one_firsts older)

pub are_one : (trace : List Item) → AreGood trace → AreItems Version2 (items_one trace)
are_one [] good = tt
are_one (item ∷ older) good = (
  record {
    fits = good.0.fits;
    turn = inl (record {
      none_owed = one_owes older;
      alone = refl;
      number = good.0.number ∙ ap (λ n. n + 1) (sym (one_firsts older));
      frames = with_long item.packet item.frames ∙ sym good.0.packets;
      owes = refl;
    });
    unchanged = λ passed. copied item.packet item.frames (good.0.unchanged (pass_is item.entry.verdict passed));
  },
  are_one older good.1,
)

-- what the input, the output and the report have of these items
pub record Shows (run : RunTrace) (outs : List Put) (items : List view.Item) : Type 0 where
  pub records : packets_of items ≡ map unsided (run_packets run)
  pub frames : frames_of items ≡ records_put outs
  pub text : lines_text (lines_of items) ≡ text_put outs

pub shows_one : (settings : PlainSettings) (link : Link) (trace : List Item)
    → Shows (one trace) (puts settings link (one trace)) (items_one (written settings link trace))
unfolding frames_with
shows_one settings link [] = record { records = refl; frames = refl; text = refl }
shows_one settings link (item ∷ older) =
    let before = shows_one settings link older in
    let out = item_written settings.mtu link item in
    record {
      records = ap (λ ps. unsided item.packet ∷ ps) before.records;
      frames = ap (λ ws. reverse (map (record_with item.packet) out.frames) ++ ws) before.frames;
      text = ap (λ t. t ++ entry_text out.entry) before.text;
    }

-- ---- by two engines

-- the lines of the second engine for a record, before this number of others
abbrev lines_two : Item → (owed : ℕ) → List Item → List view.Item
lines_two item owed [] = []
lines_two item owed (answer ∷ answers) =
    record { packet = unsided item.packet; entry = answer.entry; frames = frames_with item.packet answer.frames; first = Some item.entry; owed = owed }
    ∷ lines_two item (owed + 1) answers

-- the line of the first
abbrev line_first : Item → view.Item
line_first item = record { packet = unsided item.packet; entry = item.entry; frames = []; first = None; owed = length item.frames }

abbrev pub items_two : (trace mirror : List Item) → List view.Item
items_two [] mirror = []
items_two (item ∷ older) mirror =
    lines_two item 0 (take (length item.frames) mirror) ++ line_first item ∷ items_two older (drop (length item.frames) mirror)

-- lines of the second engine after others
module _ (item : Item) (rest : List view.Item) where
  owes_on : (owed : ℕ) (answers : List Item) → owed + length answers ≡ owed_of rest → owed_of (lines_two item owed answers ++ rest) ≡ owed
  owes_on owed [] same = omega (arith, same)
  owes_on owed (answer ∷ answers) same = refl

  firsts_on : (owed : ℕ) (answers : List Item) → firsts (lines_two item owed answers ++ rest) ≡ firsts rest
  firsts_on owed [] = refl
  firsts_on owed (answer ∷ answers) = firsts_on (owed + 1) answers

  seconds_on : (owed : ℕ) (answers : List Item) → length (seconds (lines_two item owed answers ++ rest)) ≡ length answers + length (seconds rest)
  seconds_on owed [] = omega arith
  seconds_on owed (answer ∷ answers) = omega (arith, seconds_on (owed + 1) answers)

  newest_on : (owed : ℕ) (answers : List Item) (line : view.Item) → line.packet ≡ unsided item.packet → line.first ≡ Some item.entry → IsOfNewest rest line
      → IsOfNewest (lines_two item owed answers ++ rest) line
  newest_on owed [] line packet first of = of
  newest_on owed (answer ∷ answers) line packet first of = (packet, first)

  -- both engines passed the record
  answer_copied : (answer : Item) → IsUnchanged answer → (item.entry.verdict ≡ verdicts.Pass → answer.packet.octets ≡ item.packet.octets)
      → (is_pass item.entry.verdict && is_pass answer.entry.verdict) ≡ true
      → is_only_copy item.packet.octets item.packet.seconds item.packet.fraction (frames_with item.packet answer.frames) ≡ true
  answer_copied answer unchanged handed passed =
      let both = both_pass (is_pass item.entry.verdict) (is_pass answer.entry.verdict) passed in
      copied item.packet answer.frames
      (unchanged (pass_is answer.entry.verdict both.1) ∙ ap (λ o. o ∷ []) (handed (pass_is item.entry.verdict both.0)))

  are_on : (owed : ℕ) (answers back : List Item) → AreGood (answers ++ back)
      → (item.entry.verdict ≡ verdicts.Pass → AllByRecursion (λ (answer : Item). answer.packet.octets ≡ item.packet.octets) answers)
      → owed + length answers ≡ owed_of rest
      → ((line : view.Item) → line.packet ≡ unsided item.packet → line.first ≡ Some item.entry → IsOfNewest rest line) → length (seconds rest) ≡ length back
      → AreItems Both rest → AreItems Both (lines_two item owed answers ++ rest)
  are_on owed [] back good handed same newest count are = are
  are_on owed (answer ∷ answers) back good handed same newest count are = (
    record {
      fits = good.0.fits;
      turn = inr (record {
        owes = owes_on (owed + 1) answers (omega (arith, same));
        newest = newest_on (owed + 1) answers _ refl refl (newest _ refl refl);
        number = omega (arith, good.0.number, length-append answers back, seconds_on (owed + 1) answers, count);
        frames = with_long item.packet answer.frames ∙ sym good.0.packets;
      });
      unchanged = answer_copied answer good.0.unchanged (λ pass. (handed pass).0);
    },
    are_on (owed + 1) answers back good.1 (λ pass. (handed pass).1) (omega (arith, same)) newest count are,
  )

  frames_on : (owed : ℕ) (answers : List Item)
      → frames_of (lines_two item owed answers ++ rest) ≡ frames_with item.packet (answers_frames answers) ++ frames_of rest
  unfolding frames_with
  frames_on owed [] = refl
  frames_on owed (answer ∷ answers) =
      let f = record_with item.packet in
      ap (λ ws. reverse (map f answer.frames) ++ ws) (frames_on (owed + 1) answers)
      ∙ sym (append_assoc (reverse (map f answer.frames)) (reverse (map f (answers_frames answers))) (frames_of rest))
      ∙ ap (λ ws. ws ++ frames_of rest)
      (sym (reverse-append (map f (answers_frames answers)) (map f answer.frames)) ∙ ap reverse (sym (map-append f (answers_frames answers) answer.frames)))

  text_on : (owed : ℕ) (answers : List Item)
      → lines_text (lines_of (lines_two item owed answers ++ rest)) ≡ lines_text (lines_of rest) ++ answers_text answers
  text_on owed [] = sym (append-nil (lines_text (lines_of rest)))
  text_on owed (answer ∷ answers) =
      ap (λ t. t ++ 47 ∷ entry_text answer.entry) (text_on (owed + 1) answers)
      ∙ append_assoc (lines_text (lines_of rest)) (answers_text answers) (47 ∷ entry_text answer.entry)

-- as many items of the second engine as frames of the first
pub frames_in : List Item → ℕ
frames_in [] = 0
frames_in (item ∷ older) = length item.frames + frames_in older

behind_long : (rs older : List Packet) → length (behind rs older) ≡ length rs + length older
behind_long [] older = omega arith
behind_long (r ∷ rs) older = omega (arith, behind_long rs (r ∷ older))

pub records_long : (trace : List Item) → length (records_of trace) ≡ frames_in trace
unfolding frames_in
records_long [] = refl
records_long (item ∷ older) =
    omega (arith, behind_long (records_for item) (records_of older), length-map item.frames (λ frame. record_with item.packet frame), records_long older)

pub in_trace : (trace : List Item) → frames_in trace ≡ length (frames_of_trace trace)
unfolding frames_in
in_trace [] = refl
in_trace (item ∷ older) = omega (arith, length-append (reverse item.frames) (frames_of_trace older), length-reverse item.frames, in_trace older)

two_firsts : (trace mirror : List Item) → length (firsts (items_two trace mirror)) ≡ length trace
two_firsts [] mirror = refl
two_firsts (item ∷ older) mirror =
    let back = drop (length item.frames) mirror in
    let all = ap length (firsts_on item (line_first item ∷ items_two older back) 0 (take (length item.frames) mirror)) in
    omega (arith, all, two_firsts older back)

-- the next items of the second engine
module _ (item : Item) (older mirror : List Item) (many : length mirror ≡ length item.frames + frames_in older) where
  taken_long : length (take (length item.frames) mirror) ≡ length item.frames
  taken_long = length-take-le (length item.frames) mirror (omega (arith, many))

  left_long : length (drop (length item.frames) mirror) ≡ frames_in older
  left_long = omega (arith, length-drop (length item.frames) mirror, many)

pub two_owes : (trace mirror : List Item) → length mirror ≡ frames_in trace → owed_of (items_two trace mirror) ≡ 0
unfolding frames_in
two_owes [] mirror many = refl
two_owes (item ∷ older) mirror many =
    owes_on item (line_first item ∷ items_two older (drop (length item.frames) mirror)) 0 (take (length item.frames) mirror) (omega (arith, taken_long item older mirror many))

two_seconds : (trace mirror : List Item) → length mirror ≡ frames_in trace → length (seconds (items_two trace mirror)) ≡ length mirror
unfolding frames_in
two_seconds [] mirror many = sym many
two_seconds (item ∷ older) mirror many =
    let front = take (length item.frames) mirror in
    let back = drop (length item.frames) mirror in
    omega (
      arith,
      seconds_on item (line_first item ∷ items_two older back) 0 front,
      two_seconds older back (left_long item older mirror many),
      taken_long item older mirror many,
      left_long item older mirror many,
      many,
    )

pub are_two : (trace mirror : List Item) → length mirror ≡ frames_in trace → packets mirror ≡ records_of trace → AreGood trace → AreGood mirror
    → AreItems Both (items_two trace mirror)
unfolding frames_in
are_two [] mirror many handed good answers = tt
are_two (item ∷ older) mirror many handed good answers =
    let hands = hands_on item older mirror handed good.0.unchanged in
    let front = take (length item.frames) mirror in
    let back = drop (length item.frames) mirror in
    let both : AreGood (front ++ back) = subst AreGood (sym (take-append-drop (length item.frames) mirror)) answers in
    let left = left_long item older mirror many in
    are_on item (line_first item ∷ items_two older back) 0 front back both hands.passed (omega (arith, taken_long item older mirror many)) (λ line packet first. (packet, first))
    (two_seconds older back left) (
      record {
        fits = good.0.fits;
        turn = inl (record {
          none_owed = two_owes older back left;
          alone = refl;
          number = good.0.number ∙ ap (λ n. n + 1) (sym (two_firsts older back));
          frames = refl;
          owes = sym good.0.packets;
        });
        unchanged = λ passed. absurd (cc);
      },
      are_two older back left hands.rest good.1 (good_behind front back both),
    )

pub shows_two : (trace mirror : List Item) → Shows (two trace mirror) (puts_by_two trace mirror) (items_two trace mirror)
unfolding frames_with
shows_two [] mirror = record { records = refl; frames = refl; text = refl }
shows_two (item ∷ older) mirror =
    let front = take (length item.frames) mirror in
    let back = drop (length item.frames) mirror in
    let before = shows_two older back in
    let rest = line_first item ∷ items_two older back in
    record {
      records = ap packets_in (firsts_on item rest 0 front) ∙ ap (λ ps. unsided item.packet ∷ ps) before.records;
      frames = frames_on item rest 0 front ∙ ap (λ ws. frames_with item.packet (answers_frames front) ++ ws) before.frames;
      text =
          text_on item rest 0 front ∙ append_assoc (lines_text (lines_of (items_two older back))) (entry_text item.entry) (answers_text front)
          ∙ ap (λ t. t ++ (entry_text item.entry ++ answers_text front)) before.text;
    }
