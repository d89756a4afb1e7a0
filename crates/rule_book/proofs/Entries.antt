-- The text of an entry and of a last line as joined words, and the words that are read back from
-- it.
use Rattle.std.proofs.Common.{◌≡◌, ℕ, ◌<◌, ◌≤◌, Bool, true, false, nat_eq, List, [], ◌∷◌, length, map, refl, sym, ap, ◌∙◌, subst, arith, rules, append-nil, length-append, ◌^◌, ◌++◌, Option, Some, None, IfSome, decimal, append_assoc, codes}
use Rattle.std.proofs.lemmas.Bool.Decides.{nat_tests}
use Rattle.std.specs.List.{AllByRecursion, after_first, before_first, flat_map}
use Rattle.std.proofs.lemmas.List.Concat.{flat_map-append}
use Rattle.std.proofs.lemmas.List.Folds.{flat_map-map}
use Rattle.rule_book.specs.Entries.{PlainEntry}
use Rattle.rule_book.specs.ReportReading.{EntryFits, EndedFits, LastFits}
use Rattle.rule_book.specs.Rules.{rule_name}
use Rattle.rule_book.specs.Text.{part, ended_part, entry_text, era_part, rule_parts, side_word, verdict_word, ended_word, octets_part, reason_word, last_text, stop_word}
use Rattle.rule_book.specs.working.LineWords.{Awaits, HasRoom, Mark, MarkFits, joined, mark_word, with_mark, with_marks, HasWords, bare, HasParts, octets_word, HasLastWords}
use Rattle.rule_book.specs.working.LineWords.Mark.{named, belongs, began, over}
use Rattle.rule_book.specs.declared.rule.Rule.{Rule}
use Rattle.rule_book.specs.declared.entry.Ended.{Ended}
use Rattle.rule_book.specs.declared.entry.Reason.{Reason}
use Rattle.rule_book.specs.declared.last.Last.{Last}
use Rattle.rule_book.specs.declared.last.Last.TheVariants.{End, Stop}
use Rattle.rule_book.proofs.Lines.{after_in, after_past, before_in, before_past, is_solid, mark-solid, solid-has_no, has_no, has_no-append, decimal-solid, side-solid, verdict-solid, decimal-no_colon, reason-no_colon, IsLine, stop-solid, all-append}

-- An entry's words, read one after another.

-- the first of joined words
pub joined_before : (text word : List ℕ) (words : List (List ℕ)) → is_solid word ≡ true → text ≡ joined (word ∷ words) → before_first (λ x. nat_eq x 32) text ≡ word
joined_before text word [] solid is =
    let whole : text ≡ word = is ∙ append-nil word in
    ap (before_first (λ x. nat_eq x 32)) whole ∙ before_past 32 word (solid-has_no 32 word refl solid)
joined_before text word (next ∷ words) solid is = before_in 32 text word (joined (next ∷ words)) (solid-has_no 32 word refl solid) is

-- the joined words after the first
pub joined_after : (text word : List ℕ) (words : List (List ℕ)) → is_solid word ≡ true → text ≡ joined (word ∷ words) → after_first (λ x. nat_eq x 32) text ≡ joined words
joined_after text word [] solid is =
    let whole : text ≡ word = is ∙ append-nil word in
    ap (after_first (λ x. nat_eq x 32)) whole ∙ after_past 32 word (solid-has_no 32 word refl solid)
joined_after text word (next ∷ words) solid is = after_in 32 text word (joined (next ∷ words)) (solid-has_no 32 word refl solid) is

name_some : (rule : Rule) → 0 < length (rule_name rule)
name_some rule = search rules

pub mark_some : (mark : Mark) → 0 < length (mark_word mark)
mark_some (named rule) = name_some rule
mark_some (belongs era) = omega arith
mark_some (began era) = omega arith
mark_some (over ended) = omega arith

-- marks never remove rules or ended eras
rules_grow : (entry : PlainEntry) (marks : List Mark) → length entry.rules ≤ length (with_marks entry marks).rules
rules_grow entry [] = omega arith
rules_grow entry (named rule ∷ marks) = omega (arith, rules_grow (with_mark entry (named rule)) marks, length-append entry.rules (rule ∷ []))
rules_grow entry (belongs era ∷ marks) = rules_grow (with_mark entry (belongs era)) marks
rules_grow entry (began era ∷ marks) = rules_grow (with_mark entry (began era)) marks
rules_grow entry (over ended ∷ marks) = rules_grow (with_mark entry (over ended)) marks

ended_grow : (entry : PlainEntry) (marks : List Mark) → length entry.ended ≤ length (with_marks entry marks).ended
ended_grow entry [] = omega arith
ended_grow entry (named rule ∷ marks) = ended_grow (with_mark entry (named rule)) marks
ended_grow entry (belongs era ∷ marks) = ended_grow (with_mark entry (belongs era)) marks
ended_grow entry (began era ∷ marks) = ended_grow (with_mark entry (began era)) marks
ended_grow entry (over ended ∷ marks) = omega (arith, ended_grow (with_mark entry (over ended)) marks, length-append entry.ended (ended ∷ []))

has_room : (entry : PlainEntry) (mark : Mark) (marks : List Mark) → length (with_marks (with_mark entry mark) marks).rules ≤ 16 → length (with_marks (with_mark entry mark) marks).ended ≤ 4 → HasRoom entry mark
has_room entry (named rule) marks rules_fit ended_fit = omega (arith, rules_grow (with_mark entry (named rule)) marks, length-append entry.rules (rule ∷ []))
has_room entry (belongs era) marks rules_fit ended_fit = tt
has_room entry (began era) marks rules_fit ended_fit = tt
has_room entry (over ended) marks rules_fit ended_fit = omega (arith, ended_grow (with_mark entry (over ended)) marks, length-append entry.ended (ended ∷ []))

-- the next word is that of a mark, and the words after it are the other marks
pub record IsNext (entry : PlainEntry) (rest : List ℕ) (whole : PlainEntry) : Type 0 where
  pub mark : Mark
  pub fits : MarkFits mark
  pub room : HasRoom entry mark
  pub word : before_first (λ x. nat_eq x 32) rest ≡ mark_word mark
  pub awaits : Awaits (with_mark entry mark) (after_first (λ x. nat_eq x 32) rest) whole

next_of : (entry : PlainEntry) (rest : List ℕ) (whole : PlainEntry) (marks : List Mark) → EntryFits whole → AllByRecursion MarkFits marks → rest ≡ joined (map mark_word marks) → with_marks entry marks ≡ whole → 0 < length rest → IsNext entry rest whole
next_of entry rest whole [] fits all text gives some = absurd (omega (arith, ap length text))
next_of entry rest whole (mark ∷ marks) fits all text gives some = record {
  mark = mark;
  fits = all.0;
  room = has_room entry mark marks (subst (λ (e : PlainEntry). length e.rules ≤ 16) (sym gives) fits.rules) (subst (λ (e : PlainEntry). length e.ended ≤ 4) (sym gives) fits.ended);
  word = joined_before rest (mark_word mark) (map mark_word marks) (mark-solid mark all.0) text;
  awaits = record { marks = marks; fit = all.1; text = joined_after rest (mark_word mark) (map mark_word marks) (mark-solid mark all.0) text; gives = gives };
}

pub awaits_next : (entry : PlainEntry) (rest : List ℕ) (whole : PlainEntry) → EntryFits whole → Awaits entry rest whole → 0 < length rest → IsNext entry rest whole
awaits_next entry rest whole fits a some = next_of entry rest whole a.marks fits a.fit a.text a.gives some

done_of : (entry : PlainEntry) (rest : List ℕ) (whole : PlainEntry) (marks : List Mark) → rest ≡ joined (map mark_word marks) → with_marks entry marks ≡ whole → length rest ≡ 0 → entry ≡ whole
done_of entry rest whole [] text gives none = gives
done_of entry rest whole (mark ∷ marks) text gives none =
    absurd (omega (arith, mark_some mark, ap length text, length-append (mark_word mark) (flat_map part (map mark_word marks))))

pub awaits_done : (entry : PlainEntry) (rest : List ℕ) (whole : PlainEntry) → Awaits entry rest whole → length rest ≡ 0 → entry ≡ whole
awaits_done entry rest whole a none = done_of entry rest whole a.marks a.text a.gives none

pub awaits_at : {entry other : PlainEntry} {rest text : List ℕ} {whole : PlainEntry} → other ≡ entry → text ≡ rest → Awaits entry rest whole → Awaits other text whole
awaits_at same_entry same_text a = record { marks = a.marks; fit = a.fit; text = same_text ∙ a.text; gives = ap (λ e. with_marks e a.marks) same_entry ∙ a.gives }

-- a length is above 0 if `is_empty` is false
pub is_full : (n : ℕ) (empty : Bool) → empty ≡ nat_eq n 0 → empty ≡ false → 0 < n
is_full n empty is test = grind (arith, nat_tests)

pub is_none : (n : ℕ) (empty : Bool) → empty ≡ nat_eq n 0 → empty ≡ true → n ≡ 0
is_none n empty is test = grind (arith, nat_tests)

-- The text of an entry as joined words.

-- the mark of an era, if there is an era
abbrev pub era_marks : (ℕ → Mark) → Option ℕ → List Mark
era_marks mark None = []
era_marks mark (Some era) = mark era ∷ []

-- all marks of an entry
abbrev pub marks_of : PlainEntry → List Mark
marks_of entry = map named entry.rules ++ (era_marks belongs entry.era ++ (era_marks began entry.begun ++ map over entry.ended))

-- the word of a mark after a space
abbrev pub mark_part : Mark → List ℕ
mark_part mark = part (mark_word mark)

named-parts : (rules : List Rule) → flat_map mark_part (map named rules) ≡ rule_parts rules
named-parts [] = refl
named-parts (rule ∷ rules) = ap (λ l. part (rule_name rule) ++ l) (named-parts rules)

over-parts : (ended : List Ended) → flat_map mark_part (map over ended) ≡ flat_map ended_part ended
over-parts [] = refl
over-parts (e ∷ ended) = ap (λ l. ended_part e ++ l) (over-parts ended)

belongs-parts : (era : Option ℕ) → flat_map mark_part (era_marks belongs era) ≡ era_part 64 era
belongs-parts None = refl
belongs-parts (Some era) = append-nil (era_part 64 (Some era))

began-parts : (era : Option ℕ) → flat_map mark_part (era_marks began era) ≡ era_part 43 era
began-parts None = refl
began-parts (Some era) = append-nil (era_part 43 (Some era))

marks-parts : (entry : PlainEntry) → flat_map mark_part (marks_of entry) ≡ rule_parts entry.rules ++ (era_part 64 entry.era ++ (era_part 43 entry.begun ++ flat_map ended_part entry.ended))
marks-parts entry =
    let e = era_marks belongs entry.era in
    let b = era_marks began entry.begun in
    let o = map over entry.ended in
    flat_map-append mark_part (map named entry.rules) (e ++ (b ++ o))
    ∙ (λ i. named-parts entry.rules i ++ (flat_map-append mark_part e (b ++ o) i))
    ∙ (λ i. rule_parts entry.rules ++ (belongs-parts entry.era i ++ (flat_map-append mark_part b o i)))
    ∙ (λ i. rule_parts entry.rules ++ (era_part 64 entry.era ++ (began-parts entry.begun i ++ over-parts entry.ended i)))

-- the words of an entry
abbrev pub words_of : PlainEntry → List (List ℕ)
words_of entry = decimal entry.number ∷ side_word entry.side ∷ verdict_word entry.verdict ∷ decimal entry.packets ∷ map mark_word (marks_of entry)

regroup : (a b c d e f g h t : List ℕ) → (((((((a ++ b) ++ c) ++ d) ++ e) ++ f) ++ g) ++ h) ++ t ≡ (a ++ (b ++ (c ++ (d ++ (e ++ (f ++ (g ++ h))))))) ++ t
regroup a b c d e f g h t = simp append_assoc

-- a line is the joined words of its entry and a line feed
pub entry_text-joined : (entry : PlainEntry) → entry_text entry ≡ joined (words_of entry) ++ 10 ∷ []
entry_text-joined entry =
    let tail = rule_parts entry.rules ++ (era_part 64 entry.era ++ (era_part 43 entry.begun ++ flat_map ended_part entry.ended)) in
    let parts : flat_map part (map mark_word (marks_of entry)) ≡ tail = flat_map-map part mark_word (marks_of entry) ∙ marks-parts entry in
    regroup (decimal entry.number) (part (side_word entry.side)) (part (verdict_word entry.verdict)) (part (decimal entry.packets)) (rule_parts entry.rules) (era_part 64 entry.era) (era_part 43 entry.begun) (flat_map ended_part entry.ended) (10 ∷ [])
    ∙ ap (λ l. (decimal entry.number ++ (part (side_word entry.side) ++ (part (verdict_word entry.verdict) ++ (part (decimal entry.packets) ++ l)))) ++ 10 ∷ []) (sym parts)

-- joined solid words have no line feed
pub joined-no_feed : (words : List (List ℕ)) → AllByRecursion (λ word. is_solid word ≡ true) words → has_no 10 (joined words) ≡ true
joined-no_feed [] solid = refl
joined-no_feed (word ∷ []) solid = has_no-append 10 word [] (solid-has_no 10 word refl solid.0) refl
joined-no_feed (word ∷ next ∷ words) solid =
    has_no-append 10 word (32 ∷ joined (next ∷ words)) (solid-has_no 10 word refl solid.0) (joined-no_feed (next ∷ words) solid.1)

marks-solid : (marks : List Mark) → AllByRecursion MarkFits marks → AllByRecursion (λ word. is_solid word ≡ true) (map mark_word marks)
marks-solid [] fit = tt
marks-solid (mark ∷ marks) fit = (mark-solid mark fit.0, marks-solid marks fit.1)

named-fit : (rules : List Rule) → AllByRecursion MarkFits (map named rules)
named-fit [] = tt
named-fit (rule ∷ rules) = (tt, named-fit rules)

over-fit : (ended : List Ended) → AllByRecursion EndedFits ended → AllByRecursion MarkFits (map over ended)
over-fit [] fit = tt
over-fit (e ∷ ended) fit = (fit.0, over-fit ended fit.1)

belongs-fit : (era : Option ℕ) → IfSome era (λ n. n < 2 ^ 32) → AllByRecursion MarkFits (era_marks belongs era)
belongs-fit None fit = tt
belongs-fit (Some era) fit = (fit, tt)

began-fit : (era : Option ℕ) → IfSome era (λ n. n < 2 ^ 32) → AllByRecursion MarkFits (era_marks began era)
began-fit None fit = tt
began-fit (Some era) fit = (fit, tt)

pub marks-fit : (entry : PlainEntry) → EntryFits entry → AllByRecursion MarkFits (marks_of entry)
marks-fit entry fits =
    let e = era_marks belongs entry.era in
    let b = era_marks began entry.begun in
    let o = map over entry.ended in
    all-append MarkFits (map named entry.rules) (e ++ (b ++ o)) (named-fit entry.rules)
    (all-append MarkFits e (b ++ o) (belongs-fit entry.era fits.era) (all-append MarkFits b o (began-fit entry.begun fits.begun) (over-fit entry.ended fits.eras)))

pub words-solid : (entry : PlainEntry) → EntryFits entry → AllByRecursion (λ word. is_solid word ≡ true) (words_of entry)
words-solid entry fits =
    (decimal-solid entry.number (let h = fits.number in omega arith), (side-solid entry.side, (verdict-solid entry.verdict, (decimal-solid entry.packets (let h = fits.packets in omega arith), marks-solid (marks_of entry) (marks-fit entry fits)))))

-- rules are added to an entry one after another
with_named : (entry : PlainEntry) (rules : List Rule) (marks : List Mark) → with_marks entry (map named rules ++ marks) ≡ with_marks (record entry { rules = entry.rules ++ rules }) marks
with_named entry [] marks = ap (λ (l : List Rule). with_marks (record entry { rules = l }) marks) (sym (append-nil entry.rules))
with_named entry (rule ∷ rules) marks =
    with_named (with_mark entry (named rule)) rules marks
    ∙ ap (λ (l : List Rule). with_marks (record entry { rules = l }) marks) (append_assoc entry.rules (rule ∷ []) rules)

with_over : (entry : PlainEntry) (ended : List Ended) → with_marks entry (map over ended) ≡ record entry { ended = entry.ended ++ ended }
with_over entry [] = ap (λ (l : List Ended). record entry { ended = l }) (sym (append-nil entry.ended))
with_over entry (e ∷ ended) =
    with_over (with_mark entry (over e)) ended
    ∙ ap (λ (l : List Ended). record entry { ended = l }) (append_assoc entry.ended (e ∷ []) ended)

with_eras : (entry : PlainEntry) (era begun : Option ℕ) (ended : List Ended) → entry.era ≡ None → entry.begun ≡ None → entry.ended ≡ []
    → with_marks entry (era_marks belongs era ++ (era_marks began begun ++ map over ended)) ≡ record entry { era = era; begun = begun; ended = ended }
with_eras entry None None ended no_era no_begun no_ended =
    with_over entry ended ∙ (λ i. record entry { era = no_era i; begun = no_begun i; ended = no_ended i ++ ended })
with_eras entry None (Some b) ended no_era no_begun no_ended =
    with_over (with_mark entry (began b)) ended ∙ (λ i. record entry { era = no_era i; begun = Some b; ended = no_ended i ++ ended })
with_eras entry (Some e) None ended no_era no_begun no_ended =
    with_over (with_mark entry (belongs e)) ended ∙ (λ i. record entry { era = Some e; begun = no_begun i; ended = no_ended i ++ ended })
with_eras entry (Some e) (Some b) ended no_era no_begun no_ended =
    with_over (with_mark (with_mark entry (belongs e)) (began b)) ended ∙ (λ i. record entry { era = Some e; begun = Some b; ended = no_ended i ++ ended })

pub bare-with_marks : (entry : PlainEntry) → with_marks (bare entry) (marks_of entry) ≡ entry
bare-with_marks entry =
    with_named (bare entry) entry.rules (era_marks belongs entry.era ++ (era_marks began entry.begun ++ map over entry.ended))
    ∙ with_eras (record (bare entry) { rules = entry.rules }) entry.era entry.begun entry.ended refl refl refl

-- the line of an entry without its line feed is what precedes its first one
pub front_is : (entry : PlainEntry) → EntryFits entry → (line body : List ℕ) → line ≡ entry_text entry → ((front : List ℕ) → line ≡ front ++ 10 ∷ [] → body ≡ front) → body ≡ before_first (λ x. nat_eq x 10) line
front_is entry fits line body is b =
    let whole = is ∙ entry_text-joined entry in
    b (joined (words_of entry)) whole ∙ sym (before_in 10 line (joined (words_of entry)) [] (joined-no_feed (words_of entry) (words-solid entry fits)) whole)

-- the line of an entry, cut at its spaces, gives the words of the entry
pub words_at : (entry : PlainEntry) → EntryFits entry → (line body number behind_number side behind_side verdict behind_verdict packets marks : List ℕ)
    → line ≡ entry_text entry → body ≡ before_first (λ x. nat_eq x 10) line
    → number ≡ before_first (λ x. nat_eq x 32) body → behind_number ≡ after_first (λ x. nat_eq x 32) body
    → side ≡ before_first (λ x. nat_eq x 32) behind_number → behind_side ≡ after_first (λ x. nat_eq x 32) behind_number
    → verdict ≡ before_first (λ x. nat_eq x 32) behind_side → behind_verdict ≡ after_first (λ x. nat_eq x 32) behind_side
    → packets ≡ before_first (λ x. nat_eq x 32) behind_verdict → marks ≡ after_first (λ x. nat_eq x 32) behind_verdict
    → HasWords entry number side verdict packets marks
words_at entry fits line body number behind_number side behind_side verdict behind_verdict packets marks is b n0 n1 s0 s1 v0 v1 p0 p1 =
    let solid = words-solid entry fits in
    let body_is : body ≡ joined (words_of entry) = b ∙ before_in 10 line (joined (words_of entry)) [] (joined-no_feed (words_of entry) solid) (is ∙ entry_text-joined entry) in
    let m = map mark_word (marks_of entry) in
    let p = decimal entry.packets ∷ m in
    let v = verdict_word entry.verdict ∷ p in
    let s = side_word entry.side ∷ v in
    let n1_is : behind_number ≡ joined s = n1 ∙ joined_after body (decimal entry.number) s solid.0 body_is in
    let s1_is : behind_side ≡ joined v = s1 ∙ joined_after behind_number (side_word entry.side) v solid.1.0 n1_is in
    let v1_is : behind_verdict ≡ joined p = v1 ∙ joined_after behind_side (verdict_word entry.verdict) p solid.1.1.0 s1_is in
    record {
      number_is = n0 ∙ joined_before body (decimal entry.number) s solid.0 body_is;
      side_is = s0 ∙ joined_before behind_number (side_word entry.side) v solid.1.0 n1_is;
      verdict_is = v0 ∙ joined_before behind_side (verdict_word entry.verdict) p solid.1.1.0 s1_is;
      packets_is = p0 ∙ joined_before behind_verdict (decimal entry.packets) m solid.1.1.1.0 v1_is;
      awaits = record {
        marks = marks_of entry;
        fit = marks-fit entry fits;
        text = p1 ∙ joined_after behind_verdict (decimal entry.packets) m solid.1.1.1.0 v1_is;
        gives = bare-with_marks entry;
      };
    }

-- The word of an ended era, cut at its colons.

-- the reason, and the octets after it
reason_front : (text : List ℕ) (reason : Reason) (octets : Option ℕ) → text ≡ reason_word reason ++ octets_part octets → before_first (λ x. nat_eq x 58) text ≡ reason_word reason
reason_front text reason None is =
    ap (before_first (λ x. nat_eq x 58)) (is ∙ append-nil (reason_word reason)) ∙ before_past 58 (reason_word reason) (reason-no_colon reason)
reason_front text reason (Some octets) is = before_in 58 text (reason_word reason) (decimal octets) (reason-no_colon reason) is

octets_behind : (text : List ℕ) (reason : Reason) (octets : Option ℕ) → text ≡ reason_word reason ++ octets_part octets → after_first (λ x. nat_eq x 58) text ≡ octets_word octets
octets_behind text reason None is =
    ap (after_first (λ x. nat_eq x 58)) (is ∙ append-nil (reason_word reason)) ∙ after_past 58 (reason_word reason) (reason-no_colon reason)
octets_behind text reason (Some octets) is = after_in 58 text (reason_word reason) (decimal octets) (reason-no_colon reason) is

-- the three parts of the word
pub parts_at : (ended : Ended) → EndedFits ended → (word era behind reason octets : List ℕ) → word ≡ ended_word ended
    → era ≡ before_first (λ x. nat_eq x 58) word → behind ≡ after_first (λ x. nat_eq x 58) word
    → reason ≡ before_first (λ x. nat_eq x 58) behind → octets ≡ after_first (λ x. nat_eq x 58) behind
    → HasParts ended era reason octets
parts_at ended fits word era behind reason octets is e0 e1 r0 r1 =
    let none = decimal-no_colon ended.era (let h = fits.era in omega arith) in
    let rest = reason_word ended.reason ++ octets_part ended.octets in
    let behind_is : behind ≡ rest = e1 ∙ after_in 58 word (decimal ended.era) rest none is in
    record {
      era_is = e0 ∙ before_in 58 word (decimal ended.era) rest none is;
      reason_is = r0 ∙ reason_front behind ended.reason ended.octets behind_is;
      octets_is = r1 ∙ octets_behind behind ended.reason ended.octets behind_is;
    }

-- the octets that are parsed from the third part
pub octets_found : (word : List ℕ) (result : Option (Option ℕ)) (octets : Option ℕ) → IfSome octets (λ n. n < 2 ^ 64) → word ≡ octets_word octets
    → (word ≡ [] → result ≡ Some None) → ((n : ℕ) → n < 2 ^ 64 → word ≡ decimal n → result ≡ Some (Some n)) → result ≡ Some octets
octets_found word result None fits is none some = none is
octets_found word result (Some n) fits is none some = some n fits is

-- The text of a last line as joined words.

-- three words and a line feed
regroup_three : (a b c t : List ℕ) → ((a ++ b) ++ c) ++ t ≡ (a ++ (b ++ (c ++ []))) ++ t
regroup_three a b c t = simp (append_assoc, append-nil)

three : (a b c : List ℕ) → ((a ++ part b) ++ part c) ++ 10 ∷ [] ≡ joined (a ∷ b ∷ c ∷ []) ++ 10 ∷ []
three a b c = regroup_three a (part b) (part c) (10 ∷ [])

-- cut at spaces the line gives these three words
pub record AreThree (a b c word first second : List ℕ) : Type 0 where
  pub word_is : word ≡ a
  pub first_is : first ≡ b
  pub second_is : second ≡ c

three_at : (a b c line body word behind first second : List ℕ) → AllByRecursion (λ w. is_solid w ≡ true) (a ∷ b ∷ c ∷ [])
    → line ≡ ((a ++ part b) ++ part c) ++ 10 ∷ [] → body ≡ before_first (λ x. nat_eq x 10) line
    → word ≡ before_first (λ x. nat_eq x 32) body → behind ≡ after_first (λ x. nat_eq x 32) body
    → first ≡ before_first (λ x. nat_eq x 32) behind → second ≡ after_first (λ x. nat_eq x 32) behind
    → AreThree a b c word first second
three_at a b c line body word behind first second solid is bo w0 w1 f0 f1 =
    let body_is : body ≡ joined (a ∷ b ∷ c ∷ []) = bo ∙ before_in 10 line (joined (a ∷ b ∷ c ∷ [])) [] (joined-no_feed (a ∷ b ∷ c ∷ []) solid) (is ∙ three a b c) in
    let behind_is : behind ≡ joined (b ∷ c ∷ []) = w1 ∙ joined_after body a (b ∷ c ∷ []) solid.0 body_is in
    record {
      word_is = w0 ∙ joined_before body a (b ∷ c ∷ []) solid.0 body_is;
      first_is = f0 ∙ joined_before behind b (c ∷ []) solid.1.0 behind_is;
      second_is = f1 ∙ joined_after behind b (c ∷ []) solid.1.0 behind_is ∙ append-nil c;
    }

pub last_words_at : (last : Last) → LastFits last → (line body word behind first second : List ℕ)
    → line ≡ last_text last → body ≡ before_first (λ x. nat_eq x 10) line
    → word ≡ before_first (λ x. nat_eq x 32) body → behind ≡ after_first (λ x. nat_eq x 32) body
    → first ≡ before_first (λ x. nat_eq x 32) behind → second ≡ after_first (λ x. nat_eq x 32) behind
    → HasLastWords last word first second
last_words_at (End records packets) fits line body word behind first second is bo w0 w1 f0 f1 =
    let t = three_at (codes "end") (decimal records) (decimal packets) line body word behind first second (refl, (decimal-solid records (omega (arith, fits.0)), (decimal-solid packets fits.1, tt))) is bo w0 w1 f0 f1 in
    (t.word_is, t.first_is, t.second_is)
last_words_at (Stop kind offset) fits line body word behind first second is bo w0 w1 f0 f1 =
    let t = three_at (codes "stop") (stop_word kind) (decimal offset) line body word behind first second (refl, (stop-solid kind, (decimal-solid offset fits, tt))) is bo w0 w1 f0 f1 in
    (t.word_is, t.first_is, t.second_is)

three-line : (a b c : List ℕ) → AllByRecursion (λ w. is_solid w ≡ true) (a ∷ b ∷ c ∷ []) → IsLine (((a ++ part b) ++ part c) ++ 10 ∷ [])
three-line a b c solid = record { body = joined (a ∷ b ∷ c ∷ []); no_feed = joined-no_feed (a ∷ b ∷ c ∷ []) solid; whole = three a b c }

pub last-line : (last : Last) → LastFits last → IsLine (last_text last)
last-line (End records packets) fits = three-line (codes "end") (decimal records) (decimal packets) (refl, (decimal-solid records (omega (arith, fits.0)), (decimal-solid packets fits.1, tt)))
last-line (Stop kind offset) fits = three-line (codes "stop") (stop_word kind) (decimal offset) (refl, (stop-solid kind, (decimal-solid offset fits, tt)))
