-- Texts cut at an octet, and put together: words have no space and no line feed, lines end with
-- their only one, and octets are put into a buffer in two steps.
use Rattle.std.proofs.Common.{◌≡◌, Option, Some, None, IsSome, subst, List, [], ◌∷◌, ◌++◌, ℕ, ◌+◌, ◌-◌, ◌≤◌, length, take, drop, sym, ap, ◌∙◌, arith, append_assoc, take-take, length-drop, length-take-le, take-append-drop, Bool, true, not, ◌&&◌, nat_eq, refl, ◌^◌, ◌<◌, false, nat_lt, decimal, rules, IfSome, suc, cond, min}
use Rattle.std.proofs.lemmas.Bool.{false≢true}
use Rattle.std.specs.List.{AllByRecursion, after_first, before_first, position_or_len, concat, onto_first}
use Rattle.std.proofs.Math.Seq.{take-append-add, drop-append-add, take-append_seam, take-length}
use Rattle.rule_book.specs.working.LineBuffers.{Puts}
use Rattle.std.proofs.lemmas.Bool.Decides.{nat_tests}
use Rattle.std.proofs.lemmas.List.{drop_all, drop_min, take_min}
use Rattle.std.proofs.lemmas.Fmt.{digits_decimal}
use Rattle.std.proofs.lemmas.Str.Parse.{numerals_by_value, tells_all_ascii_digits}
use Rattle.std.specs.Str.{all_ascii_digits}
use Rattle.wire_base.specs.declared.address.Side.{Side}
use Rattle.rule_book.specs.Rules.{rule_name}
use Rattle.rule_book.specs.Text.{octets_part, reason_word, side_word, stop_word, verdict_word}
use Rattle.rule_book.specs.working.LineWords.{Mark, MarkFits, mark_word}
use Rattle.rule_book.specs.working.LineWords.Mark.{named, belongs, began, over}
use Rattle.rule_book.specs.declared.entry.Reason.{Reason}
use Rattle.rule_book.specs.declared.entry.Verdict.{Verdict}
use Rattle.rule_book.specs.declared.last.StopKind.{StopKind}
use Rattle.rule_book.specs.declared.rule.Rule.{Rule}
use Rattle.rule_book.specs.ReportReading.{lines}

-- Facts about the values of options.

pub same_some : {A : Type 0} {o : Option A} {x y : A} → o ≡ Some x → o ≡ Some y → x ≡ y
same_some one other = cc

pub none_or_some : {A : Type 0} {o : Option A} {x : A} → o ≡ None → o ≡ Some x → ⊥
none_or_some none some = cc

pub none_is_some : {A : Type 0} {o : Option A} → o ≡ None → IsSome o → ⊥
none_is_some {A} none some = absurd (false≢true (subst (λ (p : Option A). IsSome p) none some))

-- What holds for each element of two lists holds for both joined.

pub all-append : {A : Type 0} (P : A → Type 0) (xs ys : List A) → AllByRecursion P xs → AllByRecursion P ys → AllByRecursion P (xs ++ ys)
all-append P [] ys front back = back
all-append P (x ∷ xs) ys front back = (front.0, all-append P xs ys front.1 back)

-- Octets that are written into a buffer in several steps.

-- the first octets of a word, and then the last ones, which may overlap
pub puts_ends : (old mid new word front back : List ℕ) (at part rest next end : ℕ) → at ≤ length old → part ≤ length word → length word ≤ part + part → rest ≡ length word - part
    → front ≡ take part word → back ≡ drop rest word → Puts old mid at next front → Puts mid new (at + rest) end back → Puts old new at end word
puts_ends old mid new word front back at part rest next end fits within whole r f b p q =
    let long : length front ≡ part = ap length f ∙ length-take-le part word within in
    let here : length (take at old) ≡ at = length-take-le at old fits in
    let first : take (at + rest) mid ≡ take at old ++ take rest word =
    sym (take-take (at + rest) next mid (omega (arith, p.len, long, r)))
    ∙ ap (take (at + rest)) p.text
    ∙ ap (λ k. take (k + rest) (take at old ++ front)) (sym here)
    ∙ take-append-add (take at old) front rest
    ∙ ap (λ l. take at old ++ l) (ap (take rest) f ∙ take-take rest part word (omega (arith, r))) in
    record {
      text = q.text ∙ ap (λ l. l ++ back) first ∙ append_assoc (take at old) (take rest word) back ∙ ap (λ l. take at old ++ l) (ap (λ l. take rest word ++ l) b ∙ take-append-drop rest word);
      len = omega (arith, q.len, ap length b, length-drop rest word, r);
      room = q.room ∙ p.room;
    }

-- A text is cut at an octet.

-- whether none of the octets is this one
abbrev pub has_no : ℕ → List ℕ → Bool
has_no octet [] = true
has_no octet (x ∷ xs) = not (nat_eq x octet) && has_no octet xs

pub has_no-append : (octet : ℕ) (xs ys : List ℕ) → has_no octet xs ≡ true → has_no octet ys ≡ true → has_no octet (xs ++ ys) ≡ true
has_no-append octet [] ys front back = back
has_no-append octet (x ∷ xs) ys front back = grind (arith, nat_tests, has_no-append octet xs ys)

place_in : (octet : ℕ) (front behind : List ℕ) → has_no octet front ≡ true → position_or_len (λ x. nat_eq x octet) (front ++ octet ∷ behind) ≡ length front
place_in octet [] behind none = grind (arith, nat_tests)
place_in octet (x ∷ front) behind none = grind (arith, nat_tests, place_in octet front behind)

place_past : (octet : ℕ) (text : List ℕ) → has_no octet text ≡ true → position_or_len (λ x. nat_eq x octet) text ≡ length text
place_past octet [] none = refl
place_past octet (x ∷ text) none = grind (arith, nat_tests, place_past octet text)

drop_past : (text : List ℕ) → drop (length text + 1) text ≡ []
drop_past text = drop_all (length text + 1) text (omega arith)

-- the front, if the octet follows it and is not in it
pub before_in : (octet : ℕ) (text front behind : List ℕ) → has_no octet front ≡ true → text ≡ front ++ octet ∷ behind → before_first (λ x. nat_eq x octet) text ≡ front
before_in octet text front behind none is =
    ap (before_first (λ x. nat_eq x octet)) is ∙ ap (λ k. take k (front ++ octet ∷ behind)) (place_in octet front behind none) ∙ take-append_seam front (octet ∷ behind)

pub after_in : (octet : ℕ) (text front behind : List ℕ) → has_no octet front ≡ true → text ≡ front ++ octet ∷ behind → after_first (λ x. nat_eq x octet) text ≡ behind
after_in octet text front behind none is =
    ap (after_first (λ x. nat_eq x octet)) is ∙ ap (λ k. drop (k + 1) (front ++ octet ∷ behind)) (place_in octet front behind none) ∙ drop-append-add front (octet ∷ behind) 1

-- all of the text, if the octet is not in it
pub before_past : (octet : ℕ) (text : List ℕ) → has_no octet text ≡ true → before_first (λ x. nat_eq x octet) text ≡ text
before_past octet text none = ap (λ k. take k text) (place_past octet text none) ∙ take-length text

pub after_past : (octet : ℕ) (text : List ℕ) → has_no octet text ≡ true → after_first (λ x. nat_eq x octet) text ≡ []
after_past octet text none = ap (λ k. drop (k + 1) text) (place_past octet text none) ∙ drop_past text

-- Words have no space and no line feed.

-- whether each octet is above the space (32)
abbrev pub is_solid : List ℕ → Bool
is_solid [] = true
is_solid (x ∷ xs) = nat_lt 32 x && is_solid xs

pub solid-has_no : (octet : ℕ) (xs : List ℕ) → nat_lt 32 octet ≡ false → is_solid xs ≡ true → has_no octet xs ≡ true
solid-has_no octet [] low solid = refl
solid-has_no octet (x ∷ xs) low solid = grind (arith, nat_tests, solid-has_no octet xs)

pub solid-append : (xs ys : List ℕ) → is_solid xs ≡ true → is_solid ys ≡ true → is_solid (xs ++ ys) ≡ true
solid-append [] ys front back = back
solid-append (x ∷ xs) ys front back = grind (arith, nat_tests, solid-append xs ys)

-- digits have no space and no line feed
digits-solid : (xs : List ℕ) → all_ascii_digits xs ≡ true → is_solid xs ≡ true
digits-solid [] digits = refl
digits-solid (x ∷ xs) digits = grind (arith, nat_tests, digits-solid xs)

digits-no_colon : (xs : List ℕ) → all_ascii_digits xs ≡ true → has_no 58 xs ≡ true
digits-no_colon [] digits = refl
digits-no_colon (x ∷ xs) digits = grind (arith, nat_tests, digits-no_colon xs)

pub decimal_digits : (n : ℕ) → n < 2 ^ 64 → all_ascii_digits (decimal n) ≡ true
decimal_digits n small = digits_decimal (numerals_by_value (λ ds. all_ascii_digits ds ≡ true) tells_all_ascii_digits) n small

pub decimal-solid : (n : ℕ) → n < 2 ^ 64 → is_solid (decimal n) ≡ true
decimal-solid n small = digits-solid (decimal n) (decimal_digits n small)

pub decimal-no_colon : (n : ℕ) → n < 2 ^ 64 → has_no 58 (decimal n) ≡ true
decimal-no_colon n small = digits-no_colon (decimal n) (decimal_digits n small)

-- names and words have no space and no line feed
pub side-solid : (side : Option Side) → is_solid (side_word side) ≡ true
side-solid side = search rules

pub verdict-solid : (verdict : Verdict) → is_solid (verdict_word verdict) ≡ true
verdict-solid verdict = search rules

pub reason-solid : (reason : Reason) → is_solid (reason_word reason) ≡ true
reason-solid reason = search rules

pub reason-no_colon : (reason : Reason) → has_no 58 (reason_word reason) ≡ true
reason-no_colon reason = search rules

pub stop-solid : (kind : StopKind) → is_solid (stop_word kind) ≡ true
stop-solid kind = search rules

pub name-solid : (rule : Rule) → is_solid (rule_name rule) ≡ true
name-solid rule = search rules

octets-solid : (octets : Option ℕ) → IfSome octets (λ n. n < 2 ^ 64) → is_solid (octets_part octets) ≡ true
octets-solid None fits = refl
octets-solid (Some n) fits = decimal-solid n fits

pub mark-solid : (mark : Mark) → MarkFits mark → is_solid (mark_word mark) ≡ true
mark-solid (named rule) fits = name-solid rule
mark-solid (belongs era) fits = decimal-solid era (omega arith)
mark-solid (began era) fits = decimal-solid era (omega arith)
mark-solid (over ended) fits =
    solid-append (decimal ended.era) (58 ∷ (reason_word ended.reason ++ octets_part ended.octets)) (decimal-solid ended.era (let h = fits.era in omega arith))
    (solid-append (reason_word ended.reason) (octets_part ended.octets) (reason-solid ended.reason) (octets-solid ended.octets fits.octets))

-- The lines of octets.

-- the lines of an octet and what follows: the octet ends a line if it is a line feed, else it
-- begins the first line
abbrev pub after_octet : Bool → ℕ → List ℕ → List (List ℕ)
after_octet feed octet octets = cond feed ((octet ∷ []) ∷ lines octets) (onto_first octet (lines octets))

concat-onto_first : (x : ℕ) (parts : List (List ℕ)) → concat (onto_first x parts) ≡ x ∷ concat parts
concat-onto_first x [] = refl
concat-onto_first x (part ∷ parts) = refl

concat-after_octet : (feed : Bool) (octet : ℕ) (octets : List ℕ) → concat (lines octets) ≡ octets → concat (after_octet feed octet octets) ≡ octet ∷ octets
concat-after_octet true octet octets rest = ap (λ l. octet ∷ l) rest
concat-after_octet false octet octets rest = concat-onto_first octet (lines octets) ∙ ap (λ l. octet ∷ l) rest

-- the concatenation of the lines is the octets
pub concat-lines : (octets : List ℕ) → concat (lines octets) ≡ octets
concat-lines [] = refl
concat-lines (octet ∷ octets) = concat-after_octet (nat_eq octet 10) octet octets (concat-lines octets)

-- octets that end with their only line feed
pub record IsLine (line : List ℕ) : Type 0 where
  pub body : List ℕ
  pub no_feed : has_no 10 body ≡ true
  pub whole : line ≡ body ++ 10 ∷ []

lines_body : (body rest : List ℕ) → has_no 10 body ≡ true → lines ((body ++ 10 ∷ []) ++ rest) ≡ (body ++ 10 ∷ []) ∷ lines rest
lines_body [] rest none = refl
lines_body (x ∷ body) rest none =
    let other : nat_eq x 10 ≡ false = grind (arith, nat_tests) in
    let later : has_no 10 body ≡ true = grind (arith, nat_tests) in
    (λ i. after_octet (other i) x ((body ++ 10 ∷ []) ++ rest)) ∙ ap (onto_first x) (lines_body body rest later)

pub lines-line : (line rest : List ℕ) → IsLine line → lines (line ++ rest) ≡ line ∷ lines rest
lines-line line rest l = ap (λ t. lines (t ++ rest)) l.whole ∙ lines_body l.body rest l.no_feed ∙ ap (λ t. t ∷ lines rest) (sym l.whole)

pub lines-concat : (parts : List (List ℕ)) → AllByRecursion IsLine parts → lines (concat parts) ≡ parts
lines-concat [] each = refl
lines-concat (part ∷ parts) each = lines-line part (concat parts) each.0 ∙ ap (λ l. part ∷ l) (lines-concat parts each.1)

-- the front up to the first line feed is the first line
cut_at : (feed : Bool) (x : ℕ) (xs : List ℕ) (place : ℕ) → onto_first x (lines xs) ≡ (x ∷ take (place + 1) xs) ∷ lines (drop (place + 1) xs)
    → after_octet feed x xs ≡ take (cond (not feed) (1 + place) 0 + 1) (x ∷ xs) ∷ lines (drop (cond (not feed) (1 + place) 0 + 1) (x ∷ xs))
cut_at true x xs place later = refl
cut_at false x xs place later =
    let next : suc (place + 1) ≡ (1 + place) + 1 = omega arith in
    later ∙ ap (λ k. take k (x ∷ xs) ∷ lines (drop k (x ∷ xs))) next

-- the index of the first line feed, or the length
abbrev pub feed_place : List ℕ → ℕ
feed_place octets = position_or_len (λ octet. nat_eq octet 10) octets

lines_cut : (x : ℕ) (xs : List ℕ) → lines (x ∷ xs) ≡ take (feed_place (x ∷ xs) + 1) (x ∷ xs) ∷ lines (drop (feed_place (x ∷ xs) + 1) (x ∷ xs))
lines_cut x [] = cut_at (nat_eq x 10) x [] 0 refl
lines_cut x (y ∷ ys) = cut_at (nat_eq x 10) x (y ∷ ys) (feed_place (y ∷ ys)) (ap (onto_first x) (lines_cut y ys))

pub lines_front : (text front back : List ℕ) → 0 < length text → front ≡ take (min (feed_place text + 1) (length text)) text → back ≡ drop (min (feed_place text + 1) (length text)) text → lines text ≡ front ∷ lines back
lines_front [] front back some f b = absurd (omega arith)
lines_front (x ∷ xs) front back some f b =
    let text = x ∷ xs in
    lines_cut x xs ∙ (λ i. sym (f ∙ take_min (feed_place text + 1) text) i ∷ lines (sym (b ∙ drop_min (feed_place text + 1) text) i))

-- the first line of octets, and the lines after it
pub record HasLine (octets : List ℕ) : Type 0 where
  pub text : List ℕ
  pub others : List (List ℕ)
  pub is : lines octets ≡ text ∷ others

pub has_line : (octets : List ℕ) → 0 < length octets → HasLine octets
has_line [] some = absurd (omega arith)
has_line (x ∷ xs) some = record { text = take (feed_place (x ∷ xs) + 1) (x ∷ xs); others = lines (drop (feed_place (x ∷ xs) + 1) (x ∷ xs)); is = lines_cut x xs }
