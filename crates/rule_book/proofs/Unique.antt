-- A name is that of one rule, and a text that of at most one entry and one last line.
use Rattle.std.proofs.Common.{◌≡◌, ◌≢◌, ℕ, Bool, true, false, cond, List, [], ◌∷◌, Option, Some, refl, rules, ◌^◌, ◌<◌, nat_eq, nat_lt, length, get_or, drop, map, codes, None, IfSome, decimal, sym, ap, ◌∙◌, arith, length-append}
use Rattle.std.proofs.lemmas.Slice.Eq.{bytes_eq-Decides}
use Rattle.std.specs.List.{find, AllByRecursion, after_first, before_first, flat_map}
use Rattle.std.specs.Str.{bytes_eq, all_ascii_digits}
use Rattle.std.proofs.lemmas.Bool.{false≢true, false_from_ne_true}
use Rattle.std.proofs.lemmas.Fmt.{decimal_injective, decimal_nonempty}
use Rattle.wire_base.specs.declared.address.Side.{Side}
use Rattle.rule_book.specs.Rules.{FoundByName, all_rules, rule_name, rule_named}
use Rattle.rule_book.specs.declared.rule.Rule.{Rule}
use Rattle.rule_book.specs.Entries.{PlainEntry}
use Rattle.rule_book.specs.ReportReading.{EndedFits, EntryFits, LastFits}
use Rattle.rule_book.specs.Text.{ended_word, entry_text, last_text, part, reason_word, side_word, stop_word, verdict_word}
use Rattle.rule_book.specs.working.LineWords.{HasLastWords, HasWords, Mark, MarkFits, bare, joined, mark_word, octets_word, with_marks}
use Rattle.rule_book.specs.working.LineWords.Mark.{named, belongs, began, over}
use Rattle.rule_book.specs.declared.entry.Ended.{Ended}
use Rattle.rule_book.specs.declared.entry.Reason.{Reason}
use Rattle.rule_book.specs.declared.entry.Verdict.{Verdict}
use Rattle.rule_book.specs.declared.last.Last.{Last}
use Rattle.rule_book.specs.declared.last.Last.TheVariants.{End, Stop}
use Rattle.rule_book.specs.declared.last.StopKind.{StopKind}
use Rattle.rule_book.proofs.Entries.{parts_at, last_words_at, joined_after, joined_before, mark_some, words_at}
use Rattle.rule_book.proofs.Lines.{same_some, decimal_digits, mark-solid}

-- A rule is found by its name.

-- what is found passes the test
first_passes : {X : Type 0} (test : X → Bool) (y x : X) (b : Bool) (later : Option X) → test y ≡ b → (later ≡ Some x → test x ≡ true) → cond b (Some y) later ≡ Some x → test x ≡ true
first_passes test y x true later is goes_on found = cc
first_passes test y x false later is goes_on found = goes_on found

find_passes : {X : Type 0} (test : X → Bool) (xs : List X) (x : X) → find test xs ≡ Some x → test x ≡ true
find_passes test [] x found = cc
find_passes test (y ∷ ys) x found = first_passes test y x (test y) (find test ys) refl (find_passes test ys x) found

pub found_by_name : FoundByName
found_by_name rule = search rules

pub named_is : (text : List ℕ) (rule : Rule) → rule_named text ≡ Some rule → rule_name rule ≡ text
named_is text rule found = (bytes_eq-Decides (rule_name rule) text).0 (find_passes (λ r. bytes_eq (rule_name r) text) all_rules rule found)

pub unequal : (xs ys : List ℕ) → xs ≢ ys → false ≡ bytes_eq xs ys
unequal xs ys apart = sym (false_from_ne_true (bytes_eq xs ys) (λ equal. apart ((bytes_eq-Decides xs ys).0 equal)))

-- A text is that of at most one entry, one last line and one report.

-- different values have different words
side_one : (a b : Option Side) → side_word a ≡ side_word b → a ≡ b
side_one a b same = search rules

verdict_one : (a b : Verdict) → verdict_word a ≡ verdict_word b → a ≡ b
verdict_one a b same = search rules

reason_one : (a b : Reason) → reason_word a ≡ reason_word b → a ≡ b
reason_one a b same = search rules

stop_one : (a b : StopKind) → stop_word a ≡ stop_word b → a ≡ b
stop_one a b same = search rules

name_one : (a b : Rule) → rule_name a ≡ rule_name b → a ≡ b
name_one a b same = same_some (sym (ap rule_named same) ∙ found_by_name a) (found_by_name b)

-- a name begins with a letter
name_first : (rule : Rule) → nat_lt 64 (get_or (rule_name rule) 0 0) ≡ true
name_first rule = search rules

name_apart : (rule : Rule) (octet : ℕ) (octets : List ℕ) → nat_lt 64 octet ≡ false → rule_name rule ≡ octet ∷ octets → ⊥
name_apart rule octet octets low is = false≢true (sym low ∙ ap (λ (l : List ℕ). nat_lt 64 (get_or l 0 0)) (sym is) ∙ name_first rule)

decimal_one : (m n : ℕ) → m < 2 ^ 32 → n < 2 ^ 32 → decimal m ≡ decimal n → m ≡ n
decimal_one m n m_fits n_fits same = decimal_injective m n (omega arith) (omega arith) same

octets_one : (a b : Option ℕ) → IfSome a (λ n. n < 2 ^ 64) → IfSome b (λ n. n < 2 ^ 64) → octets_word a ≡ octets_word b → a ≡ b
octets_one None None a_fits b_fits same = refl
octets_one None (Some n) a_fits b_fits same = absurd (omega (arith, decimal_nonempty n b_fits, ap length same))
octets_one (Some m) None a_fits b_fits same = absurd (omega (arith, decimal_nonempty m a_fits, ap length same))
octets_one (Some m) (Some n) a_fits b_fits same = ap Some (decimal_injective m n a_fits b_fits same)

over_one : (a b : Ended) → EndedFits a → EndedFits b → ended_word a ≡ ended_word b → a ≡ b
over_one a b a_fits b_fits same =
    let word = ended_word a in
    let behind = after_first (λ x. nat_eq x 58) word in
    let reason = before_first (λ x. nat_eq x 58) behind in
    let octets = after_first (λ x. nat_eq x 58) behind in
    let one = parts_at a a_fits word (before_first (λ x. nat_eq x 58) word) behind reason octets refl refl refl refl refl in
    let other = parts_at b b_fits word (before_first (λ x. nat_eq x 58) word) behind reason octets same refl refl refl refl in
    λ i. record {
      era = decimal_one a.era b.era a_fits.era b_fits.era (sym one.era_is ∙ other.era_is) i;
      reason = reason_one a.reason b.reason (sym one.reason_is ∙ other.reason_is) i;
      octets = octets_one a.octets b.octets a_fits.octets b_fits.octets (sym one.octets_is ∙ other.octets_is) i;
    }

mark_one : (a b : Mark) → MarkFits a → MarkFits b → mark_word a ≡ mark_word b → a ≡ b
mark_one (named r) (named s) af bf same = ap named (name_one r s same)
mark_one (named r) (belongs m) af bf same = absurd (name_apart r 64 (decimal m) refl same)
mark_one (named r) (began m) af bf same = absurd (name_apart r 43 (decimal m) refl same)
mark_one (named r) (over e) af bf same = absurd (name_apart r 45 (ended_word e) refl same)
mark_one (belongs m) (named r) af bf same = absurd (name_apart r 64 (decimal m) refl (sym same))
mark_one (began m) (named r) af bf same = absurd (name_apart r 43 (decimal m) refl (sym same))
mark_one (over e) (named r) af bf same = absurd (name_apart r 45 (ended_word e) refl (sym same))
mark_one (belongs m) (belongs n) af bf same = ap belongs (decimal_one m n af bf (ap (drop 1) same))
mark_one (began m) (began n) af bf same = ap began (decimal_one m n af bf (ap (drop 1) same))
mark_one (over e) (over f) af bf same = ap over (over_one e f af bf (ap (drop 1) same))
mark_one (belongs m) (began n) af bf same = absurd (omega (arith, ap (λ (l : List ℕ). get_or l 0 0) same))
mark_one (belongs m) (over n) af bf same = absurd (omega (arith, ap (λ (l : List ℕ). get_or l 0 0) same))
mark_one (began m) (belongs n) af bf same = absurd (omega (arith, ap (λ (l : List ℕ). get_or l 0 0) same))
mark_one (began m) (over n) af bf same = absurd (omega (arith, ap (λ (l : List ℕ). get_or l 0 0) same))
mark_one (over m) (belongs n) af bf same = absurd (omega (arith, ap (λ (l : List ℕ). get_or l 0 0) same))
mark_one (over m) (began n) af bf same = absurd (omega (arith, ap (λ (l : List ℕ). get_or l 0 0) same))

joined_some : (mark : Mark) (words : List (List ℕ)) → 0 < length (joined (mark_word mark ∷ words))
joined_some mark words = omega (arith, mark_some mark, length-append (mark_word mark) (flat_map part words))

marks_one : (ms ns : List Mark) → AllByRecursion MarkFits ms → AllByRecursion MarkFits ns → joined (map mark_word ms) ≡ joined (map mark_word ns) → ms ≡ ns
marks_one [] [] mf nf same = refl
marks_one [] (n ∷ ns) mf nf same = absurd (omega (arith, joined_some n (map mark_word ns), ap length same))
marks_one (m ∷ ms) [] mf nf same = absurd (omega (arith, joined_some m (map mark_word ms), ap length same))
marks_one (m ∷ ms) (n ∷ ns) mf nf same =
    let text = joined (map mark_word (m ∷ ms)) in
    let word : mark_word m ≡ mark_word n = sym (joined_before text (mark_word m) (map mark_word ms) (mark-solid m mf.0) refl) ∙ joined_before text (mark_word n) (map mark_word ns) (mark-solid n nf.0) same in
    let words : joined (map mark_word ms) ≡ joined (map mark_word ns) = sym (joined_after text (mark_word m) (map mark_word ms) (mark-solid m mf.0) refl) ∙ joined_after text (mark_word n) (map mark_word ns) (mark-solid n nf.0) same in
    λ i. mark_one m n mf.0 nf.0 word i ∷ marks_one ms ns mf.1 nf.1 words i

-- the first word of a line
abbrev first_word : List ℕ → List ℕ
first_word text = before_first (λ x. nat_eq x 32) text

abbrev behind_word : List ℕ → List ℕ
behind_word text = after_first (λ x. nat_eq x 32) text

abbrev body_of : List ℕ → List ℕ
body_of line = before_first (λ x. nat_eq x 10) line

-- cut at its spaces, the body of the line gives the words of the entry
abbrev LineHas : PlainEntry → List ℕ → Type 0
LineHas entry body = HasWords entry (first_word body) (first_word (behind_word body)) (first_word (behind_word (behind_word body))) (first_word (behind_word (behind_word (behind_word body)))) (behind_word (behind_word (behind_word (behind_word body))))

line_has : (entry : PlainEntry) → EntryFits entry → (line : List ℕ) → line ≡ entry_text entry → LineHas entry (body_of line)
line_has entry fits line is =
    let body = body_of line in
    let b1 = behind_word body in
    let b2 = behind_word b1 in
    let b3 = behind_word b2 in
    words_at entry fits line body (first_word body) b1 (first_word b1) b2 (first_word b2) b3 (first_word b3) (behind_word b3) is refl refl refl refl refl refl refl refl refl

same_entry : (e f : PlainEntry) → EntryFits e → EntryFits f → (number side verdict packets marks : List ℕ) → HasWords e number side verdict packets marks → HasWords f number side verdict packets marks → e ≡ f
same_entry e f ef ff number side verdict packets marks eh fh =
    let n : e.number ≡ f.number = decimal_one e.number f.number ef.number ff.number (sym eh.number_is ∙ fh.number_is) in
    let s : e.side ≡ f.side = side_one e.side f.side (sym eh.side_is ∙ fh.side_is) in
    let v : e.verdict ≡ f.verdict = verdict_one e.verdict f.verdict (sym eh.verdict_is ∙ fh.verdict_is) in
    let p : e.packets ≡ f.packets = decimal_one e.packets f.packets (let h = ef.packets in omega arith) (let h = ff.packets in omega arith) (sym eh.packets_is ∙ fh.packets_is) in
    let start : bare e ≡ bare f = λ i. record { number = n i; side = s i; verdict = v i; packets = p i; rules = []; era = None; begun = None; ended = [] } in
    let m : eh.awaits.marks ≡ fh.awaits.marks = marks_one eh.awaits.marks fh.awaits.marks eh.awaits.fit fh.awaits.fit (sym eh.awaits.text ∙ fh.awaits.text) in
    sym eh.awaits.gives ∙ (λ i. with_marks (start i) (m i)) ∙ fh.awaits.gives

pub entry_one : (e f : PlainEntry) → EntryFits e → EntryFits f → entry_text e ≡ entry_text f → e ≡ f
entry_one e f ef ff same =
    let body = body_of (entry_text e) in
    let b1 = behind_word body in
    let b2 = behind_word b1 in
    let b3 = behind_word b2 in
    same_entry e f ef ff (first_word body) (first_word b1) (first_word b2) (first_word b3) (behind_word b3) (line_has e ef (entry_text e) refl) (line_has f ff (entry_text e) same)

-- cut at its spaces, a last line gives its three words
last_has : (last : Last) → LastFits last → (line : List ℕ) → line ≡ last_text last → HasLastWords last (first_word (body_of line)) (first_word (behind_word (body_of line))) (behind_word (behind_word (body_of line)))
last_has last fits line is =
    let body = body_of line in
    last_words_at last fits line body (first_word body) (behind_word body) (first_word (behind_word body)) (behind_word (behind_word body)) is refl refl refl refl refl

end_no_stop : codes "end" ≡ codes "stop" → ⊥
end_no_stop same = omega (arith, ap length same)

same_last : (a b : Last) → LastFits a → LastFits b → (word first second : List ℕ) → HasLastWords a word first second → HasLastWords b word first second → a ≡ b
same_last (End r p) (End q o) af bf word first second ah bh =
    λ i. End (decimal_one r q af.0 bf.0 (sym ah.1 ∙ bh.1) i) (decimal_injective p o af.1 bf.1 (sym ah.2 ∙ bh.2) i)
same_last (End r p) (Stop k o) af bf word first second ah bh = absurd (end_no_stop (sym ah.0 ∙ bh.0))
same_last (Stop k o) (End r p) af bf word first second ah bh = absurd (end_no_stop (sym bh.0 ∙ ah.0))
same_last (Stop k o) (Stop l p) af bf word first second ah bh =
    λ i. Stop (stop_one k l (sym ah.1 ∙ bh.1) i) (decimal_injective o p af bf (sym ah.2 ∙ bh.2) i)

pub last_one : (a b : Last) → LastFits a → LastFits b → last_text a ≡ last_text b → a ≡ b
last_one a b af bf same =
    let body = body_of (last_text a) in
    same_last a b af bf (first_word body) (first_word (behind_word body)) (behind_word (behind_word body)) (last_has a af (last_text a) refl) (last_has b bf (last_text a) same)

-- a word with an octet other than a digit is not a number
number_no_word : (n : ℕ) (word : List ℕ) → n < 2 ^ 32 → all_ascii_digits word ≡ false → decimal n ≡ word → ⊥
number_no_word n word fits letters same = false≢true (sym letters ∙ ap all_ascii_digits (sym same) ∙ decimal_digits n (omega arith))

number_no_last : (n : ℕ) (last : Last) → n < 2 ^ 32 → (word first second : List ℕ) → word ≡ decimal n → HasLastWords last word first second → ⊥
number_no_last n (End r p) fits word first second is has = number_no_word n (codes "end") fits refl (sym is ∙ has.0)
number_no_last n (Stop k o) fits word first second is has = number_no_word n (codes "stop") fits refl (sym is ∙ has.0)

pub entry_no_last : (e : PlainEntry) (last : Last) → EntryFits e → LastFits last → entry_text e ≡ last_text last → ⊥
entry_no_last e last ef lf same =
    let body = body_of (entry_text e) in
    let eh = line_has e ef (entry_text e) refl in
    number_no_last e.number last ef.number (first_word body) (first_word (behind_word body)) (behind_word (behind_word body)) eh.number_is (last_has last lf (entry_text e) same)
