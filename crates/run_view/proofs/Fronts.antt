-- The lines of a report: they are short, the first of octets that begin with one is that line, what
-- is next, and what they are not.
use Rattle.std.proofs.Common.{◌≡◌, ℕ, zero, suc, ◌+◌, ◌<◌, ◌≤◌, ◌^◌, ◌*◌, nat_eq, cond, Bool, true, false, get_or, inl, inr, List, [], ◌∷◌, ◌++◌, length, Option, Some, None, IfSome, codes, decimal, refl, sym, ap, ◌∙◌, arith, rules, length-append, ◌≢◌, subst, if◌then◌else◌}
use Rattle.std.specs.List.{AllByRecursion, flat_map}
use Rattle.std.proofs.lemmas.Bool.Decides.{nat_tests}
use Rattle.std.proofs.lemmas.Fmt.{length-decimal-le}
use Rattle.rule_book.specs.Entries.{PlainEntry}
use Rattle.rule_book.specs.ReportReading.{EndedFits, EntryFits, IsEntryOf}
use Rattle.rule_book.specs.Rules.{rule_name}
use Rattle.rule_book.specs.Text.{ended_part, entry_text, era_part, last_text, octets_part, part, reason_word, rule_parts, side_word, verdict_word}
use Rattle.rule_book.specs.declared.entry.Ended.{Ended}
use Rattle.rule_book.specs.declared.entry.Reason.{Reason}
use Rattle.rule_book.specs.declared.entry.Verdict.{Verdict}
use Rattle.rule_book.specs.declared.last.Last.TheVariants.{End}
use Rattle.rule_book.specs.declared.rule.Rule.{Rule}
use Rattle.wire_base.specs.declared.address.Side.{Side}
use Rattle.rule_book.proofs.Lines.{has_no, IsLine}
use Rattle.rule_book.proofs.Entries.{last-line, entry_text-joined, joined-no_feed, words-solid, words_of}
use Rattle.rule_book.proofs.Reports.{first-line}
use Rattle.rule_book.specs.working.LineWords.{joined}
use Rattle.run_view.specs.declared.form.Form.{Form}
use Rattle.run_view.specs.declared.form.Form.TheVariants.{Version1, Version2, Both}
use Rattle.run_view.specs.Forms.{heading, own_frames}
use Rattle.run_view.specs.Items.{text_by, Item, end_text, owed_of}
use Rattle.run_view.specs.working.FrontLine.{front_line}
use Rattle.std.specs.Io.KnownBytes.{Consumes}
use Rattle.run_view.specs.declared.turn.Turn.{Turn}
use Rattle.rule_book.specs.declared.last.Last.TheVariants as lasts
use Rattle.rule_book.proofs.Unique.{entry_no_last, entry_one}
use Rattle.run_view.specs.declared.viewer.Viewer.{Viewer}
use Rattle.run_view.specs.working.SourceContents.{ToldNext}
use Rattle.run_view.specs.working.LinePositions.{turn_at, waits}
use Rattle.run_view.specs.working.ViewerProgress.{MayTake, turn_in}
use Rattle.run_view.specs.working.LineContents.{IsLast, part_by}

rule_short : (rule : Rule) → length (rule_name rule) ≤ 9
rule_short rule = search (rules, arith)

side_short : (side : Option Side) → length (side_word side) ≤ 3
side_short side = search (rules, arith)

verdict_short : (verdict : Verdict) → length (verdict_word verdict) ≤ 4
verdict_short verdict = search (rules, arith)

reason_short : (reason : Reason) → length (reason_word reason) ≤ 8
reason_short reason = search (rules, arith)

rules_short : (own : List Rule) → length (rule_parts own) ≤ 10 * length own
rules_short [] = omega arith
rules_short (rule ∷ own) = omega (arith, length-append (part (rule_name rule)) (rule_parts own), rule_short rule, rules_short own)

era_short : (mark : ℕ) (era : Option ℕ) → IfSome era (λ n. n < 2 ^ 32) → length (era_part mark era) ≤ 12
era_short mark None fits = omega arith
era_short mark (Some era) fits = omega (arith, length-decimal-le 10 era (omega arith) (omega (arith, fits)) (omega (arith, fits)))

octets_short : (octets : Option ℕ) → IfSome octets (λ n. n < 2 ^ 64) → length (octets_part octets) ≤ 21
octets_short None fits = omega arith
octets_short (Some octets) fits = omega (arith, length-decimal-le 20 octets (omega arith) (omega (arith, fits)) fits)

ended_short : (ended : Ended) → EndedFits ended → length (ended_part ended) ≤ 42
ended_short ended fits =
    omega (
      arith,
      length-append (decimal ended.era) (58 ∷ (reason_word ended.reason ++ octets_part ended.octets)),
      length-append (reason_word ended.reason) (octets_part ended.octets),
      length-decimal-le 10 ended.era (omega arith) (omega (arith, fits.era)) (omega (arith, fits.era)),
      reason_short ended.reason,
      octets_short ended.octets fits.octets,
    )

all_ended_short : (ended : List Ended) → AllByRecursion EndedFits ended → length (flat_map ended_part ended) ≤ 42 * length ended
all_ended_short [] fit = omega arith
all_ended_short (e ∷ ended) fit =
    omega (arith, length-append (ended_part e) (flat_map ended_part ended), ended_short e fit.0, all_ended_short ended fit.1)

-- the sum of the lengths of the parts of a line
eight : (a b c d e f g h t : List ℕ)
    → length ((((((((a ++ b) ++ c) ++ d) ++ e) ++ f) ++ g) ++ h) ++ t) ≡ length a + length b + length c + length d + length e + length f + length g + length h + length t
eight a b c d e f g h t = simp length-append refl

pub entry_short : (entry : PlainEntry) → EntryFits entry → length (entry_text entry) ≤ 376
entry_short entry fits =
    omega (
      arith,
      eight (decimal entry.number) (part (side_word entry.side)) (part (verdict_word entry.verdict)) (part (decimal entry.packets))
          (rule_parts entry.rules) (era_part 64 entry.era) (era_part 43 entry.begun) (flat_map ended_part entry.ended) (10 ∷ []),
      length-decimal-le 10 entry.number (omega arith) (omega (arith, fits.number)) (omega (arith, fits.number)),
      side_short entry.side,
      verdict_short entry.verdict,
      length-decimal-le 3 entry.packets (omega arith) (omega (arith, fits.packets)) (omega (arith, fits.packets)),
      rules_short entry.rules,
      era_short 64 entry.era fits.era,
      era_short 43 entry.begun fits.begun,
      all_ended_short entry.ended fits.eras,
      fits.rules,
      fits.ended,
    )

pub end_short : (records frames : ℕ) → records < 2 ^ 32 → frames < 2 ^ 64 → length (last_text (End records frames)) ≤ 376
end_short records frames few few_frames =
    omega (
      arith,
      length-append (codes "end" ++ part (decimal records)) (part (decimal frames)),
      length-append (codes "end") (part (decimal records)),
      length-append ((codes "end" ++ part (decimal records)) ++ part (decimal frames)) (10 ∷ []),
      length-decimal-le 10 records (omega arith) (omega (arith, few)) (omega (arith, few)),
      length-decimal-le 20 frames (omega arith) (omega (arith, few_frames)) few_frames,
    )

front_body : (room : ℕ) (body rest : List ℕ) → has_no 10 body ≡ true → length body < room
    → front_line room ((body ++ 10 ∷ []) ++ rest) ≡ body ++ 10 ∷ []
front_body zero body rest none within = absurd (omega arith)
front_body (suc room) [] rest none within = refl
front_body (suc room) (x ∷ body) rest none within =
    let other : nat_eq x 10 ≡ false = grind (arith, nat_tests) in
    let later : has_no 10 body ≡ true = grind (arith, nat_tests) in
    ap (λ b. cond b (x ∷ []) (x ∷ front_line room ((body ++ 10 ∷ []) ++ rest))) other
    ∙ ap (λ l. x ∷ l) (front_body room body rest later (omega arith))

-- octets that begin with a line have it in front
pub front_is : (line rest : List ℕ) → IsLine line → length line ≤ 399 → front_line 400 (line ++ rest) ≡ line
front_is line rest l short =
    let fewer : length l.body < 400 = omega (arith, short, ap length l.whole, length-append l.body (10 ∷ [])) in
    ap (λ t. front_line 400 (t ++ rest)) l.whole ∙ front_body 400 l.body rest l.no_feed fewer ∙ sym l.whole

pub entry_is_line : (entry : PlainEntry) → EntryFits entry → IsLine (entry_text entry)
entry_is_line entry fits =
    record { body = joined (words_of entry); no_feed = joined-no_feed (words_of entry) (words-solid entry fits); whole = entry_text-joined entry }

-- a line with one octet more in front, which is no line feed
behind_slash : (line : List ℕ) → IsLine line → IsLine (47 ∷ line)
behind_slash line l = record { body = 47 ∷ l.body; no_feed = l.no_feed; whole = ap (λ t. 47 ∷ t) l.whole }

pub line_front : (second : Bool) (octets rest : List ℕ) (entry : PlainEntry) → EntryFits entry → octets ≡ text_by second entry ++ rest
    → front_line 400 octets ≡ text_by second entry
line_front false octets rest entry fits is =
    ap (front_line 400) is ∙ front_is (entry_text entry) rest (entry_is_line entry fits) (let short = entry_short entry fits in omega (arith, short))
line_front true octets rest entry fits is =
    ap (front_line 400) is
    ∙ front_is (47 ∷ entry_text entry) rest (behind_slash (entry_text entry) (entry_is_line entry fits))
    (let short = entry_short entry fits in omega (arith, short))

pub end_front : (octets rest : List ℕ) (records frames : ℕ) → records < 2 ^ 32 → frames < 2 ^ 64 → octets ≡ last_text (End records frames) ++ rest
    → front_line 400 octets ≡ last_text (End records frames)
end_front octets rest records frames few few_frames is =
    ap (front_line 400) is
    ∙ front_is (last_text (End records frames)) rest (last-line (End records frames) (few, few_frames))
    (let short = end_short records frames few few_frames in omega (arith, short))

heading_is_line : (form : Form) → IsLine (heading form)
heading_is_line Version1 = first-line 1 (inl refl)
heading_is_line Version2 = first-line 2 (inr refl)
heading_is_line Both = record { body = codes "norm 2 both"; no_feed = refl; whole = refl }

heading_short : (form : Form) → length (heading form) ≤ 399
heading_short Version1 = omega arith
heading_short Version2 = omega arith
heading_short Both = omega arith

pub heading_front : (octets rest : List ℕ) (form : Form) → octets ≡ heading form ++ rest → front_line 400 octets ≡ heading form
heading_front octets rest form is = ap (front_line 400) is ∙ front_is (heading form) rest (heading_is_line form) (heading_short form)

-- first lines are lengths apart, or differ in the octet after `norm `
pub heading_one : (one other : Form) → heading one ≡ heading other → one ≡ other
heading_one Version1 Version1 same = refl
heading_one Version1 Version2 same = absurd (omega (arith, ap (λ (l : List ℕ). get_or l 5 0) same))
heading_one Version1 Both same = absurd (omega (arith, ap length same))
heading_one Version2 Version1 same = absurd (omega (arith, ap (λ (l : List ℕ). get_or l 5 0) same))
heading_one Version2 Version2 same = refl
heading_one Version2 Both same = absurd (omega (arith, ap length same))
heading_one Both Version1 same = absurd (omega (arith, ap length same))
heading_one Both Version2 same = absurd (omega (arith, ap length same))
heading_one Both Both same = refl

-- What the report has next: no line, the line of an entry, or the last line.

-- the octets begin neither with the line of an entry of this version that is possible there nor,
-- where no line of the second engine is missing, with the last line
pub record IsNoNext (version : ℕ) (turn : Turn) (octets : List ℕ) : Type 0 where
  pub entry : (entry : PlainEntry) → IsEntryOf version entry → entry.number ≡ turn.done + 1 → (rest : List ℕ)
      → octets ≢ text_by turn.second entry ++ rest
  pub last : turn.second ≡ false → (rest : List ℕ) → octets ≢ last_text (End turn.done turn.frames) ++ rest

-- how many frames of the output the line of an entry counts
abbrev pub frames_by : (second : Bool) → (form : Form) → PlainEntry → ℕ
frames_by false form entry = own_frames form entry.packets
frames_by true form entry = entry.packets

-- the last line of a run of these items, none of which is missing, was taken of the report
pub record TookLast (items : List Item) (left behind : Option (List ℕ)) : Type 0 where
  pub none_owed : owed_of items ≡ 0
  pub taken : Consumes left behind (end_text items)

-- What the lines of a report are not.

-- few lines of the engine whose turn it is precede the next
few_done : (owed firsts seconds frames : ℕ) → firsts < 2 ^ 32 → seconds < 2 ^ 32 → (turn_at owed firsts seconds frames).done < 2 ^ 32
few_done owed firsts seconds frames few few_seconds = by (waits owed) where
  by : (b : Bool) → (if b then seconds else firsts) < 2 ^ 32
  by true = few_seconds
  by false = few

pub few_turn : (viewer : Viewer) (turn : Turn) → turn ≡ turn_in viewer → MayTake viewer → turn.done < 2 ^ 32
few_turn viewer turn is may =
    let T : Turn → Type 0 = λ t. t.done < 2 ^ 32 in subst T (sym is) (few_done viewer.owed viewer.files.count viewer.second_count viewer.files.frames.count may.few may.few_seconds)

-- the text is that of a line of this engine, of an entry of this version
pub record IsEntryLine (version : ℕ) (second : Bool) (text : List ℕ) (entry : PlainEntry) : Type 0 where
  pub is : text ≡ text_by second entry
  pub fits : IsEntryOf version entry

-- no entry has an empty line
no_empty : (entry : PlainEntry) → EntryFits entry → [] ≡ entry_text entry → ⊥
no_empty entry fits is =
    let long = ap length is ∙ ap length (entry_is_line entry fits).whole ∙ length-append (entry_is_line entry fits).body (10 ∷ []) in omega (arith, long)

-- the line of an entry, by what it has for the entry
line_told : (version : ℕ) (second : Bool) (text : List ℕ) (entry : PlainEntry) → IsEntryOf version entry → part_by second text ≡ entry_text entry
    → IsEntryLine version second text entry
line_told version false text entry fits is = record { is = is; fits = fits }
line_told version true [] entry fits is = absurd (no_empty entry fits.fits is)
line_told version true (octet ∷ rest) entry fits is = by (nat_eq octet 47) refl is where
  by : (b : Bool) → nat_eq octet 47 ≡ b → (if b then rest else []) ≡ entry_text entry → IsEntryLine version true (octet ∷ rest) entry
  by true same is = let mark : octet ≡ 47 = grind (arith, nat_tests) in record { is = (λ i. mark i ∷ is i); fits = fits }
  by false same is = absurd (no_empty entry fits.fits is)

pub part_told : (version : ℕ) (second : Bool) (text part : List ℕ) (entry : PlainEntry) → part ≡ part_by second text
    → IsEntryOf version entry × (part ≡ entry_text entry) → IsEntryLine version second text entry
part_told version second text part entry same told = line_told version second text entry told.0 (sym same ∙ told.1)

-- the text is neither that of the next entry nor that of the last line
pub record IsNone (version : ℕ) (turn : Turn) (text : List ℕ) : Type 0 where
  pub entry : (entry : PlainEntry) → IsEntryOf version entry → entry.number ≡ turn.done + 1 → text ≢ text_by turn.second entry
  pub last : turn.second ≡ false → text ≢ last_text (lasts.End turn.done turn.frames)

-- octets whose front line is not possible there begin with no such line
no_next_in : (version : ℕ) (turn : Turn) (text octets : List ℕ) → turn.done < 2 ^ 32 → turn.frames < 2 ^ 64 → text ≡ front_line 400 octets
    → IsNone version turn text → IsNoNext version turn octets
no_next_in version turn text octets few few_frames is none =
    record {
      entry = λ entry fits number rest begins. none.entry entry fits number (is ∙ line_front turn.second octets rest entry fits.fits begins);
      last = λ first rest begins. none.last first (is ∙ end_front octets rest turn.done turn.frames few few_frames begins);
    }

no_next_behind : (version : ℕ) (turn : Turn) (text : List ℕ) (left : Option (List ℕ)) → turn.done < 2 ^ 32 → turn.frames < 2 ^ 64
    → IfSome left (λ octets. text ≡ front_line 400 octets) → IsNone version turn text → IfSome left (IsNoNext version turn)
no_next_behind version turn text None few few_frames is none = tt
no_next_behind version turn text (Some octets) few few_frames is none = no_next_in version turn text octets few few_frames is none

-- the next entry is known
told_next : (version : ℕ) (turn : Turn) (text : List ℕ) (left next : Option (List ℕ)) (entry : PlainEntry) → Consumes left next text
    → IsEntryLine version turn.second text entry → entry.number ≡ turn.done + 1 → ToldNext version turn left next entry
told_next version turn text left next entry took line number =
    record { taken = subst (Consumes left next) line.is took; fits = line.fits; number = number }

-- the same by other names of the version, of the turn and of the line
pub told_so : (version other : ℕ) (turn there : Turn) (text line : List ℕ) (left next : Option (List ℕ)) (entry : PlainEntry) → version ≡ other
    → turn ≡ there → text ≡ line
    → Consumes left next line → IsEntryLine version turn.second text entry → entry.number ≡ turn.done + 1 → ToldNext other there left next entry
told_so version other turn there text line left next entry version_is turn_is text_is took is number =
    let V : ℕ → Type 0 = λ v. ToldNext v there left next entry in
    let T : Turn → Type 0 = λ t. ToldNext version t left next entry in
    subst V version_is (subst T turn_is (told_next version turn text left next entry (subst (Consumes left next) (sym text_is) took) is number))

-- so is what is amiss
pub amiss_so : (version other : ℕ) (turn there : Turn) (text line : List ℕ) (left : Option (List ℕ)) → version ≡ other → turn ≡ there → text ≡ line
    → turn.done < 2 ^ 32 → turn.frames < 2 ^ 64
    → IfSome left (λ octets. line ≡ front_line 400 octets) → IsNone version turn text → IfSome left (IsNoNext other there)
amiss_so version other turn there text line left version_is turn_is text_is few few_frames is none =
    let V : ℕ → Type 0 = λ v. IfSome left (IsNoNext v there) in
    let T : Turn → Type 0 = λ t. IfSome left (IsNoNext version t) in
    let L : List ℕ → Type 0 = λ l. IfSome left (λ octets. l ≡ front_line 400 octets) in
    subst V version_is (subst T turn_is (no_next_behind version turn text left few few_frames (subst L (sym text_is) is) none))

-- the line of an entry by an engine determines the entry
same_entry : (second : Bool) (text : List ℕ) (own other : PlainEntry) → text ≡ text_by second own → text ≡ text_by second other
    → entry_text own ≡ entry_text other
same_entry false text own other is same = sym is ∙ same
same_entry true text own other is same = let both : 47 ∷ entry_text own ≡ 47 ∷ entry_text other = sym is ∙ same in cc

-- the line of an entry of another number
pub other_number : (version : ℕ) (turn : Turn) (text : List ℕ) (own : PlainEntry) → turn.done < 2 ^ 32 → turn.frames < 2 ^ 64
    → IsEntryLine version turn.second text own → (own.number ≡ turn.done + 1 → ⊥) → IsNone version turn text
other_number version turn text own few few_frames line other =
    record {
      entry =
          λ e fits number same.
          other (ap (λ (x : PlainEntry). x.number) (entry_one own e line.fits.fits fits.fits (same_entry turn.second text own e line.is same)) ∙ number);
      last =
          λ first same. entry_no_last own (lasts.End turn.done turn.frames) line.fits.fits (few, few_frames)
          (sym (line.is ∙ ap (λ b. text_by b own) first) ∙ same);
    }

-- a line of no entry, and not the last one
pub none_told : (version : ℕ) (turn : Turn) (text part : List ℕ) → part ≡ part_by turn.second text
    → ((entry : PlainEntry) → IsEntryOf version entry → part ≢ entry_text entry) → (IsLast turn text → ⊥) → IsNone version turn text
none_told version turn text part is_part none no_last =
    record { entry = λ entry fits number same. none entry fits (is_part ∙ ap (part_by turn.second) same ∙ part_is turn.second entry); last = λ first same. no_last (record { first = first; is = same }) } where
      part_is : (second : Bool) (entry : PlainEntry) → part_by second (text_by second entry) ≡ entry_text entry
      part_is false entry = refl
      part_is true entry = refl
