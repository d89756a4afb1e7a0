-- At most one answer applies to words, a capture and a report; octets are the text of one report,
-- or have one first fault.
use Rattle.std.proofs.Common.{◌≡◌, ◌⊎◌, ℕ, ◌+◌, List, [], ◌∷◌, ◌++◌, length, map, Err, refl, sym, ap, ◌∙◌, subst, arith, inl, inr, ⊎_elim, Option, Some, None, IfSome, IsSome}
use Rattle.rule_book.specs.Entries.{PlainEntry}
use Rattle.rule_book.specs.ReportReading.{IsVersion, PlainReport, HasFault, IsReport, lines, text_of}
use Rattle.rule_book.specs.Text.{entry_text, first_line, last_text}
use Rattle.rule_book.specs.declared.fault.LineFault.{LineFault}
use Rattle.rule_book.specs.declared.fault.LineFault.TheVariants.{First, Shape, Number, NoMemory}
use Rattle.rule_book.specs.declared.last.Last.{Last}
use Rattle.rule_book.specs.declared.last.Last.TheVariants.{End, Stop}
use Rattle.rule_book.proofs.Reports.{Gives, gives_fault, gives_one, gives_report, text_one, lines-text}
use Rattle.edge_io.specs.FaultCounts.{Rose}
use Rattle.pcap_file.specs.Flaws as found
use Rattle.run_audit.specs.ReportFindings.{IsEnd, IsStop, IsFinished, IsUnfinished, IsTooLong, HasFaultAt, TellsStop, line_of_fault}
use Rattle.run_audit.specs.declared.answer.Answer.{Answer}
use Rattle.run_audit.specs.declared.answer.Answer.TheVariants as answers
use Rattle.run_audit.specs.declared.answer.Flaw.{Flaw}
use Rattle.run_audit.specs.declared.answer.Flaw.TheVariants as flaws
use Rattle.run_audit.specs.Answers.{flaw_of}
use Rattle.run_audit.specs.AnswerMeanings.{Seen, Failed, Says, IsExact, IsHeard, MayFail, AnswersAreOne, Answered, ToldUnless, TellsExactly}
use Rattle.run_audit.specs.CaptureFindings.{IsSound, IsFaulty, IsFlawed}
use Rattle.run_audit.specs.NamedEras.{eras_named}
use Rattle.run_audit.specs.AnswerOutput.{Tells}
use Rattle.run_audit.specs.AuditWords.{asked}
use Rattle.run_audit.proofs.Outcomes.{HasOutcome, Outcome, all_sound, first_fault, first_flaw, outcome_one}

-- Octets are the text of one report, or have one first fault.

-- the first line has a known version, and the lines give this fault
record Known (all : List (List ℕ)) (fault : LineFault) : Type 0 where
  version : ℕ
  known : IsVersion version
  others : List (List ℕ)
  before : all ≡ first_line version ∷ others
  gives : Gives all (Err fault)

fault_gives : (all : List (List ℕ)) (fault : LineFault) → HasFault all fault → (fault ≡ First) ⊎ Known all fault
fault_gives all First h = inl refl
fault_gives all (Shape line) (inl h) = inr (record { version = h.version; known = h.read.known; others = _; before = h.read.before; gives = gives_fault all h.version _ (Shape line) h.read.known h.read.before (inl h) })
fault_gives all (Shape line) (inr h) = inr (record { version = h.version; known = h.read.known; others = _; before = h.read.before; gives = gives_fault all h.version _ (Shape line) h.read.known h.read.before (inr h) })
fault_gives all (Number line) h = inr (record { version = h.version; known = h.read.known; others = _; before = h.read.before; gives = gives_fault all h.version _ (Number line) h.read.known h.read.before h })
fault_gives all NoMemory h = absurd h

first_no_more : (all : List (List ℕ)) (fault : LineFault) → HasFault all First → Known all fault → ⊥
first_no_more all fault first k = first k.version k.known k.others k.before

report_fault_one : (all : List (List ℕ)) (f g : LineFault) → HasFault all f → HasFault all g → f ≡ g
report_fault_one all f g hf hg = by (fault_gives all f hf) (fault_gives all g hg)
  where
    by : (f ≡ First) ⊎ Known all f → (g ≡ First) ⊎ Known all g → f ≡ g
    by (inl a) (inl b) = a ∙ sym b
    by (inl a) (inr b) = absurd (first_no_more all g (subst (HasFault all) a hf) b)
    by (inr a) (inl b) = absurd (first_no_more all f (subst (HasFault all) b hg) a)
    by (inr a) (inr b) = let same = gives_one a.gives b.gives in cc same

fault_no_report : (octets : List ℕ) (f : LineFault) (report : PlainReport) → HasFault (lines octets) f → IsReport report → octets ≡ text_of report → ⊥
fault_no_report octets f report has is text = by (fault_gives (lines octets) f has)
  where
    first : HasFault (lines octets) First → ⊥
    first h = h report.version is.version (map entry_text report.entries ++ last_text report.last ∷ []) (lines-text octets report is text)

    by : (f ≡ First) ⊎ Known (lines octets) f → ⊥
    by (inl a) = first (subst (HasFault (lines octets)) a has)
    by (inr a) = let same = gives_one (gives_report (lines octets) report is (lines-text octets report is text)) a.gives in absurd (cc same)

-- a report is not both that of a finished run and that of one that stopped
end_no_stop : (last : Last) → IsEnd last → IsStop last → ⊥
end_no_stop (End records packets) e s = s
end_no_stop (Stop kind offset) e s = e

pub finished_one : (octets : List ℕ) (es fs : List PlainEntry) → IsFinished octets es → IsFinished octets fs → es ≡ fs
finished_one octets es fs a b =
    let same = text_one a.report b.report a.is b.is (sym a.text ∙ b.text) in
    sym a.entries_are ∙ ap (λ (r : PlainReport). r.entries) same ∙ b.entries_are

pub finished_no_other : (octets : List ℕ) (es : List PlainEntry) (line : ℕ) → IsFinished octets es → IsUnfinished octets line → ⊥
finished_no_other octets es line a b = ⊎_elim long (⊎_elim fault stop) b
  where
    long : IsTooLong octets line → ⊥
    long t = let h = t.long in let k = a.small in omega (arith, h, k)

    fault : HasFaultAt octets line → ⊥
    fault t = fault_no_report octets t.fault a.report t.has a.is a.text

    stop : TellsStop octets line → ⊥
    stop t =
        let same = text_one a.report t.report a.is t.is (sym a.text ∙ t.text) in
        end_no_stop t.report.last (subst (λ (r : PlainReport). IsEnd r.last) same a.ends) t.stops

pub unfinished_one : (octets : List ℕ) (line other : ℕ) → IsUnfinished octets line → IsUnfinished octets other → line ≡ other
unfinished_one octets line other a b = by a b
  where
    by : IsUnfinished octets line → IsUnfinished octets other → line ≡ other
    by (inl s) (inl t) = s.line_is ∙ sym t.line_is
    by (inl s) (inr (inl t)) = let h = s.long in let k = t.small in absurd (omega (arith, h, k))
    by (inl s) (inr (inr t)) = let h = s.long in let k = t.small in absurd (omega (arith, h, k))
    by (inr (inl s)) (inl t) = let h = t.long in let k = s.small in absurd (omega (arith, h, k))
    by (inr (inr s)) (inl t) = let h = t.long in let k = s.small in absurd (omega (arith, h, k))
    by (inr (inl s)) (inr (inl t)) = s.line_is ∙ ap line_of_fault (report_fault_one (lines octets) s.fault t.fault s.has t.has) ∙ sym t.line_is
    by (inr (inl s)) (inr (inr t)) = absurd (fault_no_report octets s.fault t.report s.has t.is t.text)
    by (inr (inr s)) (inr (inl t)) = absurd (fault_no_report octets t.fault s.report t.has s.is s.text)
    by (inr (inr s)) (inr (inr t)) =
        let same = text_one s.report t.report s.is t.is (sym s.text ∙ t.text) in
        s.line_is ∙ ap (λ (r : PlainReport). length r.entries + 2) same ∙ sym t.line_is

-- At most one answer applies to words, a capture and a report.

-- the flaw of the code for a flaw of the definitions
flaw_from : found.Flaw → Flaw
flaw_from found.bad_magic = flaws.Magic
flaw_from found.bad_version = flaws.Version
flaw_from found.bad_link = flaws.Link
flaw_from found.too_long = flaws.Long
flaw_from found.too_many = flaws.Many
flaw_from found.cut_short = flaws.Cut

flaw_back : (f : Flaw) → flaw_from (flaw_of f) ≡ f
unfolding flaw_from
flaw_back flaws.Magic = refl
flaw_back flaws.Version = refl
flaw_back flaws.Link = refl
flaw_back flaws.Long = refl
flaw_back flaws.Many = refl
flaw_back flaws.Cut = refl

-- the answer to an outcome, after the report of these entries
answer_to : List PlainEntry → Outcome → Answer
answer_to entries (all_sound frames) = answers.Yes (length (eras_named entries)) frames
answer_to entries (first_fault number reason) = answers.No number reason
answer_to entries (first_flaw what offset) = answers.Flawed (flaw_from what) offset

-- the report with these octets is that of a finished run, and this is a fact of its entries
record Read (r : List ℕ) (P : List PlainEntry → Type 0) : Type 0 where
  entries : List PlainEntry
  finished : IsFinished r entries
  fact : P entries

-- the answer is that to an outcome
record Answers (hops : ℕ) (entries : List PlainEntry) (capture : List ℕ) (answer : Answer) : Type 0 where
  outcome : Outcome
  has : HasOutcome hops entries capture outcome
  is : answer ≡ answer_to entries outcome

-- what an answer about the frames says of known octets
abbrev Told : (words : List (List ℕ)) → (c r : List ℕ) → Answer → Type 0
Told words c r a = (hops : ℕ) × (asked words ≡ Some hops) × Read r (λ es. Answers hops es c a)

-- a fact of octets that are known
at : (P : List ℕ → Type 0) (left : Option (List ℕ)) (x : List ℕ) → left ≡ Some x → IfSome left P → P x
at P left x e h = let Q : Option (List ℕ) → Type 0 = λ o. IfSome o P in subst Q e h

-- the answer is one about the frames
abbrev IsOfFrames : Answer → Type 0
IsOfFrames (answers.Yes eras frames) = Unit {0}
IsOfFrames (answers.No number reason) = Unit {0}
IsOfFrames (answers.Flawed what offset) = Unit {0}
IsOfFrames _ = ⊥

told_of : (words : List (List ℕ)) (capture report : Seen) (c r : List ℕ) (a : Answer) → capture.left ≡ Some c → report.left ≡ Some r → IsOfFrames a
    → Says words capture report a → Told words c r a
unfolding answer_to
told_of words capture report c r (answers.Yes eras frames) e f is s =
    let fact : Answers s.0 s.2.entries c (answers.Yes eras frames) =
    record {
      outcome = all_sound frames;
      has = at (λ x. IsSound s.0 s.2.entries x frames) capture.left c e s.2.sound;
      is = ap (λ n. answers.Yes n frames) s.2.eras_are;
    } in
    (s.0, s.1, record { entries = s.2.entries; finished = at (λ x. IsFinished x s.2.entries) report.left r f s.2.finished; fact = fact })
told_of words capture report c r (answers.No number reason) e f is s =
    let fact : Answers s.0 s.2.entries c (answers.No number reason) =
    record { outcome = first_fault number reason; has = at (λ x. IsFaulty s.0 s.2.entries x number reason) capture.left c e s.2.fact; is = refl } in
    (s.0, s.1, record { entries = s.2.entries; finished = at (λ x. IsFinished x s.2.entries) report.left r f s.2.finished; fact = fact })
told_of words capture report c r (answers.Flawed what offset) e f is s =
    let fact : Answers s.0 s.2.entries c (answers.Flawed what offset) =
    record {
      outcome = first_flaw (flaw_of what) offset;
      has = at (λ x. IsFlawed s.0 s.2.entries x (flaw_of what) offset) capture.left c e s.2.fact;
      is = ap (λ g. answers.Flawed g offset) (sym (flaw_back what));
    } in
    (s.0, s.1, record { entries = s.2.entries; finished = at (λ x. IsFinished x s.2.entries) report.left r f s.2.finished; fact = fact })
told_of words capture report c r _ e f is s = absurd is

-- the words ask for at most one number
refused : (words : List (List ℕ)) (h : ℕ) → asked words ≡ None → asked words ≡ Some h → ⊥
refused words h e f = absurd (cc (e, f))

told_one : (words : List (List ℕ)) (c r : List ℕ) (a b : Answer) → Told words c r a → Told words c r b → a ≡ b
told_one words c r a b s t =
    let number : s.0 ≡ t.0 = (let e = sym s.1 ∙ t.1 in cc e) in
    let named = finished_one r s.2.entries t.2.entries s.2.finished t.2.finished in
    let P : ℕ → Type 0 = λ n. Answers n s.2.entries c a in
    let Q : List PlainEntry → Type 0 = λ es. Answers t.0 es c a in
    let mine = subst Q named (subst P number s.2.fact) in
    let yours = t.2.fact in
    mine.is ∙ ap (answer_to t.2.entries) (outcome_one t.0 t.2.entries c mine.outcome yours.outcome mine.has yours.has) ∙ sym yours.is

some_of : (o : Option (List ℕ)) → IsSome o → (x : List ℕ) × (o ≡ Some x)
some_of None h = absurd (cc h)
some_of (Some x) h = (x, refl)

-- no other answer applies to invalid arguments
words_alone : (words : List (List ℕ)) (capture report : Seen) (b : Answer) → IsExact b → asked words ≡ None → Says words capture report b → answers.Words ≡ b
words_alone words capture report (answers.Yes eras frames) exact s t = absurd (refused words t.0 s t.1)
words_alone words capture report (answers.No number reason) exact s t = absurd (refused words t.0 s t.1)
words_alone words capture report answers.Words exact s t = refl
words_alone words capture report (answers.Flawed flaw offset) exact s t = absurd (refused words t.0 s t.1)
words_alone words capture report answers.Unread exact s t = absurd exact
words_alone words capture report answers.Memory exact s t = absurd exact
words_alone words capture report (answers.Report line) exact s t = absurd (refused words t.0 s t.1)

-- a report is not both that of a finished run and not that of one
not_both : (left : Option (List ℕ)) (r : List ℕ) (es : List PlainEntry) (line : ℕ) → left ≡ Some r → IfSome left (λ x. IsFinished x es) → IfSome left (λ x. IsUnfinished x line) → ⊥
not_both left r es line e fin un = finished_no_other r es line (at (λ x. IsFinished x es) left r e fin) (at (λ x. IsUnfinished x line) left r e un)

-- no other answer applies to a report that is not that of a finished run
report_alone : (words : List (List ℕ)) (capture report : Seen) (r : List ℕ) (line : ℕ) (b : Answer) → report.left ≡ Some r → IsExact b
    → Says words capture report (answers.Report line) → Says words capture report b → answers.Report line ≡ b
report_alone words capture report r line (answers.Yes eras frames) f exact s t = absurd (not_both report.left r t.2.entries line f t.2.finished s.2)
report_alone words capture report r line (answers.No number reason) f exact s t = absurd (not_both report.left r t.2.entries line f t.2.finished s.2)
report_alone words capture report r line answers.Words f exact s t = absurd (refused words s.0 t s.1)
report_alone words capture report r line (answers.Flawed flaw offset) f exact s t = absurd (not_both report.left r t.2.entries line f t.2.finished s.2)
report_alone words capture report r line answers.Unread f exact s t = absurd exact
report_alone words capture report r line answers.Memory f exact s t = absurd exact
report_alone words capture report r line (answers.Report other) f exact s t =
    ap answers.Report (unfinished_one r line other (at (λ x. IsUnfinished x line) report.left r f s.2) (at (λ x. IsUnfinished x other) report.left r f t.2))

-- if an answer about the frames holds, no other does
frames_alone : (words : List (List ℕ)) (capture report : Seen) (a b : Answer) → IsSome report.left × IsSome capture.left → IsOfFrames a → IsExact a
    → IsExact b → Says words capture report a → Says words capture report b → a ≡ b
frames_alone words capture report a b heard of_frames exact other s t = by b other t
  where
    r : (x : List ℕ) × (report.left ≡ Some x)
    r = some_of report.left heard.0

    c : (x : List ℕ) × (capture.left ≡ Some x)
    c = some_of capture.left heard.1

    both : (b : Answer) → IsOfFrames b → Says words capture report b → a ≡ b
    both b is t = told_one words c.0 r.0 a b (told_of words capture report c.0 r.0 a c.1 r.1 of_frames s) (told_of words capture report c.0 r.0 b c.1 r.1 is t)

    by : (b : Answer) → IsExact b → Says words capture report b → a ≡ b
    by (answers.Yes eras frames) exact t = both (answers.Yes eras frames) tt t
    by (answers.No number reason) exact t = both (answers.No number reason) tt t
    by (answers.Flawed what offset) exact t = both (answers.Flawed what offset) tt t
    by answers.Words other t = sym (words_alone words capture report a exact t s)
    by (answers.Report line) other t = sym (report_alone words capture report r.0 line a r.1 exact t s)
    by _ other t = absurd other

pub answers_are_one : AnswersAreOne
answers_are_one words capture report answers.Words b heard exact s t = words_alone words capture report b exact s t
answers_are_one words capture report answers.Unread b heard exact s t = absurd heard
answers_are_one words capture report answers.Memory b heard exact s t = absurd heard
answers_are_one words capture report (answers.Report line) b heard exact s t =
    let r = some_of report.left heard in report_alone words capture report r.0 line b r.1 exact s t
answers_are_one words capture report (answers.Yes eras frames) b heard exact s t =
    frames_alone words capture report (answers.Yes eras frames) b heard tt tt exact s t
answers_are_one words capture report (answers.No number reason) b heard exact s t =
    frames_alone words capture report (answers.No number reason) b heard tt tt exact s t
answers_are_one words capture report (answers.Flawed what offset) b heard exact s t =
    frames_alone words capture report (answers.Flawed what offset) b heard tt tt exact s t

-- a source failed although an answer holds
either_failed : (capture report : Seen) → Failed capture report → Rose report.before report.now ⊎ Rose capture.before capture.now
either_failed capture report (inl a) = inl a
either_failed capture report (inr b) = inr b.fact

report_failed : (capture report : Seen) (r : List ℕ) (line : ℕ) → report.left ≡ Some r → IfSome report.left (λ x. IsUnfinished x line) → Failed capture report → Rose report.before report.now
report_failed capture report r line f un (inl a) = a
report_failed capture report r line f un (inr b) = absurd (not_both report.left r b.entries line f b.finished un)

may_fail : (words : List (List ℕ)) (capture report : Seen) (a : Answer) → IsHeard capture report a → Says words capture report a → Says words capture report answers.Unread → MayFail capture report a
may_fail words capture report (answers.Yes eras frames) heard s t = either_failed capture report t.2
may_fail words capture report (answers.No number reason) heard s t = either_failed capture report t.2
may_fail words capture report answers.Words heard s t = refused words t.0 s t.1
may_fail words capture report (answers.Flawed flaw offset) heard s t = either_failed capture report t.2
may_fail words capture report answers.Unread heard s t = absurd heard
may_fail words capture report answers.Memory heard s t = absurd heard
may_fail words capture report (answers.Report line) heard s t =
    let r = some_of report.left heard in
    report_failed capture report r.0 line r.1 s.2 t.2

-- the answer that is written is the one that holds
pub tells_exactly : AnswersAreOne → (words : List (List ℕ)) (capture report : Seen) (old new : Option (List ℕ)) (before now status : ℕ) → Answered words capture report old new before now status → TellsExactly words capture report old new before now status
tells_exactly one words capture report old new before now status told answer heard says = by told.answer told.says told.told
  where
    same : (a : Answer) → IsExact a → Says words capture report a → Tells a old new before now status → ToldUnless capture report answer old new before now status
    same a a_exact s t = inl (subst (λ b. Tells b old new before now status) (sym (one words capture report answer a heard a_exact says s)) t)

    by : (a : Answer) → Says words capture report a → Tells a old new before now status → ToldUnless capture report answer old new before now status
    by answers.Unread s t = inr (inr (may_fail words capture report answer heard says s, t))
    by answers.Memory s t = inr (inl t)
    by (answers.Yes eras frames) s t = same (answers.Yes eras frames) tt s t
    by (answers.No number reason) s t = same (answers.No number reason) tt s t
    by answers.Words s t = same answers.Words tt s t
    by (answers.Flawed flaw offset) s t = same (answers.Flawed flaw offset) tt s t
    by (answers.Report line) s t = same (answers.Report line) tt s t
