-- The lines of a report: they are its text, they are read one by one, and have one outcome, the
-- report or the first fault.
use Rattle.std.proofs.Common.{◌≡◌, ℕ, ◌+◌, true, inl, inr, List, [], ◌∷◌, ◌++◌, get_or, codes, refl, ap, arith, map, reverse, sym, ◌∙◌, append-nil, append_assoc, zero, suc, length, subst, add-one, add-zero, add_comm, ◌≢◌, ◌⊎◌, drop, Result, Ok, Err, IfOk, MatchResult}
use Rattle.std.proofs.lemmas.List.{reverse-append, length_push, map-append}
use Rattle.std.proofs.lemmas.List.Folds.{concat-append}
use Rattle.std.specs.List.{AllByRecursion, concat, flat_map, range_with_len}
use Rattle.rule_book.specs.ReportReading.{IsVersion, PlainReport, EntryFits, IsEntryOf, TextsAreInOrder, IsReport, lines, text_of, IsReadTo, BeginsAmiss, TextsDiffer, HasFault, LastFits, plain_report}
use Rattle.rule_book.specs.working.ReportLines.{lines_of}
use Rattle.rule_book.specs.Text.{first_line, entry_text, last_text, lines_text}
use Rattle.rule_book.specs.Entries.{PlainEntry}
use Rattle.rule_book.specs.working.LineWords.{joined}
use Rattle.rule_book.specs.declared.report.Report.{Report}
use Rattle.rule_book.specs.declared.fault.LineFault.{LineFault}
use Rattle.rule_book.specs.declared.fault.LineFault.TheVariants.{First, Shape, Number, NoMemory}
use Rattle.rule_book.specs.declared.last.Last.{Last}
use Rattle.rule_book.proofs.Lines.{has_no, IsLine, concat-lines, lines-concat, all-append}
use Rattle.rule_book.proofs.Entries.{last-line, entry_text-joined, joined-no_feed, words-solid, words_of}
use Rattle.rule_book.proofs.Unique.{entry_no_last, entry_one, last_one}

-- The versions of the report, and the first line of each.

version_no_feed : (version : ℕ) → IsVersion version → has_no 10 (codes "norm " ++ (48 + version) ∷ []) ≡ true
version_no_feed version (inl one) = ap (λ v. has_no 10 (codes "norm " ++ (48 + v) ∷ [])) one
version_no_feed version (inr two) = ap (λ v. has_no 10 (codes "norm " ++ (48 + v) ∷ [])) two

-- the first line of a version is a line
pub first-line : (version : ℕ) → IsVersion version → IsLine (first_line version)
first-line version is = record { body = codes "norm " ++ (48 + version) ∷ []; no_feed = version_no_feed version is; whole = refl }

-- the first lines of two versions differ
pub first_one : (one other : ℕ) → first_line one ≡ first_line other → one ≡ other
first_one one other same = let digit : 48 + one ≡ 48 + other = ap (λ (l : List ℕ). get_or l 5 0) same in omega arith

-- The text of a report and its lines.

-- the lines of two lists of entries, the newest entry first
lines_text-append : (xs ys : List PlainEntry) → lines_text (xs ++ ys) ≡ lines_text ys ++ lines_text xs
lines_text-append [] ys = sym (append-nil (lines_text ys))
lines_text-append (x ∷ xs) ys = ap (λ l. l ++ entry_text x) (lines_text-append xs ys) ∙ append_assoc (lines_text ys) (lines_text xs) (entry_text x)

lines_text-reverse : (entries : List PlainEntry) → lines_text (reverse entries) ≡ concat (map entry_text entries)
lines_text-reverse [] = refl
lines_text-reverse (e ∷ entries) =
    ap lines_text (reverse-append (e ∷ []) entries) ∙ lines_text-append (reverse entries) (e ∷ []) ∙ ap (λ l. entry_text e ++ l) (lines_text-reverse entries)

-- a report's text is the concatenation of its lines
text-concat : (report : PlainReport) → text_of report ≡ concat (lines_of report)
text-concat report =
    let entries = map entry_text report.entries in
    let last = last_text report.last in
    let first = first_line report.version in
    (λ i. (first ++ lines_text-reverse report.entries i) ++ sym (append-nil last) i)
    ∙ append_assoc first (concat entries) (last ++ [])
    ∙ ap (λ l. first ++ l) (sym (concat-append entries (last ∷ [])))

pub entry-line : (entry : PlainEntry) → EntryFits entry → IsLine (entry_text entry)
entry-line entry fits = record { body = joined (words_of entry); no_feed = joined-no_feed (words_of entry) (words-solid entry fits); whole = entry_text-joined entry }

entries-lines : (version : ℕ) (entries : List PlainEntry) → AllByRecursion (IsEntryOf version) entries → AllByRecursion IsLine (map entry_text entries)
entries-lines version [] fit = tt
entries-lines version (entry ∷ entries) fit = (entry-line entry fit.0.fits, entries-lines version entries fit.1)

report-lines : (report : PlainReport) → IsReport report → AllByRecursion IsLine (lines_of report)
report-lines report is =
    (first-line report.version is.version, all-append IsLine (map entry_text report.entries) (last_text report.last ∷ []) (entries-lines report.version report.entries is.fit) (last-line report.last is.last, tt))

-- octets that are a report's text have its lines
pub lines-text : (octets : List ℕ) (report : PlainReport) → IsReport report → octets ≡ text_of report → lines octets ≡ lines_of report
lines-text octets report is text = ap lines (text ∙ text-concat report) ∙ lines-concat (lines_of report) (report-lines report is)

-- octets that have a report's lines are its text
pub text-lines : (octets : List ℕ) (report : PlainReport) → lines octets ≡ lines_of report → octets ≡ text_of report
text-lines octets report is = sym (concat-lines octets) ∙ ap concat is ∙ sym (text-concat report)

concat-map : (entries : List PlainEntry) → concat (map entry_text entries) ≡ flat_map entry_text entries
concat-map [] = refl
concat-map (entry ∷ entries) = ap (λ l. entry_text entry ++ l) (concat-map entries)

-- the lines of entries are in their order
pub text-in_order : TextsAreInOrder
text-in_order report = λ i. (first_line report.version ++ (lines_text-reverse report.entries ∙ concat-map report.entries) i) ++ last_text report.last

-- A report that is read line by line.

-- a range with one more number at its end
range-push : (from count : ℕ) → range_with_len from (suc count) ≡ range_with_len from count ++ (from + count) ∷ []
range-push from zero = ap (λ n. n ∷ []) (sym (add-zero from))
range-push from (suc count) =
    let next : (from + 1) + count ≡ from + suc count = omega arith in
    ap (λ l. from ∷ l) (range-push (from + 1) count ∙ ap (λ n. range_with_len (from + 1) count ++ n ∷ []) next)

-- one more entry is read
pub read_more : (version : ℕ) (all others : List (List ℕ)) (entries : List PlainEntry) (entry : PlainEntry) → IsEntryOf version entry → entry.number ≡ length entries + 1 → IsReadTo version all entries (entry_text entry ∷ others) → IsReadTo version all (entries ++ entry ∷ []) others
read_more version all others entries entry fits number read = record {
  known = read.known;
  fit = all-append (IsEntryOf version) entries (entry ∷ []) read.fit (fits, tt);
  numbered =
      map-append (λ (e : PlainEntry). e.number) entries (entry ∷ [])
      ∙ (λ i. read.numbered i ++ (number ∙ add_comm (length entries) 1) i ∷ [])
      ∙ sym (ap (range_with_len 1) (length_push entries entry ∙ add-one (length entries)) ∙ range-push 1 (length entries));
  before = read.before ∙ ap (λ l. first_line version ∷ l) (sym (append_assoc (map entry_text entries) (entry_text entry ∷ []) others) ∙ ap (λ l. l ++ others) (sym (map-append entry_text entries (entry ∷ []))));
}

-- the other lines may be replaced by equal ones
pub read_at : {version : ℕ} {all : List (List ℕ)} {entries : List PlainEntry} {others same : List (List ℕ)} → others ≡ same → IsReadTo version all entries others → IsReadTo version all entries same
read_at {version} {all} {entries} is read = record { known = read.known; fit = read.fit; numbered = read.numbered; before = read.before ∙ ap (λ l. (first_line version ∷ map entry_text entries) ++ l) is }

-- one more entry is read if the next line is that of an entry with the next number
pub read_next : (version : ℕ) (all : List (List ℕ)) (entries : List PlainEntry) (entry : PlainEntry) (items : List PlainEntry) (before : List (List ℕ)) (text : List ℕ) (others : List (List ℕ)) (line : ℕ)
    → IsReadTo version all entries before → before ≡ text ∷ others → IsEntryOf version entry → text ≡ entry_text entry → line ≡ length entries + 2 → entry.number + 1 ≡ line
    → items ≡ entries ++ entry ∷ [] → IsReadTo version all items others
read_next version all entries entry items before text others line read front fits is place number more =
    let first : before ≡ entry_text entry ∷ others = front ∙ ap (λ t. t ∷ others) is in
    let next : IsReadTo version all (entries ++ entry ∷ []) others = read_more version all others entries entry fits (omega arith) (read_at first read) in
    subst (λ es. IsReadTo version all es others) (sym more) next

-- Lines are those of one report, or have exactly one first fault.

-- equal lists have the same first line
heads : {x y : List ℕ} {xs ys : List (List ℕ)} → x ∷ xs ≡ y ∷ ys → x ≡ y
heads same = ap (λ (l : List (List ℕ)). get_or l 0 []) same

tails : {x y : List ℕ} {xs ys : List (List ℕ)} → x ∷ xs ≡ y ∷ ys → xs ≡ ys
tails same = ap (λ (l : List (List ℕ)). drop 1 l) same

-- the next line is not that of the entry of this number
abbrev Stops : (version number : ℕ) → List (List ℕ) → Type 0
Stops version number others = (entry : PlainEntry) → IsEntryOf version entry → entry.number ≡ number → (rest : List (List ℕ)) → others ≢ entry_text entry ∷ rest

abbrev NumberedFrom : ℕ → List PlainEntry → Type 0
NumberedFrom from entries = map (λ (e : PlainEntry). e.number) entries ≡ range_with_len from (length entries)

first_number : (from : ℕ) (e : PlainEntry) (entries : List PlainEntry) → NumberedFrom from (e ∷ entries) → e.number ≡ from
first_number from e entries numbered = ap (λ (l : List ℕ). get_or l 0 0) numbered

later_numbers : (from : ℕ) (e : PlainEntry) (entries : List PlainEntry) → NumberedFrom from (e ∷ entries) → NumberedFrom (from + 1) entries
later_numbers from e entries numbered = ap (λ (l : List ℕ). drop 1 l) numbered

stops_later : (version from : ℕ) (e : PlainEntry) (entries : List PlainEntry) (others : List (List ℕ)) → Stops version (from + length (e ∷ entries)) others → Stops version ((from + 1) + length entries) others
stops_later version from e entries others stops = let same : from + suc (length entries) ≡ (from + 1) + length entries = omega arith in subst (λ n. Stops version n others) same stops

-- two lists of numbered entries that the same lines begin with are the same, if no further entry
-- follows either
same_entries : (version from : ℕ) (es fs : List PlainEntry) (others more : List (List ℕ)) → AllByRecursion (IsEntryOf version) es → AllByRecursion (IsEntryOf version) fs → NumberedFrom from es → NumberedFrom from fs
    → Stops version (from + length es) others → Stops version (from + length fs) more → map entry_text es ++ others ≡ map entry_text fs ++ more → (es ≡ fs) × (others ≡ more)
same_entries version from [] [] others more ef ff en fn eo fo same = (refl, same)
same_entries version from [] (f ∷ fs) others more ef ff en fn eo fo same = absurd (eo f ff.0 (omega (arith, first_number from f fs fn)) (map entry_text fs ++ more) same)
same_entries version from (e ∷ es) [] others more ef ff en fn eo fo same = absurd (fo e ef.0 (omega (arith, first_number from e es en)) (map entry_text es ++ others) (sym same))
same_entries version from (e ∷ es) (f ∷ fs) others more ef ff en fn eo fo same =
    let head = entry_one e f ef.0.fits ff.0.fits (heads same) in
    let later = same_entries version (from + 1) es fs others more ef.1 ff.1 (later_numbers from e es en) (later_numbers from f fs fn) (stops_later version from e es others eo) (stops_later version from f fs more fo) (tails same) in
    ((λ i. head i ∷ later.0 i), later.1)

-- the result after a last line: the report, or a fault if a line follows
abbrev after_last : (version : ℕ) → List PlainEntry → Last → List (List ℕ) → Result PlainReport LineFault
after_last version entries last [] = Ok (record { version = version; entries = entries; last = last })
after_last version entries last (text ∷ others) = Err (Shape (length entries + 3))

-- a missing or malformed line after the entries, and its fault
record Amiss (version : ℕ) (entries : List PlainEntry) (others : List (List ℕ)) (outcome : Result PlainReport LineFault) : Type 0 where
  amiss : BeginsAmiss version others
  gives : outcome ≡ Err (Shape (length entries + 2))

record Misnumbered (version : ℕ) (entries : List PlainEntry) (others : List (List ℕ)) (outcome : Result PlainReport LineFault) : Type 0 where
  entry : PlainEntry
  fits : IsEntryOf version entry
  rest : List (List ℕ)
  is : others ≡ entry_text entry ∷ rest
  number : entry.number ≢ length entries + 1
  gives : outcome ≡ Err (Number (length entries + 2))

record Ended (version : ℕ) (entries : List PlainEntry) (others : List (List ℕ)) (outcome : Result PlainReport LineFault) : Type 0 where
  last : Last
  fits : LastFits last
  rest : List (List ℕ)
  is : others ≡ last_text last ∷ rest
  gives : outcome ≡ after_last version entries last rest

abbrev Ends : (version : ℕ) → List PlainEntry → List (List ℕ) → Result PlainReport LineFault → Type 0
Ends version entries others outcome = Amiss version entries others outcome ⊎ (Misnumbered version entries others outcome ⊎ Ended version entries others outcome)

-- a missing or malformed line is neither an entry's nor a last line
amiss_no_entry : (version : ℕ) (others rest : List (List ℕ)) (entry : PlainEntry) → BeginsAmiss version others → IsEntryOf version entry → others ≡ entry_text entry ∷ rest → ⊥
amiss_no_entry version [] rest entry amiss fits is = omega (arith, ap length is)
amiss_no_entry version (text ∷ others) rest entry amiss fits is = amiss.entry entry fits (heads is)

amiss_no_last : (version : ℕ) (others rest : List (List ℕ)) (last : Last) → BeginsAmiss version others → LastFits last → others ≡ last_text last ∷ rest → ⊥
amiss_no_last version [] rest last amiss fits is = omega (arith, ap length is)
amiss_no_last version (text ∷ others) rest last amiss fits is = amiss.last last fits (heads is)

ends_stop : (version : ℕ) (entries : List PlainEntry) (others : List (List ℕ)) (outcome : Result PlainReport LineFault) → Ends version entries others outcome → Stops version (1 + length entries) others
ends_stop version entries others outcome (inl a) entry fits number rest is = amiss_no_entry version others rest entry a.amiss fits is
ends_stop version entries others outcome (inr (inl m)) entry fits number rest is =
    let same : m.entry ≡ entry = entry_one m.entry entry m.fits.fits fits.fits (heads (sym m.is ∙ is)) in
    m.number (ap (λ (e : PlainEntry). e.number) same ∙ number ∙ (let turn : 1 + length entries ≡ length entries + 1 = omega arith in turn))
ends_stop version entries others outcome (inr (inr l)) entry fits number rest is = entry_no_last entry l.last fits.fits l.fits (heads (sym is ∙ l.is))

ends_one : (version : ℕ) (entries : List PlainEntry) (others : List (List ℕ)) (one other : Result PlainReport LineFault) → Ends version entries others one → Ends version entries others other → one ≡ other
ends_one version entries others one other (inl a) (inl b) = a.gives ∙ sym b.gives
ends_one version entries others one other (inl a) (inr (inl m)) = absurd (amiss_no_entry version others m.rest m.entry a.amiss m.fits m.is)
ends_one version entries others one other (inl a) (inr (inr l)) = absurd (amiss_no_last version others l.rest l.last a.amiss l.fits l.is)
ends_one version entries others one other (inr (inl m)) (inl a) = absurd (amiss_no_entry version others m.rest m.entry a.amiss m.fits m.is)
ends_one version entries others one other (inr (inr l)) (inl a) = absurd (amiss_no_last version others l.rest l.last a.amiss l.fits l.is)
ends_one version entries others one other (inr (inl m)) (inr (inl n)) = m.gives ∙ sym n.gives
ends_one version entries others one other (inr (inl m)) (inr (inr l)) = absurd (entry_no_last m.entry l.last m.fits.fits l.fits (heads (sym m.is ∙ l.is)))
ends_one version entries others one other (inr (inr l)) (inr (inl m)) = absurd (entry_no_last m.entry l.last m.fits.fits l.fits (heads (sym m.is ∙ l.is)))
ends_one version entries others one other (inr (inr l)) (inr (inr k)) =
    let same = sym l.is ∙ k.is in
    l.gives ∙ (λ i. after_last version entries (last_one l.last k.last l.fits k.fits (heads same) i) (tails same i)) ∙ sym k.gives

-- the result of lines whose first is that of this version: a report, or the first fault
pub record GivesIn (version : ℕ) (all : List (List ℕ)) (outcome : Result PlainReport LineFault) : Type 0 where
  entries : List PlainEntry
  others : List (List ℕ)
  read : IsReadTo version all entries others
  ends : Ends version entries others outcome

abbrev pub Gives : List (List ℕ) → Result PlainReport LineFault → Type 0
Gives all outcome = (version : ℕ) × GivesIn version all outcome

gives_same : (version : ℕ) (all : List (List ℕ)) (one other : Result PlainReport LineFault) → GivesIn version all one → GivesIn version all other → one ≡ other
gives_same version all one other a b =
    let same = same_entries version 1 a.entries b.entries a.others b.others a.read.fit b.read.fit a.read.numbered b.read.numbered
    (ends_stop version a.entries a.others one a.ends) (ends_stop version b.entries b.others other b.ends) (tails (sym a.read.before ∙ b.read.before)) in
    ends_one version b.entries b.others one other (subst (λ (es : List PlainEntry). Ends version es b.others one) same.0 (subst (λ (os : List (List ℕ)). Ends version a.entries os one) same.1 a.ends)) b.ends

pub gives_one : {all : List (List ℕ)} {one other : Result PlainReport LineFault} → Gives all one → Gives all other → one ≡ other
gives_one {all} {one} {other} a b =
    let same = first_one a.0 b.0 (heads (sym a.1.read.before ∙ b.1.read.before)) in
    gives_same b.0 all one other (subst (λ version. GivesIn version all one) same a.1) b.1

pub gives_report : (all : List (List ℕ)) (report : PlainReport) → IsReport report → all ≡ lines_of report → Gives all (Ok report)
gives_report all report is lines = (
  report.version,
  record {
    entries = report.entries;
    others = last_text report.last ∷ [];
    read = record { known = is.version; fit = is.fit; numbered = is.numbered; before = lines };
    ends = inr (inr (record { last = report.last; fits = is.last; rest = []; is = refl; gives = refl }));
  },
)

-- lines with a right first line and a fault give this fault
pub gives_fault : (all : List (List ℕ)) (version : ℕ) (others : List (List ℕ)) (fault : LineFault) → IsVersion version → all ≡ first_line version ∷ others → HasFault all fault → Gives all (Err fault)
gives_fault all version others First known first fault = absurd (fault version known others first)
gives_fault all version others (Shape line) known first (inl h) = (
  h.version,
  record {
    entries = h.entries;
    others = h.others;
    read = h.read;
    ends = inl (record { amiss = h.amiss; gives = ap (λ n. Err (Shape n)) h.place });
  },
)
gives_fault all version others (Shape line) known first (inr h) = (
  h.version,
  record {
    entries = h.entries;
    others = last_text h.last ∷ h.text ∷ h.others;
    read = h.read;
    ends = inr (inr (record { last = h.last; fits = h.fits; rest = h.text ∷ h.others; is = refl; gives = ap (λ n. Err (Shape n)) h.place }));
  },
)
gives_fault all version others (Number line) known first h = (
  h.version,
  record {
    entries = h.entries;
    others = entry_text h.entry ∷ h.others;
    read = h.read;
    ends = inr (inl (record { entry = h.entry; fits = h.fits; rest = h.others; is = refl; number = h.number; gives = ap (λ n. Err (Number n)) h.place }));
  },
)
gives_fault all version others NoMemory known first fault = absurd fault

ok_one : {a b : PlainReport} → ◌≡◌ {A = Result PlainReport LineFault} (Ok a) (Ok b) → a ≡ b
ok_one same = cc

err_one : {a b : LineFault} → ◌≡◌ {A = Result PlainReport LineFault} (Err a) (Err b) → a ≡ b
err_one same = cc

ok_no_err : {a : PlainReport} {b : LineFault} → ◌≡◌ {A = Result PlainReport LineFault} (Ok a) (Err b) → ⊥
ok_no_err same = cc

pub text_one : TextsDiffer
text_one one other is same_is same =
    let octets = text_of one in
    let all = lines octets in
    ok_one (gives_one (gives_report all one is (lines-text octets one is refl)) (gives_report all other same_is (lines-text octets other same_is same)))

-- the result of reading: a report if the lines are its own, the first fault, or not enough memory
abbrev pub Tells : List (List ℕ) → Result Report LineFault → Type 0
Tells all result = MatchResult result (λ report. IsReport (plain_report report) × (all ≡ lines_of (plain_report report))) (λ fault. (fault ≡ NoMemory) ⊎ HasFault all fault)

pub tells_text : (octets : List ℕ) (version : ℕ) (others : List (List ℕ)) (result : Result Report LineFault) → IsVersion version → lines octets ≡ first_line version ∷ others → Tells (first_line version ∷ others) result
    → (report : PlainReport) → IsReport report → octets ≡ text_of report → MatchResult result (λ found. plain_report found ≡ report) (λ fault. fault ≡ NoMemory)
tells_text octets version others (Ok found) known first told report is text =
    ok_one (gives_one (gives_report (first_line version ∷ others) (plain_report found) told.0 told.1) (gives_report (first_line version ∷ others) report is (sym first ∙ lines-text octets report is text)))
tells_text octets version others (Err fault) known first (inl memory) report is text = memory
tells_text octets version others (Err fault) known first (inr h) report is text =
    absurd (ok_no_err (gives_one (gives_report (first_line version ∷ others) report is (sym first ∙ lines-text octets report is text)) (gives_fault (first_line version ∷ others) version others fault known refl h)))

pub tells_fault : (octets : List ℕ) (version : ℕ) (others : List (List ℕ)) (result : Result Report LineFault) → IsVersion version → lines octets ≡ first_line version ∷ others → Tells (first_line version ∷ others) result
    → (fault : LineFault) → HasFault (lines octets) fault → MatchResult result (λ _. ⊥) (λ found. (found ≡ NoMemory) ⊎ (found ≡ fault))
tells_fault octets version others (Ok found) known first told fault has =
    ok_no_err (gives_one (gives_report (first_line version ∷ others) (plain_report found) told.0 told.1) (gives_fault (first_line version ∷ others) version others fault known refl (subst (λ all. HasFault all fault) first has)))
tells_fault octets version others (Err found) known first (inl memory) fault has = inl memory
tells_fault octets version others (Err found) known first (inr h) fault has =
    inr (err_one (gives_one (gives_fault (first_line version ∷ others) version others found known refl h) (gives_fault (first_line version ∷ others) version others fault known refl (subst (λ all. HasFault all fault) first has))))

pub tells_ok : (octets : List ℕ) (version : ℕ) (others : List (List ℕ)) (result : Result Report LineFault) → lines octets ≡ first_line version ∷ others → Tells (first_line version ∷ others) result
    → IfOk result (λ report. IsReport (plain_report report) × (octets ≡ text_of (plain_report report)))
tells_ok octets version others (Ok report) first told = (told.0, text-lines octets (plain_report report) (first ∙ told.1))
tells_ok octets version others (Err fault) first told = tt

-- a report's text begins with the first line of its version
pub text_first : (octets : List ℕ) → HasFault (lines octets) First → (report : PlainReport) → IsReport report → octets ≡ text_of report → ⊥
text_first octets other report is text = other report.version is.version (map entry_text report.entries ++ last_text report.last ∷ []) (lines-text octets report is text)
