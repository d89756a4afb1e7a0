-- A report, its text, and the first fault of octets that are the text of no report (this project's
-- profile).
use Rattle.std.specs.Prelude.{◌≡◌, ◌≢◌, ℕ, ◌+◌, ◌^◌, ◌<◌, ◌≤◌, ◌==◌, if◌then◌else◌, List, [], ◌∷◌, ◌++◌, length, map, reverse, ◌⊎◌, IfSome}
use Rattle.std.specs.List.{AllByRecursion, flat_map, onto_first, range_with_len}
use Rattle.rule_book.specs.Entries.{IsOfVersion, PlainEntry, plain}
use Rattle.rule_book.specs.Text.{entry_text, first_line, last_text, report_text}
use Rattle.rule_book.specs.declared.entry.Ended.{Ended}
use Rattle.rule_book.specs.declared.fault.LineFault.{LineFault}
use Rattle.rule_book.specs.declared.fault.LineFault.TheVariants.{First, Shape, Number, NoMemory}
use Rattle.rule_book.specs.declared.last.Last.{Last}
use Rattle.rule_book.specs.declared.last.Last.TheVariants.{End, Stop}
use Rattle.rule_book.specs.declared.report.Report.{Report}

-- a report whose collections are lists, with the entries in the order of their lines
pub record PlainReport : Type 0 where
  pub version : ℕ
  pub entries : List PlainEntry
  pub last : Last

-- the value of a report in memory
abbrev pub plain_report : Report → PlainReport
plain_report report = record { version = report.version; entries = map plain report.entries.items; last = report.last }

-- the text of a report
abbrev pub text_of : PlainReport → List ℕ
text_of report = report_text report.version (reverse report.entries) report.last

-- the version is 1 or 2
abbrev pub IsVersion : ℕ → Type 0
IsVersion version = (version ≡ 1) ⊎ (version ≡ 2)

-- the number of an ended era has at most 32 bits, and that of its octets at most 64
pub record EndedFits (ended : Ended) : Type 0 where
  pub era : ended.era < 2 ^ 32
  pub octets : IfSome ended.octets (λ octets. octets < 2 ^ 64)

-- the numbers of an entry are in the ranges of their types, and it has at most 16 rules and 4 ended
-- eras
pub record EntryFits (entry : PlainEntry) : Type 0 where
  pub number : entry.number < 2 ^ 32
  pub packets : entry.packets < 2 ^ 8
  pub rules : length entry.rules ≤ 16
  pub era : IfSome entry.era (λ era. era < 2 ^ 32)
  pub begun : IfSome entry.begun (λ era. era < 2 ^ 32)
  pub ended : length entry.ended ≤ 4
  pub eras : AllByRecursion EndedFits entry.ended

-- an entry that a report of this version may have
pub record IsEntryOf (version : ℕ) (entry : PlainEntry) : Type 0 where
  pub fits : EntryFits entry
  pub octets : IsOfVersion version entry

-- the numbers of a last line are in the ranges of their types
abbrev pub LastFits : Last → Type 0
LastFits (End records packets) = (records < 2 ^ 32) × (packets < 2 ^ 64)
LastFits (Stop kind offset) = offset < 2 ^ 64

-- the entries are numbered 1, 2 and so on
abbrev pub AreNumbered : List PlainEntry → Type 0
AreNumbered entries = map (λ entry. entry.number) entries ≡ range_with_len 1 (length entries)

-- a report: its numbers are in the ranges of their types, its entries are of its version, and they
-- are numbered 1, 2 and so on
pub record IsReport (report : PlainReport) : Type 0 where
  pub version : IsVersion report.version
  pub fit : AllByRecursion (IsEntryOf report.version) report.entries
  pub numbered : AreNumbered report.entries
  pub last : LastFits report.last

-- the lines of octets, each with its line feed (10); the last line may lack it
abbrev pub lines : List ℕ → List (List ℕ)
lines [] = []
lines (octet ∷ octets) = if octet == 10 then (octet ∷ []) ∷ lines octets else onto_first octet (lines octets)

-- all lines are the first line of this version, those of these entries, numbered 1, 2 and so on,
-- and the others
pub record IsReadTo (version : ℕ) (all : List (List ℕ)) (entries : List PlainEntry) (others : List (List ℕ)) : Type 0 where
  pub known : IsVersion version
  pub fit : AllByRecursion (IsEntryOf version) entries
  pub numbered : AreNumbered entries
  pub before : all ≡ (first_line version ∷ map entry_text entries) ++ others

-- a text that is neither the line of an entry of this version nor a last line
pub record IsNoLine (version : ℕ) (text : List ℕ) : Type 0 where
  pub entry : (entry : PlainEntry) → IsEntryOf version entry → text ≢ entry_text entry
  pub last : (last : Last) → LastFits last → text ≢ last_text last

-- there is no line, or the first one is neither an entry's nor a last line
abbrev pub BeginsAmiss : (version : ℕ) → List (List ℕ) → Type 0
BeginsAmiss version [] = Unit {0}
BeginsAmiss version (text ∷ others) = IsNoLine version text

-- all lines before this one are right, and it is missing or is neither an entry's nor a last line
pub record HasNoLine (all : List (List ℕ)) (line : ℕ) : Type 0 where
  pub version : ℕ
  pub entries : List PlainEntry
  pub others : List (List ℕ)
  pub read : IsReadTo version all entries others
  pub amiss : BeginsAmiss version others
  pub place : line ≡ length entries + 2

-- all lines before this one are right, and it follows a last line
pub record GoesOn (all : List (List ℕ)) (line : ℕ) : Type 0 where
  pub version : ℕ
  pub entries : List PlainEntry
  pub last : Last
  pub fits : LastFits last
  pub text : List ℕ
  pub others : List (List ℕ)
  pub read : IsReadTo version all entries (last_text last ∷ text ∷ others)
  pub place : line ≡ length entries + 3

-- all lines before this one are right, and it is the line of an entry whose number is not the next
pub record IsMisnumbered (all : List (List ℕ)) (line : ℕ) : Type 0 where
  pub version : ℕ
  pub entries : List PlainEntry
  pub entry : PlainEntry
  pub fits : IsEntryOf version entry
  pub others : List (List ℕ)
  pub read : IsReadTo version all entries (entry_text entry ∷ others)
  pub number : entry.number ≢ length entries + 1
  pub place : line ≡ length entries + 2

-- the first fault of lines that are those of no report
abbrev pub HasFault : List (List ℕ) → LineFault → Type 0
HasFault all First = (version : ℕ) → IsVersion version → (others : List (List ℕ)) → all ≢ first_line version ∷ others
HasFault all (Shape line) = HasNoLine all line ⊎ GoesOn all line
HasFault all (Number line) = IsMisnumbered all line
HasFault all NoMemory = ⊥

-- no text is that of two reports
abbrev pub TextsDiffer : Type 0
TextsDiffer = (one other : PlainReport) → IsReport one → IsReport other → text_of one ≡ text_of other → one ≡ other

-- no line is that of two entries, of whatever versions
abbrev pub EntriesDiffer : Type 0
EntriesDiffer = (one other : PlainEntry) → EntryFits one → EntryFits other → entry_text one ≡ entry_text other → one ≡ other

-- no last line is that of two ends of a run
abbrev pub LastsDiffer : Type 0
LastsDiffer = (one other : Last) → LastFits one → LastFits other → last_text one ≡ last_text other → one ≡ other

-- the text of a report is the first line, the lines of its entries in their order, and the last
-- line
abbrev pub TextsAreInOrder : Type 0
TextsAreInOrder = (report : PlainReport) → text_of report ≡ first_line report.version ++ flat_map entry_text report.entries ++ last_text report.last
