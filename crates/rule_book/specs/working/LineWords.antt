-- The words of a line (this project's profile).
use Rattle.std.specs.Prelude.{◌≡◌, ℕ, ◌^◌, ◌<◌, List, [], ◌∷◌, ◌++◌, length, map, Option, Some, None, codes, decimal}
use Rattle.std.specs.List.{AllByRecursion, flat_map}
use Rattle.rule_book.specs.Entries.{PlainEntry}
use Rattle.rule_book.specs.ReportReading.{EndedFits}
use Rattle.rule_book.specs.Rules.{rule_name}
use Rattle.rule_book.specs.Text.{ended_word, part, reason_word, side_word, stop_word, verdict_word}
use Rattle.rule_book.specs.declared.entry.Ended.{Ended}
use Rattle.rule_book.specs.declared.last.Last.{Last}
use Rattle.rule_book.specs.declared.last.Last.TheVariants.{End, Stop}
use Rattle.rule_book.specs.declared.rule.Rule.{Rule}

-- words with a space (32) between each two of them
abbrev pub joined : List (List ℕ) → List ℕ
joined [] = []
joined (word ∷ words) = word ++ flat_map part words

-- what a word after the first four describes: a rule, the entry's era, the era that it began, an
-- ended era
pub data Mark : Type 0 where
  named : Rule → Mark
  belongs : ℕ → Mark
  began : ℕ → Mark
  over : Ended → Mark

-- the word of a mark: eras are marked `@` (64), `+` (43) and `-` (45)
abbrev pub mark_word : Mark → List ℕ
mark_word (named rule) = rule_name rule
mark_word (belongs era) = 64 ∷ decimal era
mark_word (began era) = 43 ∷ decimal era
mark_word (over ended) = 45 ∷ ended_word ended

-- the third part of an ended era's word, which is empty if the era has no octets
abbrev pub octets_word : Option ℕ → List ℕ
octets_word None = []
octets_word (Some octets) = decimal octets

-- these are the three parts of an ended era's word
pub record HasParts (ended : Ended) (era reason octets : List ℕ) : Type 0 where
  pub era_is : era ≡ decimal ended.era
  pub reason_is : reason ≡ reason_word ended.reason
  pub octets_is : octets ≡ octets_word ended.octets

-- the numbers of a mark are in the ranges of their types
abbrev pub MarkFits : Mark → Type 0
MarkFits (named rule) = Unit {0}
MarkFits (belongs era) = era < 2 ^ 32
MarkFits (began era) = era < 2 ^ 32
MarkFits (over ended) = EndedFits ended

-- an entry with one more mark
abbrev pub with_mark : PlainEntry → Mark → PlainEntry
with_mark entry (named rule) = record entry { rules = entry.rules ++ rule ∷ [] }
with_mark entry (belongs era) = record entry { era = Some era }
with_mark entry (began era) = record entry { begun = Some era }
with_mark entry (over ended) = record entry { ended = entry.ended ++ ended ∷ [] }

-- an entry with more marks
abbrev pub with_marks : PlainEntry → List Mark → PlainEntry
with_marks entry [] = entry
with_marks entry (mark ∷ marks) = with_marks (with_mark entry mark) marks

-- the entry has room for one more mark
abbrev pub HasRoom : PlainEntry → Mark → Type 0
HasRoom entry (named rule) = length entry.rules < 16
HasRoom entry (belongs era) = Unit {0}
HasRoom entry (began era) = Unit {0}
HasRoom entry (over ended) = length entry.ended < 4

-- the words of `rest` are the marks that the whole entry has besides those of this one
pub record Awaits (entry : PlainEntry) (rest : List ℕ) (whole : PlainEntry) : Type 0 where
  pub marks : List Mark
  pub fit : AllByRecursion MarkFits marks
  pub text : rest ≡ joined (map mark_word marks)
  pub gives : with_marks entry marks ≡ whole

-- the entry without its marks: only the first four words
abbrev pub bare : PlainEntry → PlainEntry
bare entry =
    record {
      number = entry.number;
      side = entry.side;
      verdict = entry.verdict;
      packets = entry.packets;
      rules = [];
      era = None;
      begun = None;
      ended = [];
    }

-- these are the first four words of an entry's line, and the rest of the line
pub record HasWords (entry : PlainEntry) (number side verdict packets marks : List ℕ) : Type 0 where
  pub number_is : number ≡ decimal entry.number
  pub side_is : side ≡ side_word entry.side
  pub verdict_is : verdict ≡ verdict_word entry.verdict
  pub packets_is : packets ≡ decimal entry.packets
  pub awaits : Awaits (bare entry) marks entry

-- these are the three words of a last line
abbrev pub HasLastWords : Last → List ℕ → List ℕ → List ℕ → Type 0
HasLastWords (End records packets) word first second = (word ≡ codes "end") × (first ≡ decimal records) × (second ≡ decimal packets)
HasLastWords (Stop kind offset) word first second = (word ≡ codes "stop") × (first ≡ stop_word kind) × (second ≡ decimal offset)
