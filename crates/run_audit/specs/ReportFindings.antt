-- What an audit reads from a report (this project's profile).
use Rattle.std.specs.Prelude.{◌≡◌, ◌⊎◌, ℕ, ◌+◌, ◌<◌, ◌≤◌, List, length}
use Rattle.rule_book.specs.Entries.{PlainEntry}
use Rattle.rule_book.specs.ReportReading.{PlainReport, HasFault, IsReport, lines, text_of}
use Rattle.rule_book.specs.declared.fault.LineFault.{LineFault}
use Rattle.rule_book.specs.declared.fault.LineFault.TheVariants as faults
use Rattle.rule_book.specs.declared.last.Last.{Last}
use Rattle.rule_book.specs.declared.last.Last.TheVariants.{End, Stop}

-- the last line is an `end` line
abbrev pub IsEnd : Last → Type 0
IsEnd (End records packets) = Unit {0}
IsEnd (Stop kind offset) = ⊥

-- the last line is a `stop` line
abbrev pub IsStop : Last → Type 0
IsStop (End records packets) = ⊥
IsStop (Stop kind offset) = Unit {0}

-- the maximum length of a report: 67,108,864 octets
abbrev pub is_most : ℕ
is_most = 67108864

-- the octets are the report of a finished run, with these entries
pub record IsFinished (octets : List ℕ) (entries : List PlainEntry) : Type 0 where
  pub report : PlainReport
  pub is : IsReport report
  pub text : octets ≡ text_of report
  pub ends : IsEnd report.last
  pub entries_are : report.entries ≡ entries
  pub small : length octets ≤ is_most

-- the line of a fault: the first, or the one that the fault names; 0 for a failed allocation
abbrev pub line_of_fault : LineFault → ℕ
line_of_fault faults.First = 1
line_of_fault (faults.Shape line) = line
line_of_fault (faults.Number line) = line
line_of_fault faults.NoMemory = 0

-- the octets are the text of no report, and this is the line of their first fault
pub record HasFaultAt (octets : List ℕ) (line : ℕ) : Type 0 where
  pub fault : LineFault
  pub has : HasFault (lines octets) fault
  pub line_is : line ≡ line_of_fault fault
  pub small : length octets ≤ is_most

-- the octets are a report that ends with a `stop` line, which is this line
pub record TellsStop (octets : List ℕ) (line : ℕ) : Type 0 where
  pub report : PlainReport
  pub is : IsReport report
  pub text : octets ≡ text_of report
  pub stops : IsStop report.last
  pub line_is : line ≡ length report.entries + 2
  pub small : length octets ≤ is_most

-- there are more octets than a report may have; the line is then 0
pub record IsTooLong (octets : List ℕ) (line : ℕ) : Type 0 where
  pub long : is_most < length octets
  pub line_is : line ≡ 0

-- the octets are not the report of a finished run, by this line
abbrev pub IsUnfinished : List ℕ → (line : ℕ) → Type 0
IsUnfinished octets line = IsTooLong octets line ⊎ HasFaultAt octets line ⊎ TellsStop octets line
