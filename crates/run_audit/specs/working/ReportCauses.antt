-- The causes of an answer about a report, by what its source gave (this project's profile).
use Rattle.std.specs.Prelude.{◌≡◌, ℕ, List, Option, Some, None, IfSome}
use Rattle.edge_io.specs.FaultCounts.{Rose}
use Rattle.rule_book.specs.declared.fault.LineFault.{LineFault}
use Rattle.rule_book.specs.declared.fault.LineFault.TheVariants as faults
use Rattle.run_audit.specs.declared.answer.Answer.{Answer}
use Rattle.run_audit.specs.declared.answer.Answer.TheVariants as answers
use Rattle.run_audit.specs.ReportFindings.{IsUnfinished}

-- these are all octets that a source had left, if it has known octets
abbrev pub WereLeft : Option (List ℕ) → List ℕ → Type 0
WereLeft None octets = Unit {0}
WereLeft (Some xs) octets = xs ≡ octets

-- the cause of an answer instead of entries, if the source has known octets; `before` and `now`
-- count its faults
abbrev pub WhyUnread : Option (List ℕ) → (before now : ℕ) → Answer → Type 0
WhyUnread left before now (answers.Report line) = IfSome left (λ octets. IsUnfinished octets line)
WhyUnread left before now answers.Unread = Rose before now
WhyUnread left before now answers.Memory = Unit {0}
WhyUnread left before now _ = ⊥

-- the answer to a fault of the report
abbrev pub fault_answer : LineFault → Answer
fault_answer faults.First = answers.Report 1
fault_answer (faults.Shape line) = answers.Report line
fault_answer (faults.Number line) = answers.Report line
fault_answer faults.NoMemory = answers.Memory

-- the cause of an answer instead of the entries of these octets
abbrev pub WhyNone : List ℕ → Answer → Type 0
WhyNone octets (answers.Report line) = IsUnfinished octets line
WhyNone octets answers.Memory = Unit {0}
WhyNone octets _ = ⊥
