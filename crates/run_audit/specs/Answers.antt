-- The answers of an audit: their statuses and their lines (this project's profile).
use Rattle.std.specs.Prelude.{ℕ, List, [], ◌∷◌, ◌++◌, codes, decimal}
use Rattle.pcap_file.specs.Flaws as found
use Rattle.rule_book.specs.Text.{part, last_text}
use Rattle.rule_book.specs.declared.last.Last.TheVariants.{Stop}
use Rattle.rule_book.specs.declared.last.StopKind.{StopKind}
use Rattle.rule_book.specs.declared.last.StopKind.TheVariants as kinds
use Rattle.run_audit.specs.declared.answer.Answer.{Answer}
use Rattle.run_audit.specs.declared.answer.Answer.TheVariants as answers
use Rattle.run_audit.specs.declared.answer.Flaw.{Flaw}
use Rattle.run_audit.specs.declared.answer.Flaw.TheVariants as flaws
use Rattle.run_audit.specs.declared.answer.Reason.{Reason}
use Rattle.run_audit.specs.declared.answer.Reason.TheVariants as reasons

-- the word for the fault of a frame
abbrev pub reason_word : Reason → List ℕ
reason_word reasons.Count = codes "count"
reason_word reasons.Plain = codes "plain"
reason_word reasons.Base = codes "base"
reason_word reasons.Syn = codes "syn"
reason_word reasons.Octet = codes "octet"
reason_word reasons.Fin = codes "fin"

-- the flaw of a capture in the definitions of captures
abbrev pub flaw_of : Flaw → found.Flaw
flaw_of flaws.Magic = found.bad_magic
flaw_of flaws.Version = found.bad_version
flaw_of flaws.Link = found.bad_link
flaw_of flaws.Long = found.too_long
flaw_of flaws.Many = found.too_many
flaw_of flaws.Cut = found.cut_short

-- the reason of a `stop` line for a flaw of a capture
abbrev pub kind_of : Flaw → StopKind
kind_of flaws.Magic = kinds.Magic
kind_of flaws.Version = kinds.Version
kind_of flaws.Link = kinds.Link
kind_of flaws.Long = kinds.Long
kind_of flaws.Many = kinds.Many
kind_of flaws.Cut = kinds.Cut

-- the status for a flaw of a capture: 4 if the capture ends inside its head or a record, else 3
abbrev pub flaw_status : Flaw → ℕ
flaw_status flaws.Magic = 3
flaw_status flaws.Version = 3
flaw_status flaws.Link = 3
flaw_status flaws.Long = 3
flaw_status flaws.Many = 3
flaw_status flaws.Cut = 4

-- the status of an answer whose line is written
abbrev pub status_of : Answer → ℕ
status_of (answers.Yes eras frames) = 0
status_of (answers.No frame reason) = 1
status_of answers.Words = 2
status_of (answers.Flawed flaw offset) = flaw_status flaw
status_of answers.Unread = 5
status_of answers.Memory = 8
status_of (answers.Report line) = 9

-- the line of an answer
abbrev pub line_of : Answer → List ℕ
line_of (answers.Yes eras frames) = codes "yes" ++ part (decimal eras) ++ part (decimal frames) ++ 10 ∷ []
line_of (answers.No frame reason) = codes "no" ++ part (decimal frame) ++ part (reason_word reason) ++ 10 ∷ []
line_of answers.Words = codes "stop words" ++ 10 ∷ []
line_of (answers.Flawed flaw offset) = last_text (Stop (kind_of flaw) offset)
line_of answers.Unread = codes "stop read" ++ 10 ∷ []
line_of answers.Memory = codes "stop memory" ++ 10 ∷ []
line_of (answers.Report line) = codes "stop report" ++ part (decimal line) ++ 10 ∷ []
