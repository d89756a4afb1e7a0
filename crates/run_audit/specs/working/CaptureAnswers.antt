-- The answers to faults of a capture (this project's profile).
use Rattle.std.specs.Prelude.{ℕ}
use Rattle.pcap_file.specs.declared.head.HeadFault.{HeadFault}
use Rattle.pcap_file.specs.declared.head.HeadFault.TheVariants as heads
use Rattle.pcap_file.specs.declared.reader.RecordFault.{RecordFault}
use Rattle.pcap_file.specs.declared.reader.RecordFault.TheVariants as records
use Rattle.run_audit.specs.declared.answer.Answer.{Answer}
use Rattle.run_audit.specs.declared.answer.Answer.TheVariants as answers
use Rattle.run_audit.specs.declared.answer.Flaw.TheVariants as flaws

-- the answer to a fault of the head
abbrev pub head_answer : HeadFault → Answer
head_answer heads.Cut = answers.Flawed flaws.Cut 0
head_answer heads.Magic = answers.Flawed flaws.Magic 0
head_answer heads.Version = answers.Flawed flaws.Version 0
head_answer heads.Link = answers.Flawed flaws.Link 0
head_answer heads.ReadFault = answers.Unread

-- the answer to a fault of the record at this offset
abbrev pub record_answer : RecordFault → (offset : ℕ) → Answer
record_answer records.Cut offset = answers.Flawed flaws.Cut offset
record_answer records.Long offset = answers.Flawed flaws.Long offset
record_answer records.TooMany offset = answers.Flawed flaws.Many offset
record_answer records.ReadFault offset = answers.Unread
