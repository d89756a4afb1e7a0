use Rattle.std.proofs.Common.{◌≡◌, ℕ, List, Option, Some, Result, IfSome, IfErr, inr, map, string_bytes, sym, subst, ◌∙◌}
use Rattle.std.proofs.lemmas.Result.{IfErr-weaker}
use Rattle.rule_book.specs.Entries.{PlainEntry, plain}
use Rattle.rule_book.specs.declared.entry.Entry.{Entry}
use Rattle.run_audit.specs.declared.answer.Answer.{Answer}
use Rattle.run_audit.specs.AnswerMeanings.{Says, seen}
use Rattle.run_audit.specs.working.CaptureCauses.{WhyUnsoundWhole}
use Rattle.run_audit.specs.ReportFindings.{IsFinished}
use Rattle.run_audit.specs.AuditWords.{asked}
use Rattle.run_audit.proofs.examine.examine.Goals as goal
use Rattle.run_audit.specs.declared.answer.Answer.TheVariants as answers

-- The meaning of the answer about a capture, by the entries of the report of a finished run.

-- the meaning of the answer about a capture, by the entries of the report of a finished run
pub unsound : {T : Type 0} (words : List (List ℕ)) (capture : Option (List ℕ)) (before now : ℕ) (report : Option (List ℕ)) (report_before report_now : ℕ) (hops : ℕ) (entries : List PlainEntry)
    → asked words ≡ Some hops → IfSome report (λ octets. IsFinished octets entries) → (result : Result T Answer) → IfErr result (λ answer. WhyUnsoundWhole hops entries capture before now answer)
    → IfErr result (λ answer. Says words (seen capture before now) (seen report report_before report_now) answer)
unsound words capture before now report report_before report_now hops entries asks finished result why =
    IfErr-weaker result (WhyUnsoundWhole hops entries capture before now) (Says words (seen capture before now) (seen report report_before report_now)) says why
  where
    says : (answer : Answer) → WhyUnsoundWhole hops entries capture before now answer → Says words (seen capture before now) (seen report report_before report_now) answer
    says (answers.Yes eras frames) h = absurd h
    says (answers.No number reason) h = (hops, asks, record { entries = entries; finished = finished; fact = h })
    says answers.Words h = absurd h
    says (answers.Flawed flaw offset) h = (hops, asks, record { entries = entries; finished = finished; fact = h })
    says answers.Unread h = (hops, asks, inr (record { entries = entries; finished = finished; fact = h }))
    says answers.Memory h = tt
    says (answers.Report line) h = absurd h

pub returns-in-Ok-clause-other : goal.returns-in-Ok-clause-other
returns-in-Ok-clause-other g c =
    let P : List Entry → Type 0 = λ es. IfSome (g.R.Source.left c.args.report.now) (λ octets. IsFinished octets (map plain es)) in
    unsound (map string_bytes c.args.words.now) (g.C.Source.left c.args.capture.now) (g.C.Source.fault_count c.args.capture.now) (g.C.Source.fault_count c.examine_capture.new.capture)
    (g.R.Source.left c.args.report.now) (g.R.Source.fault_count c.args.report.now) (g.R.Source.fault_count c.entries_of.new.source) c.in-Some.hops (map plain c.as_slice.result.now) (sym c.hops_asked.ensures ∙ c.in-Some.is) (subst P (sym c.as_slice.ensures.value) c.in-Ok.ensures.finished)
    c.examine_capture.result c.examine_capture.ensures.why
