use Rattle.std.proofs.Common.{◌≡◌, ◌⊎◌, ℕ, List, Option, Some, None, IfSome, ⊎_elim, map, string_bytes, sym, subst, ◌∙◌}
use Rattle.rule_book.specs.Entries.{PlainEntry}
use Rattle.run_audit.specs.declared.answer.Flaw.{Flaw}
use Rattle.run_audit.specs.declared.answer.Flaw.TheVariants as flaws
use Rattle.run_audit.specs.Answers.{flaw_status}
use Rattle.run_audit.specs.CaptureFindings.{IsSound}
use Rattle.run_audit.specs.SoundFiles.{FaultlessAgrees, FaultlessMissesNothing, FaultlessReadsOneStream}
use Rattle.run_audit.specs.declared.answer.Answer.{Answer}
use Rattle.run_audit.specs.declared.answer.Answer.TheVariants as answers
use Rattle.run_audit.specs.AnswerMeanings.{Seen, Says, Answered, FramesAgree, WhereRead, seen}
use Rattle.run_audit.specs.AnswerOutput.{Tells, TellsLine}
use Rattle.run_audit.proofs.OneAnswer.{tells_exactly}
use Rattle.run_audit.proofs.examine.audit.Goals as goal

-- An answer is written.

-- an answer is written
pub answered : (words : List (List ℕ)) (capture report : Seen) (answer : Answer) (old new : Option (List ℕ)) (before now status : ℕ) → Says words capture report answer → Tells answer old new before now status ⊎ Tells answers.Memory old new before now status → Answered words capture report old new before now status
answered words capture report answer old new before now status says told = ⊎_elim one other told
  where
    one : Tells answer old new before now status → Answered words capture report old new before now status
    one t = record { answer = answer; says = says; told = t }

    other : Tells answers.Memory old new before now status → Answered words capture report old new before now status
    other t = record { answer = answers.Memory; says = tt; told = t }

if_some : (o : Option (List ℕ)) (P Q : List ℕ → Type 0) → ((x : List ℕ) → P x → Q x) → IfSome o P → IfSome o Q
if_some None P Q more h = tt
if_some (Some x) P Q more h = more x h

flaw_stops : (flaw : Flaw) → flaw_status flaw ≡ 0 → ⊥
flaw_stops flaws.Cut e = absurd (cc)
flaw_stops _ e = absurd (cc)

-- the status is 0 only if the answer is yes, and then receivers agree
module _ (agree : FaultlessAgrees) (reads : FaultlessReadsOneStream) (misses : FaultlessMissesNothing) where
  frames_agree : (hops : ℕ) (entries : List PlainEntry) (frames : ℕ) (octets : List ℕ) → IsSound hops entries octets frames → FramesAgree hops entries octets
  frames_agree hops entries frames octets is = record {
    head = is.head;
    packets = is.behind.packets;
    is = record { accepted = is.accepted; whole = is.behind.reads };
    agree = agree hops _ is.behind.none.faultless;
    reads = reads hops _ is.behind.none.faultless;
    monitor = misses hops _ is.behind.none.faultless;
  }

  agrees_at_zero : (words : List (List ℕ)) (capture report : Seen) (old new : Option (List ℕ)) (before now status : ℕ) → Answered words capture report old new before now status → status ≡ 0 → WhereRead words capture report FramesAgree
  agrees_at_zero words capture report old new before now status a zero = by a.answer a.says a.told
    where
      not_zero : (other : ℕ) (line : List ℕ) → (other ≡ 0 → ⊥) → TellsLine other line old new before now status → ⊥
      not_zero other line apart told = ⊎_elim (λ whole. apart (sym whole.status_is ∙ zero)) (λ part. let e : 7 ≡ 0 = sym part.status_is ∙ zero in absurd (cc)) told

      by : (answer : Answer) → Says words capture report answer → Tells answer old new before now status → WhereRead words capture report FramesAgree
      by (answers.Yes eras frames) says told = (
        says.0,
        says.1,
        record {
          entries = says.2.entries;
          finished = says.2.finished;
          fact = if_some capture.left _ _ (λ octets is. frames_agree says.0 says.2.entries frames octets is) says.2.sound;
        },
      )
      by (answers.Flawed flaw offset) says told = absurd (not_zero _ _ (flaw_stops flaw) told)
      by _ says told = absurd (not_zero _ _ (λ e. absurd (cc)) told)

pub returns-in-Ok-clause-answered : goal.returns-in-Ok-clause-answered
returns-in-Ok-clause-answered g c =
    let P : Answer → Type 0 = Says (map string_bytes c.args.words.now) (seen (g.C.Source.left c.args.capture.now) (g.C.Source.fault_count c.args.capture.now) (g.C.Source.fault_count c.examine.new.capture)) (seen (g.R.Source.left c.args.report.now) (g.R.Source.fault_count c.args.report.now) (g.R.Source.fault_count c.examine.new.report)) in
    answered _ _ _ c.answer.result _ _ _ _ _ (subst P (sym c.answer.ensures) c.in-Ok.ensures.yes) c.tell.ensures.told

pub returns-in-Ok-clause-agreement : goal.returns-in-Ok-clause-agreement
returns-in-Ok-clause-agreement g c =
    agrees_at_zero c.faultless_agrees.ensures c.faultless_reads_one_stream.ensures c.faultless_misses_nothing.ensures _ _ _ _ _ _ _ _ (returns-in-Ok-clause-answered g c)

pub returns-in-Ok-clause-exactly : goal.returns-in-Ok-clause-exactly
returns-in-Ok-clause-exactly g c =
    tells_exactly c.answers_are_one.ensures _ _ _ _ _ _ _ _ (returns-in-Ok-clause-answered g c)

pub returns-in-Err-clause-answered : goal.returns-in-Err-clause-answered
returns-in-Err-clause-answered g c =
    answered (map string_bytes c.args.words.now) (seen (g.C.Source.left c.args.capture.now) (g.C.Source.fault_count c.args.capture.now) (g.C.Source.fault_count c.examine.new.capture)) (seen (g.R.Source.left c.args.report.now) (g.R.Source.fault_count c.args.report.now) (g.R.Source.fault_count c.examine.new.report)) c.in-Err.answer _ _ _ _ _ c.in-Err.ensures.other c.tell-in-Err.ensures.told

pub returns-in-Err-clause-agreement : goal.returns-in-Err-clause-agreement
returns-in-Err-clause-agreement g c =
    agrees_at_zero c.faultless_agrees.ensures c.faultless_reads_one_stream.ensures c.faultless_misses_nothing.ensures _ _ _ _ _ _ _ _ (returns-in-Err-clause-answered g c)

pub returns-in-Err-clause-exactly : goal.returns-in-Err-clause-exactly
returns-in-Err-clause-exactly g c =
    tells_exactly c.answers_are_one.ensures _ _ _ _ _ _ _ _ (returns-in-Err-clause-answered g c)
