-- The audit of what a finished run wrote (this project's profile).
use Rattle.std.specs.Prelude.{◌≡◌, ◌⊎◌, ℕ, ◌≤◌, false, List, ◌++◌, length, Option, Some, None}
use Rattle.edge_io.specs.FaultCounts.{Rose}
use Rattle.norm_settings.specs.SettingValues.{PlainSettings}
use Rattle.both_sides.specs.RecordOutputs.{count_put, puts}
use Rattle.bridge_run.specs.Theorem.{Normalized}
use Rattle.run_audit.specs.declared.answer.Answer.{Answer}
use Rattle.run_audit.specs.declared.answer.Answer.TheVariants.{Yes}
use Rattle.run_audit.specs.AnswerMeanings.{IsExact, Says, Seen, TellsExactly, seen}
use Rattle.run_audit.specs.ReportFindings.{is_most}
use Rattle.run_audit.specs.AuditWords.{asked}

-- no count of faults rose in an audit: not those of its two sources, and not that of its output
pub record NoneRose (capture report : Seen) (before now : ℕ) : Type 0 where
  pub of_capture : Rose capture.before capture.now → ⊥
  pub of_report : Rose report.before report.now → ⊥
  pub of_output : Rose before now → ⊥

-- An audit of these words and sources answers yes, with this number of frames: this answer holds,
-- and no other that depends on them alone. If no count of faults rises, an audit returns 0, or 8 if
-- memory could not be allocated.
pub record IsAuditedYes (words : List (List ℕ)) (capture report : Seen) (frames : ℕ) : Type 0 where
  pub eras : ℕ
  pub says : Says words capture report (Yes eras frames)
  pub only : (other : Answer) → IsExact other → Says words capture report other → other ≡ Yes eras frames
  pub returns : (old new : Option (List ℕ)) (before now status : ℕ) → TellsExactly words capture report old new before now status → NoneRose capture report before now
      → (status ≡ 0) ⊎ (status ≡ 8)

-- This holds for the two files that a finished run by one engine without an MTU wrote, after what
-- they held before. The audit is asked for as many routers as the run, and the report has at most
-- the octets that an audit reads. Nothing is asked of the run's own capture.
abbrev pub RunsAreAuditedYes : Type 0
RunsAreAuditedYes =
    (settings : PlainSettings) (source source' : Option (List ℕ)) (held capture told report : List ℕ) → settings.both ≡ false → settings.mtu ≡ None
    → (done : Normalized settings source source' (Some held) (Some (held ++ capture)) (Some told) (Some (told ++ report))) → length report ≤ is_most
    → (words : List (List ℕ)) → asked words ≡ Some settings.hops → (before now report_before report_now : ℕ)
    → IsAuditedYes words (seen (Some capture) before now) (seen (Some report) report_before report_now) (count_put (puts settings done.head.link done.run))
