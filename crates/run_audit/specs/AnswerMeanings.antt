-- What the answer of an audit means for its words, its capture and its report (this project's
-- profile), and how it is written.
use Rattle.std.specs.Prelude.{◌≡◌, ◌⊎◌, ℕ, List, length, Option, Some, None, IfSome, IsSome}
use Rattle.edge_io.specs.FaultCounts.{Rose}
use Rattle.pcap_file.specs.declared.head.Head.{Head}
use Rattle.pcap_file.specs.Records.{Packet}
use Rattle.pcap_file.specs.Capture.{IsCapture}
use Rattle.rule_book.specs.Entries.{PlainEntry}
use Rattle.era_agreement.specs.Agreement.{Agree, ReadsOneStream}
use Rattle.run_audit.specs.declared.answer.Answer.{Answer}
use Rattle.run_audit.specs.declared.answer.Answer.TheVariants as answers
use Rattle.run_audit.specs.Answers.{flaw_of}
use Rattle.run_audit.specs.CaptureFindings.{IsSound, IsFaulty, IsFlawed, frames_of}
use Rattle.run_audit.specs.OwnedFrames.{owners, owned, sent}
use Rattle.run_audit.specs.NamedEras.{eras_named}
use Rattle.run_audit.specs.ReportFindings.{IsFinished, IsUnfinished}
use Rattle.run_audit.specs.AnswerOutput.{Tells}
use Rattle.run_audit.specs.AuditWords.{asked}
use Rattle.run_audit.specs.SoundFiles.{AlwaysMissesNothing}

-- a source before and after an audit: the octets that it had left, if they are known, and its
-- counts of faults
pub record Seen : Type 0 where
  pub left : Option (List ℕ)
  pub before : ℕ
  pub now : ℕ

-- a source with these octets and counts
abbrev pub seen : Option (List ℕ) → (before now : ℕ) → Seen
seen left before now = record { left = left; before = before; now = now }

-- The report, if it is known, is that of a finished run, whose entries name this number of
-- different eras. The capture, if it is known, is whole and has this number of frames, and none of
-- them has a fault by these entries.
pub record IsYes (hops : ℕ) (report capture : Option (List ℕ)) (eras frames : ℕ) : Type 0 where
  pub entries : List PlainEntry
  pub finished : IfSome report (λ octets. IsFinished octets entries)
  pub sound : IfSome capture (λ octets. IsSound hops entries octets frames)
  pub eras_are : eras ≡ length (eras_named entries)

-- The report, if it is known, is that of a finished run, and this is a fact of its entries.
pub record OfFinished (report : Option (List ℕ)) (P : List PlainEntry → Type 0) : Type 0 where
  pub entries : List PlainEntry
  pub finished : IfSome report (λ octets. IsFinished octets entries)
  pub fact : P entries

-- the words are accepted, and this is a fact of the number of routers that they name
abbrev pub WhereAsked : (words : List (List ℕ)) → ((hops : ℕ) → Type 0) → Type 0
WhereAsked words P = (hops : ℕ) × (asked words ≡ Some hops) × P hops

-- the same, and this is a fact of the entries of the report and of the octets of the capture, if it
-- is known
abbrev pub WhereRead : (words : List (List ℕ)) → (capture report : Seen) → ((hops : ℕ) → List PlainEntry → (capture : List ℕ) → Type 0) → Type 0
WhereRead words capture report P = WhereAsked words (λ hops. OfFinished report.left (λ entries. IfSome capture.left (λ octets. P hops entries octets)))

-- a source failed: the report, or, after the report of a finished run, the capture
abbrev pub Failed : (capture report : Seen) → Type 0
Failed capture report = Rose report.before report.now ⊎ OfFinished report.left (λ entries. Rose capture.before capture.now)

-- What an answer means. Nothing is claimed of a source without known octets; what is claimed of the
-- other source does not depend on that.
abbrev pub Says : (words : List (List ℕ)) → (capture report : Seen) → Answer → Type 0
Says words capture report (answers.Yes eras frames) = WhereAsked words (λ hops. IsYes hops report.left capture.left eras frames)
Says words capture report (answers.No number reason) = WhereRead words capture report (λ hops entries c. IsFaulty hops entries c number reason)
Says words capture report answers.Words = asked words ≡ None
Says words capture report (answers.Flawed flaw offset) = WhereRead words capture report (λ hops entries c. IsFlawed hops entries c (flaw_of flaw) offset)
Says words capture report answers.Unread = WhereAsked words (λ hops. Failed capture report)
Says words capture report answers.Memory = Unit {0}
Says words capture report (answers.Report line) = WhereAsked words (λ hops. IfSome report.left (λ octets. IsUnfinished octets line))

-- an answer is written, and what it means holds
pub record Answered (words : List (List ℕ)) (capture report : Seen) (old new : Option (List ℕ)) (before now answered : ℕ) : Type 0 where
  pub answer : Answer
  pub says : Says words capture report answer
  pub told : Tells answer old new before now answered

-- The octets are a capture, and in each era that these entries name all receivers of the family
-- agree on the frames that it has there. They read parts of one stream, from whichever offset each
-- starts, if the era has a base (without one nothing is read). Before the first frame and after
-- each, a monitor that heard those so far in time misses nothing.
pub record FramesAgree (hops : ℕ) (entries : List PlainEntry) (capture : List ℕ) : Type 0 where
  pub head : Head
  pub packets : List Packet
  pub is : IsCapture capture head packets
  pub agree : Agree hops (sent (owned head.link (owners entries) (frames_of packets)))
  pub reads : ReadsOneStream hops (sent (owned head.link (owners entries) (frames_of packets)))
  pub monitor : AlwaysMissesNothing hops (owned head.link (owners entries) (frames_of packets))

-- the answer is neither that a source failed nor that memory could not be allocated: it is one
-- about the words and the two files alone
abbrev pub IsExact : Answer → Type 0
IsExact answers.Unread = ⊥
IsExact answers.Memory = ⊥
IsExact _ = Unit {0}

-- the answer is such a one, and the sources that it is about have known octets
abbrev pub IsHeard : (capture report : Seen) → Answer → Type 0
IsHeard capture report answers.Unread = ⊥
IsHeard capture report answers.Memory = ⊥
IsHeard capture report answers.Words = Unit {0}
IsHeard capture report (answers.Report line) = IsSome report.left
IsHeard capture report _ = IsSome report.left × IsSome capture.left

-- If an answer holds whose sources have known octets, no other such answer holds.
abbrev pub AnswersAreOne : Type 0
AnswersAreOne =
    (words : List (List ℕ)) (capture report : Seen) (one other : Answer) → IsHeard capture report one → IsExact other
    → Says words capture report one → Says words capture report other → one ≡ other

-- a source may fail although this answer holds: none is read if the arguments are invalid, and the
-- capture is read only after the report of a finished run
abbrev pub MayFail : (capture report : Seen) → Answer → Type 0
MayFail capture report answers.Words = ⊥
MayFail capture report (answers.Report line) = Rose report.before report.now
MayFail capture report _ = Rose report.before report.now ⊎ Rose capture.before capture.now

-- this answer is written, or that memory could not be allocated, or that a source failed, if one
-- did
abbrev pub ToldUnless : (capture report : Seen) → Answer → (old new : Option (List ℕ)) → (before now answered : ℕ) → Type 0
ToldUnless capture report answer old new before now answered =
    Tells answer old new before now answered
    ⊎ Tells answers.Memory old new before now answered
    ⊎ (MayFail capture report answer × Tells answers.Unread old new before now answered)

-- An answer that holds, and whose sources have known octets, is written, unless memory could not be
-- allocated or a source failed.
abbrev pub TellsExactly : (words : List (List ℕ)) → (capture report : Seen) → (old new : Option (List ℕ)) → (before now answered : ℕ) → Type 0
TellsExactly words capture report old new before now answered =
    (answer : Answer) → IsHeard capture report answer → Says words capture report answer
    → ToldUnless capture report answer old new before now answered
