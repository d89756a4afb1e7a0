-- The causes of an answer about a capture, by what its source gave (this project's profile).
use Rattle.std.specs.Prelude.{ℕ, List, Option, IfSome, IsSome, nat_eq}
use Rattle.edge_io.specs.FaultCounts.{Rose}
use Rattle.pcap_file.specs.declared.head.Head.{Head}
use Rattle.rule_book.specs.Entries.{PlainEntry}
use Rattle.indexmap.specs.IndexMap.{get}
use Rattle.run_audit.specs.declared.answer.Answer.{Answer}
use Rattle.run_audit.specs.declared.answer.Answer.TheVariants as answers
use Rattle.run_audit.specs.Answers.{flaw_of}
use Rattle.run_audit.specs.working.EraTable.{Eras}
use Rattle.run_audit.specs.CaptureFindings.{FaultyFrame, FlawedFrame, IsFaulty, IsFlawed}

-- the cause of an answer about the frames after a head, if the source has known octets; `before`
-- and `now` count its faults
abbrev pub WhyUnsound : (hops : ℕ) → Head → List PlainEntry → Option (List ℕ) → (before now : ℕ) → Answer → Type 0
WhyUnsound hops head entries left before now (answers.No number reason) = IfSome left (λ all. FaultyFrame hops head entries all number reason)
WhyUnsound hops head entries left before now (answers.Flawed flaw offset) = IfSome left (λ all. FlawedFrame hops head entries all (flaw_of flaw) offset)
WhyUnsound hops head entries left before now answers.Unread = Rose before now
WhyUnsound hops head entries left before now answers.Memory = Unit {0}
WhyUnsound hops head entries left before now _ = ⊥

-- the cause of an answer about a capture, if the source has known octets
abbrev pub WhyUnsoundWhole : (hops : ℕ) → List PlainEntry → Option (List ℕ) → (before now : ℕ) → Answer → Type 0
WhyUnsoundWhole hops entries capture before now (answers.No number reason) = IfSome capture (λ octets. IsFaulty hops entries octets number reason)
WhyUnsoundWhole hops entries capture before now (answers.Flawed flaw offset) = IfSome capture (λ octets. IsFlawed hops entries octets (flaw_of flaw) offset)
WhyUnsoundWhole hops entries capture before now answers.Unread = Rose before now
WhyUnsoundWhole hops entries capture before now answers.Memory = Unit {0}
WhyUnsoundWhole hops entries capture before now _ = ⊥

-- the era that the entry names, if it names one, is among the eras
abbrev pub HasEra : Eras → PlainEntry → Type 0
HasEra eras entry = IfSome entry.era (λ era. IsSome (get nat_eq eras era))
