-- What is written to the output for an answer (this project's profile).
use Rattle.std.specs.Prelude.{◌≡◌, ◌⊎◌, ℕ, List, Option}
use Rattle.std.specs.Io.KnownBytes.{Appends}
use Rattle.edge_io.specs.FaultCounts.{Rose}
use Rattle.edge_io.specs.KnownOctets.{AppendsPart}
use Rattle.run_audit.specs.declared.answer.Answer.{Answer}
use Rattle.run_audit.specs.Answers.{status_of, line_of}

-- the whole line was written, and its status is returned
pub record GivesWhole (status : ℕ) (line : List ℕ) (old new : Option (List ℕ)) (before now answered : ℕ) : Type 0 where
  pub status_is : answered ≡ status
  pub whole : Appends old new line
  pub no_fault : now ≡ before

-- the output failed, so 7 is returned; a prefix of the line was written
pub record GivesPart (line : List ℕ) (old new : Option (List ℕ)) (before now answered : ℕ) : Type 0 where
  pub status_is : answered ≡ 7
  pub part : AppendsPart old new line
  pub failed : Rose before now

-- the whole line was written or the output failed; `before` and `now` count its faults
abbrev pub TellsLine : (status : ℕ) → (line : List ℕ) → (old new : Option (List ℕ)) → (before now answered : ℕ) → Type 0
TellsLine status line old new before now answered = GivesWhole status line old new before now answered ⊎ GivesPart line old new before now answered

-- the line of an answer was written, or the output failed
abbrev pub Tells : Answer → (old new : Option (List ℕ)) → (before now answered : ℕ) → Type 0
Tells answer old new before now answered = TellsLine (status_of answer) (line_of answer) old new before now answered
