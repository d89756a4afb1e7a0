-- The contract of a run, for each kind of end. Nothing is claimed of octets that are not known.
use Rattle.std.specs.Prelude.{◌≡◌, ℕ, ◌-◌, ◌^◌, ◌≤◌, ◌⊎◌, true, List, length, Option, Ok, Err}
use Rattle.norm_settings.specs.declared.fault.WordFault.{WordFault}
use Rattle.norm_settings.specs.SettingValues.{PlainSettings}
use Rattle.norm_settings.specs.RefusalNumbers.{number_of}
use Rattle.norm_settings.specs.AskedCommand.{PlainNames, asked}
use Rattle.norm_settings.specs.AskedCommand as command
use Rattle.both_sides.specs.RunTraces.{RunTrace, packets_of}
use Rattle.bridge_run.specs.StopReasons.{Told, words_line}
use Rattle.bridge_run.specs.Summary.{Summed, AsksLoad}
pub use Rattle.bridge_run.specs.Theorem.{Normalized}

-- the words request a run with these settings
abbrev pub AsksRun : List (List ℕ) → PlainSettings → Type 0
AsksRun words settings = (names : PlainNames) × (asked words ≡ Ok (command.run names settings))

-- if both sides are protected, there are at most 2^31 - 1 records
abbrev pub IsFew : PlainSettings → RunTrace → Type 0
IsFew settings run = settings.both ≡ true → length (packets_of run) ≤ 2 ^ 31 - 1

-- A finished run over a capture: the words request a run, and under their settings the capture was
-- normalized.
pub record FinishedRun (words : List (List ℕ)) (source source' capture capture' report report' : Option (List ℕ)) : Type 0 where
  pub settings : PlainSettings
  pub accepted : AsksRun words settings
  pub normalized : Normalized settings source source' capture capture' report report'

-- A finished load: the words request a load, and the report was given its summary.
pub record FinishedLoad (words : List (List ℕ)) (report report' : Option (List ℕ)) : Type 0 where
  pub seed : ℕ
  pub count : ℕ
  pub accepted : AsksLoad words seed count
  pub summed : Summed seed count report report'

-- A finished run: over a capture, or over a load, as the words request.
abbrev pub Finished : (words : List (List ℕ)) → (source source' capture capture' report report' : Option (List ℕ)) → Type 0
Finished words source source' capture capture' report report' =
    FinishedRun words source source' capture capture' report report' ⊎ FinishedLoad words report report'

-- The words request a load.
abbrev pub IsLoad : List (List ℕ) → Type 0
IsLoad words = (seed : ℕ) × (count : ℕ) × AsksLoad words seed count

-- The arguments are invalid.
abbrev pub IsRefused : List (List ℕ) → Type 0
IsRefused words = (fault : WordFault) × (asked words ≡ Err fault)

-- the answer to invalid arguments: their fault, in one line of the report
pub record Refused (words : List (List ℕ)) (report report' : Option (List ℕ)) (before now : ℕ) : Type 0 where
  pub fault : WordFault
  pub refused : asked words ≡ Err fault
  pub told : Told report report' before now (words_line (number_of fault))
