-- The view of what a finished run read and wrote (this project's profile).
use Rattle.std.specs.Prelude.{◌≡◌, ◌⊎◌, ℕ, ◌-◌, ◌^◌, ◌≤◌, List, ◌++◌, length, map, Option, Some, None}
use Rattle.wire_base.specs.declared.address.Link.{Link}
use Rattle.pcap_file.specs.Records.{Packet}
use Rattle.norm_settings.specs.SettingValues.{AreInRange, PlainSettings}
use Rattle.both_sides.specs.RecordOutputs.{count_put, puts}
use Rattle.both_sides.specs.RunTraces.{RunTrace, packets_of}
use Rattle.bridge_run.specs.Theorem.{Normalized}
use Rattle.run_view.specs.Items.{packets_of as item_packets}
use Rattle.run_view.specs.ViewLaws.{AreOfARun, HasFiles, NothingFails}
use Rattle.run_view.specs.RunFiles.{FaultCounts, Moment}
use Rattle.run_view.specs.StatusMeanings.{IsToItsEnd, Stopped}
use Rattle.run_view.specs.ViewWords.{asked_in}
use Rattle.run_view.specs.declared.words.Asked.{Asked}

-- the run has at most 2^31 - 1 records, and wrote at most 2^32 - 1 frames, as many as a capture may
-- have
pub record FitsACapture (settings : PlainSettings) (link : Link) (run : RunTrace) : Type 0 where
  pub records : length (packets_of run) ≤ 2 ^ 31 - 1
  pub frames : count_put (puts settings link run) ≤ 2 ^ 32 - 1

-- a record without its side
abbrev pub unsided : Packet → Packet
unsided packet = record packet { side = None }

-- Three files are those of a finished run of these records. A view of them, if its words are
-- accepted and nothing fails, returns 0, 10 or 11, or 8 if memory could not be allocated.
pub record IsViewed (input output report : List ℕ) (records : List Packet) : Type 0 where
  pub files : AreOfARun input output report
  pub records_are : item_packets files.items ≡ records
  pub returns : (words : List (List ℕ)) (asked : Asked) (before : Moment) (now : FaultCounts) (status : ℕ) → asked_in words ≡ Some asked
      → HasFiles before input output report
      → NothingFails before now → IsToItsEnd status ⊎ Stopped words before now status → IsToItsEnd status ⊎ (status ≡ 8)

-- This holds for the capture that a finished run read and for the two files that it wrote, after
-- what they held before: by one engine, with an MTU or without, and by two. Where an inside
-- interface is named, the view reads the same records without sides. The settings are in their
-- ranges.
abbrev pub RunsAreViewedWhole : Type 0
RunsAreViewedWhole =
    (settings : PlainSettings) (source' : Option (List ℕ)) (input held capture told report : List ℕ) → AreInRange settings
    → (done : Normalized settings (Some input) source' (Some held) (Some (held ++ capture)) (Some told) (Some (told ++ report)))
    → FitsACapture settings done.head.link done.run → IsViewed input capture report (map unsided (packets_of done.run))
