-- What a view with --evidence shows that finds none (this project's profile).
use Rattle.std.specs.Prelude.{◌≡◌, ℕ, ◌||◌, Bool, true, false, List, ◌++◌, Option, Some, None}
use Rattle.wire_base.specs.declared.address.Link.{Link}
use Rattle.wire_base.specs.declared.address.Prefix.{Prefix}
use Rattle.wire_base.specs.Prefixes.{holds}
use Rattle.pcap_file.specs.Records.{Packet}
use Rattle.norm_settings.specs.SettingValues.{AreInRange, PlainSettings}
use Rattle.norm_engine.specs.Items.{Item}
use Rattle.norm_engine.specs.RecordedHost.{AddressPair, AreWrittenAsRecorded, IsOfPair, WasReadSo, any_record, may_have_pair}
use Rattle.norm_engine.specs.WrittenTrace.{written}
use Rattle.both_sides.specs.RunTraces.{trace_in}
use Rattle.bridge_run.specs.Theorem.{Normalized}
use Rattle.run_view.specs.ShownEvents.{Event}
use Rattle.run_view.specs.StatusMeanings.{Viewed}
use Rattle.run_view.specs.ViewWords.{asked_in}
use Rattle.run_view.specs.declared.words.Asked.{Asked}
use Rattle.run_laws.specs.ViewedRuns.{FitsACapture}

-- the words ask for evidence, about this host if one is given, and give no other condition
pub record AsksForEvidence (words : List (List ℕ)) (host : Option Prefix) : Type 0 where
  pub asked : Asked
  pub accepted : asked_in words ≡ Some asked
  pub evidence : asked.evidence ≡ true
  pub host_is : asked.host ≡ host
  pub rules : asked.rules ≡ None
  pub era : asked.era ≡ None
  pub verdicts : asked.verdicts ≡ None
  pub sides : asked.sides ≡ None

-- one of the two addresses is of the host
abbrev pub is_of_host : Prefix → AddressPair → Bool
is_of_host host pair = holds host pair.outside || holds host pair.inside

-- These records were written as they were recorded, and were read so in each era: in all eras, or
-- in those of a pair of addresses.
pub record WereReadSo (settings : PlainSettings) (link : Link) (concerns : Packet → Bool) (of : ℕ → Type 0) (trace : List Item) : Type 0 where
  pub as_recorded : AreWrittenAsRecorded settings link concerns trace
  pub read : (era : ℕ) → of era → WasReadSo settings link era trace

-- Where evidence is asked for and none is found, recorded hosts read what receivers of the family
-- read of the written capture. Where it is asked for about a host, those of each pair of addresses
-- with that host did.
pub record FindsNone (settings : PlainSettings) (link : Link) (trace : List Item) (words : List (List ℕ)) : Type 0 where
  pub all : AsksForEvidence words None → WereReadSo settings link any_record (λ era. Unit {0}) trace
  pub host : (host : Prefix) (pair : AddressPair) → AsksForEvidence words (Some host) → is_of_host host pair ≡ true
      → WereReadSo settings link (may_have_pair link pair) (λ era. IsOfPair link pair era trace) trace

-- This holds for the three files of each run by one engine without an MTU, if a view of them ends
-- with status 0.
abbrev pub ViewsFindEvidence : Type 0
ViewsFindEvidence =
    (settings : PlainSettings) (source' : Option (List ℕ)) (input held capture told report : List ℕ) → AreInRange settings → settings.both ≡ false
    → settings.mtu ≡ None
    → (done : Normalized settings (Some input) source' (Some held) (Some (held ++ capture)) (Some told) (Some (told ++ report)))
    → FitsACapture settings done.head.link done.run → (words : List (List ℕ)) (old new : Option (List Event))
    → Viewed words (Some input) (Some capture) (Some report) old new 0
    → FindsNone settings done.head.link (written settings done.head.link (trace_in done.run)) words
