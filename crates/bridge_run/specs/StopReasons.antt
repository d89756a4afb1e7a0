-- Why a run stops before it has finished, the status for each reason, and the lines that report it
-- (this project's profile).
use Rattle.std.specs.Prelude.{◌≡◌, ℕ, ◌+◌, ◌^◌, ◌==◌, ◌⊎◌, Bool, true, false, List, ◌∷◌, [], ◌++◌, length, codes, Option, Some, None}
use Rattle.std.specs.Io.KnownBytes.{Appends}
use Rattle.edge_io.specs.FaultCounts.{Rose}
use Rattle.edge_io.specs.KnownOctets.{AppendsPart}
use Rattle.pcap_file.specs.declared.head.Head.{Head}
use Rattle.pcap_file.specs.Records.{Packet}
use Rattle.capture_input.specs.declared.fault.InputFault.{InputFault}
use Rattle.capture_input.specs.declared.fault.InputFault.TheVariants as faults
use Rattle.capture_input.specs.Inputs.{Walk, packets_in, newest_place, BeginsWith, EndsAtNewest, FailsAt, HasFaultAt, IsInput, Took}
use Rattle.rule_book.specs.declared.last.Last.TheVariants as last
use Rattle.rule_book.specs.declared.last.StopKind.{StopKind}
use Rattle.rule_book.specs.declared.last.StopKind.TheVariants as kinds
use Rattle.rule_book.specs.Text.{last_text}
use Rattle.norm_settings.specs.SettingValues.{PlainSettings}
use Rattle.edge_io.specs.SeenEnds.{Seen}
use Rattle.both_sides.specs.Sinks.{Sinks}
use Rattle.bridge_run.specs.declared.stop.Stop.{Stop}
use Rattle.bridge_run.specs.declared.stop.Stop.TheVariants as stops
use Rattle.bridge_run.specs.RunMoments.{Moment}

-- the status of a stop
abbrev pub kind_status : StopKind → ℕ
kind_status kinds.Magic = 3
kind_status kinds.Version = 3
kind_status kinds.Link = 3
kind_status kinds.Block = 3
kind_status kinds.Long = 3
kind_status kinds.Many = 3
kind_status kinds.Cut = 4
kind_status kinds.ReadFault = 5
kind_status kinds.Capture = 6
kind_status kinds.Memory = 8

abbrev pub status_of : Stop → ℕ
status_of (stops.At kind offset) = kind_status kind
status_of stops.Report = 7

-- the kind as which a fault of the input is reported
abbrev pub fault_kind : InputFault → StopKind
fault_kind faults.Cut = kinds.Cut
fault_kind faults.Magic = kinds.Magic
fault_kind faults.Version = kinds.Version
fault_kind faults.Link = kinds.Link
fault_kind faults.Block = kinds.Block
fault_kind faults.Long = kinds.Long
fault_kind faults.Many = kinds.Many
fault_kind faults.ReadFault = kinds.ReadFault

-- an object's fault count rose, or is unchanged
abbrev pub Faulted : Bool → (before now : Seen) → Type 0
Faulted true before now = Rose before.faults now.faults
Faulted false before now = now.faults ≡ before.faults

-- the first fault of the sinks is that of the stop's status: 6 the capture's, 7 the report's, and
-- otherwise none
pub record FirstSinkFault (stop : Stop) (before now : Sinks) : Type 0 where
  pub capture : Faulted (status_of stop == 6) before.capture now.capture
  pub report : Faulted (status_of stop == 7) before.report now.report

-- the first fault of all is that of the stop's status: 5 the source's
pub record FirstFault (stop : Stop) (before now : Moment) : Type 0 where
  pub source : Faulted (status_of stop == 5) before.source now.source
  pub sinks : FirstSinkFault stop before.sinks now.sinks

-- whether a fault is in the octets, and not an early end
abbrev pub is_faulty : InputFault → Bool
is_faulty faults.Cut = false
is_faulty faults.ReadFault = false
is_faulty _ = true

-- Both sides are protected, and the octets begin with 2^31 records, one more than allowed; the
-- newest of them, or its block, has this offset. The name of the interface on the inside is that of
-- the settings, here and below.
pub record BeginsTooMany (settings : PlainSettings) (octets : List ℕ) (offset : ℕ) : Type 0 where
  pub both : settings.both ≡ true
  pub head : Head
  pub walk : Walk
  pub rest : List ℕ
  pub begins : BeginsWith settings.inside octets head walk rest
  pub ends : EndsAtNewest walk
  pub count : length (packets_in walk) ≡ 2 ^ 31
  pub place : offset ≡ newest_place walk

-- If both sides are protected, the octets do not begin with 2^31 records.
abbrev pub AreFew : PlainSettings → List ℕ → Type 0
AreFew settings octets = (offset : ℕ) → BeginsTooMany settings octets offset → ⊥

-- The octets of the source are known, their first fault is that they are cut short, and if both
-- sides are protected they have fewer than 2^31 records.
pub record IsCutShort (settings : PlainSettings) (source : Option (List ℕ)) : Type 0 where
  pub octets : List ℕ
  pub told : source ≡ Some octets
  pub offset : ℕ
  pub fails : FailsAt settings.inside octets faults.Cut offset
  pub few : AreFew settings octets

-- The first fault of the octets is not a cut, or they begin with one record more than allowed.
abbrev pub HasFault : PlainSettings → (octets : List ℕ) → Type 0
HasFault settings octets =
    ((fault : InputFault) × (offset : ℕ) × (is_faulty fault ≡ true) × FailsAt settings.inside octets fault offset) ⊎ ((offset : ℕ) × BeginsTooMany settings octets offset)

-- The octets of the source are known, and their first fault is not a cut, or they begin with one
-- record more than allowed.
pub record IsFaulty (settings : PlainSettings) (source : Option (List ℕ)) : Type 0 where
  pub octets : List ℕ
  pub told : source ≡ Some octets
  pub faulty : HasFault settings octets

-- The octets of the source are known, and they are an input with its end and without fault. If both
-- sides are protected, it has fewer than 2^31 records.
pub record IsWhole (settings : PlainSettings) (source : Option (List ℕ)) : Type 0 where
  pub octets : List ℕ
  pub told : source ≡ Some octets
  pub head : Head
  pub packets : List Packet
  pub input : IsInput settings.inside octets head packets
  pub few : AreFew settings octets

-- If the octets of the source are known, and both sides are protected, they have fewer than 2^31
-- records.
abbrev pub WereFew : PlainSettings → (source : Option (List ℕ)) → Type 0
WereFew settings None = Unit {0}
WereFew settings (Some octets) = AreFew settings octets

-- If the octets of the source are known, their first fault is that they are cut short, and if both
-- sides are protected they have fewer than 2^31 records.
pub record WasCut (settings : PlainSettings) (source : Option (List ℕ)) : Type 0 where
  pub offset : ℕ
  pub fails : HasFaultAt settings.inside source faults.Cut offset
  pub few : WereFew settings source

-- If the octets of the source are known, they begin with one record more than allowed; both sides
-- are protected in any case.
abbrev pub WasTooMany : PlainSettings → (source : Option (List ℕ)) → (offset : ℕ) → Type 0
WasTooMany settings None offset = settings.both ≡ true
WasTooMany settings (Some octets) offset = BeginsTooMany settings octets offset

-- If the octets of the source are known, their first fault is not a cut, or they begin with one
-- record more than allowed.
abbrev pub WasFaulty : PlainSettings → (source : Option (List ℕ)) → Type 0
WasFaulty settings source =
    ((fault : InputFault) × (offset : ℕ) × (is_faulty fault ≡ true) × HasFaultAt settings.inside source fault offset) ⊎ ((offset : ℕ) × WasTooMany settings source offset)

-- If the octets of the source are known, those taken are an accepted head and whole records or
-- blocks after it.
abbrev pub TookHead : PlainSettings → (source source' : Option (List ℕ)) → Type 0
TookHead settings source source' = (head : Head) × (walk : Walk) × Took settings.inside source source' head walk

-- A sink was at most flushed: its octets are unchanged, and so is its fault count if they are
-- known.
pub record Kept (before now : Seen) : Type 0 where
  pub octets : now.octets ≡ before.octets
  pub faults : (octets : List ℕ) → before.octets ≡ Some octets → now.faults ≡ before.faults

-- A line was given to the report completely, unless the report failed: then a prefix of it was.
abbrev pub Told : (old new : Option (List ℕ)) → (before now : ℕ) → List ℕ → Type 0
Told old new before now line = Appends old new line ⊎ (Rose before now × AppendsPart old new line)

-- the line on invalid arguments, by the number of the fault, which is one digit
abbrev pub words_line : ℕ → List ℕ
words_line number = codes "stop words " ++ (48 + number) ∷ 10 ∷ []

-- the line that reports that memory could not be allocated at opening
abbrev pub memory_line : List ℕ
memory_line = last_text (last.Stop kinds.Memory 0)

-- the line that reports why a run stopped; there is none if the report itself failed
abbrev pub stop_line : Stop → List ℕ
stop_line (stops.At kind offset) = last_text (last.Stop kind offset)
stop_line stops.Report = []
