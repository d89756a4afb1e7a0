-- The effect of opening an input, and of reading its next record, on the known octets of a source
-- (this project's profile). None means that the octets are not known; then nothing is claimed of
-- them.
use Rattle.std.specs.Prelude.{◌≡◌, ◌⊎◌, ℕ, ◌<◌, ◌^◌, true, false, Bool, List, [], ◌∷◌, length, drop, Option, Some, None, Result, Ok, Err}
use Rattle.edge_io.specs.KnownOctets.{TakesFewer}
use Rattle.pcap_file.specs.declared.head.Head.{Head}
use Rattle.pcap_file.specs.declared.record.Record.{Record}
use Rattle.pcap_file.specs.declared.reader.RecordFault.{RecordFault}
use Rattle.pcap_file.specs.FileHead.{head_of}
use Rattle.pcap_file.specs.RecordReading.{shown, FailsWith}
use Rattle.pcapng_file.specs.declared.fault.NgFault.{NgFault}
use Rattle.pcapng_file.specs.SectionState.{no_section}
use Rattle.pcapng_file.specs.Blocks.{Step}
use Rattle.pcapng_file.specs.Sections.{behind}
use Rattle.pcapng_file.specs.RecordReading as sections
use Rattle.capture_input.specs.declared.fault.InputFault.{InputFault}
use Rattle.capture_input.specs.declared.fault.InputFault.TheVariants as faults
use Rattle.capture_input.specs.declared.fault.OpenFault.{OpenFault}
use Rattle.capture_input.specs.declared.input.Input.{Input}
use Rattle.capture_input.specs.Faults.{of_record, of_block}
use Rattle.capture_input.specs.Inputs.{Walk, records, blocks, is_sections, classic_head, packets_in, place_behind, newest_place, EndsAtNewest, Took, TakenWhole}
use Rattle.capture_input.specs.ReaderState.{head_in, asked_in, is_open_in, Behind}

-- if the source has known octets, they are of this kind
abbrev pub IsKind : (sections : Bool) → Option (List ℕ) → Type 0
IsKind sections None = Unit {0}
IsKind sections (Some octets) = is_sections octets ≡ sections

-- the octets left have no accepted classic head but this fault, and the first 24 of them were
-- taken, or all if there are fewer
abbrev pub IsRefused : (inside old new : Option (List ℕ)) → InputFault → Type 0
IsRefused inside None new fault = Unit {0}
IsRefused inside (Some xs) None fault = ⊥
IsRefused inside (Some xs) (Some ys) fault = (classic_head inside (head_of xs) ≡ Err fault) × (ys ≡ drop 24 xs)

-- the fault of a classic head; if the source fails, fewer than 24 octets were taken
abbrev pub StopsClassic : (inside old new : Option (List ℕ)) → InputFault → Type 0
StopsClassic inside old new faults.ReadFault = TakesFewer old new 24
StopsClassic inside old new fault = IsRefused inside old new fault

-- The head of a classic file, at offset 0, has this fault, or the source failed in it.
pub record StopsInClassicHead (inside old new : Option (List ℕ)) (fault : InputFault) (offset : ℕ) : Type 0 where
  pub kind : IsKind false old
  pub stops : StopsClassic inside old new fault
  pub place : offset ≡ 0

-- A block of a pcapng file, at this offset, has this fault, or the source failed in it; no
-- interface is before it, and all blocks before it were taken.
pub record StopsBeforeInterface (inside old new : Option (List ℕ)) (fault : InputFault) (offset : ℕ) : Type 0 where
  pub kind : IsKind true old
  pub flaw : NgFault
  pub stops : sections.FailsAhead inside old new flaw offset
  pub is : fault ≡ of_block flaw

-- The head could not be read: the fault, the offset of the head or block that has it, and the
-- octets taken.
abbrev pub StopsInHead : (inside old new : Option (List ℕ)) → InputFault → (offset : ℕ) → Type 0
StopsInHead inside old new fault offset = StopsInClassicHead inside old new fault offset ⊎ StopsBeforeInterface inside old new fault offset

-- The octets of the head were taken, and none after them; they have no record.
pub record OpensAt (inside old new : Option (List ℕ)) (input : Input) : Type 0 where
  pub walk : Walk
  pub took : Took inside old new (head_in input) walk
  pub silent : packets_in walk ≡ []
  pub ends : EndsAtNewest walk
  pub behind : Behind input inside walk
  pub looked : asked_in input ≡ newest_place walk
  pub goes_on : is_open_in input ≡ true

-- the head was read, or this is its fault
abbrev pub Opens : (inside old new : Option (List ℕ)) → Result Input OpenFault → Type 0
Opens inside old new (Ok input) = OpensAt inside old new input
Opens inside old new (Err stop) = StopsInHead inside old new stop.fault stop.offset

-- If the octets `before` are left after the entries `walk` of the source's octets, the octets
-- `after` are left after the entries `farther`.
abbrev pub Continues : (inside : Option (List ℕ)) → Head → (walk farther : Walk) → (before after : Option (List ℕ)) → Type 0
Continues inside head walk farther before after = (all : Option (List ℕ)) → Took inside all before head walk → Took inside all after head farther

-- After the entries read one more record was taken, and nothing after it; its offset is that of its
-- record or block.
pub record GivesPacket (old new : Input) (inside : Option (List ℕ)) (walk : Walk) (before after : Option (List ℕ)) (given : Record) : Type 0 where
  pub farther : Walk
  pub behind : Behind new inside farther
  pub head : head_in new ≡ head_in old
  pub continues : Continues inside (head_in old) walk farther before after
  pub packets : packets_in farther ≡ shown given ∷ packets_in walk
  pub ends : EndsAtNewest farther
  pub few : length (packets_in farther) < 2 ^ 32
  pub place : given.offset ≡ newest_place farther
  pub looked : asked_in new ≡ newest_place farther
  pub goes_on : is_open_in new ≡ true

-- After the entries read no record was left, and all octets were taken.
pub record ReachesEnd (old new : Input) (inside : Option (List ℕ)) (walk : Walk) (before after : Option (List ℕ)) : Type 0 where
  pub farther : Walk
  pub silent : packets_in farther ≡ packets_in walk
  pub continues : Continues inside (head_in old) walk farther before after
  pub whole : TakenWhole before after
  pub place : asked_in new ≡ place_behind farther
  pub closed : is_open_in new ≡ false

-- of a classic file: the fault of a record, and the octets taken of it
pub record StopsAtRecord (head : Head) (count : ℕ) (between after : Option (List ℕ)) (fault : InputFault) : Type 0 where
  pub cause : RecordFault
  pub stops : FailsWith head.order count between after cause
  pub is : fault ≡ of_record cause

-- of a pcapng file: the fault of a block, and the octets taken of it
pub record StopsAtBlock (inside : Option (List ℕ)) (steps : List Step) (between after : Option (List ℕ)) (fault : InputFault) : Type 0 where
  pub cause : NgFault
  pub stops : sections.Stops inside (behind no_section steps) between after cause
  pub is : fault ≡ of_block cause

-- The record or block after the entries read has this fault, or the source failed in it, and at
-- most its octets were taken.
abbrev pub StopsAt : (inside : Option (List ℕ)) → Head → Walk → (between after : Option (List ℕ)) → InputFault → Type 0
StopsAt inside head (records packets) between after fault = StopsAtRecord head (length packets) between after fault
StopsAt inside head (blocks steps) between after fault = StopsAtBlock inside steps between after fault

-- After the entries read and blocks without a record there is this fault, at the offset of its
-- record or block.
pub record StopsBehind (old new : Input) (inside : Option (List ℕ)) (walk : Walk) (before after : Option (List ℕ)) (fault : InputFault) : Type 0 where
  pub farther : Walk
  pub between : Option (List ℕ)
  pub silent : packets_in farther ≡ packets_in walk
  pub continues : Continues inside (head_in old) walk farther before between
  pub why : StopsAt inside (head_in old) farther between after fault
  pub place : asked_in new ≡ place_behind farther
  pub closed : is_open_in new ≡ false

-- the next record was read, or the end was reached, or this is the fault
abbrev pub Reads : (old new : Input) → (inside : Option (List ℕ)) → Walk → (before after : Option (List ℕ)) → Result (Option Record) InputFault → Type 0
Reads old new inside walk before after (Ok None) = ReachesEnd old new inside walk before after
Reads old new inside walk before after (Ok (Some given)) = GivesPacket old new inside walk before after given
Reads old new inside walk before after (Err fault) = StopsBehind old new inside walk before after fault
