-- What reading a record and its frames gives (this project's profile). Records and frames are lists
-- with the newest at the head.
use Rattle.std.specs.Prelude.{◌≡◌, ◌⊎◌, ℕ, ◌+◌, ◌<◌, Bool, true, false, List, ◌∷◌, ◌++◌, length, map, Option, IfSome}
use Rattle.edge_io.specs.FaultCounts.{Rose}
use Rattle.wire_base.specs.declared.address.Link.{Link}
use Rattle.pcap_file.specs.declared.head.Head.{Head}
use Rattle.pcap_file.specs.Records.{Packet}
use Rattle.pcap_file.specs.Capture.{IsCapture}
use Rattle.capture_input.specs.ReaderState.{is_open_in}
use Rattle.rule_book.specs.Entries.{PlainEntry}
use Rattle.frame_view.specs.Changes.{plain}
use Rattle.run_view.specs.working.FirstJudgment.{judged_by}
use Rattle.run_view.specs.Items.{changes_in, is_only_copy}
use Rattle.run_view.specs.working.SourceContents.{TookFrames}
use Rattle.run_view.specs.RunFiles.{IsNoCapture}
use Rattle.run_view.specs.working.ReaderPositions.{IsBehind, OutputAt}
use Rattle.run_view.specs.StopMeanings.{Says}
use Rattle.run_view.specs.declared.item.Files.{Files}
use Rattle.run_view.specs.declared.item.Frames.{Frames}
use Rattle.run_view.specs.declared.item.Gathered.{Gathered}
use Rattle.run_view.specs.declared.item.Held.{Held}
use Rattle.run_view.specs.declared.judged.Kinds.{Kinds}
use Rattle.run_view.specs.declared.compare.Original.{Original}
use Rattle.run_view.specs.declared.stop.Stop.{Stop}

-- the next frame may be read
pub record MayRead (frames : Frames) : Type 0 where
  pub goes_on : frames.reader.is_open ≡ true

-- the next record and the next frame may be read
pub record IsReady (files : Files) : Type 0 where
  pub goes_on : is_open_in files.input ≡ true
  pub behind : IsBehind files.input
  pub frames : MayRead files.frames

-- these octets and this time are held, and what the first engine said of the record by its entry
pub record Holds (octets : List ℕ) (seconds fraction : ℕ) (entry : PlainEntry) (held : Held) : Type 0 where
  pub octets_are : held.octets.items ≡ octets
  pub seconds_is : held.seconds ≡ seconds
  pub fraction_is : held.fraction ≡ fraction
  pub judged_is : held.judged ≡ judged_by entry

-- what the frames of a line are compared with, over plain values
pub record PlainOriginal : Type 0 where
  pub link : Link
  pub kinds : Kinds
  pub passed : Bool
  pub seconds : ℕ
  pub fraction : ℕ
  pub octets : List ℕ

abbrev pub plain_original : Original → PlainOriginal
plain_original original =
    record {
      link = original.link;
      kinds = original.kinds;
      passed = original.passed;
      seconds = original.seconds;
      fraction = original.fraction;
      octets = original.octets.now;
    }

-- there is one frame, and it is a copy of the record
abbrev pub is_copied : PlainOriginal → (own : List Packet) → Bool
is_copied of own = is_only_copy of.octets of.seconds of.fraction own

-- this is gathered of these frames of a record
pub record IsGathered (of : PlainOriginal) (own : List Packet) (gathered : Gathered) : Type 0 where
  pub changes : map plain gathered.changes.items ≡ changes_in of.link of.kinds of.octets own
  pub unchanged : gathered.unchanged ≡ is_copied of own

-- one more frame of a record was read
pub record FrameAdded (frames : Frames) (all left : Option (List ℕ)) (head : Head) (own older : List Packet) (of : PlainOriginal) (gathered : Gathered) : Type 0
  where
    pub frame : Packet
    pub stands : OutputAt frames.reader head all left (frame ∷ (own ++ older))
    pub gathers : IsGathered of (frame ∷ own) gathered

-- this number of frames of a record was read
pub record FramesRead (frames : Frames) (all left : Option (List ℕ)) (head : Head) (older : List Packet) (of : PlainOriginal) (packets : ℕ)
    (gathered : Gathered) : Type 0 where
  pub own : List Packet
  pub count : length own ≡ packets
  pub stands : OutputAt frames.reader head all left (own ++ older)
  pub gathers : IsGathered of own gathered

-- and the one frame of a record that was passed is a copy of it
pub record RecordRead (frames : Frames) (all left : Option (List ℕ)) (head : Head) (older : List Packet) (of : PlainOriginal) (packets : ℕ)
    (gathered : Gathered) : Type 0 where
  pub read : FramesRead frames all left head older of packets gathered
  pub unchanged : of.passed ≡ true → is_copied of read.own ≡ true

-- the output ends with these frames
abbrev pub EndsWith : (all : Option (List ℕ)) → Head → (behind : List Packet) → Type 0
EndsWith all head behind = IfSome all (λ octets. IsCapture octets head behind)

-- why the next frame was not read
abbrev pub FrameStop : (all : Option (List ℕ)) (head : Head) (behind : List Packet) (before now : ℕ) → Stop → Type 0
FrameStop all head behind before now = Says ⊥ (EndsWith all head behind) ⊥ (IsNoCapture all) (Rose before now) ⊥

-- a frame of a record is missing, after these of its own
pub record OwnMissing (all : Option (List ℕ)) (head : Head) (older : List Packet) (packets : ℕ) : Type 0 where
  pub own : List Packet
  pub fewer : length own < packets
  pub ends : EndsWith all head (own ++ older)

-- why the frames of a record were not read
abbrev pub FramesStop : (all : Option (List ℕ)) (head : Head) (older : List Packet) (packets before now : ℕ) → Stop → Type 0
FramesStop all head older packets before now = Says ⊥ (OwnMissing all head older packets) ⊥ (IsNoCapture all) (Rose before now) ⊥

-- this number of frames of a record that was passed was read, and they are no copy of it
pub record OwnChanged (all : Option (List ℕ)) (head : Head) (older : List Packet) (of : PlainOriginal) (packets : ℕ) : Type 0 where
  pub own : List Packet
  pub left : Option (List ℕ)
  pub count : length own ≡ packets
  pub took : TookFrames all left head (own ++ older)
  pub passed : of.passed ≡ true
  pub changed : is_copied of own ≡ false

-- why the frames of a record were not read, or not accepted
abbrev pub RecordStop : (all : Option (List ℕ)) (head : Head) (older : List Packet) → PlainOriginal → (packets before now : ℕ) → Stop → Type 0
RecordStop all head older of packets before now =
    Says ⊥ (OwnMissing all head older packets ⊎ OwnChanged all head older of packets) ⊥ (IsNoCapture all) (Rose before now) ⊥
