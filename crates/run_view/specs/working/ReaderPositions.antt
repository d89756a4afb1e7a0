-- The positions of the readers of the input and of the output (this project's profile). Records and
-- frames are lists with the newest at the head. `all` is what a source had left at first, and
-- `left` what it has left now, where these are known.
use Rattle.std.specs.Prelude.{◌≡◌, ◌⊎◌, ℕ, true, List, [], ◌∷◌, length, Option, Some, None, IfSome}
use Rattle.edge_io.specs.FaultCounts.{Rose}
use Rattle.wire_base.specs.declared.address.Link.{Link}
use Rattle.pcap_file.specs.declared.head.Head.{Head}
use Rattle.pcap_file.specs.declared.record.Record.{Record}
use Rattle.pcap_file.specs.Records.{Packet}
use Rattle.pcap_file.specs.Capture.{IsCapture, offset_of}
use Rattle.pcap_file.specs.ReaderState.{Reading}
use Rattle.pcap_file.specs.RecordReading.{shown}
use Rattle.capture_input.specs.declared.input.Input.{Input}
use Rattle.capture_input.specs.Inputs.{Walk, packets_in, Took, TookAll}
use Rattle.capture_input.specs.ReaderState.{Behind, head_in, is_open_in}
use Rattle.run_view.specs.working.SourceContents.{TookFrames}
use Rattle.run_view.specs.RunFiles.{IsNoCapture, IsNoInput, IsOfOtherLink}
use Rattle.run_view.specs.StopMeanings.{Says}
use Rattle.run_view.specs.declared.stop.Stop.{Stop}

-- exactly these records were read of the input
pub record InputAt (input : Input) (head : Head) (all left : Option (List ℕ)) (packets : List Packet) : Type 0 where
  pub walk : Walk
  pub took : Took None all left head walk
  pub packets_are : packets_in walk ≡ packets
  pub behind : Behind input None walk
  pub head_is : head_in input ≡ head

-- some records were read of the input
pub record IsBehind (input : Input) : Type 0 where
  pub walk : Walk
  pub behind : Behind input None walk

-- the input was opened, and no record of it was read
pub record InputOpened (input : Input) (all left : Option (List ℕ)) : Type 0 where
  pub goes_on : is_open_in input ≡ true
  pub stands : InputAt input (head_in input) all left []

-- why no head and no record was read of the input
abbrev pub InputStop : (all : Option (List ℕ)) → (before now : ℕ) → Stop → Type 0
InputStop all before now = Says ⊥ ⊥ (IsNoInput all) ⊥ (Rose before now) ⊥

-- the next record was read of the input, or it is a capture of those before
abbrev pub InputReads : (input : Input) (head : Head) (all left : Option (List ℕ)) (packets : List Packet) → Option Record → Type 0
InputReads input head all left packets None = TookAll None all head packets
InputReads input head all left packets (Some given) = InputAt input head all left (shown given ∷ packets)

-- exactly these frames were read of the output
pub record OutputAt (reader : Reading) (head : Head) (all left : Option (List ℕ)) (frames : List Packet) : Type 0 where
  pub took : TookFrames all left head frames
  pub given_is : reader.given ≡ length frames
  pub place_is : reader.place ≡ offset_of frames
  pub head_is : reader.head ≡ head

-- why the head of the output was not read, or not taken where the input has this link
abbrev pub OutputHeadStop : (link : Link) → (all : Option (List ℕ)) → (before now : ℕ) → Stop → Type 0
OutputHeadStop link all before now = Says ⊥ ⊥ ⊥ (IsNoCapture all ⊎ IsOfOtherLink link all) (Rose before now) ⊥

-- why no frame was read of the output
abbrev pub OutputStop : (all : Option (List ℕ)) → (before now : ℕ) → Stop → Type 0
OutputStop all before now = Says ⊥ ⊥ ⊥ (IsNoCapture all) (Rose before now) ⊥

-- the next frame was read of the output, or it is a capture of those before
abbrev pub OutputReads : (reader : Reading) (head : Head) (all left : Option (List ℕ)) (frames : List Packet) → Option Record → Type 0
OutputReads reader head all left frames None = IfSome all (λ octets. IsCapture octets head frames)
OutputReads reader head all left frames (Some given) = OutputAt reader head all left (shown given ∷ frames)
