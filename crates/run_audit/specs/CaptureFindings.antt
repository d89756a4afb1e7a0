-- What an audit finds in the octets of a capture (this project's profile). Records are a list,
-- newest first.
use Rattle.std.specs.Prelude.{◌≡◌, ◌⊎◌, ℕ, ◌≤◌, List, [], length, drop, map, Option, option_map, Ok, Err}
use Rattle.pcap_file.specs.declared.head.Head.{Head}
use Rattle.pcap_file.specs.Flaws as found
use Rattle.pcap_file.specs.FileHead.{head_of}
use Rattle.pcap_file.specs.Records.{Packet, front_of}
use Rattle.pcap_file.specs.Capture.{ReadsTo, offset_of}
use Rattle.rule_book.specs.Entries.{PlainEntry}
use Rattle.run_audit.specs.declared.answer.Reason.{Reason}
use Rattle.run_audit.specs.OwnedFrames.{owners, owned}
use Rattle.run_audit.specs.FirstFault.{AreFaultless, FirstFault, NoFault}

-- the octets of the frames
abbrev pub frames_of : List Packet → List (List ℕ)
frames_of packets = map (λ (p : Packet). p.octets) packets

-- After the head there are this number of frames and nothing else; they are those of the report,
-- and none has a fault.
pub record SoundFrames (hops : ℕ) (head : Head) (entries : List PlainEntry) (all : List ℕ) (frames : ℕ) : Type 0 where
  pub packets : List Packet
  pub reads : ReadsTo head.order all packets []
  pub none : NoFault hops head.link entries (frames_of packets)
  pub count : frames ≡ length packets

-- After the head this is the first fault: of a frame that is read, or of one that is missing at the
-- end of the capture.
pub record FaultyFrame (hops : ℕ) (head : Head) (entries : List PlainEntry) (all : List ℕ) (number : ℕ) (reason : Reason) : Type 0 where
  pub packets : List Packet
  pub left : List ℕ
  pub reads : ReadsTo head.order all packets left
  pub next : Option (Packet × List ℕ)
  pub stands : front_of head.order (length packets) left ≡ Ok next
  pub first : FirstFault hops head.link entries (frames_of packets) (option_map (λ (n : Packet × List ℕ). n.0.octets) next) number reason

-- After the head the capture has this flaw at this offset, and each frame before it belongs to an
-- entry and has no fault.
pub record FlawedFrame (hops : ℕ) (head : Head) (entries : List PlainEntry) (all : List ℕ) (flaw : found.Flaw) (offset : ℕ) : Type 0 where
  pub packets : List Packet
  pub left : List ℕ
  pub reads : ReadsTo head.order all packets left
  pub stands : front_of head.order (length packets) left ≡ Err flaw
  pub place : offset ≡ offset_of packets
  pub each_owned : length packets ≤ length (owners entries)
  pub faultless : AreFaultless hops (owned head.link (owners entries) (frames_of packets))

-- the capture has a head and after it this number of frames, which are those of the report and have
-- no fault
pub record IsSound (hops : ℕ) (entries : List PlainEntry) (capture : List ℕ) (frames : ℕ) : Type 0 where
  pub head : Head
  pub accepted : head_of capture ≡ Ok head
  pub behind : SoundFrames hops head entries (drop 24 capture) frames

-- the capture has a head, and after it this is the first fault
pub record IsFaulty (hops : ℕ) (entries : List PlainEntry) (capture : List ℕ) (number : ℕ) (reason : Reason) : Type 0 where
  pub head : Head
  pub accepted : head_of capture ≡ Ok head
  pub behind : FaultyFrame hops head entries (drop 24 capture) number reason

-- the capture has a head, and after it this flaw at this offset
pub record IsFlawedBehind (hops : ℕ) (entries : List PlainEntry) (capture : List ℕ) (flaw : found.Flaw) (offset : ℕ) : Type 0 where
  pub head : Head
  pub accepted : head_of capture ≡ Ok head
  pub behind : FlawedFrame hops head entries (drop 24 capture) flaw offset

-- the capture has this flaw at this offset, in its head or after it
abbrev pub IsFlawed : (hops : ℕ) → List PlainEntry → (capture : List ℕ) → found.Flaw → (offset : ℕ) → Type 0
IsFlawed hops entries capture flaw offset = ((head_of capture ≡ Err flaw) × (offset ≡ 0)) ⊎ IsFlawedBehind hops entries capture flaw offset
