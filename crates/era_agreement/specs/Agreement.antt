-- Agreement of receivers on what was sent inwards in each era (this project's profile).
use Rattle.std.specs.Prelude.{◌≡◌, ◌⊎◌, ℕ, ◌+◌, ◌≤◌, Bool, false, if◌then◌else◌, List, [], ◌∷◌, length, All, ℤ, Option, Some, None}
use Rattle.wire_base.specs.Segments.{Segment, segment_of}
use Rattle.wire_base.specs.Tcp as tcp
use Rattle.receiver_model.specs.declared.member.Member.{Member}
use Rattle.receiver_model.specs.FamilyAgreement.{EraAgrees, IsMember}
use Rattle.receiver_model.specs.Delivery.{DeliversInTime}
use Rattle.receiver_model.specs.Monitors as monitors
use Rattle.receiver_model.specs.StreamParts.{EachReadsPart}
use Rattle.era_state.specs.Quantities.{acked, base_of, end_of, first}
use Rattle.era_agreement.specs.SentPackets.{Sent, inward_packets, written_in, inward_places}

-- the packet has no octet, no SYN and no FIN for a stream
abbrev pub IsSilentPacket : List ℕ → Type 0
IsSilentPacket p = (s : Segment) → segment_of p ≡ Some s → (s.octets ≡ []) × (tcp.has_syn s.flags ≡ false) × (tcp.has_fin s.flags ≡ false)

-- if an era's base is fixed, any two receivers agree on the packets sent inwards, whose offsets are
-- `places`; otherwise these have no octet, no SYN and no FIN
abbrev pub EraIsSound : (hops : ℕ) → Option ℕ → (places : ℕ → List ℤ) → List (List ℕ) → Type 0
EraIsSound hops (Some base) places packets = EraAgrees hops base (places base) packets
EraIsSound hops None places packets = All IsSilentPacket packets

-- Each era is sound: with the base that its written segments fix, if any, and the offsets, counted
-- from that base, of the packets sent inwards.
abbrev pub Agree : (hops : ℕ) → List Sent → Type 0
Agree hops sent = (era : ℕ) → EraIsSound hops (base_of (written_in era sent)) (λ base. inward_places era base sent) (inward_packets era sent)

-- In each era whose base is fixed, every receiver, from whichever offset it starts, reads a part of
-- one stream of the packets sent inwards. The stream has at each offset the octet that was written
-- first there, up to the offset of the first FIN, if there is one.
abbrev pub ReadsOneStream : (hops : ℕ) → List Sent → Type 0
ReadsOneStream hops sent =
    (era base : ℕ) → let ws = written_in era sent in
    base_of ws ≡ Some base → EachReadsPart hops base (inward_places era base sent) (inward_packets era sent) (first base ws) (end_of base ws)

-- In each era whose base is fixed, a monitor misses nothing of the packets sent inwards. In an era
-- without a base there is nothing to miss: each is silent.
abbrev pub MissesNothing : (hops : ℕ) → List Sent → Type 0
MissesNothing hops sent =
    (era base : ℕ) → base_of (written_in era sent) ≡ Some base → monitors.EraMissesNothing hops base (inward_places era base sent) (inward_packets era sent)

-- the same of a monitor that hears the packets in time, whatever was acknowledged before each
abbrev pub MissesNothingInTime : (hops : ℕ) → List Sent → Type 0
MissesNothingInTime hops sent =
    (era base : ℕ) → base_of (written_in era sent) ≡ Some base → monitors.MissesNothingInTime hops base (inward_places era base sent) (inward_packets era sent)

-- the offset after what a receiver has read, and after its end
abbrev pub read_to : (start : ℕ) (stream : List ℕ) (ended : Bool) → ℕ
read_to start stream ended = start + length stream + (if ended then 1 else 0)

-- some member that started at this offset has read so far from packets sent inwards in the era,
-- each of which reached it in time
pub record SomeHasRead (hops era base start : ℕ) (sent : List Sent) (offset : ℕ) : Type 0 where
  pub member : Member
  pub schedule : List ℕ
  pub stream : List ℕ
  pub ended : Bool
  pub near : IsMember hops member
  pub delivers : DeliversInTime (inward_places era base sent) member.distance base start (inward_packets era sent) schedule stream ended
  pub reads : offset ≤ read_to start stream ended

-- Acknowledgments are those of receivers: what was sent for a record raises Acked only to an offset
-- up to which some member has read of what was sent before.
abbrev pub AcknowledgeWhatIsRead : (hops era base start : ℕ) → List Sent → Type 0
AcknowledgeWhatIsRead hops era base start [] = Unit {0}
AcknowledgeWhatIsRead hops era base start (s ∷ older) =
    AcknowledgeWhatIsRead hops era base start older
    × ((acked base (written_in era (s ∷ older)) ≡ acked base (written_in era older))
    ⊎ SomeHasRead hops era base start older (acked base (written_in era (s ∷ older))))
