-- Emitted segments make receivers agree.
use Rattle.std.specs.Prelude.{◌≡◌, ℕ, ◌≤◌, Bool, List, [], All, ℤ, Some, None}
use Rattle.wire_base.specs.Plain.{Plain}
use Rattle.era_state.specs.Quantities.{acked, base_of, first, end_of}
use Rattle.era_state.specs.Emission.{AreEmitted}
use Rattle.receiver_model.specs.FamilyAgreement.{OctetAt, FinAt, TellOneStream}
use Rattle.receiver_model.specs.Monitors.{CoversEach, StayNearAcks}
use Rattle.receiver_model.specs.StreamParts.{AreOfStream}
use Rattle.era_agreement.specs.SentPackets.{Sent, inward_packets, aside_packets, written_in, inward_places, inward_acks}
use Rattle.era_agreement.specs.Agreement.{IsSilentPacket, Agree, AcknowledgeWhatIsRead, MissesNothing, ReadsOneStream, read_to}

-- all inward packets of an era are plain, all of its segments are emitted, and the inward packets
-- other than its segments (probes) have no octet, SYN or FIN
pub record IsEmittedEra (hops era : ℕ) (sent : List Sent) : Type 0 where
  pub plain : All (λ p. Plain hops p) (inward_packets era sent)
  pub emitted : AreEmitted [] (written_in era sent)
  pub silent : All IsSilentPacket (aside_packets era sent)

-- with their places the packets describe one stream: at each offset the octet that was written
-- first there, and the end, as in the era's segments
pub record TellsItsStream (hops era base : ℕ) (sent : List Sent) : Type 0 where
  pub stream : TellOneStream hops base (inward_places era base sent) (inward_packets era sent)
  pub octets : (offset : ℤ) (octet : ℕ) → OctetAt (inward_places era base sent) (inward_packets era sent) offset octet → first base (written_in era sent) offset ≡ Some octet
  pub fins : (offset : ℤ) → FinAt (inward_places era base sent) (inward_packets era sent) offset → end_of base (written_in era sent) ≡ Some offset

-- this holds if a base is fixed
abbrev pub EmittedTellsOneStream : Type 0
EmittedTellsOneStream =
    (hops era base : ℕ) (sent : List Sent) → IsEmittedEra hops era sent → base_of (written_in era sent) ≡ Some base → TellsItsStream hops era base sent

-- otherwise they have no octet, SYN or FIN
abbrev pub EmittedIsSilent : Type 0
EmittedIsSilent =
    (hops era : ℕ) (sent : List Sent) → IsEmittedEra hops era sent → base_of (written_in era sent) ≡ None → All IsSilentPacket (inward_packets era sent)

-- if this holds for each era, all receivers agree
abbrev pub EmittedAgrees : Type 0
EmittedAgrees = (hops : ℕ) (sent : List Sent) → ((era : ℕ) → IsEmittedEra hops era sent) → Agree hops sent

-- If a base is fixed, the inward packets are of this stream: their octets and FINs are those
-- written first in the era, and no octet is at or past its end.
abbrev pub EmittedIsOfOneStream : Type 0
EmittedIsOfOneStream =
    (hops era base : ℕ) (sent : List Sent) → IsEmittedEra hops era sent → let ws = written_in era sent in
    base_of ws ≡ Some base → AreOfStream (first base ws) (end_of base ws) (inward_places era base sent) (inward_packets era sent)

-- and every receiver reads a part of it
abbrev pub EmittedReadsOneStream : Type 0
EmittedReadsOneStream = (hops : ℕ) (sent : List Sent) → ((era : ℕ) → IsEmittedEra hops era sent) → ReadsOneStream hops sent

-- The inward packets of an era whose base is fixed stay near what was acknowledged: Acked before
-- the record of each.
abbrev pub EmittedStaysNearAcks : Type 0
EmittedStaysNearAcks =
    (hops era base : ℕ) (sent : List Sent) → IsEmittedEra hops era sent → base_of (written_in era sent) ≡ Some base
    → StayNearAcks (inward_acks era base sent) (inward_places era base sent) (inward_packets era sent)

-- and a monitor misses nothing
abbrev pub EmittedMissesNothing : Type 0
EmittedMissesNothing = (hops : ℕ) (sent : List Sent) → ((era : ℕ) → IsEmittedEra hops era sent) → MissesNothing hops sent

-- A monitor is never behind an acknowledgment, if acknowledgments are those of receivers: it has
-- read as far as Acked, or has ended one before.
abbrev pub AcknowledgmentsAreBehind : Type 0
AcknowledgmentsAreBehind =
    (hops era base start : ℕ) (sent : List Sent) (seen : List ℕ) (ended : Bool)
    → CoversEach hops base (inward_places era base sent) (inward_packets era sent) start seen ended
    → AcknowledgeWhatIsRead hops era base start sent
    → acked base (written_in era sent) ≤ read_to start seen ended
