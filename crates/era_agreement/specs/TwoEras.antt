-- Two eras; the second goes on where the first ended (this project's profile). The definitions are
-- of any two eras; they are meant for two of one four-tuple, whose second began without a SYN after
-- the first had ended by `idle` or `evicted`. Each era is counted from its own base; `shift` is the
-- offset of the second's base on the line of the first, which may be more than 2^32.
use Rattle.std.specs.Prelude.{◌≡◌, ℕ, ◌+◌, ◌≤◌, Bool, true, false, List, length, ◌++◌, map, All, ℤ, pos, ◌+ℤ◌, ◌-ℤ◌, ◌<ℤ◌, Option, Some, None, option_map, slice_get}
use Rattle.std.specs.Option.{option_or}
use Rattle.wire_base.specs.Segments.{Segment, Written, segment_of}
use Rattle.wire_base.specs.Tcp as tcp
use Rattle.receiver_model.specs.declared.member.Member.{Member}
use Rattle.receiver_model.specs.FamilyAgreement.{EraAgrees, IsMember, OctetAt}
use Rattle.receiver_model.specs.Delivery.{DeliversInTime}
use Rattle.receiver_model.specs.Monitors.{MissesNothingInTime}
use Rattle.receiver_model.specs.StreamParts.{EachReadsPart}
use Rattle.era_state.specs.Offsets.{off}
use Rattle.era_state.specs.Quantities.{acked, base_of, end_of, first, top}
use Rattle.era_agreement.specs.SentPackets.{Sent, inward_packets, inward_places, written_in}
use Rattle.era_agreement.specs.Agreement.{read_to}
use Rattle.era_agreement.specs.AgreementLaws.{IsEmittedEra}

-- all octets that were written inwards are acknowledged, and so is the FIN, if there is one
pub record IsAcknowledged (base : ℕ) (ws : List Written) : Type 0 where
  pub octets : top base ws ≤ acked base ws
  pub fin : (offset : ℤ) → end_of base ws ≡ Some offset → offset <ℤ pos (acked base ws)

-- Both eras have a base, and all of the first is acknowledged. The base of the second is at `shift`
-- on the line of the first: of the offsets that its number represents the one nearest to what was
-- acknowledged in the first. It is not before that.
pub record GoesOnPast (era later base next shift : ℕ) (sent : List Sent) : Type 0 where
  pub based : base_of (written_in era sent) ≡ Some base
  pub based_later : base_of (written_in later sent) ≡ Some next
  pub acknowledged : IsAcknowledged base (written_in era sent)
  pub shift_is : pos shift ≡ off base (acked base (written_in era sent)) next
  pub past : acked base (written_in era sent) ≤ shift

-- the offset of the second era on the line of the first
abbrev pub shifted : (shift : ℕ) → ℤ → ℤ
shifted shift offset = offset +ℤ pos shift

-- Each octet that was written inwards in the second era is, on the line of the first, after every
-- offset that this receiver of the first has read, and after the offset of its end.
pub record IsBehind (later next start shift : ℕ) (stream : List ℕ) (ended : Bool) (sent : List Sent) : Type 0 where
  pub octets :
      (index read : ℕ) → slice_get stream index ≡ Some read → (offset : ℤ) (octet : ℕ)
      → OctetAt (inward_places later next sent) (inward_packets later sent) offset octet → pos (start + index) <ℤ shifted shift offset
  pub end :
      ended ≡ true → (offset : ℤ) (octet : ℕ) → OctetAt (inward_places later next sent) (inward_packets later sent) offset octet
      → pos (start + length stream) <ℤ shifted shift offset

-- this holds for each receiver of the first era, from whichever offset it starts, whichever of its
-- packets reach it in time, how often and in which order
abbrev pub IsNotReadAgain : (hops era later base next shift : ℕ) → List Sent → Type 0
IsNotReadAgain hops era later base next shift sent =
    (member : Member) (start : ℕ) (schedule stream : List ℕ) (ended : Bool) → IsMember hops member
    → DeliversInTime (inward_places era base sent) member.distance base start (inward_packets era sent) schedule stream ended
    → IsBehind later next start shift stream ended sent

-- the packet has no SYN
abbrev pub HasNoSyn : List ℕ → Type 0
HasNoSyn p = (s : Segment) → segment_of p ≡ Some s → tcp.has_syn s.flags ≡ false

-- besides, no FIN was written inwards in the first era, and no SYN in the second
pub record GoesOn (era later base next shift : ℕ) (sent : List Sent) : Type 0 where
  pub past : GoesOnPast era later base next shift sent
  pub no_fin : end_of base (written_in era sent) ≡ None
  pub no_syn : All HasNoSyn (inward_packets later sent)

-- the packets of both eras that went inwards, and their offsets on the line of the first
abbrev pub packets_of_both : (era later : ℕ) → List Sent → List (List ℕ)
packets_of_both era later sent = inward_packets era sent ++ inward_packets later sent

abbrev pub places_of_both : (era later base next shift : ℕ) → List Sent → List ℤ
places_of_both era later base next shift sent = inward_places era base sent ++ map (shifted shift) (inward_places later next sent)

-- the octet at an offset of two streams on one line: that of the first, or else that of the second
abbrev pub octet_of_both : (shift : ℕ) (one two : ℤ → Option ℕ) → ℤ → Option ℕ
octet_of_both shift one two offset = option_or (one offset) (two (offset -ℤ pos shift))

-- their end: that of the second
abbrev pub end_of_both : (shift : ℕ) → Option ℤ → Option ℤ
end_of_both shift end = option_map (shifted shift) end

-- The packets of both eras are read as those of one. Any two receivers agree on them, each reads a
-- part of one stream, and a monitor that hears them in time misses nothing. It does not matter
-- which of them reach each receiver in time on this line, how often and in which order.
pub record AreReadAsOne (hops era later base next shift : ℕ) (sent : List Sent) : Type 0 where
  pub agree : EraAgrees hops base (places_of_both era later base next shift sent) (packets_of_both era later sent)
  pub reads :
      EachReadsPart hops base (places_of_both era later base next shift sent) (packets_of_both era later sent)
      (octet_of_both shift (first base (written_in era sent)) (first next (written_in later sent))) (end_of_both shift (end_of next (written_in later sent)))
  pub monitor : MissesNothingInTime hops base (places_of_both era later base next shift sent) (packets_of_both era later sent)

-- if the second era goes on where the first ended, nothing is read again
abbrev pub EmittedIsNotReadAgain : Type 0
EmittedIsNotReadAgain =
    (hops era later base next shift : ℕ) (sent : List Sent) → IsEmittedEra hops era sent → IsEmittedEra hops later sent
    → GoesOnPast era later base next shift sent → IsNotReadAgain hops era later base next shift sent

-- if besides no FIN was written inwards in the first and no SYN in the second, both are read as one
abbrev pub EmittedErasAreReadAsOne : Type 0
EmittedErasAreReadAsOne =
    (hops era later base next shift : ℕ) (sent : List Sent) → IsEmittedEra hops era sent → IsEmittedEra hops later sent
    → GoesOn era later base next shift sent → AreReadAsOne hops era later base next shift sent

-- Of an era in which all is acknowledged: a receiver that has read up to what was acknowledged, or
-- past it, has read exactly up to there. So any two such receivers go on at the same offset.
abbrev pub EmittedIsReadToAcked : Type 0
EmittedIsReadToAcked =
    (hops era base : ℕ) (sent : List Sent) (member : Member) (start : ℕ) (schedule stream : List ℕ) (ended : Bool)
    → IsEmittedEra hops era sent → let a = acked base (written_in era sent) in
    base_of (written_in era sent) ≡ Some base → IsAcknowledged base (written_in era sent) → IsMember hops member
    → DeliversInTime (inward_places era base sent) member.distance base start (inward_packets era sent) schedule stream ended
    → start ≤ a → a ≤ read_to start stream ended → read_to start stream ended ≡ a
