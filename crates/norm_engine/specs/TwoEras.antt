-- Two eras of a lawful trace; the second goes on where the first ended (this project's profile).
-- The definitions are of any two eras; they are meant for two of one four-tuple, whose second began
-- without a SYN after the first had ended by `idle` or `evicted`.
use Rattle.std.specs.Prelude.{◌≡◌, ℕ, ◌≤◌, Bool, List, Some}
use Rattle.wire_base.specs.declared.address.Link.{Link}
use Rattle.norm_settings.specs.SettingValues.{PlainSettings}
use Rattle.receiver_model.specs.declared.member.Member.{Member}
use Rattle.receiver_model.specs.FamilyAgreement.{IsMember}
use Rattle.receiver_model.specs.Delivery.{DeliversInTime}
use Rattle.era_state.specs.Quantities.{acked, base_of}
use Rattle.era_agreement.specs.Agreement.{read_to}
use Rattle.era_agreement.specs.SentPackets.{inward_packets, inward_places, written_in}
use Rattle.era_agreement.specs.TwoEras.{AreReadAsOne, GoesOn, GoesOnPast, IsAcknowledged, IsNotReadAgain}
use Rattle.norm_engine.specs.Items.{Item}
use Rattle.norm_engine.specs.Agreement.{sent_in}
use Rattle.norm_engine.specs.TraceLaws.{IsSound}

-- Two eras of a trace; all that was written inwards in the first is acknowledged, and the base of
-- the second is not before that. Then no octet of the second is at an offset that a receiver has
-- read in the first. If besides no FIN was written inwards in the first and no SYN in the second,
-- the packets of both are read as those of one era.
pub record ErasGoOn (hops : ℕ) (link : Link) (trace : List Item) : Type 0 where
  pub again :
      (era later base next shift : ℕ) → GoesOnPast era later base next shift (sent_in link trace)
      → IsNotReadAgain hops era later base next shift (sent_in link trace)
  pub one :
      (era later base next shift : ℕ) → GoesOn era later base next shift (sent_in link trace) → AreReadAsOne hops era later base next shift (sent_in link trace)
  -- if all of an era is acknowledged, a receiver that has read so far, or past it, has read exactly
  -- so far
  pub acknowledged :
      (era base : ℕ) (member : Member) (start : ℕ) (schedule stream : List ℕ) (ended : Bool) → let ws = written_in era (sent_in link trace) in
      base_of ws ≡ Some base → IsAcknowledged base ws → IsMember hops member
      → DeliversInTime (inward_places era base (sent_in link trace)) member.distance base start (inward_packets era (sent_in link trace)) schedule stream ended
      → start ≤ acked base ws → acked base ws ≤ read_to start stream ended → read_to start stream ended ≡ acked base ws

-- this holds for each lawful trace of records of octets with at most 254 routers
abbrev pub LawfulErasGoOn : Type 0
LawfulErasGoOn = (settings : PlainSettings) (link : Link) (trace : List Item) → IsSound settings link trace → ErasGoOn settings.hops link trace
