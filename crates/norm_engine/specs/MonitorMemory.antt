-- How much memory a monitor needs (this project's profile): what waits in it is what norm holds for
-- a live era to compare octets that arrive again.
use Rattle.std.specs.Prelude.{◌≡◌, ℕ, ◌+◌, ◌*◌, ◌≤◌, Bool, List, length, pos, Some, Contains, is_some}
use Rattle.std.specs.List.{count_by, range_with_len}
use Rattle.wire_base.specs.declared.address.Link.{Link}
use Rattle.norm_settings.specs.SettingValues.{PlainSettings}
use Rattle.receiver_model.specs.declared.member.Member.{Member}
use Rattle.receiver_model.specs.FamilyAgreement.{IsMember}
use Rattle.receiver_model.specs.Delivery.{DeliversInTime, Receiver}
use Rattle.era_state.specs.Quantities.{acked, base_of}
use Rattle.era_agreement.specs.Agreement.{read_to}
use Rattle.era_agreement.specs.SentPackets.{inward_packets, inward_places, written_in}
use Rattle.tcp_norm.specs.Calls.{Alive, eras}
use Rattle.tcp_norm.specs.HeldOctets.{held_in, kept_at}
use Rattle.norm_engine.specs.Agreement.{sent_in}
use Rattle.norm_engine.specs.Calls.{flow_calls}
use Rattle.norm_engine.specs.Items.{Item}
use Rattle.norm_engine.specs.TraceLaws.{IsSound}

-- A receiver after packets of an era that were written inwards, each in time. It has read up to
-- Acked, or has ended one octet before it.
pub record HasReadAcknowledged (hops : ℕ) (link : Link) (trace : List Item) (era base start : ℕ) (r : Receiver) : Type 0 where
  pub based : base_of (written_in era (sent_in link trace)) ≡ Some base
  pub member : Member
  pub near : IsMember hops member
  pub schedule : List ℕ
  pub stream : List ℕ
  pub ended : Bool
  pub delivers : DeliversInTime (inward_places era base (sent_in link trace)) member.distance base start (inward_packets era (sent_in link trace)) schedule stream ended
  pub last : delivers.delivery.last ≡ r
  pub has_read : acked base (written_in era (sent_in link trace)) ≤ read_to start r.stream r.ended

-- An octet that waits in it at or past the next offset is the first one there, at or past Acked;
-- norm holds it while the era is live.
abbrev pub WaitingIsKept : Type 0
WaitingIsKept =
    (settings : PlainSettings) (link : Link) (trace : List Item) (era base start : ℕ) (r : Receiver) → IsSound settings link trace
    → HasReadAcknowledged settings.hops link trace era base start r
    → (offset octet : ℕ) → start + length r.stream ≤ offset → r.waiting (pos offset) ≡ Some octet → kept_at (written_in era (sent_in link trace)) offset ≡ Some octet

-- So of a live era at most 256 octets wait for each cell that norm holds for it. `IsWithin` says
-- how many these are: together at most `cells`, of one era at most `quota`.
abbrev pub WaitingIsFew : Type 0
WaitingIsFew =
    (settings : PlainSettings) (link : Link) (trace : List Item) (a : Alive) (base start : ℕ) (r : Receiver) → IsSound settings link trace
    → Contains (eras (flow_calls settings link trace)) a
    → HasReadAcknowledged settings.hops link trace a.number base start r
    → (len : ℕ) → count_by (λ n. is_some (r.waiting (pos n))) (range_with_len (start + length r.stream) len) ≤ 256 * held_in (flow_calls settings link trace) a
