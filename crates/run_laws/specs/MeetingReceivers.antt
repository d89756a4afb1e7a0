-- Any two receivers of what a finished run wrote inwards, each from its own offset (this project's
-- profile).
use Rattle.std.specs.Prelude.{◌≡◌, ℕ, Bool, List, ℤ, Option, Some}
use Rattle.wire_base.specs.declared.address.Link.{Link}
use Rattle.norm_settings.specs.SettingValues.{PlainSettings}
use Rattle.receiver_model.specs.declared.member.Member.{Member}
use Rattle.receiver_model.specs.FamilyAgreement.{IsMember}
use Rattle.receiver_model.specs.Delivery.{DeliversInTime}
use Rattle.receiver_model.specs.StreamParts.{Meet}
use Rattle.era_state.specs.Quantities.{base_of}
use Rattle.era_agreement.specs.SentPackets.{inward_packets, inward_places, written_in}
use Rattle.norm_engine.specs.Agreement.{sent_in}
use Rattle.norm_engine.specs.Items.{Item}
use Rattle.norm_engine.specs.WrittenTrace.{places_written, written}
use Rattle.both_sides.specs.RunTraces.{RunTrace, one, two}
use Rattle.bridge_run.specs.Theorem.{Normalized}

-- What two receivers of the family read meets. They have the same octet wherever both have read.
-- None has one at or past the offset at which the other has ended, and two that have ended did so
-- at one offset. Each starts at its own offset, and any of the frames reach it, each in time, how
-- often and in which order.
abbrev pub AnyTwoMeet : (hops base : ℕ) (places : List ℤ) (frames : List (List ℕ)) → Type 0
AnyTwoMeet hops base places frames =
    (here there : Member) (start from : ℕ) (schedule order stream seen : List ℕ) (ended over : Bool) →
    IsMember hops here →
    IsMember hops there →
    DeliversInTime places here.distance base start frames schedule stream ended →
    DeliversInTime places there.distance base from frames order seen over →
    Meet start stream ended from seen over

-- this holds for the frames of each era of a trace whose base is fixed
abbrev pub TwoMeet : (hops : ℕ) → Link → List Item → Type 0
TwoMeet hops link trace =
    (era base : ℕ) → let sent = sent_in link trace in
    base_of (written_in era sent) ≡ Some base → AnyTwoMeet hops base (inward_places era base sent) (inward_packets era sent)

-- and for the packets that are written of it, cut for an MTU if there is one
abbrev pub TwoMeetAsWritten : PlainSettings → Link → List Item → Type 0
TwoMeetAsWritten settings link trace =
    (era base : ℕ) → let sent = sent_in link trace in
    base_of (written_in era sent) ≡ Some base →
    AnyTwoMeet settings.hops base (places_written settings.mtu (inward_places era base sent) (inward_packets era sent))
    (inward_packets era (sent_in link (written settings link trace)))

-- for what a run wrote, on the side of each engine
abbrev pub RunTwoMeet : PlainSettings → Link → RunTrace → Type 0
RunTwoMeet settings link (one trace) = TwoMeetAsWritten settings link trace
RunTwoMeet settings link (two trace mirror) = TwoMeet settings.hops link trace × TwoMeet settings.hops link mirror

-- This holds for each finished run.
abbrev pub ReceiversOfRunsMeet : Type 0
ReceiversOfRunsMeet =
    (settings : PlainSettings) (source source' capture capture' report report' : Option (List ℕ))
    → (done : Normalized settings source source' capture capture' report report') → RunTwoMeet settings done.head.link done.run
