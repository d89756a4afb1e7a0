-- Laws of the history of a gate with two ports.
use Rattle.std.specs.Prelude.{◌≡◌, ◌⊎◌, ℕ, false, true, List, Contains, Some}
use Rattle.std.specs.List.{AllByRecursion}
use Rattle.wire_base.specs.Frames.{packet_in}
use Rattle.wire_base.specs.declared.address.Side.TheVariants.{Inward}
use Rattle.wire_base.specs.declared.address.Link.TheVariants.{Ethernet}
use Rattle.norm_settings.specs.SettingValues.{PlainSettings}
use Rattle.norm_engine.specs.Items.{Item}
use Rattle.norm_engine.specs.WrittenTrace.{item_written}
use Rattle.norm_gate.specs.declared.arrival.Port.TheVariants.{Outside, Inside}
use Rattle.norm_gate.specs.declared.arrival.Frames.TheVariants.{Ports}
use Rattle.norm_gate.specs.declared.fate.Fate.TheVariants.{Judged, Crosses}
use Rattle.norm_gate.specs.Fates.{address_judged, crossing, is_forged, is_own}
use Rattle.norm_gate.specs.GateHistory.{Event, IsLawful, Leaving}

-- no record of the engine was forged at the port at which it arrived
abbrev pub NothingIsForged : PlainSettings → List Event → Type 0
NothingIsForged settings history =
    AllByRecursion (λ event. AllByRecursion (λ item. is_forged settings event.arrival.port (packet_in Ethernet item.packet.octets) ≡ false) event.items) history

-- the frame is one of those written for a record of the event that goes inwards
pub record IsOfInward (settings : PlainSettings) (event : Event) (octets : List ℕ) : Type 0 where
  pub item : Item
  pub its : Contains event.items item
  pub inward : item.entry.side ≡ Some Inward
  pub frame : Contains (item_written settings.mtu Ethernet item).frames octets

-- the frame is ARP that crossed from outside, whose address was on that side
pub record Crossed (settings : PlainSettings) (event : Event) (octets : List ℕ) : Type 0 where
  pub fate : event.fate ≡ Crosses
  pub port : event.arrival.port ≡ Outside
  pub own : is_own settings Outside (address_judged event.octets) ≡ true
  pub octets_are : octets ≡ crossing event.octets

-- Each frame that leaves by the inside port is one of an inbound record, or ARP that crossed.
abbrev pub InwardIsKnown : PlainSettings → List Event → Type 0
InwardIsKnown settings history =
    AllByRecursion (λ event. AllByRecursion (λ leaving.
    leaving.port ≡ Some Inside → IsOfInward settings event leaving.octets ⊎ Crossed settings event leaving.octets) event.leaving) history

-- both are true of each lawful history of frames from two ports
abbrev pub LawfulIsNotForged : Type 0
LawfulIsNotForged = (settings : PlainSettings) (history : List Event) → IsLawful Ports settings history → NothingIsForged settings history

abbrev pub LawfulInwardIsKnown : Type 0
LawfulInwardIsKnown = (settings : PlainSettings) (history : List Event) → IsLawful Ports settings history → InwardIsKnown settings history
