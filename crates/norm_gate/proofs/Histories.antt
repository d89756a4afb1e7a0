-- Laws of the history of a gate with two ports, event by event.
use Rattle.std.proofs.Common.{◌≡◌, ℕ, ◌<◌, ◌+◌, ◌==◌, ◌&&◌, not, nat_le, nat_lt, Bool, true, false, cond, List, [], ◌∷◌, length, map, get_or, Option, Some, None, refl, sym, ap, subst, ◌∙◌, arith, inl, inr, ◌⊎◌, ◌++◌, append_assoc, length-append}
use Rattle.std.proofs.Math.Seq.{get_or-append_seam}
use Rattle.std.specs.List.{AllByRecursion}
use Rattle.wire_base.specs.declared.address.Side.{Side}
use Rattle.wire_base.specs.declared.address.Side.TheVariants.{Inward, Outward}
use Rattle.wire_base.specs.declared.address.Link.TheVariants.{Ethernet}
use Rattle.wire_base.specs.declared.frame.FrameKind.{FrameKind}
use Rattle.wire_base.specs.declared.frame.FrameKind.TheVariants as kinds
use Rattle.wire_base.specs.Frames.{kind_of, packet_in}
use Rattle.norm_settings.specs.SettingValues.{PlainSettings}
use Rattle.norm_engine.specs.Items.{Item}
use Rattle.norm_engine.specs.Trace.{item_of}
use Rattle.norm_engine.specs.WrittenTrace.{item_written}
use Rattle.norm_gate.specs.declared.arrival.Port.{Port}
use Rattle.norm_gate.specs.declared.arrival.Port.TheVariants.{Outside, Inside}
use Rattle.norm_gate.specs.declared.arrival.Frames.TheVariants.{Ports}
use Rattle.norm_gate.specs.declared.arrival.Arrival.{Arrival}
use Rattle.norm_gate.specs.declared.fate.Fate.{Fate}
use Rattle.norm_gate.specs.declared.fate.Fate.TheVariants.{Judged, Forged, Crosses, Unjudged, TooLong, Truncated}
use Rattle.norm_gate.specs.Fates.{address_judged, crossing, fate_at_port, fate_by, fate_of, fate_of_arp, fate_of_ip, is_arp_of_ipv4, is_forged, is_own}
use Rattle.norm_gate.specs.GateHistory.{Event, IsLawful, Leaving, event_by, event_of, items_by, items_in, leaving_by, leaving_for, other, packet_of, port_of}
use Rattle.norm_gate.specs.GateLaws.{Crossed, InwardIsKnown, IsOfInward, LawfulInwardIsKnown, LawfulIsNotForged, NothingIsForged}

-- ---- what a fate says

-- IPv4 that is judged is not forged
ip_judged : (settings : PlainSettings) (port : Port) (frame : List ℕ) (forged : Bool) → forged ≡ is_forged settings port (packet_in Ethernet frame)
    → cond forged Forged Judged ≡ Judged → is_forged settings port (packet_in Ethernet frame) ≡ false
ip_judged settings port frame true is fate = absurd (cc)
ip_judged settings port frame false is fate = sym is

ip_crosses : (forged : Bool) → cond forged Forged Judged ≡ Crosses → ⊥
ip_crosses true fate = absurd (cc)
ip_crosses false fate = absurd (cc)

arp_judged : (shape own : Bool) → cond (not shape) Unjudged (cond own Crosses Forged) ≡ Judged → ⊥
arp_judged true true fate = absurd (cc)
arp_judged true false fate = absurd (cc)
arp_judged false own fate = absurd (cc)

arp_crosses : (shape own : Bool) → cond (not shape) Unjudged (cond own Crosses Forged) ≡ Crosses → own ≡ true
arp_crosses true true fate = refl
arp_crosses true false fate = absurd (cc)
arp_crosses false own fate = absurd (cc)

kind_judged : (settings : PlainSettings) (port : Port) (frame : List ℕ) (kind : FrameKind) → fate_by kind settings port frame ≡ Judged
    → is_forged settings port (packet_in Ethernet frame) ≡ false
kind_judged settings port frame (kinds.Ip at) fate = ip_judged settings port frame (is_forged settings port (packet_in Ethernet frame)) refl fate
kind_judged settings port frame kinds.Arp fate = absurd (arp_judged (is_arp_of_ipv4 frame) (is_own settings port (address_judged frame)) fate)
kind_judged settings port frame kinds.Short fate = absurd (cc)
kind_judged settings port frame kinds.Other fate = absurd (cc)

kind_crosses : (settings : PlainSettings) (port : Port) (frame : List ℕ) (kind : FrameKind) → fate_by kind settings port frame ≡ Crosses
    → is_own settings port (address_judged frame) ≡ true
kind_crosses settings port frame (kinds.Ip at) fate = absurd (ip_crosses (is_forged settings port (packet_in Ethernet frame)) fate)
kind_crosses settings port frame kinds.Arp fate = arp_crosses (is_arp_of_ipv4 frame) (is_own settings port (address_judged frame)) fate
kind_crosses settings port frame kinds.Short fate = absurd (cc)
kind_crosses settings port frame kinds.Other fate = absurd (cc)

-- a frame that is neither truncated nor too long nor tagged has its fate by what it carries
by_kind : (short long tagged : Bool) (fate wanted : Fate) → cond short Truncated (cond long TooLong (cond tagged Unjudged fate)) ≡ wanted
    → (wanted ≡ Judged) ⊎ (wanted ≡ Crosses) → fate ≡ wanted
by_kind true long tagged fate wanted is (inl e) = absurd (cc)
by_kind true long tagged fate wanted is (inr e) = absurd (cc)
by_kind false true tagged fate wanted is (inl e) = absurd (cc)
by_kind false true tagged fate wanted is (inr e) = absurd (cc)
by_kind false false true fate wanted is (inl e) = absurd (cc)
by_kind false false true fate wanted is (inr e) = absurd (cc)
by_kind false false false fate wanted is e = is

carried : (settings : PlainSettings) (arrival : Arrival) (frame : List ℕ) (fate : Fate) → fate_at_port settings arrival frame ≡ fate → (fate ≡ Judged) ⊎ (fate ≡ Crosses)
    → fate_by (kind_of Ethernet frame) settings arrival.port frame ≡ fate
carried settings arrival frame fate is which =
    by_kind (nat_lt (length frame) arrival.original) (nat_lt 65549 (length frame)) (not (arrival.tag == 0)) (fate_by (kind_of Ethernet frame) settings arrival.port frame) fate is which

pub judged_is_own : (settings : PlainSettings) (arrival : Arrival) (frame : List ℕ) → fate_at_port settings arrival frame ≡ Judged
    → is_forged settings arrival.port (packet_in Ethernet frame) ≡ false
judged_is_own settings arrival frame is = kind_judged settings arrival.port frame (kind_of Ethernet frame) (carried settings arrival frame Judged is (inl refl))

pub crosses_is_own : (settings : PlainSettings) (arrival : Arrival) (frame : List ℕ) → fate_at_port settings arrival frame ≡ Crosses
    → is_own settings arrival.port (address_judged frame) ≡ true
crosses_is_own settings arrival frame is = kind_crosses settings arrival.port frame (kind_of Ethernet frame) (carried settings arrival frame Crosses is (inr refl))

-- ---- one event

module _ (settings : PlainSettings) (arrival : Arrival) (octets : List ℕ) (item : Item) (packet_is : item.packet.octets ≡ octets) where
  abbrev event : Fate → Event
  event fate = event_by settings Ethernet arrival octets fate item

  unforged : (fate : Fate) → fate_at_port settings arrival octets ≡ fate
      → AllByRecursion (λ (i : Item). is_forged settings arrival.port (packet_in Ethernet i.packet.octets) ≡ false) (event fate).items
  unforged Judged is = (subst (λ o. is_forged settings arrival.port (packet_in Ethernet o) ≡ false) (sym packet_is) (judged_is_own settings arrival octets is), tt)
  unforged Forged is = tt
  unforged Crosses is = tt
  unforged Unjudged is = tt
  unforged TooLong is = tt
  unforged Truncated is = tt

  inward_by : (side : Option Side) → port_of side ≡ Some Inside → side ≡ Some Inward
  inward_by (Some Inward) e = refl
  inward_by (Some Outward) e = absurd (cc)
  inward_by None e = absurd (cc)

  abbrev all : List (List ℕ)
  all = (item_written settings.mtu Ethernet item).frames

  abbrev Known : Fate → Leaving → Type 0
  Known fate leaving = leaving.port ≡ Some Inside → IsOfInward settings (event fate) leaving.octets ⊎ Crossed settings (event fate) leaving.octets

  -- each frame of the item is one of it
  each_of : (before frames : List (List ℕ)) → all ≡ before ++ frames → AllByRecursion (Known Judged) (leaving_by (port_of item.entry.side) frames)
  each_of before [] is = tt
  each_of before (frame ∷ frames) is =
      let size = ap length is ∙ length-append before (frame ∷ frames) in (
        λ e. inl (record {
          item = item;
          its = (0, omega arith, refl);
          inward = inward_by item.entry.side e;
          frame = (length before, omega (arith, size), ap (λ (l : List (List ℕ)). get_or l (length before) frame) is ∙ get_or-append_seam before frame frames frame);
        }),
        each_of (before ++ frame ∷ []) frames (is ∙ sym (append_assoc before (frame ∷ []) frames)),
      )

  from_outside : (port : Port) → Some (other port) ≡ Some Inside → port ≡ Outside
  from_outside Outside e = refl
  from_outside Inside e = absurd (cc)

  known : (fate : Fate) → fate_at_port settings arrival octets ≡ fate → AllByRecursion (Known fate) (event fate).leaving
  known Judged is = each_of [] all refl
  known Crosses is = (
    λ e.
        let outside = from_outside arrival.port e in
        inr (record {
          fate = refl;
          port = outside;
          own = subst (λ (p : Port). is_own settings p (address_judged octets) ≡ true) outside (crosses_is_own settings arrival octets is);
          octets_are = refl;
        }),
    tt,
  )
  known Forged is = tt
  known Unjudged is = tt
  known TooLong is = tt
  known Truncated is = tt

-- ---- all events

pub none_forged : LawfulIsNotForged
none_forged settings [] lawful = tt
none_forged settings (event ∷ older) lawful = (
  subst (λ (e : Event). AllByRecursion (λ (i : Item). is_forged settings e.arrival.port (packet_in Ethernet i.packet.octets) ≡ false) e.items) (sym lawful.1)
      (unforged settings event.arrival event.octets (item_of settings Ethernet (items_in older) (packet_of event.arrival event.octets)) refl (fate_at_port settings event.arrival event.octets) refl),
  none_forged settings older lawful.0,
)

pub inward_known : LawfulInwardIsKnown
inward_known settings [] lawful = tt
inward_known settings (event ∷ older) lawful = (
  subst (λ (e : Event). AllByRecursion (λ (leaving : Leaving). leaving.port ≡ Some Inside → IsOfInward settings e leaving.octets ⊎ Crossed settings e leaving.octets) e.leaving) (sym lawful.1)
      (known settings event.arrival event.octets (item_of settings Ethernet (items_in older) (packet_of event.arrival event.octets)) refl (fate_at_port settings event.arrival event.octets) refl),
  inward_known settings older lawful.0,
)
