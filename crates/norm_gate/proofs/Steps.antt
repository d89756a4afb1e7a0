-- What the next frame gives after a history.
use Rattle.std.proofs.Common.{◌≡◌, ℕ, Bool, true, false, List, [], ◌∷◌, ◌++◌, length, map, suc, Option, Some, None, refl, sym, ap, subst, ◌∙◌}
use Rattle.std.specs.List.{AllByRecursion}
use Rattle.wire_base.specs.declared.address.Link.{Link}
use Rattle.rule_book.specs.Entries.{PlainEntry}
use Rattle.rule_book.specs.declared.entry.Verdict.TheVariants as verdicts
use Rattle.norm_settings.specs.SettingValues.{PlainSettings, AreInRange}
use Rattle.pcap_file.specs.Records.{Packet}
use Rattle.norm_engine.specs.Items.{Item}
use Rattle.norm_engine.specs.Trace.{item_of}
use Rattle.norm_engine.specs.EngineState.{Engaged, frames_given}
use Rattle.norm_engine.specs.WrittenTrace.{item_written}
use Rattle.live_norm.specs.Live.{Gives, IsNormal, Lived, RepresentedIsNormal}
use Rattle.live_norm.specs.Live as live
use Rattle.norm_gate.specs.declared.arrival.Port.{Port}
use Rattle.norm_gate.specs.declared.arrival.Frames.{Frames}
use Rattle.norm_gate.specs.declared.arrival.Frames.TheVariants.{Ports, Capture}
use Rattle.norm_gate.specs.declared.arrival.Arrival.{Arrival}
use Rattle.norm_gate.specs.declared.fate.Fate.{Fate}
use Rattle.norm_gate.specs.declared.fate.Fate.TheVariants.{Judged, Forged, Crosses, Unjudged, TooLong, Truncated}
use Rattle.norm_gate.specs.declared.gate.Answer.{Answer}
use Rattle.norm_gate.specs.Fates.{crossing, fate_of}
use Rattle.norm_gate.specs.GateHistory.{Event, IsLawful, Leaving, event_by, event_of, items_in, leaving_by, link_of, other, packet_of, port_of}
use Rattle.norm_gate.specs.GateLaws.{LawfulInwardIsKnown, LawfulIsNotForged}
use Rattle.norm_gate.specs.GateState.{Follows, Gated, IsGuarded, Represents, Tells, settings_of, shown}

-- ---- frames by one port

-- each leaves by it
all_by : (port answered : Option Port) (frames : List (List ℕ)) → answered ≡ port → AllByRecursion (λ (l : Leaving). answered ≡ l.port) (leaving_by port frames)
all_by port answered [] is = tt
all_by port answered (frame ∷ frames) is = (is, all_by port answered frames is)

pub length_by : (port : Option Port) (frames : List (List ℕ)) → length (leaving_by port frames) ≡ length frames
length_by port [] = refl
length_by port (frame ∷ frames) = ap suc (length_by port frames)

shown_by : (as_read : Bool) (octets : List ℕ) (port : Option Port) (frames : List (List ℕ))
    → shown as_read octets port (leaving_by port frames) ≡ leaving_by port (frames_given as_read octets frames)
shown_by true octets port frames = refl
shown_by false octets port frames = refl

side_written : (mtu : Option ℕ) (link : Link) (item : Item) → (item_written mtu link item).entry.side ≡ item.entry.side
side_written None link item = refl
side_written (Some mtu) link item = refl

-- ---- the history goes on

guarded_next : LawfulIsNotForged → LawfulInwardIsKnown → (given : Frames) (settings : PlainSettings) (history : List Event) → IsLawful given settings history
    → IsGuarded given settings history
guarded_next forged known Ports settings history lawful = (forged settings history lawful, known settings history lawful)
guarded_next forged known (Capture link) settings history lawful = tt

module _ (forged : LawfulIsNotForged) (inward : LawfulInwardIsKnown) (normal : RepresentedIsNormal) (before : Gated) (arrival : Arrival) (octets : List ℕ) (history : List Event)
    (range : AreInRange (settings_of before)) (link_is : before.live.engine.link ≡ link_of before.given) (rep : Represents before history) where
  abbrev settings : PlainSettings
  settings = settings_of before

  abbrev link : Link
  link = link_of before.given

  abbrev items : List Item
  items = items_in history

  abbrev packet : Packet
  packet = packet_of arrival octets

  abbrev item : Item
  item = item_of settings link items packet

  abbrev event : Event
  event = event_of before.given settings history arrival octets

  lawful : IsLawful before.given settings (event ∷ history)
  lawful = (rep.lawful, refl)

  guarded : IsGuarded before.given settings (event ∷ history)
  guarded = guarded_next forged inward before.given settings (event ∷ history) lawful

  -- the record of a frame that is judged
  module _ (after : Gated) (answer : Answer) (same : after.given ≡ before.given) (kept : settings_of after ≡ settings) (fate_is : fate_of before.given settings arrival octets ≡ Judged)
      (gives : Gives before.live after.live packet answer.as_read items) (fate : answer.fate ≡ Judged) (records : answer.records ≡ 1)
      (verdict : answer.verdict ≡ after.live.entry.verdict) (frames : answer.frames ≡ after.live.entry.packets) (port : answer.port ≡ port_of after.live.entry.side)
      (leaving : after.leaving ≡ leaving_by answer.port after.live.frames) (entries : after.entries ≡ after.live.entry ∷ []) where
    abbrev judged : Event
    judged = event_by settings link arrival octets Judged item

    abbrev out : Item
    out = item_written settings.mtu link item

    is_judged : judged ≡ event
    is_judged = λ i. event_by settings link arrival octets ((sym fate_is) i) item

    entry_is : after.live.entry ≡ out.entry
    entry_is = gives.entry ∙ (λ i. (item_written settings.mtu (link_is i) (item_of settings (link_is i) items packet)).entry)

    frames_are : frames_given answer.as_read octets after.live.frames ≡ out.frames
    frames_are = gives.frames ∙ (λ i. (item_written settings.mtu (link_is i) (item_of settings (link_is i) items packet)).frames)

    count_is : answer.frames ≡ length out.frames
    count_is = frames ∙ gives.count ∙ (λ i. length (item_written settings.mtu (link_is i) (item_of settings (link_is i) items packet)).frames)

    port_is : answer.port ≡ port_of item.entry.side
    port_is = port ∙ ap port_of (ap (λ (e : PlainEntry). e.side) entry_is ∙ side_written settings.mtu link item)

    tells : Tells settings before.given judged answer
    tells = record {
      fate = fate;
      records = records;
      frames = count_is ∙ sym (length_by (port_of item.entry.side) out.frames);
      verdict = (verdict ∙ ap (λ (e : PlainEntry). e.verdict) entry_is, tt);
      port = all_by (port_of item.entry.side) answer.port out.frames port_is;
    }

    pub judged_follows : Follows before after event answer history
    judged_follows = subst (λ (e : Event). Follows before after e answer history) is_judged (record {
      settings = kept;
      given = same;
      tells = tells;
      leaving = ap (shown answer.as_read octets answer.port) leaving ∙ shown_by answer.as_read octets answer.port after.live.frames
          ∙ (λ i. leaving_by (port_is i) (frames_are i));
      entries = entries ∙ ap (λ (e : PlainEntry). e ∷ []) entry_is;
      represents = record {
        live = subst (λ (l : Link). live.Represents after.live (item_of settings l items packet ∷ items)) link_is gives.represents;
        lawful = subst (λ (g : Frames). IsLawful g (settings_of after) (judged ∷ history)) (sym same)
            (subst (λ (x : PlainSettings). IsLawful before.given x (judged ∷ history)) (sym kept) (rep.lawful, is_judged));
      };
      normal = subst (λ (l : Link). IsNormal settings l (item_of settings l items packet ∷ items)) link_is gives.normal;
      guarded = guarded_next forged inward before.given settings (judged ∷ history) (rep.lawful, is_judged);
    })

  -- a frame that is no record: the engine stays
  module _ (fate : Fate) (after : Gated) (answer : Answer) (same : after.given ≡ before.given) (stays : after.live ≡ before.live)
      (fate_is : fate_of before.given settings arrival octets ≡ fate) where
    abbrev other_event : Event
    other_event = event_by settings link arrival octets fate item

    is_other : other_event ≡ event
    is_other = λ i. event_by settings link arrival octets ((sym fate_is) i) item

    pub stays_follows : other_event.items ≡ [] → Tells settings before.given other_event answer → shown answer.as_read octets answer.port after.leaving ≡ other_event.leaving
        → after.entries ≡ [] → Follows before after event answer history
    stays_follows none tells leaving entries = subst (λ (e : Event). Follows before after e answer history) is_other (record {
      settings = ap (λ (l : Lived). l.engine.settings) stays;
      given = same;
      tells = tells;
      leaving = leaving;
      entries = entries ∙ sym (ap (map (λ (i : Item). (item_written settings.mtu link i).entry)) none);
      represents = record {
        live = subst (λ (is : List Item). live.Represents after.live (is ++ items)) (sym none) (subst (λ (l : Lived). live.Represents l items) (sym stays) rep.live);
        lawful = subst (λ (g : Frames). IsLawful g (settings_of after) (other_event ∷ history)) (sym same)
            (subst (λ (l : Lived). IsLawful before.given l.engine.settings (other_event ∷ history)) (sym stays) (rep.lawful, is_other));
      };
      normal = subst (λ (is : List Item). IsNormal settings link (is ++ items)) (sym none)
          (subst (λ (l : Link). IsNormal settings l items) link_is (normal before.live items range rep.live));
      guarded = guarded_next forged inward before.given settings (other_event ∷ history) (rep.lawful, is_other);
    })
