-- Each era is of one pair of addresses: the records that belong to it have one four-tuple.
use Rattle.std.proofs.Common.{◌≡◌, ◌≢◌, ◌⊎◌, inl, inr, ⊎_elim, ℕ, ◌≤◌, ◌==◌, ◌&&◌, Bool, true, false, cond, List, [], ◌∷◌, Option, Some, None, IsSome, option_map, refl, sym, ap, ap₂, subst, ◌∙◌, arith}
use Rattle.std.specs.List.{AllByRecursion}
use Rattle.std.specs.Option.{option_or}
use Rattle.std.proofs.lemmas.Bool.{false≢true}
use Rattle.wire_base.specs.declared.address.FlowKey.{FlowKey}
use Rattle.wire_base.specs.declared.address.Link.{Link}
use Rattle.wire_base.specs.declared.address.Side.{Side}
use Rattle.wire_base.specs.declared.address.Side.TheVariants.{Inward, Outward}
use Rattle.wire_base.specs.Frames.{packet_in}
use Rattle.wire_base.specs.Ipv4 as ip
use Rattle.linked_table.proofs.Lists.{all_weaker}
use Rattle.pcap_file.specs.Records.{Packet}
use Rattle.rule_book.specs.declared.rule.Rule.{Rule}
use Rattle.norm_settings.specs.SettingValues.{PlainSettings}
use Rattle.ip_rules.specs.Datagrams.{Datagram, DatagramsAreKnown}
use Rattle.ip_rules.specs.RuleRows.{carries_ip, side_in, tells_side}
use Rattle.era_agreement.specs.SentPackets.{is_era}
use Rattle.tcp_norm.specs.Calls.{Call, Outcome, begun_in, key_at, key_of, live, segment_in}
use Rattle.tcp_norm.specs.LiveEras.{AreMade, begun_for, last_begun}
use Rattle.tcp_norm.specs.Outcomes.{begun_with, call_of, outcome_at, outcome_by}
use Rattle.tcp_norm.specs.RuleRows as era
use Rattle.tcp_norm.specs.SegmentPackets.{PacketsAreItsOwn}
use Rattle.tcp_norm.specs.RuleViews.{View, number_of, view_of}
use Rattle.tcp_norm.proofs.CallKinds.{effect_made}
use Rattle.tcp_norm.proofs.EraCounts.{lasts_made}
use Rattle.tcp_norm.proofs.LiveEras.{Effect, key_same, live_last}
use Rattle.norm_engine.specs.Items.{Item, now_with}
use Rattle.norm_engine.specs.RuleRows.{is_segment, side_of_record}
use Rattle.norm_engine.specs.Calls.{datagram_after, flow_calls, past_of, segment_after, with_asked}
use Rattle.norm_engine.specs.Trace.{dropped_by, era_by, item_of, outcome_of, read_after, side_by}
use Rattle.norm_engine.specs.CertainReading.{ItemsAreCertain}
use Rattle.norm_engine.specs.TraceLaws.{IsSound, LawfulCallsAreMade}
use Rattle.norm_engine.specs.RecordedHost.{AddressPair, IsOfPair}
use Rattle.norm_engine.proofs.Datagrams.{IsEither, carried, either_of, joined, made_of}
use Rattle.norm_engine.proofs.RecordedPackets.{era_is, is_outward}
use Rattle.norm_engine.proofs.Traces.{both_of, called, calls_with, rows_are_of_eras}

-- Calls.

-- a call began this era for this four-tuple
abbrev HasBegun : FlowKey → ℕ → List Call → Type 0
HasBegun key n [] = ⊥
HasBegun key n (c ∷ cs) = (begun_for key c ≡ Some n) ⊎ HasBegun key n cs

-- its number was given
begun_given : (settings : PlainSettings) (cs : List Call) → AreMade settings cs → (key : FlowKey) (n : ℕ) → HasBegun key n cs → n ≤ begun_in cs
begun_given settings [] made key n h = absurd h
begun_given settings (c ∷ cs) made key n h =
    let f = effect_made settings cs c made.0 (lasts_made settings cs made.1) in
    ⊎_elim (λ e. let next = f.begun_next key n e in let more = f.begun_more key n e in omega (arith, next, more))
    (λ old. let given = begun_given settings cs made.1 key n old in omega (arith, given)) h

-- for one four-tuple
begun_once : (settings : PlainSettings) (cs : List Call) → AreMade settings cs → (j k : FlowKey) (n : ℕ) → HasBegun j n cs → HasBegun k n cs → j ≡ k
begun_once settings [] made j k n a b = absurd a
begun_once settings (c ∷ cs) made j k n a b =
    ⊎_elim (λ e. ⊎_elim (λ g. f.begun_once j k n n e g) (λ old. absurd (apart j k e old)) b)
    (λ old. ⊎_elim (λ g. absurd (apart k j g old)) (λ other. begun_once settings cs made.1 j k n old other) b) a
  where
    f : Effect cs c
    f = effect_made settings cs c made.0 (lasts_made settings cs made.1)

    apart : (one other : FlowKey) → begun_for one c ≡ Some n → HasBegun other n cs → ⊥
    apart one other e old = let next = f.begun_next one n e in let given = begun_given settings cs made.1 other n old in absurd (omega (arith, next, given))

-- the era last begun for a four-tuple was begun for it
last_has : (key : FlowKey) (n : ℕ) (cs : List Call) → last_begun key cs ≡ Some n → HasBegun key n cs
last_has key n [] e = absurd (cc)
last_has key n (c ∷ cs) e = by (last_has key n cs) (begun_for key c) refl e
  where
    by : (last_begun key cs ≡ Some n → HasBegun key n cs) → (b : Option ℕ) → begun_for key c ≡ b → option_or b (last_begun key cs) ≡ Some n → HasBegun key n (c ∷ cs)
    by before (Some m) is e = inl (is ∙ e)
    by before None is e = inr (before e)

-- the era that the outcome of a datagram names was begun for its four-tuple
named_begun : (settings : PlainSettings) (cs : List Call) (now n : ℕ) (d : Datagram) → AreMade settings cs → (outcome_at settings (view_of settings cs d) d).era ≡ Some n
    → HasBegun (key_of d) n (call_of settings cs now d ∷ cs)
named_begun settings cs now n d made named = by (era.dropped_by settings v d) refl named
  where
    v : View
    v = view_of settings cs d

    before : number_of (live cs (key_of d)) ≡ Some n → HasBegun (key_of d) n (call_of settings cs now d ∷ cs)
    before e = inr (last_has (key_of d) n cs (live_last cs (lasts_made settings cs made) (key_of d) n e).0)

    by : (row : Option Rule) → era.dropped_by settings v d ≡ row → (outcome_by settings v d row (era.mended_by settings v d)).era ≡ Some n
        → HasBegun (key_of d) n (call_of settings cs now d ∷ cs)
    by (Some rule) is e = before e
    by None is e = begins (begun_with v (segment_in d)) refl e
      where
        begins : (b : Option ℕ) → begun_with v (segment_in d) ≡ b → option_or b v.era ≡ Some n → HasBegun (key_of d) n (call_of settings cs now d ∷ cs)
        begins None begun e = before e
        begins (Some m) begun e =
            inl (ap (λ b. cond b (outcome_at settings v d).begun None) (key_same (key_of d))
            ∙ (ap (λ r. (outcome_by settings v d r (era.mended_by settings v d)).begun) is ∙ (begun ∙ e)))

-- Records.

-- the laws that this is based on
pub record Laws : Type 0 where
  pub known : DatagramsAreKnown
  pub own : PacketsAreItsOwn
  pub certain : ItemsAreCertain
  pub made : LawfulCallsAreMade

-- the record's packet goes inwards between the ends of an era that was begun for them
pub record HasEnds (link : Link) (era : ℕ) (calls : List Call) (r : Packet) : Type 0 where
  pub key : FlowKey
  pub begun : HasBegun key era calls
  pub carries : carries_ip link r.octets ≡ true
  pub source : ip.source (packet_in link r.octets) ≡ key.outside.0
  pub destination : ip.destination (packet_in link r.octets) ≡ key.inside.0

inward_own : (dropped : Option Rule) (own : Option Side) → side_by dropped own ≡ Some Inward → own ≡ Some Inward
inward_own None own h = h
inward_own (Some rule) own h = by (tells_side rule) h
  where
    by : (tells : Bool) → cond tells own None ≡ Some Inward → own ≡ Some Inward
    by true e = e
    by false e = absurd (cc)

inward_side : (side : Option Side) → IsSome side → side ≢ Some Outward → side ≡ Some Inward
inward_side None some out = absurd (false≢true some)
inward_side (Some Inward) some out = refl
inward_side (Some Outward) some out = absurd (out refl)

carries_of : (carries : Bool) (own : Option Side) (side : Side) → cond carries own None ≡ Some side → carries ≡ true
carries_of true own side e = refl
carries_of false own side e = absurd (cc)

named_some : (named : Option ℕ) (n : ℕ) → named ≡ Some n → IsSome named
named_some None n e = absurd (cc)
named_some (Some m) n e = refl

-- the ends of a datagram that goes inwards are those in the header of its record's packet
ends_of : (settings : PlainSettings) (link : Link) (older : List Item) (r : Packet) (d : Datagram) → datagram_after settings link older r ≡ Some d → d.side ≡ Inward
    → (ip.source (packet_in link r.octets) ≡ (key_of d).outside.0) × (ip.destination (packet_in link r.octets) ≡ (key_of d).inside.0)
ends_of settings link older r d h inward = by (either_of settings link (past_of settings link older r).pieces r d h)
  where
    p : List ℕ
    p = packet_in link r.octets

    keyed : ip.source p ≡ d.head.src.0 → ip.destination p ≡ d.head.dst.0 → (ip.source p ≡ (key_of d).outside.0) × (ip.destination p ≡ (key_of d).inside.0)
    keyed source destination = (
      source ∙ ap (λ s. (key_at s d.head d.octets).outside.0) (sym inward),
      destination ∙ ap (λ s. (key_at s d.head d.octets).inside.0) (sym inward),
    )

    by : IsEither settings link (past_of settings link older r).pieces r d → (ip.source p ≡ (key_of d).outside.0) × (ip.destination p ≡ (key_of d).inside.0)
    by (carried c) = keyed (ap (λ (x : Datagram). x.head.src.0) c.is) (ap (λ (x : Datagram). x.head.dst.0) c.is)
    by (joined j) = keyed (ap (λ (x : Datagram). x.head.src.0) j.is) (ap (λ (x : Datagram). x.head.dst.0) j.is)

head_ends : Laws → (settings : PlainSettings) (link : Link) (era : ℕ) (item : Item) (older : List Item) → IsSound settings link (item ∷ older)
    → item.entry.era ≡ Some era → item.entry.side ≢ Some Outward → HasEnds link era (flow_calls settings link (item ∷ older)) item.packet
head_ends l settings link era item older sound named out = by (segment_after settings link older r) refl
  where
    r : Packet
    r = item.packet

    made : Item
    made = item_of settings link older r

    past : List Call
    past = (past_of settings link older r).calls

    era_here : made.entry.era ≡ Some era
    era_here = sym (ap (λ (x : Item). x.entry.era) sound.lawful.1) ∙ named

    inward : made.entry.side ≡ Some Inward
    inward = inward_side made.entry.side ((l.certain settings link older r sound.hops sound.octets.0 sound.octets.1).sided (named_some made.entry.era era era_here))
        (λ e. out (ap (λ (x : Item). x.entry.side) sound.lawful.1 ∙ e))

    calls : (segment : Option Datagram) → segment_after settings link older r ≡ segment → flow_calls settings link (item ∷ older) ≡ called settings past (now_with older r) segment
    calls segment h =
        ap (λ (x : Item). flow_calls settings link (x ∷ older)) sound.lawful.1
        ∙ calls_with rows_are_of_eras l.known l.own settings link older r sound.hops sound.octets.0 sound.octets.1 segment h

    by : (segment : Option Datagram) → segment_after settings link older r ≡ segment → HasEnds link era (flow_calls settings link (item ∷ older)) r
    by None h = absurd (none_named (sym (ap (λ o. era_by (option_map (outcome_of settings (read_after settings link older r)) o)) h) ∙ era_here))
      where
        none_named : None ≡ Some era → ⊥
        none_named e = cc
    by (Some d) h =
        let own = inward_own (dropped_by settings link (read_after settings link older r) r) (side_of_record settings link r) inward in
        let datagram = (both_of (is_segment settings) (datagram_after settings link older r) d h).0 in
        let told = (made_of settings link (past_of settings link older r) r d datagram).told in
        let side : d.side ≡ Inward = cc (own, told) in
        let ends = ends_of settings link older r d datagram side in
        let all_made = subst (AreMade settings) (calls (Some d) h) (l.made settings link (item ∷ older) sound).made in
        record {
          key = key_of d;
          begun = subst (HasBegun (key_of d) era) (sym (calls (Some d) h))
              (named_begun settings past (now_with older r) era d all_made.1 (sym (ap (λ o. era_by (option_map (outcome_of settings (read_after settings link older r)) o)) h) ∙ era_here));
          carries = carries_of (carries_ip link r.octets) (side_in settings r.side (packet_in link r.octets)) d.side told;
          source = ends.0;
          destination = ends.1;
        }

-- what was begun stays so
begun_still : (o : Option Datagram) (now : ℕ) (outcome : Outcome) (key : FlowKey) (n : ℕ) (calls : List Call) → HasBegun key n calls → HasBegun key n (with_asked o now outcome calls)
begun_still None now outcome key n calls h = h
begun_still (Some d) now outcome key n calls h = inr h

ends_still : (settings : PlainSettings) (link : Link) (era : ℕ) (item : Item) (older : List Item) (r : Packet) → HasEnds link era (flow_calls settings link older) r
    → HasEnds link era (flow_calls settings link (item ∷ older)) r
ends_still settings link era item older r e = record {
  key = e.key;
  begun = begun_still (segment_after settings link older item.packet) _ _ e.key era _ (inr e.begun);
  carries = e.carries;
  source = e.source;
  destination = e.destination;
}

-- each record of the era whose line is not outbound has ends for which it was begun
abbrev HaveEnds : Link → (era : ℕ) → List Call → List Item → Type 0
HaveEnds link era calls items = AllByRecursion (λ item. item.entry.era ≡ Some era → item.entry.side ≢ Some Outward → HasEnds link era calls item.packet) items

all_ends : Laws → (settings : PlainSettings) (link : Link) (era : ℕ) (trace : List Item) → IsSound settings link trace → HaveEnds link era (flow_calls settings link trace) trace
all_ends l settings link era [] sound = tt
all_ends l settings link era (item ∷ older) sound = (
  head_ends l settings link era item older sound,
  all_weaker
      (λ x. x.entry.era ≡ Some era → x.entry.side ≢ Some Outward → HasEnds link era (flow_calls settings link older) x.packet)
      (λ x. x.entry.era ≡ Some era → x.entry.side ≢ Some Outward → HasEnds link era (flow_calls settings link (item ∷ older)) x.packet)
      (λ x h named out. ends_still settings link era item older x.packet (h named out)) older
      (all_ends l settings link era older (record { hops = sound.hops; octets = sound.octets.0; lawful = sound.lawful.0 })),
)

-- The pair.

same_two : (a b : ℕ) → ((a == a) && (b == b)) ≡ true
same_two a b = grind arith

same_number : (n : ℕ) → (n == n) ≡ true
same_number n = grind arith

abbrev pair_of_key : FlowKey → AddressPair
pair_of_key key = record { outside = key.outside.0; inside = key.inside.0 }

of_key : (settings : PlainSettings) (link : Link) (era : ℕ) (calls : List Call) → AreMade settings calls → (key : FlowKey) → HasBegun key era calls → (items : List Item)
    → HaveEnds link era calls items → IsOfPair link (pair_of_key key) era items
of_key settings link era calls made key begun [] all = tt
of_key settings link era calls made key begun (item ∷ items) all = (
  λ named out.
      let e = all.0 named out in
      let same : e.key ≡ key = begun_once settings calls made e.key key era e.begun begun in
      ap₂ (λ a b. a && b) e.carries
      (ap₂ (λ a b. (a == key.outside.0) && (b == key.inside.0)) (e.source ∙ ap (λ k. k.outside.0) same) (e.destination ∙ ap (λ k. k.inside.0) same)
      ∙ same_two key.outside.0 key.inside.0),
  of_key settings link era calls made key begun items all.1,
)

chosen : (settings : PlainSettings) (link : Link) (era : ℕ) (calls : List Call) → AreMade settings calls → (items : List Item) → HaveEnds link era calls items
    → (pair : AddressPair) × IsOfPair link pair era items
chosen settings link era calls made [] all = (record { outside = 0; inside = 0 }, tt)
chosen settings link era calls made (item ∷ items) all = by (is_era era item.entry.era) refl (is_outward item.entry.side) (chosen settings link era calls made items all.1)
  where
    by : (b : Bool) → is_era era item.entry.era ≡ b → (item.entry.side ≡ Some Outward) ⊎ (item.entry.side ≢ Some Outward)
        → (pair : AddressPair) × IsOfPair link pair era items → (pair : AddressPair) × IsOfPair link pair era (item ∷ items)
    by false e side rest = (rest.0, ((λ named out. absurd (false≢true (sym e ∙ (ap (is_era era) named ∙ same_number era)))), rest.1))
    by true e (inl outward) rest = (rest.0, ((λ named out. absurd (out outward)), rest.1))
    by true e (inr inward) rest =
        let ends = all.0 (era_is era item.entry.era e) inward in
        (pair_of_key ends.key, of_key settings link era calls made ends.key ends.begun (item ∷ items) all)

pub pair_of : Laws → (settings : PlainSettings) (link : Link) (trace : List Item) → IsSound settings link trace → (era : ℕ) → (pair : AddressPair) × IsOfPair link pair era trace
pair_of l settings link trace sound era =
    chosen settings link era (flow_calls settings link trace) (l.made settings link trace sound).made trace (all_ends l settings link era trace sound)
