-- Records that pass are written as they were recorded, so receivers of the written packets are
-- receivers of the recorded ones.
use Rattle.std.proofs.Common.{◌≡◌, ◌≢◌, ℕ, ◌&&◌, ◌||◌, not, Bool, true, false, cond, List, [], ◌∷◌, ◌++◌, map, Option, Some, None, inl, inr, ◌⊎◌, is_none, eqb-true, refl, sym, ap, ap₂, subst, ◌∙◌}
use Rattle.std.specs.List.{AllByRecursion, list_any}
use Rattle.wire_base.specs.declared.address.Link.{Link}
use Rattle.wire_base.specs.declared.address.Side.{Side}
use Rattle.wire_base.specs.declared.address.Side.TheVariants.{Inward, Outward}
use Rattle.wire_base.specs.Frames.{packet_in}
use Rattle.pcap_file.specs.Records.{Packet}
use Rattle.rule_book.specs.declared.rule.Rule.{Rule}
use Rattle.rule_book.specs.declared.entry.Verdict.TheVariants as verdicts
use Rattle.rule_book.specs.Rules.{touches_payload}
use Rattle.norm_settings.specs.SettingValues.{PlainSettings}
use Rattle.receiver_model.specs.Monitors.{EraMissesNothing}
use Rattle.receiver_model.specs.StreamParts.{EachReadsPart}
use Rattle.era_state.specs.Quantities.{base_of, end_of, first}
use Rattle.era_agreement.specs.Agreement.{EraIsSound}
use Rattle.era_agreement.specs.SentPackets.{is_era, inward_packets, inward_places, written_in}
use Rattle.ip_rules.specs.RuleRows.{carries_ip, is_inward, tells_side}
use Rattle.norm_engine.specs.Items.{Item, packets}
use Rattle.norm_engine.specs.RuleRows.{side_of_record}
use Rattle.norm_engine.specs.Trace.{dropped_by, is_held, named_rows, read_after, side_by, verdict_by}
use Rattle.norm_engine.specs.CleanRecords.{is_clean}
use Rattle.norm_engine.specs.Agreement.{AtEachHistory, MissesNothing, sent_in}
use Rattle.norm_engine.specs.TraceLaws.{IsSound, LawfulAgrees, LawfulKeepsClean, LawfulMissesNothing, LawfulReadsOneStream}
use Rattle.norm_engine.specs.RecordedHost.{AddressPair, AreWrittenAsRecorded, IsOfPair, IsWrittenAsRecorded, LawfulWasReadSo, PassInwards, WasReadSo, any_record, goes_inwards, has_addresses, is_readable, may_have_pair, recorded_in, recorded_inwards, written_inwards}

-- the laws that this is based on
pub record Laws : Type 0 where
  pub clean : LawfulKeepsClean
  pub agree : LawfulAgrees
  pub reads : LawfulReadsOneStream
  pub monitor : LawfulMissesNothing
  pub pair : (settings : PlainSettings) (link : Link) (trace : List Item) → IsSound settings link trace → (era : ℕ) → (pair : AddressPair) × IsOfPair link pair era trace

before : (settings : PlainSettings) (link : Link) (item : Item) (older : List Item) → IsSound settings link (item ∷ older) → IsSound settings link older
before settings link item older sound = record { hops = sound.hops; octets = sound.octets.0; lawful = sound.lawful.0 }

-- One item.

-- no rule drops a record that passes, and none rewrites it
pass_parts : (dropped : Option Rule) (held : Bool) (named : List Rule) → verdict_by dropped held named ≡ verdicts.Pass → (dropped ≡ None) × (named ≡ [])
pass_parts None false [] h = (refl, refl)
pass_parts None false (rule ∷ more) h = absurd (cc)
pass_parts None true named h = absurd (cc)
pass_parts (Some rule) held named h = absurd (cc)

-- a record whose line is outbound goes outwards
outward_is : (dropped : Option Rule) (own : Option Side) → side_by dropped own ≡ Some Outward → own ≡ Some Outward
outward_is None own h = h
outward_is (Some rule) own h = by (tells_side rule) h
  where
    by : (tells : Bool) → cond tells own None ≡ Some Outward → own ≡ Some Outward
    by true e = e
    by false e = absurd (cc)

-- the side of a line is outward, or not
pub is_outward : (side : Option Side) → (side ≡ Some Outward) ⊎ (side ≢ Some Outward)
is_outward None = inr (λ e. absurd (cc))
is_outward (Some Inward) = inr (λ e. absurd (cc))
is_outward (Some Outward) = inl refl

-- the record goes outwards, and its line is outbound; or it was written as it was recorded
abbrev Known : PlainSettings → Link → Item → Type 0
Known settings link item =
    ((item.entry.side ≡ Some Outward) × (side_of_record settings link item.packet ≡ Some Outward)) ⊎ IsWrittenAsRecorded settings link item

known : Laws → (settings : PlainSettings) (link : Link) (item : Item) (older : List Item) → IsSound settings link (item ∷ older)
    → (item.entry.side ≢ Some Outward → item.entry.verdict ≡ verdicts.Pass) → Known settings link item
known l settings link item older sound passes = by (is_outward item.entry.side)
  where
    r : Packet
    r = item.packet

    own : Option Side
    own = side_of_record settings link r

    dropped : Option Rule
    dropped = dropped_by settings link (read_after settings link older r) r

    named : List Rule
    named = named_rows settings link (read_after settings link older r) r

    held : Bool
    held = is_held (read_after settings link older r)

    side_is : item.entry.side ≡ side_by dropped own
    side_is = ap (λ (x : Item). x.entry.side) sound.lawful.1

    verdict_is : item.entry.verdict ≡ verdict_by dropped held named
    verdict_is = ap (λ (x : Item). x.entry.verdict) sound.lawful.1

    written : item.entry.verdict ≡ verdicts.Pass → IsWrittenAsRecorded settings link item
    written pass =
        let parts = pass_parts dropped held named (sym verdict_is ∙ pass) in
        let clean : is_clean settings link older r ≡ true = clean_by parts.0 parts.1 in
        let kept = (l.clean settings link (item ∷ older) sound).1 clean in
        record {
          side = side_is ∙ ap (λ x. side_by x own) parts.0;
          frame = kept.only ∙ ap (λ f. f ∷ []) (kept.whole pass);
        }
      where
        clean_by : dropped ≡ None → named ≡ [] → is_clean settings link older r ≡ true
        clean_by undropped unnamed = ap₂ (λ d n. is_none d && not (list_any touches_payload n)) undropped unnamed

    by : (item.entry.side ≡ Some Outward) ⊎ (item.entry.side ≢ Some Outward) → Known settings link item
    by (inl out) = inl (out, outward_is dropped own (sym side_is ∙ out))
    by (inr not_out) = inr (written (passes not_out))

-- The frames of a trace.

-- what was recorded and what was written inwards for one record
same_frames : (settings : PlainSettings) (link : Link) (concerns : Packet → Bool) (item : Item) → (concerns item.packet ≡ true → Known settings link item)
    → cond (concerns item.packet && goes_inwards settings link item.packet) (item.packet.octets ∷ []) [] ≡ cond (concerns item.packet && is_inward item.entry.side) item.frames []
same_frames settings link concerns item knows = by (concerns item.packet) refl
  where
    given : Known settings link item → cond (goes_inwards settings link item.packet) (item.packet.octets ∷ []) [] ≡ cond (is_inward item.entry.side) item.frames []
    given (inl (out, own)) = ap (λ s. cond (is_inward s) (item.packet.octets ∷ []) []) own ∙ sym (ap (λ s. cond (is_inward s) item.frames []) out)
    given (inr w) = ap₂ (λ s f. cond (is_inward s) f []) (sym w.side) (sym w.frame)

    by : (b : Bool) → concerns item.packet ≡ b
        → cond (b && goes_inwards settings link item.packet) (item.packet.octets ∷ []) [] ≡ cond (b && is_inward item.entry.side) item.frames []
    by false e = refl
    by true e = given (knows e)

frames_same : Laws → (settings : PlainSettings) (link : Link) (concerns : Packet → Bool) (trace : List Item) → IsSound settings link trace → PassInwards concerns trace
    → recorded_inwards settings link concerns (packets trace) ≡ written_inwards concerns trace
frames_same l settings link concerns [] sound pass = refl
frames_same l settings link concerns (item ∷ older) sound pass =
    ap₂ (λ a b. a ++ b) (frames_same l settings link concerns older (before settings link item older sound) pass.1)
    (same_frames settings link concerns item (λ c. known l settings link item older sound (pass.0 c)))

-- each record was written as it was recorded, if it does not go outwards
each_as_recorded : Laws → (settings : PlainSettings) (link : Link) (concerns : Packet → Bool) (trace : List Item) → IsSound settings link trace → PassInwards concerns trace
    → AllByRecursion (λ item. concerns item.packet ≡ true → side_of_record settings link item.packet ≢ Some Outward → IsWrittenAsRecorded settings link item) trace
each_as_recorded l settings link concerns [] sound pass = tt
each_as_recorded l settings link concerns (item ∷ older) sound pass =
    (λ c inwards. given inwards (known l settings link item older sound (pass.0 c)), each_as_recorded l settings link concerns older (before settings link item older sound) pass.1)
  where
    given : side_of_record settings link item.packet ≢ Some Outward → Known settings link item → IsWrittenAsRecorded settings link item
    given inwards (inl (out, own)) = absurd (inwards own)
    given inwards (inr w) = w

as_recorded : Laws → (settings : PlainSettings) (link : Link) (concerns : Packet → Bool) (trace : List Item) → IsSound settings link trace → PassInwards concerns trace
    → AreWrittenAsRecorded settings link concerns trace
as_recorded l settings link concerns trace sound pass = record {
  each = each_as_recorded l settings link concerns trace sound pass;
  frames = frames_same l settings link concerns trace sound pass;
}

-- The packets of an era.

-- each record of the era whose line is not outbound is one of these
abbrev IsConcerned : (concerns : Packet → Bool) (era : ℕ) → List Item → Type 0
IsConcerned concerns era trace = AllByRecursion (λ item. item.entry.era ≡ Some era → item.entry.side ≢ Some Outward → concerns item.packet ≡ true) trace

pub era_is : (era : ℕ) (named : Option ℕ) → is_era era named ≡ true → named ≡ Some era
era_is era None e = absurd (cc)
era_is era (Some n) e = ap Some (eqb-true n era e)

same_packets : (settings : PlainSettings) (link : Link) (era : ℕ) (item : Item) → (item.entry.era ≡ Some era → Known settings link item)
    → cond (is_era era item.entry.era && goes_inwards settings link item.packet) (packet_in link item.packet.octets ∷ []) []
    ≡ cond (is_era era item.entry.era && is_inward item.entry.side) (map (packet_in link) item.frames) []
same_packets settings link era item knows = by (is_era era item.entry.era) refl
  where
    given : Known settings link item
        → cond (goes_inwards settings link item.packet) (packet_in link item.packet.octets ∷ []) [] ≡ cond (is_inward item.entry.side) (map (packet_in link) item.frames) []
    given (inl (out, own)) =
        ap (λ s. cond (is_inward s) (packet_in link item.packet.octets ∷ []) []) own ∙ sym (ap (λ s. cond (is_inward s) (map (packet_in link) item.frames) []) out)
    given (inr w) = ap₂ (λ s f. cond (is_inward s) (map (packet_in link) f) []) (sym w.side) (sym w.frame)

    by : (b : Bool) → is_era era item.entry.era ≡ b
        → cond (b && goes_inwards settings link item.packet) (packet_in link item.packet.octets ∷ []) [] ≡ cond (b && is_inward item.entry.side) (map (packet_in link) item.frames) []
    by false e = refl
    by true e = given (knows (era_is era item.entry.era e))

packets_same : Laws → (settings : PlainSettings) (link : Link) (concerns : Packet → Bool) (era : ℕ) (trace : List Item) → IsSound settings link trace → PassInwards concerns trace
    → IsConcerned concerns era trace → inward_packets era (recorded_in settings link trace) ≡ inward_packets era (sent_in link trace)
packets_same l settings link concerns era [] sound pass all = refl
packets_same l settings link concerns era (item ∷ older) sound pass all =
    ap₂ (λ a b. a ++ b) (packets_same l settings link concerns era older (before settings link item older sound) pass.1 all.1)
    (same_packets settings link era item (λ named. known l settings link item older sound (λ inwards. pass.0 (all.0 named inwards) inwards)))

-- what holds at each history holds for the trace
at_last : (P : List Item → Type 0) (trace : List Item) → AtEachHistory P trace → P trace
at_last P [] all = all
at_last P (item ∷ older) all = all.1

was_read_so : Laws → (settings : PlainSettings) (link : Link) (concerns : Packet → Bool) (era : ℕ) (trace : List Item) → IsSound settings link trace → PassInwards concerns trace
    → IsConcerned concerns era trace → WasReadSo settings link era trace
was_read_so l settings link concerns era trace sound pass all =
    let sent = sent_in link trace in
    let ws = written_in era sent in
    let same : inward_packets era sent ≡ inward_packets era (recorded_in settings link trace) = sym (packets_same l settings link concerns era trace sound pass all) in
    record {
      packets = sym same;
      agree = subst (EraIsSound settings.hops (base_of ws) (λ base. inward_places era base sent)) same (l.agree settings link trace sound era);
      reads = λ base based.
          subst (λ ps. EachReadsPart settings.hops base (inward_places era base sent) ps (first base ws) (end_of base ws)) same (l.reads settings link trace sound era base based);
      monitor = λ base based.
          subst (EraMissesNothing settings.hops base (inward_places era base sent)) same
          (at_last (MissesNothing settings.hops link) trace (l.monitor settings link trace sound) era base based);
    }

-- what holds for each sound trace holds for each history of one
at_each : (settings : PlainSettings) (link : Link) (P : List Item → Type 0) → ((history : List Item) → IsSound settings link history → P history)
    → (trace : List Item) → IsSound settings link trace → AtEachHistory P trace
at_each settings link P make [] sound = make [] sound
at_each settings link P make (item ∷ older) sound = (at_each settings link P make older (before settings link item older sound), make (item ∷ older) sound)

-- every record is one of all, and each of an era of a pair may have that pair
all_concerned : (era : ℕ) (trace : List Item) → IsConcerned any_record era trace
all_concerned era [] = tt
all_concerned era (item ∷ older) = (λ named inwards. refl, all_concerned era older)

or_true : (a b : Bool) → b ≡ true → (a || b) ≡ true
or_true true b e = refl
or_true false b e = e

may_be : (carries readable addresses : Bool) → (carries && addresses) ≡ true → (carries && (not readable || addresses)) ≡ true
may_be true readable addresses h = or_true (not readable) addresses h
may_be false readable addresses h = h

pair_concerned : (link : Link) (pair : AddressPair) (era : ℕ) (trace : List Item) → IsOfPair link pair era trace → IsConcerned (may_have_pair link pair) era trace
pair_concerned link pair era [] all = tt
pair_concerned link pair era (item ∷ older) all = (
  λ named inwards. may_be (carries_ip link item.packet.octets) (is_readable link item.packet.octets) (has_addresses link pair item.packet.octets) (all.0 named inwards),
  pair_concerned link pair era older all.1,
)

pub lawful_was_read_so : Laws → LawfulWasReadSo
lawful_was_read_so l settings link trace sound = record {
  all_written = at_each settings link (λ history. PassInwards any_record history → AreWrittenAsRecorded settings link any_record history)
      (λ history s pass. as_recorded l settings link any_record history s pass) trace sound;
  all_read = at_each settings link (λ history. PassInwards any_record history → (era : ℕ) → WasReadSo settings link era history)
      (λ history s pass era. was_read_so l settings link any_record era history s pass (all_concerned era history)) trace sound;
  pair_written = λ pair.
      at_each settings link (λ history. PassInwards (may_have_pair link pair) history → AreWrittenAsRecorded settings link (may_have_pair link pair) history)
      (λ history s pass. as_recorded l settings link (may_have_pair link pair) history s pass) trace sound;
  pair_read = λ pair.
      at_each settings link (λ history. PassInwards (may_have_pair link pair) history → (era : ℕ) → IsOfPair link pair era history → WasReadSo settings link era history)
      (λ history s pass era of. was_read_so l settings link (may_have_pair link pair) era history s pass (pair_concerned link pair era history of)) trace sound;
  pair_of = l.pair settings link trace sound;
}
