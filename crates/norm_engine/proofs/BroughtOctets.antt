-- Each octet of an era's stream is one that a record brought, and each clash contradicts it.
use Rattle.std.proofs.Common.{◌≡◌, ◌↔◌, ℕ, ◌&&◌, ◌||◌, not, Bool, true, false, cond, List, [], ◌∷◌, ◌++◌, filter, map, ℤ, pos, ◌≤ℤ◌, Option, Some, None, is_none, refl, sym, ap, ap₂, subst, ◌∙◌, append-nil, option_map}
use Rattle.std.specs.List.{AllByRecursion}
use Rattle.std.proofs.lemmas.Bool.{false≢true, false_from_ne_true, and_parts}
use Rattle.wire_base.specs.declared.address.Link.{Link}
use Rattle.wire_base.specs.declared.address.Side.{Side}
use Rattle.wire_base.specs.declared.address.Side.TheVariants.{Inward, Outward}
use Rattle.wire_base.specs.Segments.{Written}
use Rattle.wire_base.specs.Frames.{packet_in}
use Rattle.pcap_file.specs.Records as records
use Rattle.rule_book.specs.declared.rule.Rule.{Rule}
use Rattle.rule_book.specs.declared.rule.Rule.TheVariants as rules
use Rattle.rule_book.specs.Rules.{drop_rows, fix_rows, step_rows}
use Rattle.norm_settings.specs.SettingValues.{PlainSettings}
use Rattle.era_state.specs.Quantities.{acked, first, end_of}
use Rattle.era_state.specs.EmissionLaws.{HasNoOtherBase, WrittenRemains}
use Rattle.era_state.proofs.EmittedSegments.{other_before}
use Rattle.era_agreement.specs.SentPackets.{is_era, segments_in, written_in}
use Rattle.ip_rules.specs.RuleRows.{is_inward}
use Rattle.ip_rules.specs.Datagrams.{Datagram, goes_in}
use Rattle.tcp_norm.specs.Calls.{Call, is_written, segment_in, segments}
use Rattle.tcp_norm.specs.RuleViews.{View, view_of}
use Rattle.tcp_norm.specs.RuleRows as era
use Rattle.tcp_norm.specs.Outcomes.{call_of, outcome_by}
use Rattle.tcp_norm.specs.SegmentPackets.{AreOfSegments}
use Rattle.tcp_norm.specs.BroughtOctets as calls
use Rattle.tcp_norm.proofs.Lists.{some_same, some_none}
use Rattle.tcp_norm.proofs.BroughtOctets.{Stays, Steps, either_way}
use Rattle.norm_engine.specs.Items.{Item, now_with}
use Rattle.norm_engine.specs.RuleRows.{is_segment, side_of_record}
use Rattle.norm_engine.specs.Calls.{datagram_after, flow_calls, past_of, segment_after}
use Rattle.norm_engine.specs.Trace.{Read, dropped_by, drops, era_by, holds, is_held, item_of, named_rows, noted_rows, outcome_of, read_after, rules_by}
use Rattle.norm_engine.specs.Agreement.{sent_in}
use Rattle.norm_engine.specs.TraceLaws.{IsSound, LawfulCallsAreMade}
use Rattle.norm_engine.specs.BroughtOctets.{Brings, IsAdded, IsBrought, LawfulInventsNothing, is_clash, names_clash, Contradicts, IsConsistent, LawfulClashesAreReal, NamesEachClash, ConsistentIsWithoutClash}
use Rattle.norm_engine.proofs.Items.{era_told, found_passes, nothing_noted, segment_rules, segment_verdict, sides}
use Rattle.norm_engine.proofs.Datagrams.{made_of}
use Rattle.norm_engine.proofs.Traces.{both_of, called, calls_with}
use Rattle.norm_engine.proofs.ItemFrames.{none_before}
use Rattle.norm_engine.proofs.Receivers.{PacketLaws, written_is}

-- the laws that this is based on
pub record Laws : Type 0 where
  pub packets : PacketLaws
  pub made : LawfulCallsAreMade
  pub remains : WrittenRemains
  pub brought : calls.NewIsBrought
  pub real : calls.ClashesAreReal

-- A record of a segment, and its call.

inward_side : (side : Side) → goes_in side ≡ true → side ≡ Inward
inward_side Inward e = refl
inward_side Outward e = absurd (false≢true e)

-- what was written before the call is what was written in the history
past_is : Laws → (settings : PlainSettings) (link : Link) (era : ℕ) (older : List Item) (r : records.Packet) → IsSound settings link older
    → segments era (past_of settings link older r).calls ≡ written_in era (sent_in link older)
past_is l settings link era older r sound = append-nil (segments era (flow_calls settings link older)) ∙ sym (written_is l.packets settings link era older sound)

-- the side in its entry
side_is : Laws → (settings : PlainSettings) (link : Link) (older : List Item) (r : records.Packet) (d : Datagram) → segment_after settings link older r ≡ Some d
    → (item_of settings link older r).entry.side ≡ Some d.side
side_is l settings link older r d h =
    let read = read_after settings link older r in
    let rows = l.packets.rows settings link older r d h in
    let record_side = side_of_record settings link r in
    let told = sides (dropped_by settings link read r) record_side (λ rule dropped. era_told settings read.past.calls d rule (sym rows.dropped ∙ dropped)) in
    told ∙ (made_of settings link (past_of settings link older r) r d (both_of (is_segment settings) (datagram_after settings link older r) d h).0).told

-- a record brings what its datagram does
record_brings : Laws → (settings : PlainSettings) (link : Link) (older : List Item) (r : records.Packet) (d : Datagram) → IsSound settings link older → segment_after settings link older r ≡ Some d
    → (era : ℕ) (Has : List Written → Written → Type 0) → calls.Brings era Has d (outcome_of settings (read_after settings link older r) d) (past_of settings link older r).calls
    → Brings settings link era Has (item_of settings link older r) older
record_brings l settings link older r d sound h era Has b =
    let read = read_after settings link older r in
    let rows = l.packets.rows settings link older r d h in
    record {
      inward = side_is l settings link older r d h ∙ ap Some (inward_side d.side b.inward);
      named = ap (λ o. era_by (option_map (outcome_of settings read) o)) h ∙ b.named;
      written = ap is_written (segment_verdict settings link read r d rows) ∙ b.written;
      carried = d;
      carried_is = h;
      has = subst (λ ws. Has ws (segment_in d)) (past_is l settings link era older r sound) b.has;
    }

-- and its datagram what the record does
datagram_brings : Laws → (settings : PlainSettings) (link : Link) (older : List Item) (r : records.Packet) → IsSound settings link older
    → (era : ℕ) (Has : List Written → Written → Type 0) (b : Brings settings link era Has (item_of settings link older r) older)
    → calls.Brings era Has b.carried (outcome_of settings (read_after settings link older r) b.carried) (past_of settings link older r).calls
datagram_brings l settings link older r sound era Has b =
    let read = read_after settings link older r in
    let rows = l.packets.rows settings link older r b.carried b.carried_is in
    record {
      inward = into b.carried.side (sym (side_is l settings link older r b.carried b.carried_is) ∙ b.inward);
      named = sym (ap (λ o. era_by (option_map (outcome_of settings read) o)) b.carried_is) ∙ b.named;
      written = sym (ap is_written (segment_verdict settings link read r b.carried rows)) ∙ b.written;
      has = subst (λ ws. Has ws (segment_in b.carried)) (sym (past_is l settings link era older r sound)) b.has;
    }
  where
    into : (side : Side) → Some side ≡ Some Inward → goes_in side ≡ true
    into Inward e = refl
    into Outward e = absurd (cc)

-- the calls of a trace, by the segment of its last record
calls_are : Laws → (settings : PlainSettings) (link : Link) (item : Item) (older : List Item) → IsSound settings link (item ∷ older)
    → (segment : Option Datagram) → segment_after settings link older item.packet ≡ segment
    → flow_calls settings link (item ∷ older) ≡ called settings (past_of settings link older item.packet).calls (now_with older item.packet) segment
calls_are l settings link item older sound segment h =
    ap (λ (x : Item). flow_calls settings link (x ∷ older)) sound.lawful.1
    ∙ calls_with l.packets.rows l.packets.known l.packets.own settings link older item.packet sound.hops sound.octets.0 sound.octets.1 segment h

-- what is written with the last record, by its segment
written_with : Laws → (settings : PlainSettings) (link : Link) (era : ℕ) (item : Item) (older : List Item) → IsSound settings link (item ∷ older)
    → (segment : Option Datagram) → segment_after settings link older item.packet ≡ segment
    → written_in era (sent_in link (item ∷ older)) ≡ segments era (called settings (past_of settings link older item.packet).calls (now_with older item.packet) segment)
written_with l settings link era item older sound segment h =
    written_is l.packets settings link era (item ∷ older) sound ∙ ap (segments era) (calls_are l settings link item older sound segment h)

-- Each octet, and the end, was brought.

-- what was written for the last record
abbrev written_here : Link → (era : ℕ) → Item → List Written
written_here link era item = cond (is_era era item.entry.era && is_written item.entry.verdict) (segments_in (is_inward item.entry.side) (map (packet_in link) item.frames)) []

-- what is new with the last record
new_brought : {X : Type 0} (l : Laws) (settings : PlainSettings) (link : Link) (item : Item) (older : List Item) → IsSound settings link (item ∷ older)
    → (era base : ℕ) (q : List Written → Option X) (x : X) (Has : List Written → Written → Type 0) → Steps settings era base q x Has
    → HasNoOtherBase base (written_in era (sent_in link (item ∷ older))) → q (written_in era (sent_in link older)) ≡ None
    → q (written_in era (sent_in link (item ∷ older))) ≡ Some x → Brings settings link era Has item older
new_brought l settings link item older sound era base q x Has step only none has = by (segment_after settings link older item.packet) refl
  where
    r : records.Packet
    r = item.packet

    past : List Call
    past = (past_of settings link older r).calls

    before : IsSound settings link older
    before = none_before settings link item older sound

    none_then : q (segments era past) ≡ None
    none_then = ap q (past_is l settings link era older r before) ∙ none

    by : (segment : Option Datagram) → segment_after settings link older r ≡ segment → Brings settings link era Has item older
    by None h = absurd (some_none (sym none_then ∙ (sym (ap q (written_with l settings link era item older sound None h)) ∙ has)))
    by (Some d) h =
        let same = written_with l settings link era item older sound (Some d) h in
        let made = subst (AreOfSegments settings) (calls_are l settings link item older sound (Some d) h) (l.made settings link (item ∷ older) sound) in
        let brings = step past (now_with older r) d made (subst (HasNoOtherBase base) same only) none_then (sym (ap q same) ∙ has) in
        subst (λ y. Brings settings link era Has y older) (sym sound.lawful.1) (record_brings l settings link older r d before h era Has brings)

-- with one record more
added_later : (settings : PlainSettings) (link : Link) (era : ℕ) (Is : List Written → Type 0) (Has : List Written → Written → Type 0) (item : Item) (older : List Item)
    → IsAdded settings link era Is Has older → IsAdded settings link era Is Has (item ∷ older)
added_later settings link era Is Has item older b =
    record { newer = item ∷ b.newer; item = b.item; older = b.older; trace_is = ap (λ xs. item ∷ xs) b.trace_is; new = b.new; now = b.now; brings = b.brings }

-- each added octet was brought
pub brought_of : (settings : PlainSettings) (link : Link) (era : ℕ) (Is : List Written → Type 0) (Has : List Written → Written → Type 0) (trace : List Item)
    → IsAdded settings link era Is Has trace → IsBrought settings link era Has trace
brought_of settings link era Is Has trace b = record { newer = b.newer; item = b.item; older = b.older; trace_is = b.trace_is; brings = b.brings }

brought_by : {X : Type 0} (l : Laws) (settings : PlainSettings) (link : Link) (era base : ℕ) (q : List Written → Option X) (x : X) (Has : List Written → Written → Type 0)
    → q [] ≡ None → Stays q → Steps settings era base q x Has
    → (trace : List Item) → IsSound settings link trace → HasNoOtherBase base (written_in era (sent_in link trace)) → q (written_in era (sent_in link trace)) ≡ Some x
    → IsAdded settings link era (λ ws. q ws ≡ Some x) Has trace
brought_by l settings link era base q x Has empty stays step [] sound only has = absurd (some_none (sym empty ∙ has))
brought_by l settings link era base q x Has empty stays step (item ∷ older) sound only has =
    let before = written_in era (sent_in link older) in
    let more = written_here link era item in
    either_way q x before more stays has
    (λ was. added_later settings link era (λ ws. q ws ≡ Some x) Has item older
    (brought_by l settings link era base q x Has empty stays step older (none_before settings link item older sound) (other_before base before more only) was))
    (λ none. record {
      newer = [];
      item = item;
      older = older;
      trace_is = refl;
      new = λ e. some_none (sym none ∙ e);
      now = has;
      brings = new_brought l settings link item older sound era base q x Has step only none has;
    })

pub invents_nothing : Laws → LawfulInventsNothing
invents_nothing l settings link trace sound era base based =
    let only : HasNoOtherBase base (written_in era (sent_in link trace)) = λ number e. some_same (sym e ∙ based) in
    record {
      octets = λ offset octet has.
          brought_by l settings link era base (λ ws. first base ws offset) octet (calls.HasAt base offset octet) refl (λ ws more y e. (l.remains base ws more).octet_is offset y e)
          (λ older now d made alone none new. (l.brought settings older now d made era base alone).octets offset octet none new) trace sound only has;
      end = λ offset has.
          brought_by l settings link era base (λ ws. end_of base ws) offset (calls.EndsAt base offset) refl (λ ws more y e. (l.remains base ws more).end_is y e)
          (λ older now d made alone none new. (l.brought settings older now d made era base alone).end offset none new) trace sound only has;
    }

-- Each clash is real.

clash_is : (rule : Rule) → is_clash rule ≡ true → rule ≡ rules.TClash
clash_is rules.TClash e = refl
clash_is _ e = absurd (false≢true e)

-- a clash among those that pass a test passes it
clash_passes : (f : Rule → Bool) (xs : List Rule) → names_clash (filter f xs) ≡ true → f rules.TClash ≡ true
clash_passes f [] e = absurd (false≢true e)
clash_passes f (x ∷ xs) e = by (f x) (is_clash x) refl refl e (clash_passes f xs)
  where
    by : (kept clash : Bool) → f x ≡ kept → is_clash x ≡ clash → names_clash (cond kept (x ∷ filter f xs) (filter f xs)) ≡ true
        → (names_clash (filter f xs) ≡ true → f rules.TClash ≡ true) → f rules.TClash ≡ true
    by true true k c e more = sym (ap f (clash_is x c)) ∙ k
    by true false k c e more = more (sym (ap (λ b. b || names_clash (filter f xs)) c) ∙ e)
    by false clash k c e more = more e

either_names : (xs ys : List Rule) → names_clash xs ≡ false → names_clash (xs ++ ys) ≡ true → names_clash ys ≡ true
either_names [] ys none e = e
either_names (x ∷ xs) ys none e = by (is_clash x) refl none e (either_names xs ys)
  where
    by : (b : Bool) → is_clash x ≡ b → (is_clash x || names_clash xs) ≡ false → (is_clash x || names_clash (xs ++ ys)) ≡ true
        → (names_clash xs ≡ false → names_clash (xs ++ ys) ≡ true → names_clash ys ≡ true) → names_clash ys ≡ true
    by true c none e more = absurd (false≢true (sym none ∙ ap (λ b. b || names_clash xs) c))
    by false c none e more = more (sym (ap (λ b. b || names_clash xs) c) ∙ none) (sym (ap (λ b. b || names_clash (xs ++ ys)) c) ∙ e)

-- an entry that names a clash is of a record that no rule drops, and a rule that rewrites it is
-- T_CLASH
named_clash : (dropped : Option Rule) (held : Bool) (noted named : List Rule) → ((rule : Rule) → dropped ≡ Some rule → is_clash rule ≡ false) → names_clash noted ≡ false
    → names_clash (rules_by dropped held noted named) ≡ true → (dropped ≡ None) × (names_clash named ≡ true)
named_clash (Some rule) held noted named apart none e = absurd (false≢true (sym (ap (λ b. b || false) (apart rule refl)) ∙ e))
named_clash None true noted named apart none e = absurd (false≢true e)
named_clash None false noted named apart none e = (refl, either_names noted named none e)

dropped_apart : (settings : PlainSettings) (link : Link) (read : Read) (r : records.Packet) (rule : Rule) → dropped_by settings link read r ≡ Some rule → is_clash rule ≡ false
unfolding dropped_by
dropped_apart settings link read r rule e = by (is_clash rule) refl
  where
    passes : not (is_clash rule) ≡ true
    passes = found_passes (λ x. not (is_clash x)) (drops settings link read r) drop_rows rule refl e

    by : (b : Bool) → is_clash rule ≡ b → is_clash rule ≡ false
    by false c = c
    by true c = absurd (false≢true (sym (ap not c) ∙ passes))

named_holds : (settings : PlainSettings) (link : Link) (read : Read) (r : records.Packet) → names_clash (named_rows settings link read r) ≡ true → holds settings link read r rules.TClash ≡ true
unfolding named_rows
named_holds settings link read r e = clash_passes (holds settings link read r) (fix_rows ++ step_rows) e

note_names : (b : Bool) → names_clash (cond b (rules.TFull ∷ []) []) ≡ false
note_names true = refl
note_names false = refl

-- the record of an item that names a clash has a segment
clash_segment : Laws → (settings : PlainSettings) (link : Link) (older : List Item) (r : records.Packet) → names_clash (item_of settings link older r).entry.rules ≡ true
    → (d : Datagram) × (segment_after settings link older r ≡ Some d) × (era.dropped_by settings (view_of settings (past_of settings link older r).calls d) d ≡ None)
    × (era.t_clash (view_of settings (past_of settings link older r).calls d) (segment_in d) ≡ true)
clash_segment l settings link older r e = by (segment_after settings link older r) refl
  where
    read : Read
    read = read_after settings link older r

    parts : names_clash (noted_rows settings link read r) ≡ false → (dropped_by settings link read r ≡ None) × (names_clash (named_rows settings link read r) ≡ true)
    parts none = named_clash (dropped_by settings link read r) (is_held read) (noted_rows settings link read r) (named_rows settings link read r) (dropped_apart settings link read r) none e

    holds_here : names_clash (named_rows settings link read r) ≡ true → (segment : Option Datagram) → segment_after settings link older r ≡ segment
        → holds settings link (record read { segment = segment }) r rules.TClash ≡ true
    holds_here named segment h = subst (λ s. holds settings link (record read { segment = s }) r rules.TClash ≡ true) h (named_holds settings link read r named)

    by : (segment : Option Datagram) → segment_after settings link older r ≡ segment
        → (d : Datagram) × (segment_after settings link older r ≡ Some d) × (era.dropped_by settings (view_of settings (past_of settings link older r).calls d) d ≡ None)
        × (era.t_clash (view_of settings (past_of settings link older r).calls d) (segment_in d) ≡ true)
    by None h =
        let p = parts (ap names_clash (nothing_noted settings link read r h)) in
        absurd (false≢true (holds_here p.1 None h))
    by (Some d) h =
        let rows = l.packets.rows settings link older r d h in
        let p = parts (ap names_clash rows.noted ∙ note_names _) in
        (d, h, sym rows.dropped ∙ p.0, holds_here p.1 (Some d) h)

-- the list names a clash if its end does, and if a clash among others passes a test
names_right : (xs ys : List Rule) → names_clash ys ≡ true → names_clash (xs ++ ys) ≡ true
names_right [] ys e = e
names_right (x ∷ xs) ys e = by (is_clash x) (names_right xs ys e)
  where
    by : (b : Bool) → names_clash (xs ++ ys) ≡ true → (b || names_clash (xs ++ ys)) ≡ true
    by true rest = refl
    by false rest = rest

names_filtered : (f : Rule → Bool) (xs : List Rule) → f rules.TClash ≡ true → names_clash xs ≡ true → names_clash (filter f xs) ≡ true
names_filtered f [] passes e = e
names_filtered f (x ∷ xs) passes e = by (f x) (is_clash x) refl refl e (names_filtered f xs passes)
  where
    by : (kept clash : Bool) → f x ≡ kept → is_clash x ≡ clash → (is_clash x || names_clash xs) ≡ true → (names_clash xs ≡ true → names_clash (filter f xs) ≡ true)
        → names_clash (cond kept (x ∷ filter f xs) (filter f xs)) ≡ true
    by true true k c e more = ap (λ b. b || names_clash (filter f xs)) c
    by true false k c e more = ap (λ b. b || names_clash (filter f xs)) c ∙ more (sym (ap (λ b. b || names_clash xs) c) ∙ e)
    by false true k c e more = absurd (false≢true (sym k ∙ (ap f (clash_is x c) ∙ passes)))
    by false false k c e more = more (sym (ap (λ b. b || names_clash xs) c) ∙ e)

-- the rules of a datagram to which T_CLASH applies
outcome_names : (settings : PlainSettings) (v : View) (d : Datagram) (dropped : Option Rule) → dropped ≡ None → era.t_clash v (segment_in d) ≡ true
    → names_clash (outcome_by settings v d dropped (era.mended_by settings v d)).rules ≡ true
outcome_names settings v d None none clash = names_right (era.noted v d ++ d.fixes) (era.mended_by settings v d) (names_filtered (era.holds_era settings v d) era.mends clash refl)
outcome_names settings v d (Some rule) none clash = absurd (cc)

none_is : (o : Option Rule) → is_none o ≡ true → o ≡ None
none_is None e = refl
none_is (Some x) e = absurd (false≢true e)

named_exactly : Laws → (settings : PlainSettings) (link : Link) (item : Item) (older : List Item) → IsSound settings link (item ∷ older)
    → (names_clash item.entry.rules ≡ true) ↔ Contradicts settings link item older
named_exactly l settings link item older sound = (
  λ e. subst (λ x. Contradicts settings link x older) (sym sound.lawful.1) (real (clash_segment l settings link older r (subst (λ (x : Item). names_clash x.entry.rules ≡ true) sound.lawful.1 e))),
  λ c. subst (λ (x : Item). names_clash x.entry.rules ≡ true) (sym sound.lawful.1) (named (subst (λ x. Contradicts settings link x older) sound.lawful.1 c)),
)
  where
    r : records.Packet
    r = item.packet

    past : List Call
    past = (past_of settings link older r).calls

    before : IsSound settings link older
    before = none_before settings link item older sound

    made : (d : Datagram) → segment_after settings link older r ≡ Some d → AreOfSegments settings (call_of settings past (now_with older r) d ∷ past)
    made d h = subst (AreOfSegments settings) (calls_are l settings link item older sound (Some d) h) (l.made settings link (item ∷ older) sound)

    real : (d : Datagram) × (segment_after settings link older r ≡ Some d) × (era.dropped_by settings (view_of settings past d) d ≡ None) × (era.t_clash (view_of settings past d) (segment_in d) ≡ true)
        → Contradicts settings link (item_of settings link older r) older
    real (d, h, none, clash) =
        let c = (l.real settings past (now_with older r) d (made d h)).0 (ap₂ (λ a b. is_none a && b) none clash) in
        let same = past_is l settings link c.era older r before in
        let was = sym (ap (λ ws. first c.base ws c.offset) same) ∙ c.was in
        let brings = record_brings l settings link older r d before h c.era (calls.HasAt c.base c.offset c.other) c.brings in
        record {
          era = c.era;
          base = c.base;
          offset = c.offset;
          octet = c.octet;
          other = c.other;
          was = was;
          unacknowledged = subst (λ ws. pos (acked c.base ws) ≤ℤ c.offset) same c.unacknowledged;
          added = (invents_nothing l settings link older before c.era c.base brings.has.based).octets c.offset c.octet was;
          brings = brings;
          differ = c.differ;
        }

    named : Contradicts settings link (item_of settings link older r) older → names_clash (item_of settings link older r).entry.rules ≡ true
    named c =
        let d = c.brings.carried in
        let h = c.brings.carried_is in
        let v = view_of settings past d in
        let same = past_is l settings link c.era older r before in
        let clashing = (l.real settings past (now_with older r) d (made d h)).1 (record {
          era = c.era;
          base = c.base;
          offset = c.offset;
          octet = c.octet;
          other = c.other;
          was = ap (λ ws. first c.base ws c.offset) same ∙ c.was;
          unacknowledged = subst (λ ws. pos (acked c.base ws) ≤ℤ c.offset) (sym same) c.unacknowledged;
          brings = datagram_brings l settings link older r before c.era (calls.HasAt c.base c.offset c.other) c.brings;
          differ = c.differ;
        }) in
        let both = and_parts (is_none (era.dropped_by settings v d)) (era.t_clash v (segment_in d)) clashing in
        ap names_clash (segment_rules settings link (read_after settings link older r) r d (l.packets.rows settings link older r d h))
        ∙ outcome_names settings v d (era.dropped_by settings v d) (none_is (era.dropped_by settings v d) both.0) both.1

pub clashes_are_real : Laws → LawfulClashesAreReal
clashes_are_real l settings link [] sound = tt
clashes_are_real l settings link (item ∷ older) sound =
    (clashes_are_real l settings link older (none_before settings link item older sound), named_exactly l settings link item older sound)

-- no entry of an era whose records agree names a clash
pub without_clash : (settings : PlainSettings) (link : Link) (era : ℕ) (trace : List Item) → NamesEachClash settings link trace → IsConsistent settings link era trace
    → AllByRecursion (λ item. item.entry.era ≡ Some era → names_clash item.entry.rules ≡ false) trace
without_clash settings link era [] real same = tt
without_clash settings link era (item ∷ older) real same = (here, without_clash settings link era older real.0 same.0)
  where
    at : (n : ℕ) → n ≡ era → (base : ℕ) (offset : ℤ) (octet other : ℕ) → IsBrought settings link n (calls.HasAt base offset octet) older
        → pos (acked base (written_in n (sent_in link older))) ≤ℤ offset → Brings settings link n (calls.HasAt base offset other) item older → octet ≡ other
    at n is base offset octet other a past b =
        same.1 base offset octet other (subst (λ x. IsBrought settings link x (calls.HasAt base offset octet) older) is a)
        (subst (λ x. pos (acked base (written_in x (sent_in link older))) ≤ℤ offset) is past) (subst (λ x. Brings settings link x (calls.HasAt base offset other) item older) is b)

    here : item.entry.era ≡ Some era → names_clash item.entry.rules ≡ false
    here named = false_from_ne_true (names_clash item.entry.rules) (λ e.
        let c = real.1.0 e in
        let is : c.era ≡ era = let own = c.brings.named in cc in
        c.differ (at c.era is c.base c.offset c.octet c.other
        (brought_of settings link c.era (λ ws. first c.base ws c.offset ≡ Some c.octet) (calls.HasAt c.base c.offset c.octet) older c.added) c.unacknowledged c.brings))

pub consistent_without_clash : LawfulClashesAreReal → ConsistentIsWithoutClash
consistent_without_clash real settings link trace sound era same = without_clash settings link era trace (real settings link trace sound) same
