-- A view with --evidence that finds none: each line that it is about passed, so the recorded
-- packets were read as those that were written.
use Rattle.std.proofs.Common.{◌≡◌, ◌≢◌, ◌⊎◌, inl, inr, ℕ, zero, suc, ◌==◌, ◌&&◌, ◌||◌, not, if◌then◌else◌, Bool, true, false, List, [], ◌∷◌, ◌++◌, length, Option, Some, None, eqb-true, refl, sym, ap, ◌∙◌, subst, arith}
use Rattle.std.specs.Prelude.{option_map}
use Rattle.edge_io.specs.FaultCounts.{next_count}
use Rattle.wire_base.specs.declared.address.Link.{Link}
use Rattle.wire_base.specs.declared.address.Side.{Side}
use Rattle.wire_base.specs.declared.address.Side.TheVariants.{Inward, Outward}
use Rattle.wire_base.specs.declared.address.Prefix.{Prefix}
use Rattle.wire_base.specs.Frames.{kind_of, packet_in}
use Rattle.wire_base.specs.Ipv4 as ip
use Rattle.wire_base.specs.Prefixes.{holds}
use Rattle.pcap_file.specs.declared.head.Head.{Head}
use Rattle.pcap_file.specs.Records.{Packet}
use Rattle.rule_book.specs.Entries.{PlainEntry}
use Rattle.rule_book.specs.declared.entry.Verdict.TheVariants as verdicts
use Rattle.norm_settings.specs.SettingValues.{AreInRange, PlainSettings}
use Rattle.frame_view.specs.Flows as flows
use Rattle.frame_view.specs.FrameParts.{has_ip_header, is_ip}
use Rattle.ip_rules.specs.RuleRows.{carries_ip}
use Rattle.norm_engine.specs.Agreement.{AtEachHistory}
use Rattle.norm_engine.specs.Items.{Item}
use Rattle.norm_engine.specs.RecordedHost.{AddressPair, AreWrittenAsRecorded, IsOfPair, PassInwards, WasReadSo, UnchangedWasReadSo, any_record, has_addresses, is_readable, may_have_pair}
use Rattle.norm_engine.specs.WrittenTrace.{written}
use Rattle.both_sides.specs.RunTraces.{LawfulRun, RunTrace, one, trace_in, two}
use Rattle.bridge_run.specs.RecordedHost.{NormalizedWasReadSo}
use Rattle.bridge_run.specs.Theorem.{Normalized}
use Rattle.run_view.specs.ChosenRecords.{chooses_records, either, has_choice, has_host, is_evidence, is_outward, meets_all, met_by, met_of}
use Rattle.run_view.specs.ShownEvents.{Event, chosen_of, ends_chosen}
use Rattle.run_view.specs.Items.{AreItems, IsFirstLine, IsSecondLine, Line, firsts, flow_at, is_second, line_of, lines_of, packets_in, packets_of}
use Rattle.run_view.specs.Items as view
use Rattle.run_view.specs.LineJudgments.{is_pass}
use Rattle.run_view.specs.ViewLaws.{AreSame, ConditionsChoose, ItemsAreOne}
use Rattle.run_view.specs.StatusMeanings.{IsStatusOf, Viewed}
use Rattle.run_view.specs.ViewWords.{asked_in}
use Rattle.run_view.specs.declared.words.Asked.{Asked}
use Rattle.run_view.specs.declared.form.Form.TheVariants.{Version2}
use Rattle.run_view.proofs.Numbered.{newest_is}
use Rattle.run_laws.specs.ViewEvidence.{AsksForEvidence, FindsNone, ViewsFindEvidence, is_of_host}
use Rattle.run_laws.specs.ViewedRuns.{FitsACapture}
use Rattle.run_laws.proofs.RunItems.{pass_is, items_one, line_one}
use Rattle.run_laws.proofs.Traces.{ViewLaws}
use Rattle.run_laws.proofs.Views.{Whole, all_files, run_form, run_items}

-- ---- no record is chosen

none_chosen : (chosen : ℕ) → IsStatusOf true chosen 0 → chosen ≡ 0
none_chosen chosen is = by (chosen == 0) refl is where
  by : (none : Bool) → (chosen == 0) ≡ none → ◌≡◌ {A = ℕ} 0 (if none then 0 else 11) → chosen ≡ 0
  by true e same = eqb-true chosen 0 e
  by false e same = absurd (omega (arith, same))

none_counted : (chosen : Bool) (n : ℕ) → (if chosen then next_count n else n) ≡ 0 → (chosen ≡ false) × (n ≡ 0)
none_counted true n is = absurd (omega (arith, is))
none_counted false n is = (refl, is)

no_evidence : (owed : ℕ) (chooses evidence host : Bool) → owed ≡ 0 → chooses ≡ true → host ≡ true → ((owed == 0) && (chooses && (evidence && host))) ≡ false
    → evidence ≡ false
no_evidence zero true true true none choose at is = absurd (cc)
no_evidence zero true false host none choose at is = refl
no_evidence zero true true false none choose at is = absurd (cc)
no_evidence zero false evidence host none choose at is = absurd (cc)
no_evidence (suc n) chooses evidence host none choose at is = absurd (omega (arith, none))

outward_is : (side : Option Side) → is_outward side ≡ true → side ≡ Some Outward
outward_is None is = absurd (cc)
outward_is (Some Inward) is = absurd (cc)
outward_is (Some Outward) is = refl

passes : (entry : PlainEntry) → is_evidence entry ≡ false → entry.side ≢ Some Outward → entry.verdict ≡ verdicts.Pass
passes entry none inwards = by (is_outward entry.side) (is_pass entry.verdict) refl refl none where
  by : (outward passed : Bool) → is_outward entry.side ≡ outward → is_pass entry.verdict ≡ passed → (not outward && not passed) ≡ false → entry.verdict ≡ verdicts.Pass
  by true passed out is so = absurd (inwards (outward_is entry.side out))
  by false true out is so = pass_is entry.verdict is
  by false false out is so = absurd (cc)

-- what the words ask for
abbrev evidence_asked : Asked → Option Prefix → Asked
evidence_asked asked host =
    record asked { rules = None; era = None; verdicts = None; sides = None; host = host; evidence = true }

asked_is : (words : List (List ℕ)) (host : Option Prefix) (asks : AsksForEvidence words host) → asks.asked ≡ evidence_asked asks.asked host
asked_is words host asks =
    λ i.
    record {
      print = asks.asked.print;
      rules = asks.rules i;
      era = asks.era i;
      verdicts = asks.verdicts i;
      sides = asks.sides i;
      host = asks.host_is i;
      evidence = asks.evidence i;
      summary = asks.asked.summary;
    }

gives_condition : (asked : Asked) (host : Option Prefix) → has_choice (evidence_asked asked host) ≡ true
gives_condition asked None = refl
gives_condition asked (Some prefix) = refl

-- ---- each line is one of a record that passed

heads_same : {T : Type 0} (x y : T) (xs ys : List T) → x ∷ xs ≡ y ∷ ys → x ≡ y
heads_same x y xs ys same = cc

tails_same : {T : Type 0} (x y : T) (xs ys : List T) → x ∷ xs ≡ y ∷ ys → xs ≡ ys
tails_same x y xs ys same = cc

module _ (asked : Asked) (host : Option Prefix) (head : Head) (chooses : chooses_records (evidence_asked asked host) ≡ true) (concerns : Packet → Bool)
    (about : (r : Packet) → concerns r ≡ true → has_host host true (flow_at head.link r.octets) ≡ true) where
  abbrev ask : Asked
  ask = evidence_asked asked host

  pub passed_all : (trace : List Item) (items : List view.Item) → AreItems Version2 items → lines_of items ≡ lines_of (items_one trace)
      → packets_of items ≡ packets_of (items_one trace) → chosen_of ask head items ≡ 0 → PassInwards concerns trace
  passed_all [] items are lines packets none = tt
  passed_all (t ∷ older) [] are lines packets none = absurd (omega (arith, ap length lines))
  passed_all (t ∷ older) (x ∷ items) are lines packets none =
      (λ concerned inwards. passes t.entry (quiet concerned) inwards, passed_all older items are.1 rest others counted.1) where
        both : line_of x ∷ lines_of items ≡ line_of (line_one t) ∷ lines_of (items_one older)
        both = lines

        first : line_of x ≡ line_of (line_one t)
        first = heads_same (line_of x) (line_of (line_one t)) (lines_of items) (lines_of (items_one older)) both

        rest : lines_of items ≡ lines_of (items_one older)
        rest = tails_same (line_of x) (line_of (line_one t)) (lines_of items) (lines_of (items_one older)) both

        alone : is_second x ≡ false
        alone = ap (λ (l : Line). l.second) first

        entry_is : x.entry ≡ t.entry
        entry_is = ap (λ (l : Line). l.entry) first

        records : x.packet ∷ packets_of items ≡ record t.packet { side = None } ∷ packets_of (items_one older)
        records = sym (ap (λ (b : Bool). packets_in (if b then firsts items else x ∷ firsts items)) alone) ∙ packets

        packet_is : x.packet ≡ record t.packet { side = None }
        packet_is = heads_same x.packet (record t.packet { side = None }) (packets_of items) (packets_of (items_one older)) records

        others : packets_of items ≡ packets_of (items_one older)
        others = tails_same x.packet (record t.packet { side = None }) (packets_of items) (packets_of (items_one older)) records

        counted : (ends_chosen ask head (x ∷ items) ≡ false) × (chosen_of ask head items ≡ 0)
        counted = none_counted (ends_chosen ask head (x ∷ items)) (chosen_of ask head items) none

        owes : IsFirstLine Version2 items x ⊎ IsSecondLine items x → x.owed ≡ 0
        owes (inl turn) = turn.owes
        owes (inr turn) = let e = sym (newest_is items x turn.newest) ∙ alone in absurd (cc)

        met : ends_chosen ask head (x ∷ items) ≡ ((x.owed == 0) && (chooses_records ask && (is_evidence x.entry && has_host host true (flow_at head.link x.packet.octets))))
        met = by (is_second x) alone where
          by : (b : Bool) → b ≡ false
              → ((x.owed == 0) && (chooses_records ask && meets_all (if b then either (met_of ask head items) (met_by ask b x.entry (flow_at head.link x.packet.octets)) else met_by ask b x.entry (flow_at head.link x.packet.octets))))
              ≡ ((x.owed == 0) && (chooses_records ask && (is_evidence x.entry && has_host host true (flow_at head.link x.packet.octets))))
          by false is = refl
          by true is = absurd (cc)

        quiet : concerns t.packet ≡ true → is_evidence t.entry ≡ false
        quiet concerned =
            let at : has_host host true (flow_at head.link x.packet.octets) ≡ true =
            ap (λ (p : Packet). has_host host true (flow_at head.link p.octets)) packet_is ∙ about t.packet concerned in
            sym (ap is_evidence entry_is)
            ∙ no_evidence x.owed (chooses_records ask) (is_evidence x.entry) (has_host host true (flow_at head.link x.packet.octets)) (owes are.0.turn) chooses at
            (sym met ∙ counted.0)

-- ---- a record that may be of a pair of addresses is one of the host

header_read : (short other bad : Bool) → (not short && not other && not bad) ≡ true → (not short && not other) ≡ true
header_read false false bad is = refl
header_read false true bad is = absurd (cc)
header_read true other bad is = absurd (cc)

has_them : (carries readable addresses : Bool) → readable ≡ true → (carries && (not readable || addresses)) ≡ true → addresses ≡ true
has_them true true addresses read is = is
has_them false readable addresses read is = absurd (cc)
has_them true false addresses read is = absurd (cc)

right : (a b : Bool) → (a && b) ≡ true → b ≡ true
right true b is = is
right false b is = absurd (cc)

left : (a b : Bool) → (a && b) ≡ true → a ≡ true
left true b is = refl
left false b is = absurd (cc)

pub of_host : (host : Prefix) (pair : AddressPair) (link : Link) (r : Packet) → is_of_host host pair ≡ true → may_have_pair link pair r ≡ true
    → has_host (Some host) true (flow_at link r.octets) ≡ true
unfolding flow_at
of_host host pair link r of may = by (is_ip (kind_of link r.octets) && has_ip_header p) refl where
  p : List ℕ
  p = packet_in link r.octets

  by : (b : Bool) → (is_ip (kind_of link r.octets) && has_ip_header (packet_in link r.octets)) ≡ b
      → has_host (Some host) true (option_map flows.flow_of (if b then Some (packet_in link r.octets) else None)) ≡ true
  by false is = refl
  by true is =
      let header = right (is_ip (kind_of link r.octets)) (has_ip_header (packet_in link r.octets)) is in
      let readable = header_read (ip.is_short (packet_in link r.octets)) (ip.has_other_version (packet_in link r.octets)) (ip.has_bad_header_length (packet_in link r.octets)) header in
      let them = has_them (carries_ip link r.octets) (is_readable link r.octets) (has_addresses link pair r.octets) readable may in
      let source = eqb-true (ip.source (packet_in link r.octets)) pair.outside (left (ip.source (packet_in link r.octets) == pair.outside) (ip.destination (packet_in link r.octets) == pair.inside) them) in
      let destination = eqb-true (ip.destination (packet_in link r.octets)) pair.inside (right (ip.source (packet_in link r.octets) == pair.outside) (ip.destination (packet_in link r.octets) == pair.inside) them) in
      (λ i. holds host (source i) || holds host (destination i)) ∙ of

-- ---- the run

at_end : (P : List Item → Type 0) (trace : List Item) → AtEachHistory P trace → P trace
at_end P [] all = all
at_end P (item ∷ older) all = all.1

-- the laws that this is based on
pub record EvidenceLaws : Type 0 where
  pub views : ViewLaws
  pub one : ItemsAreOne
  pub choose : ConditionsChoose
  pub read : NormalizedWasReadSo

module _ (laws : EvidenceLaws) (settings : PlainSettings) (source' : Option (List ℕ)) (input held capture told report : List ℕ) (range : AreInRange settings)
    (single : settings.both ≡ false) (uncut : settings.mtu ≡ None)
    (done : Normalized settings (Some input) source' (Some held) (Some (held ++ capture)) (Some told) (Some (told ++ report)))
    (small : FitsACapture settings done.head.link done.run) (words : List (List ℕ)) (old new : Option (List Event))
    (viewed : Viewed words (Some input) (Some capture) (Some report) old new 0) where
  abbrev link : Link
  link = done.head.link

  whole : Whole laws.views settings source' input held capture told report range done small
  whole = all_files laws.views settings source' input held capture told report range done small

  same : (viewed.viewed.head ≡ whole.0.head) × AreSame viewed.viewed.form whole.0.form viewed.viewed.items whole.0.items
  same =
      laws.one input viewed.viewed.head whole.0.head viewed.viewed.form whole.0.form viewed.viewed.items whole.0.items viewed.viewed.are whole.0.are
      (sym viewed.viewed.lines ∙ whole.0.lines) viewed.viewed.records whole.0.records

  link_is : viewed.viewed.head.link ≡ link
  link_is = ap (λ (h : Head). h.link) same.0 ∙ whole.2.link_is

  -- each line that the words are about passed
  passed : (trace : List Item) → done.run ≡ one trace → (host : Option Prefix) (asks : AsksForEvidence words host) (concerns : Packet → Bool)
      → ((r : Packet) → concerns r ≡ true → has_host host true (flow_at viewed.viewed.head.link r.octets) ≡ true)
      → PassInwards concerns (written settings link trace)
  passed trace is host asks concerns about =
      let asked : viewed.asked ≡ asks.asked = let mine = viewed.accepted in let yours = asks.accepted in cc in
      let own : viewed.asked ≡ evidence_asked asks.asked host = asked ∙ asked_is words host asks in
      let accepted : asked_in words ≡ Some (evidence_asked asks.asked host) = viewed.accepted ∙ ap (λ a. Some a) own in
      let S : Asked → Type 0 = λ a. IsStatusOf a.evidence (chosen_of a viewed.viewed.head viewed.viewed.items) 0 in
      let none =
      none_chosen (chosen_of (evidence_asked asks.asked host) viewed.viewed.head viewed.viewed.items) (subst S own viewed.viewed.status_is) in
      let form_is : viewed.viewed.form ≡ Version2 = same.1.form_is ∙ whole.2.form_is ∙ ap run_form is in
      let items_are : whole.0.items ≡ items_one (written settings link trace) = whole.2.items_are ∙ ap (run_items settings link) is in
      passed_all asks.asked host viewed.viewed.head
      (laws.choose words (evidence_asked asks.asked host) accepted (gives_condition asks.asked host)) concerns about (written settings link trace)
      viewed.viewed.items (subst (λ f. AreItems f viewed.viewed.items) form_is viewed.viewed.are) (same.1.lines ∙ ap lines_of items_are)
      (same.1.packets ∙ ap packets_of items_are) none

  by_run : (run : RunTrace) → done.run ≡ run → LawfulRun settings link run → UnchangedWasReadSo settings link (written settings link (trace_in run))
      → FindsNone settings link (written settings link (trace_in run)) words
  by_run (two trace mirror) is lawful read = let wrong : true ≡ false = sym lawful.0 ∙ single in absurd (cc)
  by_run (one trace) is lawful read =
      record {
        all =
            λ asks.
            let pass = passed trace is None asks any_record (λ r concerned. refl) in
            record {
              as_recorded = at_end (λ h. PassInwards any_record h → AreWrittenAsRecorded settings link any_record h) (written settings link trace) read.all_written pass;
              read = λ era of. at_end (λ h. PassInwards any_record h → (era : ℕ) → WasReadSo settings link era h) (written settings link trace) read.all_read pass era;
            };
        host =
            λ host pair asks of.
            let pass =
            passed trace is (Some host) asks (may_have_pair link pair)
            (λ r concerned. subst (λ l. has_host (Some host) true (flow_at l r.octets) ≡ true) (sym link_is) (of_host host pair link r of concerned)) in
            record {
              as_recorded = at_end (λ h. PassInwards (may_have_pair link pair) h → AreWrittenAsRecorded settings link (may_have_pair link pair) h) (written settings link trace) (read.pair_written pair) pass;
              read = λ era in_pair. at_end (λ h. PassInwards (may_have_pair link pair) h → (era : ℕ) → IsOfPair link pair era h → WasReadSo settings link era h) (written settings link trace) (read.pair_read pair) pass era in_pair;
            };
      }

  pub finds_none : FindsNone settings link (written settings link (trace_in done.run)) words
  finds_none =
      by_run done.run refl done.lawful
      (laws.read settings (Some input) source' (Some held) (Some (held ++ capture)) (Some told) (Some (told ++ report)) done single uncut)

pub views_find_evidence : EvidenceLaws → ViewsFindEvidence
views_find_evidence laws settings source' input held capture told report range single uncut done small words old new viewed =
    finds_none laws settings source' input held capture told report range single uncut done small words old new viewed
