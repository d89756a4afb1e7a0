use Rattle.std.proofs.Common.{rules, ◌≡◌, ◌<◌, ◌≤◌, ◌+◌, ◌-◌, ◌^◌, ℕ, List, ◌∷◌, length, max, Some, refl, sym, ap, subst, ◌∙◌, arith}
use Rattle.std.proofs.Math.Logic.{∥∥₁_map, ∥∥₁_elim}
use Rattle.std.specs.Coded.{le_prop}
use Rattle.std.proofs.Math.Nat.{ℕ_set}
use Rattle.wire_base.specs.Checksums.{pseudo_sum}
use Rattle.ipv4_codec.specs.declared.header.Ipv4.{Ipv4}
use Rattle.tcp_codec.specs.HeaderFields.{fields_of}
use Rattle.ip_rules.specs.Datagrams.{IsDatagram, frames_of}
use Rattle.norm_settings.specs.SettingValues.{plain_settings}
use Rattle.pcap_file.specs.RecordReading.{shown}
use Rattle.rule_book.specs.declared.entry.Entry.{Entry}
use Rattle.rule_book.specs.Entries.{PlainEntry, plain}
use Rattle.ip_rules.specs.declared.rows.IpPacket.{IpPacket}
use Rattle.tcp_codec.specs.declared.header.Tcp.{Tcp}
use Rattle.tcp_norm.specs.Calls.{segments}
use Rattle.tcp_norm.specs.RuleViews.{idle_at}
use Rattle.tcp_norm.specs.IdleEnds.{idled}
use Rattle.norm_engine.specs.working.RecordJudgment.{Segment, judgment_with}
use Rattle.tcp_norm.specs.TableAndStore as flows
use Rattle.reassembly.specs.Calls as reassembly
use Rattle.reassembly.specs.AssemblyState as fragments
use Rattle.tcp_norm.specs.Outcomes.{expiry_of, call_of}
use Rattle.norm_engine.specs.Items.{Item, now_with}
use Rattle.norm_engine.specs.Fragments.{fragment_in, piece_calls, with_offered}
use Rattle.norm_engine.specs.Calls.{flow_calls}
use Rattle.norm_engine.specs.Trace.{Read, item_of, read_after, outcome_of}
use Rattle.norm_engine.specs.EngineState.{Engaged, StandsFor, frames_given}
use Rattle.norm_engine.specs.working.EngineAnswers.{Judges, Kept, IsTaken, read_with, entry_for}
use Rattle.norm_engine.proofs.Items.{segment_entry, segment_frames, taken_rows, other_entry}
use Rattle.norm_engine.proofs.EngineStates.{past_with, as_given, unsent_of, few_idle, room_for, no_segment, no_segment_of, short_read, other_frames, pieces_stand, segment_stands, other_stands}
use Rattle.norm_engine.proofs.engine.Engine.step_into.Goals as goal
use Rattle.norm_engine.proofs.engine.Engine.step_into.Goals.{After-judge, In-Segment}

-- the engine before the record, and what the rules read at a history that it represents
abbrev engaged : After-judge → Engaged
engaged c = record { settings = plain_settings c.self.inside.settings; link = c.self.inside.link; records = c.self.inside.records; latest = c.self.inside.latest; norm = c.self.inside.norm; pieces = c.self.inside.pieces }

abbrev read : After-judge → List Item → Read
read c history = read_after (plain_settings c.self.inside.settings) c.self.inside.link history (shown c.args.input.now)

record AtHistory (c : After-judge) (history : List Item) : Type 0 where
  now : c.max-self-inside.result ≡ now_with history (shown c.args.input.now)
  idle : c.expire.new.entry.ended.items ≡ (read c history).past.idle
  number : c.expire.new.entry.number ≡ length history + 1
  before : flows.StandsFor (plain_settings c.self.inside.settings) c.expire.new.self (read c history).past.calls
  gone : fragments.StandsFor (plain_settings c.self.inside.settings) c.expire-forgotten.new.self (read c history).past.pieces
  pieces : fragments.StandsFor (plain_settings c.self.inside.settings) c.judge.new.pieces (piece_calls (plain_settings c.self.inside.settings) c.self.inside.link (item_of (plain_settings c.self.inside.settings) c.self.inside.link history (shown c.args.input.now) ∷ history))
  judged : Judges (plain_settings c.self.inside.settings) c.self.inside.link (read c history) (shown c.args.input.now) (judgment_with c.judge.new.parsed c.judge.result)

at_history : (c : After-judge) (history : List Item) → StandsFor (engaged c) history → AtHistory c history
at_history c history stands =
    let calls = flow_calls (plain_settings c.self.inside.settings) c.self.inside.link history in
    let offers = piece_calls (plain_settings c.self.inside.settings) c.self.inside.link history in
    let now : c.max-self-inside.result ≡ now_with history (shown c.args.input.now) = c.max-self-inside.ensures ∙ ap (λ n. max n c.args.input.now.seconds) stands.latest in
    let before = subst (λ n. flows.StandsFor (plain_settings c.self.inside.settings) c.expire.new.self (expiry_of (plain_settings c.self.inside.settings) calls n ∷ calls)) now (c.expire.ensures.stands (plain_settings c.self.inside.settings) calls stands.flows) in
    let left = c.expire-forgotten.ensures.stands (plain_settings c.self.inside.settings) offers stands.pieces in
    let gone = subst (λ n. fragments.StandsFor (plain_settings c.self.inside.settings) c.expire-forgotten.new.self (reassembly.expiry n ∷ offers)) now left in
    record {
      now = now;
      idle = c.expire.ensures.entry (plain_settings c.self.inside.settings) calls stands.flows ∙ ap (λ n. idled (λ number. segments number calls) (idle_at (plain_settings c.self.inside.settings) n calls)) now;
      number = ap (λ (e : Entry). e.number) c.expire.ensures.rest ∙ (ap (λ (e : PlainEntry). e.number) c.renew.ensures ∙ ap (λ n. n + 1) stands.counted);
      before = before;
      gone = gone;
      pieces = pieces_stand (plain_settings c.self.inside.settings) c.self.inside.link history (shown c.args.input.now) c.judge.new.pieces c.max-self-inside.result now (c.judge.ensures.pieces (reassembly.expiry c.max-self-inside.result ∷ offers) left);
      judged = c.judge.ensures.rows (read c history).past before gone;
    }

taken : (c : In-Segment) (k : Kept (plain_settings c.self.inside.settings) c.self.inside.norm c.self.inside.pieces c.self.inside.records c.self.inside.latest)
    → IsTaken (plain_settings c.self.inside.settings) c.self.inside.link (read_with (plain_settings c.self.inside.settings) c.self.inside.link (past_with (plain_settings c.self.inside.settings) c.max-self-inside.result k.calls k.offers) (shown c.args.input.now)) (shown c.args.input.now) c.judge.new.parsed.packet c.judge.new.parsed.head
taken c k =
    c.in-Segment.ensures.rows (past_with (plain_settings c.self.inside.settings) c.max-self-inside.result k.calls k.offers) (c.expire.ensures.stands (plain_settings c.self.inside.settings) k.calls k.stands)
    (c.expire-forgotten.ensures.stands (plain_settings c.self.inside.settings) k.offers k.holds)

pub expire-requires-clause-later : goal.expire-requires-clause-later
expire-requires-clause-later c = ∥∥₁_elim c.self.invariant.2 le_prop (λ k. let now = c.max-self-inside.ensures in let later = k.later in omega (arith, now, later))

pub expire-forgotten-requires : goal.expire-forgotten-requires
expire-forgotten-requires c = ∥∥₁_elim c.self.invariant.2 le_prop (λ k. let now = c.max-self-inside.ensures in let passed = k.passed in omega (arith, now, passed))

pub take_into-requires-clause-short : goal.take_into-requires-clause-short
take_into-requires-clause-short c = ∥∥₁_elim c.self.invariant.2 le_prop (λ k. (taken (goal.at.take_into-requires-clause-short c).In-Segment k).fits)

pub take_into-requires-clause-fields : goal.take_into-requires-clause-fields
take_into-requires-clause-fields c = λ outward.
    let six : c.judge.new.parsed.packet.head.protocol ≡ 6 = ∥∥₁_elim c.self.invariant.2 (hlevel ℕ_set) (λ k.
    let t = (taken (goal.at.take_into-requires-clause-fields c).In-Segment k) in
    sym (ap (λ (h : Ipv4). h.protocol) t.is.head) ∙ t.protocol) in
    c.in-Segment.ensures.read.fields
    ∙ ap (λ n. fields_of (pseudo_sum c.judge.new.parsed.packet.head.src.0 c.judge.new.parsed.packet.head.dst.0 n (length c.judge.new.parsed.packet.payload.now)) c.judge.new.parsed.packet.payload.now) six

pub take_into-requires-clause-frame : goal.take_into-requires-clause-frame
take_into-requires-clause-frame c = λ none. ∥∥₁_elim c.self.invariant.2 le_prop (λ k. (taken (goal.at.take_into-requires-clause-frame c).In-Segment k).short none)

pub take_into-requires-clause-fixes : goal.take_into-requires-clause-fixes
take_into-requires-clause-fixes c = ∥∥₁_elim c.self.invariant.2 le_prop (λ k. (taken (goal.at.take_into-requires-clause-fixes c).In-Segment k).few)

pub take_into-requires-clause-ended : goal.take_into-requires-clause-ended
take_into-requires-clause-ended c = ∥∥₁_elim c.self.invariant.2 le_prop (λ k.
    subst (λ es. length es ≤ 2) (sym (c.expire.ensures.entry (plain_settings c.self.inside.settings) k.calls k.stands)) (few_idle (plain_settings c.self.inside.settings) c.max-self-inside.result k.calls (λ number. segments number k.calls)))

pub take_into-requires-clause-few : goal.take_into-requires-clause-few
take_into-requires-clause-few c = ∥∥₁_elim c.self.invariant.2 le_prop (λ k.
    let new = (c.expire.ensures.stands (plain_settings c.self.inside.settings) k.calls k.stands).calls_is in
    let old = k.stands.calls_is in
    let few = k.few in
    let records : c.self.inside.records < 2 ^ 32 - 1 = subst (λ (e : Engaged). e.records < 2 ^ 32 - 1) (sym c.self.view_is) c.requires in
    omega (arith, new, old, few, records))

pub take_into-requires-clause-later : goal.take_into-requires-clause-later
take_into-requires-clause-later c = ∥∥₁_elim c.self.invariant.2 le_prop (λ k.
    let new = (c.expire.ensures.stands (plain_settings c.self.inside.settings) k.calls k.stands).latest_is in
    let old = k.stands.latest_is in
    let later = k.later in
    let now = c.max-self-inside.ensures in
    omega (arith, new, old, later, now))

pub invariant_of-self : goal.invariant_of-self
invariant_of-self c = (
  c.self.invariant.0,
  c.self.invariant.1,
  ∥∥₁_map c.self.invariant.2 (λ k.
      let t = taken (goal.at.invariant_of-self c).In-Segment k in
      let before = (c.expire.ensures.stands (plain_settings c.self.inside.settings) k.calls k.stands) in
      let calls = expiry_of (plain_settings c.self.inside.settings) k.calls c.max-self-inside.result ∷ k.calls in
      let is = subst (λ link. IsDatagram c.judge.new.parsed.packet link t.own) (sym c.link_octets-link.ensures.octets) t.is in
      let stands = c.take_into.ensures.stands (plain_settings c.self.inside.settings) calls t.own before is in
      record { calls = call_of (plain_settings c.self.inside.settings) calls c.max-self-inside.result t.own ∷ calls; stands = stands; later = omega (arith, stands.latest_is, k.stands.latest_is, k.later, c.max-self-inside.ensures); few = omega (arith, stands.calls_is, k.stands.calls_is, k.few); offers = with_offered (plain_settings c.self.inside.settings) (fragment_in (plain_settings c.self.inside.settings) c.self.inside.link (shown c.args.input.now)) c.max-self-inside.result (reassembly.expiry c.max-self-inside.result ∷ k.offers); holds = c.judge.ensures.pieces (reassembly.expiry c.max-self-inside.result ∷ k.offers) (c.expire-forgotten.ensures.stands (plain_settings c.self.inside.settings) k.offers k.holds); passed = c.judge.ensures.passed }),
)

pub send-as_read-requires : goal.send-as_read-requires
send-as_read-requires c = record {
  empty = c.clear.ensures;
  room = search rules;
  hops = c.self.invariant.0.hops;
  fits = room_for (plain_settings c.self.inside.settings) c.self.inside.link (shown c.args.input.now) c.judge.new.parsed.packet c.judge.new.parsed.head c.judge.result (∥∥₁_map c.self.invariant.2 (λ k. (read_with (plain_settings c.self.inside.settings) c.self.inside.link (past_with (plain_settings c.self.inside.settings) c.max-self-inside.result k.calls k.offers) (shown c.args.input.now), c.judge.ensures.rows (past_with (plain_settings c.self.inside.settings) c.max-self-inside.result k.calls k.offers) (c.expire.ensures.stands (plain_settings c.self.inside.settings) k.calls k.stands) (c.expire-forgotten.ensures.stands (plain_settings c.self.inside.settings) k.offers k.holds))));
}

pub invariant_of-self-in_default : goal.invariant_of-self-in_default
invariant_of-self-in_default c = (
  c.self.invariant.0,
  c.self.invariant.1,
  ∥∥₁_map c.self.invariant.2 (λ k.
      let stands = (c.expire.ensures.stands (plain_settings c.self.inside.settings) k.calls k.stands) in
      record { calls = expiry_of (plain_settings c.self.inside.settings) k.calls c.max-self-inside.result ∷ k.calls; stands = stands; later = omega (arith, stands.latest_is, k.stands.latest_is, k.later, c.max-self-inside.ensures); few = omega (arith, stands.calls_is, k.stands.calls_is, k.few); offers = with_offered (plain_settings c.self.inside.settings) (fragment_in (plain_settings c.self.inside.settings) c.self.inside.link (shown c.args.input.now)) c.max-self-inside.result (reassembly.expiry c.max-self-inside.result ∷ k.offers); holds = c.judge.ensures.pieces (reassembly.expiry c.max-self-inside.result ∷ k.offers) (c.expire-forgotten.ensures.stands (plain_settings c.self.inside.settings) k.offers k.holds); passed = c.judge.ensures.passed }),
)

pub returns-in-Segment-clause-entry : goal.returns-in-Segment-clause-entry
returns-in-Segment-clause-entry c = subst (λ (e : Engaged). (history : List Item) → StandsFor e history → plain c.take_into.new.entry ≡ (item_of e.settings e.link history (shown c.args.input.now)).entry) c.self.view_is (λ history stands.
    let w = (goal.at.returns-in-Segment-clause-entry c).After-judge in
    let h = at_history w history stands in
    let t = c.in-Segment.ensures.rows (read w history).past h.before h.gone in
    let is = subst (λ link. IsDatagram c.judge.new.parsed.packet link t.own) (sym c.link_octets-link.ensures.octets) t.is in
    segment_entry (plain_settings c.self.inside.settings) c.self.inside.link (read w history) (shown c.args.input.now) c.judge.new.parsed.packet c.judge.new.parsed.head (length history + 1) (record c.expire.new.entry { side = Some c.judge.new.parsed.packet.side }) c.take_into.new.entry t h.number refl h.idle
    (c.take_into.ensures.entry (plain_settings c.self.inside.settings) (read w history).past.calls t.own h.before is))

pub returns-in-Segment-clause-empty : goal.returns-in-Segment-clause-empty
returns-in-Segment-clause-empty c = λ read. (unsent_of c.take_into.result c.judge.new.parsed.packet.frame.now c.take_into.new.out c.take_into.ensures.unsent read).0

pub returns-in-Segment-clause-short : goal.returns-in-Segment-clause-short
returns-in-Segment-clause-short c = λ read. ∥∥₁_elim c.self.invariant.2 le_prop (λ k.
    let t = taken (goal.at.returns-in-Segment-clause-short c).In-Segment k in
    subst (λ (xs : List ℕ). length xs ≤ 65549) t.frame (unsent_of c.take_into.result c.judge.new.parsed.packet.frame.now c.take_into.new.out c.take_into.ensures.unsent read).1)

pub returns-in-Segment-clause-frames : goal.returns-in-Segment-clause-frames
returns-in-Segment-clause-frames c = subst (λ (e : Engaged). (history : List Item) → StandsFor e history → frames_given c.take_into.result c.args.input.now.bytes.now c.take_into.new.out ≡ (item_of e.settings e.link history (shown c.args.input.now)).frames) c.self.view_is (λ history stands.
    let w = (goal.at.returns-in-Segment-clause-frames c).After-judge in
    let h = at_history w history stands in
    let t = c.in-Segment.ensures.rows (read w history).past h.before h.gone in
    let is = subst (λ link. IsDatagram c.judge.new.parsed.packet link t.own) (sym c.link_octets-link.ensures.octets) t.is in
    as_given c.take_into.result c.judge.new.parsed.packet.frame.now c.args.input.now.bytes.now c.take_into.new.out t.frame
    ∙ (c.take_into.ensures.frames (plain_settings c.self.inside.settings) (read w history).past.calls t.own h.before is
    ∙ ap (λ link. frames_of link (outcome_of (plain_settings c.self.inside.settings) (read w history) t.own).packets) c.link_octets-link.ensures.octets
    ∙ sym (segment_frames (plain_settings c.self.inside.settings) c.self.inside.link (read w history) (shown c.args.input.now) t.own (taken_rows (plain_settings c.self.inside.settings) c.self.inside.link (read w history) (shown c.args.input.now) c.judge.new.parsed.packet c.judge.new.parsed.head t))))

pub returns-in-Segment-clause-stands : goal.returns-in-Segment-clause-stands
returns-in-Segment-clause-stands c = subst (λ (e : Engaged). (history : List Item) → StandsFor e history
    → StandsFor (record { settings = (plain_settings c.self.inside.settings); link = c.self.inside.link; records = c.self.inside.records + 1; latest = c.max-self-inside.result; norm = c.take_into.new.self; pieces = c.judge.new.pieces }) (item_of e.settings e.link history (shown c.args.input.now) ∷ history)) c.self.view_is (λ history stands.
    let w = (goal.at.returns-in-Segment-clause-stands c).After-judge in
    let h = at_history w history stands in
    let t = c.in-Segment.ensures.rows (read w history).past h.before h.gone in
    let is = subst (λ link. IsDatagram c.judge.new.parsed.packet link t.own) (sym c.link_octets-link.ensures.octets) t.is in
    segment_stands c.packets_are_its_own.ensures (engaged w)
    (record { settings = (plain_settings c.self.inside.settings); link = c.self.inside.link; records = c.self.inside.records + 1; latest = c.max-self-inside.result; norm = c.take_into.new.self; pieces = c.judge.new.pieces }) history (shown c.args.input.now) c.judge.new.parsed.packet c.judge.new.parsed.head
    c.self.invariant.0.hops t stands refl refl refl h.now
    (subst (λ n. flows.StandsFor (plain_settings c.self.inside.settings) c.take_into.new.self (call_of (plain_settings c.self.inside.settings) (read w history).past.calls n t.own ∷ (read w history).past.calls)) h.now (c.take_into.ensures.stands (plain_settings c.self.inside.settings) (read w history).past.calls t.own h.before is))
    h.pieces)

pub returns-in_default : goal.returns-in_default
returns-in_default c = record {
  settings = ap (λ (e : Engaged). e.settings) c.self.view_is;
  link = ap (λ (e : Engaged). e.link) c.self.view_is;
  entry = subst (λ (e : Engaged). (history : List Item) → StandsFor e history → plain c.tell.new.entry ≡ (item_of e.settings e.link history (shown c.args.input.now)).entry) c.self.view_is (λ history stands.
      let w = (goal.at.returns-in_default c).After-judge in
      let h = at_history w history stands in
      let none = no_segment (plain_settings c.self.inside.settings) c.self.inside.link (read w history) (shown c.args.input.now) (judgment_with c.judge.new.parsed c.judge.result) h.judged other in
      c.tell.ensures c.judge.new.parsed.head ∙ ((λ i. entry_for (h.number i) (judgment_with c.judge.new.parsed c.judge.result) (h.idle i)) ∙ other_entry (plain_settings c.self.inside.settings) c.self.inside.link (read w history) (shown c.args.input.now) (length history + 1) (judgment_with c.judge.new.parsed c.judge.result) h.judged none));
  empty = c.send-as_read.ensures.empty;
  short = λ as_read. ∥∥₁_elim c.self.invariant.2 le_prop (λ k.
      short_read (plain_settings c.self.inside.settings) c.self.inside.link (read_with (plain_settings c.self.inside.settings) c.self.inside.link (past_with (plain_settings c.self.inside.settings) c.max-self-inside.result k.calls k.offers) (shown c.args.input.now)) (shown c.args.input.now) (judgment_with c.judge.new.parsed c.judge.result)
      (c.judge.ensures.rows (past_with (plain_settings c.self.inside.settings) c.max-self-inside.result k.calls k.offers) (c.expire.ensures.stands (plain_settings c.self.inside.settings) k.calls k.stands) (c.expire-forgotten.ensures.stands (plain_settings c.self.inside.settings) k.offers k.holds))
      (sym (c.send-as_read.ensures.as_read c.judge.new.parsed.head) ∙ as_read));
  frames = subst (λ (e : Engaged). (history : List Item) → StandsFor e history → (frames_given c.send-as_read.result c.args.input.now.bytes.now c.send-as_read.new.out) ≡ (item_of e.settings e.link history (shown c.args.input.now)).frames) c.self.view_is (λ history stands.
      let w = (goal.at.returns-in_default c).After-judge in
      let h = at_history w history stands in
      let none = no_segment (plain_settings c.self.inside.settings) c.self.inside.link (read w history) (shown c.args.input.now) (judgment_with c.judge.new.parsed c.judge.result) h.judged other in
      c.send-as_read.ensures.frames c.judge.new.parsed.head c.args.input.now.bytes.now ∙ other_frames (plain_settings c.self.inside.settings) c.self.inside.link (read w history) (shown c.args.input.now) (judgment_with c.judge.new.parsed c.judge.result) h.judged none);
  stands = subst (λ (e : Engaged). (history : List Item) → StandsFor e history
      → StandsFor (record { settings = (plain_settings c.self.inside.settings); link = c.self.inside.link; records = c.self.inside.records + 1; latest = c.max-self-inside.result; norm = c.expire.new.self; pieces = c.judge.new.pieces }) (item_of e.settings e.link history (shown c.args.input.now) ∷ history)) c.self.view_is (λ history stands.
      let w = (goal.at.returns-in_default c).After-judge in
      let h = at_history w history stands in
      let none = no_segment (plain_settings c.self.inside.settings) c.self.inside.link (read w history) (shown c.args.input.now) (judgment_with c.judge.new.parsed c.judge.result) h.judged other in
      other_stands (engaged w) (record { settings = (plain_settings c.self.inside.settings); link = c.self.inside.link; records = c.self.inside.records + 1; latest = c.max-self-inside.result; norm = c.expire.new.self; pieces = c.judge.new.pieces }) history (shown c.args.input.now)
      none stands refl refl refl h.now h.before
      h.pieces);
}
  where
    other : (packet : IpPacket) (head : Tcp) → judgment_with c.judge.new.parsed c.judge.result ≡ Segment packet head → ⊥
    other = no_segment_of c.judge.new.parsed.packet c.judge.new.parsed.head c.judge.result c.in_default.not-Segment
