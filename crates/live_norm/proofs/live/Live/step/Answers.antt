use Rattle.std.proofs.Common.{◌≡◌, ◌+◌, ◌<◌, ◌≤◌, ℕ, List, length, refl, rules, sym, ap, subst, ◌∙◌, arith}
use Rattle.pcap_file.specs.RecordReading.{shown}
use Rattle.rule_book.specs.Entries.{PlainEntry, plain}
use Rattle.norm_engine.specs.Items.{Item}
use Rattle.norm_engine.specs.Trace.{item_of}
use Rattle.norm_engine.specs.EngineState.{frames_given, StandsFor}
use Rattle.norm_engine.specs.WrittenTrace.{entry_written, frames_written}
use Rattle.norm_engine.proofs.WrittenFrames.{InRange}
use Rattle.norm_engine.proofs.WrittenItems.{each_given, each_has, few_out, named_out, octets_out, sent_out}
use Rattle.live_norm.specs.Live.{Gives, Lived, Represents}
use Rattle.live_norm.proofs.Steps.{Laws, Stepped, gives_next, least_in, live_next}
use Rattle.live_norm.proofs.live.Live.step.Goals.{After-self-1}
use Rattle.live_norm.proofs.live.Live.step.Goals as goal

pub cut_by-as_read-requires-clause-ready : goal.cut_by-as_read-requires-clause-ready
cut_by-as_read-requires-clause-ready c =
    let live = c.self.invariant in
    let engine = c.self.inside.engine in
    let given = frames_given c.step_into-read.result c.args.input.now.bytes.now c.step_into-read.new.out in
    let frames = c.step_into-read.ensures.frames live.history live.represents.stands in
    record {
      sent = sent_out c.items_go_out.ensures c.items_are_counted.ensures c.plain_packets_go_out.ensures.whole c.segments_fit.ensures.few engine.settings engine.link live.history (shown c.args.input.now)
          live.range.hops live.range.mtu live.represents.sound.octets c.have_octets.ensures c.self.inside.link given live.same frames;
      least = least_in c.self.inside.mtu (subst (λ m. InRange m) live.bound live.range.mtu);
      few = few_out c.items_go_out.ensures c.items_are_counted.ensures c.plain_packets_go_out.ensures.whole c.segments_fit.ensures.few engine.settings engine.link live.history (shown c.args.input.now)
          live.range.hops live.range.mtu live.represents.sound.octets c.have_octets.ensures c.self.inside.mtu c.self.inside.link given live.bound live.same frames
          (each_has c.self.inside.mtu given (each_given c.step_into-read.result c.args.input.now.bytes.now c.step_into-read.new.out c.have_octets.ensures c.frames_have_octets.ensures));
    }

pub cut_by-as_read-requires-clause-named : goal.cut_by-as_read-requires-clause-named
cut_by-as_read-requires-clause-named c =
    let live = c.self.invariant in
    let engine = c.self.inside.engine in
    named_out c.items_go_out.ensures c.items_are_counted.ensures c.plain_packets_go_out.ensures.whole c.segments_fit.ensures.few engine.settings engine.link live.history (shown c.args.input.now)
    live.range.hops live.range.mtu live.represents.sound.octets c.have_octets.ensures (plain c.step_into-read.new.entry) (c.step_into-read.ensures.entry live.history live.represents.stands)

-- the engine before and after the step, and what the step gave
abbrev before : After-self-1 → Lived
before c = record { engine = c.self.inside.engine; frames = frames_written c.self.inside.mtu c.self.inside.link c.self.inside.out; entry = plain c.self.inside.entry; written = c.self.inside.written }

abbrev after : After-self-1 → Lived
after c = record { engine = c.step_into-read.new.self; frames = frames_written c.self.inside.mtu c.self.inside.link c.cut_by-as_read.new.out; entry = plain c.cut_by-as_read.new.entry; written = c.self.inside.written + c.from.result }

abbrev given : After-self-1 → List (List ℕ)
given c = frames_given c.step_into-read.result c.args.input.now.bytes.now c.step_into-read.new.out

laws : After-self-1 → Laws
laws c = record {
  counted = c.items_are_counted.ensures;
  soundly = c.lawful_is_written_soundly.ensures;
  invents = c.lawful_invents_nothing.ensures;
  clashes = c.written_clashes_are_real.ensures.clashes;
  fragments = c.written_clashes_are_real.ensures.fragment_clashes;
  reads = c.written_reads_records.ensures;
}

stepped : (c : After-self-1) (history : List Item) → StandsFor c.self.inside.engine history
    → Stepped (before c) (after c) (shown c.args.input.now) c.cut_by-as_read.result (given c) (plain c.step_into-read.new.entry) history
stepped c history stands =
    let live = c.self.invariant in
    let engine = c.self.inside.engine in
    let item = item_of engine.settings engine.link history (shown c.args.input.now) in
    let frames = c.step_into-read.ensures.frames history stands in
    record {
      settings = c.step_into-read.ensures.settings;
      link = c.step_into-read.ensures.link;
      stands = c.step_into-read.ensures.stands history stands;
      entry_is = c.step_into-read.ensures.entry history stands;
      frames_are = frames;
      octets = octets_out engine.settings engine.link c.self.inside.link c.self.inside.mtu item (given c) live.bound live.same frames
          (each_has c.self.inside.mtu (given c) (each_given c.step_into-read.result c.args.input.now.bytes.now c.step_into-read.new.out c.have_octets.ensures c.frames_have_octets.ensures));
      entry_out = c.cut_by-as_read.ensures.entry ∙ (λ i. entry_written ((sym live.bound) i) ((sym live.same) i) (given c) (plain c.step_into-read.new.entry));
      frames_out = c.cut_by-as_read.ensures.frames ∙ (λ i. frames_written ((sym live.bound) i) ((sym live.same) i) (given c));
      written_is = ap (λ n. c.self.inside.written + n) c.from.ensures;
    }

pub invariant_of-self : goal.invariant_of-self
invariant_of-self c =
    let live = c.self.invariant in
    live_next (laws c) c.self.inside.link c.self.inside.mtu (before c) (after c) (shown c.args.input.now) c.cut_by-as_read.result (given c) c.cut_by-as_read.new.out (plain c.step_into-read.new.entry)
    c.self.inside.out live c.have_octets.ensures (stepped c live.history live.represents.stands) c.cut_by-as_read.ensures.ready (search rules)

pub returns-clause-gives : goal.returns-clause-gives
returns-clause-gives c =
    subst (λ (b : Lived). (history : List Item) → Represents b history → Gives b (after c) (shown c.args.input.now) c.cut_by-as_read.result history) c.self.view_is
    (λ history rep. gives_next (laws c) (before c) (after c) (shown c.args.input.now) c.cut_by-as_read.result (given c) (plain c.step_into-read.new.entry) history c.self.invariant.range
    c.have_octets.ensures (stepped c history rep.stands) rep)
