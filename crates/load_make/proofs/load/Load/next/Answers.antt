use Rattle.std.proofs.Common.{◌≡◌, ◌*◌, ◌/◌, ◌%◌, ◌<◌, Some, None, sym, ap, ◌∙◌, get_or, length, take, length-take, arith}
use Rattle.pcap_file.specs.RecordReading.{shown}
use Rattle.load_make.specs.LoadRecords.{record_with}
use Rattle.load_make.specs.NumberSequence.{action_of}
use Rattle.load_make.specs.working.FlowBounds.{flow_behind}
use Rattle.load_make.specs.Flows.{turn_of}
use Rattle.load_make.specs.declared.flow.Flow.TheVariants.{New}
use Rattle.load_make.proofs.Flows.{flow-within, in-step, generated-at, generated-end, next-record}
use Rattle.load_make.proofs.load.Load.next.Goals as goal

pub returns-then-self-clause-record : goal.returns-then-self-clause-record
returns-then-self-clause-record c =
    rw (← c.self.view_is, c.if-self.true) (sym (generated-end c.self.inside.seed c.self.inside.count))

pub next-turn-requires : goal.next-turn-requires
next-turn-requires c =
    let i = c.self.inside in
    flow-within i.seed i.count i.made i.number c.from-index.result i.flows c.self.invariant (omega arith)

pub invariant_of-self : goal.invariant_of-self
invariant_of-self c =
    let i = c.self.inside in
    in-step i.seed i.count i.made i.number c.following-number.result c.from-index.result i.flows c.next-turn.result.1 c.self.invariant c.if-self.false c.following-number.ensures
    (c.from-index.ensures ∙ c.flow_of-flow.ensures.exact) (omega arith) (c.next-turn.ensures.flow ∙ ap (λ action. flow_behind action (get_or i.flows c.from-index.result New)) c.action_of.ensures)

pub returns-clause-record : goal.returns-clause-record
returns-clause-record c =
    let i = c.self.inside in
    let size = c.write_packet-size.result in
    let buf = c.write_packet-size.new.buf in
    let whole : length (take size buf) ≡ size = omega (arith, length-take size buf) in
    let made : shown c.new.result ≡ record_with i.made (take size buf) = c.new.ensures.fields ∙ ap (λ n. record { seconds = i.made / 1000; fraction = i.made % 1000 * 1000; original = n; side = None; octets = take size buf }) (sym whole) in
    let does : c.next-turn.result.0 ≡ turn_of (action_of c.following-number.result) (get_or i.flows c.flow_of-flow.result New) = c.next-turn.ensures.turn ∙ (λ k. turn_of (c.action_of.ensures k) (get_or i.flows (c.from-index.ensures k) New)) in
    let more : i.made < i.count = omega (arith, c.self.invariant.within, c.if-self.false) in
    let next = next-record i.seed i.count i.made i.number c.following-number.result c.flow_of-flow.result i.flows c.next-turn.result.0 (take size buf) c.self.invariant c.following-number.ensures
    c.flow_of-flow.ensures.exact c.flow_of-flow.ensures.small does c.write_packet-size.ensures.exact in
    rw (← c.self.view_is) (ap Some (made ∙ next) ∙ sym (generated-at i.seed i.count i.made more))
