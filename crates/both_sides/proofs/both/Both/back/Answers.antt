use Rattle.std.proofs.Common.{rules, ◌≡◌, ◌+◌, List, ◌∷◌, subst, arith}
use Rattle.std.proofs.lemmas.Option.{slice_get_within}
use Rattle.pcap_file.specs.Records.{Packet}
use Rattle.pcap_file.specs.RecordReading.{shown}
use Rattle.rule_book.specs.Entries.{plain}
use Rattle.norm_engine.specs.Items.{Item}
use Rattle.norm_engine.specs.Trace.{item_of}
use Rattle.norm_engine.specs.CleanRecords.{HasOctets}
use Rattle.both_sides.specs.Traces.{mirrored, record_of}
use Rattle.both_sides.specs.TwoEngines.{Joined, StandsFor, joined}
use Rattle.both_sides.proofs.TwoEngines.{Steps, back_pending, back_entry, back_frames, back_next, back_bounds}
use Rattle.both_sides.proofs.both.Both.back.Goals as goal
use Rattle.both_sides.proofs.both.Both.back.Goals.{After-step}

-- the record of the frame, and the step of the second engine for it
abbrev packet : After-step → Packet
packet c = record_of c.self.inside.seconds c.self.inside.fraction c.frame-frame.result.now

octets : (c : After-step) → HasOctets (packet c)
octets c = search rules

steps : (c : After-step) → Steps c.self.inside.second c.step.new.self (packet c) c.step.new.out (plain c.step.result)
steps c =
    let is : shown c.new-record.result ≡ packet c = cc in
    subst (λ x. Steps c.self.inside.second c.step.new.self x c.step.new.out (plain c.step.result)) is (record {
      settings = c.step.ensures.settings;
      link = c.step.ensures.link;
      entry_is = c.step.ensures.entry;
      frames_are = c.step.ensures.frames;
      stands = c.step.ensures.stands;
    })

pub overflow_add-self : goal.overflow_add-self
overflow_add-self c =
    let within = slice_get_within c.self.inside.frames c.self.inside.had c.frame-frame.result.now c.frame-frame.ensures.octets in
    let few = c.frames-count.ensures.few in
    let count = c.frames-count.ensures.count in
    omega (arith, within, few, count)

pub invariant_of-self : goal.invariant_of-self
invariant_of-self c =
    let w = (goal.at.invariant_of-self c).After-step in
    let within = slice_get_within c.self.inside.frames c.self.inside.had c.frame-frame.result.now c.frame-frame.ensures.octets in
    let kept = back_bounds c.self.inside.first c.self.inside.second c.step.new.self c.self.inside.seconds c.self.inside.fraction c.self.inside.had c.self.inside.frames c.frame-frame.result.now c.step.new.out (plain c.step.result)
    c.frame-frame.ensures.octets (octets w) (steps w) c.self.invariant.1 c.self.invariant.2 in
    (omega (arith, within), kept.0, kept.1)

pub returns-clause-entry : goal.returns-clause-entry
returns-clause-entry c =
    let w = (goal.at.returns-clause-entry c).After-step in
    subst (λ (b : Joined). (trace mirror : List Item) (r : Packet) (more : List Packet) → StandsFor b trace mirror → b.pending ≡ r ∷ more
    → plain c.step.result ≡ (item_of (mirrored b.first.settings) b.first.link mirror r).entry) c.self.view_is
    (back_entry c.self.inside.first c.self.inside.second c.step.new.self c.self.inside.seconds c.self.inside.fraction c.self.inside.had c.self.inside.frames c.frame-frame.result.now c.step.new.out (plain c.step.result)
    c.frame-frame.ensures.octets (octets w) (steps w))

pub returns-clause-frames : goal.returns-clause-frames
returns-clause-frames c =
    let w = (goal.at.returns-clause-frames c).After-step in
    subst (λ (b : Joined). (trace mirror : List Item) (r : Packet) (more : List Packet) → StandsFor b trace mirror → b.pending ≡ r ∷ more
    → c.step.new.out ≡ (item_of (mirrored b.first.settings) b.first.link mirror r).frames) c.self.view_is
    (back_frames c.self.inside.first c.self.inside.second c.step.new.self c.self.inside.seconds c.self.inside.fraction c.self.inside.had c.self.inside.frames c.frame-frame.result.now c.step.new.out (plain c.step.result)
    c.frame-frame.ensures.octets (octets w) (steps w))

pub returns-clause-stands : goal.returns-clause-stands
returns-clause-stands c =
    let w = (goal.at.returns-clause-stands c).After-step in
    let new = joined c.self.inside.first c.step.new.self c.self.inside.seconds c.self.inside.fraction c.self.inside.frames (c.self.inside.had + 1) in
    subst (λ (b : Joined). (trace mirror : List Item) (r : Packet) (more : List Packet) → StandsFor b trace mirror → b.pending ≡ r ∷ more
    → StandsFor new trace (item_of (mirrored b.first.settings) b.first.link mirror r ∷ mirror)) c.self.view_is
    (back_next c.self.inside.first c.self.inside.second c.step.new.self c.self.inside.seconds c.self.inside.fraction c.self.inside.had c.self.inside.frames c.frame-frame.result.now c.step.new.out (plain c.step.result)
    c.frame-frame.ensures.octets (octets w) (steps w))

pub returns-clause-pending : goal.returns-clause-pending
returns-clause-pending c =
    let w = (goal.at.returns-clause-pending c).After-step in
    let new = joined c.self.inside.first c.step.new.self c.self.inside.seconds c.self.inside.fraction c.self.inside.frames (c.self.inside.had + 1) in
    subst (λ (b : Joined). (r : Packet) (more : List Packet) → b.pending ≡ r ∷ more → new.pending ≡ more) c.self.view_is
    (back_pending c.self.inside.first c.self.inside.second c.step.new.self c.self.inside.seconds c.self.inside.fraction c.self.inside.had c.self.inside.frames c.frame-frame.result.now c.step.new.out (plain c.step.result)
    c.frame-frame.ensures.octets (octets w) (steps w))
