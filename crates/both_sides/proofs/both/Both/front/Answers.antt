use Rattle.std.proofs.Common.{◌≡◌, ◌<◌, ◌-◌, ◌^◌, List, ◌∷◌, length, sym, subst, arith}
use Rattle.pcap_file.specs.RecordReading.{shown}
use Rattle.rule_book.specs.Entries.{plain}
use Rattle.norm_engine.specs.Items.{Item}
use Rattle.norm_engine.specs.Trace.{item_of}
use Rattle.both_sides.specs.Traces.{records_for}
use Rattle.both_sides.specs.TwoEngines.{Joined, StandsFor, joined}
use Rattle.both_sides.proofs.TwoEngines.{Steps, front_pending, front_given, front_bounds}
use Rattle.both_sides.proofs.both.Both.front.Goals as goal

pub invariant_of-self : goal.invariant_of-self
invariant_of-self c =
    let r = shown c.args.input.now in
    let old = joined c.self.inside.first c.self.inside.second c.self.inside.seconds c.self.inside.fraction c.self.inside.frames c.self.inside.had in
    let steps : Steps c.self.inside.first c.step-entry.new.self r c.step-entry.new.out (plain c.step-entry.result) =
    record {
      settings = c.step-entry.ensures.settings;
      link = c.step-entry.ensures.link;
      entry_is = c.step-entry.ensures.entry;
      frames_are = c.step-entry.ensures.frames;
      stands = c.step-entry.ensures.stands;
    } in
    let none = subst (λ (b : Joined). length b.pending ≡ 0) (sym c.self.view_is) c.requires.empty in
    let few = subst (λ (b : Joined). b.first.records < 2 ^ 31 - 1) (sym c.self.view_is) c.requires.few in
    let kept = front_bounds old c.step-entry.new.self r c.step-entry.new.out (plain c.step-entry.result) steps none c.items_are_counted.ensures c.self.invariant.1 few c.self.invariant.2 in
    (omega arith, kept.0, kept.1)

pub returns-clause-pending : goal.returns-clause-pending
returns-clause-pending c =
    let r = shown c.args.input.now in
    let old = joined c.self.inside.first c.self.inside.second c.self.inside.seconds c.self.inside.fraction c.self.inside.frames c.self.inside.had in
    let steps : Steps c.self.inside.first c.step-entry.new.self r c.step-entry.new.out (plain c.step-entry.result) =
    record {
      settings = c.step-entry.ensures.settings;
      link = c.step-entry.ensures.link;
      entry_is = c.step-entry.ensures.entry;
      frames_are = c.step-entry.ensures.frames;
      stands = c.step-entry.ensures.stands;
    } in
    let none = subst (λ (b : Joined). length b.pending ≡ 0) (sym c.self.view_is) c.requires.empty in
    let new = joined c.step-entry.new.self c.self.inside.second c.args.input.now.seconds c.args.input.now.fraction c.step-entry.new.out 0 in
    subst (λ (b : Joined). (trace mirror : List Item) → StandsFor b trace mirror → new.pending ≡ records_for (item_of b.first.settings b.first.link trace r)) c.self.view_is
    (front_pending old c.step-entry.new.self r c.step-entry.new.out (plain c.step-entry.result) steps none)

pub returns-clause-stands : goal.returns-clause-stands
returns-clause-stands c =
    let r = shown c.args.input.now in
    let old = joined c.self.inside.first c.self.inside.second c.self.inside.seconds c.self.inside.fraction c.self.inside.frames c.self.inside.had in
    let steps : Steps c.self.inside.first c.step-entry.new.self r c.step-entry.new.out (plain c.step-entry.result) =
    record {
      settings = c.step-entry.ensures.settings;
      link = c.step-entry.ensures.link;
      entry_is = c.step-entry.ensures.entry;
      frames_are = c.step-entry.ensures.frames;
      stands = c.step-entry.ensures.stands;
    } in
    let none = subst (λ (b : Joined). length b.pending ≡ 0) (sym c.self.view_is) c.requires.empty in
    let new = joined c.step-entry.new.self c.self.inside.second c.args.input.now.seconds c.args.input.now.fraction c.step-entry.new.out 0 in
    subst (λ (b : Joined). (trace mirror : List Item) → StandsFor b trace mirror → StandsFor new (item_of b.first.settings b.first.link trace r ∷ trace) mirror) c.self.view_is
    (front_given old c.step-entry.new.self r c.step-entry.new.out (plain c.step-entry.result) steps none)
