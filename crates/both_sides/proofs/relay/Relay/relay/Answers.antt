use Rattle.std.proofs.Common.{◌≡◌, sym, subst, ◌∙◌}
use Rattle.pcap_file.specs.RecordReading.{shown}
use Rattle.both_sides.specs.declared.engines.Engines.{Engines}
use Rattle.both_sides.specs.declared.engines.Engines.TheVariants.{One, Two}
use Rattle.both_sides.specs.working.RelayState.{IsKept}
use Rattle.both_sides.specs.RelayState.{StandsForRun, link_of, settings_of}
use Rattle.both_sides.specs.RunTraces.{RunHasOctets, RunTrace, next_run}
use Rattle.both_sides.proofs.Runs.{can_read, kept_one, kept_two, octets_one, octets_two, stands_one, stands_two, written_along, written_one, written_two}
use Rattle.both_sides.proofs.relay.Relay.relay.Goals as goal

pub relay_one-requires-clause-ready : goal.relay_one-requires-clause-ready
relay_one-requires-clause-ready g c =
    let kept : IsKept (One c.in-One.engine) c.self.inside.room.mtu =
    subst (λ (e : Engines). IsKept e c.self.inside.room.mtu) c.in-One.is c.self.invariant in
    let same : One c.in-One.engine ≡ c.args.self.now = sym c.in-One.is ∙ c.self.view_is in
    can_read c.in-One.engine c.self.inside.room.mtu c.args.head.now.link
    (subst (λ (e : Engines). link_of e ≡ c.args.head.now.link) (sym same) c.requires.link) kept.ready kept.run kept.stands kept.octets

pub invariant_of-self : goal.invariant_of-self
invariant_of-self g c =
    let kept : IsKept (One c.in-One.engine) c.self.inside.room.mtu =
    subst (λ (e : Engines). IsKept e c.self.inside.room.mtu) c.in-One.is c.self.invariant in
    kept_one c.args.head.now.order c.in-One.engine c.relay_one.new.engine (shown c.args.input.now) c.relay_one.result _ _ c.relay_one.ensures.read
    c.self.inside.room.mtu _ c.relay_one.ensures.settings c.relay_one.ensures.mtu kept

pub invariant_of-self-in-Two : goal.invariant_of-self-in-Two
invariant_of-self-in-Two g c =
    let kept : IsKept (Two c.in-Two.both) c.self.inside.room.mtu =
    subst (λ (e : Engines). IsKept e c.self.inside.room.mtu) c.in-Two.is c.self.invariant in
    kept_two c.args.head.now.order c.in-Two.both c.relay_two.new.both (shown c.args.input.now) c.relay_two.result _ _ c.relay_two.ensures.read
    c.self.inside.room.mtu _ c.relay_two.ensures.settings c.relay_two.ensures.empty kept

pub returns-in-One-clause-written : goal.returns-in-One-clause-written
returns-in-One-clause-written g c =
    written_along (One c.in-One.engine) c.args.self.now (sym c.in-One.is ∙ c.self.view_is) c.args.head.now.order (shown c.args.input.now) c.relay_one.result _ _
    (written_one c.args.head.now.order c.in-One.engine c.relay_one.new.engine (shown c.args.input.now) c.relay_one.result _ _ c.relay_one.ensures.read)

pub returns-in-One-clause-stands : goal.returns-in-One-clause-stands
returns-in-One-clause-stands g c =
    let same : One c.in-One.engine ≡ c.args.self.now = sym c.in-One.is ∙ c.self.view_is in
    subst (λ (z : Engines). (run : RunTrace) → StandsForRun z run → StandsForRun (One c.relay_one.new.engine) (next_run (settings_of z) (link_of z) run (shown c.args.input.now))) same
    (stands_one c.args.head.now.order c.in-One.engine c.relay_one.new.engine (shown c.args.input.now) c.relay_one.result _ _ c.relay_one.ensures.read)

pub returns-in-One-clause-octets : goal.returns-in-One-clause-octets
returns-in-One-clause-octets g c =
    let same : One c.in-One.engine ≡ c.args.self.now = sym c.in-One.is ∙ c.self.view_is in
    subst (λ (z : Engines). (run : RunTrace) → StandsForRun z run → RunHasOctets (settings_of z) run → RunHasOctets (settings_of z) (next_run (settings_of z) (link_of z) run (shown c.args.input.now))) same
    (octets_one c.args.head.now.order c.in-One.engine c.relay_one.new.engine (shown c.args.input.now) c.relay_one.result _ _ c.relay_one.ensures.read)

pub returns-in-Two-clause-written : goal.returns-in-Two-clause-written
returns-in-Two-clause-written g c =
    written_along (Two c.in-Two.both) c.args.self.now (sym c.in-Two.is ∙ c.self.view_is) c.args.head.now.order (shown c.args.input.now) c.relay_two.result _ _
    (written_two c.args.head.now.order c.in-Two.both c.relay_two.new.both (shown c.args.input.now) c.relay_two.result _ _ c.relay_two.ensures.read)

pub returns-in-Two-clause-stands : goal.returns-in-Two-clause-stands
returns-in-Two-clause-stands g c =
    let same : Two c.in-Two.both ≡ c.args.self.now = sym c.in-Two.is ∙ c.self.view_is in
    subst (λ (z : Engines). (run : RunTrace) → StandsForRun z run → StandsForRun (Two c.relay_two.new.both) (next_run (settings_of z) (link_of z) run (shown c.args.input.now))) same
    (stands_two c.args.head.now.order c.in-Two.both c.relay_two.new.both (shown c.args.input.now) c.relay_two.result _ _ c.relay_two.ensures.read)

pub returns-in-Two-clause-octets : goal.returns-in-Two-clause-octets
returns-in-Two-clause-octets g c =
    let same : Two c.in-Two.both ≡ c.args.self.now = sym c.in-Two.is ∙ c.self.view_is in
    subst (λ (z : Engines). (run : RunTrace) → StandsForRun z run → RunHasOctets (settings_of z) run → RunHasOctets (settings_of z) (next_run (settings_of z) (link_of z) run (shown c.args.input.now))) same
    (octets_two c.args.head.now.order c.in-Two.both c.relay_two.new.both (shown c.args.input.now) c.relay_two.result _ _ c.relay_two.ensures.read c.in-Two.both.first.settings)
