use Rattle.std.proofs.Common.{◌≡◌, sym, subst, ap₂}
use Rattle.std.proofs.Math.Logic.{∥∥₁_map}
use Rattle.norm_engine.specs.EngineState.{Engaged}
use Rattle.both_sides.specs.TwoEngines.{Joined, joined}
use Rattle.both_sides.specs.working.TwoEngines.{StandsForSome, IsWithin}
use Rattle.both_sides.proofs.TwoEngines.{on_link, some_on_link}
use Rattle.both_sides.proofs.both.Both.set_link.Goals as goal

pub invariant_of-self : goal.invariant_of-self
invariant_of-self c =
    let old = joined c.self.inside.first c.self.inside.second c.self.inside.seconds c.self.inside.fraction c.self.inside.frames c.self.inside.had in
    let none = subst (λ (b : Joined). b.first.records ≡ 0) (sym c.self.view_is) c.requires in
    let within = c.self.invariant.1 in
    let is : on_link c.args.link old ≡ joined c.set_link.new.self c.set_link-2.new.self c.self.inside.seconds c.self.inside.fraction c.self.inside.frames c.self.inside.had =
    ap₂ (λ (a : Engaged) (b : Engaged). joined a b c.self.inside.seconds c.self.inside.fraction c.self.inside.frames c.self.inside.had) (sym c.set_link.ensures) (sym c.set_link-2.ensures) in (
      c.self.invariant.0,
      subst IsWithin is (record { records = within.records; frames = within.frames }),
      subst (λ (b : Joined). ∥ StandsForSome b ∥₁) is (∥∥₁_map c.self.invariant.2 (some_on_link c.args.link old none within)),
    )
