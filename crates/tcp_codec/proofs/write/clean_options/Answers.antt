use Rattle.std.proofs.Common.{rules, ◌≡◌, ◌≤◌, ◌<◌, ◌+◌, ◌-◌, [], ◌∷◌, Bool, length, get_or, take, drop, replicate, if◌then◌else◌, sym, subst, ◌∙◌, arith}
use Rattle.tcp_codec.specs.working.CleaningState.{StandsFor}
use Rattle.tcp_codec.proofs.Buffers.{SoFar-start, SoFar-none, SoFar-kept, SoFar-blanked, SoFar-end, SoFar-changed, blanked, filled}
use Rattle.tcp_codec.proofs.write.clean_options.Goals as goal
use Rattle.tcp_codec.proofs.write.clean_options.Goals.{then-not-keeps, else-not-keeps, then-loop-at-test+else-options-at-ne-END, else-loop-at-test}

pub loop-at-init : goal.loop-at-init
loop-at-init c =
    let none : StandsFor c.default-kept.result [] = search rules in
    SoFar-start c.args.syn c.args.options.now c.default-kept.result none c.requires

pub loop-at-preserved-then-options-at-eq-NO_OPERATION : goal.loop-at-preserved-then-options-at-eq-NO_OPERATION
loop-at-preserved-then-options-at-eq-NO_OPERATION c = SoFar-none _ _ _ _ _ _ c.loop-at.invariant c.loop-at-test.true c.if-options-at-eq-NO_OPERATION.true

pub loop-at-preserved : goal.loop-at-preserved
loop-at-preserved c =
    let now = c.loop-at.options in
    let at = c.loop-at.at in
    let size = c.size_at-size.result in
    let so_far = c.loop-at.invariant in
    let e : get_or now (at + 1) 0 ≡ size = sym c.size_at-size.ensures.exact in
    let other : 2 ≤ get_or now at 0 = omega arith in
    let answer = sym (c.keeps.ensures.exact so_far.before so_far.stands) in
    let noted = c.keeps.ensures.stands so_far.before so_far.stands in
    let kinds = λ (b : Bool). StandsFor c.keeps.new.self (if b then get_or now at 0 ∷ so_far.before else so_far.before) in
    elim c.if-not-keeps.branch [
      | then-not-keeps w ↦
          let ones : w.fill.new.self ≡ replicate (length (take (at + size - at) (drop at now))) 1 = search rules in
          let written = w.options-is ∙ blanked now w.fill.new.self at size c.size_at-size.ensures.inside ones in
          rw w.changed-is (SoFar-blanked c.args.syn c.args.options.now now _ at size c.loop-at.kept c.keeps.new.self c.loop-at.changed so_far e c.size_at-size.ensures.some c.size_at-size.ensures.inside other (answer ∙ w.if-not-keeps.true) (subst kinds w.if-not-keeps.true noted) written)
      | else-not-keeps w ↦
          rw (w.options-is, w.changed-is) (SoFar-kept c.args.syn c.args.options.now now at size c.loop-at.kept c.keeps.new.self c.loop-at.changed so_far e c.size_at-size.ensures.some c.size_at-size.ensures.inside other (answer ∙ w.if-not-keeps.false) (subst kinds w.if-not-keeps.false noted))
    ]

pub returns-clause-exact : goal.returns-clause-exact
returns-clause-exact c =
    let now = c.loop-at.options in
    let at = c.loop-at.at in
    let ends : at < length now → get_or now at 0 ≡ 0 =
    λ begins. elim c.loop-at-test.branch [
      | then-loop-at-test+else-options-at-ne-END w ↦ w.if-options-at-ne-END.false
      | else-loop-at-test w ↦ absurd (omega arith)
    ] in
    SoFar-end c.args.syn c.args.options.now now _ at c.loop-at.kept c.loop-at.changed c.loop-at.invariant ends (filled now c.clear-changed.new.octets at c.clear-changed.ensures.exact)

pub returns-clause-changed : goal.returns-clause-changed
returns-clause-changed c =
    let now = c.loop-at.options in
    let at = c.loop-at.at in
    SoFar-changed c.args.syn c.args.options.now now _ at c.loop-at.kept c.loop-at.changed c.clear-changed.result c.loop-at.invariant (filled now c.clear-changed.new.octets at c.clear-changed.ensures.exact) c.clear-changed.ensures.changed
