use Rattle.std.proofs.Common.{rules, ◌≡◌, ◌≤◌, ◌<◌, [], ◌∷◌, Bool, length, get_or, if◌then◌else◌, sym, subst, ◌∙◌, arith}
use Rattle.tcp_codec.specs.working.CleaningState.{StandsFor}
use Rattle.tcp_codec.proofs.Buffers.{SoFar-start, SoFar-none, SoFar-kept, SoFar-other, SoFar-whole}
use Rattle.tcp_codec.proofs.write.options_change.Goals as goal
use Rattle.tcp_codec.proofs.write.options_change.Goals.{then-loop-at-test+else-options-at-ne-END, else-loop-at-test}

pub loop-at-init : goal.loop-at-init
loop-at-init c =
    let none : StandsFor c.default-kept.result [] = search rules in
    SoFar-start c.args.syn c.args.options.now c.default-kept.result none c.requires

pub loop-at-preserved-then-options-at-eq-NO_OPERATION : goal.loop-at-preserved-then-options-at-eq-NO_OPERATION
loop-at-preserved-then-options-at-eq-NO_OPERATION c = SoFar-none _ _ _ _ _ _ c.loop-at.invariant c.loop-at-test.true c.if-options-at-eq-NO_OPERATION.true

pub loop-at-preserved : goal.loop-at-preserved
loop-at-preserved c =
    let area = c.args.options.now in
    let at = c.loop-at.at in
    let so_far = c.loop-at.invariant in
    let e = sym c.size_at-size.ensures.exact in
    let other : 2 ≤ get_or area at 0 = omega arith in
    let answer = sym (c.keeps.ensures.exact so_far.before so_far.stands) in
    let noted = c.keeps.ensures.stands so_far.before so_far.stands in
    let kinds = λ (b : Bool). StandsFor c.keeps.new.self (if b then get_or area at 0 ∷ so_far.before else so_far.before) in
    SoFar-kept c.args.syn area area at c.size_at-size.result c.loop-at.kept c.keeps.new.self _ so_far e c.size_at-size.ensures.some c.size_at-size.ensures.inside other (answer ∙ c.if-not-keeps.false) (subst kinds c.if-not-keeps.false noted)

pub returns-then-not-keeps : goal.returns-then-not-keeps
returns-then-not-keeps c =
    let area = c.args.options.now in
    let at = c.loop-at.at in
    let so_far = c.loop-at.invariant in
    let e = sym c.size_at-size.ensures.exact in
    let other : 2 ≤ get_or area at 0 = omega arith in
    let answer = sym (c.keeps.ensures.exact so_far.before so_far.stands) in
    let differs = SoFar-other c.args.syn area at c.size_at-size.result c.loop-at.kept so_far e c.size_at-size.ensures.some c.size_at-size.ensures.inside other (answer ∙ c.if-not-keeps.true) in
    (λ none. cc, λ same. absurd (differs same))

pub returns : goal.returns
returns c =
    let area = c.args.options.now in
    let at = c.loop-at.at in
    let ends : at < length area → get_or area at 0 ≡ 0 =
    λ begins. elim c.loop-at-test.branch [
      | then-loop-at-test+else-options-at-ne-END w ↦ w.if-options-at-ne-END.false
      | else-loop-at-test w ↦ absurd (omega arith)
    ] in
    SoFar-whole c.args.syn area at c.loop-at.kept c.has_other_than_0.result c.loop-at.invariant ends c.has_other_than_0.ensures
