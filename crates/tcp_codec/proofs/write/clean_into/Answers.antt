use Rattle.std.proofs.Common.{rules, ◌≡◌, ◌≤◌, ◌<◌, ◌+◌, ◌-◌, [], ◌∷◌, Bool, length, get_or, take, drop, replicate, if◌then◌else◌, sym, ap, subst, ◌∙◌, arith}
use Rattle.tcp_codec.specs.working.CleaningState.{StandsFor}
use Rattle.tcp_codec.proofs.Buffers.{filled, CopiedTo-start, CopiedTo-other, CopiedTo-kept, CopiedTo-end, CopiedTo-whole, copied, kept-kind}
use Rattle.tcp_codec.proofs.Walks.{last-kind, option_some}
use Rattle.tcp_codec.proofs.write.clean_into.Goals as goal
use Rattle.tcp_codec.proofs.write.clean_into.Goals.{then-keeps, else-keeps, then-loop-at-test+else-area-at-ne-END, else-loop-at-test, else-at-area-via-then-at-area+else-area-at-eq-END, else-at-area-via-else-at-area}

pub loop-at-init : goal.loop-at-init
loop-at-init c =
    let none : StandsFor c.default-kept.result [] = search rules in
    let ones : c.fill.new.self ≡ replicate (length c.args.target.now) 1 = search rules in
    CopiedTo-start c.args.syn c.args.area.now c.fill.new.self c.default-kept.result none c.requires.formed (ones ∙ ap (λ n. replicate n 1) c.requires.size)

pub loop-at-preserved : goal.loop-at-preserved
loop-at-preserved c =
    let area = c.args.area.now in
    let target = c.loop-at.target in
    let at = c.loop-at.at in
    let size = c.step_at-size.result in
    let s = c.loop-at.invariant in
    let step = c.step_at-size.ensures in
    let answer = sym (c.keeps.ensures.exact s.before s.stands) in
    let noted = c.keeps.ensures.stands s.before s.stands in
    let kinds = λ (b : Bool). StandsFor c.keeps.new.self (if b then get_or area at 0 ∷ s.before else s.before) in
    elim c.if-keeps.branch [
      | then-keeps w ↦
          let keep = answer ∙ w.if-keeps.true in
          let other = kept-kind c.args.syn s.before (get_or area at 0) size keep in
          let two = option_some area at s.formed (omega arith) other in
          let e = step.option other in
          CopiedTo-kept c.args.syn area target _ at size c.loop-at.kept c.keeps.new.self s (sym e) (omega arith) step.inside other keep (subst kinds w.if-keeps.true noted) step.formed (w.target-is ∙ copied area target w.copy_from_slice.new.self at size w.copy_from_slice.ensures.after)
      | else-keeps w ↦
          rw w.target-is (CopiedTo-other c.args.syn area target at size c.loop-at.kept c.keeps.new.self s (omega arith) (omega arith) step.none step.option step.inside (answer ∙ w.if-keeps.false) (subst kinds w.if-keeps.false noted) step.formed)
    ]

pub returns-then-area-at-eq-END : goal.returns-then-area-at-eq-END
returns-then-area-at-eq-END c =
    let target = c.loop-at.target in
    let at = c.loop-at.at in
    let zeros : c.fill-then-area-at-eq-END.new.self ≡ replicate (length (take (length target - at) (drop at target))) 0 = search rules in
    CopiedTo-end c.args.syn c.args.area.now target _ at c.loop-at.kept c.loop-at.invariant (λ begins. c.if-area-at-eq-END.true) (filled target c.fill-then-area-at-eq-END.new.self at zeros)

pub returns-else-at-area : goal.returns-else-at-area
returns-else-at-area c =
    let area = c.args.area.now in
    let at = c.loop-at.at in
    let inside = c.loop-at.invariant.inside in
    let last : length area ≤ at + 1 =
    elim c.loop-at-test.branch [
      | then-loop-at-test+else-area-at-ne-END w ↦ elim c.else-at-area.branch [
        | else-at-area-via-then-at-area+else-area-at-eq-END v ↦ absurd (v.if-area-at-eq-END.false w.if-area-at-ne-END.false)
        | else-at-area-via-else-at-area v ↦ omega arith
      ]
      | else-loop-at-test w ↦ omega arith
    ] in
    let none : at < length area → get_or area at 0 ≡ 1 =
    λ begins. elim c.else-at-area.branch [
      | else-at-area-via-then-at-area+else-area-at-eq-END v ↦ last-kind area at c.loop-at.invariant.formed begins last v.if-area-at-eq-END.false
      | else-at-area-via-else-at-area v ↦ absurd (omega arith)
    ] in
    CopiedTo-whole c.args.syn area c.loop-at.target at c.loop-at.kept c.loop-at.invariant last none
