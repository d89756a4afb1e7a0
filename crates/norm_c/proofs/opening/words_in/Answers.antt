use Rattle.std.proofs.Common.{◌≡◌, [], ◌∷◌, ◌++◌, ◌+◌, ap, subst, sym, map, string_bytes, drop}
use Rattle.norm_c.specs.Opening as spec
use Rattle.norm_c.proofs.Words.{ended, explained, last}
use Rattle.norm_c.proofs.opening.words_in.Goals as goal

pub returns-in-Err-clause-err : goal.returns-in-Err-clause-err
returns-in-Err-clause-err c =
    let text = c.args.text.now in let l = c.loop-octet in let before = map string_bytes l.words.items in
    explained text before c.replace-ended.result.items (spec.words_from [] (drop (l.octet-index + 1) text)) c.in-Err.fault
    (subst (λ w. before ++ w ∷ spec.words_from [] (drop (l.octet-index + 1) text) ≡ spec.words_in text) (sym (ap (λ v. v.items) c.replace-ended.ensures.value))
    (ended text before l.word.items l.octet-index c.loop-octet-test.true c.if-octet-eq32.true l.invariant))
    c.in-Err.ensures.err

pub returns-in-Err-push_word-clause-err : goal.returns-in-Err-push_word-clause-err
returns-in-Err-push_word-clause-err c =
    let text = c.args.text.now in let l = c.loop-octet in let before = map string_bytes l.words.items in
    explained text before l.word.items [] c.in-Err-push_word.fault
    (last text before l.word.items l.octet-index c.loop-octet-test.false l.invariant) c.in-Err-push_word.ensures.err
