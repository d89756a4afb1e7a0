use Rattle.std.proofs.Common.{◌≡◌, ℕ, List, ◌++◌, ◌∷◌, [], sym, ◌∙◌, ap, subst, append_assoc, IfOk, codes, decimal, string_bytes}
use Rattle.rule_book.specs.Text.{part}
use Rattle.run_audit.specs.Answers.{line_of}
use Rattle.run_audit.proofs.answer.Answer.line.Goals as goal

-- three words and the line feed
spaced : (first second third : List ℕ) → (first ++ (second ++ (32 ∷ (third ++ 10 ∷ [])))) ≡ (((first ++ second) ++ part third) ++ 10 ∷ [])
spaced first second third = sym (append_assoc (first ++ second) (part third) (10 ∷ []) ∙ append_assoc first second (part third ++ 10 ∷ []))

pub returns-in-Yes : goal.returns-in-Yes
returns-in-Yes c =
    let h : IfOk c.format.result (λ s. string_bytes s ≡ (codes "yes " ++ (decimal c.in-Yes.eras ++ (32 ∷ (decimal c.in-Yes.frames ++ 10 ∷ []))))) = c.format.ensures.ok in
    subst (λ t. IfOk c.format.result (λ s. string_bytes s ≡ t)) (spaced (codes "yes ") (decimal c.in-Yes.eras) (decimal c.in-Yes.frames) ∙ sym (ap line_of c.in-Yes.is)) h

pub returns-in-No : goal.returns-in-No
returns-in-No c =
    let h : IfOk c.format-in-No.result (λ s. string_bytes s ≡ (codes "no " ++ (decimal c.in-No.frame ++ (32 ∷ (c.word-word.result.now ++ 10 ∷ []))))) = c.format-in-No.ensures.ok in
    subst (λ t. IfOk c.format-in-No.result (λ s. string_bytes s ≡ t))
    (spaced (codes "no ") (decimal c.in-No.frame) c.word-word.result.now
    ∙ ap (λ t. ((codes "no " ++ decimal c.in-No.frame) ++ part t) ++ 10 ∷ []) c.word-word.ensures
    ∙ sym (ap line_of c.in-No.is)) h
