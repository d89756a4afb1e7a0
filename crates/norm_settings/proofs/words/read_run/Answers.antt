use Rattle.std.proofs.Common.{◌≡◌, true, rules, ◌∙◌, map, string_bytes, inl, inr, ⊎_elim, Some}
use Rattle.std.proofs.lemmas.Result.{IfErr-weaker, IfOk-weaker}
use Rattle.norm_settings.specs.working.PlainLines.{plain_line}
use Rattle.norm_settings.specs.RunWords.{line_of}
use Rattle.norm_settings.proofs.Runs.{line_goes, asked_is}
use Rattle.norm_settings.specs.AskedCommand.{is_whole, go_together}
use Rattle.norm_settings.proofs.words.read_run.Goals as goal

pub returns-in-Ok-clause-ok : goal.returns-in-Ok-clause-ok
returns-in-Ok-clause-ok c =
    let line = plain_line c.in-Some.line in
    let whole : is_whole (plain_line c.in-Some.line) ≡ true = search rules in
    let is : line_of (map string_bytes c.args.words.now) ≡ Some line = search rules in
    IfOk-weaker c.run_found.result _ _
    (λ command h. asked_is (map string_bytes c.args.words.now) line is whole ∙ h line (c.in-Ok.ensures.ok line is whole))
    c.run_found.ensures.ok

pub returns-in-Ok-clause-together : goal.returns-in-Ok-clause-together
returns-in-Ok-clause-together c =
    let line = plain_line c.in-Some.line in
    let whole : is_whole (plain_line c.in-Some.line) ≡ true = search rules in
    let is : line_of (map string_bytes c.args.words.now) ≡ Some line = search rules in
    let together : go_together line.uses ≡ true = search rules in
    IfOk-weaker c.run_found.result _ _
    (λ command h. line_goes line command together (h line (c.in-Ok.ensures.ok line is whole)))
    c.run_found.ensures.ok

pub returns-in-Ok-clause-err : goal.returns-in-Ok-clause-err
returns-in-Ok-clause-err c =
    let line = plain_line c.in-Some.line in
    let whole : is_whole (plain_line c.in-Some.line) ≡ true = search rules in
    let is : line_of (map string_bytes c.args.words.now) ≡ Some line = search rules in
    IfErr-weaker c.run_found.result _ _
    (λ fault h. ⊎_elim (λ memory. inl memory) (λ e. inr (asked_is (map string_bytes c.args.words.now) line is whole ∙ e)) (h line (c.in-Ok.ensures.ok line is whole)))
    c.run_found.ensures.err

-- a whole line is refused only if memory could not be allocated
pub returns : goal.returns
returns c =
    let whole : is_whole (plain_line c.in-Some.line) ≡ true = search rules in
    let is : line_of (map string_bytes c.args.words.now) ≡ Some (plain_line c.in-Some.line) = search rules in
    let memory = c.in-Err.ensures.err (plain_line c.in-Some.line) is whole in
    absurd (c.in_default-kind.not-OutOfMemory (c.kind.ensures ∙ memory))
