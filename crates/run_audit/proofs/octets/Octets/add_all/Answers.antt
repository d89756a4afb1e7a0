use Rattle.std.proofs.Common.{◌++◌, None, not, arith, sym, ap, ap₂, ◌∙◌, take-append-drop}
use Rattle.std.proofs.lemmas.Bool.{not-true, not-false}
use Rattle.run_audit.specs.working.KeptOctets.{kept_at, kept_with, some_stray}
use Rattle.run_audit.proofs.KeptOctets.{kept_on, stray_on, stray_front}
use Rattle.run_audit.proofs.octets.Octets.add_all.Goals as goal

pub returns-then-not-branch-clause-right : goal.returns-then-not-branch-clause-right
returns-then-not-branch-clause-right c =
    let parts = ap₂ ◌++◌ c.split_at.ensures.front c.split_at.ensures.back ∙ take-append-drop c.min.result c.loop-rest.rest.now in
    let strays = not-false _ (sym c.in_ok-add_run.ensures.right ∙ c.if-not-branch.true) in
    sym (ap not (sym c.loop-rest.invariant.right
    ∙ ap (some_stray (kept_at c.loop-rest.self) None c.loop-rest.start.raised) (sym parts)
    ∙ stray_front (kept_at c.loop-rest.self) c.loop-rest.start.raised c.split_at.result.0.now c.split_at.result.1.now strays))

pub loop-rest-preserved : goal.loop-rest-preserved
loop-rest-preserved c =
    let parts = ap₂ ◌++◌ c.split_at.ensures.front c.split_at.ensures.back ∙ take-append-drop c.min.result c.loop-rest.rest.now in
    let none = not-true _ (sym c.in_ok-add_run.ensures.right ∙ c.if-not-branch.false) in
    let kept = c.in_ok-add_run.ensures.kept c.if-not-branch.false in
    record {
      ahead = omega (arith, c.split_at.ensures.front_len, c.split_at.ensures.back_len, c.after-start.ensures, c.loop-rest.invariant.ahead);
      right = ap (λ n. some_stray (kept_at c.add_run.new.self) None n c.split_at.result.1.now) c.after-start.ensures
          ∙ stray_on (kept_at c.loop-rest.self) (kept_at c.add_run.new.self) c.loop-rest.start.raised c.split_at.result.0.now c.split_at.result.1.now kept none
          ∙ ap (some_stray (kept_at c.loop-rest.self) None c.loop-rest.start.raised) parts
          ∙ c.loop-rest.invariant.right;
      kept = λ raised. ap (λ n. kept_with (kept_at c.add_run.new.self) n c.split_at.result.1.now raised) c.after-start.ensures
          ∙ kept_on (kept_at c.loop-rest.self) (kept_at c.add_run.new.self) c.loop-rest.start.raised c.split_at.result.0.now c.split_at.result.1.now kept raised
          ∙ ap (λ xs. kept_with (kept_at c.loop-rest.self) c.loop-rest.start.raised xs raised) parts
          ∙ c.loop-rest.invariant.kept raised;
    }
