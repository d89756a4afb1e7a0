use Rattle.std.proofs.Common.{◌-◌, ◌∙◌, ℕ, List, take, sym, ap, rules, arith}
use Rattle.std.specs.List.{copy_within}
use Rattle.std.proofs.lemmas.Result.{err_from_is_err_and}
use Rattle.run_view.proofs.Lining.{moved_front, refilled, took_few}
use Rattle.run_view.proofs.line.Lines.refill.Goals as goal

pub returns-clause-kept : goal.returns-clause-kept
returns-clause-kept g c =
    let lines = c.args.self.now in
    let count = lines.filled - lines.start in
    let moved =
    moved_front lines.buffer.value c.copy_within.new.self lines.start lines.filled (search rules) (search rules)
    (c.copy_within.ensures.after ∙ ap (λ (l : List ℕ). copy_within l lines.start lines.filled 0) c.deref_mut.ensures.value)
    ∙ ap (take count) (sym c.deref_mut-2.ensures.value) in
    refilled _ _ _ c.deref_mut-2.result.now c.read_full.new.buf _ count c.in_ok-more.more moved (search (rules, arith)) c.in_ok-more.ensures.octets.0
    c.in_ok-more.ensures.octets.1

pub returns-in_err-more-clause-unread : goal.returns-in_err-more-clause-unread
returns-in_err-more-clause-unread g c =
    let lines = c.args.self.now in
    let p = err_from_is_err_and c.from_residual.result c.from_residual.ensures.1 in
    rw p.1 (took_few lines.buffer.value lines.start lines.filled _ _ _ (search (rules, arith)) c.in_err-more.ensures.octets)
