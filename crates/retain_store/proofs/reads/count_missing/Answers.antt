use Rattle.std.proofs.Common.{◌≡◌, ℕ, ◌+◌, ◌/◌, Bool, not, ap, arith, sym, ◌∙◌}
use Rattle.retain_store.specs.Maps.{holds}
use Rattle.retain_store.specs.working.BlockCells.{blocks_in}
use Rattle.retain_store.proofs.Counts.{count_most, counted_yes, counted_no}
use Rattle.retain_store.proofs.reads.count_missing.Goals as goal
use Rattle.retain_store.proofs.reads.count_missing.Goals.{then-not-held, else-not-held}

pub overflow_add-count : goal.overflow_add-count
overflow_add-count c = omega (
  arith,
  c.loop-index.invariant.counted,
  count_most (λ n. not (holds (blocks_in c.args.pool.now c.args.chain.0) n)) (c.args.from / 256) c.loop-index.index,
)

pub loop-index-preserved : goal.loop-index-preserved
loop-index-preserved c =
    let first = c.args.from / 256 in
    let test : ℕ → Bool = λ n. not (holds (blocks_in c.args.pool.now c.args.chain.0) n) in
    let held : not c.look_up-held.result.0 ≡ test (first + c.loop-index.index) =
    ap not c.look_up-held.ensures.held ∙ ap (λ k. test (first + k)) c.from.ensures in
    record {
      near = c.look_up-held.ensures.near;
      counted = elim c.if-not-held.branch [
        | then-not-held w ↦ w.count-is ∙ counted_yes test first _ _ c.loop-index.invariant.counted (sym held ∙ ap not w.if-not-held.true)
        | else-not-held w ↦ w.count-is ∙ counted_no test first _ _ c.loop-index.invariant.counted (sym held ∙ ap not w.if-not-held.false)
      ];
    }
