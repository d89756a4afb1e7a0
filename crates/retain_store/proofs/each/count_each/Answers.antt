use Rattle.std.proofs.Common.{◌≡◌, ℕ, ◌+◌, Bool, true, false, not, Option, Some, None, refl, ap, arith, sym, ◌∙◌, is_none, is_some}
use Rattle.retain_store.specs.Maps.{octet_at}
use Rattle.retain_store.specs.working.BlockCells.{blocks_in}
use Rattle.retain_store.proofs.Counts.{count_most, counted_yes, counted_no}
use Rattle.retain_store.proofs.each.count_each.Goals as goal
use Rattle.retain_store.proofs.each.count_each.Goals.{then-none, else-none}

pub overflow_add-count : goal.overflow_add-count
overflow_add-count c = omega (
  arith,
  c.loop-index.invariant.counted,
  count_most (λ offset. is_none (octet_at (blocks_in c.args.pool.now c.args.chain.0) offset)) c.args.from c.loop-index.index,
)

-- the test, in the form of the code
none_asked : (b : Bool) (o : Option ℕ) → not b ≡ is_some o → b ≡ is_none o
none_asked true None e = refl
none_asked true (Some x) e = cc
none_asked false None e = cc
none_asked false (Some x) e = refl

pub loop-index-preserved : goal.loop-index-preserved
loop-index-preserved c =
    let test : ℕ → Bool = λ offset. is_none (octet_at (blocks_in c.args.pool.now c.args.chain.0) offset) in
    let held : c.is_none-none.result ≡ test (c.args.from + c.loop-index.index) =
    none_asked c.is_none-none.result c.look-octet.result.0 (sym c.is_none-none.ensures) ∙ (ap is_none c.look-octet.ensures.octet ∙ ap (λ k. test (c.args.from + k)) c.from.ensures) in
    record {
      near = c.look-octet.ensures.near;
      counted = elim c.if-none.branch [
        | then-none w ↦ w.count-is ∙ counted_yes test c.args.from _ _ c.loop-index.invariant.counted (sym held ∙ w.if-none.true)
        | else-none w ↦ w.count-is ∙ counted_no test c.args.from _ _ c.loop-index.invariant.counted (sym held ∙ w.if-none.false)
      ];
    }
