use Rattle.std.proofs.Common.{◌≡◌, ◌+◌, true, false, subst, sym, ◌∙◌, arith}
use Rattle.retain_store.specs.Maps.{Covers}
use Rattle.retain_store.specs.working.BlockCells.{blocks_in}
use Rattle.retain_store.proofs.Parts.{covers_then, covers_part}
use Rattle.retain_store.proofs.reads.covers_all.Goals as goal

pub loop-done-preserved : goal.loop-done-preserved
loop-done-preserved c =
    let blocks = blocks_in c.args.pool.now c.args.chain.0 in
    let done = c.loop-done.done in
    let size = c.piece_len-size.result in
    record {
      within = omega (arith, c.piece_len-size.ensures.within);
      near = c.covers_piece-covered.ensures.near;
      covered = covers_then blocks c.args.from done size c.loop-done.invariant.covered
          (subst (λ k. Covers blocks (c.args.from + k) size) c.from.ensures (c.covers_piece-covered.ensures.covers.0 c.if-not-covered.false));
    }

pub returns-then-not-covered : goal.returns-then-not-covered
returns-then-not-covered c =
    let blocks = blocks_in c.args.pool.now c.args.chain.0 in
    let size = c.piece_len-size.result in (
      (λ so. absurd (let f : false ≡ true = so in cc)),
      (λ covers.
          let part = covers_part blocks c.args.from c.args.len c.loop-done.done size (omega (arith, c.piece_len-size.ensures.within)) covers in
          let here = c.covers_piece-covered.ensures.covers.1 (subst (λ k. Covers blocks (c.args.from + k) size) (sym c.from.ensures) part) in
          let f : false ≡ true = sym c.if-not-covered.true ∙ here in
          cc),
    )
