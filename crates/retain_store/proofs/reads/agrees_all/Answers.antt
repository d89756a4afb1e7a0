use Rattle.std.proofs.Common.{◌≡◌, ◌+◌, true, false, sym, ◌∙◌, arith}
use Rattle.retain_store.specs.working.BlockCells.{blocks_in}
use Rattle.retain_store.proofs.Parts.{agrees_then, agrees_part}
use Rattle.retain_store.proofs.reads.agrees_all.Goals as goal

pub loop-done-preserved : goal.loop-done-preserved
loop-done-preserved c =
    let blocks = blocks_in c.args.pool.now c.args.chain.0 in
    let done = c.loop-done.done in
    let end = done + c.piece_len.result in
    record {
      within = omega (arith, c.piece_len.ensures.within);
      near = c.agrees_piece-agrees.ensures.near;
      agreed = agrees_then blocks c.args.from c.args.bytes.now done end (omega arith) (omega (arith, c.piece_len.ensures.within))
          c.loop-done.invariant.agreed (c.agrees_piece-agrees.ensures.agrees.0 c.if-not-agrees.false);
    }

pub returns-then-not-agrees : goal.returns-then-not-agrees
returns-then-not-agrees c =
    let blocks = blocks_in c.args.pool.now c.args.chain.0 in
    let done = c.loop-done.done in
    let end = done + c.piece_len.result in (
      (λ so. absurd (let f : false ≡ true = so in cc)),
      (λ agrees.
          let part = agrees_part blocks c.args.from c.args.bytes.now done end (omega arith) (omega (arith, c.piece_len.ensures.within)) agrees in
          let f : false ≡ true = sym c.if-not-agrees.true ∙ c.agrees_piece-agrees.ensures.agrees.1 part in
          cc),
    )
